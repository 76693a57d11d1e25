-- The calls on a shard as events of the core machine, which lead from its bytes t to u.
use Rattle.std.specs.Prelude.{ℕ, zero, suc, ◌+◌, List, [], ◌∷◌, ◌++◌, length, Bool, true, false, Result, Ok, Err}
use Rattle.dsy_base.specs.declared.fault.Failed.{Failed}
use Rattle.range_ledger.specs.Machine.{Event, LeadsTo, Put, Settle, Skip, Torn}
use Rattle.range_ledger.specs.Runs.{Run, Seen, extent_of, first_in, has_settled}

-- events lead from one shard to the next
abbrev pub Leads : Run → List Event → Seen → Seen → List ℕ → List ℕ → Type 0
Leads r es old new t u = LeadsTo (extent_of r old.number) es t (has_settled r old) u (has_settled r new)

-- putting a chunk into an entry: one Skip where it is settled, else one Put, or after a refusal one Torn
abbrev pub PutLeads : {A : Type 0} → Run → ℕ → List ℕ → Bool → Result A Failed → Seen → Seen → List ℕ → List ℕ → Type 0
PutLeads r e b true result old new t u = Leads r (Skip e ∷ []) old new t u
PutLeads r e b false (Ok x) old new t u = Leads r (Put e b ∷ []) old new t u
PutLeads r e b false (Err x) old new t u = (y : List ℕ) × Leads r (Torn e y ∷ []) old new t u

-- one Settle for each of the first k entries that is settled
abbrev pub settle_if : Bool → ℕ → List Event
settle_if true e = Settle e ∷ []
settle_if false e = []

-- one Settle for each of the first k entries that is settled
abbrev pub settles_below : Run → Seen → ℕ → List Event
settles_below r s zero = []
settles_below r s (suc k) =
    settles_below r s k ++ settle_if (has_settled r s (first_in r s.number + k)) (first_in r s.number + k)

-- a survey: one Settle for each entry that is settled after it
abbrev pub Surveys : Run → Seen → Seen → List ℕ → List ℕ → Type 0
Surveys r old new t u = Leads r (settles_below r new (length new.fates)) old new t u
