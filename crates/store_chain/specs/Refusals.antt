-- What stores tell where they give no chunk. A pair is a store before a call and after it.
use Rattle.std.specs.Prelude.{◌≡◌, ◌⊎◌, ℕ, ◌+◌, nat_lt, if◌then◌else◌, List, Bool, true, false, Result, Ok, Err, IsTrue}
use Rattle.std.specs.Prelude.{All}
use Rattle.std.specs.List.{zip}
use Rattle.chunk_store.specs.Said.{Said}
use Rattle.chunk_store.specs.declared.shows.Shows.{Shows}
use Rattle.chunk_store.specs.declared.shows.Shows.TheVariants as shows
use Rattle.chunk_store.specs.declared.store.Giver.{Giver}
use Rattle.dsy_base.specs.Counts.{Rose}
use Rattle.store_chain.specs.Lists.{FirstAt}
use Rattle.store_chain.specs.Queries.{ShowsElse}
use Rattle.store_chain.specs.declared.refused.HasFault.{HasFault}
use Rattle.store_chain.specs.declared.refused.HasFault.TheVariants as has
use Rattle.store_chain.specs.declared.refused.Refused.{Refused}
use Rattle.store_chain.specs.declared.refused.Refused.TheVariants as refused
use Rattle.store_chain.specs.declared.query.Query.{Query}

-- how grave a refusal is, and the graver of two: the first where they are equally grave
abbrev pub rank : Refused → ℕ
rank refused.Missing = 0
rank (refused.Damaged s x) = 1
rank (refused.StoreFault s) = 2
rank refused.Memory = 3

-- the graver of two refusals, and of equally grave ones the first
abbrev pub graver : Refused → Refused → Refused
graver a b = if nat_lt (rank a) (rank b) then b else a

-- what stores answer of which the first has a fault, and the rest answer so: the first that failed is named
abbrev pub has_after : HasFault → Result Bool HasFault → Result Bool HasFault
has_after fault (Ok true) = Ok true
has_after fault (Ok false) = Err fault
has_after fault (Err (has.StoreFault s)) = Err fault
has_after fault (Err has.Memory) = Err has.Memory

-- a store has shown under the id bytes that show this, or more bytes than were lent
abbrev pub HasShown : Query → Shows → Said → Type 0
HasShown w shows.Longer s = s.longer w.id.0 w.lent
HasShown w (shows.Digest x) s = (b : List ℕ) × s.shown w.id.0 b × ShowsElse w b (shows.Digest x)
HasShown w (shows.Length n) s = (b : List ℕ) × s.shown w.id.0 b × ShowsElse w b (shows.Length n)

-- the store of this number in a group has shown it
abbrev pub HasShownBy : ℕ → Query → Shows → Said → Type 0
HasShownBy k w shows.Longer s = s.longer_by k w.id.0 w.lent
HasShownBy k w (shows.Digest x) s = (b : List ℕ) × s.shown_by k w.id.0 b × ShowsElse w b (shows.Digest x)
HasShownBy k w (shows.Length n) s = (b : List ℕ) × s.shown_by k w.id.0 b × ShowsElse w b (shows.Length n)

-- a store has denied the id, or has shown something else under it
abbrev pub Lacks : Query → Said → Type 0
Lacks w s = s.denied w.id.0 ⊎ ((x : Shows) × HasShown w x s)

-- the store of a pair has failed in the call; it hasn't, since its count is as it was
abbrev pub Failed : {S : Type 0} → (S → ℕ) → S × S → Type 0
Failed faults p = Rose (faults p.0) (faults p.1)

-- the store's count of faults is as it was
abbrev pub Unfailed : {S : Type 0} → (S → ℕ) → S × S → Type 0
Unfailed faults p = faults p.1 ≡ faults p.0

module _ {S : Type 0} (said : S → Said) (faults : S → ℕ) (lacks_memory : Bool) (w : Query) where
  -- the store of the pair has denied the id; has shown this under it; lacks the chunk
  abbrev pub Denied : S × S → Type 0
  Denied p = (said p.1).denied w.id.0

  -- the store has shown what x says, and the one that answered for it has
  abbrev pub Showed : Giver → Shows → S × S → Type 0
  Showed s x p = HasShown w x (said p.1) × HasShownBy s.member w x (said p.1)

  -- the store lacks the chunk
  abbrev pub Lacked : S × S → Type 0
  Lacked p = Lacks w (said p.1)

  -- it had no memory, and didn't fail
  abbrev pub NoMemory : S × S → Type 0
  NoMemory p = IsTrue lacks_memory × Unfailed faults p

  -- one store, which has this number, refused so
  abbrev pub Tells : ℕ → S → S → Refused → Type 0
  Tells number old new refused.Missing = Denied (old, new)
  Tells number old new (refused.Damaged s x) = (s.number ≡ number) × Showed s x (old, new)
  Tells number old new (refused.StoreFault s) = (s ≡ number) × Failed faults (old, new)
  Tells number old new refused.Memory = NoMemory (old, new)

  -- a store before the one that gave: it lacks the chunk, or failed, or had no memory
  abbrev pub PassedOver : S × S → Type 0
  PassedOver p = Lacked p ⊎ (Failed faults p ⊎ NoMemory p)

  -- one of the stores has shown the bytes under the id, each before it was passed, and each after it is as before
  abbrev pub GivenBy : List ℕ → List S → List S → Type 0
  GivenBy b old new = (k : ℕ) × FirstAt PassedOver (λ p. (said p.1).shown w.id.0 b) (λ p. p.1 ≡ p.0) k (zip old new)

  -- a store that failed, or lacks the chunk
  abbrev pub LackedOrFailed : S × S → Type 0
  LackedOrFailed p = Lacked p ⊎ Failed faults p

  -- the stores refused so: all have denied the id; or this is the first that has shown something under it, and all lack
  -- the chunk; or this is the first that failed, and all others lack the chunk or failed too; or one had no memory, and
  -- each other lacks the chunk, failed, or had none either
  abbrev pub Refuses : List S → List S → Refused → Type 0
  Refuses old new refused.Missing = All Denied (zip old new)
  Refuses old new (refused.Damaged s x) = FirstAt Denied (Showed s x) Lacked s.number (zip old new)
  Refuses old new (refused.StoreFault s) = FirstAt Lacked (Failed faults) LackedOrFailed s (zip old new)
  Refuses old new refused.Memory = (k : ℕ) × FirstAt LackedOrFailed NoMemory PassedOver k (zip old new)

  -- so it is where the first of the stores has this number
  abbrev pub RefusesFrom : ℕ → List S → List S → Refused → Type 0
  RefusesFrom from old new refused.Missing = All Denied (zip old new)
  RefusesFrom from old new (refused.Damaged s x) =
      (k : ℕ) × (s.number ≡ from + k) × FirstAt Denied (Showed s x) Lacked k (zip old new)
  RefusesFrom from old new (refused.StoreFault s) =
      (k : ℕ) × (s ≡ from + k) × FirstAt Lacked (Failed faults) LackedOrFailed k (zip old new)
  RefusesFrom from old new refused.Memory = IsTrue lacks_memory × Refuses old new refused.Memory

-- the same of the answers of `has` for an id
module _ {S : Type 0} (said : S → Said) (faults : S → ℕ) (id : List ℕ) where
  -- the store of the pair has denied the id; it has, or it failed
  abbrev pub HasDenied : S × S → Type 0
  HasDenied p = (said p.1).denied id

  -- the store has denied the id, or failed
  abbrev pub DeniedOrFailed : S × S → Type 0
  DeniedOrFailed p = HasDenied p ⊎ Failed faults p

  -- the stores answered so: this is the first that failed, and all others have denied the id or failed too; or one had
  -- no memory, and didn't fail, and each other has denied the id, failed, or had none either
  abbrev pub HasFails : List S → List S → HasFault → Type 0
  HasFails old new (has.StoreFault s) = FirstAt HasDenied (Failed faults) DeniedOrFailed s (zip old new)
  HasFails old new has.Memory =
      (k : ℕ) × FirstAt DeniedOrFailed (Unfailed faults) (λ p. DeniedOrFailed p ⊎ Unfailed faults p) k (zip old new)

  -- one store, which has this number, answered so, and stores of which the first has it
  abbrev pub HasTells : Bool → ℕ → S → S → HasFault → Type 0
  HasTells lacks_memory number old new (has.StoreFault s) = (s ≡ number) × Failed faults (old, new)
  HasTells lacks_memory number old new has.Memory = IsTrue lacks_memory × Unfailed faults (old, new)

  -- `HasFails` for stores that are numbered from `from` on
  abbrev pub HasFailsFrom : Bool → ℕ → List S → List S → HasFault → Type 0
  HasFailsFrom lacks_memory from old new (has.StoreFault s) =
      (k : ℕ) × (s ≡ from + k) × FirstAt HasDenied (Failed faults) DeniedOrFailed k (zip old new)
  HasFailsFrom lacks_memory from old new has.Memory = IsTrue lacks_memory × HasFails old new has.Memory
