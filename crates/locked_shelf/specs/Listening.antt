-- Listeners, and how they change while connections are taken and given back.
use Rattle.std.specs.Prelude.{◌≡◌, ◌≢◌, ℕ, ◌+◌, ◌≤◌, ◌⊎◌, ◌++◌, Bool, true, false, List, [], length, drop, All}
use Rattle.std.specs.Prelude.{IfSome, Some}
use Rattle.std.specs.Option.{option_map}
use Rattle.dsy_base.specs.Counts.{Rose}
use Rattle.dsy_base.specs.Links.{LinkState, ListenState}
use Rattle.locked_shelf.specs.declared.serve_all.AllServed.{AllServed}
use Rattle.locked_shelf.specs.declared.serve_all.AllServed.TheVariants as all
use Rattle.locked_shelf.specs.declared.tally.Tally.{Tally}

-- how a connection has ended: well, or without memory to serve it
abbrev pub EndsAnyhow : (Bool → LinkState → Type 0) → LinkState → Type 0
EndsAnyhow ends l = ends false l ⊎ ends true l

-- the first of those that were to come were taken, and `gone` have ended. Unless there was no memory for one, `pending`
-- of those that were taken haven't ended, and the others have ended well
pub record IsServing (ends : Bool → LinkState → Type 0) (old new : ListenState) (pending : ℕ) (lacking : Bool) : Type 0
  where
    pub taken : ℕ
    pub coming : IfSome old.coming (λ queue. (taken ≤ length queue) × (new.coming ≡ Some (drop taken queue)))
    pub gone : List LinkState
    pub ended : new.ended ≡ option_map (λ done. done ++ gone) old.ended
    pub each : All (EndsAnyhow ends) gone
    pub well : lacking ≡ false → (pending + length gone ≡ taken) × All (ends false) gone
    pub faults : old.faults ≤ new.faults

-- connections were given back, as the tally then says, and nothing else of the listener has changed
pub record GivesBack (ends : Bool → LinkState → Type 0) (old new : ListenState) (was now : Tally) : Type 0 where
  pub back : (first : ListenState) → IsServing ends first old was.pending was.lacking
      → IsServing ends first new now.pending now.lacking
  pub coming : new.coming ≡ old.coming
  pub faults : new.faults ≡ old.faults
  pub few : now.pending ≤ was.pending

-- connections were taken and given back, as the tally says, until none came or a call has failed
pub record HasHeard
    (ends : Bool → LinkState → Type 0) (old new : ListenState) (served : AllServed) (tally : Tally) : Type 0 where
  pub heard : IsServing ends old new tally.pending tally.lacking
  pub end : served ≡ all.Ended → new.coming ≡ Some []
  pub cause : served ≡ all.ListenFault → Rose old.faults new.faults
  pub unfailed : served ≢ all.ListenFault → new.faults ≡ old.faults

-- as many have ended as were taken, and each of them well
pub record ServesAll (ends : Bool → LinkState → Type 0) (old new : ListenState) : Type 0 where
  pub taken : ℕ
  pub coming : IfSome old.coming (λ queue. (taken ≤ length queue) × (new.coming ≡ Some (drop taken queue)))
  pub gone : List LinkState
  pub ended : new.ended ≡ option_map (λ done. done ++ gone) old.ended
  pub number : length gone ≡ taken
  pub well : All (ends false) gone

-- some were taken, and those that have ended have ended well or without memory to serve them
pub record ServesSome (ends : Bool → LinkState → Type 0) (old new : ListenState) : Type 0 where
  pub taken : ℕ
  pub coming : IfSome old.coming (λ queue. (taken ≤ length queue) × (new.coming ≡ Some (drop taken queue)))
  pub gone : List LinkState
  pub ended : new.ended ≡ option_map (λ done. done ++ gone) old.ended
  pub each : All (EndsAnyhow ends) gone
