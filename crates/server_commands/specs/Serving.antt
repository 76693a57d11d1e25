-- Servers over a folder. Connections are taken in the order in which they come, and each is served to its end before
-- the next one is taken, whatever is asked for on them.
use Rattle.std.specs.Prelude.{◌≡◌, ℕ, ◌⊎◌, Bool, List, [], ◌∷◌, ◌++◌, Option, Some, IfSome, Result, Ok, Err}
use Rattle.std.specs.Map.{count_at}
use Rattle.std.specs.Option.{option_map}
use Rattle.command_outcome.specs.declared.outcome.Outcome.{Outcome}
use Rattle.command_outcome.specs.declared.outcome.Outcome.TheVariants as ends
use Rattle.command_steps.specs.Stores.{StoreTaken}
use Rattle.command_worlds.specs.Worlds.{Adds, Step}
use Rattle.dsy_base.specs.Counts.{Rose, raised}
use Rattle.dsy_base.specs.Disk.{Disk}
use Rattle.dsy_base.specs.Links.{LinkState, ListenState, Traffic}
use Rattle.dsy_base.specs.Maps.{Map, at_name}
use Rattle.dsy_base.specs.declared.fault.IoFault.{IoFault}
use Rattle.dsy_base.specs.declared.fault.IoFault.TheVariants as faults
use Rattle.http_serve.specs.Protocols.{Protocol}
use Rattle.http_serve.specs.Steps.{ServedState}
use Rattle.http_serve.specs.Turns.{Cut, Lacking, Served}

-- a listener before a command and after it, and whether no call on a folder fails, by the folder's type
pub record Heard : Type 0 where
  pub never_fails : Bool
  pub old : ListenState
  pub new : ListenState

abbrev pub heard : Bool → ListenState → ListenState → Heard
heard never_fails old new = record { never_fails = never_fails; old = old; new = new }

-- ---- connections

-- how a connection came and how it ended, and what is served from before it and after it
abbrev pub Serves : Type 0 → Type 1
Serves M = Traffic → ServedState M → LinkState → ServedState M → Type 0

-- a connection that came new, and on which the peer gave no other bytes than it had to give, has ended so
pub record ConnectionEnded (so : Traffic → ℕ → Type 0) (t : Traffic) (u : LinkState) : Type 0 where
  pub unread : t.received ≡ []
  pub unsent : t.sent ≡ []
  pub ended : Traffic
  pub told : u.traffic ≡ Some ended
  pub given : ended.received ++ ended.coming ≡ t.received ++ t.coming
  pub how : so ended u.faults

-- it was served to its end, or its count of faults rose and it was broken off
abbrev pub IsServed : {R M : Type 0} → Protocol R M → Serves M
IsServed p t old u new =
    ConnectionEnded (λ x failed. Served p t old x new ⊎ (Rose 0 failed × Cut p t old x new)) t u

-- there was no memory for it, and no call on it has failed
abbrev pub LacksMemory : {R M : Type 0} → Protocol R M → Serves M
LacksMemory p t old u new = ConnectionEnded (λ x failed. (failed ≡ 0) × Lacking p t old x new) t u

-- these connections came and ended so, each served from what the one before it left
unfoldable pub AreServed
    : {R M : Type 0} → Protocol R M → List Traffic → ServedState M → List LinkState → ServedState M → Type 0
AreServed p [] old [] new = new ≡ old
AreServed p [] old (u ∷ gone) new = ⊥
AreServed p (t ∷ came) old [] new = ⊥
AreServed {R} {M} p (t ∷ came) old (u ∷ gone) new =
    (next : ServedState M) × IsServed p t old u next × AreServed p came next gone new

-- ---- a listener

-- neither a connection was taken nor has one ended
pub record IsIdle (old new : ListenState) : Type 0 where
  pub coming : new.coming ≡ old.coming
  pub ended : new.ended ≡ old.ended

-- of the connections that were to come, `queue`, the first was taken, and it has ended behind those that had, `done`
pub record TakesOne {M : Type 0} (serves : Serves M) (queue : List Traffic) (done : List LinkState) (m : ListenState)
    (old new : ServedState M) : Type 0 where
  pub came : Traffic
  pub gone : LinkState
  pub rest : List Traffic
  pub were : queue ≡ came ∷ rest
  pub coming : m.coming ≡ Some rest
  pub ended : m.ended ≡ Some (done ++ gone ∷ [])
  pub served : serves came old gone new

abbrev pub Hears : {M : Type 0} → Serves M → ListenState → ListenState → ServedState M → ServedState M → Type 0
Hears serves l m old new =
    IfSome l.coming (λ queue. IfSome l.ended (λ done. TakesOne serves queue done m old new))

-- the first ones were taken and served, and no others
pub record TakesFront {R M : Type 0} (p : Protocol R M) (queue : List Traffic) (done : List LinkState) (m : ListenState)
    (old new : ServedState M) : Type 0 where
  pub came : List Traffic
  pub gone : List LinkState
  pub rest : List Traffic
  pub were : queue ≡ came ++ rest
  pub coming : m.coming ≡ Some rest
  pub ended : m.ended ≡ Some (done ++ gone)
  pub served : AreServed p came old gone new

abbrev pub Listens : {R M : Type 0} → Protocol R M → ListenState → ListenState → ServedState M → ServedState M → Type 0
Listens p l m old new = IfSome l.coming (λ queue. IfSome l.ended (λ done. TakesFront p queue done m old new))

-- and then there was no memory, for one more connection or without one
abbrev pub RunsOut : {R M : Type 0} → Protocol R M → ListenState → ListenState → ServedState M → ServedState M → Type 0
RunsOut {R} {M} p l m old new = Listens p l m old new
    ⊎ ((k : ListenState) × (mid : ServedState M) × Listens p l k old mid × Hears (LacksMemory p) k m mid new)

-- ---- the command

-- the answer after serving
abbrev pub answer_of_serving : Result Unit IoFault → Result Unit Outcome
answer_of_serving (Ok u) = Ok u
answer_of_serving (Err faults.Failed) = Err ends.ListenFault
answer_of_serving (Err faults.Memory) = Err ends.Memory

-- a folder that was taken
abbrev pub fresh : Option (Map (List ℕ)) → ServedState (Map (List ℕ))
fresh held = record { files = held; faults = 0 }

-- how a folder was served from, before and after
abbrev pub FolderServing : Type 1
FolderServing = ServedState (Map (List ℕ)) → ServedState (Map (List ℕ)) → Type 0

-- the folder, whose files were `held`, was given back as serving left it, with the faults that it has counted
pub record ServedBack (q : List ℕ) (held : Option (Map (List ℕ))) (Serving : FolderServing) (d e : Disk) : Type 0 where
  pub left : ServedState (Map (List ℕ))
  pub back : e.folders ≡ option_map (λ m. at_name m q left.files) d.folders
  pub counted : count_at e.folder_counts q ≡ raised (count_at d.folder_counts q) left.faults
  pub serving : Serving (fresh held) left

-- the folder was served so, or, if there was no memory, as the second says
module _ (h : Heard) (q : List ℕ) (held : Option (Map (List ℕ))) (served short : FolderServing) where
  abbrev pub NotServed : Disk → Disk → Outcome → Type 0
  NotServed d e ends.ListenFault = Rose h.old.faults h.new.faults × ServedBack q held served d e
  NotServed d e ends.Memory = ServedBack q held short d e
  NotServed d e other = ⊥

  -- it is done where no more connections come
  abbrev pub FolderServed : Step Disk Unit
  FolderServed d (Ok u) e = ((h.new.coming ≡ Some []) × ServedBack q held served d e) × Adds d e
  FolderServed d (Err o) e = NotServed d e o × Adds d e

-- where the folder isn't reached, nobody is heard
abbrev pub TakenUnheard : Heard → List ℕ → Step Disk (Option (Map (List ℕ)))
TakenUnheard h q d (Ok held) e = StoreTaken [] q d (Ok held) e
TakenUnheard h q d (Err o) e = StoreTaken [] q d (Err o) e × (h.new ≡ h.old)

-- each connection was served to its end by this protocol before the next was taken
abbrev pub ServesInTurn : {R : Type 0} → Protocol R (Map (List ℕ)) → Heard → FolderServing
ServesInTurn p h old new = Listens p h.old h.new old new

-- and how, if there was no memory: then no call on the listener has failed
abbrev pub ServesInTurnShort : {R : Type 0} → Protocol R (Map (List ℕ)) → Heard → FolderServing
ServesInTurnShort p h old new = RunsOut p h.old h.new old new × (h.new.faults ≡ h.old.faults)
