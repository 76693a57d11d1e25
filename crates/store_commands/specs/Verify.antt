-- `verify -s STORE -r`. A name is its bytes; files are a folder's, where they are told.
use Rattle.std.specs.Prelude.{◌≡◌, ◌≢◌, ℕ, ◌≤◌, ◌==◌, if◌then◌else◌, Bool, List, [], ◌++◌}
use Rattle.std.specs.Prelude.{Option, Some, Result, Ok, Err}
use Rattle.std.specs.Option.{option_map}
use Rattle.chunk_store.specs.declared.id.DigestKind.{DigestKind}
use Rattle.command_outcome.specs.declared.outcome.Outcome.{Outcome}
use Rattle.command_outcome.specs.declared.outcome.Outcome.TheVariants as ends
use Rattle.command_worlds.specs.Steps.{◌>>=◌}
use Rattle.command_steps.specs.Stores.{StoreTaken}
use Rattle.command_worlds.specs.Worlds.{Adds, FolderRose, OnDisk, Step, World}
use Rattle.dsy_base.specs.Counts.{Rose}
use Rattle.dsy_base.specs.Maps.{Map, at_name}
use Rattle.store_check.specs.Verifying.{AreDamaged, Change, IsStoreChecked, StopsVerifying, damaged_left, left_of}
use Rattle.store_check.specs.Verifying.{text_of_damaged}
use Rattle.store_check.specs.declared.verify.StoreCheck.{StoreCheck}
use Rattle.store_check.specs.declared.verify.StoreCheck.TheVariants as checks

-- the answer where n damaged chunk files are left
abbrev pub answer_of_left : ℕ → Result Unit Outcome
answer_of_left n = if n == 0 then Ok tt else Err (ends.DamagedLeft n)

-- the outcome of the check
abbrev pub answer_of_verify : Result ℕ StoreCheck → Result Unit Outcome
answer_of_verify (Ok n) = answer_of_left n
answer_of_verify (Err checks.StoreFault) = Err (ends.StoreFault 0)
answer_of_verify (Err checks.OutFault) = Err ends.OutFault
answer_of_verify (Err checks.Memory) = Err ends.Memory

-- the folder, whose files were `held`, was given back, and its files and what was printed stand as P says
pub record VerifiedBack (q : List ℕ) (held : Option (Map (List ℕ))) (P : Change → Type 0) (w v : World) : Type 0 where
  pub files : Option (Map (List ℕ))
  pub back : v.disk.folders ≡ option_map (λ m. at_name m q files) w.disk.folders
  pub change : P (record { old = held; new = files; before = w.out.taken; taken = v.out.taken })

-- no number of faults has fallen, and files and the dialer are as before
pub record KeepsCounts (w v : World) : Type 0 where
  pub adds : Adds w.disk v.disk
  pub dial : v.dial ≡ w.dial
  pub out : w.out.faults ≤ v.out.faults

module _ (kind : DigestKind) (q : List ℕ) (repair : Bool) (held : Option (Map (List ℕ))) where
  abbrev pub NotVerified : World → World → Outcome → Type 0
  NotVerified w v (ends.DamagedLeft n) = (n ≢ 0) × VerifiedBack q held (IsStoreChecked kind repair n) w v
  NotVerified w v (ends.StoreFault k) =
      (k ≡ 0) × FolderRose w.disk v.disk q × VerifiedBack q held (StopsVerifying kind repair) w v
  NotVerified w v ends.OutFault =
      Rose w.out.faults v.out.faults × VerifiedBack q held (StopsVerifying kind repair) w v
  NotVerified w v ends.Memory = VerifiedBack q held (StopsVerifying kind repair) w v
  NotVerified w v other = ⊥

  -- no damaged chunk file is left
  abbrev pub StoreVerified : Step World Unit
  StoreVerified w (Ok u) v = VerifiedBack q held (IsStoreChecked kind repair 0) w v × KeepsCounts w v
  StoreVerified w (Err o) v = NotVerified w v o × KeepsCounts w v

-- the chunks of the store are named by a digest of this kind
abbrev pub VerifyEnds : DigestKind → List ℕ → Bool → Step World Unit
VerifyEnds kind store repair = do
  held ← OnDisk (StoreTaken [] store)
  StoreVerified kind store repair held

-- the store's folder, which was there, holds its files, with `repair` without the damaged chunk files; these are
-- printed, and none is left. No other folder has changed
pub record IsVerifiedStore (kind : DigestKind) (folders folders_after : Map (Map (List ℕ)))
    (before taken : Option (List ℕ)) (store : List ℕ) (repair : Bool) : Type 0 where
  pub held : Map (List ℕ)
  pub folder_was : folders store ≡ Some held
  pub damaged : List (List ℕ)
  pub all : AreDamaged kind held damaged
  pub folder_is : folders_after ≡ at_name folders store (left_of repair damaged (Some held))
  pub text : taken ≡ option_map (λ t. t ++ text_of_damaged repair damaged) before
  pub none : 0 ≡ damaged_left repair damaged
