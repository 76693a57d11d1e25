-- A folder that was taken, and given back with what it has counted.
use Rattle.std.proofs.Common.{◌≡◌, ◌≢◌, ◌==◌, ℕ, List, Bool, true, false, cond, Option, Some, None, IfSome, is_some, IfOk, OnErr, IsTrue, Result, Ok, Err, refl, sym, subst, ◌∙◌, arith, eq-eqb, eqb-true, true≢false}
use Rattle.std.specs.Option.{option_map}
use Rattle.std.specs.Map.{count_at}
use Rattle.chunk_store.specs.declared.id.DigestKind.{DigestKind}
use Rattle.command_outcome.specs.declared.outcome.Outcome.TheVariants as ends
use Rattle.command_steps.proofs.Numbers.{given_rose, rose_later}
use Rattle.command_worlds.specs.Worlds.{Adds, FolderRose, Reads, World}
use Rattle.store_commands.specs.Verify.{KeepsCounts, StoreVerified, VerifiedBack, answer_of_left, answer_of_verify}
use Rattle.dsy_base.specs.Counts.{Rose}
use Rattle.dsy_base.specs.Disk.{Disk, GivesFolder}
use Rattle.dsy_base.specs.Maps.{Map, at_name}
use Rattle.dsy_base.specs.declared.look.Look.{Ghosts as LookWords}
use Rattle.store_check.specs.Verifying.{Change, IsStoreChecked, StopsVerifying}
use Rattle.store_check.specs.declared.verify.StoreCheck.{StoreCheck}
use Rattle.store_check.specs.declared.verify.StoreCheck.TheVariants as checks

-- a fault of a folder that had counted none is one of its name
pub gives_rose : (d e : Disk) (q : List ℕ) (m n : ℕ) → GivesFolder d e q n → m ≡ 0 → Rose m n → FolderRose d e q
gives_rose d e q m n given none rose =
    given_rose (count_at d.folder_counts q) (count_at d.folder_counts q) (count_at e.folder_counts q) n (omega arith) given.folder_counts.added (subst (λ k. Rose k n) none rose)

pub reads_still : (d : Disk) → Reads d d
reads_still d = record { files = refl; folders = refl; counts = λ q. omega arith; folder_counts = λ q. omega arith; known = λ q is. is; folder_known = λ q is. is }

-- a look tells what the folder told where it was taken: neither tells where the disk doesn't
pub look_told : (folders : Option (Map (Map (List ℕ)))) (tells taken : Bool) (q : List ℕ) (held looked : Option (Map (List ℕ))) → is_some folders ≡ tells → is_some held ≡ taken → (IsTrue taken → IsTrue tells)
    → IfSome folders (λ m. (f : Map (List ℕ)) × (m q ≡ Some f) × (held ≡ Some f)) → IfSome folders (λ m. (f : Map (List ℕ)) × (m q ≡ Some f) × (looked ≡ Some f)) → IfSome held (λ m. looked ≡ Some m)
look_told None tells taken q None looked told is seen found sees = tt
look_told None tells taken q (Some f) looked told is seen found sees =
    let no : IsTrue tells = seen (sym is) in
    absurd (true≢false (sym (told ∙ no)))
look_told (Some m) tells taken q held looked told is seen (f, there, holds) (e, also, sees) = subst (λ (o : Option (Map (List ℕ))). IfSome o (λ n. looked ≡ Some n)) (sym holds) (sees ∙ sym also ∙ there)

-- the folder was given back over what was only read
pub folder_back : {F : Type 0} (look : LookWords F) (q name : List ℕ) (d e b : Disk) (folder : F) → name ≡ q → e.folders ≡ d.folders → b.folders ≡ option_map (λ m. at_name m name (look.files folder)) e.folders
    → b.folders ≡ option_map (λ m. at_name m q (look.files folder)) d.folders
folder_back look q name d e b folder named same given = given ∙ (λ i. option_map (λ m. at_name m (named i) (look.files folder)) (same i))

-- a disk that was read, and to which a folder was given back then
pub adds_later : (d e b : Disk) → Reads d e → Adds e b → Adds d b
adds_later d e b read adds = record {
  files = adds.files ∙ read.files;
  counts = λ p. omega (arith, read.counts p, adds.counts p);
  folder_counts = λ p. omega (arith, read.folder_counts p, adds.folder_counts p);
  known = λ p is. adds.known p (read.known p is);
  folder_known = λ p is. adds.folder_known p (read.folder_known p is);
}

-- a fault of the folder is one of its name, whatever was read before it was given back
pub gives_rose_later : (d e b : Disk) (q : List ℕ) (m n : ℕ) → Reads d e → GivesFolder e b q n → m ≡ 0 → Rose m n → FolderRose d b q
gives_rose_later d e b q m n read given none rose =
    rose_later (count_at d.folder_counts q) (count_at e.folder_counts q) (count_at b.folder_counts q) (read.folder_counts q) (gives_rose e b q m n given none rose)

module _ (kind : DigestKind) (q : List ℕ) (repair : Bool) (held : Option (Map (List ℕ))) (w v : World) (n : ℕ) (keeps : KeepsCounts w v) (back : VerifiedBack q held (IsStoreChecked kind repair n) w v) where
  left_by : (b : Bool) → (n == 0) ≡ b → StoreVerified kind q repair held w (cond b (Ok tt) (Err (ends.DamagedLeft n))) v
  left_by true e = (subst (λ k. VerifiedBack q held (IsStoreChecked kind repair k) w v) (eqb-true n 0 e) back, keeps)
  left_by false e =
      let some : n ≢ 0 = λ none. let both : true ≡ false = sym (eq-eqb n 0 none) ∙ e in absurd (cc) in
      ((some, back), keeps)

  -- the answer by how many are left
  pub left_ends : StoreVerified kind q repair held w (answer_of_left n) v
  left_ends = left_by (n == 0) refl

-- the outcome of a check, whose folder was given back
module _ (kind : DigestKind) (q : List ℕ) (repair : Bool) (held new : Option (Map (List ℕ))) (w v : World) (keeps : KeepsCounts w v) (back : v.disk.folders ≡ option_map (λ m. at_name m q new) w.disk.folders) where
  abbrev change : Change
  change = record { old = held; new = new; before = w.out.taken; taken = v.out.taken }

  pub outcome_ends : (r : Result ℕ StoreCheck) → IfOk r (λ n. IsStoreChecked kind repair n change) → OnErr r (StopsVerifying kind repair change) → (r ≡ Err checks.StoreFault → FolderRose w.disk v.disk q) → (r ≡ Err checks.OutFault → Rose w.out.faults v.out.faults)
      → StoreVerified kind q repair held w (answer_of_verify r) v
  outcome_ends (Ok n) all stops store out = left_ends kind q repair held w v n keeps (record { files = new; back = back; change = all })
  outcome_ends (Err checks.StoreFault) all stops store out = ((refl, store refl, record { files = new; back = back; change = stops }), keeps)
  outcome_ends (Err checks.OutFault) all stops store out = ((out refl, record { files = new; back = back; change = stops }), keeps)
  outcome_ends (Err checks.Memory) all stops store out = (record { files = new; back = back; change = stops }, keeps)
