-- What the commands over one folder answer and leave where nothing fails: `verify` and `prune`.
use Rattle.std.proofs.Common.{ap, cond, ◌≡◌, ◌≢◌, ◌∙◌, ℕ, Bool, IsTrue, List, [], ◌++◌, Option, Some, None, refl, sym, inl, inr, Result, Ok, Err}
use Rattle.std.proofs.lemmas.Bool.{ne_eqb}
use Rattle.std.specs.Option.{option_map}
use Rattle.caibx_codec.specs.Listing.{Listing}
use Rattle.chunk_store.specs.declared.id.DigestKind.{DigestKind}
use Rattle.command_outcome.specs.declared.outcome.Outcome.{Outcome}
use Rattle.command_outcome.specs.declared.outcome.Outcome.TheVariants as ends
use Rattle.command_steps.proofs.Numbers.{rose_not_quiet}
use Rattle.command_steps.proofs.Taken.{at_name_twice}
use Rattle.command_indexes.specs.Places.{are_files}
use Rattle.command_steps.specs.Stores.{StoreTaken}
use Rattle.command_worlds.specs.Steps.{◌>>=◌, answer_of, outcome_of}
use Rattle.command_worlds.specs.Worlds.{OnDisk, World}
use Rattle.desync_cli.proofs.Readings.{EndsSo, IsAt, IsQuiet, at_first, folder_unrisen, indexes_got_so, taken_so}
use Rattle.desync_cli.specs.Contents.{Contents, Ending, HasContents, folder_at, indexes_at, with_folder}
use Rattle.desync_cli.specs.Exact.{Verifies}
use Rattle.dsy_base.specs.Maps.{Map, at_name}
use Rattle.store_commands.specs.Prune.{PruneEnds, StorePruned}
use Rattle.store_commands.specs.Verify.{StoreVerified, VerifiedBack, VerifyEnds, answer_of_left}
use Rattle.verify_tool.specs.Pruning.{is_listed_in, pruned}
use Rattle.store_check.specs.Verifying.{IsStoreChecked, left_of, text_of_damaged}

-- the folder of this name isn't there while it is taken
abbrev pub taken_from : Contents → List ℕ → Contents
taken_from x q = record x { folders = at_name x.folders q None }

-- what stands among the folders once it was given back
pub given_back : (x : Contents) (q : List ℕ) (y z : Option (Map (Map (List ℕ)))) (f : Option (Map (List ℕ))) → y ≡ Some (at_name x.folders q None) → z ≡ option_map (λ m. at_name m q f) y → z ≡ Some (at_name x.folders q f)
given_back x q y z f was is = is ∙ ap (option_map (λ m. at_name m q f)) was ∙ ap Some (at_name_twice x.folders q None f)

module _ (x : Contents) (w v : World) (quiet : IsQuiet w v) where
  -- ---- `prune`

  pruned_so : (keeps : List ℕ → Bool) (q : List ℕ) (f : Map (List ℕ)) (u : World) → IsAt (taken_from x q) w u → (r : Result Unit Outcome) → OnDisk (StorePruned keeps q (Some f)) u r v
      → EndsSo x v (λ x o y. (o ≡ ends.Done) × (y ≡ with_folder x q (pruned keeps f))) (outcome_of r)
  pruned_so keeps q f u at (Ok _) h = inr (
    with_folder x q (pruned keeps f),
    record {
      files = h.0.1.files ∙ at.has.files;
      folders = given_back x q u.disk.folders v.disk.folders (Some (pruned keeps f)) at.has.folders (h.0.0.back ∙ ap (λ g. option_map (λ m. at_name m q g) u.disk.folders) h.0.0.change);
      printed = ap (λ o. o.taken) h.2 ∙ at.has.printed;
    },
    (refl, refl),
  )
  pruned_so keeps q f u at (Err (ends.StoreFault k)) h = absurd (folder_unrisen (taken_from x q) w u v at quiet q h.0.0.1)
  pruned_so keeps q f u at (Err ends.Memory) h = inl refl
  pruned_so keeps q f u at (Err other) h = absurd h.0.0

  -- how it ends with these indexes
  abbrev Prunes : List ℕ → List Listing → Map (List ℕ) → Ending
  Prunes q ls f x o y = (o ≡ ends.Done) × (y ≡ with_folder x q (pruned (is_listed_in ls) f))

  pub prunes_so : (store : List ℕ) (indexes : List (List ℕ)) → IsTrue (are_files indexes) → HasContents w x → (r : Result Unit Outcome) → PruneEnds store indexes w r v
      → EndsSo x v (indexes_at 0 indexes (λ ls. folder_at store (Prunes store ls))) (outcome_of r)
  prunes_so store indexes files has = indexes_got_so x w v quiet indexes files (λ ls. folder_at store (Prunes store ls)) (λ ls. OnDisk (StoreTaken [] store) >>= (λ held. OnDisk (StorePruned (is_listed_in ls) store held)))
      (λ ls e at. taken_so x w v quiet [] store (Prunes store ls) (λ held. OnDisk (StorePruned (is_listed_in ls) store held)) (λ f u there after. pruned_so (is_listed_in ls) store f u after) e at)
      w (at_first x w has)

  -- ---- `verify`

  verified_as : (kind : DigestKind) (q : List ℕ) (repair : Bool) (f : Map (List ℕ)) (n : ℕ) (o : Outcome) (u : World) → IsAt (taken_from x q) w u → answer_of o ≡ answer_of_left n → VerifiedBack q (Some f) (IsStoreChecked kind repair n) u v → v.disk.files ≡ u.disk.files → EndsSo x v (Verifies kind q repair f) o
  verified_as kind q repair f n o u at is h files =
      let told = h.change in
      let y : Contents = record { files = x.files; folders = at_name x.folders q (left_of repair told.damaged (Some f)); printed = x.printed ++ text_of_damaged repair told.damaged } in
      inr (
        y,
        record {
          files = files ∙ at.has.files;
          folders = given_back x q u.disk.folders v.disk.folders (left_of repair told.damaged (Some f)) at.has.folders (h.back ∙ ap (λ g. option_map (λ m. at_name m q g) u.disk.folders) told.told.files);
          printed = told.told.text ∙ ap (option_map (λ t. t ++ text_of_damaged repair told.damaged)) at.has.printed;
        },
        (told.damaged, told.all, is ∙ ap answer_of_left told.left, refl),
      )

  verified_so : (kind : DigestKind) (q : List ℕ) (repair : Bool) (f : Map (List ℕ)) (u : World) → IsAt (taken_from x q) w u → (r : Result Unit Outcome) → StoreVerified kind q repair (Some f) u r v → EndsSo x v (Verifies kind q repair f) (outcome_of r)
  verified_so kind q repair f u at (Ok _) h = verified_as kind q repair f 0 ends.Done u at refl h.0 h.1.adds.files
  verified_so kind q repair f u at (Err (ends.DamagedLeft n)) h = verified_as kind q repair f n (ends.DamagedLeft n) u at (left_some n h.0.0) h.0.1 h.1.adds.files where
    left_some : (n : ℕ) → n ≢ 0 → answer_of (ends.DamagedLeft n) ≡ answer_of_left n
    left_some n some = ap (λ b. cond b (Ok tt) (Err (ends.DamagedLeft n))) (sym (ne_eqb n 0 some))
  verified_so kind q repair f u at (Err (ends.StoreFault k)) h = absurd (folder_unrisen (taken_from x q) w u v at quiet q h.0.1)
  verified_so kind q repair f u at (Err ends.OutFault) h = absurd (rose_not_quiet w.out.faults u.out.faults v.out.faults at.out h.0.0 quiet.out)
  verified_so kind q repair f u at (Err ends.Memory) h = inl refl
  verified_so kind q repair f u at (Err other) h = absurd h.0

  pub verifies_so : (kind : DigestKind) (store : List ℕ) (repair : Bool) → HasContents w x → (r : Result Unit Outcome) → VerifyEnds kind store repair w r v → EndsSo x v (folder_at store (Verifies kind store repair)) (outcome_of r)
  verifies_so kind store repair has = taken_so x w v quiet [] store (Verifies kind store repair) (StoreVerified kind store repair) (λ f u there after. verified_so kind store repair f u after) w (at_first x w has)
