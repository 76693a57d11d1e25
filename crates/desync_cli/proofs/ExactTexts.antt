-- What the commands that only read and print answer where nothing fails.
use Rattle.std.proofs.Common.{Bool, ap, ◌⊎◌, ◌≡◌, ◌∙◌, ℕ, ◌<◌, List, [], ◌∷◌, ◌++◌, length, map, Option, Some, None, IfSome, IsTrue, refl, subst, sym, inl, inr, Result, Ok, Err, arith}
use Rattle.std.specs.List.{All}
use Rattle.std.specs.Option.{option_map}
use Rattle.caibx_codec.specs.Listing.{Listing, id_of}
use Rattle.chunk_store.specs.Folders.{chunks}
use Rattle.chunk_store.specs.declared.id.DigestKind.{DigestKind}
use Rattle.command_outcome.specs.declared.outcome.Outcome.{Outcome}
use Rattle.command_outcome.specs.declared.outcome.Outcome.TheVariants as ends
use Rattle.command_steps.proofs.Numbers.{rose_not_quiet}
use Rattle.command_indexes.specs.Places.{is_file}
use Rattle.command_steps.specs.InputFiles.{ImageOpened}
use Rattle.command_steps.specs.Sources.{IsThere, OnStorage, storage_of}
use Rattle.command_steps.specs.Stores.{are_folders}
use Rattle.command_words.specs.declared.command.Location.{Location}
use Rattle.command_worlds.specs.Printing.{Printed}
use Rattle.command_worlds.specs.Steps.{◌>>=◌, outcome_of}
use Rattle.command_worlds.specs.Worlds.{OnDisk, OnOut, Pure, World}
use Rattle.command_groups.specs.Groups.{group_files, stores_of}
use Rattle.desync_cli.proofs.Grouped.{AreTelling, none_failed_first, tells_first}
use Rattle.desync_cli.proofs.Readings.{EndsSo, IsAt, IsQuiet, at_first, at_read, bound_so, ends_as, file_unrisen, folder_unrisen, folders_there, folders_unreached, image_so, index_so}
use Rattle.desync_cli.specs.Contents.{Contents, Ending, HasContents, PrintsText, folders_at, image_at, index_at, with_text}
use Rattle.desync_cli.specs.Exact.{Demonstrates, IsCompared, firsts_of, in_stores}
use Rattle.dsy_base.specs.Maps.{Map}
use Rattle.image_demo.specs.Figures.{text_of_figures}
use Rattle.print_commands.specs.Demo.{DemoEnds, Rehearsed}
use Rattle.print_commands.specs.ListChunks.{ListChunksEnds}
use Rattle.store_commands.specs.Info.{CountedInStores, IdsCounted, InfoEnds, NotCounted}
use Rattle.store_commands.specs.VerifyIndex.{Checked, ImageChecked, VerifyIndexEnds}
use Rattle.verify_tool.specs.Counts.{held_count}
use Rattle.verify_tool.specs.Texts.{text_of_chunks, text_of_info}

module _ (x : Contents) (w v : World) (quiet : IsQuiet w v) where
  pub prints_so : (text : List ℕ) (u : World) → IsAt x w u → (r : Result Unit Outcome) → OnOut (Printed text) u r v → EndsSo x v (PrintsText text) (outcome_of r)
  prints_so text u at (Ok t) h = inr (
    with_text x text,
    record {
      files = ap (λ d. d.files) h.1 ∙ at.has.files;
      folders = ap (λ d. d.folders) h.1 ∙ at.has.folders;
      printed = h.0.0 ∙ ap (option_map (λ t. t ++ text)) at.has.printed;
    },
    (refl, refl),
  )
  prints_so text u at (Err ends.OutFault) h = absurd (rose_not_quiet w.out.faults u.out.faults v.out.faults at.out h.0.0.0 quiet.out)
  prints_so text u at (Err ends.Memory) h = inl refl
  prints_so text u at (Err other) h = absurd h.0.0

  pub lists_so : (index : List ℕ) → IsTrue (is_file index) → HasContents w x → (r : Result Unit Outcome) → ListChunksEnds index w r v → EndsSo x v (index_at index (λ l. PrintsText (text_of_chunks l))) (outcome_of r)
  lists_so index file has = index_so x w v quiet index file (λ l. PrintsText (text_of_chunks l)) (λ l. OnOut (Printed (text_of_chunks l))) (λ l e at is. prints_so (text_of_chunks l) e at) w (at_first x w has)

  -- ---- `verify-index`

  compared : (image : List ℕ) (l : Listing) (t : List ℕ) (u : World) → IsAt x w u → (o : Outcome) → Checked u.disk v.disk image l (Some t) (Err o) → (o ≡ ends.Memory) ⊎ IsCompared l t o
  compared image l t u at (ends.Length n) h = inr (h.1, λ same. h.0 (h.1 ∙ same))
  compared image l t u at (ends.Mismatch k got) h = inr (h.2.0, h.2.1)
  compared image l t u at ends.ImageFault h = absurd (file_unrisen x w u v at quiet image h)
  compared image l t u at ends.Memory h = inl refl
  compared image l t u at other h = absurd h

  checked_so : (image : List ℕ) (l : Listing) (t : List ℕ) (u : World) → IsAt x w u → (r : Result Unit Outcome) → OnDisk (ImageChecked image l (Some t)) u r v → EndsSo x v (λ x o y. IsCompared l t o × (y ≡ x)) (outcome_of r)
  checked_so image l t u at (Ok _) h = inr (x, (at_read x w u v at h.0.1 h.2).has, (h.0.0, refl))
  checked_so image l t u at (Err o) h = elim (compared image l t u at o h.0.0) [
    | inl none ↦ inl none
    | inr so ↦ inr (x, (at_read x w u v at h.0.1 h.2).has, (so, refl))
  ]

  pub verifies_index_so : (index image : List ℕ) → IsTrue (is_file index) → HasContents w x → (r : Result Unit Outcome) → VerifyIndexEnds index image w r v
      → EndsSo x v (index_at index (λ l. image_at image (λ t. λ x o y. IsCompared l t o × (y ≡ x)))) (outcome_of r)
  verifies_index_so index image file has = index_so x w v quiet index file (λ l. image_at image (λ t. λ x o y. IsCompared l t o × (y ≡ x))) (λ l. OnDisk (ImageOpened image) >>= (λ told. OnDisk (ImageChecked image l told)))
      (λ l e at is. image_so x w v quiet image (λ t. λ x o y. IsCompared l t o × (y ≡ x)) (λ told. OnDisk (ImageChecked image l told)) (λ t. checked_so image l t) e at)
      w (at_first x w has)

  -- ---- `info`

  uncounted : (l : Listing) (sure : Bool) (groups : List (List Location)) (retries : ℕ) → AreTelling sure groups → IsTrue (are_folders (stores_of groups)) → (u : World) → IsAt x w u → (o : Outcome) → NotCounted retries (storage_of u) (storage_of v) groups l o → (o ≡ ends.Memory) ⊎ ((next : List (Map (List ℕ)) → Ending) → folders_at (stores_of groups) next x o x)
  uncounted l sure groups retries telling all u at o (inl first) = folders_unreached x u.disk v.disk at.has.folders (folder_unrisen x w u v at quiet) (stores_of groups) o all first
  uncounted l sure groups retries telling all u at (ends.StoreFault s) (inr h) = absurd (none_failed_first (λ y. y.denied (id_of l h.1.0)) retries (storage_of u) (storage_of v) (folder_unrisen x w u v at quiet) s groups telling.have all h.1.2)
  uncounted l sure groups retries telling all u at ends.Memory (inr h) = inl refl
  uncounted l sure groups retries telling all u at other (inr h) = absurd h

  count_is : (l : Listing) (n : ℕ) (sure : Bool) (m : Map (Map (List ℕ))) (groups : List (List Location)) (fs : List (Map (List ℕ))) → map (group_files sure m) groups ≡ map Some fs → 0 < length groups → n ≡ held_count l (map chunks fs) → in_stores l (map chunks fs) ≡ Some n
  count_is l n sure m [] fs are some is = absurd (omega (arith, some))
  count_is l n sure m (g ∷ groups) [] are some is = absurd (cc)
  count_is l n sure m (g ∷ groups) (f ∷ fs) are some is = ap Some (sym is)

  -- what is printed of the stores, where some are named
  abbrev Informs : Listing → List (List Location) → List (Map (List ℕ)) → Ending
  Informs l groups fs = PrintsText (text_of_info l (in_stores l (map chunks (firsts_of groups fs))))

  counted_so : (l : Listing) (sure : Bool) (groups : List (List Location)) (retries : ℕ) → AreTelling sure groups → IsTrue (are_folders (stores_of groups)) → (u e : World) → IsAt x w u → IsAt x w e → (n : Option ℕ) → CountedInStores sure retries (storage_of u) (storage_of e) groups l (Ok n)
      → (r : Result Unit Outcome) → OnOut (Printed (text_of_info l n)) e r v → EndsSo x v (folders_at (stores_of groups) (Informs l groups)) (outcome_of r)
  counted_so l sure [] retries telling all u e at after None h r rest = prints_so (text_of_info l None) e after r rest
  counted_so l sure (g ∷ groups) retries telling all u e at after None h r rest = absurd (cc)
  counted_so l sure groups retries telling all u e at after (Some n) h r rest =
      let there : All (IsThere x.folders) (stores_of groups) = subst (λ f. IfSome f (λ m. All (IsThere m) (stores_of groups))) at.has.folders h.1.there in
      let fs = folders_there x (stores_of groups) all there in
      let firsts = firsts_of groups fs.0 in
      let are = tells_first sure x.folders groups fs.0 telling fs.1 in
      let counts : (fs : List (Map (List ℕ))) → map (group_files sure x.folders) groups ≡ map Some fs → n ≡ held_count l (map chunks fs) =
      subst (λ f. IfSome f (λ m. (fs : List (Map (List ℕ))) → map (group_files sure m) groups ≡ map Some fs → n ≡ held_count l (map chunks fs))) at.has.folders h.1.counts in
      let is : in_stores l (map chunks firsts) ≡ Some n = count_is l n sure x.folders groups firsts are h.0 (counts firsts are) in
      ends_as x v (PrintsText (text_of_info l (Some n))) (folders_at (stores_of groups) (Informs l groups)) (outcome_of r)
      (λ y so. fs.2 (Informs l groups) (outcome_of r) y (subst (λ o. PrintsText (text_of_info l o) x (outcome_of r) y) (sym is) so))
      (prints_so (text_of_info l (Some n)) e after r rest)

  informs_so : (l : Listing) (sure : Bool) (groups : List (List Location)) (retries : ℕ) → AreTelling sure groups → IsTrue (are_folders (stores_of groups)) → (u : World) → IsAt x w u → (r : Result Unit Outcome) → (OnStorage (IdsCounted sure groups retries l) >>= (λ n. OnOut (Printed (text_of_info l n)))) u r v
      → EndsSo x v (folders_at (stores_of groups) (Informs l groups)) (outcome_of r)
  informs_so l sure groups retries telling all u at = bound_so (OnStorage (IdsCounted sure groups retries l)) (λ n. OnOut (Printed (text_of_info l n))) (EndsSo x v (folders_at (stores_of groups) (Informs l groups))) u v
      (λ o h. elim (uncounted l sure groups retries telling all u at o h.0.0) [
        | inl none ↦ inl none
        | inr ends ↦ inr (x, (at_read x w u v at h.0.1.0.disk h.1).has, ends (Informs l groups))
      ])
      (λ n e r h rest. counted_so l sure groups retries telling all u e at (at_read x w u e at h.0.1.0.disk h.1) n h.0.0 r rest)

  pub tells_so : (sure : Bool) (groups : List (List Location)) (retries : ℕ) → AreTelling sure groups → (index : List ℕ) → IsTrue (are_folders (stores_of groups)) → IsTrue (is_file index) → HasContents w x → (r : Result Unit Outcome) → InfoEnds sure groups retries index w r v → EndsSo x v (index_at index (λ l. folders_at (stores_of groups) (Informs l groups))) (outcome_of r)
  tells_so sure groups retries telling index all file has = index_so x w v quiet index file (λ l. folders_at (stores_of groups) (Informs l groups)) (λ l. OnStorage (IdsCounted sure groups retries l) >>= (λ n. OnOut (Printed (text_of_info l n)))) (λ l e at is. informs_so l sure groups retries telling all e at) w (at_first x w has)

  -- ---- `demo`

  pub demonstrates_so : (kind : DigestKind) (number size : ℕ) → HasContents w x → (r : Result Unit Outcome) → DemoEnds kind number size w r v → EndsSo x v (Demonstrates kind number size) (outcome_of r)
  demonstrates_so kind number size has = bound_so (Pure (Rehearsed kind number size)) (λ f. OnOut (Printed (text_of_figures f))) (EndsSo x v (Demonstrates kind number size)) w v refused
      (λ f e r h rest. ends_as x v (PrintsText (text_of_figures f)) (Demonstrates kind number size) (outcome_of r) (λ y so. inl (f, h.0, so)) (prints_so (text_of_figures f) e (subst (IsAt x w) (sym h.1) (at_first x w has)) r rest)) where
        refused : (o : Outcome) → Pure (Rehearsed kind number size) w (Err o) v → EndsSo x v (Demonstrates kind number size) o
        refused (ends.Mismatch k got) h = inr (x, subst (λ u. HasContents u x) (sym h.1) has, inr (k, got, h.0, (refl, refl)))
        refused ends.Memory h = inl refl
        refused other h = absurd h.0
