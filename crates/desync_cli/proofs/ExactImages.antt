-- What `chop` and `make` answer and leave where nothing fails.
use Rattle.std.proofs.Common.{ap, arith, ◌≡◌, ◌∙◌, ℕ, Bool, true, false, cond, List, [], ◌∷◌, Option, Some, None, IfSome, IsTrue, refl, subst, sym, inl, inr, Result, Ok, Err, unwrap_or}
use Rattle.std.proofs.lemmas.Option.{none-some}
use Rattle.std.proofs.lemmas.Slice.Eq.{bytes_eq-Decides}
use Rattle.std.specs.Option.{option_map}
use Rattle.std.specs.Prelude.{MatchOption}
use Rattle.std.specs.Str.{bytes_eq}
use Rattle.buzhash_cut.proofs.Uniqueness.{index_one}
use Rattle.buzhash_cut.specs.Image.{HasTooManyCuts, IsIndexOfImage}
use Rattle.buzhash_cut.specs.Sizes.{Sizes}
use Rattle.caibx_codec.specs.Listing.{Listing, count_of}
use Rattle.caibx_codec.specs.Spelling.{file_of}
use Rattle.chunk_store.specs.Folders.{chunks}
use Rattle.chunk_store.specs.declared.id.DigestKind.{DigestKind}
use Rattle.command_outcome.specs.declared.outcome.Outcome.{Outcome}
use Rattle.command_outcome.specs.declared.outcome.Outcome.TheVariants as ends
use Rattle.command_steps.proofs.Taken.{at_name_twice}
use Rattle.command_indexes.specs.Places.{is_file}
use Rattle.command_steps.specs.InputFiles.{ImageOpened}
use Rattle.command_steps.specs.Sources.{OnStorage, storage_of}
use Rattle.command_steps.specs.Stores.{are_folders, folder_name}
use Rattle.command_steps.specs.TakenStores.{SourceTaken}
use Rattle.command_words.specs.declared.command.Location.{Location}
use Rattle.command_words.specs.declared.command.Location.TheVariants as locations
use Rattle.command_worlds.specs.Steps.{◌>>=◌, outcome_of}
use Rattle.command_worlds.specs.Worlds.{OnDisk, Pure, Step, World}
use Rattle.desync_cli.proofs.ExactFolders.{taken_from}
use Rattle.desync_cli.proofs.Readings.{EndsSo, IsAt, IsQuiet, at_first, bound_so, ends_as, file_unrisen, folder_unrisen, image_so, index_so, taken_so}
use Rattle.desync_cli.specs.Contents.{Contents, Ending, HasContents, Unchanged, folder_at, image_at, index_at, with_file, with_folder}
use Rattle.desync_cli.specs.Exact.{AreStored, Chops, IsCompared, Makes, right_by, sizes_at}
use Rattle.dsy_base.specs.Maps.{Map, at_name}
use Rattle.image_chop.specs.declared.chop.ChopFault.TheVariants as chop_faults
use Rattle.image_commands.specs.Chop.{ChopEnds, ChoppedTo, ImageChopped, NotChopped}
use Rattle.image_commands.specs.Make.{FolderGivenBack, ImageStored, IndexWritten, MadeOf, MakeEnds, NotStored, SizesJudged, cut_sizes_of}
use Rattle.image_store.specs.PutChunks.{PutsFiles}
use Rattle.image_store.specs.StoreImage.{PutsFilesOf}
use Rattle.image_store.specs.declared.put_chunks.MakeFault.TheVariants as make_faults

-- what stands under a name, put there again
at_name_own : {X : Type 0} (m : Map X) (name : List ℕ) (u : Option X) → m name ≡ u → at_name m name u ≡ m
at_name_own m name u is = λ i q. own q (bytes_eq name q) refl i where
  own : (q : List ℕ) (b : Bool) → bytes_eq name q ≡ b → cond (bytes_eq name q) u (m q) ≡ m q
  own q true same = ap (λ b. cond b u (m q)) same ∙ sym is ∙ ap m ((bytes_eq-Decides name q).0 same)
  own q false other = ap (λ b. cond b u (m q)) other

-- an image of which no entry is stored
none_stored : (l : Listing) (t : List ℕ) (f g : Map (List ℕ)) → g ≡ f → AreStored l t 0 f g
none_stored l t f g same = record {
  holds = λ i less. absurd (omega (arith, less));
  stands = λ q. inl (ap (λ m. chunks m q) same);
  files = record { tells = refl; files = λ q. inl (ap (λ m. m q) same) };
}

module _ (x : Contents) (w v : World) (quiet : IsQuiet w v) (q : List ℕ) (f : Map (List ℕ)) (there : x.folders q ≡ Some f) where
  -- the folder, once it was given back
  given_so : (u e : World) → IsAt (taken_from x q) w u → (P : Map (List ℕ) → Map (List ℕ) → Type 0) → FolderGivenBack u.disk e.disk q (Some f) P → (g : Map (List ℕ)) × (e.disk.folders ≡ Some (at_name x.folders q (Some g))) × P f g
  given_so u e at P h =
      let s : (g : Map (List ℕ)) × (e.disk.folders ≡ Some (at_name (at_name x.folders q None) q (Some g))) × P f g = subst (λ y. IfSome y (λ m. (g : Map (List ℕ)) × (e.disk.folders ≡ Some (at_name m q (Some g))) × P f g)) at.has.folders h in
      (s.0, s.1 ∙ ap Some (at_name_twice x.folders q None (Some s.0)), s.2)

  -- ---- `chop`

  module _ (l : Listing) (image t : List ℕ) (u : World) (at : IsAt (taken_from x q) w u) where
    chopped_as : (o : Outcome) (P : Map (List ℕ) → Map (List ℕ) → Type 0) → FolderGivenBack u.disk v.disk q (Some f) P → v.disk.files ≡ u.disk.files → v.out ≡ u.out → IsCompared l t o → ((g : Map (List ℕ)) → P f g → AreStored l t (right_by l o) f g) → EndsSo x v (Chops l t q f) o
    chopped_as o P given files out is stored =
        let g = given_so u v at P given in
        inr (
          with_folder x q g.0,
          record {
            files = files ∙ at.has.files;
            folders = g.1;
            printed = ap (λ p. p.taken) out ∙ at.has.printed;
          },
          (is, g.0, refl, stored g.0 g.2),
        )

    chopped_so : (r : Result Unit Outcome) → OnStorage (ImageChopped l image (Some t) (locations.Folder q) (Some f)) u r v → EndsSo x v (Chops l t q f) (outcome_of r)
    chopped_so (Ok _) h = chopped_as ends.Done (ChoppedTo l (Some t) (Ok tt)) h.0.1 h.0.2.adds.files h.1 h.0.0 (λ g c. record { holds = c.holds; stands = c.changed; files = c.files })
    chopped_so (Err o) h = refused o h.0.0 where
      refused : (o : Outcome) → NotChopped l image (Some t) (locations.Folder q) (Some f) (storage_of u) (storage_of v) o → EndsSo x v (Chops l t q f) o
      refused (ends.Length n) s = chopped_as (ends.Length n) (λ f g. g ≡ f) s.2 h.0.1.adds.files h.1 (s.1, λ same. s.0 (s.1 ∙ same)) (λ g same. none_stored l t f g same)
      refused (ends.Mismatch k got) s = chopped_as (ends.Mismatch k got) (ChoppedTo l (Some t) (Err (chop_faults.Mismatch k got))) s.2 h.0.1.adds.files h.1
          (s.0, record { listed = s.1.0; before = s.1.3; named = s.1.2; wrong = s.1.1 })
          (λ g c. record { holds = c.holds; stands = c.changed; files = c.files })
      refused ends.ImageFault s = absurd (file_unrisen (taken_from x q) w u v at quiet image s.1)
      refused (ends.StoreFault k) s = absurd (folder_unrisen (taken_from x q) w u v at quiet q s.2)
      refused ends.Memory s = inl refl
      refused other s = absurd s

  -- ---- `make`

  module _ (kind : DigestKind) (s : Sizes) (index image t : List ℕ) where
    -- files that were put are those of the image's one index
    puts_one : (l : Listing) → IsIndexOfImage kind s t l → (g : Map (List ℕ)) → PutsFilesOf kind s (Some t) (Some (chunks f)) (Some f) (Some g) → PutsFiles l (Some t) (Some (chunks f)) (count_of l) (Some f) (Some g)
    puts_one l of_image g (inl same) = record { tells = refl; files = λ p. inl (ap (λ o. unwrap_at o p) same) } where
      unwrap_at : Option (Map (List ℕ)) → List ℕ → Option (List ℕ)
      unwrap_at o p = unwrap_or o f p
    puts_one l of_image g (inr (m, lists, puts)) = subst (λ (k : Listing). PutsFiles k (Some t) (Some (chunks f)) (count_of k) (Some f) (Some g)) (index_one kind s t m l lists of_image) puts

    unstored : (u : World) → IsAt (taken_from x q) w u → v.disk.files ≡ u.disk.files → v.out ≡ u.out → (o : Outcome) → NotStored kind s image (Some t) (locations.Folder q) (Some f) (storage_of u) (storage_of v) o → EndsSo x v (Makes kind s t index q f) o
    unstored u at files out ends.TooManyItems h =
        let g = given_so u v at (λ f g. (g ≡ f) × MadeOf kind s (Some t) (Err make_faults.TooManyItems) f g) h.1 in
        let same : at_name x.folders q (Some g.0) ≡ x.folders = at_name_own x.folders q (Some g.0) (there ∙ ap Some (sym g.2.0)) in
        inr (
          x,
          record {
            files = files ∙ at.has.files;
            folders = g.1 ∙ ap Some same;
            printed = ap (λ p. p.taken) out ∙ at.has.printed;
          },
          (h.0, refl),
        )
    unstored u at files out ends.ImageFault h = absurd (file_unrisen (taken_from x q) w u v at quiet image h.0)
    unstored u at files out (ends.Changed k was got) h = absurd (none-some _ (sym h.0))
    unstored u at files out (ends.StoreFault k) h = absurd (folder_unrisen (taken_from x q) w u v at quiet q h.1)
    unstored u at files out ends.Memory h = inl refl
    unstored u at files out other h = absurd h

    written_so : (bytes : List ℕ) (g : Map (List ℕ)) (e : World) → IsAt (with_folder x q g) w e → (HasTooManyCuts s t → ⊥) → MadeOf kind s (Some t) (Ok bytes) f g → (r : Result Unit Outcome) → OnDisk (IndexWritten index bytes) e r v → EndsSo x v (Makes kind s t index q f) (outcome_of r)
    written_so bytes g e at few made (Ok _) h =
        let l = made.holds.0 in
        inr (
          with_file (with_folder x q g) index (file_of l),
          record {
            files = h.0.0 ∙ ap (option_map (λ m. at_name m index (Some bytes))) at.has.files ∙ ap (λ b. Some (at_name x.files index (Some b))) made.holds.4;
            folders = h.0.1.folders ∙ at.has.folders;
            printed = ap (λ p. p.taken) h.2 ∙ at.has.printed;
          },
          (few, l, made.holds.1, g, refl, record { holds = made.holds.2; stands = made.holds.3; files = puts_one l made.holds.1 g made.files }),
        )
    written_so bytes g e at few made (Err (ends.FileFault name)) h = absurd (file_unrisen (with_folder x q g) w e v at quiet index h.0.0.1)
    written_so bytes g e at few made (Err ends.Memory) h = inl refl
    written_so bytes g e at few made (Err other) h = absurd h.0.0

    stored_so : (u : World) → IsAt (taken_from x q) w u → (r : Result Unit Outcome) → (OnStorage (ImageStored kind s image (Some t) (locations.Folder q) (Some f)) >>= (λ bytes. OnDisk (IndexWritten index bytes))) u r v → EndsSo x v (Makes kind s t index q f) (outcome_of r)
    stored_so u at = bound_so (OnStorage (ImageStored kind s image (Some t) (locations.Folder q) (Some f))) (λ bytes. OnDisk (IndexWritten index bytes)) (EndsSo x v (Makes kind s t index q f)) u v
        (λ o h. unstored u at h.0.1.adds.files h.1 o h.0.0)
        (λ bytes e r h rest.
        let g = given_so u e at (MadeOf kind s (Some t) (Ok bytes)) h.0.1 in
        let adds = h.0.2.adds in
        let after : IsAt (with_folder x q g.0) w e = record {
          has = record { files = adds.files ∙ at.has.files; folders = g.1; printed = ap (λ p. p.taken) h.1 ∙ at.has.printed };
          files = λ p. omega (arith, at.files p, adds.counts p);
          folders = λ p. omega (arith, at.folders p, adds.folder_counts p);
          out = let same = ap (λ p. p.faults) h.1 in omega (arith, same, at.out);
        } in
        written_so bytes g.0 e after h.0.0 g.2 r rest)

module _ (x : Contents) (w v : World) (quiet : IsQuiet w v) where
  pub chops_so : (store : Location) (index image : List ℕ) → IsTrue (are_folders (store ∷ [])) → IsTrue (is_file index) → HasContents w x → (r : Result Unit Outcome) → ChopEnds store index image w r v
      → EndsSo x v (index_at index (λ l. image_at image (λ t. folder_at (folder_name store) (Chops l t (folder_name store))))) (outcome_of r)
  chops_so (locations.Http host port prefix) index image all file has r h = let no : false ≡ true = all in absurd (cc)
  chops_so (locations.Folder q) index image all file has r h =
      index_so x w v quiet index file (λ l. image_at image (λ t. folder_at q (Chops l t q)))
      (λ l. OnDisk (ImageOpened image) >>= (λ told. OnDisk (SourceTaken (image ∷ []) (locations.Folder q)) >>= (λ held. OnStorage (ImageChopped l image told (locations.Folder q) held))))
      (λ l e at is. image_so x w v quiet image (λ t. folder_at q (Chops l t q))
      (λ told. OnDisk (SourceTaken (image ∷ []) (locations.Folder q)) >>= (λ held. OnStorage (ImageChopped l image told (locations.Folder q) held)))
      (λ t e at. taken_so x w v quiet (image ∷ []) q (Chops l t q) (λ held. OnStorage (ImageChopped l image (Some t) (locations.Folder q) held))
      (λ f u there after. chopped_so x w v quiet q f there l image t u after) e at) e at)
      w (at_first x w has) r h

  unsized : (sizes : List ℕ) (next : Sizes → Ending) → HasContents w x → (o : Outcome) → Pure (SizesJudged sizes) w (Err o) v → EndsSo x v (sizes_at sizes next) o
  unsized sizes next has (ends.Sizes why) h = inr (
    x,
    subst (λ u. HasContents u x) (sym h.1) has,
    subst (λ f. MatchOption f (next (cut_sizes_of sizes) x (ends.Sizes why) x) (λ fault. Unchanged (ends.Sizes fault) x (ends.Sizes why) x)) (sym h.0) (refl, refl),
  )
  unsized sizes next has other h = absurd h.0

  pub makes_so : (store : Location) (kind : DigestKind) (sizes index image : List ℕ) → IsTrue (are_folders (store ∷ [])) → HasContents w x → (r : Result Unit Outcome) → MakeEnds store kind sizes index image w r v
      → EndsSo x v (sizes_at sizes (λ s. image_at image (λ t. folder_at (folder_name store) (Makes kind s t index (folder_name store))))) (outcome_of r)
  makes_so (locations.Http host port prefix) kind sizes index image all has r h = let no : false ≡ true = all in absurd (cc)
  makes_so (locations.Folder q) kind sizes index image all has r h = bound_so (Pure (SizesJudged sizes)) then (EndsSo x v (sizes_at sizes next)) w v
      (λ o h. unsized sizes next has o h)
      (λ s e r h rest. ends_as x v (next s) (sizes_at sizes next) (outcome_of r)
      (λ y so. subst (λ f. MatchOption f (next (cut_sizes_of sizes) x (outcome_of r) y) (λ fault. Unchanged (ends.Sizes fault) x (outcome_of r) y)) (sym h.0.1) (subst (λ z. next z x (outcome_of r) y) h.0.0 so))
      (imaged s e (subst (IsAt x w) (sym h.1) (at_first x w has)) r rest)) r h where
        next : Sizes → Ending
        next s = image_at image (λ t. folder_at q (Makes kind s t index q))

        then : Sizes → Step World Unit
        then s = OnDisk (ImageOpened image) >>= (λ told. OnDisk (SourceTaken (image ∷ []) (locations.Folder q)) >>= (λ held. OnStorage (ImageStored kind s image told (locations.Folder q) held) >>= (λ bytes. OnDisk (IndexWritten index bytes))))

        imaged : (s : Sizes) (e : World) → IsAt x w e → (r : Result Unit Outcome) → then s e r v → EndsSo x v (next s) (outcome_of r)
        imaged s = image_so x w v quiet image (λ t. folder_at q (Makes kind s t index q))
            (λ told. OnDisk (SourceTaken (image ∷ []) (locations.Folder q)) >>= (λ held. OnStorage (ImageStored kind s image told (locations.Folder q) held) >>= (λ bytes. OnDisk (IndexWritten index bytes))))
            (λ t e at. taken_so x w v quiet (image ∷ []) q (Makes kind s t index q) (λ held. OnStorage (ImageStored kind s image (Some t) (locations.Folder q) held) >>= (λ bytes. OnDisk (IndexWritten index bytes)))
            (λ f u there after. stored_so x w v quiet q f there kind s index image t u after) e at)
