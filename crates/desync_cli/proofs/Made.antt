-- What `make` has made where it is done.
use Rattle.std.proofs.Common.{ap, ◌≡◌, ◌≢◌, ◌<◌, ℕ, List, Option, Some, None, IfSome, is_some, Ok, inl, inr, subst, sym, true≢false, unwrap_or, ◌∙◌}
use Rattle.std.specs.Option.{option_map}
use Rattle.buzhash_cut.specs.Image.{IsIndexOfImage}
use Rattle.buzhash_cut.specs.Sizes.{Sizes}
use Rattle.caibx_codec.specs.Listing.{Listing, count_of, id_of}
use Rattle.chunk_store.specs.Folders.{chunks}
use Rattle.chunk_store.specs.Said.{Said}
use Rattle.chunk_store.specs.declared.id.DigestKind.{DigestKind}
use Rattle.command_steps.specs.Sources.{said_at, storage, storage_of}
use Rattle.command_worlds.specs.Worlds.{World}
use Rattle.command_words.specs.declared.command.Location.{Location}
use Rattle.command_words.specs.declared.command.Location.TheVariants as locations
use Rattle.image_commands.specs.Make.{FolderHas, IsMade, MadeOf, MakeEnds, StoreHas, cut_sizes_of}
use Rattle.dsy_base.proofs.Counts.{at_same}
use Rattle.dsy_base.specs.Disk.{Disk}
use Rattle.dsy_base.specs.Maps.{Map, at_name}
use Rattle.image_store.specs.PutChunks.{SaysAll, Stands}
use Rattle.image_store.specs.StoreImage.{SaysOf}

-- an id that isn't listed holds what it held
pub others_stay : (l : Listing) (t : List ℕ) (old new : Map (List ℕ)) → Stands l t (count_of l) old new → (id : List ℕ) → ((i : ℕ) → i < count_of l → id_of l i ≢ id) → new id ≡ old id
others_stay l t old new stands id other = elim (stands id) [
  | inl same ↦ same
  | inr s ↦ absurd (other s.entry s.below (sym s.id))
]

module _ (kind : DigestKind) (sizes q index image : List ℕ) (bytes : List ℕ) where
  -- what storing says of the folder, over the folders among which it was taken
  abbrev Given : Option (List ℕ) → Option (Map (List ℕ)) → Option (Map (Map (List ℕ))) → Option (Map (Map (List ℕ))) → Type 0
  Given told held y1 y2 = IfSome y1 (λ m. IfSome held (λ f. (g : Map (List ℕ)) × (y2 ≡ Some (at_name m q (Some g))) × MadeOf kind (cut_sizes_of sizes) told (Ok bytes) f g))

  in_folder : (x : Option (Map (List ℕ))) (y : Option (Map (Map (List ℕ)))) (told : Option (List ℕ)) (held : Option (Map (List ℕ))) (z : Option (Map (List ℕ))) (y2 : Option (Map (Map (List ℕ)))) → is_some x ≡ is_some y
      → IfSome x (λ m. (t : List ℕ) × (m image ≡ Some t) × (told ≡ Some t)) → IfSome y (λ m. (f : Map (List ℕ)) × (m q ≡ Some f) × (held ≡ Some f))
      → z ≡ option_map (λ m. at_name m index (Some bytes)) x → Given told held (option_map (λ m. at_name m q None) y) y2
      → IfSome x (λ b. IfSome z (λ a. (l : Listing) × IsMade b a kind sizes index image l × IfSome y (λ f. IfSome y2 (λ g. FolderHas f g q l))))
  in_folder None y told held z y2 same there taken written given = tt
  in_folder (Some b) None told held z y2 same there taken written given = absurd (true≢false same)
  in_folder (Some b) (Some n) told held None y2 same there taken written given = tt
  in_folder (Some b) (Some n) told held (Some a) y2 same there taken written given =
      let g = subst (λ o. Given o (Some taken.0) (Some (at_name n q None)) y2) there.2 (subst (λ o. Given told o (Some (at_name n q None)) y2) taken.2 given) in
      let l : Listing = g.2.holds.0 in
      let is : a ≡ at_name b index (Some bytes) = ap (λ o. unwrap_or o a) written in (
        l,
        record {
          bytes = there.0;
          image_was = there.1;
          of_image = g.2.holds.1;
          file = bytes;
          written = ap (λ (m : Map (List ℕ)). m index) is ∙ at_same b index (Some bytes);
          is_file = g.2.holds.5;
          spelled = g.2.holds.4;
        },
        subst (λ o. IfSome o (λ k. FolderHas n k q l)) (sym g.1) (record {
          held = taken.0;
          folder_was = taken.1;
          now = g.0;
          folder_is = at_same (at_name n q None) q (Some g.0);
          holds = g.2.holds.2;
          others = others_stay l there.0 (chunks taken.0) (chunks g.0) g.2.holds.3;
        }),
      )

module _ (kind : DigestKind) (sizes index image : List ℕ) (bytes : List ℕ) (said : Said) where
  on_server : (x : Option (Map (List ℕ))) (told : Option (List ℕ)) (z : Option (Map (List ℕ))) → IfSome x (λ m. (t : List ℕ) × (m image ≡ Some t) × (told ≡ Some t)) → z ≡ option_map (λ m. at_name m index (Some bytes)) x
      → SaysOf kind (cut_sizes_of sizes) told bytes said → IfSome x (λ b. IfSome z (λ a. (l : Listing) × IsMade b a kind sizes index image l × SaysAll l (count_of l) said))
  on_server None told z there written says = tt
  on_server (Some b) told None there written says = tt
  on_server (Some b) told (Some a) there written says =
      let is : a ≡ at_name b index (Some bytes) = ap (λ o. unwrap_or o a) written in (
        says.0,
        record {
          bytes = there.0;
          image_was = there.1;
          of_image = subst (λ o. IfSome o (λ t. IsIndexOfImage kind (cut_sizes_of sizes) t says.0)) there.2 says.1;
          file = bytes;
          written = ap (λ (m : Map (List ℕ)). m index) is ∙ at_same b index (Some bytes);
          is_file = says.3;
          spelled = says.2;
        },
        says.4,
      )

pub made : (store : Location) (kind : DigestKind) (sizes index image : List ℕ) (w v : World) → is_some w.disk.files ≡ is_some w.disk.folders → MakeEnds store kind sizes index image w (Ok tt) v
    → IfSome w.disk.files (λ b. IfSome v.disk.files (λ a. (l : Listing) × IsMade b a kind sizes index image l × StoreHas (storage_of w) (storage_of v) store l))
made store kind sizes index image w v told h = go store h where
  go : (store : Location) → MakeEnds store kind sizes index image w (Ok tt) v → IfSome w.disk.files (λ b. IfSome v.disk.files (λ a. (l : Listing) × IsMade b a kind sizes index image l × StoreHas (storage_of w) (storage_of v) store l))
  go (locations.Folder q) h =
      let opened = h.then in
      let taken = opened.then in
      let stored = taken.then in
      let bytes = stored.gave in
      let told_image = opened.gave in
      let held = taken.gave in
      let same_files = ap (λ (u : World). u.disk.files) h.did.1 in
      let same_folders = ap (λ (u : World). u.disk.folders) h.did.1 in
      let files = stored.did.0.2.adds.files ∙ taken.did.0.1.1.files ∙ opened.did.0.1.files ∙ same_files in
      let folders = opened.did.0.1.folders ∙ same_folders in
      let of_sizes = subst (λ (s : Sizes). IfSome taken.disk.folders (λ m. IfSome held (λ f. (g : Map (List ℕ)) × (stored.disk.folders ≡ Some (at_name m q (Some g))) × MadeOf kind s told_image (Ok bytes) f g))) h.did.0.0 stored.did.0.1 in
      let among = subst (λ y. Given kind sizes q index image bytes told_image held y stored.disk.folders) (taken.did.0.1.0 ∙ ap (option_map (λ m. at_name m q None)) folders) of_sizes in
      in_folder kind sizes q index image bytes w.disk.files w.disk.folders told_image held v.disk.files v.disk.folders told
      (subst (λ x. IfSome x (λ m. (t : List ℕ) × (m image ≡ Some t) × (told_image ≡ Some t))) same_files opened.did.0.0)
      (subst (λ y. IfSome y (λ m. (f : Map (List ℕ)) × (m q ≡ Some f) × (held ≡ Some f))) folders taken.did.0.0)
      (stored.then.0.0 ∙ ap (option_map (λ m. at_name m index (Some bytes))) files)
      (subst (λ y. Given kind sizes q index image bytes told_image held (option_map (λ m. at_name m q None) w.disk.folders) y) (sym stored.then.0.1.folders) among)
  go (locations.Http host port prefix) h =
      let opened = h.then in
      let taken = opened.then in
      let stored = taken.then in
      let bytes = stored.gave in
      let told_image = opened.gave in
      let s : Location = locations.Http host port prefix in
      let same_files = ap (λ (u : World). u.disk.files) h.did.1 in
      let files = stored.did.0.2.adds.files ∙ ap (λ (d : Disk). d.files) taken.did.0.1 ∙ opened.did.0.1.files ∙ same_files in
      let dial = taken.did.1 ∙ opened.did.1 ∙ ap (λ (u : World). u.dial) h.did.1 in
      let of_sizes = subst (λ (z : Sizes). SaysOf kind z told_image bytes (said_at (storage taken.disk taken.dial) (storage stored.disk stored.dial) s)) h.did.0.0 stored.did.0.1 in
      let first = subst (λ k. SaysOf kind (cut_sizes_of sizes) told_image bytes (said_at (storage w.disk k) (storage v.disk stored.dial) s)) dial of_sizes in
      let says = subst (λ k. SaysOf kind (cut_sizes_of sizes) told_image bytes (said_at (storage w.disk w.dial) (storage v.disk k) s)) (sym stored.then.1) first in
      on_server kind sizes index image bytes (said_at (storage_of w) (storage_of v) s) w.disk.files told_image v.disk.files
      (subst (λ x. IfSome x (λ m. (t : List ℕ) × (m image ≡ Some t) × (told_image ≡ Some t))) same_files opened.did.0.0)
      (stored.then.0.0 ∙ ap (option_map (λ m. at_name m index (Some bytes))) files)
      says
