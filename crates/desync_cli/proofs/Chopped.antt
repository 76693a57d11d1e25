-- What `chop` has achieved where it is done.
use Rattle.std.proofs.Common.{ap, ◌≡◌, ℕ, List, Option, Some, None, IfSome, Ok, subst, sym, ◌∙◌}
use Rattle.std.specs.Option.{option_map}
use Rattle.caibx_codec.specs.Listing.{Listing, count_of}
use Rattle.caibx_codec.specs.Right.{IsRight}
use Rattle.chunk_store.specs.Folders.{chunks}
use Rattle.chunk_store.specs.Said.{KeepsOf}
use Rattle.command_indexes.proofs.Got.{got_dials, got_reads}
use Rattle.command_indexes.proofs.Spelled.{got_then}
use Rattle.command_indexes.specs.Spelled.{IndexSpells}
use Rattle.command_steps.proofs.Dialed.{any_earlier}
use Rattle.command_steps.specs.Dials.{Dials, EndedGrows, since}
use Rattle.command_steps.specs.Sources.{said_at, server_at, storage, storage_of}
use Rattle.command_words.specs.Locations.{index_place_of}
use Rattle.command_worlds.specs.Worlds.{World}
use Rattle.command_words.specs.declared.command.Location.{Location}
use Rattle.command_words.specs.declared.command.Location.TheVariants as locations
use Rattle.desync_cli.proofs.Made.{others_stay}
use Rattle.dsy_base.specs.Links.{Traffic}
use Rattle.http_read.specs.Asks.{Server}
use Rattle.http_read.specs.Remotes.{said_on}
use Rattle.http_read.specs.Replies.{IsDenial, IsLonger, IsShowing, IsTaking}
use Rattle.image_commands.proofs.GivenStores.{says_more}
use Rattle.image_commands.specs.Chop.{ChopEnds, ChoppedTo, IsChopped}
use Rattle.image_commands.specs.Make.{FolderHas, StoreHas}
use Rattle.dsy_base.proofs.Counts.{at_same}
use Rattle.dsy_base.specs.Maps.{Map, at_name}
use Rattle.image_store.specs.PutChunks.{SaysAll}

module _ (q index image : List ℕ) (l : Listing) where
  -- what chopping says of the folder, over the folders among which it was taken
  abbrev Given : Option (List ℕ) → Option (Map (List ℕ)) → Option (Map (Map (List ℕ))) → Option (Map (Map (List ℕ))) → Type 0
  Given told held y1 y2 = IfSome y1 (λ m. IfSome held (λ f. (g : Map (List ℕ)) × (y2 ≡ Some (at_name m q (Some g))) × ChoppedTo l told (Ok tt) f g))

  in_folder : (t : List ℕ) (y : Option (Map (Map (List ℕ)))) (held : Option (Map (List ℕ))) (y2 : Option (Map (Map (List ℕ)))) → IfSome y (λ m. (f : Map (List ℕ)) × (m q ≡ Some f) × (held ≡ Some f))
      → Given (Some t) held (option_map (λ m. at_name m q None) y) y2 → IfSome y (λ f. IfSome y2 (λ g. FolderHas f g q l))
  in_folder t None held y2 taken given = tt
  in_folder t (Some n) held y2 taken given =
      let g = subst (λ o. Given (Some t) o (Some (at_name n q None)) y2) taken.2 given in
      subst (λ o. IfSome o (λ k. FolderHas n k q l)) (sym g.1) (record {
        held = taken.0;
        folder_was = taken.1;
        now = g.0;
        folder_is = at_same (at_name n q None) q (Some g.0);
        holds = g.2.holds;
        others = others_stay l t (chunks taken.0) (chunks g.0) g.2.changed;
      })

-- what a server has said since a later point it has said since an earlier one
says_earlier : (s : Server) (a b c : Option (List Traffic)) → EndedGrows a b → EndedGrows b c → (id : List ℕ) → KeepsOf (said_on s (since b c)) (said_on s (since a c)) id
says_earlier s a b c g h id = record {
  denied = any_earlier (IsDenial s id) a b c g h;
  shown = λ t. any_earlier (IsShowing s id t) a b c g h;
  longer = λ n. any_earlier (IsLonger s id n) a b c g h;
  taken = λ t. any_earlier (IsTaking s id t) a b c g h;
  shown_by = λ k t said. (said.0, any_earlier (IsShowing s id t) a b c g h said.1);
  longer_by = λ k n said. (said.0, any_earlier (IsLonger s id n) a b c g h said.1);
}

-- the image is the one that is listed, and of the store is so what is so where the image is told
over_image : (Spelled : List ℕ → Listing → Type 0) (index image : List ℕ) (l : Listing) (has : Listing → Type 0) (x : Option (Map (List ℕ))) (told : Option (List ℕ)) → Spelled index l → IfSome x (λ m. (t : List ℕ) × (m image ≡ Some t) × (told ≡ Some t))
    → IfSome told (λ t. IsRight t l) → ((t : List ℕ) → told ≡ Some t → has l) → IfSome x (λ b. (m : Listing) × IsChopped Spelled b index image m × has m)
over_image Spelled index image l has None told listed there right store = tt
over_image Spelled index image l has (Some b) told listed there right store =
    (l, record { listed = listed; bytes = there.0; there = there.1; right = subst (λ o. IfSome o (λ t. IsRight t l)) there.2 right }, store there.0 there.2)

pub chopped : (store : Location) (index image : List ℕ) (w v : World) → ChopEnds store index image w (Ok tt) v
    → IfSome w.disk.files (λ b. (l : Listing) × IsChopped (IndexSpells (storage_of w) (storage_of v)) b index image l × StoreHas (storage_of w) (storage_of v) store l)
chopped store index image w v h = go store h where
  go : (store : Location) → ChopEnds store index image w (Ok tt) v → IfSome w.disk.files (λ b. (l : Listing) × IsChopped (IndexSpells (storage_of w) (storage_of v)) b index image l × StoreHas (storage_of w) (storage_of v) store l)
  go (locations.Folder q) h =
      let l = h.gave in
      let opened = h.then in
      let told = opened.gave in
      let taken = opened.then in
      let held = taken.gave in
      let got = got_reads index (index_place_of index) (storage_of w) (Ok l) (storage h.disk h.dial) h.did.0 in
      let later : Dials h.dial v.dial = subst (λ k. Dials k v.dial) (taken.did.1 ∙ opened.did.1) taken.then.0.2.dials.0 in
      let spells = got_then index (storage_of w) (storage h.disk h.dial) (storage_of v) l h.did.0 later in
      let folders = opened.did.0.1.folders ∙ got.folders in
      let among = subst (λ y. Given q index image l told held y v.disk.folders) (taken.did.0.1.0 ∙ ap (option_map (λ m. at_name m q None)) folders) taken.then.0.1 in
      over_image (IndexSpells (storage_of w) (storage_of v)) index image l (λ m. StoreHas (storage_of w) (storage_of v) (locations.Folder q) m) w.disk.files told spells
      (subst (λ x. IfSome x (λ m. (t : List ℕ) × (m image ≡ Some t) × (told ≡ Some t))) got.files opened.did.0.0)
      taken.then.0.0
      (λ t is. in_folder q index image l t w.disk.folders held v.disk.folders (subst (λ y. IfSome y (λ m. (f : Map (List ℕ)) × (m q ≡ Some f) × (held ≡ Some f))) folders taken.did.0.0)
      (subst (λ o. Given q index image l o held (option_map (λ m. at_name m q None) w.disk.folders) v.disk.folders) is among))
  go (locations.Http host port prefix) h =
      let l = h.gave in
      let opened = h.then in
      let told = opened.gave in
      let taken = opened.then in
      let s : Location = locations.Http host port prefix in
      let got = got_reads index (index_place_of index) (storage_of w) (Ok l) (storage h.disk h.dial) h.did.0 in
      let first = got_dials index (index_place_of index) (storage_of w) (Ok l) (storage h.disk h.dial) h.did.0 in
      let dial = taken.did.1 ∙ opened.did.1 in
      let later : Dials h.dial v.dial = subst (λ k. Dials k v.dial) dial taken.then.0.2.dials.0 in
      let spells = got_then index (storage_of w) (storage h.disk h.dial) (storage_of v) l h.did.0 later in
      let said = subst (λ k. SaysAll l (count_of l) (said_at (storage w.disk k) (storage v.disk v.dial) s)) dial taken.then.0.1 in
      let says = says_more l (count_of l) (said_at (storage w.disk h.dial) (storage v.disk v.dial) s) (said_at (storage_of w) (storage_of v) s)
      (says_earlier (server_at host port prefix) w.dial.ended h.dial.ended v.dial.ended first.ended later.ended) said in
      over_image (IndexSpells (storage_of w) (storage_of v)) index image l (λ m. StoreHas (storage_of w) (storage_of v) s m) w.disk.files told spells
      (subst (λ x. IfSome x (λ m. (t : List ℕ) × (m image ≡ Some t) × (told ≡ Some t))) got.files opened.did.0.0)
      taken.then.0.0
      (λ t is. says)
