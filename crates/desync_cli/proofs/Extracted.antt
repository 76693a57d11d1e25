-- What `extract` has made where it is done.
use Rattle.std.proofs.Common.{ap, Bool, is_some, map, true, false, ◌≡◌, ◌<◌, ℕ, List, Option, Some, None, IfSome, Ok, subst, sym, ◌∙◌}
use Rattle.caibx_codec.specs.Listing.{Listing, count_of}
use Rattle.caibx_codec.specs.Right.{IsRight}
use Rattle.command_groups.specs.Groups.{stores_of}
use Rattle.command_indexes.proofs.Got.{got_reads}
use Rattle.command_indexes.proofs.Spelled.{got_then}
use Rattle.command_indexes.specs.Spelled.{IndexSpells}
use Rattle.command_steps.proofs.Cached.{cache_reads}
use Rattle.command_steps.specs.Dials.{Dials}
use Rattle.command_steps.specs.Sources.{storage, storage_of}
use Rattle.command_words.specs.Locations.{index_place_of}
use Rattle.command_steps.specs.Seeds.{image_name}
use Rattle.command_worlds.specs.Worlds.{World}
use Rattle.extract_command.specs.Extract.{ExtractEnds, ExtractStores, HadFrom, Into, IsExtracted, KeepsIn, NeverFail, Seeds, WhereMembers, beside, folder_of, in_place, temporary_out}
use Rattle.extract_command.proofs.Replaced.{beside_apart}
use Rattle.dsy_base.proofs.Counts.{at_other, at_same}
use Rattle.dsy_base.specs.Disk.{Disk}
use Rattle.dsy_base.specs.Maps.{Map, at_name}
use Rattle.std.specs.Option.{option_map}

-- what the assembly from d to e says of the file, over what files and folders hold
abbrev MadeOver : ExtractStores → Option (List ℕ) → Into → Listing → Seeds → Disk → Disk → Option (Map (List ℕ)) → Option (Map (Map (List ℕ))) → Option (Map (List ℕ)) → Type 0
MadeOver stores cache o l x d e f y z = IfSome f (λ b. IfSome y (λ n. IfSome z (λ a. (cs : List (Map (List ℕ))) × (map n (folder_of cache) ≡ map Some cs)
    × (((t : List ℕ) × KeepsIn d e b a o l t × IsRight t l) × WhereMembers n stores (λ fs. (i : ℕ) → i < count_of l → HadFrom b o l x cs fs i)))))

module _ (Spelled : List ℕ → Listing → Type 0) (names : ExtractStores) (cache : Option (List ℕ)) (index out : List ℕ) (l : Listing) (x : Seeds) (d e : Disk) (listed : Spelled index l) where
  -- over files that tell, of which the folders tell too
  over_files : (f : Option (Map (List ℕ))) (y : Option (Map (Map (List ℕ)))) (z : Option (Map (List ℕ))) → is_some f ≡ is_some y → is_some z ≡ is_some f → MadeOver names cache (in_place out) l x d e f y z
      → IfSome z (λ a. IsExtracted Spelled a index out)
  over_files f y None same tells made = tt
  over_files None y (Some a) same tells made = let no : true ≡ false = tells in absurd (cc)
  over_files (Some b) None (Some a) same tells made = let no : true ≡ false = same in absurd (cc)
  over_files (Some b) (Some n) (Some a) same tells made = record { listing = l; listed = listed; image = made.2.0.0; holds = ap (λ (m : Map (List ℕ)). m out) made.2.0.1.0 ∙ at_same b out (Some made.2.0.0); right = made.2.0.2 }

  -- by way of a temporary file
  over_renamed : (f : Option (Map (List ℕ))) (y : Option (Map (Map (List ℕ)))) (z u : Option (Map (List ℕ))) → is_some f ≡ is_some y → is_some z ≡ is_some f → MadeOver names cache (beside out) l x d e f y z
      → u ≡ option_map (λ m. at_name (at_name m out (m (temporary_out out))) (temporary_out out) None) z → IfSome u (λ a. IsExtracted Spelled a index out)
  over_renamed f y None u same tells made is = subst (λ o. IfSome o (λ a. IsExtracted Spelled a index out)) (sym is) tt
  over_renamed None y (Some a) u same tells made is = let no : true ≡ false = tells in absurd (cc)
  over_renamed (Some b) None (Some a) u same tells made is = let no : true ≡ false = same in absurd (cc)
  over_renamed (Some b) (Some n) (Some a) u same tells made is =
      let tmp = temporary_out out in
      let t = made.2.0.0 in
      let there : a tmp ≡ Some t = ap (λ (m : Map (List ℕ)). m tmp) made.2.0.1.0 ∙ at_same b tmp (Some t) in
      let now : Map (List ℕ) = at_name (at_name a out (a tmp)) tmp None in
      let holds : now out ≡ Some t = at_other (at_name a out (a tmp)) tmp None out (beside_apart out) ∙ at_same a out (a tmp) ∙ there in
      let made_so : IsExtracted Spelled now index out = record { listing = l; listed = listed; image = t; holds = holds; right = made.2.0.2 } in
      subst (λ o. IfSome o (λ a. IsExtracted Spelled a index out)) (sym is) made_so

pub extracted : (sure : NeverFail) (stores : ExtractStores) (cache : Option (List ℕ)) (seeds : List (List ℕ)) (place : Bool) (index out : List ℕ) (w v : World) → is_some w.disk.files ≡ is_some w.disk.folders → ExtractEnds sure stores cache seeds place index out w (Ok tt) v
    → IfSome v.disk.files (λ a. IsExtracted (IndexSpells (storage_of w) (storage_of v)) a index out)
extracted sure stores cache seeds true index out w v told h =
    let got = got_reads index (index_place_of index) (storage_of w) (Ok h.gave) (storage h.disk h.dial) h.did.0 in
    let made_so = h.then.then.then.then.0 in
    let later : Dials h.dial v.dial = subst (λ k. Dials k v.dial) (h.then.then.then.did.1 ∙ h.then.then.did.1 ∙ h.then.did.1) made_so.3.0 in
    let spells = got_then index (storage_of w) (storage h.disk h.dial) (storage_of v) h.gave h.did.0 later in
    let reached = cache_reads (stores_of stores.groups) cache h.then.then.disk h.then.then.then.disk (Ok tt) h.then.then.then.did.0 in
    let files = reached.files ∙ h.then.then.did.0.1.files ∙ h.then.did.0.1.files ∙ got.files in
    let folders = reached.folders ∙ h.then.then.did.0.1.folders ∙ h.then.did.0.1.folders ∙ got.folders in
    let d = h.then.then.then.disk in
    let names = stores in
    let x : Seeds = record { images = map image_name seeds; listings = h.then.gave } in
    let made = subst (λ f. MadeOver names cache (in_place out) h.gave x d v.disk f d.folders v.disk.files) files made_so.0 in
    over_files (IndexSpells (storage_of w) (storage_of v)) names cache index out h.gave x d v.disk spells w.disk.files w.disk.folders v.disk.files told (made_so.2 ∙ ap is_some files)
    (subst (λ y. MadeOver names cache (in_place out) h.gave x d v.disk w.disk.files y v.disk.files) folders made)
extracted sure stores cache seeds false index out w v told h =
    let got = got_reads index (index_place_of index) (storage_of w) (Ok h.gave) (storage h.disk h.dial) h.did.0 in
    let made_so = h.then.then.then.then.did.0 in
    let last = h.then.then.then.then.then.0 in
    let later : Dials h.dial v.dial = subst (Dials h.dial) (sym last.1) (subst (λ k. Dials k h.then.then.then.then.dial) (h.then.then.then.did.1 ∙ h.then.then.did.1 ∙ h.then.did.1) made_so.3.0) in
    let spells = got_then index (storage_of w) (storage h.disk h.dial) (storage_of v) h.gave h.did.0 later in
    let reached = cache_reads (stores_of stores.groups) cache h.then.then.disk h.then.then.then.disk (Ok tt) h.then.then.then.did.0 in
    let files = reached.files ∙ h.then.then.did.0.1.files ∙ h.then.did.0.1.files ∙ got.files in
    let folders = reached.folders ∙ h.then.then.did.0.1.folders ∙ h.then.did.0.1.folders ∙ got.folders in
    let d = h.then.then.then.disk in
    let c = h.then.then.then.then.disk in
    let names = stores in
    let x : Seeds = record { images = map image_name seeds; listings = h.then.gave } in
    let made = subst (λ f. MadeOver names cache (beside out) h.gave x d c f d.folders c.files) files made_so.0 in
    over_renamed (IndexSpells (storage_of w) (storage_of v)) names cache index out h.gave x d c spells w.disk.files w.disk.folders c.files v.disk.files told (made_so.2 ∙ ap is_some files)
    (subst (λ y. MadeOver names cache (beside out) h.gave x d c w.disk.files y c.files) folders made) last.0.0
