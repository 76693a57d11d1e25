-- An `extract` that needs no server is done, unless there was no memory.
use Rattle.std.proofs.Common.{ap, Bool, true, false, is_some, ◌≡◌, ◌≢◌, ◌∙◌, ℕ, ◌<◌, List, [], ◌∷◌, map, Option, Some, None, IfSome, IsSome, IsSomeAnd, refl, subst, sym, inl, inr, Ok, Err}
use Rattle.std.proofs.lemmas.List.Elements.{All-head}
use Rattle.std.proofs.lemmas.Option.{none-some, same_Some}
use Rattle.std.specs.List.{AllZip, Any}
use Rattle.caibx_codec.specs.Listing.{Listing, count_of, id_of, kind_of, size_of}
use Rattle.caibx_codec.specs.Right.{IsRight}
use Rattle.chunk_store.proofs.Members.{any_cons}
use Rattle.chunk_store.specs.Folders.{chunks}
use Rattle.chunk_store.specs.Giving.{GivesChunk}
use Rattle.chunk_store.specs.declared.id.ChunkId.{ChunkId}
use Rattle.command_groups.specs.Groups.{stores_of}
use Rattle.command_indexes.proofs.Got.{got_file}
use Rattle.command_outcome.specs.declared.outcome.Outcome.{Outcome}
use Rattle.command_outcome.specs.declared.outcome.Outcome.TheVariants as ends
use Rattle.command_steps.proofs.Cached.{cache_reads}
use Rattle.command_steps.specs.Cache.{CacheOpened}
use Rattle.command_steps.specs.InputFiles.{IndexRead, IsListed, Listed}
use Rattle.command_steps.specs.Seeds.{IndexesRead, image_name}
use Rattle.command_steps.specs.Sources.{Storage, SourcesOpened, storage, storage_of}
use Rattle.command_words.specs.declared.command.Location.{Location}
use Rattle.command_words.specs.declared.command.Location.TheVariants as locations
use Rattle.command_worlds.specs.Steps.{◌>>=◌}
use Rattle.command_worlds.specs.Worlds.{DiskQuiet, FolderRose, OnDisk, Reads, World, world}
use Rattle.desync_cli.proofs.Climbs.{Climbs, NoneRose, cache_unreached, climbs_on, filled_climbs, none_rose, read_climbs, same_listing, self_climbs, seeds_unread, unread, unreached, wrote_climbs}
use Rattle.desync_cli.proofs.Mirrored.{groups_not}
use Rattle.desync_cli.specs.AtHand.{GroupGivesEntry, StoreGivesEntry, IsAtHand, ListsOneSize, NeedsNoServer, into, near}
use Rattle.dsy_base.proofs.Counts.{at_same}
use Rattle.dsy_base.specs.Disk.{Disk}
use Rattle.dsy_base.specs.Links.{DialState}
use Rattle.dsy_base.specs.Maps.{Map, at_name}
use Rattle.extract_command.proofs.Wrote.{wrote_on}
use Rattle.extract_command.specs.Extract.{Assembled, CacheFilled, CacheGrows, CacheLacksEntry, ExtractEnds, ExtractStores, HadFrom, ImageMade, Into, IsLacking, KeepsIn, NeverFail, NotRenamed, OutMade, Renamed, Seeds, Told, WhereMembers, beside, folder_of, in_place, temporary_out}
use Rattle.store_chain.specs.declared.refused.Refused.{Refused}
use Rattle.store_chain.specs.declared.refused.Refused.TheVariants as refused

-- ---- the assembly

-- what is said where files and folders tell
from_told : (d e : Disk) (cache : Option (List ℕ)) (P : Map (List ℕ) → Map (List ℕ) → Map (Map (List ℕ)) → List (Map (List ℕ)) → Type 0) (b : Map (List ℕ)) (n : Map (Map (List ℕ))) → d.files ≡ Some b → d.folders ≡ Some n → is_some e.files ≡ is_some d.files
    → Told d e cache P → (a : Map (List ℕ)) × (e.files ≡ Some a) × (cs : List (Map (List ℕ))) × P b a n cs
from_told d e cache P b n is y tells h = go d.files d.folders e.files is y tells h refl where
  go : (f : Option (Map (List ℕ))) (g : Option (Map (Map (List ℕ)))) (z : Option (Map (List ℕ))) → f ≡ Some b → g ≡ Some n → is_some z ≡ is_some f
      → IfSome f (λ b. IfSome g (λ n. IfSome z (λ a. (cs : List (Map (List ℕ))) × (map n (folder_of cache) ≡ map Some cs) × P b a n cs))) → z ≡ e.files → (a : Map (List ℕ)) × (e.files ≡ Some a) × (cs : List (Map (List ℕ))) × P b a n cs
  go None g z is y tells h at = absurd (none-some _ is)
  go (Some c) None z is y tells h at = absurd (none-some _ y)
  go (Some c) (Some m) None is y tells h at = let no : false ≡ true = tells in absurd (cc)
  go (Some c) (Some m) (Some a) is y tells h at =
      let one : c ≡ b = same_Some _ _ is in
      let two : m ≡ n = same_Some _ _ y in
      (a, sym at, h.0, subst (λ (x : Map (List ℕ)). P x a n h.0) one (subst (λ (x : Map (Map (List ℕ))). P c a x h.0) two h.2))

module _ (w v : Storage) (none : NoneRose w.disk v.disk) (b : Map (List ℕ)) (n : Map (Map (List ℕ))) (files : w.disk.files ≡ Some b) (folders : w.disk.folders ≡ Some n) (tells : is_some v.disk.files ≡ is_some w.disk.files)
    (stores : ExtractStores) (cache : Option (List ℕ)) (out : Into) (l : Listing) (x : Seeds) where
  module _ (k : ℕ) (listed : k < count_of l) where
    abbrev Gives : Location → Type 0
    Gives = StoreGivesEntry n l k

    abbrev GroupGives : List Location → Type 0
    GroupGives = GroupGivesEntry n l k

    -- nor the cache, which gives it still
    cached_still : (c : List ℕ) → CacheFilled stores (Some c) l w.disk v.disk → CacheLacksEntry w.disk v.disk (Some c) l k → ListsOneSize l → Gives (locations.Folder c) → ⊥
    cached_still c filled lacks one gives = over w.disk.folders v.disk.folders folders filled.0 filled.1 lacks where
      Chunk : Map (List ℕ) → Type 0
      Chunk f = GivesChunk (kind_of l) (id_of l k) (size_of l k) (chunks f (id_of l k))

      grown : (m : Map (Map (List ℕ))) (f g : Map (List ℕ)) → CacheGrows l m stores f g → Chunk f → Chunk g
      grown m f g grows has = elim (grows.held (id_of l k)) [
        | inl same ↦ (has.0, same ∙ has.1, has.2)
        | inr new ↦
            let from = new.2 in
            let same : size_of l from.0 ≡ size_of l k = one from.0 k from.1 listed (sym from.2) in
            (new.0, new.1, record { named = from.3.named ∙ sym from.2; sized = from.3.sized ∙ same })
      ]

      over : (f g : Option (Map (Map (List ℕ)))) → f ≡ Some n → is_some g ≡ is_some f
          → IfSome f (λ m. IfSome g (λ n. (f : Map (List ℕ)) × (m c ≡ Some f) × (g : Map (List ℕ)) × (n ≡ at_name m c (Some g)) × CacheGrows l m stores f g))
          → IfSome g (λ n. IfSome (n c) (λ g. Chunk g → FolderRose w.disk v.disk c)) → ⊥
      over None g is same grows lacks = none-some _ is
      over (Some m) None is same grows lacks = let no : false ≡ true = same in absurd (cc)
      over (Some m) (Some p) is same grows lacks =
          let was : m ≡ n = same_Some _ _ is in
          let held : n c ≡ Some grows.0 = subst (λ (y : Map (Map (List ℕ))). y c ≡ Some grows.0) was grows.1 in
          let has : Chunk grows.0 = subst (λ o. IsSomeAnd o Chunk) held gives in
          let now : p c ≡ Some grows.2 = ap (λ (y : Map (Map (List ℕ))). y c) grows.3 ∙ at_same m c (Some grows.2) in
          let rose : Chunk grows.2 → FolderRose w.disk v.disk c = subst (λ o. IfSome o (λ g. Chunk g → FolderRose w.disk v.disk c)) now lacks in
          none.folders c (rose (grown m grows.0 grows.2 grows.4 has))

    folders_not : (cache : Option (List ℕ)) → CacheFilled stores cache l w.disk v.disk → CacheLacksEntry w.disk v.disk cache l k → (IsSome cache → ListsOneSize l) → (Any GroupGives stores.groups → ⊥) → Any GroupGives (near cache stores.groups) → ⊥
    folders_not None filled lacks one rest any = rest any
    folders_not (Some c) filled lacks one rest any = elim (any_cons GroupGives (locations.Folder c ∷ []) stores.groups any) [
      | inl here ↦ cached_still c filled lacks (one refl) (All-head Gives (locations.Folder c) [] here.1)
      | inr later ↦ rest later
    ]

  module _ (filled : CacheFilled stores cache l w.disk v.disk) (one : IsSome cache → ListsOneSize l) (at_hand : (i : ℕ) → i < count_of l → IsAtHand b n out l x (near cache stores.groups) i) where
    -- no entry is lacking
    none_lacking : (k : ℕ) (id : ChunkId) (r : Refused) → r ≢ refused.Memory → IsLacking w v b n cache out l x stores k id r → ⊥
    none_lacking k id r told h = elim (at_hand k h.listed) [
      | inl right ↦ none.files out.name (h.copies right)
      | inr (inl seed) ↦ none.files seed.1.image (h.seeds seed.0 seed.1)
      | inr (inr folder) ↦
          folders_not k h.listed cache filled h.uncached one (groups_not w v none n folders l k id h.id_is stores.retries stores.groups r told h.said) folder
    ]

    assembled_at_hand : (o : Outcome) → Assembled w v stores cache out l x (Err o) → o ≡ ends.Memory
    assembled_at_hand (ends.Missing k id) h = absurd (none_lacking k id refused.Missing (λ no. absurd (cc)) (from_told w.disk v.disk cache _ b n files folders tells h).3.1)
    assembled_at_hand (ends.Damaged k id s y) h = absurd (none_lacking k id (refused.Damaged s y) (λ no. absurd (cc)) (from_told w.disk v.disk cache _ b n files folders tells h).3.1)
    assembled_at_hand (ends.StoreFault s) h =
        let q = (from_told w.disk v.disk cache _ b n files folders tells h.1).3 in
        absurd (none_lacking q.1 q.2 (refused.StoreFault s) (λ no. absurd (cc)) q.3)
    assembled_at_hand ends.TargetFault h = absurd (none.files out.name h.0)
    assembled_at_hand ends.Memory h = refl
    assembled_at_hand other h = absurd h

-- ---- OUT

module _ (sure : NeverFail) (stores : ExtractStores) (cache : Option (List ℕ)) (out : List ℕ) (l : Listing) (x : Seeds) (w : Disk) (v : World) (quiet : DiskQuiet w v.disk) (b : Map (List ℕ)) (n : Map (Map (List ℕ))) (one : IsSome cache → ListsOneSize l)
    (u : World) (files : u.disk.files ≡ Some b) (folders : u.disk.folders ≡ Some n) (so_far : Climbs w u.disk) where
  image_at_hand : (i : Into) (c : Disk) → Climbs c v.disk → ((k : ℕ) → k < count_of l → IsAtHand b n i l x (near cache stores.groups) k) → (o : Outcome) → ImageMade sure stores cache i l x (storage u.disk u.dial) (Err o) (storage c v.dial) → o ≡ ends.Memory
  image_at_hand i c later hand o h =
      assembled_at_hand (storage u.disk u.dial) (storage c v.dial) (none_rose w u.disk c v.disk quiet so_far later) b n files folders h.2 stores cache i l x h.1.folders one hand o h.0

  renamed_at_hand : (m c : Disk) (k : DialState) → Climbs m v.disk → Climbs c v.disk → ImageMade sure stores cache (beside out) l x (storage u.disk u.dial) (Ok tt) (storage m k) → (o : Outcome) → Renamed (temporary_out out) out m (Err o) c → o ≡ ends.Memory
  renamed_at_hand m c k mid later made o h = go o h.0 where
    made_so : (a : Map (List ℕ)) × (m.files ≡ Some a) × (cs : List (Map (List ℕ))) × (((t : List ℕ) × KeepsIn u.disk m b a (beside out) l t × IsRight t l)
        × WhereMembers n stores (λ fs. (i : ℕ) → i < count_of l → HadFrom b (beside out) l x cs fs i))
    made_so = from_told u.disk m cache _ b n files folders made.2 made.0

    there : made_so.0 (temporary_out out) ≡ Some made_so.3.0.0
    there = ap (λ (y : Map (List ℕ)). y (temporary_out out)) made_so.3.0.1.0 ∙ at_same b (temporary_out out) (Some made_so.3.0.0)

    climbed : Climbs w m
    climbed = climbs_on w u.disk m so_far (filled_climbs stores cache l u.disk m made.1)

    go : (o : Outcome) → NotRenamed (temporary_out out) out m o c → o ≡ ends.Memory
    go (ends.NoFile name) r =
        let gone : made_so.0 (temporary_out out) ≡ None = subst (λ f. IfSome f (λ y. y (temporary_out out) ≡ None)) made_so.1 r.1 in
        absurd (none-some _ (sym gone ∙ there))
    go (ends.FileFault name) r = absurd ((none_rose w m c v.disk quiet climbed later).files out r.1)
    go ends.Memory r = refl
    go other r = absurd r

  out_at_hand : (place : Bool) → ((k : ℕ) → k < count_of l → IsAtHand b n (into place out) l x (near cache stores.groups) k) → (o : Outcome) → OutMade sure place stores cache out l x u (Err o) v → o ≡ ends.Memory
  out_at_hand true hand o h = image_at_hand (in_place out) v.disk (self_climbs v.disk) hand o h.0
  out_at_hand false hand o (inl h) = image_at_hand (beside out) h.0.0 (wrote_climbs h.0.0 v.disk (wrote_on h.0.0 v.disk (temporary_out out) h.0.2.1)) hand o h.0.1
  out_at_hand false hand o (inr h) =
      let c = h.then.0.0 in
      let r = h.then.0.1.0 in
      let later : Climbs c v.disk = wrote_climbs c v.disk (wrote_on c v.disk (temporary_out out) h.then.0.2.1) in
      renamed_at_hand h.disk c h.dial (climbs_on h.disk c v.disk (wrote_climbs h.disk c (wrote_on h.disk c out r.2)) later) later h.did.0 o r

-- ---- the command

module _ (sure : NeverFail) (stores : ExtractStores) (cache : Option (List ℕ)) (seeds : List (List ℕ)) (place : Bool) (index out : List ℕ) (w v : World) (quiet : DiskQuiet w.disk v.disk) (b : Map (List ℕ)) (n : Map (Map (List ℕ))) (files : w.disk.files ≡ Some b) (folders : w.disk.folders ≡ Some n)
    (no : NeedsNoServer b n stores.groups cache seeds (into place out) index) where
  abbrev seeds_of : List Listing → Seeds
  seeds_of ls = record { images = map image_name seeds; listings = ls }

  -- between the world before and a step that ended the command
  still : (d : Disk) → Climbs w.disk d → NoneRose d v.disk
  still d so_far = none_rose w.disk d v.disk v.disk quiet so_far (self_climbs v.disk)

  same_listings : (d : Disk) → d.files ≡ Some b → (names : List (List ℕ)) (ls ms : List Listing) → AllZip (λ q l. Listed d q l) names ls → AllZip (λ q l. IsListed b q l) names ms → ls ≡ ms
  same_listings d is [] [] [] x y = refl
  same_listings d is [] [] (m ∷ ms) x y = absurd y
  same_listings d is [] (l ∷ ls) ms x y = absurd x
  same_listings d is (q ∷ names) [] ms x y = absurd x
  same_listings d is (q ∷ names) (l ∷ ls) [] x y = absurd y
  same_listings d is (q ∷ names) (l ∷ ls) (m ∷ ms) x y =
      let first : l ≡ m = same_listing b q l m (subst (λ f. IfSome f (λ z. IsListed z q l)) is x.0) y.0 in
      let rest = same_listings d is names ls ms x.1 y.1 in
      ap (λ z. z ∷ ls) first ∙ ap (λ zs. m ∷ zs) rest

  -- each entry is at hand of what the steps have read
  abbrev AllNear : Listing → List Listing → Type 0
  AllNear l ls = (i : ℕ) → i < count_of l → IsAtHand b n (into place out) l (seeds_of ls) (near cache stores.groups) i

  pub extracted_at_hand : (o : Outcome) → ExtractEnds sure stores cache seeds place index out w (Err o) v → o ≡ ends.Memory
  extracted_at_hand o (inl h) = unread w.disk v.disk b files (still w.disk (self_climbs w.disk)) index no.listing o no.listed (got_file index (storage_of w) (Err o) (storage_of v) no.file h.0).0.0
  extracted_at_hand o (inr h) = seeds_then h.then where
    got : IndexRead index w.disk (Ok h.gave) h.disk
    got = (got_file index (storage_of w) (Ok h.gave) (storage h.disk h.dial) no.file h.did.0).0

    read : Reads w.disk h.disk
    read = got.1

    files1 : h.disk.files ≡ Some b
    files1 = read.files ∙ files

    is_listing : h.gave ≡ no.listing
    is_listing = same_listing b index h.gave no.listing (subst (λ f. IfSome f (λ z. IsListed z index h.gave)) files got.0) no.listed

    climbs1 : Climbs w.disk h.disk
    climbs1 = read_climbs w.disk h.disk read

    seeds_then : (OnDisk (IndexesRead seeds) >>= (λ ls. OnDisk (SourcesOpened (stores_of stores.groups)) >>= (λ u. OnDisk (CacheOpened (stores_of stores.groups) cache) >>= (λ u. OutMade sure place stores cache out h.gave (seeds_of ls))))) (world h.disk h.dial h.out) (Err o) v → o ≡ ends.Memory
    seeds_then (inl k) = seeds_unread h.disk v.disk b files1 (still h.disk climbs1) 0 seeds no.listings o no.seeds_listed no.few k.0.0
    seeds_then (inr k) = stores_then k.then where
      files2 : k.disk.files ≡ Some b
      files2 = k.did.0.1.files ∙ files1

      folders2 : k.disk.folders ≡ Some n
      folders2 = k.did.0.1.folders ∙ read.folders ∙ folders

      climbs2 : Climbs w.disk k.disk
      climbs2 = climbs_on w.disk h.disk k.disk climbs1 (read_climbs h.disk k.disk k.did.0.1)

      are_listings : k.gave ≡ no.listings
      are_listings = same_listings h.disk files1 seeds k.gave no.listings k.did.0.0.0 no.seeds_listed

      hand : AllNear h.gave k.gave
      hand = subst (λ l. AllNear l k.gave) (sym is_listing) (subst (λ ls. AllNear no.listing ls) (sym are_listings) no.at_hand)

      stores_then : (OnDisk (SourcesOpened (stores_of stores.groups)) >>= (λ u. OnDisk (CacheOpened (stores_of stores.groups) cache) >>= (λ u. OutMade sure place stores cache out h.gave (seeds_of k.gave)))) (world k.disk k.dial k.out) (Err o) v → o ≡ ends.Memory
      stores_then (inl m) = elim m.0.0 [ inl first ↦ unreached k.disk v.disk n folders2 (still k.disk climbs2) (stores_of stores.groups) o no.there first | inr memory ↦ memory ]
      stores_then (inr m) = cache_then m.then where
        folders3 : m.disk.folders ≡ Some n
        folders3 = m.did.0.1.folders ∙ folders2

        climbs3 : Climbs w.disk m.disk
        climbs3 = climbs_on w.disk k.disk m.disk climbs2 (read_climbs k.disk m.disk m.did.0.1)

        cache_then : (OnDisk (CacheOpened (stores_of stores.groups) cache) >>= (λ u. OutMade sure place stores cache out h.gave (seeds_of k.gave))) (world m.disk m.dial m.out) (Err o) v → o ≡ ends.Memory
        cache_then (inl g) = cache_unreached m.disk v.disk n folders3 (still m.disk climbs3) (stores_of stores.groups) cache o no.cache_there g.0
        cache_then (inr g) =
            let reached = cache_reads (stores_of stores.groups) cache m.disk g.disk (Ok tt) g.did.0 in
            out_at_hand sure stores cache out h.gave (seeds_of k.gave) w.disk v quiet b n (λ c. subst ListsOneSize (sym is_listing) (no.one_size c)) (world g.disk g.dial g.out) (reached.files ∙ m.did.0.1.files ∙ files2) (reached.folders ∙ folders3)
            (climbs_on w.disk m.disk g.disk climbs3 (read_climbs m.disk g.disk reached)) place hand o g.then
