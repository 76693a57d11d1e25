-- What `extract` answers and leaves where nothing fails.
use Rattle.std.proofs.Common.{ap, arith, ◌⊎◌, ◌++◌, ◌≡◌, ◌∙◌, ℕ, ◌<◌, Bool, true, false, cond, List, [], ◌∷◌, drop, length, map, slice_index_or, is_some, Option, Some, None, IfSome, IsSome, IsTrue, refl, subst, sym, inl, inr, Result, Ok, Err}
use Rattle.std.proofs.lemmas.Option.{none-some, same_Some}
use Rattle.std.specs.List.{Any}
use Rattle.std.specs.Option.{option_map}
use Rattle.std.specs.Str.{bytes_eq}
use Rattle.cache_store.specs.Giving.{GiveOneSize}
use Rattle.caibx_codec.specs.Listing.{Listing, count_of, image_length, kind_of, size_of}
use Rattle.chunk_sources.specs.Caches.{IsListedAs}
use Rattle.chunk_sources.specs.Losses.{chunk_of}
use Rattle.chunk_store.proofs.Members.{agree_alone, told_alone}
use Rattle.chunk_store.specs.Folders.{chunks}
use Rattle.chunk_store.specs.Giving.{IsChunk, GivesChunk}
use Rattle.chunk_store.specs.Members.{maps_of}
use Rattle.chunk_store.specs.declared.id.ChunkId.{ChunkId}
use Rattle.chunk_store.specs.declared.id.DigestKind.{DigestKind}
use Rattle.command_groups.proofs.Seen.{alone_files}
use Rattle.command_outcome.specs.declared.outcome.Outcome.{Outcome}
use Rattle.command_outcome.specs.declared.outcome.Outcome.TheVariants as ends
use Rattle.command_indexes.specs.Places.{is_file}
use Rattle.command_steps.proofs.Taken.{at_name_twice}
use Rattle.command_steps.specs.Cache.{CacheOpened}
use Rattle.command_steps.specs.Seeds.{IndexesRead, image_name}
use Rattle.command_steps.specs.Sources.{NotAsking, OnStorage, SourcesOpened, storage, storage_of}
use Rattle.command_steps.specs.Stores.{are_folders}
use Rattle.command_words.specs.declared.command.Location.TheVariants as locations
use Rattle.command_worlds.specs.Steps.{◌>>=◌, outcome_of}
use Rattle.command_worlds.specs.Worlds.{DiskQuiet, FileRose, OnDisk, World, world}
use Rattle.desync_cli.proofs.Climbs.{Climbs, NoneRose, climbs_on, filled_climbs, none_rose, self_climbs, wrote_climbs}
use Rattle.desync_cli.proofs.ExactCache.{is_memory}
use Rattle.command_groups.specs.Groups.{first_store, group_files, stores_of, member_files}
use Rattle.desync_cli.proofs.Grouped.{AreTelling, none_lacking, tells_first}
use Rattle.desync_cli.proofs.Readings.{EndsSo, IsAt, IsQuiet, any_cache_so, at_first, index_so, indexes_so, some_not, stores_so}
use Rattle.desync_cli.specs.AtHand.{into}
use Rattle.desync_cli.specs.Contents.{Contents, HasContents, folders_at, index_at, indexes_at}
use Rattle.desync_cli.specs.Exact.{CacheGains, Extracts, GainsListed, IsFirstLacking, IsListedBy, NamesLacking, OutBecomes, firsts_of}
use Rattle.dsy_base.proofs.Counts.{at_same}
use Rattle.dsy_base.specs.Disk.{Disk}
use Rattle.dsy_base.specs.Links.{DialState}
use Rattle.dsy_base.specs.Maps.{Map, at_name}
use Rattle.extract_command.proofs.Wrote.{wrote_on}
use Rattle.extract_command.specs.Extract.{AreFilled, Assembled, CacheFilled, CacheGrows, Cleared, Clearing, ExtractEnds, ExtractStores, FillsCache, HadFrom, ImageMade, Into, IsCounted, NeverFail, NotRenamed, OutMade, Renamed, Seeds, StopsLacking, Told, Undisturbed, base_of, beside, folder_of, in_place, temporary_out, AgreeOnListed}
use Rattle.store_chain.specs.declared.refused.Refused.{Refused}
use Rattle.store_chain.specs.declared.refused.Refused.TheVariants as refused

-- lists of the same maps
same_maps : (xs ys : List (Map (List ℕ))) → map Some xs ≡ map Some ys → xs ≡ ys
same_maps [] [] same = refl
same_maps [] (y ∷ ys) same = absurd (cc)
same_maps (x ∷ xs) [] same = absurd (cc)
same_maps (x ∷ xs) (y ∷ ys) same =
    let first : Some x ≡ Some y = ap (λ (l : List (Option (Map (List ℕ)))). slice_index_or l 0 None) same in
    let rest : map Some xs ≡ map Some ys = ap (λ (l : List (Option (Map (List ℕ)))). drop 1 l) same in
    ap (λ z. z ∷ xs) (same_Some _ _ first) ∙ ap (λ zs. y ∷ zs) (same_maps xs ys rest)

-- a file that was written under a name, took another one's place and is gone
taken_over : (b : Map (List ℕ)) (tmp out : List ℕ) (t : Option (List ℕ)) → at_name (at_name (at_name b tmp t) out t) tmp None ≡ at_name (at_name b out t) tmp None
taken_over b tmp out t = λ i q. over (bytes_eq tmp q) (bytes_eq out q) (b q) i where
  over : (c d : Bool) (r : Option (List ℕ)) → cond c None (cond d t (cond c t r)) ≡ cond c None (cond d t r)
  over true d r = refl
  over false d r = refl

-- no call fails between a world before and a disk after
quiet_between : (w d e v : Disk) → DiskQuiet w v → Climbs w d → Climbs e v → DiskQuiet d e
quiet_between w d e v quiet a b = record {
  files = λ q. let last = quiet.files q in let first = a.files q in let after = b.files q in record { same = omega (arith, last.same, first, after); below = omega (arith, last.below, after) };
  folders = λ q. let last = quiet.folders q in let first = a.folders q in let after = b.folders q in record { same = omega (arith, last.same, first, after); below = omega (arith, last.below, after) };
}

module _ (x : Contents) (w v u : World) (at : IsAt x w u) (quiet : IsQuiet w v) (stores : ExtractStores) (telling : AreTelling stores.sure stores.groups) (all : IsTrue (are_folders (stores_of stores.groups))) (fs : List (Map (List ℕ))) (are : map (group_files stores.sure x.folders) stores.groups ≡ map Some fs)
    (cache : Option (List ℕ)) (cs : List (Map (List ℕ))) (cached : map x.folders (folder_of cache) ≡ map Some cs) (l : Listing) (z : Seeds) where
  so_far : Climbs w.disk u.disk
  so_far = record { files = at.files; folders = at.folders }

  -- each group answers alone, and agrees with itself
  answering : maps_of (member_files stores.sure x.folders) stores.groups ≡ Some fs
  answering = told_alone (group_files stores.sure x.folders) (member_files stores.sure x.folders) (alone_files stores.sure x.folders) stores.groups fs are

  agreeing : AgreeOnListed x.folders stores l
  agreeing id size listed = agree_alone (group_files stores.sure x.folders) (member_files stores.sure x.folders) (alone_files stores.sure x.folders)
      (λ f. GivesChunk (kind_of l) id size (chunks f id)) stores.groups fs are

  -- what is said over files and folders that tell
  told_so : (e : Disk) (P : Map (List ℕ) → Map (List ℕ) → Map (Map (List ℕ)) → List (Map (List ℕ)) → Type 0) → is_some e.files ≡ is_some u.disk.files → Told u.disk e cache P → (a : Map (List ℕ)) × (e.files ≡ Some a) × P x.files a x.folders cs
  told_so e P tells h = go e.files refl (subst (λ f. is_some e.files ≡ is_some f) at.has.files tells)
      (subst (λ g. IfSome g (λ n. IfSome e.files (λ a. (cs : List (Map (List ℕ))) × (map n (folder_of cache) ≡ map Some cs) × P x.files a n cs))) at.has.folders
      (subst (λ f. IfSome f (λ b. IfSome u.disk.folders (λ n. IfSome e.files (λ a. (cs : List (Map (List ℕ))) × (map n (folder_of cache) ≡ map Some cs) × P b a n cs)))) at.has.files h)) where
        go : (f : Option (Map (List ℕ))) → e.files ≡ f → is_some e.files ≡ true → IfSome e.files (λ a. (cs : List (Map (List ℕ))) × (map x.folders (folder_of cache) ≡ map Some cs) × P x.files a x.folders cs) → (a : Map (List ℕ)) × (e.files ≡ Some a) × P x.files a x.folders cs
        go None is some h = let no : false ≡ true = ap is_some (sym is) ∙ some in absurd (cc)
        go (Some a) is some h =
            let so : (cs : List (Map (List ℕ))) × (map x.folders (folder_of cache) ≡ map Some cs) × P x.files a x.folders cs = subst (λ f. IfSome f (λ a. (cs : List (Map (List ℕ))) × (map x.folders (folder_of cache) ≡ map Some cs) × P x.files a x.folders cs)) is h in
            let same : so.0 ≡ cs = same_maps so.0 cs (sym so.1 ∙ cached) in
            (a, is, subst (λ c. P x.files a x.folders c) same so.2)

  -- ---- the cache

  gains_so : (m : Map (Map (List ℕ))) → m ≡ x.folders → (f g : Map (List ℕ)) → CacheGrows l m stores f g → GainsListed (IsListedBy l) (map chunks fs) f g
  gains_so m same f g grows = record { held = held; strangers = grows.strangers } where
    holds : maps_of (member_files stores.sure m) stores.groups ≡ Some fs
    holds = subst (λ n. maps_of (member_files stores.sure n) stores.groups ≡ Some fs) (sym same) answering

    held : (id : List ℕ) → (chunks g id ≡ chunks f id) ⊎ ((b : List ℕ) × (chunks g id ≡ Some b) × ((kind : DigestKind) × (n : ℕ) × IsListedBy l kind id n × IsChunk kind id n b) × Any (λ m. m id ≡ Some b) (map chunks fs))
    held id = elim (grows.held id) [
      | inl same ↦ inl same
      | inr (b, is, from) ↦ inr (
        b,
        is,
        (kind_of l, size_of l from.0, (refl, (from.0, from.1, sym from.2, refl)), record { named = from.3.named ∙ sym from.2; sized = from.3.sized }),
        subst (λ (q : List ℕ). Any (λ m. m q ≡ Some b) (map chunks fs)) (sym from.2) (from.4 fs holds),
      )
    ]

  -- the folders afterwards
  folders_so : (e : Disk) → CacheFilled stores cache l u.disk e → (n : Map (Map (List ℕ))) × (e.folders ≡ Some n) × CacheGains cache l (map chunks fs) x.folders n
  folders_so e h = go cache h where
    go : (cache : Option (List ℕ)) → CacheFilled stores cache l u.disk e → (n : Map (Map (List ℕ))) × (e.folders ≡ Some n) × CacheGains cache l (map chunks fs) x.folders n
    go None same = (x.folders, same ∙ at.has.folders, refl)
    go (Some c) h = over e.folders refl (h.0 ∙ ap is_some at.has.folders) (subst (λ f. Filled f e.folders) at.has.folders h.1) where
      Filled : Option (Map (Map (List ℕ))) → Option (Map (Map (List ℕ))) → Type 0
      Filled f g = IfSome f (λ m. IfSome g (λ n. (f : Map (List ℕ)) × (m c ≡ Some f) × (g : Map (List ℕ)) × (n ≡ at_name m c (Some g)) × CacheGrows l m stores f g))

      over : (o : Option (Map (Map (List ℕ)))) → e.folders ≡ o → is_some e.folders ≡ true → Filled (Some x.folders) e.folders → (n : Map (Map (List ℕ))) × (e.folders ≡ Some n) × CacheGains (Some c) l (map chunks fs) x.folders n
      over None is some h = let no : false ≡ true = ap is_some (sym is) ∙ some in absurd (cc)
      over (Some n) is some h =
          let so : Filled (Some x.folders) (Some n) = subst (λ o. Filled (Some x.folders) o) is h in
          (n, is, (so.0, so.1, so.2, so.3, gains_so x.folders refl so.0 so.2 so.4))

  -- ---- the assembly, to a disk after it

  module _ (i : Into) where
    abbrev Had : ℕ → Type 0
    Had = HadFrom x.files i l z cs fs

    -- what the file holds
    pub record Holds (e : Disk) : Type 0 where
      pub image : List ℕ
      pub size : length image ≡ image_length l
      pub filled : AreFilled l Had (base_of x.files i l) image
      pub is : e.files ≡ Some (at_name x.files i.name (Some image))

    module _ (e : Disk) (k : DialState) (later : Climbs e v.disk) (tells : is_some e.files ≡ is_some u.disk.files) where
      unrisen : NoneRose u.disk e
      unrisen = none_rose w.disk u.disk e v.disk quiet.disk so_far later

      made_so : Assembled (storage_of u) (storage e k) stores cache i l z (Ok tt) → Holds e × ((j : ℕ) → j < count_of l → Had j)
      made_so h =
          let t = told_so e _ tells h in
          let had = t.2.1 fs answering in
          (record { image = t.2.0.0; size = t.2.0.2.size; filled = λ j lt. (λ p. t.2.0.2.entries j lt, λ no. absurd (no (had j lt))); is = t.1 ∙ ap Some t.2.0.1.0 }, had)

      module _ (one : IsSome cache → GiveOneSize (IsListedAs l) (kind_of l) (map chunks cs ++ map chunks fs)) where
        undisturbed : Undisturbed u.disk e x.folders stores cache l cs fs
        undisturbed = record { quiet = quiet_between w.disk u.disk e v.disk quiet.disk so_far later; agree = agreeing; one_size = one }

        lacking_so : (n : ℕ) (id : ChunkId) (r : Refused) → StopsLacking (storage_of u) (storage e k) stores cache i l z n id r → Holds e × IsFirstLacking (first_store stores.groups) l Had (map chunks fs) n id r
        lacking_so n id r h =
            let t = told_so e _ tells h in (
              record { image = t.2.0.0; size = t.2.0.1.1.size; filled = t.2.0.4 fs answering undisturbed; is = t.1 ∙ ap Some t.2.0.1.0 },
              record { listed = t.2.1.listed; least = t.2.2 fs answering undisturbed; id_is = t.2.1.id_is; lacks = t.2.1.lacks fs are },
            )

        refused_so : (o : Outcome) → Assembled (storage_of u) (storage e k) stores cache i l z (Err o) → (o ≡ ends.Memory) ⊎ (Holds e × NamesLacking (first_store stores.groups) l Had (map chunks fs) o)
        refused_so (ends.Missing n id) h = inr (lacking_so n id refused.Missing h)
        refused_so (ends.Damaged n id s y) h = inr (lacking_so n id (refused.Damaged s y) h)
        refused_so (ends.StoreFault s) h = absurd (none_lacking stores.retries (chunk_of (kind_of l) h.0.1 (size_of l h.0.0)) (storage_of u) (storage e k) unrisen.folders s stores.groups telling.have all h.0.4)
        refused_so ends.TargetFault h = absurd (unrisen.files i.name h.0)
        refused_so ends.Memory h = inl refl
        refused_so other h = absurd h

  -- ---- OUT

  module _ (sure : NeverFail) (out : List ℕ) where
    abbrev tmp : List ℕ
    tmp = temporary_out out

    abbrev One : Type 0
    One = IsSome cache → GiveOneSize (IsListedAs l) (kind_of l) (map chunks cs ++ map chunks fs)

    -- what is answered, and what becomes of OUT
    record OutSo (place : Bool) (o : Outcome) : Type 0 where
      answer : ((o ≡ ends.Done) × ((j : ℕ) → j < count_of l → Had (into place out) j)) ⊎ NamesLacking (first_store stores.groups) l (Had (into place out)) (map chunks fs) o
      image : List ℕ
      size : length image ≡ image_length l
      filled : AreFilled l (Had (into place out)) (base_of x.files (into place out) l) image
      becomes : (a : Map (List ℕ)) → v.disk.files ≡ Some a → OutBecomes place out image o x.files a

    ends_out : (place : Bool) (o : Outcome) (c : Disk) → v.out ≡ u.out → is_some v.disk.files ≡ is_some u.disk.files → FillsCache stores cache l u.disk c → v.disk.folders ≡ c.folders → (One → OutSo place o) → EndsSo x v (Extracts (first_store stores.groups) l z fs cs cache place out) o
    ends_out place o c same tells fills kept so =
        let a = some_not v.disk.files (tells ∙ ap is_some at.has.files) in
        let n = folders_so c fills.folders in
        inr (
          record { files = a.0; folders = n.0; printed = x.printed },
          record { files = a.1; folders = kept ∙ n.1; printed = ap (λ p. p.taken) same ∙ at.has.printed },
          λ one.
              let h = so one in
              record { answer = h.answer; image = h.image; size = h.size; filled = h.filled; becomes = h.becomes a.0 a.1; gains = n.2; printed = refl },
        )

    -- in its place

    made_in_place : (r : Result Unit Outcome) → OnStorage (ImageMade sure stores cache (in_place out) l z) u r v → EndsSo x v (Extracts (first_store stores.groups) l z fs cs cache true out) (outcome_of r)
    made_in_place (Ok _) h = ends_out true ends.Done v.disk h.1 h.0.2 h.0.1 refl (λ one.
        let t = made_so (in_place out) v.disk v.dial (self_climbs v.disk) h.0.2 h.0.0 in
        record { answer = inl (refl, t.1); image = t.0.image; size = t.0.size; filled = t.0.filled; becomes = λ a is. same_Some _ _ (sym is ∙ t.0.is) })
    made_in_place (Err o) h = elim (is_memory o) [
      | inl none ↦ inl none
      | inr other ↦ ends_out true o v.disk h.1 h.0.2 h.0.1 refl (λ one. elim (refused_so (in_place out) v.disk v.dial (self_climbs v.disk) h.0.2 one o h.0.0) [
        | inl none ↦ absurd (other none)
        | inr t ↦ record { answer = inr t.1; image = t.0.image; size = t.0.size; filled = t.0.filled; becomes = λ a is. same_Some _ _ (sym is ∙ t.0.is) }
      ])
    ]

    -- by way of the temporary file

    gone_as : (o : Outcome) (t : List ℕ) (a : Map (List ℕ)) → NamesLacking (first_store stores.groups) l (Had (beside out)) (map chunks fs) o → a ≡ at_name x.files tmp None → OutBecomes false out t o x.files a
    gone_as (ends.Missing k id) t a names is = is
    gone_as (ends.Damaged k id s y) t a names is = is
    gone_as other t a names is = absurd names

    cleared_so : (c : Disk) (t : List ℕ) → Climbs w.disk c → c.files ≡ Some (at_name x.files tmp (Some t)) → (o : Outcome) → (o ≡ ends.Memory → ⊥) → IsCounted tmp u.disk (Err o) c → Cleared tmp c v.disk → (a : Map (List ℕ)) → v.disk.files ≡ Some a → a ≡ at_name x.files tmp None
    cleared_so c t from is o other numbered cleared a end = elim cleared.0 [
      | inl gone ↦ same_Some _ _ (sym end ∙ gone ∙ ap (option_map (λ m. at_name m tmp None)) is) ∙ at_name_twice x.files tmp (Some t) None
      | inr (same, inl none) ↦ absurd (none-some _ (sym (subst (λ f. IfSome f (λ m. m tmp ≡ None)) is none) ∙ at_same x.files tmp (Some t)))
      | inr (same, inr (inl rose)) ↦ absurd ((none_rose w.disk c v.disk v.disk quiet.disk from (self_climbs v.disk)).files tmp rose)
      | inr (same, inr (inr unknown)) ↦ absurd (unnumbered numbered unknown)
    ] where
      unnumbered : IsCounted tmp u.disk (Err o) c → c.file_counts tmp ≡ None → ⊥
      unnumbered (inl known) unknown = let no : true ≡ false = sym known ∙ ap is_some unknown in absurd (cc)
      unnumbered (inr memory) unknown = other (ap outcome_of memory.0)

    refused_beside : (o : Outcome) → v.out ≡ u.out → Clearing tmp (ImageMade sure stores cache (beside out) l z) (storage_of u) (Err o) (storage_of v) → EndsSo x v (Extracts (first_store stores.groups) l z fs cs cache false out) o
    refused_beside o same (c, made, cleared) = elim (is_memory o) [
      | inl none ↦ inl none
      | inr other ↦ ends_out false o c same (tells cleared.0 ∙ made.2) made.1 cleared.1.folders (λ one. elim (refused_so (beside out) c v.dial later made.2 one o made.0) [
        | inl none ↦ absurd (other none)
        | inr t ↦ record {
          answer = inr t.1;
          image = t.0.image;
          size = t.0.size;
          filled = t.0.filled;
          becomes = λ a is. gone_as o t.0.image a t.1 (cleared_so c t.0.image (climbs_on w.disk u.disk c so_far (filled_climbs stores cache l u.disk c made.1)) t.0.is o other made.4 cleared a is);
        }
      ])
    ] where
      later : Climbs c v.disk
      later = wrote_climbs c v.disk (wrote_on c v.disk tmp cleared.1)

      tells : (v.disk.files ≡ option_map (λ m. at_name m tmp None) c.files) ⊎ ((v.disk.files ≡ c.files) × (IfSome c.files (λ m. m tmp ≡ None) ⊎ (FileRose c v.disk tmp ⊎ (c.file_counts tmp ≡ None)))) → is_some v.disk.files ≡ is_some c.files
      tells (inl gone) = ap is_some gone ∙ mapped c.files where
        mapped : (f : Option (Map (List ℕ))) → is_some (option_map (λ m. at_name m tmp None) f) ≡ is_some f
        mapped None = refl
        mapped (Some m) = refl
      tells (inr kept) = ap is_some kept.0

    module _ (n : World) (same : n.out ≡ u.out) (made : ImageMade sure stores cache (beside out) l z (storage_of u) (Ok tt) (storage_of n)) where
      climbed : Climbs w.disk n.disk
      climbed = climbs_on w.disk u.disk n.disk so_far (filled_climbs stores cache l u.disk n.disk made.1)

      renamed_so : OnStorage (NotAsking (Renamed tmp out)) n (Ok tt) v → EndsSo x v (Extracts (first_store stores.groups) l z fs cs cache false out) ends.Done
      renamed_so h = ends_out false ends.Done n.disk (h.1 ∙ same) (ap is_some h.0.0.0 ∙ mapped n.disk.files ∙ made.2) made.1 h.0.0.1.folders (λ one.
          let t = made_so (beside out) n.disk n.dial (wrote_climbs n.disk v.disk (wrote_on n.disk v.disk out h.0.0.1)) made.2 made.0 in
          record { answer = inl (refl, t.1); image = t.0.image; size = t.0.size; filled = t.0.filled; becomes = becomes t.0.image t.0.is }) where
            move : Map (List ℕ) → Map (List ℕ)
            move m = at_name (at_name m out (m tmp)) tmp None

            mapped : (f : Option (Map (List ℕ))) → is_some (option_map move f) ≡ is_some f
            mapped None = refl
            mapped (Some m) = refl

            becomes : (t : List ℕ) → n.disk.files ≡ Some (at_name x.files tmp (Some t)) → (a : Map (List ℕ)) → v.disk.files ≡ Some a → a ≡ at_name (at_name x.files out (Some t)) tmp None
            becomes t was a is =
                let m : Map (List ℕ) = at_name x.files tmp (Some t) in
                same_Some _ _ (sym is ∙ h.0.0.0 ∙ ap (option_map move) was) ∙ ap (λ o. at_name (at_name m out o) tmp None) (at_same x.files tmp (Some t)) ∙ taken_over x.files tmp out (Some t)

      unrenamed : (c : Disk) → Climbs c v.disk → (o : Outcome) → Renamed tmp out n.disk (Err o) c → o ≡ ends.Memory
      unrenamed c later o h = go o h.0 where
        t : Holds (beside out) n.disk × ((j : ℕ) → j < count_of l → Had (beside out) j)
        t = made_so (beside out) n.disk n.dial (climbs_on n.disk c v.disk (wrote_climbs n.disk c (wrote_on n.disk c out h.2)) later) made.2 made.0

        go : (o : Outcome) → NotRenamed tmp out n.disk o c → o ≡ ends.Memory
        go (ends.NoFile name) r =
            let gone : at_name x.files tmp (Some t.0.image) tmp ≡ None = subst (λ f. IfSome f (λ m. m tmp ≡ None)) t.0.is r.1 in
            absurd (none-some _ (sym gone ∙ at_same x.files tmp (Some t.0.image)))
        go (ends.FileFault name) r = absurd ((none_rose w.disk n.disk c v.disk quiet.disk climbed later).files out r.1)
        go ends.Memory r = refl
        go other r = absurd r

    made_beside : (r : Result Unit Outcome) → OutMade sure false stores cache out l z u r v → EndsSo x v (Extracts (first_store stores.groups) l z fs cs cache false out) (outcome_of r)
    made_beside (Ok _) h = renamed_so (world h.disk h.dial h.out) h.did.1 h.did.0 h.then
    made_beside (Err o) (inl h) = refused_beside o h.1 h.0
    made_beside (Err o) (inr h) =
        let c = h.then.0 in
        inl (unrenamed (world h.disk h.dial h.out) h.did.1 h.did.0 c.0 (wrote_climbs c.0 v.disk (wrote_on c.0 v.disk tmp c.2.1)) o c.1.0)

    out_so : (place : Bool) (r : Result Unit Outcome) → OutMade sure place stores cache out l z u r v → EndsSo x v (Extracts (first_store stores.groups) l z fs cs cache place out) (outcome_of r)
    out_so true r h = made_in_place r h
    out_so false r h = made_beside r h

-- ---- the command

module _ (x : Contents) (w v : World) (quiet : IsQuiet w v) (sure : NeverFail) (stores : ExtractStores) (telling : AreTelling stores.sure stores.groups) (all : IsTrue (are_folders (stores_of stores.groups))) (cache : Option (List ℕ)) (seeds : List (List ℕ)) (place : Bool) (index out : List ℕ) where
  abbrev seeds_of : List Listing → Seeds
  seeds_of ls = record { images = map image_name seeds; listings = ls }

  pub extracts_so : IsTrue (is_file index) → HasContents w x → (r : Result Unit Outcome) → ExtractEnds sure stores cache seeds place index out w r v
      → EndsSo x v (index_at index (λ l. indexes_at 0 seeds (λ ls. folders_at (stores_of stores.groups) (λ fs. folders_at (map locations.Folder (folder_of cache)) (λ cs. Extracts (first_store stores.groups) l (seeds_of ls) (firsts_of stores.groups fs) cs cache place out))))) (outcome_of r)
  extracts_so file has = index_so x w v quiet index file (λ l. indexes_at 0 seeds (λ ls. folders_at (stores_of stores.groups) (λ fs. folders_at (map locations.Folder (folder_of cache)) (λ cs. Extracts (first_store stores.groups) l (seeds_of ls) (firsts_of stores.groups fs) cs cache place out))))
      (λ l. OnDisk (IndexesRead seeds) >>= (λ ls. OnDisk (SourcesOpened (stores_of stores.groups)) >>= (λ _. OnDisk (CacheOpened (stores_of stores.groups) cache) >>= (λ _. OutMade sure place stores cache out l (seeds_of ls)))))
      (λ l e at is. indexes_so x w v quiet seeds (λ ls. folders_at (stores_of stores.groups) (λ fs. folders_at (map locations.Folder (folder_of cache)) (λ cs. Extracts (first_store stores.groups) l (seeds_of ls) (firsts_of stores.groups fs) cs cache place out)))
      (λ ls. OnDisk (SourcesOpened (stores_of stores.groups)) >>= (λ _. OnDisk (CacheOpened (stores_of stores.groups) cache) >>= (λ _. OutMade sure place stores cache out l (seeds_of ls))))
      (λ ls e at. stores_so x w v quiet (stores_of stores.groups) all (λ fs. folders_at (map locations.Folder (folder_of cache)) (λ cs. Extracts (first_store stores.groups) l (seeds_of ls) (firsts_of stores.groups fs) cs cache place out))
      (λ _. OnDisk (CacheOpened (stores_of stores.groups) cache) >>= (λ _. OutMade sure place stores cache out l (seeds_of ls)))
      (λ fs e at are. any_cache_so x w v quiet (stores_of stores.groups) cache (λ cs. Extracts (first_store stores.groups) l (seeds_of ls) (firsts_of stores.groups fs) cs cache place out) (λ _. OutMade sure place stores cache out l (seeds_of ls))
      (λ cs u after cached. out_so x w v u after quiet stores telling all (firsts_of stores.groups fs) (tells_first stores.sure x.folders stores.groups fs telling are) cache cs cached l (seeds_of ls) sure out place) e at) e at) e at)
      w (at_first x w has)
