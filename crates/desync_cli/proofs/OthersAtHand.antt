-- A `cat` or `cache` that needs no server is done, unless there was no memory, or the output failed.
use Rattle.std.proofs.Common.{ap, ◌⊎◌, Bool, ◌≡◌, ◌≢◌, ◌∙◌, ℕ, ◌<◌, List, [], ◌∷◌, Option, Some, IfSome, refl, subst, sym, inl, inr, Ok, Err, IsTrue}
use Rattle.std.specs.List.{AllZip, Any}
use Rattle.cache_command.specs.Caching.{CacheEnds, EndsFilling, Evidence, FillTells, IndexesFilled, IsNotHad, NotFilled, of_command, outcome_of_fill}
use Rattle.cache_fill.specs.declared.fill.FillFault.{FillFault}
use Rattle.cache_fill.specs.declared.fill.FillFault.TheVariants as fills
use Rattle.caibx_codec.specs.Listing.{Listing, count_of}
use Rattle.cat_command.specs.Cat.{CatEnds, EndsRange, PutFrom, PutsBefore, range_size}
use Rattle.chunk_store.specs.declared.id.ChunkId.{ChunkId}
use Rattle.command_groups.specs.Groups.{stores_of}
use Rattle.command_indexes.proofs.Got.{got_file}
use Rattle.command_indexes.proofs.Spelled.{not_spelled_file, spells_file}
use Rattle.command_indexes.specs.Places.{are_files, is_file}
use Rattle.command_outcome.specs.declared.outcome.Outcome.{Outcome}
use Rattle.command_outcome.specs.declared.outcome.Outcome.TheVariants as ends
use Rattle.command_steps.proofs.Cached.{cache_reads}
use Rattle.command_steps.specs.Cache.{CacheOpened}
use Rattle.command_steps.specs.InputFiles.{IndexRead, IsListed}
use Rattle.command_steps.specs.Sources.{storage, storage_of, OnStorage}
use Rattle.command_words.specs.declared.command.Location.{Location}
use Rattle.command_worlds.specs.Steps.{◌>>=◌}
use Rattle.command_worlds.specs.Worlds.{DiskQuiet, OnDisk, World, world}
use Rattle.desync_cli.proofs.Climbs.{Climbs, NoneRose, cache_unreached, climbs_on, none_rose, read_climbs, same_listing, self_climbs, unread, unreached}
use Rattle.desync_cli.proofs.Mirrored.{groups_not}
use Rattle.desync_cli.proofs.Readings.{both_files}
use Rattle.desync_cli.specs.AtHand.{GroupGivesEntry, AllGiven, CacheNeedsNoServer, CatNeedsNoServer}
use Rattle.dsy_base.specs.Disk.{Disk}
use Rattle.dsy_base.specs.Maps.{Map}
use Rattle.image_reader.specs.Covered.{IsCovered, want_of}
use Rattle.store_chain.specs.declared.refused.Refused.{Refused}
use Rattle.store_chain.specs.declared.refused.Refused.TheVariants as refused

-- ---- `cat`

module _ (sure : Bool) (retries : ℕ) (groups : List (List Location)) (w v : World) (quiet : DiskQuiet w.disk v.disk) (b : Map (List ℕ)) (n : Map (Map (List ℕ))) (files : w.disk.files ≡ Some b) (folders : w.disk.folders ≡ Some n) where
  -- between a world on the way and the last one
  still : (d : Disk) → Climbs w.disk d → NoneRose d v.disk
  still d so_far = none_rose w.disk d v.disk v.disk quiet so_far (self_climbs v.disk)

  module _ (l : Listing) (at m : ℕ) (given : (i : ℕ) → IsCovered l at m i → Any (GroupGivesEntry n l i) groups) (u : World) (same : u.disk.folders ≡ Some n) (so_far : Climbs w.disk u.disk) where
    none_refused : (k : ℕ) (id : ChunkId) (r : Refused) → r ≢ refused.Memory → PutsBefore sure groups retries l at m u v k id r → ⊥
    none_refused k id r told h =
        groups_not (storage_of u) (storage_of v) (still u.disk so_far) n same l k (want_of l k).id refl retries groups r told h.said (given k h.covered)

    range_ended : (o : Outcome) → EndsRange sure groups retries l at m u v (Err o) → (o ≡ ends.OutFault) ⊎ (o ≡ ends.Memory)
    range_ended (ends.Missing k id) h = absurd (none_refused k id refused.Missing (λ no. absurd (cc)) h)
    range_ended (ends.Damaged k id s x) h = absurd (none_refused k id (refused.Damaged s x) (λ no. absurd (cc)) h)
    range_ended (ends.StoreFault s) h = absurd (none_refused h.0 h.1 (refused.StoreFault s) (λ no. absurd (cc)) h.2)
    range_ended ends.OutFault h = inl refl
    range_ended ends.Memory h = inr refl
    range_ended other h = absurd h

  pub range_at_hand : (offset : ℕ) (size : Option ℕ) (index : List ℕ) → CatNeedsNoServer b n groups offset size index → (o : Outcome) → CatEnds sure groups retries offset size index w (Err o) v → (o ≡ ends.OutFault) ⊎ (o ≡ ends.Memory)
  range_at_hand offset size index needs o (inl h) = inr (unread w.disk v.disk b files (still w.disk (self_climbs w.disk)) index needs.listing o needs.listed (got_file index (storage_of w) (Err o) (storage_of v) needs.file h.0).0.0)
  range_at_hand offset size index needs o (inr h) = stores_then h.then where
    got : IndexRead index w.disk (Ok h.gave) h.disk
    got = (got_file index (storage_of w) (Ok h.gave) (storage h.disk h.dial) needs.file h.did.0).0

    is_listing : h.gave ≡ needs.listing
    is_listing = same_listing b index h.gave needs.listing (subst (λ f. IfSome f (λ z. IsListed z index h.gave)) files got.0) needs.listed

    folders1 : h.disk.folders ≡ Some n
    folders1 = got.1.folders ∙ folders

    climbs1 : Climbs w.disk h.disk
    climbs1 = read_climbs w.disk h.disk got.1

    covered : (i : ℕ) → IsCovered h.gave offset (range_size h.gave offset size) i → Any (GroupGivesEntry n h.gave i) groups
    covered = subst (λ l. (i : ℕ) → IsCovered l offset (range_size l offset size) i → Any (GroupGivesEntry n l i) groups) (sym is_listing) needs.given

    stores_then : PutFrom sure groups retries h.gave offset (range_size h.gave offset size) (world h.disk h.dial h.out) (Err o) v → (o ≡ ends.OutFault) ⊎ (o ≡ ends.Memory)
    stores_then (inl m) = elim m.0.0 [ inl first ↦ inr (unreached h.disk v.disk n folders1 (still h.disk climbs1) (stores_of groups) o needs.there first) | inr memory ↦ inr memory ]
    stores_then (inr m) =
        range_ended h.gave offset (range_size h.gave offset size) covered (world m.disk m.dial m.out) (m.did.0.1.folders ∙ folders1) (climbs_on w.disk h.disk m.disk climbs1 (read_climbs h.disk m.disk m.did.0.1)) o m.then.0

-- ---- `cache`

module _ (sure : Bool) (e : ℕ) (groups : List (List Location)) (cache : List ℕ) (w v : World) (quiet : DiskQuiet w.disk v.disk) (b : Map (List ℕ)) (n : Map (Map (List ℕ))) (files : w.disk.files ≡ Some b) (folders : w.disk.folders ≡ Some n) where
  module _ (u : World) (same_files : u.disk.files ≡ Some b) (same : u.disk.folders ≡ Some n) (so_far : Climbs w.disk u.disk) where
    unrisen : NoneRose u.disk v.disk
    unrisen = none_rose w.disk u.disk v.disk v.disk quiet so_far (self_climbs v.disk)

    abbrev Over : Evidence
    Over = of_command sure e (storage_of u) (storage_of v) groups cache

    module _ (l : Listing) (given : (i : ℕ) → i < count_of l → Any (GroupGivesEntry n l i) groups) where
      none_had : (y : Option (Map (List ℕ))) (k : ℕ) (id : ChunkId) (r : Refused) → k < count_of l → r ≢ refused.Memory → IsNotHad Over l y k id r → ⊥
      none_had y k id r lt told h = groups_not (storage_of u) (storage_of v) unrisen n same l k id h.id_is e groups r told h.said (given k lt)

      filling_ended : (y : Option (Map (List ℕ))) (k : ℕ) → k < count_of l → (fault : FillFault) → FillTells Over l y k fault → outcome_of_fill fault ≡ ends.Memory
      filling_ended y k lt (fills.Missing j id) h = absurd (none_had y k id refused.Missing lt (λ no. absurd (cc)) h.1)
      filling_ended y k lt (fills.Damaged j id s x) h = absurd (none_had y k id (refused.Damaged s x) lt (λ no. absurd (cc)) h.1)
      filling_ended y k lt (fills.StoreFault s) h = absurd (none_had y k h.0 (refused.StoreFault s) lt (λ no. absurd (cc)) h.1)
      filling_ended y k lt fills.CacheFault h = absurd (unrisen.folders cache h.0)
      filling_ended y k lt fills.Memory h = refl

      index_ended : (x y : Option (Map (List ℕ))) (fault : FillFault) → EndsFilling Over l fault x y → outcome_of_fill fault ≡ ends.Memory
      index_ended x y fault (inl h) = ap outcome_of_fill h.0
      index_ended x y fault (inr h) = filling_ended y h.entry h.listed fault h.tells

    indexes_ended : (indexes : List (List ℕ)) (ls : List Listing) → IsTrue (are_files indexes) → AllZip (AllGiven b n groups) indexes ls → (x y : Option (Map (List ℕ))) (o : Outcome) → NotFilled Over (storage_of u) (storage_of v) indexes x y o → o ≡ ends.Memory
    indexes_ended [] ls file zip x y o h = absurd h
    indexes_ended (q ∷ indexes) [] file zip x y o h = absurd zip
    indexes_ended (q ∷ indexes) (l ∷ ls) file zip x y o (inl h) =
        unread u.disk v.disk b same_files unrisen q l o zip.0.listed (not_spelled_file q (storage_of u) (storage_of v) o (both_files (is_file q) (are_files indexes) file).0 h.0)
    indexes_ended (q ∷ indexes) (l ∷ ls) file zip x y o (inr (m, spells, inl (fault, is, filled))) =
        let listed : IsListed b q m = subst (λ f. IfSome f (λ z. IsListed z q m)) same_files (spells_file q (storage_of u) (storage_of v) m (both_files (is_file q) (are_files indexes) file).0 spells) in
        let one : l ≡ m = same_listing b q l m zip.0.listed listed in
        let given = subst (λ k. (i : ℕ) → i < count_of k → Any (GroupGivesEntry n k i) groups) one zip.0.given in
        is ∙ index_ended m given x y fault filled.order
    indexes_ended (q ∷ indexes) (l ∷ ls) file zip x y o (inr (m, spells, inr (z, filled, rest))) =
        indexes_ended indexes ls (both_files (is_file q) (are_files indexes) file).1 zip.1 z y o rest

  pub cached_at_hand : (most : ℕ) (indexes : List (List ℕ)) → CacheNeedsNoServer b n groups cache indexes → (o : Outcome) → CacheEnds sure groups e cache most indexes w (Err o) v → o ≡ ends.Memory
  cached_at_hand most indexes needs o (inl h) =
      elim h.0.0 [ inl first ↦ unreached w.disk v.disk n folders (none_rose w.disk w.disk v.disk v.disk quiet (self_climbs w.disk) (self_climbs v.disk)) (stores_of groups) o needs.there first | inr memory ↦ memory ]
  cached_at_hand most indexes needs o (inr h) = cache_then h.then where
    folders1 : h.disk.folders ≡ Some n
    folders1 = h.did.0.1.folders ∙ folders

    climbs1 : Climbs w.disk h.disk
    climbs1 = read_climbs w.disk h.disk h.did.0.1

    cache_then : (OnDisk (CacheOpened (stores_of groups) (Some cache)) >>= (λ u. OnStorage (IndexesFilled sure groups e cache most indexes))) (world h.disk h.dial h.out) (Err o) v → o ≡ ends.Memory
    cache_then (inl g) = cache_unreached h.disk v.disk n folders1 (none_rose w.disk h.disk v.disk v.disk quiet climbs1 (self_climbs v.disk)) (stores_of groups) (Some cache) o needs.cache_there g.0
    cache_then (inr g) =
        let reached = cache_reads (stores_of groups) (Some cache) h.disk g.disk (Ok tt) g.did.0 in
        let filled = g.then.0.filled in
        indexes_ended (world g.disk g.dial g.out) (reached.files ∙ h.did.0.1.files ∙ files) (reached.folders ∙ folders1) (climbs_on w.disk h.disk g.disk climbs1 (read_climbs h.disk g.disk reached))
        indexes needs.listings needs.files needs.given g.then.0.held g.then.0.now o filled
