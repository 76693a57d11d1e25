-- Chains that were opened of the same groups have the same stores, which hold what their folders hold.
use Rattle.std.proofs.Common.{◌≡◌, ◌∙◌, ◌++◌, ℕ, suc, ◌<◌, ◌≤◌, Bool, false, List, [], ◌∷◌, All, length, map, is_some, Option, Some, None, IfSome, IsSome, IsTrue, refl, sym, ap, subst, arith, slice_index_or}
use Rattle.std.specs.Option.{option_map}
use Rattle.cache_store.specs.Shelves.{Shelf}
use Rattle.chunk_store.specs.declared.id.DigestKind.{DigestKind}
use Rattle.chunk_store.specs.declared.store.Store.{Ghosts as StoreWords}
use Rattle.command_groups.proofs.Alike.{files_alike, hold_alike}
use Rattle.command_groups.proofs.LentChains.{chains_later}
use Rattle.command_groups.proofs.Seen.{groups_known}
use Rattle.command_groups.proofs.Stand.{fresh_first}
use Rattle.command_groups.proofs.Words.{group_words}
use Rattle.command_groups.specs.Chains.{IsChainOpened}
use Rattle.command_groups.specs.Opened.{files_in, locations_in}
use Rattle.command_steps.specs.AnyStores.{code_of, location_in, place_in, source_faults}
use Rattle.command_steps.specs.Cache.{with_cache}
use Rattle.command_steps.specs.Sources.{location_files}
use Rattle.command_steps.specs.declared.any_store.AnyStore.{AnyStore}
use Rattle.command_words.specs.declared.command.Location.{Location}
use Rattle.command_worlds.specs.Worlds.{Reads}
use Rattle.dsy_base.specs.Disk.{Disk}
use Rattle.dsy_base.specs.Links.{DialState}
use Rattle.dsy_base.specs.Maps.{Map}
use Rattle.dsy_base.specs.declared.look.Look.{Ghosts as LookWords}
use Rattle.locked_proxy.specs.Chains.{maps_all_told}
use Rattle.proxy_command.specs.ProxyServing.{group_chunks}
use Rattle.proxy_command.specs.Reaching.{AreLent, AreWorkers, HasReached, chain_chunks, chain_files}
use Rattle.store_chain.proofs.Pairs.{cons_head, cons_tail}
use Rattle.store_chain.specs.Chains.{Chained}
use Rattle.store_group.specs.Groups.{Grouped, group_place, places_of}

-- ---- where groups lie

module _ {L D K : Type 0} (place : L → List ℕ) where
  abbrev place_of : Grouped (AnyStore L D K) → List ℕ
  place_of = group_place (place_in place)

  codes_in : (xs : List (AnyStore L D K)) → places_of (place_in place) xs ≡ places_of code_of (map (location_in place) xs)
  codes_in [] = refl
  codes_in (x ∷ xs) = ap (λ rest. length (place_in place x) ∷ place_in place x ++ rest) (codes_in xs)

  one_there : (g h : Grouped (AnyStore L D K)) → locations_in place g ≡ locations_in place h → g.retries ≡ h.retries → place_of g ≡ place_of h
  one_there g h same tries =
      let codes = codes_in g.stores ∙ ap (places_of code_of) same ∙ sym (codes_in h.stores) in
      λ i. tries i ∷ codes i

  all_there : (e : ℕ) (xs ys : List (Grouped (AnyStore L D K))) → map (locations_in place) xs ≡ map (locations_in place) ys → ((n : ℕ) (g : Grouped (AnyStore L D K)) → n < length xs → (slice_index_or xs n g).retries ≡ e)
      → ((n : ℕ) (g : Grouped (AnyStore L D K)) → n < length ys → (slice_index_or ys n g).retries ≡ e) → map place_of xs ≡ map place_of ys
  all_there e [] [] same xs_try ys_try = refl
  all_there e [] (h ∷ ys) same xs_try ys_try = absurd (cc)
  all_there e (g ∷ xs) [] same xs_try ys_try = absurd (cc)
  all_there e (g ∷ xs) (h ∷ ys) same xs_try ys_try =
      let here = cons_head (locations_in place g) (locations_in place h) (map (locations_in place) xs) (map (locations_in place) ys) same in
      let rest = cons_tail (locations_in place g) (locations_in place h) (map (locations_in place) xs) (map (locations_in place) ys) same in
      let one = one_there g h here (xs_try 0 g (omega arith) ∙ sym (ys_try 0 h (omega arith))) in
      let others = all_there e xs ys rest (λ n x lt. xs_try (suc n) x (omega (arith, lt))) (λ n y lt. ys_try (suc n) y (omega (arith, lt))) in
      λ i. one i ∷ others i

-- ---- what they hold

-- what all tell
more_told : (m : Map (List ℕ)) (hs : List (Option (Map (List ℕ)))) (o : Option (List (Map (List ℕ)))) → IfSome o (λ ms. hs ≡ map Some ms) → IfSome (option_map (λ ms. m ∷ ms) o) (λ ms. Some m ∷ hs ≡ map Some ms)
more_told m hs None told = tt
more_told m hs (Some ms) told = ap (λ l. Some m ∷ l) told

pub all_told : (hs : List (Option (Map (List ℕ)))) → IfSome (maps_all_told hs) (λ ms. hs ≡ map Some ms)
all_told [] = refl
all_told (None ∷ hs) = tt
all_told (Some m ∷ hs) = more_told m hs (maps_all_told hs) (all_told hs)

pub some_held : (o : Option (List (Map (List ℕ)))) (xs ys : List (Option (Map (List ℕ)))) → ys ≡ xs → IfSome o (λ ms. xs ≡ map Some ms) → IfSome o (λ ms. ys ≡ map Some ms)
some_held None xs ys same told = tt
some_held (Some ms) xs ys same told = same ∙ told

module _ {L D K : Type 0} (look : LookWords L) (state : D → DialState) where
  abbrev Words : StoreWords (Grouped (AnyStore L D K))
  Words = group_words look state

  module _ (d e : Disk) (groups : List (List Location)) (again : ℕ) where
    chains_known : (chains : List (Chained (Grouped (AnyStore L D K)))) → 1 ≤ length chains → All (IsChainOpened look state d e groups again) chains → IfSome d.folders (λ m. chain_chunks Words.holds chains ≡ group_chunks false look.never_fails m groups)
    chains_known [] some opened = absurd (omega (arith, some))
    chains_known (c ∷ more) some opened = let is = opened 0 c (omega arith) in
        groups_known look.never_fails look.files d.folders c.stores groups (fresh_first (source_faults look.faults state) again c.stores is.fresh) is.found

    chains_found : (chains : List (Chained (Grouped (AnyStore L D K)))) → 1 ≤ length chains → All (IsChainOpened look state d e groups again) chains → IfSome d.folders (λ m. chain_files look.files chains ≡ map (map (location_files m)) groups)
    chains_found [] some opened = absurd (omega (arith, some))
    chains_found (c ∷ more) some opened = (opened 0 c (omega arith)).found

    module _ (tells : Bool) (told : (l : L) → is_some (look.files l) ≡ look.tells) (seen : IsTrue look.tells → IsTrue tells) (tells_are : is_some d.folders ≡ tells) where
      -- chains that were opened for one kind of digest
      pub chains_lent : (kind : DigestKind) (chains : List (Chained (Grouped (AnyStore L D K)))) → All (IsChainOpened look state d e groups again) chains → All (λ c. c.kind ≡ kind) chains → AreLent Words kind chains
      chains_lent kind [] opened kinds = λ n c lt. absurd (omega (arith, lt))
      chains_lent kind (f ∷ more) opened kinds = λ n c lt.
          let x = slice_index_or (f ∷ more) n c in
          let is = opened n c lt in
          let first = opened 0 f (omega arith) in
          let same = hold_alike look.files look.place look.never_fails tells look.tells told seen d.folders tells_are groups x.stores f.stores is.located first.located is.found first.found
          (fresh_first (source_faults look.faults state) again x.stores is.fresh) (fresh_first (source_faults look.faults state) again f.stores first.fresh) in
          record {
            kind = kinds n c lt;
            held = some_held (maps_all_told (map Words.holds f.stores)) (map Words.holds f.stores) (map Words.holds x.stores) same (all_told (map Words.holds f.stores));
            places = all_there look.place again x.stores f.stores (is.located ∙ sym first.located) (λ k g inside. (is.fresh k g inside).retries) (λ k g inside. (first.fresh k g inside).retries);
          }

      chains_alike : (chains : List (Chained (Grouped (AnyStore L D K)))) → All (IsChainOpened look state d e groups again) chains → All (λ c. map (files_in look.files) c.stores ≡ chain_files look.files chains) chains
      chains_alike [] opened = λ n c lt. absurd (omega (arith, lt))
      chains_alike (f ∷ more) opened = λ n c lt.
          let x = slice_index_or (f ∷ more) n c in
          let is = opened n c lt in
          let first = opened 0 f (omega arith) in
          files_alike look.files look.place tells look.tells told seen d.folders tells_are groups x.stores f.stores (is.located ∙ sym first.located) is.found first.found

      -- and then the folder of the cache was taken
      pub is_reached : (m : Disk) (s : Shelf) (cache : List ℕ) (kind : DigestKind) (most : ℕ) (chains : List (Chained (Grouped (AnyStore L D K)))) → Reads d e → AreWorkers look state d e groups again kind most chains
          → Reads e (with_cache (Some s) m) → s.place ≡ cache → IsSome (m.folder_counts cache) → s.kind ≡ kind → HasReached look state Words groups again cache kind most m s chains
      is_reached m s cache kind most chains before workers reads at_name has digest = record {
        named = at_name;
        known = has;
        digest = digest;
        some = workers.some;
        few = workers.few;
        lent = chains_lent kind chains workers.opened workers.kinds;
        holds = subst (λ o. IfSome o (λ x. chain_chunks Words.holds chains ≡ group_chunks false look.never_fails x groups)) (sym (reads.folders ∙ before.folders)) (chains_known chains workers.some workers.opened);
        alike = chains_alike chains workers.opened;
        found = subst (λ o. IfSome o (λ x. chain_files look.files chains ≡ map (map (location_files x)) groups)) (sym (reads.folders ∙ before.folders)) (chains_found chains workers.some workers.opened);
        located = λ n c lt. (workers.opened n c lt).located;
        given = chains_later look e (with_cache (Some s) m) reads chains (λ n c lt. (workers.opened n c lt).given);
        fresh = λ n c lt. (workers.opened n c lt).fresh;
        unused = λ n c lt. (workers.opened n c lt).unused;
      }
