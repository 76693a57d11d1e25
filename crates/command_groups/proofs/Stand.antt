-- Groups that were asked: where they stand, how often their calls are made again, and what their folders hold.
use Rattle.std.proofs.Common.{◌≡◌, ◌∙◌, ◌++◌, ◌+◌, ◌<◌, ◌≤◌, ℕ, zero, suc, List, [], ◌∷◌, length, map, slice_index, slice_index_or, Option, Some, None, IfSome, refl, sym, ap, arith}
use Rattle.std.proofs.lemmas.List.{length-append, length-map}
use Rattle.std.proofs.lemmas.List.Elements.{All-cons, All-head, All-nil, All-tail}
use Rattle.std.specs.List.{All}
use Rattle.command_groups.proofs.Decoded.{places_same}
use Rattle.command_groups.specs.Groups.{AreGroups, stores_of}
use Rattle.command_groups.specs.Opened.{IsFresh, files_in, locations_in}
use Rattle.command_steps.proofs.Given.{stand_still}
use Rattle.command_steps.specs.AnyStores.{location_in, place_in}
use Rattle.command_steps.specs.Sources.{location_files}
use Rattle.command_steps.specs.declared.any_store.AnyStore.{AnyStore}
use Rattle.command_words.specs.declared.command.Location.{Location}
use Rattle.dsy_base.specs.Maps.{Map}
use Rattle.store_chain.proofs.Pairs.{cons_head, cons_tail}
use Rattle.store_group.specs.Groups.{Grouped, group_place, places_of}

-- ---- where they stand

module _ {L D K : Type 0} (place : L → List ℕ) where
  one_stands : (g h : Grouped (AnyStore L D K)) → group_place (place_in place) g ≡ group_place (place_in place) h → locations_in place g ≡ locations_in place h
  one_stands g h same =
      stand_still place h.stores g.stores (places_same (place_in place) g.stores h.stores (cons_tail g.retries h.retries (places_of (place_in place) g.stores) (places_of (place_in place) h.stores) same))

  -- groups whose places were kept stand where they stood
  pub groups_stand_still : (old new : List (Grouped (AnyStore L D K))) → map (group_place (place_in place)) new ≡ map (group_place (place_in place)) old → map (locations_in place) new ≡ map (locations_in place) old
  groups_stand_still [] [] same = refl
  groups_stand_still [] (h ∷ new) same = absurd (cc)
  groups_stand_still (g ∷ old) [] same = absurd (cc)
  groups_stand_still (g ∷ old) (h ∷ new) same =
      let place_of = group_place (place_in place) in
      let one = one_stands h g (cons_head (place_of h) (place_of g) (map place_of new) (map place_of old) same) in
      let others = groups_stand_still old new (cons_tail (place_of h) (place_of g) (map place_of new) (map place_of old) same) in
      λ i. one i ∷ others i

  -- and their calls are made as often again
  pub groups_try_still : (e : ℕ) (old new : List (Grouped (AnyStore L D K))) → map (group_place (place_in place)) new ≡ map (group_place (place_in place)) old → All (λ g. g.retries ≡ e) old → All (λ g. g.retries ≡ e) new
  groups_try_still e old [] same tries = All-nil (λ (g : Grouped (AnyStore L D K)). g.retries ≡ e)
  groups_try_still e [] (h ∷ new) same tries = absurd (cc)
  groups_try_still e (g ∷ old) (h ∷ new) same tries =
      let place_of = group_place (place_in place) in
      let one = cons_head (place_of h) (place_of g) (map place_of new) (map place_of old) same in
      let others = cons_tail (place_of h) (place_of g) (map place_of new) (map place_of old) same in
      let number : h.retries ≡ g.retries = cons_head h.retries g.retries (places_of (place_in place) h.stores) (places_of (place_in place) g.stores) one in
      All-cons (λ (g : Grouped (AnyStore L D K)). g.retries ≡ e) h new (number ∙ All-head (λ (g : Grouped (AnyStore L D K)). g.retries ≡ e) g old tries) (groups_try_still e old new others (All-tail (λ (g : Grouped (AnyStore L D K)). g.retries ≡ e) g old tries))

-- as many stores stand there
pub many_stores : {L D K : Type 0} (place : L → List ℕ) (g h : Grouped (AnyStore L D K)) → locations_in place g ≡ locations_in place h → length g.stores ≡ length h.stores
many_stores place g h same = sym (length-map g.stores (location_in place)) ∙ ap length same ∙ length-map h.stores (location_in place)

-- ---- what was found of their folders

module _ {L D K : Type 0} (files : L → Option (Map (List ℕ))) where
  -- it stands still
  pub found_after : (folders : Option (Map (Map (List ℕ)))) (before after : List (Grouped (AnyStore L D K))) (groups : List (List Location)) → map (files_in files) after ≡ map (files_in files) before
      → IfSome folders (λ m. map (files_in files) before ≡ map (map (location_files m)) groups) → IfSome folders (λ m. map (files_in files) after ≡ map (map (location_files m)) groups)
  found_after None before after groups kept found = tt
  found_after (Some m) before after groups kept found = kept ∙ found

-- ---- groups that were just made

pub fresh_tries : {S : Type 0} (counted : S → ℕ) (e : ℕ) (xs : List (Grouped S)) → All (IsFresh counted e) xs → All (λ g. g.retries ≡ e) xs
fresh_tries counted e xs fresh = λ k d lt. (fresh k d lt).retries

-- the first store of each is asked first
pub fresh_first : {S : Type 0} (counted : S → ℕ) (e : ℕ) (xs : List (Grouped S)) → All (IsFresh counted e) xs → All (λ g. g.active ≡ 0) xs
fresh_first counted e xs fresh = λ k d lt. (fresh k d lt).active

-- none has failed
pub fresh_counts : {S X : Type 0} (counted : S → ℕ) (e : ℕ) (xs : List (Grouped S)) (names : List X) → length xs ≡ length names → All (IsFresh counted e) xs → map (λ g. g.failed) xs ≡ map (λ q. 0) names
fresh_counts counted e [] [] many fresh = refl
fresh_counts counted e [] (q ∷ names) many fresh = absurd (cc)
fresh_counts counted e (g ∷ xs) [] many fresh = absurd (cc)
fresh_counts counted e (g ∷ xs) (q ∷ names) many fresh =
    let one = (All-head (IsFresh counted e) g xs fresh).failed in
    let others = fresh_counts counted e xs names (cc) (All-tail (IsFresh counted e) g xs fresh) in
    λ i. one i ∷ others i

-- ---- how many they are

few_groups : (groups : List (List Location)) → All (λ g. 1 ≤ length g) groups → length groups ≤ length (stores_of groups)
few_groups [] each = omega arith
few_groups (g ∷ groups) each =
    let one = All-head (λ (g : List Location). 1 ≤ length g) g groups each in
    let rest = few_groups groups (All-tail (λ (g : List Location). 1 ≤ length g) g groups each) in
    let both : length (g ++ stores_of groups) ≡ length g + length (stores_of groups) = length-append g (stores_of groups) in
    omega (arith, one, rest, both)

-- as many groups were opened as are named
pub groups_many : {S : Type 0} (locations : S → List Location) (groups : List (List Location)) (retries : ℕ) (items : List S) → map locations items ≡ groups → AreGroups groups retries → (1 ≤ length items) × (length items ≤ 16)
groups_many locations groups retries items same are =
    let many : length items ≡ length groups = sym (length-map items locations) ∙ ap length same in
    let few = few_groups groups are.each in
    (omega (arith, many, are.some), omega (arith, many, few, are.few))
