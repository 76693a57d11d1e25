-- What was dialed over groups of stores that weren't asked.
use Rattle.std.proofs.Common.{◌≡◌, ◌++◌, List, [], ◌∷◌, Option, map, refl, subst, sym}
use Rattle.std.proofs.lemmas.List.Elements.{All-head, All-tail}
use Rattle.std.specs.List.{All, fold}
use Rattle.command_groups.specs.Groups.{stores_of}
use Rattle.command_groups.specs.Opened.{AreUnused, all_locations, locations_in, with_group}
use Rattle.command_steps.proofs.Asking.{IsDialed, each_dialed}
use Rattle.command_steps.specs.AnyStores.{IsUnused, with_those}
use Rattle.command_steps.specs.Asking.{EachDialed}
use Rattle.command_steps.specs.declared.any_store.AnyStore.{AnyStore}
use Rattle.command_steps.specs.declared.any_store.AnyStore.TheVariants as source
use Rattle.command_words.specs.declared.command.Location.{Location}
use Rattle.command_words.specs.declared.command.Location.TheVariants as locations
use Rattle.dsy_base.specs.Links.{DialState, Traffic}
use Rattle.http_read.specs.Asks.{Server}
use Rattle.std.proofs.Common.{ℕ, slice_index_or}
use Rattle.store_group.specs.Groups.{Grouped}

abbrev Nothing : Server → List Traffic → Type 0
Nothing s ended = ended ≡ []

-- what was dialed over these stores, and then over those
both_dialed : (P : Server → List Traffic → Type 0) (front back : List Location) (a b c : Option (List Traffic)) → EachDialed P front a b → EachDialed P back b c → EachDialed P (front ++ back) a c
both_dialed P [] back a b c first next = subst (λ o. EachDialed P back o c) first next
both_dialed P (locations.Folder q ∷ front) back a b c first next = both_dialed P front back a b c first next
both_dialed P (locations.Http host port prefix ∷ front) back a b c first next = (first.0, first.1, both_dialed P front back _ b c first.2 next)

unused_dialed : {L D K : Type 0} (state : D → DialState) (s : AnyStore L D K) → IsUnused state s → IsDialed state Nothing s
unused_dialed state (source.Folder l) unused = tt
unused_dialed state (source.Http r) unused = unused

module _ {L D K : Type 0} (place : L → List ℕ) (state : D → DialState) where
  unreached : (xs : List (Grouped (AnyStore L D K))) (old new : Option (List Traffic)) → All (AreUnused state) xs → new ≡ fold (with_group state) old xs → EachDialed Nothing (all_locations place xs) old new
  unreached [] old new unused ended = ended
  unreached (g ∷ xs) old new unused ended =
      let here : AreUnused state g = All-head (AreUnused state) g xs unused in
      let mid = fold (with_those state) old g.stores in
      let first = each_dialed place state Nothing g.stores old mid refl (λ j y lt. unused_dialed state (slice_index_or g.stores j y) (here j y lt)) in
      both_dialed Nothing (locations_in place g) (all_locations place xs) old mid new first (unreached xs mid new (All-tail (AreUnused state) g xs unused) ended)

  -- groups that were unused, and given back as they were
  pub none_reached : (xs ys : List (Grouped (AnyStore L D K))) (groups : List (List Location)) (old new : Option (List Traffic)) → All (AreUnused state) xs → ys ≡ xs
      → map (locations_in place) ys ≡ groups → new ≡ fold (with_group state) old ys → EachDialed (λ s ended. ended ≡ []) (stores_of groups) old new
  none_reached xs ys groups old new unused same located ended =
      let still : All (AreUnused state) ys = subst (All (AreUnused state)) (sym same) unused in
      subst (λ (l : List (List Location)). EachDialed Nothing (stores_of l) old new) located (unreached ys old new still ended)
