-- Groups that were opened for the same words from the same folders hold the same chunks, as do those who answer for them.
use Rattle.std.proofs.Common.{◌≡◌, ◌∙◌, Bool, false, List, [], ◌∷◌, map, length, is_some, Option, Some, None, IfSome, IsTrue, refl, sym, ap, ℕ}
use Rattle.std.specs.List.{All}
use Rattle.command_groups.proofs.Seen.{all_hold, all_members, held_by, members_by}
use Rattle.command_groups.proofs.Stand.{many_stores}
use Rattle.command_groups.specs.Opened.{files_in, locations_in, told_chunks, told_members}
use Rattle.command_steps.specs.AnyStores.{source_files}
use Rattle.command_steps.specs.Sources.{location_files}
use Rattle.command_steps.specs.declared.any_store.AnyStore.{AnyStore}
use Rattle.command_steps.specs.declared.any_store.AnyStore.TheVariants as stores
use Rattle.command_words.specs.declared.command.Location.{Location}
use Rattle.dsy_base.specs.Maps.{Map}
use Rattle.store_chain.proofs.Pairs.{cons_head, cons_tail}
use Rattle.store_group.specs.Groups.{Grouped}

-- a type that doesn't tell has nothing to see
untold_files : {X : Type 0} (tells looks : Bool) (o : Option X) → is_some o ≡ looks → (IsTrue looks → IsTrue tells) → tells ≡ false → o ≡ None
untold_files tells looks None told seen quiet = refl
untold_files tells looks (Some x) told seen quiet =
    let no : IsTrue tells = seen (sym told) in
    absurd (cc)

module _ {L D K : Type 0} (files : L → Option (Map (List ℕ))) (place : L → List ℕ) where
  none_seen : ((l : L) → files l ≡ None) → (x : AnyStore L D K) → source_files files x ≡ None
  none_seen none (stores.Folder l) = none l
  none_seen none (stores.Http r) = refl

  nothing_seen : ((l : L) → files l ≡ None) → (xs ys : List (AnyStore L D K)) → length xs ≡ length ys → map (source_files files) xs ≡ map (source_files files) ys
  nothing_seen none [] [] many = refl
  nothing_seen none [] (y ∷ ys) many = absurd (cc)
  nothing_seen none (x ∷ xs) [] many = absurd (cc)
  nothing_seen none (x ∷ xs) (y ∷ ys) many =
      let rest : length xs ≡ length ys = cc in
      let first : source_files files x ≡ source_files files y = none_seen none x ∙ sym (none_seen none y) in
      (λ i. first i ∷ nothing_seen none xs ys rest i)

  nothing_in : ((l : L) → files l ≡ None) → (xs ys : List (Grouped (AnyStore L D K))) → map (locations_in place) xs ≡ map (locations_in place) ys → map (files_in files) xs ≡ map (files_in files) ys
  nothing_in none [] [] same = refl
  nothing_in none [] (h ∷ ys) same = absurd (cc)
  nothing_in none (g ∷ xs) [] same = absurd (cc)
  nothing_in none (g ∷ xs) (h ∷ ys) same =
      let here = cons_head (locations_in place g) (locations_in place h) (map (locations_in place) xs) (map (locations_in place) ys) same in
      let rest = cons_tail (locations_in place g) (locations_in place h) (map (locations_in place) xs) (map (locations_in place) ys) same in
      let first = nothing_seen none g.stores h.stores (many_stores place g h here) in
      let others = nothing_in none xs ys rest in
      (λ i. first i ∷ others i)

  -- and their folders have the same files
  pub files_alike : (tells looks : Bool) → ((l : L) → is_some (files l) ≡ looks) → (IsTrue looks → IsTrue tells) → (folders : Option (Map (Map (List ℕ)))) → is_some folders ≡ tells → (names : List (List Location)) (xs ys : List (Grouped (AnyStore L D K))) → map (locations_in place) xs ≡ map (locations_in place) ys
      → IfSome folders (λ m. map (files_in files) xs ≡ map (map (location_files m)) names) → IfSome folders (λ m. map (files_in files) ys ≡ map (map (location_files m)) names) → map (files_in files) xs ≡ map (files_in files) ys
  files_alike tells looks told seen (Some m) tells_are names xs ys same one two = one ∙ sym two
  files_alike tells looks told seen None tells_are names xs ys same one two = nothing_in (λ l. untold_files tells looks (files l) (told l) seen (sym tells_are)) xs ys same

  -- two lists of groups that were opened for the same words from the same folders
  pub hold_alike : (sure tells looks : Bool) → ((l : L) → is_some (files l) ≡ looks) → (IsTrue looks → IsTrue tells) → (folders : Option (Map (Map (List ℕ)))) → is_some folders ≡ tells → (names : List (List Location)) (xs ys : List (Grouped (AnyStore L D K)))
      → map (locations_in place) xs ≡ names → map (locations_in place) ys ≡ names → IfSome folders (λ m. map (files_in files) xs ≡ map (map (location_files m)) names) → IfSome folders (λ m. map (files_in files) ys ≡ map (map (location_files m)) names)
      → All (λ g. g.active ≡ 0) xs → All (λ g. g.active ≡ 0) ys → map (told_chunks sure files) xs ≡ map (told_chunks sure files) ys
  hold_alike sure tells looks told seen folders tells_are names xs ys at there one two first next =
      all_hold sure files xs first ∙ ap (map (held_by sure)) (files_alike tells looks told seen folders tells_are names xs ys (at ∙ sym there) one two) ∙ sym (all_hold sure files ys next)

  -- and those who answer for them
  pub members_alike : (sure tells looks : Bool) → ((l : L) → is_some (files l) ≡ looks) → (IsTrue looks → IsTrue tells) → (folders : Option (Map (Map (List ℕ)))) → is_some folders ≡ tells → (names : List (List Location)) (xs ys : List (Grouped (AnyStore L D K)))
      → map (locations_in place) xs ≡ names → map (locations_in place) ys ≡ names → IfSome folders (λ m. map (files_in files) xs ≡ map (map (location_files m)) names) → IfSome folders (λ m. map (files_in files) ys ≡ map (map (location_files m)) names)
      → All (λ g. g.active ≡ 0) xs → All (λ g. g.active ≡ 0) ys → map (told_members sure files) xs ≡ map (told_members sure files) ys
  members_alike sure tells looks told seen folders tells_are names xs ys at there one two first next =
      all_members sure files xs first ∙ ap (map (members_by sure)) (files_alike tells looks told seen folders tells_are names xs ys (at ∙ sym there) one two) ∙ sym (all_members sure files ys next)
