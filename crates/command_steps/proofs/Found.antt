-- What was found of stores when they were opened, and what of it stands after calls.
use Rattle.std.proofs.Common.{◌≡◌, ◌≤◌, arith, ℕ, length, sym, subst, List, [], ◌∷◌, map, Option, Some, None, IfSome, refl, ap, ◌∙◌}
use Rattle.std.proofs.lemmas.List.{length-map}
use Rattle.std.specs.Option.{option_map}
use Rattle.chunk_store.specs.Folders.{chunks}
use Rattle.dsy_base.specs.Maps.{Map}
use Rattle.command_steps.specs.Sources.{location_files}
use Rattle.command_words.specs.declared.command.Location.{Location}

map_map : {A B C : Type 0} (g : B → C) (f : A → B) (xs : List A) → map (λ x. g (f x)) xs ≡ map g (map f xs)
map_map g f [] = refl
map_map g f (x ∷ xs) = ap (λ l. g (f x) ∷ l) (map_map g f xs)

some_chunks : (fs : List (Map (List ℕ))) → map (option_map chunks) (map Some fs) ≡ map Some (map chunks fs)
some_chunks [] = refl
some_chunks (f ∷ fs) = ap (λ l. Some (chunks f) ∷ l) (some_chunks fs)

-- the stores hold the chunks of their folders' files
pub held_maps : {S : Type 0} (files : S → Option (Map (List ℕ))) (xs : List S) (fs : List (Map (List ℕ))) → map files xs ≡ map Some fs → map (λ s. option_map chunks (files s)) xs ≡ map Some (map chunks fs)
held_maps files xs fs h = map_map (option_map chunks) files xs ∙ ap (map (option_map chunks)) h ∙ some_chunks fs

-- what stands of the files of stores stands still where no call has changed it
pub held_after : {S : Type 0} (folders : Option (Map (Map (List ℕ)))) (stores : List Location) (files : S → Option (Map (List ℕ))) (before after : List S) → IfSome folders (λ m. map files before ≡ map (location_files m) stores) → map files after ≡ map files before
    → IfSome folders (λ m. map files after ≡ map (location_files m) stores)
held_after None stores files before after found kept = tt
held_after (Some m) stores files before after found kept = kept ∙ found

-- what was found of them stands of folders that were only read since
pub found_still : {S : Type 0} (files : S → Option (Map (List ℕ))) (location : S → Location) (old new : Option (Map (Map (List ℕ)))) (stores : List Location) (xs : List S) → IfSome old (λ m. map files xs ≡ map (location_files m) stores) → map location xs ≡ stores → new ≡ old
    → IfSome new (λ m. map files xs ≡ map (location_files m) (map location xs))
found_still files location old new stores xs found located same =
    subst (λ o. IfSome o (λ m. map files xs ≡ map (location_files m) (map location xs))) (sym same)
    (subst (λ (names : List Location). IfSome old (λ m. map files xs ≡ map (location_files m) names)) (sym located) found)

-- where the stores are folders, they hold the chunks of those
pub held_where : {S : Type 0} (folders : Option (Map (Map (List ℕ)))) (stores : List Location) (files : S → Option (Map (List ℕ))) (xs : List S) → IfSome folders (λ m. map files xs ≡ map (location_files m) stores)
    → IfSome folders (λ m. (fs : List (Map (List ℕ))) → map (location_files m) stores ≡ map Some fs → map (λ s. option_map chunks (files s)) xs ≡ map Some (map chunks fs))
held_where None stores files xs found = tt
held_where (Some m) stores files xs found = λ fs told. held_maps files xs fs (found ∙ told)

-- as many stores were opened as are named
pub opened_many : {S : Type 0} (location : S → Location) (stores : List Location) (items : List S) → map location items ≡ stores → (1 ≤ length stores) × (length stores ≤ 16) → (1 ≤ length items) × (length items ≤ 16)
opened_many location stores items same few =
    let many : length items ≡ length stores = sym (length-map items location) ∙ ap length same in
    (omega (arith, many, few.0), omega (arith, many, few.1))
