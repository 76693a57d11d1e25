-- Values that are moved from the end of one list to the end of another.
use Rattle.std.proofs.Common.{◌≡◌, ◌++◌, ◌∷◌, [], All, List, Some, map, refl, reverse, sym, ap, ◌∙◌}
use Rattle.std.proofs.lemmas.List.{append_assoc, map_push, reverse-append}
use Rattle.std.proofs.lemmas.List.Elements.{All-pop}

module _ {A B C : Type 0} (f : A → C) (h : B → C) where
  -- one more was moved: what the rest gives, with what the others give in turn, stays
  pub moved : (all left : List A) (x : A) (done now : List B) (y : B) (whole : List C) → all ≡ left ++ x ∷ [] → now ≡ done ++ y ∷ [] → h y ≡ f x
      → map f all ++ map h (reverse done) ≡ whole → map f left ++ map h (reverse now) ≡ whole
  moved all left x done now y whole pop push same before =
      let turned : reverse now ≡ y ∷ reverse done = ap reverse push ∙ reverse-append done (y ∷ []) in
      let taken : map f all ≡ map f left ++ f x ∷ [] = ap (map f) pop ∙ map_push f left x in
      ap (λ zs. map f left ++ map h zs) turned
      ∙ ap (λ q. map f left ++ q ∷ map h (reverse done)) same
      ∙ sym (append_assoc (map f left) (f x ∷ []) (map h (reverse done)))
      ∙ ap (λ zs. zs ++ map h (reverse done)) (sym taken)
      ∙ before

-- what holds for all holds for those before the last
pub all_before : {A : Type 0} (P : A → Type 0) (all left : List A) (x : A) → all ≡ left ++ x ∷ [] → All P all → All P left
all_before P all left x is has = (All-pop P all left (Some x) is has).0

-- and of the last
pub last_so : {A : Type 0} (P : A → Type 0) (all left : List A) (x : A) → all ≡ left ++ x ∷ [] → All P all → P x
last_so P all left x is has = (All-pop P all left (Some x) is has).1

-- what is given of what was given
pub map_twice : {A B C : Type 0} (f : A → B) (h : B → C) (xs : List A) → map h (map f xs) ≡ map (λ x. h (f x)) xs
map_twice f h [] = refl
map_twice f h (x ∷ xs) = ap (λ zs. h (f x) ∷ zs) (map_twice f h xs)
