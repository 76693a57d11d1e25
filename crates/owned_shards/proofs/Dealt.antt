-- Shards that are dealt to workers, and gathered again.
use Rattle.std.proofs.Common.{◌≡◌, ℕ, suc, ◌+◌, ◌<◌, ◌≤◌, List, [], ◌∷◌, ◌++◌, All, Some, length, length-append, map, take, reverse, slice_index_or, refl, sym, ap, subst, ◌∙◌, arith}
use Rattle.std.proofs.lemmas.List.{append_assoc, get_or-map, length-map, map-append, map_push, reverse-append}
use Rattle.std.proofs.lemmas.List.Concat.{flat_map-append, get_or-flat_map}
use Rattle.std.proofs.lemmas.List.Elements.{All-append, All-nil, All-pop, All-push}
use Rattle.std.proofs.lemmas.List.Folds.{length-flat_map-take}
use Rattle.std.proofs.lemmas.List.Sums.{sum_by-append, sum_by-cons}
use Rattle.std.specs.List.{flat_map, sum_by}
use Rattle.owned_shards.specs.Wholes.{ShardsWith}
use Rattle.owned_shards.proofs.Wholes.{with_at}
use Rattle.range_ledger.specs.Runs.{Run, Seen}

-- one value more was moved from the end of a list to the end of another
pub moved : {A : Type 0} (all left to now : List A) (x : A) → all ≡ left ++ x ∷ [] → now ≡ to ++ x ∷ [] → now ++ reverse left ≡ to ++ reverse all
moved all left to now x pop push =
    ap (λ zs. zs ++ reverse left) push ∙ append_assoc to (x ∷ []) (reverse left)
    ∙ ap (λ zs. to ++ zs) (sym (ap reverse pop ∙ reverse-append left (x ∷ [])))

-- so it is of what is seen of them, in two lists of their own
pub moved_seen : {A B C : Type 0} (f : A → C) (h : B → C) (all left : List A) (x : A) (to now : List B) (y : B) (whole : List C) → all ≡ left ++ x ∷ [] → now ≡ to ++ y ∷ [] → h y ≡ f x
    → map h to ++ reverse (map f all) ≡ whole → map h now ++ reverse (map f left) ≡ whole
moved_seen f h all left x to now y whole pop push same before =
    moved (map f all) (map f left) (map h to) (map h now) (f x) (ap (map f) pop ∙ map_push f left x) (ap (map h) push ∙ map_push h to y ∙ ap (λ z. map h to ++ z ∷ []) same)
    ∙ before

-- what holds for all holds for those before the last
pub all_before : {A : Type 0} (P : A → Type 0) (all left : List A) (x : A) → all ≡ left ++ x ∷ [] → All P all → All P left
all_before P all left x is has = (All-pop P all left (Some x) is has).0

-- and of the last
pub last_so : {A : Type 0} (P : A → Type 0) (all left : List A) (x : A) → all ≡ left ++ x ∷ [] → All P all → P x
last_so P all left x is has = (All-pop P all left (Some x) is has).1

-- and of all in turn
pub all_in_turn : {A : Type 0} (P : A → Type 0) (xs : List A) → All P xs → All P (reverse xs)
all_in_turn P [] all = All-nil P
all_in_turn P (x ∷ xs) all =
    subst (All P) (sym (reverse-append (x ∷ []) xs)) (All-push P (reverse xs) x (all_in_turn P xs (λ i d lt. all (suc i) d (omega (arith, lt)))) (all 0 x (omega arith)))

-- the pieces of a list, and one more
pub pieces_push : {X A : Type 0} (f : X → List A) (xs : List X) (x : X) → flat_map f (xs ++ x ∷ []) ≡ flat_map f xs ++ f x
pieces_push f xs x = flat_map-append f xs (x ∷ []) ∙ ap (λ zs. flat_map f xs ++ zs) (append-end (f x)) where
  append-end : {A : Type 0} (xs : List A) → xs ++ [] ≡ xs
  append-end [] = refl
  append-end (x ∷ xs) = ap (λ zs. x ∷ zs) (append-end xs)

-- a sum without its last part
pub sum_without : {X : Type 0} (f : X → ℕ) (all left : List X) (x : X) → all ≡ left ++ x ∷ [] → sum_by f all ≡ sum_by f left + f x
sum_without f all left x pop = omega (arith, ap (sum_by f) pop, sum_by-append f left (x ∷ []), sum_by-cons f x [])

-- one lane more was dealt its share
pub dealt_more : {X A : Type 0} (f : X → List A) (lanes now : List X) (x : X) (before after whole : List A) → now ≡ lanes ++ x ∷ [] → f x ++ reverse after ≡ reverse before
    → flat_map f lanes ++ reverse before ≡ whole → flat_map f now ++ reverse after ≡ whole
dealt_more f lanes now x before after whole push took was =
    ap (λ zs. flat_map f zs ++ reverse after) push ∙ ap (λ zs. zs ++ reverse after) (pieces_push f lanes x)
    ∙ append_assoc (flat_map f lanes) (f x) (reverse after) ∙ ap (λ zs. flat_map f lanes ++ zs) took ∙ was

-- and one lane more gave what it had
pub gathered_more : {X A : Type 0} (f : X → List A) (all left : List X) (x : X) (had now whole : List A) → all ≡ left ++ x ∷ [] → now ≡ had ++ f x
    → had ++ flat_map f (reverse all) ≡ whole → now ++ flat_map f (reverse left) ≡ whole
gathered_more f all left x had now whole pop gave was =
    ap (λ zs. zs ++ flat_map f (reverse left)) gave ∙ append_assoc had (f x) (flat_map f (reverse left))
    ∙ ap (λ zs. had ++ flat_map f zs) (sym (ap reverse pop ∙ reverse-append left (x ∷ []))) ∙ was

-- what is still to come fits
pub gathered_fits : {X A : Type 0} (f : X → List A) (all left : List X) (x : X) (had whole : List A) → all ≡ left ++ x ∷ []
    → had ++ flat_map f (reverse all) ≡ whole → length had + length (f x) ≤ length whole
gathered_fits f all left x had whole pop was =
    let turned : flat_map f (reverse all) ≡ f x ++ flat_map f (reverse left) = ap (flat_map f) (ap reverse pop ∙ reverse-append left (x ∷ [])) in
    omega (arith, ap (λ zs. length zs) was, length-append had (flat_map f (reverse all)), ap (λ zs. length zs) turned, length-append (f x) (flat_map f (reverse left)))

module _ {X A : Type 0} (P : A → Type 0) (f : X → List A) where
  -- what holds for all holds for all in each piece
  pub all_in_pieces : (xs : List X) → All P (flat_map f xs) → All (λ x. All P (f x)) xs
  all_in_pieces xs all i d lt j e less =
      subst P (get_or-flat_map f xs i j d e lt less)
      (all (length (flat_map f (take i xs)) + j) e (omega (arith, length-flat_map-take f xs i d lt, less)))

  -- and the other way round
  pub all_of_pieces : (xs : List X) → All (λ x. All P (f x)) xs → All P (flat_map f xs)
  all_of_pieces [] each = All-nil P
  all_of_pieces (x ∷ xs) each =
      All-append P (f x) (flat_map f xs) (each 0 x (omega arith)) (all_of_pieces xs (λ i d lt. each (suc i) d (omega (arith, lt))))

-- lists in which each piece looks like the piece of another list in its place look alike
pub pieces_alike : {X A B : Type 0} (n : A → B) (f h : X → List A) (xs ys : List X) → length ys ≡ length xs
    → ((i : ℕ) (d : X) → i < length xs → map n (h (slice_index_or ys i d)) ≡ map n (f (slice_index_or xs i d))) → map n (flat_map h ys) ≡ map n (flat_map f xs)
pieces_alike n f h [] [] long same = refl
pieces_alike n f h [] (y ∷ ys) long same = absurd (omega (arith, long))
pieces_alike n f h (x ∷ xs) [] long same = absurd (omega (arith, long))
pieces_alike n f h (x ∷ xs) (y ∷ ys) long same =
    map-append n (h y) (flat_map h ys)
    ∙ ap (λ zs. zs ++ map n (flat_map h ys)) (same 0 x (omega arith))
    ∙ ap (λ zs. map n (f x) ++ zs) (pieces_alike n f h xs ys (omega (arith, long)) (λ i d lt. same (suc i) d (omega (arith, lt))))
    ∙ sym (map-append n (f x) (flat_map f xs))

-- what holds for all by what is seen of them holds for all that look alike
pub all_alike : {X B : Type 0} (f : X → B) (P : B → Type 0) (xs ys : List X) → map f ys ≡ map f xs → All (λ x. P (f x)) xs → All (λ x. P (f x)) ys
all_alike f P xs ys same all i d lt =
    let long : length ys ≡ length xs = sym (length-map ys f) ∙ ap (λ zs. length zs) same ∙ length-map xs f in
    let there : i < length xs = omega (arith, lt, long) in
    let is : f (slice_index_or ys i d) ≡ f (slice_index_or xs i d) = sym (get_or-map f ys i d (f d) lt) ∙ ap (λ zs. slice_index_or zs i (f d)) same ∙ get_or-map f xs i d (f d) there in
    subst P (sym is) (all i d there)

-- a value of a list that isn't empty
pub some_of : {X : Type 0} (xs : List X) → 0 < length xs → X
some_of [] some = absurd (omega (arith, some))
some_of (x ∷ xs) some = x

-- so do lists that look alike place by place
pub places_alike : {X Y B : Type 0} (f : X → B) (h : Y → B) (xs : List X) (ys : List Y) → length ys ≡ length xs
    → ((i : ℕ) (d : X) (e : Y) → i < length xs → h (slice_index_or ys i e) ≡ f (slice_index_or xs i d)) → map h ys ≡ map f xs
places_alike f h [] [] long same = refl
places_alike f h [] (y ∷ ys) long same = absurd (omega (arith, long))
places_alike f h (x ∷ xs) [] long same = absurd (omega (arith, long))
places_alike f h (x ∷ xs) (y ∷ ys) long same =
    let first : h y ≡ f x = same 0 x y (omega arith) in
    let rest : map h ys ≡ map f xs = places_alike f h xs ys (omega (arith, long)) (λ i d e lt. same (suc i) d e (omega (arith, lt))) in
    cc

module _ (r : Run) (P Q : Seen → Type 0) where
  -- shards with the numbers of others stand where those do
  pub with_numbers : (k : ℕ) (us ss : List Seen) → ShardsWith P r k us → map (λ s. s.number) ss ≡ map (λ s. s.number) us → All Q ss → ShardsWith Q r k ss
  with_numbers k [] [] is same all = is
  with_numbers k [] (s ∷ ss) is same all = absurd (omega (arith, ap (λ (ns : List ℕ). length ns) same))
  with_numbers k (u ∷ us) [] is same all = absurd (omega (arith, ap (λ (ns : List ℕ). length ns) same))
  with_numbers k (u ∷ us) (s ∷ ss) is same all = (
    ap first same ∙ is.0,
    (all 0 s (omega arith), with_numbers (k + 1) us ss is.1.1 (ap rest same) (λ i d lt. all (suc i) d (omega (arith, lt)))),
  ) where
    first : List ℕ → ℕ
    first [] = 0
    first (n ∷ ns) = n

    rest : List ℕ → List ℕ
    rest [] = []
    rest (n ∷ ns) = ns

-- it holds for each of them
pub with_all : (r : Run) (P : Seen → Type 0) (k : ℕ) (ss : List Seen) → ShardsWith P r k ss → All P ss
with_all r P k ss is i d lt = (with_at r P k ss i d is lt).1
