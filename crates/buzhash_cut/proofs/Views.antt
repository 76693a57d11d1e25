-- Views and their workers, who stand the other way round.
use Rattle.std.proofs.Common.{◌≡◌, ℕ, suc, ◌-◌, ◌<◌, List, [], ◌∷◌, ◌++◌, length, map, reverse, slice_index_or, All, refl, sym, ap, subst, ◌∙◌, arith}
use Rattle.std.proofs.lemmas.List.{get_or-map, get_or-reverse, length-map, length-reverse, map-append, reverse-append, reverse-reverse}
use Rattle.buzhash_cut.specs.Image.{AreOfOneImage}
use Rattle.dsy_base.specs.Bytes.{Held}

map_reversed : {X Y : Type 0} (f : X → Y) (xs : List X) → map f (reverse xs) ≡ reverse (map f xs)
map_reversed f [] = refl
map_reversed {X} {Y} f (x ∷ xs) =
    ap (map f) (reverse-append (x ∷ []) xs) ∙ map-append f (reverse xs) (x ∷ []) ∙ ap (λ (ys : List Y). ys ++ f x ∷ []) (map_reversed f xs) ∙ sym (reverse-append (f x ∷ []) (map f xs))

map_twice : {W V X : Type 0} (f : V → X) (view : W → V) (ws : List W) → map f (map view ws) ≡ map (λ w. f (view w)) ws
map_twice f view [] = refl
map_twice {W} {V} {X} f view (w ∷ ws) = ap (λ (xs : List X). f (view w) ∷ xs) (map_twice f view ws)

-- what is seen of each is alike
pub maps_alike : {W X : Type 0} (f : W → X) (xs ys : List W) → length ys ≡ length xs → ((k : ℕ) (d : W) → k < length xs → f (slice_index_or ys k d) ≡ f (slice_index_or xs k d)) → map f ys ≡ map f xs
maps_alike f [] [] long same = refl
maps_alike f [] (y ∷ ys) long same = absurd (omega arith)
maps_alike f (x ∷ xs) [] long same = absurd (omega arith)
maps_alike f (x ∷ xs) (y ∷ ys) long same =
    let first : f y ≡ f x = same 0 x (omega arith) in
    let rest : map f ys ≡ map f xs = maps_alike f xs ys (omega arith) (λ k d lt. same (suc k) d (omega arith)) in
    cc

-- what is seen of the views is seen of the workers
pub seen_by : {W V X : Type 0} (f : V → X) (view : W → V) (vs : List V) (ws : List W) → vs ≡ reverse (map view ws) → map f vs ≡ reverse (map (λ w. f (view w)) ws)
seen_by f view vs ws is = ap (map f) is ∙ map_reversed f (map view ws) ∙ ap reverse (map_twice f view ws)

all_reversed : {X : Type 0} (P : X → Type 0) (xs : List X) → All P xs → All P (reverse xs)
all_reversed P xs all k d lt =
    let inside : k < length xs = omega (arith, lt, length-reverse xs) in
    subst P (sym (get_or-reverse xs k d inside)) (all (length xs - 1 - k) d (omega arith))

all_unmapped : {X Y : Type 0} (f : X → Y) (P : Y → Type 0) (xs : List X) → All P (map f xs) → All (λ x. P (f x)) xs
all_unmapped f P xs all k d lt = subst P (get_or-map f xs k d (f d) lt) (all k (f d) (omega (arith, lt, length-map xs f)))

-- what holds of what the workers' views hold holds of each view
pub all_views : {W V : Type 0} (H : V → Held) (view : W → V) (vs : List V) (ws : List W) (P : Held → Type 0) → vs ≡ reverse (map view ws) → All P (map (λ w. H (view w)) ws) → All (λ v. P (H v)) vs
all_views H view vs ws P is all =
    all_unmapped H P vs (subst (All P) (sym (seen_by H view vs ws is)) (all_reversed P (map (λ w. H (view w)) ws) all))

alike_reversed : (hs : List Held) → AreOfOneImage hs → AreOfOneImage (reverse hs)
alike_reversed hs alike =
    let R = λ (h k : Held). (k.size ≡ h.size) × (k.bytes ≡ h.bytes) in
    all_reversed (λ h. All (R h) (reverse hs)) hs (λ i d lt. all_reversed (R (slice_index_or hs i d)) hs (alike i d lt))

pub alike_by : {W V : Type 0} (H : V → Held) (view : W → V) (vs : List V) (ws : List W) → vs ≡ reverse (map view ws) → AreOfOneImage (map H vs) → AreOfOneImage (map (λ w. H (view w)) ws)
alike_by H view vs ws is alike =
    subst AreOfOneImage (ap reverse (seen_by H view vs ws is) ∙ reverse-reverse (map (λ w. H (view w)) ws)) (alike_reversed (map H vs) alike)

-- views of one image are of one size
pub sizes_alike : {W : Type 0} (H : W → Held) (ws : List W) → AreOfOneImage (map H ws) → (i j : ℕ) (d e : W) → i < length ws → j < length ws
    → (H (slice_index_or ws i d)).size ≡ (H (slice_index_or ws j e)).size
sizes_alike H ws alike i j d e lt more =
    let one : slice_index_or (map H ws) i (H d) ≡ H (slice_index_or ws i d) = get_or-map H ws i d (H d) lt in
    let other : slice_index_or (map H ws) j (H d) ≡ H (slice_index_or ws j e) = get_or-map H ws j e (H d) more in
    let same = alike j (H d) (omega (arith, more, length-map ws H)) i (H d) (omega (arith, lt, length-map ws H)) in
    sym (ap (λ (h : Held). h.size) one) ∙ same.0 ∙ ap (λ (h : Held). h.size) other

-- what is said of two workers is said of two that equal them
pub said_of : {W : Type 0} (P : W → W → Type 0) (a b x y : W) → a ≡ x → b ≡ y → P a b → P x y
said_of P a b x y is other p = subst (λ w. P x w) other (subst (λ w. P w b) is p)
