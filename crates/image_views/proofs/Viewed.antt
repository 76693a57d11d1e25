-- The views of one file.
use Rattle.std.proofs.Common.{◌≡◌, ◌≢◌, ◌∙◌, ℕ, ◌+◌, ◌<◌, ◌≤◌, zero, suc, IsSome, Bool, true, false, IsTrue, List, [], ◌∷◌, ◌++◌, length, map, slice_index_or, All, Option, Some, None, IfSome, is_some, ap, arith, refl, sym, subst, true≢false, inl, inr, length-append}
use Rattle.std.proofs.lemmas.List.{append_assoc, get_or-map, get_or_append_left, length-map}
use Rattle.std.proofs.lemmas.List.Elements.{All-append, All-map}
use Rattle.std.specs.Map.{count_at}
use Rattle.buzhash_cut.specs.Image.{AreOfOneImage}
use Rattle.command_steps.proofs.Numbers.{counted_known, counted_le, given_rose, rose_longer}
use Rattle.command_steps.proofs.Used.{Within}
use Rattle.command_steps.specs.InputFiles.{Holds}
use Rattle.command_worlds.specs.Worlds.{FileRose, Reads}
use Rattle.dsy_base.specs.Bytes.{Held}
use Rattle.dsy_base.specs.Counts.{Rose, raised}
use Rattle.dsy_base.specs.Disk.{Disk, GivesFile, HoldsSame, OnFile}
use Rattle.dsy_base.specs.Maps.{Map}
use Rattle.image_views.specs.Views.{AreOf, GrowsBy, IfFirst, IsViewOf, names_of}

-- one element more
pub all_grow : {X : Type 0} (P : X → Type 0) (old new : List X) → GrowsBy P old new → All P old → All P new
all_grow P old new (inl same) all = subst (All P) (sym same) all
all_grow {X} P old new (inr (x, is, holds)) all = subst (All P) (sym is) (All-append P old (x ∷ []) all (all_one x holds)) where
  all_one : (x : X) → P x → All P (x ∷ [])
  all_one x holds zero d lt = holds
  all_one x holds (suc k) d lt = absurd (omega arith)

-- the views are alike
module _ (d : Disk) (q : List ℕ) (n : ℕ) (tells : Bool) (told : is_some d.files ≡ tells) where
  same_bytes : (a b : Option (List ℕ)) → is_some a ≡ tells → is_some b ≡ tells → Holds d q a → Holds d q b → b ≡ a
  same_bytes a b some_a some_b = go d.files a b (some_a ∙ sym told) (some_b ∙ sym told) where
    go : (files : Option (Map (List ℕ))) (a b : Option (List ℕ)) → is_some a ≡ is_some files → is_some b ≡ is_some files → IfSome files (λ m. (t : List ℕ) × (m q ≡ Some t) × (a ≡ Some t)) → IfSome files (λ m. (t : List ℕ) × (m q ≡ Some t) × (b ≡ Some t)) → b ≡ a
    go None None None x y h k = refl
    go None None (Some b) x y h k = absurd (true≢false y)
    go None (Some a) b x y h k = absurd (true≢false x)
    go (Some m) a b x y (t, is_t, a_is) (u, is_u, b_is) = b_is ∙ sym is_u ∙ is_t ∙ sym a_is

  pub alike : (hs : List Held) → All (λ h. is_some h.bytes ≡ tells) hs → All (IsViewOf d q n) hs → AreOfOneImage hs
  alike hs some are = λ i x lt j y less.
      let one = are i x lt in
      let other = are j y less in
      (other.size ∙ sym one.size, same_bytes _ _ (some i x lt) (some j y less) one.holds other.holds)

  -- and like another one
  pub alike_to : (h : Held) → is_some h.bytes ≡ tells → h.size ≡ n → Holds d q h.bytes → (hs : List Held) → All (λ k. is_some k.bytes ≡ tells) hs → All (IsViewOf d q n) hs
      → All (λ k. (k.size ≡ h.size) × (k.bytes ≡ h.bytes)) hs
  alike_to h some_h long holds hs some are = λ j y less.
      let other = are j y less in
      (other.size ∙ sym long, same_bytes _ _ some_h (some j y less) holds other.holds)

  pub of_one : (hs : List Held) → 0 < length hs → All (λ h. is_some h.bytes ≡ tells) hs → All (IsViewOf d q n) hs → (told : Option (List ℕ)) × Holds d q told × AreOf q told hs
  of_one [] has some are = absurd (omega (arith, has))
  of_one (h ∷ hs) has some are =
      let first = are 0 h (omega arith) in
      (h.bytes, first.holds, λ i x lt. ((are i x lt).name, same_bytes _ _ (some 0 h (omega arith)) (some i x lt) first.holds (are i x lt).holds))

-- ---- their names

pub names_all : (q : List ℕ) (hs : List Held) → All (λ h. h.name ≡ q) hs → Within (names_of hs) (q ∷ [])
names_all q [] are p none = tt
names_all q (h ∷ hs) are p none =
    let rest : All (λ k. k.name ≡ q) hs = λ k x lt. are (suc k) x (omega (arith, lt)) in
    (subst (λ (n : List ℕ). p ≢ n) (sym (are 0 h (omega arith))) none.0, names_all q hs rest p none)

pub names_alone : (q : List ℕ) (told : Option (List ℕ)) (hs : List Held) → AreOf q told hs → Within (names_of hs) (q ∷ [])
names_alone q told hs are = names_all q hs (λ k x lt. (are k x lt).0)

-- a number is known of each, where one is known of their name
pub all_known : {X : Type 0} (H : X → Held) (xs : List X) (m : Map ℕ) (q : List ℕ) → IsSome (m q) → All (λ h. h.name ≡ q) (map H xs) → All (λ v. IsSome (m (H v).name)) xs
all_known H xs m q some named k d lt =
    let named_here : (slice_index_or (map H xs) k (H d)).name ≡ q = named k (H d) (omega (arith, lt, length-map xs H)) in
    let here : slice_index_or (map H xs) k (H d) ≡ H (slice_index_or xs k d) = get_or-map H xs k d (H d) lt in
    subst (λ (n : List ℕ). IsSome (m n)) (sym (ap (λ (h : Held). h.name) (sym here) ∙ named_here)) some

name_there : {X : Type 0} (H : X → Held) (front rest : List X) (x : X) → Within ((H x).name ∷ []) (names_of (map H ((front ++ x ∷ []) ++ rest)))
name_there H [] rest x q none = (none.0, tt)
name_there H (y ∷ front) rest x q none = name_there H front rest x q none.1

pub name_among : {X : Type 0} (H : X → Held) (all front rest : List X) (x : X) → (front ++ x ∷ []) ++ rest ≡ all → Within ((H x).name ∷ []) (names_of (map H all))
name_among H all front rest x is = subst (λ l. Within ((H x).name ∷ []) (names_of (map H l))) is (name_there H front rest x)

-- the first one is the last that is taken from the end
pub first_of : {X : Type 0} (P : X → Type 0) (all rest done : List X) (x : X) → (rest ++ x ∷ []) ++ done ≡ all → P x → rest ≡ [] → IfFirst P all
first_of P all rest done x is holds none = subst (IfFirst P) is (subst (λ r. IfFirst P ((r ++ x ∷ []) ++ done)) (sym none) holds)

-- over what the disk held before
pub view_earlier : (d e : Disk) (q : List ℕ) (n : ℕ) (h : Held) → e.files ≡ d.files → IsViewOf e q n h → IsViewOf d q n h
view_earlier d e q n h same is = record { name = is.name; size = is.size; holds = subst (λ (files : Option (Map (List ℕ))). IfSome files (λ m. (t : List ℕ) × (m q ≡ Some t) × (h.bytes ≡ Some t))) same is.holds }

pub grows_as : {X : Type 0} (P Q : X → Type 0) (old new : List X) → ((x : X) → P x → Q x) → GrowsBy P old new → GrowsBy Q old new
grows_as P Q old new f (inl same) = inl same
grows_as P Q old new f (inr (x, is, holds)) = inr (x, is, f x holds)

pub long_enough : {X Y : Type 0} (f : X → Y) (xs : List X) → 0 < length xs → 0 < length (map f xs)
long_enough f xs some = omega (arith, length-map xs f, some)

-- what this many views tell
same_bool : (t u : Bool) → (IsTrue t → IsTrue u) → (IsTrue u → IsTrue t) → u ≡ t
same_bool true u up down = up refl
same_bool false true up down = sym (down refl)
same_bool false false up down = refl

pub told_by : (tells other : Bool) (o : Option (List ℕ)) → is_some o ≡ other → (IsTrue tells → IsTrue other) → (IsTrue other → IsTrue tells) → is_some o ≡ tells
told_by tells other o is up down = is ∙ same_bool tells other up down

pub all_tell : {V : Type 0} (tells other : Bool) (held : V → Held) → ((v : V) → is_some (held v).bytes ≡ other) → (IsTrue tells → IsTrue other) → (IsTrue other → IsTrue tells) → (vs : List V) → All (λ h. is_some h.bytes ≡ tells) (map held vs)
all_tell tells other held told up down vs = All-map (λ h. is_some h.bytes ≡ tells) held vs (λ k d lt. told (slice_index_or vs k d) ∙ same_bool tells other up down)

pub some_grow : {X : Type 0} (P : X → Type 0) (old new : List X) → GrowsBy P old new → 0 < length old → 0 < length new
some_grow P old new (inl same) some = omega (arith, ap length same, some)
some_grow P old new (inr (x, is, holds)) some = omega (arith, ap length is, length-append old (x ∷ []), some)

pub few_grow : {X : Type 0} (P : X → Type 0) (old new : List X) → GrowsBy P old new → length new ≤ length old + 1
few_grow P old new (inl same) = omega (arith, ap length same)
few_grow P old new (inr (x, is, holds)) = omega (arith, ap length is, length-append old (x ∷ []))

-- what was opened leaves of a disk
pub opened_read : (d e : Disk) (q : List ℕ) → HoldsSame d e → OnFile d e q → Reads d e
opened_read d e q h on = record {
  files = h.files;
  folders = h.folders;
  counts = counted_le d.file_counts e.file_counts q on.counts;
  folder_counts = λ p. let same : count_at e.folder_counts p ≡ count_at d.folder_counts p = ap (λ m. count_at m p) on.folder_counts in omega (arith, same);
  known = counted_known d.file_counts e.file_counts q on.counts;
  folder_known = λ p is. subst (λ (m : Map ℕ). IsSome (m p)) (sym on.folder_counts) is;
}

-- and what one that is given back leaves
pub ends_read : (d b : Disk) (q : List ℕ) (n : ℕ) → HoldsSame d b → GivesFile d b q n → Reads d b
ends_read d b q n h g = record {
  files = h.files;
  folders = h.folders;
  counts = counted_le d.file_counts b.file_counts q g.counts.counted;
  folder_counts = λ p. let same : count_at b.folder_counts p ≡ count_at d.folder_counts p = ap (λ m. count_at m p) g.folder_counts in omega (arith, same);
  known = counted_known d.file_counts b.file_counts q g.counts.counted;
  folder_known = λ p is. subst (λ (m : Map ℕ). IsSome (m p)) (sym g.folder_counts) is;
}

-- what holds of all holds of a front
pub all_front : {X : Type 0} (P : X → Type 0) (all xs ys : List X) → xs ++ ys ≡ all → All P all → All P xs
all_front P all xs ys is holds = λ k d lt.
    let here : slice_index_or all k d ≡ slice_index_or xs k d = subst (λ l. slice_index_or l k d ≡ slice_index_or xs k d) is (get_or_append_left xs ys d k lt) in
    subst P here (holds k d (omega (arith, ap length is, length-append xs ys, lt)))

pub more_front : {X : Type 0} (all rest done : List X) (x : X) → (rest ++ x ∷ []) ++ done ≡ all → rest ++ (x ∷ done) ≡ all
more_front all rest done x is = sym (append_assoc rest (x ∷ []) done) ∙ is

-- a number that has grown before grows by as much at least
pub raised_more : (a b c n : ℕ) → a ≤ b → c ≡ raised b n → raised a n ≤ c
raised_more a b c n le is = omega (arith, is)

-- a fault of a view that had counted none is one of its name
pub view_rose : (d e : Disk) (q : List ℕ) (m n : ℕ) → raised (count_at d.file_counts q) n ≤ count_at e.file_counts q → m ≡ 0 → Rose m n → FileRose d e q
view_rose d e q m n added none rose =
    let a : ℕ = count_at d.file_counts q in
    rose_longer a (raised a n) (count_at e.file_counts q) added (given_rose a a (raised a n) n (omega arith) refl (subst (λ (k : ℕ). Rose k n) none rose))
