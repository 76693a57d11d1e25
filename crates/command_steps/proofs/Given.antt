-- Stores that were lent and given back: where they stand, what they have counted, and what they have said.
use Rattle.std.proofs.Common.{◌≡◌, ◌∙◌, ◌⊎◌, ◌+◌, ◌<◌, ◌≤◌, ℕ, zero, suc, List, [], ◌∷◌, ◌++◌, length, map, take, drop, All, Option, Some, None, IfSome, IsSome, slice_index, slice_index_or, refl, sym, ap, subst, inl, inr, arith}
use Rattle.std.proofs.Math.Seq.{drop-append_seam, get_or-append_seam, take-append_seam}
use Rattle.std.proofs.lemmas.Bool.{cases_lt}
use Rattle.std.proofs.lemmas.List.{get_or_append_left, length-append, map-append}
use Rattle.std.proofs.lemmas.List.Elements.{All-cons, All-nil, All-push}
use Rattle.std.specs.List.{zip}
use Rattle.std.specs.Map.{count_at}
use Rattle.std.specs.Option.{option_map}
use Rattle.chunk_store.specs.Folders.{chunks}
use Rattle.chunk_store.proofs.Said.{keeps_itself}
use Rattle.chunk_store.specs.Said.{KeepsOf, Said, said_by}
use Rattle.command_words.specs.declared.command.Location.{Location}
use Rattle.command_words.specs.declared.command.Location.TheVariants as locations
use Rattle.command_steps.proofs.Dialed.{among_earlier, among_longer, any_among, some_shown}
use Rattle.command_steps.proofs.Lent.{quiet_count, rose_count}
use Rattle.command_steps.proofs.Numbers.{rose_later}
use Rattle.command_steps.specs.AnyStores.{IsGiven, IsKnown, code_of, source_faults, source_files, location_in, place_in, said_in}
use Rattle.command_steps.specs.Dials.{Dials, since}
use Rattle.command_steps.specs.Sources.{Consults, FailsFirst, Storage, StoreRose, files_at, said_at, location_files}
use Rattle.command_steps.specs.declared.any_store.AnyStore.{AnyStore}
use Rattle.command_steps.specs.declared.any_store.AnyStore.TheVariants as stores
use Rattle.dsy_base.specs.Counts.{AllQuiet, Quiet, Rose, raised}
use Rattle.dsy_base.specs.Links.{DialState}
use Rattle.dsy_base.specs.Maps.{Map}
use Rattle.http_read.specs.Refusals.{IsUnacceptable}
use Rattle.http_read.specs.Replies.{IsDenial, IsLonger, IsShowing, IsTaking}
use Rattle.store_chain.specs.Faults.{EachQuiet}
use Rattle.store_chain.specs.Lists.{FirstAt}

-- ---- where they stand

-- the words, read off their numbers
abbrev location_of : List ℕ → Location
location_of [] = locations.Folder []
location_of (zero ∷ q) = locations.Folder q
location_of (suc n ∷ []) = locations.Folder []
location_of (suc n ∷ port ∷ []) = locations.Folder []
location_of (suc n ∷ port ∷ k ∷ rest) = locations.Http (take k rest) port (drop k rest)

read_off : (s : Location) → location_of (code_of s) ≡ s
read_off (locations.Folder q) = refl
read_off (locations.Http host port prefix) =
    let front : take (length host) (host ++ prefix) ≡ host = take-append_seam host prefix in
    let back : drop (length host) (host ++ prefix) ≡ prefix = drop-append_seam host prefix in
    ap (λ h. locations.Http h port (drop (length host) (host ++ prefix))) front ∙ ap (λ x. locations.Http host port x) back

read_all : {L D K : Type 0} (place : L → List ℕ) (xs : List (AnyStore L D K)) → map location_of (map (place_in place) xs) ≡ map (location_in place) xs
read_all place [] = refl
read_all place (x ∷ xs) =
    let first : location_of (place_in place x) ≡ location_in place x = read_off (location_in place x) in
    ap (λ s. s ∷ map location_of (map (place_in place) xs)) first ∙ ap (λ l. location_in place x ∷ l) (read_all place xs)

-- stores whose places were kept stand where they stood
pub stand_still : {L D K : Type 0} (place : L → List ℕ) (old new : List (AnyStore L D K)) → map (place_in place) new ≡ map (place_in place) old → map (location_in place) new ≡ map (location_in place) old
stand_still place old new same = sym (read_all place new) ∙ ap (map location_of) same ∙ read_all place old

-- so does one of them
pub stands_there : {L D K : Type 0} (place : L → List ℕ) (old new : AnyStore L D K) → place_in place new ≡ place_in place old → location_in place new ≡ location_in place old
stands_there place old new same = sym (read_off (location_in place new)) ∙ ap location_of same ∙ read_off (location_in place old)

-- ---- what one has counted and said

-- without knowledge nothing is claimed
keeps_none : (held : Option (Map (List ℕ))) (id : List ℕ) → KeepsOf (said_by held) (said_by None) id
keeps_none held id = record { denied = λ h. tt; shown = λ b h. tt; longer = λ n h. tt; taken = λ b h. tt; shown_by = λ k b h. (h.0, tt); longer_by = λ k n h. (h.0, tt) }

folder_says : {L : Type 0} (files : L → Option (Map (List ℕ))) (place : L → List ℕ) (y : Option (Map (Map (List ℕ)))) (l : L) → IfSome y (λ m. files l ≡ m (place l)) → (id : List ℕ) → KeepsOf (said_by (option_map chunks (files l))) (said_by (option_map chunks (files_at y (place l)))) id
folder_says files place None l held id = keeps_none (option_map chunks (files l)) id
folder_says files place (Some m) l held id = subst (λ o. KeepsOf (said_by (option_map chunks (files l))) (said_by (option_map chunks o)) id) held (keeps_itself (said_by (option_map chunks (files l))) id)

dialed_rose : (a b f n : ℕ) → raised a f ≤ b → Rose 0 (raised f n) → Rose a b ⊎ (0 < n)
dialed_rose a b f n le rose = elim (cases_lt 0 n) [
  | inl some ↦ inr some
  | inr none ↦ inl (rose_count a a b f (omega arith) le (go none rose))
] where
  go : n ≤ 0 → Rose 0 (raised f n) → Rose 0 f
  go none (inl more) = elim (cases_lt 0 f) [
    | inl some ↦ inl some
    | inr zero_faults ↦ absurd (omega (arith, none, more, zero_faults))
  ]
  go none (inr full) = inr (omega (arith, none, full))

module _ {L D K : Type 0} (files : L → Option (Map (List ℕ))) (place : L → List ℕ) (faults : L → ℕ) (state : D → DialState) (w v : Storage) where
  pub store_says : (s : AnyStore L D K) → IfSome w.disk.folders (λ m. source_files files s ≡ location_files m (location_in place s)) → IsGiven place faults state w v s → (id : List ℕ) → KeepsOf (said_in files state s) (said_at w v (location_in place s)) id
  store_says (stores.Folder l) held given id = folder_says files place w.disk.folders l held id
  store_says (stores.Http r) held given id =
      let ended = (state r.dial).ended in
      let last = since w.dial.ended v.dial.ended in
      record {
        denied = any_among (IsDenial r.server id) ended last given.ended;
        shown = λ b. any_among (IsShowing r.server id b) ended last given.ended;
        longer = λ n. any_among (IsLonger r.server id n) ended last given.ended;
        taken = λ b. any_among (IsTaking r.server id b) ended last given.ended;
        shown_by = λ k b h. (h.0, any_among (IsShowing r.server id b) ended last given.ended h.1);
        longer_by = λ k n h. (h.0, any_among (IsLonger r.server id n) ended last given.ended h.1);
      }

  pub store_rises : (s : AnyStore L D K) → IsGiven place faults state w v s → Rose 0 (source_faults faults state s) → StoreRose w v (location_in place s)
  store_rises (stores.Folder l) given rose = rose_count (count_at w.disk.folder_counts (place l)) (count_at w.disk.folder_counts (place l)) (count_at v.disk.folder_counts (place l)) (faults l) (omega arith) given rose
  store_rises (stores.Http r) given rose = elim (dialed_rose w.dial.faults v.dial.faults (state r.dial).faults r.refused given.faults rose) [
    | inl counted ↦ inl counted
    | inr some ↦ inr (any_among (IsUnacceptable r.server) (state r.dial).ended (since w.dial.ended v.dial.ended) given.ended (some_shown (IsUnacceptable r.server) r.refused (state r.dial).ended some given.cause))
  ]

-- what was added after more had been consulted, and before
module _ {L D K : Type 0} (place : L → List ℕ) (faults : L → ℕ) (state : D → DialState) where
  pub given_earlier : (w u v : Storage) → ((q : List ℕ) → count_at w.disk.folder_counts q ≤ count_at u.disk.folder_counts q) → Dials w.dial u.dial → Dials u.dial v.dial → (s : AnyStore L D K) → IsGiven place faults state u v s → IsGiven place faults state w v s
  given_earlier w u v le a b (stores.Folder l) given = omega (arith, le (place l), given)
  given_earlier w u v le a b (stores.Http r) given = record {
    faults = omega (arith, a.faults, given.faults);
    ended = among_earlier (state r.dial).ended w.dial.ended u.dial.ended v.dial.ended a.ended b.ended given.ended;
    cause = given.cause;
  }

  pub given_longer : (w v u : Storage) → ((q : List ℕ) → count_at v.disk.folder_counts q ≤ count_at u.disk.folder_counts q) → Dials w.dial v.dial → Dials v.dial u.dial → (s : AnyStore L D K) → IsGiven place faults state w v s → IsGiven place faults state w u s
  given_longer w v u le a b (stores.Folder l) given = omega (arith, le (place l), given)
  given_longer w v u le a b (stores.Http r) given = record {
    faults = omega (arith, b.faults, given.faults);
    ended = among_longer (state r.dial).ended w.dial.ended v.dial.ended u.dial.ended a.ended b.ended given.ended;
    cause = given.cause;
  }

-- ---- stores in order

module _ {S : Type 0} (location : S → Location) (said : S → Said) (counted : S → ℕ) (w v : Storage) where
  -- what it has said is known of the words that name it, and what it has counted
  pub record Stands (s : S) : Type 0 where
    pub says : (id : List ℕ) → KeepsOf (said s) (said_at w v (location s)) id
    pub rises : Rose 0 (counted s) → StoreRose w v (location s)

  all_tail : {X : Type 0} (P : X → Type 0) (x : X) (xs : List X) → All P (x ∷ xs) → All P xs
  all_tail P x xs h = λ j y lt. h (suc j) y (omega (arith, lt))

  pub each_as : (P : S × S → Type 0) (Q : Location → Type 0) → ((p : S × S) → Stands p.1 → P p → Q (location p.1)) → (before after : List S) (names : List Location) → length before ≡ length after → map location after ≡ names → All Stands after
      → All P (zip before after) → All Q names
  each_as P Q f [] [] [] len same stands h = All-nil Q
  each_as P Q f [] [] (q ∷ names) len same stands h = absurd (cc)
  each_as P Q f [] (b ∷ after) names len same stands h = absurd (cc)
  each_as P Q f (a ∷ before) [] names len same stands h = absurd (cc)
  each_as P Q f (a ∷ before) (b ∷ after) [] len same stands h = absurd (cc)
  each_as P Q f (a ∷ before) (b ∷ after) (q ∷ names) len same stands h =
      let here : location b ≡ q = cc in
      let rest : map location after ≡ names = cc in
      let n : length before ≡ length after = cc in
      All-cons Q q names (subst Q here (f (a, b) (stands 0 b (omega arith)) (h 0 (a, b) (omega arith))))
      (each_as P Q f before after names n rest (all_tail Stands b after stands) (all_tail P (a, b) (zip before after) h))

  pub first_as : (B A C : S × S → Type 0) (X Y Z : Location → Type 0) → ((p : S × S) → Stands p.1 → B p → X (location p.1)) → ((p : S × S) → Stands p.1 → A p → Y (location p.1)) → ((p : S × S) → Stands p.1 → C p → Z (location p.1))
      → (k : ℕ) (before after : List S) (names : List Location) → length before ≡ length after → map location after ≡ names → All Stands after → FirstAt B A C k (zip before after) → FirstAt X Y Z k names
  first_as B A C X Y Z f g i k [] after names len same stands h = absurd h
  first_as B A C X Y Z f g i k (a ∷ before) [] names len same stands h = absurd h
  first_as B A C X Y Z f g i k (a ∷ before) (b ∷ after) [] len same stands h = absurd (cc)
  first_as B A C X Y Z f g i zero (a ∷ before) (b ∷ after) (q ∷ names) len same stands h =
      let here : location b ≡ q = cc in
      let rest : map location after ≡ names = cc in
      let n : length before ≡ length after = cc in
      (subst Y here (g (a, b) (stands 0 b (omega arith)) h.0), each_as C Z i before after names n rest (all_tail Stands b after stands) h.1)
  first_as B A C X Y Z f g i (suc k) (a ∷ before) (b ∷ after) (q ∷ names) len same stands h =
      let here : location b ≡ q = cc in
      let rest : map location after ≡ names = cc in
      let n : length before ≡ length after = cc in
      (subst X here (f (a, b) (stands 0 b (omega arith)) h.0), first_as B A C X Y Z f g i k before after names n rest (all_tail Stands b after stands) h.1)

  -- the first that failed, where those before it lack something
  module _ (lacks : Said → Type 0) (id : List ℕ) (grows : (a b : Said) → KeepsOf a b id → lacks a → lacks b) where
    lacked : (p : S × S) → Stands p.1 → lacks (said p.1) → lacks (said_at w v (location p.1))
    lacked p s h = grows (said p.1) (said_at w v (location p.1)) (s.says id) h

    failed : (p : S × S) → Stands p.1 → Rose (counted p.0) (counted p.1) → StoreRose w v (location p.1)
    failed p s rose = s.rises (rose_later 0 (counted p.0) (counted p.1) (omega arith) rose)

    either : (p : S × S) → Stands p.1 → lacks (said p.1) ⊎ Rose (counted p.0) (counted p.1) → lacks (said_at w v (location p.1)) ⊎ StoreRose w v (location p.1)
    either p s (inl h) = inl (lacked p s h)
    either p s (inr h) = inr (failed p s h)

    pub fails_first : (k : ℕ) (before after : List S) (names : List Location) → length before ≡ length after → map location after ≡ names → All Stands after
        → FirstAt (λ p. lacks (said p.1)) (λ p. Rose (counted p.0) (counted p.1)) (λ p. lacks (said p.1) ⊎ Rose (counted p.0) (counted p.1)) k (zip before after) → FailsFirst lacks w v k names
    fails_first k before after names len same stands h = first_as (λ p. lacks (said p.1)) (λ p. Rose (counted p.0) (counted p.1)) (λ p. lacks (said p.1) ⊎ Rose (counted p.0) (counted p.1))
        (λ s. lacks (said_at w v s)) (StoreRose w v) (λ s. lacks (said_at w v s) ⊎ StoreRose w v s) lacked failed either k before after names len same stands h

-- the stores of a command stand so once they are given back
pub all_stand : {L D K : Type 0} (files : L → Option (Map (List ℕ))) (place : L → List ℕ) (faults : L → ℕ) (state : D → DialState) (w v : Storage) (xs : List (AnyStore L D K)) (names : List Location)
    → map (location_in place) xs ≡ names → IfSome w.disk.folders (λ m. map (source_files files) xs ≡ map (location_files m) names) → All (IsGiven place faults state w v) xs → All (Stands (location_in place) (said_in files state) (source_faults faults state) w v) xs
all_stand {L} {D} {K} files place faults state w v [] names same held given = All-nil (Stands (location_in place) (said_in files state) (source_faults faults state) w v)
all_stand {L} {D} {K} files place faults state w v (x ∷ xs) [] same held given = absurd (cc)
all_stand {L} {D} {K} files place faults state w v (x ∷ xs) (q ∷ names) same held given =
    let here : location_in place x ≡ q = cc in
    let rest : map (location_in place) xs ≡ names = cc in
    All-cons (Stands (location_in place) (said_in files state) (source_faults faults state) w v) x xs
    (record {
      says = store_says files place faults state w v x (head w.disk.folders here held) (given 0 x (omega arith));
      rises = store_rises files place faults state w v x (given 0 x (omega arith));
    }) (all_stand files place faults state w v xs names rest (tail w.disk.folders held) (λ j y lt. given (suc j) y (omega (arith, lt)))) where
      head : (y : Option (Map (Map (List ℕ)))) → location_in place x ≡ q → IfSome y (λ m. map (source_files files) (x ∷ xs) ≡ map (location_files m) (q ∷ names)) → IfSome y (λ m. source_files files x ≡ location_files m (location_in place x))
      head None here h = tt
      head (Some m) here h = let first : source_files files x ≡ location_files m q = cc in first ∙ ap (location_files m) (sym here)

      tail : (y : Option (Map (Map (List ℕ)))) → IfSome y (λ m. map (source_files files) (x ∷ xs) ≡ map (location_files m) (q ∷ names)) → IfSome y (λ m. map (source_files files) xs ≡ map (location_files m) names)
      tail None h = tt
      tail (Some m) h = cc

-- ---- stores that are all folders

-- what is known is known still
pub known_later : (old new : Map ℕ) → ((q : List ℕ) → IsSome (old q) → IsSome (new q)) → (s : Location) → IsKnown old s → IsKnown new s
known_later old new on (locations.Folder q) is = on q is
known_later old new on (locations.Http host port prefix) is = tt

pub all_later : (old new : Map ℕ) → ((q : List ℕ) → IsSome (old q) → IsSome (new q)) → (stores : List Location) → All (IsKnown old) stores → All (IsKnown new) stores
all_later old new on stores known = λ k s lt. known_later old new on (slice_index_or stores k s) (known k s lt)

zeros_at : {X : Type 0} (xs : List X) (k : ℕ) → slice_index (map {B = ℕ} (λ x. 0) xs) k ≡ 0
zeros_at [] k = refl
zeros_at (x ∷ xs) zero = refl
zeros_at (x ∷ xs) (suc k) = zeros_at xs k

module _ {L D K : Type 0} (files : L → Option (Map (List ℕ))) (place : L → List ℕ) (faults : L → ℕ) (state : D → DialState) (w v : Storage) where
  quiet_folder : (s : AnyStore L D K) (f : Map (List ℕ)) → source_files files s ≡ Some f → IsGiven place faults state w v s → AllQuiet w.disk.folder_counts v.disk.folder_counts → Quiet 0 (source_faults faults state s)
  quiet_folder (stores.Folder l) f told given quiet =
      quiet_count (count_at w.disk.folder_counts (place l)) (count_at w.disk.folder_counts (place l)) (count_at v.disk.folder_counts (place l)) (faults l) (omega arith) given (quiet (place l))
  quiet_folder (stores.Http r) f told given quiet = absurd (cc)

  quiet_each : (fs : List (Map (List ℕ))) (after : List (AnyStore L D K)) → map (source_files files) after ≡ map Some fs → All (IsGiven place faults state w v) after → AllQuiet w.disk.folder_counts v.disk.folder_counts → (k : ℕ) → Quiet 0 (slice_index (map (source_faults faults state) after) k)
  quiet_each fs [] told given quiet k = record { same = omega arith; below = omega arith }
  quiet_each [] (s ∷ after) told given quiet k = absurd (cc)
  quiet_each (f ∷ fs) (s ∷ after) told given quiet zero = let first : source_files files s ≡ Some f = cc in quiet_folder s f first (given 0 s (omega arith)) quiet
  quiet_each (f ∷ fs) (s ∷ after) told given quiet (suc k) =
      let others : map (source_files files) after ≡ map Some fs = cc in
      quiet_each fs after others (λ j y lt. given (suc j) y (omega (arith, lt))) quiet k

  -- none has counted a fault where no number of a folder rose
  pub folders_quiet : (names : List Location) (fs : List (Map (List ℕ))) (before after : List (AnyStore L D K)) → map (source_faults faults state) before ≡ map (λ q. 0) names → map (source_files files) after ≡ map Some fs
      → All (IsGiven place faults state w v) after → AllQuiet w.disk.folder_counts v.disk.folder_counts → EachQuiet (map (source_faults faults state) before) (map (source_faults faults state) after)
  folders_quiet names fs before after fresh told given quiet = λ k.
      subst (λ (m : ℕ). Quiet m (slice_index (map (source_faults faults state) after) k)) (sym (ap (λ (l : List ℕ). slice_index l k) fresh ∙ zeros_at names k)) (quiet_each fs after told given quiet k)

-- ---- the last of several

split_last : (P : Location → Type 0) (xs : List Location) (x : Location) → All P (xs ++ x ∷ []) → All P xs × P x
split_last P xs x h =
    let many : length (xs ++ x ∷ []) ≡ length xs + 1 = length-append xs (x ∷ []) in
    (λ k d lt. subst P (get_or_append_left xs (x ∷ []) d k lt) (h k d (omega (arith, lt, many))), subst P (get_or-append_seam xs x [] x) (h (length xs) x (omega (arith, many))))

pub last_at : {S X : Type 0} (of : S → X) (all rest : List S) (x : S) → all ≡ rest ++ x ∷ [] → map of all ≡ map of rest ++ of x ∷ []
last_at of all rest x is = ap (map of) is ∙ map-append of rest (x ∷ [])

pub last_known : {S : Type 0} (location : S → Location) (counts : Map ℕ) (all rest : List S) (x : S) → all ≡ rest ++ x ∷ [] → All (IsKnown counts) (map location all) → All (IsKnown counts) (map location rest) × IsKnown counts (location x)
last_known location counts all rest x is known = split_last (IsKnown counts) (map location rest) (location x) (subst (λ l. All (IsKnown counts) l) (last_at location all rest x is) known)

-- the rest was given back, and then the last
pub given_more : {L D K : Type 0} (place : L → List ℕ) (faults : L → ℕ) (state : D → DialState) (w u v : Storage) (all rest : List (AnyStore L D K)) (x : AnyStore L D K) → all ≡ rest ++ x ∷ [] → Consults w u → Consults u v
    → All (IsGiven place faults state w u) rest → IsGiven place faults state u v x → All (IsGiven place faults state w v) all
given_more place faults state w u v all rest x is a b before last = subst (λ l. All (IsGiven place faults state w v) l) (sym is) (All-push (IsGiven place faults state w v) rest x
    (λ k d lt. given_longer place faults state w u v b.disk.folder_counts a.dial b.dial (slice_index_or rest k d) (before k d lt))
    (given_earlier place faults state w u v a.disk.folder_counts a.dial b.dial x last))
