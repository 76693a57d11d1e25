-- What groups that were given back have said and counted, as the words that name them.
use Rattle.std.proofs.Common.{Bool, false, ◌≡◌, ◌⊎◌, ◌+◌, ◌*◌, ◌≤◌, ℕ, zero, suc, List, [], ◌∷◌, length, map, Option, Some, None, IfSome, subst, inl, inr, arith}
use Rattle.std.proofs.Math.Nat.{mul-le-mul_right}
use Rattle.std.proofs.lemmas.List.Elements.{All-cons, All-from_recursion, All-head, All-nil, All-tail}
use Rattle.std.specs.List.{All, zip}
use Rattle.chunk_store.proofs.Said.{keeps_on}
use Rattle.chunk_store.specs.Said.{KeepsOf, Said}
use Rattle.command_groups.specs.Lacking.{GroupRose, RoseBy, group_said}
use Rattle.command_groups.specs.Opened.{IsGroupGiven, files_in, locations_in}
use Rattle.command_groups.proofs.Seen.{group_keeps}
use Rattle.command_steps.proofs.Dialed.{at_least_among}
use Rattle.command_steps.proofs.Given.{Stands, all_stand}
use Rattle.command_steps.proofs.Numbers.{rose_later}
use Rattle.command_steps.specs.AnyStores.{IsGiven, chunks_in, location_in, said_in, source_faults}
use Rattle.command_steps.specs.Dials.{since}
use Rattle.command_steps.specs.Sources.{Storage, location_files, said_at}
use Rattle.command_steps.specs.declared.any_store.AnyStore.{AnyStore}
use Rattle.command_steps.specs.declared.any_store.AnyStore.TheVariants as stores
use Rattle.command_words.specs.declared.command.Location.{Location}
use Rattle.dsy_base.specs.Counts.{Rose, raised}
use Rattle.dsy_base.specs.Links.{DialState}
use Rattle.dsy_base.specs.Maps.{Map}
use Rattle.http_read.specs.Refusals.{IsUnacceptable}
use Rattle.store_chain.proofs.Pairs.{cons_head, cons_tail}
use Rattle.store_chain.specs.Lists.{FirstAt}
use Rattle.store_group.specs.Groups.{AtStore, Grouped, SomeStore, group_told, said_of}

-- what some store is like, the words of some store are like
some_at : {S X : Type 0} (location : S → X) (T P : S → Type 0) (Q : X → Type 0) → ((s : S) → T s → P s → Q (location s)) → (xs : List S) → All T xs → SomeStore P xs → SomeStore Q (map location xs)
some_at location T P Q f [] all some = absurd some
some_at location T P Q f (x ∷ xs) all (inl p) = inl (f x (All-head T x xs all) p)
some_at location T P Q f (x ∷ xs) all (inr some) = inr (some_at location T P Q f xs (All-tail T x xs all) some)

-- so it is of the store of a number
at_place : {S X : Type 0} (location : S → X) (T P : S → Type 0) (Q : X → Type 0) → ((s : S) → T s → P s → Q (location s)) → (k : ℕ) (xs : List S) → All T xs → AtStore P k xs → AtStore Q k (map location xs)
at_place location T P Q f k [] all at = absurd at
at_place location T P Q f zero (x ∷ xs) all at = f x (All-head T x xs all) at
at_place location T P Q f (suc k) (x ∷ xs) all at = at_place location T P Q f k xs (All-tail T x xs all) at

module _ {S : Type 0} (location : S → Location) (said : S → Said) (counted : S → ℕ) (w v : Storage) where
  -- what a group has said, its words have
  pub group_says : (xs : List S) → All (Stands location said counted w v) xs → (id : List ℕ) → KeepsOf (said_of said xs) (group_said w v (map location xs)) id
  group_says xs stand id =
      let T = Stands location said counted w v in
      record {
        denied = some_at location T (λ s. (said s).denied id) (λ q. (said_at w v q).denied id) (λ s so p. (so.says id).denied p) xs stand;
        shown = λ b. some_at location T (λ s. (said s).shown id b) (λ q. (said_at w v q).shown id b) (λ s so p. (so.says id).shown b p) xs stand;
        longer = λ n. some_at location T (λ s. (said s).longer id n) (λ q. (said_at w v q).longer id n) (λ s so p. (so.says id).longer n p) xs stand;
        taken = λ b. some_at location T (λ s. (said s).taken id b) (λ q. (said_at w v q).taken id b) (λ s so p. (so.says id).taken b p) xs stand;
        shown_by = λ k b. at_place location T (λ s. (said s).shown id b) (λ q. (said_at w v q).shown id b) (λ s so p. (so.says id).shown b p) k xs stand;
        longer_by = λ k n. at_place location T (λ s. (said s).longer id n) (λ q. (said_at w v q).longer id n) (λ s so p. (so.says id).longer n p) k xs stand;
      }

-- ---- what they have counted

some_failed : (n : ℕ) → Rose 0 n → 1 ≤ n
some_failed n (inl more) = omega (arith, more)
some_failed n (inr full) = omega (arith, full)

module _ {L D K : Type 0} (place : L → List ℕ) (faults : L → ℕ) (state : D → DialState) (w v : Storage) where
  -- a store that has failed so often, its words have
  pub rose_by : (n : ℕ) (s : AnyStore L D K) → IsGiven place faults state w v s → raised 0 n ≤ source_faults faults state s → RoseBy n w v (location_in place s)
  rose_by n (stores.Folder l) given counted = omega (arith, given, counted)
  rose_by n (stores.Http r) given counted = (
    (state r.dial).faults,
    r.refused,
    omega (arith, counted),
    given.faults,
    at_least_among (IsUnacceptable r.server) r.refused (state r.dial).ended (since w.dial.ended v.dial.ended) given.ended given.cause,
  )

  each_rose : (n : ℕ) (xs : List (AnyStore L D K)) → All (IsGiven place faults state w v) xs → All (λ s. raised 0 n ≤ source_faults faults state s) xs → All (RoseBy n w v) (map (location_in place) xs)
  each_rose n [] given counted = All-nil (RoseBy n w v)
  each_rose n (x ∷ xs) given counted =
      let given_of = IsGiven place faults state w v in
      let counted_of : AnyStore L D K → Type 0 = λ s. raised 0 n ≤ source_faults faults state s in
      All-cons (RoseBy n w v) (location_in place x) (map (location_in place) xs) (rose_by n x (All-head given_of x xs given) (All-head counted_of x xs counted)) (each_rose n xs (All-tail given_of x xs given) (All-tail counted_of x xs counted))

  -- a group has failed only where each of its stores has, e + 1 times
  pub group_rises : (e : ℕ) (g : Grouped (AnyStore L D K)) → g.retries ≡ e → IsGroupGiven place faults state w v g → Rose 0 g.failed → GroupRose e w v (locations_in place g)
  group_rises e g tries given rose =
      let once : 1 * (g.retries + 1) ≤ g.failed * (g.retries + 1) = mul-le-mul_right {m = 1} {n = g.failed} (g.retries + 1) (some_failed g.failed rose) in
      let counts = All-from_recursion (λ s. raised 0 (g.failed * (g.retries + 1)) ≤ source_faults faults state s) g.stores given.counts in
      each_rose (e + 1) g.stores given.stores (λ k d lt. (let one = counts k d lt in omega (arith, one, once, tries)))

-- ---- groups in order

module _ {S : Type 0} (locations : S → List Location) (said : S → Said) (counted : S → ℕ) (e : ℕ) (w v : Storage) where
  -- what it has said is known of the words that name it, and what it has counted
  pub record GroupStands (s : S) : Type 0 where
    pub says : (id : List ℕ) → KeepsOf (said s) (group_said w v (locations s)) id
    pub rises : Rose 0 (counted s) → GroupRose e w v (locations s)

  -- the first that failed, where those before it lack something
  module _ (lacks : Said → Type 0) (id : List ℕ) (grows : (a b : Said) → KeepsOf a b id → lacks a → lacks b) where
    pub lacked : (p : S × S) → GroupStands p.1 → lacks (said p.1) → lacks (group_said w v (locations p.1))
    lacked p s h = grows (said p.1) (group_said w v (locations p.1)) (s.says id) h

    pub failed : (p : S × S) → GroupStands p.1 → Rose (counted p.0) (counted p.1) → GroupRose e w v (locations p.1)
    failed p s rose = s.rises (rose_later 0 (counted p.0) (counted p.1) (omega arith) rose)

    pub either : (p : S × S) → GroupStands p.1 → lacks (said p.1) ⊎ Rose (counted p.0) (counted p.1) → lacks (group_said w v (locations p.1)) ⊎ GroupRose e w v (locations p.1)
    either p s (inl h) = inl (lacked p s h)
    either p s (inr h) = inr (failed p s h)

module _ {S X : Type 0} (location : S → X) (T : S → Type 0) where
  pub each_as : (P : S × S → Type 0) (Q : X → Type 0) → ((p : S × S) → T p.1 → P p → Q (location p.1)) → (before after : List S) (names : List X) → length before ≡ length after → map location after ≡ names → All T after
      → All P (zip before after) → All Q names
  each_as P Q f [] [] [] many same stands h = All-nil Q
  each_as P Q f [] [] (q ∷ names) many same stands h = absurd (cc)
  each_as P Q f [] (b ∷ after) names many same stands h = absurd (cc)
  each_as P Q f (a ∷ before) [] names many same stands h = absurd (cc)
  each_as P Q f (a ∷ before) (b ∷ after) [] many same stands h = absurd (cc)
  each_as P Q f (a ∷ before) (b ∷ after) (q ∷ names) many same stands h =
      let here = cons_head (location b) q (map location after) names same in
      let rest = cons_tail (location b) q (map location after) names same in
      let n : length before ≡ length after = cc in
      All-cons Q q names (subst Q here (f (a, b) (All-head T b after stands) (All-head P (a, b) (zip before after) h)))
      (each_as P Q f before after names n rest (All-tail T b after stands) (All-tail P (a, b) (zip before after) h))

  pub first_as : (B A C : S × S → Type 0) (U Y Z : X → Type 0) → ((p : S × S) → T p.1 → B p → U (location p.1)) → ((p : S × S) → T p.1 → A p → Y (location p.1)) → ((p : S × S) → T p.1 → C p → Z (location p.1))
      → (k : ℕ) (before after : List S) (names : List X) → length before ≡ length after → map location after ≡ names → All T after → FirstAt B A C k (zip before after) → FirstAt U Y Z k names
  first_as B A C U Y Z f g i k [] after names many same stands h = absurd h
  first_as B A C U Y Z f g i k (a ∷ before) [] names many same stands h = absurd h
  first_as B A C U Y Z f g i k (a ∷ before) (b ∷ after) [] many same stands h = absurd (cc)
  first_as B A C U Y Z f g i zero (a ∷ before) (b ∷ after) (q ∷ names) many same stands h =
      let here = cons_head (location b) q (map location after) names same in
      let rest = cons_tail (location b) q (map location after) names same in
      let n : length before ≡ length after = cc in
      (subst Y here (g (a, b) (All-head T b after stands) h.0), each_as C Z i before after names n rest (All-tail T b after stands) h.1)
  first_as B A C U Y Z f g i (suc k) (a ∷ before) (b ∷ after) (q ∷ names) many same stands h =
      let here = cons_head (location b) q (map location after) names same in
      let rest = cons_tail (location b) q (map location after) names same in
      let n : length before ≡ length after = cc in
      (subst U here (f (a, b) (All-head T b after stands) h.0), first_as B A C U Y Z f g i k before after names n rest (All-tail T b after stands) h.1)

-- the groups of a command stand so once they are given back
module _ {L D K : Type 0} (sure : Bool) (files : L → Option (Map (List ℕ))) (place : L → List ℕ) (faults : L → ℕ) (state : D → DialState) (e : ℕ) (w v : Storage) where
  abbrev pub Standing : Grouped (AnyStore L D K) → Type 0
  Standing g = GroupStands (locations_in place) (group_told false sure (chunks_in files) (said_in files state)) (λ (h : Grouped (AnyStore L D K)). h.failed) e w v g

  one_stands : (g : Grouped (AnyStore L D K)) (q : List Location) → locations_in place g ≡ q → IfSome w.disk.folders (λ m. files_in files g ≡ map (location_files m) q) → g.retries ≡ e → IsGroupGiven place faults state w v g → Standing g
  one_stands g q same held tries given =
      let stand = all_stand files place faults state w v g.stores q same held given.stores in
      record {
        says = λ id. keeps_on (group_told false sure (chunks_in files) (said_in files state) g) (said_of (said_in files state) g.stores) (group_said w v (locations_in place g)) id
            (group_keeps (said_in files state) sure (chunks_in files) g id) (group_says (location_in place) (said_in files state) (source_faults faults state) w v g.stores stand id);
        rises = group_rises place faults state w v e g tries given;
      }

  pub all_groups_stand : (xs : List (Grouped (AnyStore L D K))) (groups : List (List Location)) → map (locations_in place) xs ≡ groups → IfSome w.disk.folders (λ m. map (files_in files) xs ≡ map (map (location_files m)) groups)
      → All (λ g. g.retries ≡ e) xs → All (IsGroupGiven place faults state w v) xs → All Standing xs
  all_groups_stand [] names same held tries given = All-nil Standing
  all_groups_stand (g ∷ xs) [] same held tries given = absurd (cc)
  all_groups_stand (g ∷ xs) (q ∷ names) same held tries given =
      let tries_of : Grouped (AnyStore L D K) → Type 0 = λ g. g.retries ≡ e in
      let given_of = IsGroupGiven place faults state w v in
      All-cons Standing g xs
      (one_stands g q (cons_head (locations_in place g) q (map (locations_in place) xs) names same) (head w.disk.folders held) (All-head tries_of g xs tries) (All-head given_of g xs given))
      (all_groups_stand xs names (cons_tail (locations_in place g) q (map (locations_in place) xs) names same) (tail w.disk.folders held) (All-tail tries_of g xs tries) (All-tail given_of g xs given)) where
        head : (y : Option (Map (Map (List ℕ)))) → IfSome y (λ m. map (files_in files) (g ∷ xs) ≡ map (map (location_files m)) (q ∷ names)) → IfSome y (λ m. files_in files g ≡ map (location_files m) q)
        head None h = tt
        head (Some m) h = cons_head (files_in files g) (map (location_files m) q) (map (files_in files) xs) (map (map (location_files m)) names) h

        tail : (y : Option (Map (Map (List ℕ)))) → IfSome y (λ m. map (files_in files) (g ∷ xs) ≡ map (map (location_files m)) (q ∷ names)) → IfSome y (λ m. map (files_in files) xs ≡ map (map (location_files m)) names)
        tail None h = tt
        tail (Some m) h = cons_tail (files_in files g) (map (location_files m) q) (map (files_in files) xs) (map (map (location_files m)) names) h
