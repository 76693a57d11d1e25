-- How the servers of groups that were fresh were asked, once they are given back.
use Rattle.std.proofs.Common.{◌≡◌, ◌∙◌, ◌+◌, ◌*◌, ◌<◌, ◌≤◌, ◌++◌, ℕ, suc, List, [], ◌∷◌, length, map, max, slice_index_or, Option, Some, None, IfSome, refl, sym, ap, subst, arith}
use Rattle.std.proofs.Math.Nat.{div-eq_of_lt}
use Rattle.std.proofs.lemmas.List.Elements.{All-head, All-tail}
use Rattle.std.specs.List.{All, AllByRecursion, AllZip, fold}
use Rattle.chunk_store.specs.Asks.{Ask, AddsRequests, Sends}
use Rattle.command_groups.proofs.Stand.{many_stores}
use Rattle.command_groups.specs.Asking.{GroupsAsked, with_retries}
use Rattle.command_groups.specs.Groups.{stores_of}
use Rattle.command_groups.specs.Opened.{AreUnused, all_locations, locations_in, with_group}
use Rattle.command_steps.proofs.AskedOnly.{each_asked_only, each_sent}
use Rattle.command_steps.proofs.Asking.{each_got}
use Rattle.command_steps.specs.AnyStores.{IsUnused, asked_in, source_sent, with_those}
use Rattle.command_steps.specs.Asking.{AsksFew, AsksOnly, EachDialed, SendsFronts, WorkersDialed}
use Rattle.command_steps.specs.Sources.{Storage}
use Rattle.command_steps.specs.Turns.{GivenInTurn}
use Rattle.command_steps.specs.declared.any_store.AnyStore.{AnyStore}
use Rattle.command_steps.specs.declared.any_store.AnyStore.TheVariants as stores
use Rattle.command_words.specs.declared.command.Location.{Location}
use Rattle.command_words.specs.declared.command.Location.TheVariants as locations
use Rattle.dsy_base.specs.Links.{DialState, Traffic, with_all}
use Rattle.http_read.specs.Asks.{Server, times_asked}
use Rattle.http_wire.specs.declared.reply.Method.{Method}
use Rattle.http_wire.specs.declared.reply.Method.TheVariants as method
use Rattle.store_chain.proofs.Pairs.{cons_head, cons_tail}
use Rattle.store_group.proofs.Groups.{calls_bounded}
use Rattle.store_group.specs.Groups.{Grouped, group_count, most, questions_of, sent_of}

-- ---- facts of each two elements

pub both_zip : {S : Type 0} (R T : S → S → Type 0) (xs ys : List S) → AllZip R xs ys → AllZip T xs ys → AllZip (λ a b. R a b × T a b) xs ys
both_zip R T [] [] h k = tt
both_zip R T [] (y ∷ ys) h k = absurd h
both_zip R T (x ∷ xs) [] h k = absurd h
both_zip R T (x ∷ xs) (y ∷ ys) h k = ((h.0, k.0), both_zip R T xs ys h.1 k.1)

pub first_zip : {S : Type 0} (P : S → Type 0) (R : S → S → Type 0) (xs ys : List S) → All P xs → AllZip R xs ys → AllZip (λ a b. P a × R a b) xs ys
first_zip P R [] [] all h = tt
first_zip P R [] (y ∷ ys) all h = absurd h
first_zip P R (x ∷ xs) [] all h = absurd h
first_zip P R (x ∷ xs) (y ∷ ys) all h = ((All-head P x xs all, h.0), first_zip P R xs ys (All-tail P x xs all) h.1)

pub second_zip : {S : Type 0} (P : S → Type 0) (R : S → S → Type 0) (xs ys : List S) → All P ys → AllZip R xs ys → AllZip (λ a b. P b × R a b) xs ys
second_zip P R [] [] all h = tt
second_zip P R [] (y ∷ ys) all h = absurd h
second_zip P R (x ∷ xs) [] all h = absurd h
second_zip P R (x ∷ xs) (y ∷ ys) all h = ((All-head P y ys all, h.0), second_zip P R xs ys (All-tail P y ys all) h.1)

pub map_zip : {S X : Type 0} (f : S → X) (xs ys : List S) → map f ys ≡ map f xs → AllZip (λ a b. f b ≡ f a) xs ys
map_zip f [] [] same = tt
map_zip f [] (y ∷ ys) same = absurd (cc)
map_zip f (x ∷ xs) [] same = absurd (cc)
map_zip f (x ∷ xs) (y ∷ ys) same = (cons_head (f y) (f x) (map f ys) (map f xs) same, map_zip f xs ys (cons_tail (f y) (f x) (map f ys) (map f xs) same))

-- ---- how often the stores of a group were asked

unused_counts : {L D K : Type 0} (m : Method) (state : D → DialState) (s : AnyStore L D K) → IsUnused state s → (q : List ℕ) → asked_in m state s q ≡ 0
unused_counts m state (stores.Folder l) unused q = refl
unused_counts m state (stores.Http r) unused q = go (state r.dial).ended unused where
  go : (o : Option (List Traffic)) → IfSome o (λ ended. ended ≡ []) → times_asked r.server m o q ≡ 0
  go None none = refl
  go (Some ended) none = ap (λ t. times_asked r.server m (Some t) q) none

module _ {L D K : Type 0} (m : Method) (state : D → DialState) where
  unused_group : (r : ℕ) (q : List ℕ) (xs : List (AnyStore L D K)) → All (IsUnused state) xs → most (λ s. questions_of r (asked_in m state s q)) xs ≡ 0
  unused_group r q [] unused = refl
  unused_group r q (x ∷ xs) unused =
      let none = unused_counts m state x (All-head (IsUnused state) x xs unused) q in
      let one : questions_of r (asked_in m state x q) ≡ 0 = ap (questions_of r) none ∙ div-eq_of_lt (omega arith) in
      let others = unused_group r q xs (All-tail (IsUnused state) x xs unused) in
      λ i. max (one i) (others i)

  counts_zip : (n : List ℕ → ℕ) (xs ys : List (AnyStore L D K)) → length xs ≡ length ys → ((q : List ℕ) → AllByRecursion (λ s. asked_in m state s q ≤ n q) ys) → AllZip (λ a b. (q : List ℕ) → asked_in m state b q ≤ asked_in m state a q + n q) xs ys
  counts_zip n [] [] many few = tt
  counts_zip n [] (y ∷ ys) many few = absurd (cc)
  counts_zip n (x ∷ xs) [] many few = absurd (cc)
  counts_zip n (x ∷ xs) (y ∷ ys) many few = (λ q. (let one = (few q).0 in omega (arith, one)), counts_zip n xs ys (cc) (λ q. (few q).1))

  -- a group that was unused and asked so often has asked each of its stores at most e + 1 times as often
  group_few : (e : ℕ) (n : List ℕ → ℕ) (g h : Grouped (AnyStore L D K)) → h.retries ≡ e → AreUnused state g → length g.stores ≡ length h.stores → ((q : List ℕ) → group_count (asked_in m state) h q ≤ group_count (asked_in m state) g q + n q)
      → AllZip (λ a b. (q : List ℕ) → asked_in m state b q ≤ asked_in m state a q + with_retries e n q) g.stores h.stores
  group_few e n g h tries unused many few = counts_zip (with_retries e n) g.stores h.stores many (λ q.
      (let none = unused_group g.retries q g.stores unused in
      let at = few q in
      subst (λ (k : ℕ). AllByRecursion (λ s. asked_in m state s q ≤ n q * (k + 1)) h.stores) tries
      (calls_bounded (λ s. asked_in m state s q) h.retries (n q) h.stores (omega (arith, none, at)))))

-- ---- group by group

-- the connections of some stores ended, and then those of the stores behind them
dialed_behind : (P : Server → List Traffic → Type 0) (first rest : List Location) (old mid new : Option (List Traffic)) → EachDialed P first old mid → EachDialed P rest mid new → EachDialed P (first ++ rest) old new
dialed_behind P [] rest old mid new none then = subst (λ o. EachDialed P rest o new) none then
dialed_behind P (locations.Folder q ∷ first) rest old mid new h then = dialed_behind P first rest old mid new h then
dialed_behind P (locations.Http host port prefix ∷ first) rest old mid new h then = (h.0, h.1, dialed_behind P first rest (with_all old h.0) mid new h.2 then)

module _ {L D K : Type 0} (place : L → List ℕ) (state : D → DialState) where
  abbrev after : Grouped (AnyStore L D K) → Option (List Traffic) → Option (List Traffic)
  after g old = with_group state old g

  -- what holds of each group holds of all, one after the other
  groups_dialed : (P : Server → List Traffic → Type 0) (R : Grouped (AnyStore L D K) → (Grouped (AnyStore L D K)) → Type 0) → ((g h : Grouped (AnyStore L D K)) (old : Option (List Traffic)) → R g h → EachDialed P (locations_in place h) old (after h old)) → (xs ys : List (Grouped (AnyStore L D K))) (old : Option (List Traffic))
      → AllZip R xs ys → EachDialed P (all_locations place ys) old (fold (with_group state) old ys)
  groups_dialed P R one [] [] old h = refl
  groups_dialed P R one [] (y ∷ ys) old h = absurd h
  groups_dialed P R one (x ∷ xs) [] old h = absurd h
  groups_dialed P R one (x ∷ xs) (y ∷ ys) old h = dialed_behind P (locations_in place y) (all_locations place ys) old (after y old) (fold (with_group state) (after y old) ys) (one x y old h.0) (groups_dialed P R one xs ys (after y old) h.1)

  located_dialed : (P : Server → List Traffic → Type 0) (ys : List (Grouped (AnyStore L D K))) (groups : List (List Location)) (old new : Option (List Traffic)) → map (locations_in place) ys ≡ groups → new ≡ fold (with_group state) old ys
      → EachDialed P (all_locations place ys) old (fold (with_group state) old ys) → EachDialed P (stores_of groups) old new
  located_dialed P ys groups old new located ended h = subst (λ l. EachDialed P (stores_of l) old new) located (subst (λ o. EachDialed P (all_locations place ys) old o) (sym ended) h)

  module _ (e : ℕ) where
    -- how often a group was asked more than before, and what it was sent
    abbrev Few : Method → (List ℕ → ℕ) → (Grouped (AnyStore L D K)) → (Grouped (AnyStore L D K)) → Type 0
    Few m n a b = (q : List ℕ) → group_count (asked_in m state) b q ≤ group_count (asked_in m state) a q + n q

    abbrev Sent : (Ask → Type 0) → (Grouped (AnyStore L D K)) → (Grouped (AnyStore L D K)) → Type 0
    Sent P a b = Sends P (sent_of (source_sent state) a.stores) (sent_of (source_sent state) b.stores)

    -- it was unused before, and stands where it stood, with as many retries
    abbrev Lent : Grouped (AnyStore L D K) → (Grouped (AnyStore L D K)) → Type 0
    Lent a b = AreUnused state a × ((b.retries ≡ e) × (locations_in place b ≡ locations_in place a))

    lent : (xs ys : List (Grouped (AnyStore L D K))) → All (AreUnused state) xs → All (λ g. g.retries ≡ e) ys → map (locations_in place) ys ≡ map (locations_in place) xs → AllZip Lent xs ys
    lent xs ys unused tries stands =
        first_zip (AreUnused state) (λ a b. (b.retries ≡ e) × (locations_in place b ≡ locations_in place a)) xs ys unused
        (second_zip (λ (g : Grouped (AnyStore L D K)). g.retries ≡ e) (λ a b. locations_in place b ≡ locations_in place a) xs ys tries (map_zip (locations_in place) xs ys stands))

    -- ---- one group

    -- a store that is no group sends the same, whatever the number
    one_sent : (P : Ask → Type 0) (x y : AnyStore L D K) → AddsRequests P (source_sent state x 0) (source_sent state y 0) → Sends P (source_sent state x) (source_sent state y)
    one_sent P (stores.Folder l) (stores.Folder k) sends n = sends
    one_sent P (stores.Folder l) (stores.Http r) sends n = sends
    one_sent P (stores.Http r) (stores.Folder k) sends n = sends
    one_sent P (stores.Http r) (stores.Http t) sends n = sends

    -- what a group has sent, each of its stores has
    stores_sent : (P : Ask → Type 0) (xs ys : List (AnyStore L D K)) → length xs ≡ length ys → Sends P (sent_of (source_sent state) xs) (sent_of (source_sent state) ys) → AllZip (λ a b. Sends P (source_sent state a) (source_sent state b)) xs ys
    stores_sent P [] [] many sends = tt
    stores_sent P [] (y ∷ ys) many sends = absurd (cc)
    stores_sent P (x ∷ xs) [] many sends = absurd (cc)
    stores_sent P (x ∷ xs) (y ∷ ys) many sends = (one_sent P x y (sends 0), stores_sent P xs ys (cc) (λ n. sends (suc n)))

    -- ---- groups that were unused, and given back after they were asked so

    pub groups_asked : (gets heads : List ℕ → ℕ) (P : Ask → Type 0) (xs ys : List (Grouped (AnyStore L D K))) (groups : List (List Location)) (old new : Option (List Traffic)) → All (AreUnused state) xs → All (λ g. g.retries ≡ e) ys → map (locations_in place) ys ≡ map (locations_in place) xs
        → AllZip (Few method.Get gets) xs ys → AllZip (Few method.Head heads) xs ys → AllZip (Sent P) xs ys
        → map (locations_in place) ys ≡ groups → new ≡ fold (with_group state) old ys → GroupsAsked e gets heads P groups old new
    groups_asked gets heads P xs ys groups old new unused tries stands get head sends located ended =
        let A = AsksOnly (with_retries e gets) (with_retries e heads) P in
        let R : Grouped (AnyStore L D K) → (Grouped (AnyStore L D K)) → Type 0 = λ a b. Lent a b × (Few method.Get gets a b × (Few method.Head heads a b × Sent P a b)) in
        located_dialed A ys groups old new located ended
        (groups_dialed A R
        (λ g h o r. (let many = sym (many_stores place h g r.0.1.1) in
        each_asked_only place state (with_retries e gets) (with_retries e heads) P g.stores h.stores (locations_in place h) o (fold (with_those state) o h.stores) r.0.0 (group_few method.Get state e gets g h r.0.1.0 r.0.0 many r.1.0) (group_few method.Head state e heads g h r.0.1.0 r.0.0 many r.1.1.0) (stores_sent P g.stores h.stores many r.1.1.1) refl refl)) xs ys old
        (both_zip Lent (λ a b. Few method.Get gets a b × (Few method.Head heads a b × Sent P a b)) xs ys (lent xs ys unused tries stands)
        (both_zip (Few method.Get gets) (λ a b. Few method.Head heads a b × Sent P a b) xs ys get (both_zip (Few method.Head heads) (Sent P) xs ys head sends))))

    -- the same of chunks alone
    pub groups_got : (gets : List ℕ → ℕ) (xs ys : List (Grouped (AnyStore L D K))) (groups : List (List Location)) (old new : Option (List Traffic)) → All (AreUnused state) xs → All (λ g. g.retries ≡ e) ys → map (locations_in place) ys ≡ map (locations_in place) xs
        → AllZip (Few method.Get gets) xs ys → map (locations_in place) ys ≡ groups → new ≡ fold (with_group state) old ys
        → EachDialed (AsksFew method.Get (with_retries e gets)) (stores_of groups) old new
    groups_got gets xs ys groups old new unused tries stands get located ended =
        let A = AsksFew method.Get (with_retries e gets) in
        located_dialed A ys groups old new located ended
        (groups_dialed A (λ a b. Lent a b × Few method.Get gets a b)
        (λ g h o r. (let many = sym (many_stores place h g r.0.1.1) in each_got place state (with_retries e gets) g.stores h.stores (locations_in place h) o (fold (with_those state) o h.stores) r.0.0 (group_few method.Get state e gets g h r.0.1.0 r.0.0 many r.1) refl refl)) xs ys old
        (both_zip Lent (Few method.Get gets) xs ys (lent xs ys unused tries stands) get))

    -- and of what they were sent
    pub groups_sent : (P : Ask → Type 0) (xs ys : List (Grouped (AnyStore L D K))) (groups : List (List Location)) (old new : Option (List Traffic)) → All (AreUnused state) xs → All (λ g. g.retries ≡ e) ys → map (locations_in place) ys ≡ map (locations_in place) xs
        → AllZip (Sent P) xs ys → map (locations_in place) ys ≡ groups → new ≡ fold (with_group state) old ys → EachDialed (SendsFronts P) (stores_of groups) old new
    groups_sent P xs ys groups old new unused tries stands sends located ended =
        located_dialed (SendsFronts P) ys groups old new located ended
        (groups_dialed (SendsFronts P) (λ a b. Lent a b × Sent P a b)
        (λ g h o r. (let many = sym (many_stores place h g r.0.1.1) in each_sent place state P g.stores h.stores (locations_in place h) o (fold (with_those state) o h.stores) r.0.0 (stores_sent P g.stores h.stores many r.1) refl refl)) xs ys old
        (both_zip Lent (Sent P) xs ys (lent xs ys unused tries stands) sends))

-- ---- several workers' groups

-- the connections of worker m and those after it have ended, and then those of the workers before it
module _ {X : Type 0} (Given : X → Storage → Storage → Type 0) where
  pub groups_turn_dialed : (P : ℕ → Server → List Traffic → Type 0) (stores : List Location) (m : ℕ) (xs : List X) (w u : Storage) (new : Option (List Traffic)) → GivenInTurn Given xs w u
      → ((i : ℕ) (x : X) → i < length xs → (a b : Storage) → Given (slice_index_or xs i x) a b → EachDialed (P (m + i)) stores a.dial.ended b.dial.ended)
      → WorkersDialed P m stores u.dial.ended new → WorkersDialed P (m + length xs) stores w.dial.ended new
  groups_turn_dialed P stores m [] w u new same each last =
      let from : WorkersDialed P m stores w.dial.ended new = subst (λ (s : Storage). WorkersDialed P m stores s.dial.ended new) same last in
      let none : m ≡ m + 0 = omega arith in
      subst (λ (n : ℕ). WorkersDialed P n stores w.dial.ended new) none from
  groups_turn_dialed P stores m (x ∷ xs) w u new turn each last =
      let first : m + 0 ≡ m = omega arith in
      let one : EachDialed (P m) stores turn.0.dial.ended u.dial.ended = subst (λ (n : ℕ). EachDialed (P n) stores turn.0.dial.ended u.dial.ended) first (each 0 x (omega arith) turn.0 u turn.2) in
      let more = groups_turn_dialed P stores (suc m) xs w turn.0 new turn.1
      (λ i y lt a b is. let next : m + suc i ≡ suc m + i = omega arith in subst (λ (n : ℕ). EachDialed (P n) stores a.dial.ended b.dial.ended) next (each (suc i) y (omega (arith, lt)) a b is))
      (u.dial.ended, one, last) in
      let many : suc m + length xs ≡ m + suc (length xs) = omega arith in
      subst (λ (n : ℕ). WorkersDialed P n stores w.dial.ended new) many more
