-- What each store was asked for, over the connections that have ended since.
use Rattle.std.proofs.Common.{◌≡◌, ℕ, suc, ◌+◌, ◌≤◌, List, [], ◌∷◌, length, map, slice_index, slice_index_or, Option, Some, None, IfSome, refl, sym, ap, subst, arith}
use Rattle.std.proofs.lemmas.List.{append-nil}
use Rattle.std.proofs.lemmas.List.Elements.{All-cons, All-nil}
use Rattle.std.specs.List.{All, AllZip, fold}
use Rattle.command_steps.specs.AnyStores.{IsUnused, asked_in, location_in, with_those}
use Rattle.command_steps.specs.Asking.{Asks, AsksFew, EachDialed}
use Rattle.command_steps.specs.Sources.{server_at}
use Rattle.command_words.specs.declared.command.Location.{Location}
use Rattle.command_words.specs.declared.command.Location.TheVariants as locations
use Rattle.command_steps.specs.declared.any_store.AnyStore.{AnyStore}
use Rattle.command_steps.specs.declared.any_store.AnyStore.TheVariants as stores
use Rattle.dsy_base.specs.Links.{DialState, Traffic, with_all}
use Rattle.http_read.specs.Asks.{Server, times_asked}
use Rattle.http_wire.specs.declared.reply.Method.{Method}
use Rattle.http_wire.specs.declared.reply.Method.TheVariants as method

-- P holds for the connections of a store
abbrev pub IsDialed : {L D K : Type 0} → (D → DialState) → (Server → List Traffic → Type 0) → AnyStore L D K → Type 0
IsDialed state P (stores.Folder l) = Unit {0}
IsDialed state P (stores.Http r) = IfSome (state r.dial).ended (P r.server)

all_tail : {X : Type 0} (P : X → Type 0) (x : X) (xs : List X) → All P (x ∷ xs) → All P xs
all_tail P x xs h = λ j y lt. h (suc j) y (omega (arith, lt))

module _ {L D K : Type 0} (place : L → List ℕ) (state : D → DialState) where
  pub each_dialed : (P : Server → List Traffic → Type 0) (xs : List (AnyStore L D K)) (old new : Option (List Traffic)) → new ≡ fold (with_those state) old xs → All (IsDialed state P) xs
      → EachDialed P (map (location_in place) xs) old new
  each_dialed P [] old new is all = is
  each_dialed P (stores.Folder l ∷ xs) old new is all = each_dialed P xs old new is (all_tail (IsDialed state P) (stores.Folder l) xs all)
  each_dialed P (stores.Http r ∷ xs) old new is all =
      ((state r.dial).ended, all 0 (stores.Http r) (omega arith), each_dialed P xs (with_all old (state r.dial).ended) new is (all_tail (IsDialed state P) (stores.Http r) xs all))

-- no connection at all
pub none_dialed : (P : Server → List Traffic → Type 0) → ((s : Server) → P s []) → (names : List Location) (old : Option (List Traffic)) → EachDialed P names old old
none_dialed P none [] old = refl
none_dialed P none (locations.Folder q ∷ names) old = none_dialed P none names old
none_dialed P none (locations.Http host port prefix ∷ names) old = (Some [], none (server_at host port prefix), subst (λ o. EachDialed P names o old) (sym (with_none old)) (none_dialed P none names old)) where
  with_none : (o : Option (List Traffic)) → with_all o (Some []) ≡ o
  with_none None = refl
  with_none (Some t) = ap Some (append-nil t)

unused_none : {L D K : Type 0} (m : Method) (state : D → DialState) (s : AnyStore L D K) → IsUnused state s → (q : List ℕ) → asked_in m state s q ≡ 0
unused_none m state (stores.Folder l) unused q = refl
unused_none m state (stores.Http r) unused q = go (state r.dial).ended unused where
  go : (o : Option (List Traffic)) → IfSome o (λ ended. ended ≡ []) → times_asked r.server m o q ≡ 0
  go None none = refl
  go (Some ended) none = ap (λ t. times_asked r.server m (Some t) q) none

few_dialed : {L D K : Type 0} (m : Method) (state : D → DialState) (n : List ℕ → ℕ) (s : AnyStore L D K) → ((q : List ℕ) → asked_in m state s q ≤ n q) → IsDialed state (AsksFew m n) s
few_dialed m state n (stores.Folder l) few = tt
few_dialed m state n (stores.Http r) few = go (state r.dial).ended few where
  go : (o : Option (List Traffic)) → ((q : List ℕ) → times_asked r.server m o q ≤ n q) → IfSome o (AsksFew m n r.server)
  go None few = tt
  go (Some ended) few = few

-- stores that were unused, and then asked at most so often
pub all_few : {L D K : Type 0} (m : Method) (state : D → DialState) (n : List ℕ → ℕ) (xs ys : List (AnyStore L D K)) → All (IsUnused state) xs
    → AllZip (λ a b. (q : List ℕ) → asked_in m state b q ≤ asked_in m state a q + n q) xs ys → All (IsDialed state (AsksFew m n)) ys
all_few m state n [] [] unused few = All-nil (IsDialed state (AsksFew m n))
all_few m state n [] (y ∷ ys) unused few = absurd few
all_few m state n (x ∷ xs) [] unused few = absurd few
all_few m state n (x ∷ xs) (y ∷ ys) unused few =
    All-cons (IsDialed state (AsksFew m n)) y ys
    (few_dialed m state n y (λ q. let none = unused_none m state x (unused 0 x (omega arith)) q in let at = few.0 q in omega (arith, none, at)))
    (all_few m state n xs ys (all_tail (IsUnused state) x xs unused) few.1)

pub both_dialed : {L D K : Type 0} (state : D → DialState) (gets heads : List ℕ → ℕ) (s : AnyStore L D K) → IsDialed state (AsksFew method.Get gets) s → IsDialed state (AsksFew method.Head heads) s → IsDialed state (Asks gets heads) s
both_dialed state gets heads (stores.Folder l) a b = tt
both_dialed state gets heads (stores.Http r) a b = go (state r.dial).ended a b where
  go : (o : Option (List Traffic)) → IfSome o (AsksFew method.Get gets r.server) → IfSome o (AsksFew method.Head heads r.server) → IfSome o (Asks gets heads r.server)
  go None a b = tt
  go (Some ended) a b = (a, b)

-- stores that were unused, and given back after they were asked so
pub each_asked : {L D K : Type 0} (place : L → List ℕ) (state : D → DialState) (gets heads : List ℕ → ℕ) (xs ys : List (AnyStore L D K)) (names : List Location) (old new : Option (List Traffic)) → All (IsUnused state) xs
    → AllZip (λ a b. (q : List ℕ) → asked_in method.Get state b q ≤ asked_in method.Get state a q + gets q) xs ys
    → AllZip (λ a b. (q : List ℕ) → asked_in method.Head state b q ≤ asked_in method.Head state a q + heads q) xs ys
    → map (location_in place) ys ≡ names → new ≡ fold (with_those state) old ys → EachDialed (Asks gets heads) names old new
each_asked place state gets heads xs ys names old new unused get head located ended =
    let one = all_few method.Get state gets xs ys unused get in
    let two = all_few method.Head state heads xs ys unused head in
    subst (λ l. EachDialed (Asks gets heads) l old new) located
    (each_dialed place state (Asks gets heads) ys old new ended (λ j y lt. both_dialed state gets heads (slice_index_or ys j y) (one j y lt) (two j y lt)))

-- the same of chunks alone
pub each_got : {L D K : Type 0} (place : L → List ℕ) (state : D → DialState) (gets : List ℕ → ℕ) (xs ys : List (AnyStore L D K)) (names : List Location) (old new : Option (List Traffic)) → All (IsUnused state) xs
    → AllZip (λ a b. (q : List ℕ) → asked_in method.Get state b q ≤ asked_in method.Get state a q + gets q) xs ys
    → map (location_in place) ys ≡ names → new ≡ fold (with_those state) old ys → EachDialed (AsksFew method.Get gets) names old new
each_got place state gets xs ys names old new unused get located ended =
    subst (λ l. EachDialed (AsksFew method.Get gets) l old new) located (each_dialed place state (AsksFew method.Get gets) ys old new ended (all_few method.Get state gets xs ys unused get))

-- ---- how stores were asked, one by one

-- nothing more
pub none_more : {S : Type 0} (asked : S → List ℕ → ℕ) (xs ys : List S) → map asked ys ≡ map asked xs → AllZip (λ a b. (q : List ℕ) → asked b q ≤ asked a q + 0) xs ys
none_more asked [] [] same = tt
none_more asked [] (y ∷ ys) same = absurd (cc)
none_more asked (x ∷ xs) [] same = absurd (cc)
none_more asked (x ∷ xs) (y ∷ ys) same =
    let here : asked y ≡ asked x = cc in
    let rest : map asked ys ≡ map asked xs = cc in
    (λ q. let at : asked y q ≡ asked x q = ap (λ f. f q) here in omega (arith, at), none_more asked xs ys rest)

-- the same by the number of the store
pub few_each : {S : Type 0} (asked : S → List ℕ → ℕ) (n : List ℕ → ℕ) (xs ys : List S) → length xs ≡ length ys → ((q : List ℕ) (k : ℕ) → slice_index (map (λ s. asked s q) ys) k ≤ slice_index (map (λ s. asked s q) xs) k + n q)
    → AllZip (λ a b. (q : List ℕ) → asked b q ≤ asked a q + n q) xs ys
few_each asked n [] [] many few = tt
few_each asked n [] (y ∷ ys) many few = absurd (omega (arith, many))
few_each asked n (x ∷ xs) [] many few = absurd (omega (arith, many))
few_each asked n (x ∷ xs) (y ∷ ys) many few = (λ q. few q 0, few_each asked n xs ys (omega (arith, many)) (λ q k. few q (suc k)))
