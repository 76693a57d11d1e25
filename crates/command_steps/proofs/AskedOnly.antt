-- What each server was sent, over the connections that have ended since.
use Rattle.std.proofs.Common.{◌≡◌, ℕ, ◌+◌, ◌≤◌, List, [], ◌∷◌, ◌++◌, map, slice_index_or, Some, None, refl, sym, ap, subst, ◌∙◌}
use Rattle.std.proofs.lemmas.List.Elements.{All-cons, All-head, All-nil, All-tail}
use Rattle.std.specs.List.{All, AllZip, fold}
use Rattle.std.specs.Option.{option_map}
use Rattle.std.specs.Prelude.{IfSome, Option}
use Rattle.chunk_store.specs.Asks.{AddsOnly, Ask, IsFrontOf, Sends}
use Rattle.command_steps.proofs.Asking.{IsDialed, all_few, both_dialed, each_dialed}
use Rattle.command_steps.specs.AnyStores.{IsUnused, asked_in, location_in, source_sent, with_those}
use Rattle.command_steps.specs.Asking.{Asks, AsksOnly, EachDialed, SendsFronts}
use Rattle.command_steps.specs.declared.any_store.AnyStore.{AnyStore}
use Rattle.command_steps.specs.declared.any_store.AnyStore.TheVariants as stores
use Rattle.command_words.specs.declared.command.Location.{Location}
use Rattle.dsy_base.specs.Links.{DialState, Traffic}
use Rattle.http_read.specs.Asks.{ask_bytes}
use Rattle.http_wire.specs.declared.reply.Method.TheVariants as method

abbrev sent_of : List Traffic → List (List ℕ)
sent_of ended = map (λ t. t.sent) ended

all_of_map : (Q : List ℕ → Type 0) (ts : List Traffic) → All Q (sent_of ts) → All (λ t. Q t.sent) ts
all_of_map Q [] h = All-nil (λ t. Q t.sent)
all_of_map Q (t ∷ ts) h = All-cons (λ t. Q t.sent) t ts (All-head Q t.sent (sent_of ts) h) (all_of_map Q ts (All-tail Q t.sent (sent_of ts) h))

some_is : {X : Type 0} (x y : X) → Some x ≡ Some y → x ≡ y
some_is x y is = cc

-- nothing had been sent, so all that was is new
since_none : (Q : List ℕ → Type 0) (o : Option (List (List ℕ))) → IfSome o (λ sent. sent ≡ []) → (n : Option (List Traffic)) → AddsOnly Q o (option_map sent_of n) → IfSome n (All (λ t. Q t.sent))
since_none Q o none None adds = tt
since_none Q None none (Some ts) adds = absurd (cc)
since_none Q (Some sent) none (Some ts) adds =
    let is : sent_of ts ≡ adds.0 = some_is (sent_of ts) (sent ++ adds.0) adds.1 ∙ ap (λ l. l ++ adds.0) none in
    all_of_map Q ts (subst (All Q) (sym is) adds.2)

unused_sent : {L D K : Type 0} (state : D → DialState) (s : AnyStore L D K) → IsUnused state s → IfSome (source_sent state s 0).ended (λ sent. sent ≡ [])
unused_sent state (stores.Folder l) unused = refl
unused_sent state (stores.Http r) unused = go (state r.dial).ended unused where
  go : (o : Option (List Traffic)) → IfSome o (λ ended. ended ≡ []) → IfSome (option_map sent_of o) (λ sent. sent ≡ [])
  go None none = tt
  go (Some ended) none = ap sent_of none

-- a store that was unused, and then sent but such fronts
sent_dialed : {L D K : Type 0} (state : D → DialState) (P : Ask → Type 0) (x y : AnyStore L D K) → IsUnused state x → Sends P (source_sent state x) (source_sent state y) → IsDialed state (SendsFronts P) y
sent_dialed state P x (stores.Folder l) unused sends = tt
sent_dialed state P x (stores.Http r) unused sends =
    let new = option_map sent_of (state r.dial).ended in
    let K : (Ask → List ℕ) → Type 0 = λ spells. AddsOnly (IsFrontOf P spells) (source_sent state x 0).ended new in
    since_none (IsFrontOf P (ask_bytes r.server)) (source_sent state x 0).ended (unused_sent state x unused) (state r.dial).ended (subst K (sym (sends 0).spells) (sends 0).ended)

all_sent : {L D K : Type 0} (state : D → DialState) (P : Ask → Type 0) (xs ys : List (AnyStore L D K)) → All (IsUnused state) xs
    → AllZip (λ a b. Sends P (source_sent state a) (source_sent state b)) xs ys → All (IsDialed state (SendsFronts P)) ys
all_sent state P [] [] unused sends = All-nil (IsDialed state (SendsFronts P))
all_sent state P [] (y ∷ ys) unused sends = absurd sends
all_sent state P (x ∷ xs) [] unused sends = absurd sends
all_sent state P (x ∷ xs) (y ∷ ys) unused sends =
    All-cons (IsDialed state (SendsFronts P)) y ys (sent_dialed state P x y (All-head (IsUnused state) x xs unused) sends.0)
    (all_sent state P xs ys (All-tail (IsUnused state) x xs unused) sends.1)

only_dialed : {L D K : Type 0} (state : D → DialState) (gets heads : List ℕ → ℕ) (P : Ask → Type 0) (s : AnyStore L D K) → IsDialed state (Asks gets heads) s → IsDialed state (SendsFronts P) s → IsDialed state (AsksOnly gets heads P) s
only_dialed state gets heads P (stores.Folder l) a b = tt
only_dialed state gets heads P (stores.Http r) a b = go (state r.dial).ended a b where
  go : (o : Option (List Traffic)) → IfSome o (Asks gets heads r.server) → IfSome o (SendsFronts P r.server) → IfSome o (AsksOnly gets heads P r.server)
  go None a b = tt
  go (Some ended) a b = (a, b)

-- stores that were unused, and given back after they were asked so
pub each_asked_only : {L D K : Type 0} (place : L → List ℕ) (state : D → DialState) (gets heads : List ℕ → ℕ) (P : Ask → Type 0) (xs ys : List (AnyStore L D K)) (names : List Location) (old new : Option (List Traffic)) → All (IsUnused state) xs
    → AllZip (λ a b. (q : List ℕ) → asked_in method.Get state b q ≤ asked_in method.Get state a q + gets q) xs ys
    → AllZip (λ a b. (q : List ℕ) → asked_in method.Head state b q ≤ asked_in method.Head state a q + heads q) xs ys
    → AllZip (λ a b. Sends P (source_sent state a) (source_sent state b)) xs ys
    → map (location_in place) ys ≡ names → new ≡ fold (with_those state) old ys → EachDialed (AsksOnly gets heads P) names old new
each_asked_only place state gets heads P xs ys names old new unused get head sends located ended =
    let one = all_few method.Get state gets xs ys unused get in
    let two = all_few method.Head state heads xs ys unused head in
    let three = all_sent state P xs ys unused sends in
    subst (λ l. EachDialed (AsksOnly gets heads P) l old new) located
    (each_dialed place state (AsksOnly gets heads P) ys old new ended
    (λ j y lt. let s = slice_index_or ys j y in only_dialed state gets heads P s (both_dialed state gets heads s (one j y lt) (two j y lt)) (three j y lt)))

-- the same of what they were sent alone
pub each_sent : {L D K : Type 0} (place : L → List ℕ) (state : D → DialState) (P : Ask → Type 0) (xs ys : List (AnyStore L D K)) (names : List Location) (old new : Option (List Traffic)) → All (IsUnused state) xs
    → AllZip (λ a b. Sends P (source_sent state a) (source_sent state b)) xs ys
    → map (location_in place) ys ≡ names → new ≡ fold (with_those state) old ys → EachDialed (SendsFronts P) names old new
each_sent place state P xs ys names old new unused sends located ended =
    subst (λ l. EachDialed (SendsFronts P) l old new) located (each_dialed place state (SendsFronts P) ys old new ended (all_sent state P xs ys unused sends))
