-- What was sent over several calls.
use Rattle.std.proofs.Common.{List, [], ◌++◌, Some, None, refl, sym, ◌∙◌, ap, subst}
use Rattle.std.proofs.lemmas.List.{append_assoc, append-nil}
use Rattle.std.proofs.lemmas.List.Elements.{All-append, All-nil, All-weaker}
use Rattle.std.specs.Prelude.{Option, ℕ}
use Rattle.chunk_store.specs.Asks.{AddsOnly, Ask, IsFrontOf, Requests, AddsRequests, Sends, Sent}

-- nothing came behind
pub adds_none : {X : Type 0} (Q : X → Type 0) (o : Option (List X)) → AddsOnly Q o o
adds_none Q (Some old) = ([], ap Some (sym (append-nil old)), All-nil Q)
adds_none Q None = refl

-- more came behind twice
pub adds_on : {X : Type 0} (Q : X → Type 0) (o m n : Option (List X)) → AddsOnly Q o m → AddsOnly Q m n → AddsOnly Q o n
adds_on {X} Q (Some old) m n first then =
    let K : Option (List X) → Type 0 = λ x. AddsOnly Q x n in
    let more = subst K first.1 then in
    (first.0 ++ more.0, more.1 ∙ ap Some (append_assoc old first.0 more.0), All-append Q first.0 more.0 first.2 more.2)
adds_on {X} Q None m n first then = let K : Option (List X) → Type 0 = λ x. AddsOnly Q x n in subst K first then

pub adds_weaker : {X : Type 0} (P Q : X → Type 0) → ((x : X) → P x → Q x) → (o n : Option (List X)) → AddsOnly P o n → AddsOnly Q o n
adds_weaker P Q more (Some old) n adds = (adds.0, adds.1, All-weaker P Q more adds.0 adds.2)
adds_weaker P Q more None n adds = adds

-- nothing was sent
pub requests_still : (P : Ask → Type 0) (s : Requests) → AddsRequests P s s
requests_still P s = record { spells = refl; ended = adds_none (IsFrontOf P s.spells) s.ended }

-- fronts were sent twice
requests_on : (P : Ask → Type 0) (r s t : Requests) → AddsRequests P r s → AddsRequests P s t → AddsRequests P r t
requests_on P r s t first then =
    let K : (Ask → List ℕ) → Type 0 = λ spells. AddsOnly (IsFrontOf P spells) s.ended t.ended in
    record {
      spells = then.spells ∙ first.spells;
      ended = adds_on (IsFrontOf P r.spells) r.ended s.ended t.ended first.ended (subst K first.spells then.ended);
    }

front_weaker : (P Q : Ask → Type 0) → ((a : Ask) → P a → Q a) → (spells : Ask → List ℕ) (b : List ℕ) → IsFrontOf P spells b → IsFrontOf Q spells b
front_weaker P Q more spells b h = record { ask = h.ask; asked = more h.ask h.asked; size = h.size; inside = h.inside; front = h.front }

requests_weaker : (P Q : Ask → Type 0) → ((a : Ask) → P a → Q a) → (s t : Requests) → AddsRequests P s t → AddsRequests Q s t
requests_weaker P Q more s t h = record {
  spells = h.spells;
  ended = adds_weaker (IsFrontOf P s.spells) (IsFrontOf Q s.spells) (front_weaker P Q more s.spells) s.ended t.ended h.ended;
}

-- the same of each store
pub sends_still : (P : Ask → Type 0) (s : Sent) → Sends P s s
sends_still P s = λ n. requests_still P (s n)

pub sends_on : (P : Ask → Type 0) (r s t : Sent) → Sends P r s → Sends P s t → Sends P r t
sends_on P r s t first then = λ n. requests_on P (r n) (s n) (t n) (first n) (then n)

-- what may be asked is more
pub sends_weaker : (P Q : Ask → Type 0) → ((a : Ask) → P a → Q a) → (s t : Sent) → Sends P s t → Sends Q s t
sends_weaker P Q more s t h = λ n. requests_weaker P Q more (s n) (t n) (h n)
