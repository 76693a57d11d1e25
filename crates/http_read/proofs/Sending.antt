-- What a server was sent, when one connection more ends.
use Rattle.std.proofs.Common.{◌≡◌, ℕ, List, [], ◌∷◌, map, None, Some, refl, sym, ◌∙◌, ap, subst, ◌⊎◌, inl, inr}
use Rattle.std.proofs.lemmas.List.{map-append}
use Rattle.std.proofs.lemmas.List.Elements.{All-cons, All-nil}
use Rattle.std.specs.Option.{option_map}
use Rattle.std.specs.Prelude.{Option}
use Rattle.chunk_store.proofs.Sends.{sends_still}
use Rattle.chunk_store.specs.Asks.{AddsOnly, Ask, IsFrontOf, Sends}
use Rattle.dsy_base.specs.Links.{Traffic}
use Rattle.http_read.specs.Asks.{IsFront, Server, ask_bytes, sent_on}
use Rattle.http_read.specs.Remotes.{AddsOne}

abbrev sent_in : List Traffic → List (List ℕ)
sent_in ended = map (λ t. t.sent) ended

adds_one : (s : Server) (a : Ask) (old new : Option (List Traffic)) → AddsOne (λ t. IsFront (ask_bytes s a) t.sent) old new
    → AddsOnly (IsFrontOf (λ b. b ≡ a) (ask_bytes s)) (option_map sent_in old) (option_map sent_in new)
adds_one s a None new more = ap (option_map sent_in) more
adds_one s a (Some ended) new more =
    let t : Traffic = more.0 in
    let Q : List ℕ → Type 0 = IsFrontOf (λ b. b ≡ a) (ask_bytes s) in
    let front : Q t.sent = record { ask = a; asked = refl; size = more.2.0; inside = more.2.1; front = more.2.2 } in
    (t.sent ∷ [], ap (option_map sent_in) more.1 ∙ ap Some (map-append (λ t. t.sent) ended (t ∷ [])), All-cons Q t.sent [] front (All-nil Q))

-- a call sends at most a front of its request
pub sends_one : (s : Server) (a : Ask) (old new : Option (List Traffic)) → (new ≡ old) ⊎ AddsOne (λ t. IsFront (ask_bytes s a) t.sent) old new
    → Sends (λ b. b ≡ a) (sent_on s old) (sent_on s new)
sends_one s a old new (inl same) = subst (λ o. Sends (λ b. b ≡ a) (sent_on s old) (sent_on s o)) (sym same) (sends_still (λ b. b ≡ a) (sent_on s old))
sends_one s a old new (inr more) = λ n. record { spells = refl; ended = adds_one s a old new more }
