-- The request that comes next, by its head and its body.
use Rattle.std.proofs.Common.{◌≡◌, ℕ, ◌+◌, ◌<◌, ◌≤◌, List, ◌++◌, length, take, drop, Option, Some, None, refl, sym, ap, subst, ◌∙◌, arith, inl, inr, length-drop, length-append}
use Rattle.std.specs.Prelude.{IfSome}
use Rattle.std.proofs.lemmas.List.{drop-append-le}
use Rattle.dsy_base.specs.Links.{Traffic}
use Rattle.http_frames.specs.HeadEnd.{IsFirstEnd, head_limit}
use Rattle.http_serve.specs.Coming.{ComesFirst, ComesNext}
use Rattle.http_serve.specs.Protocols.{Asked, RequestReading}
use Rattle.http_serve.specs.Requests.{HasNone, Heads, IsRequestHead, endless_asked}
use Rattle.http_serve.specs.Streams.{Stream, stream_in}
use Rattle.http_serve.specs.Turns.{asked_with}
use Rattle.http_serve.specs.declared.receiving.Heading.TheVariants as heading
use Rattle.http_serve.proofs.Streaming.{drop_add, some_left}

module _ {R : Type 0} (x : RequestReading R) where
  pub endless_next : (w w' : List ℕ) (t : Option Traffic) (old : Option Stream) (a : Asked R) → stream_in w t ≡ old → head_limit ≤ length w
      → IfSome (stream_in w t) (λ s. Heads s.left heading.Endless) → a ≡ endless_asked x → w' ≡ drop head_limit w → ComesFirst x a old (stream_in w' t)
  endless_next w w' None old a is full none a_is rest = subst (λ (o : Option Stream). ComesFirst x a o None) is tt
  endless_next w w' (Some t) old a is full none a_is rest =
      subst (λ (o : Option Stream). ComesFirst x a o (stream_in w' (Some t))) is (
        head_limit,
        inr (record { none = none; size = refl; long = omega (arith, length-append w t.coming); is = a_is }),
        ap (some_left t.sent) (ap (λ y. y ++ t.coming) rest ∙ sym (drop-append-le head_limit w t.coming full)),
      )

  module _ (w w' : List ℕ) (t : Option Traffic) (old new : Option Stream) (head : ℕ) (r : R) (is : stream_in w t ≡ old) (le : head ≤ length w) (near : head ≤ head_limit)
      (ends : IfSome (stream_in w t) (λ s. Heads s.left (heading.Ends head))) (says : (more : List ℕ) → IsFirstEnd (w ++ more) head → IsRequestHead x (w ++ more) head r) (rest : w' ≡ drop head w) where
    -- what waits behind the head
    left_of : (u : Traffic) → w' ++ u.coming ≡ drop head (w ++ u.coming)
    left_of u = ap (λ y. y ++ u.coming) rest ∙ sym (drop-append-le head w u.coming le)

    pub whole_next : (size : ℕ) (body : List ℕ) → size ≡ x.size r → IfSome (stream_in w' t) (ComesNext body size new) → ComesFirst x (asked_with r body) old new
    whole_next size body sized has = go t refl where
      go : (o : Option Traffic) → o ≡ t → ComesFirst x (asked_with r body) old new
      go None e = subst (λ (q : Option Stream). ComesFirst x (asked_with r body) q new) (ap (stream_in w) e ∙ is) tt
      go (Some u) e =
          let here = subst (λ (y : List ℕ). ComesNext body size new (record { left = y; sent = u.sent })) (left_of u) (subst (λ (o : Option Traffic). IfSome (stream_in w' o) (ComesNext body size new)) (sym e) has) in
          let found = subst (λ (o : Option Traffic). IfSome (stream_in w o) (λ s. Heads s.left (heading.Ends head))) (sym e) ends in
          subst (λ (q : Option Stream). ComesFirst x (asked_with r body) q new) (ap (stream_in w) e ∙ is) (
            head + size,
            inl (record {
              head = head;
              says = says u.coming found;
              size = ap (λ n. head + n) sized;
              inside = omega (arith, here.0, length-drop head (w ++ u.coming), length-append w u.coming);
              body = here.1 ∙ ap (λ n. take n (drop head (w ++ u.coming))) sized;
            }),
            here.2 ∙ ap (some_left u.sent) (sym (drop_add head size (w ++ u.coming))),
          )

    -- the bytes end before the body does
    pub none_next : IfSome (stream_in w' t) (λ s. length s.left < x.size r) → IfSome old (λ s. HasNone x s.left)
    none_next short = go t refl where
      go : (o : Option Traffic) → o ≡ t → IfSome old (λ s. HasNone x s.left)
      go None e = subst (λ (q : Option Stream). IfSome q (λ s. HasNone x s.left)) (ap (stream_in w) e ∙ is) tt
      go (Some u) e =
          let here = subst (λ (o : Option Traffic). IfSome (stream_in w' o) (λ s. length s.left < x.size r)) (sym e) short in
          let found = subst (λ (o : Option Traffic). IfSome (stream_in w o) (λ s. Heads s.left (heading.Ends head))) (sym e) ends in
          subst (λ (q : Option Stream). IfSome q (λ s. HasNone x s.left)) (ap (stream_in w) e ∙ is)
          (inr (record {
            request = r;
            head = head;
            says = says u.coming found;
            short = omega (arith, here, ap length (left_of u), length-drop head (w ++ u.coming), length-append w u.coming);
          }))
