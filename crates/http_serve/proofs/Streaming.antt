-- Bytes that wait, those behind them, and what was sent.
use Rattle.std.proofs.Common.{◌≡◌, ℕ, ◌+◌, ◌≤◌, List, ◌++◌, length, take, drop, false, Option, Some, None, refl, sym, ap, subst, ◌∙◌, arith, append_assoc, length-drop, length-append}
use Rattle.std.specs.Prelude.{IfSome}
use Rattle.std.proofs.Math.Seq.{take-add}
use Rattle.std.proofs.lemmas.List.{take-append-le, drop-append-le, drop-drop}
use Rattle.dsy_base.specs.Links.{Traffic}
use Rattle.http_frames.specs.HeadEnd.{IsFirstEnd, ends_at, head_limit}
use Rattle.http_serve.specs.Requests.{Heads}
use Rattle.http_serve.specs.Streams.{Moves, Stream, sent_in, stream_in}
use Rattle.http_serve.specs.declared.receiving.Heading.TheVariants as heading
use Rattle.http_serve.proofs.Heading.{first_end_more, no_end_more}

pub drop_add : (n m : ℕ) (l : List ℕ) → drop (n + m) l ≡ drop m (drop n l)
drop_add n m l = sym (drop-drop m n l)

-- a stream of which these bytes are left
abbrev pub some_left : List ℕ → List ℕ → Option Stream
some_left sent left = Some (record { left = left; sent = sent })

-- ---- heads

pub head_found : (w : List ℕ) (t : Option Traffic) (n : ℕ) → IsFirstEnd w n → IfSome (stream_in w t) (λ s. Heads s.left (heading.Ends n))
head_found w None n is = tt
head_found w (Some t) n is = first_end_more w t.coming n is

pub head_endless : (w : List ℕ) (t : Option Traffic) → head_limit ≤ length w → ((m : ℕ) → m ≤ length w → ends_at w m ≡ false) → IfSome (stream_in w t) (λ s. Heads s.left heading.Endless)
head_endless w None full none = tt
head_endless w (Some t) full none = no_end_more w t.coming full none

-- ---- bytes that are looked at

pub moved : (w w' : List ℕ) (t : Option Traffic) (old : Option Stream) (n : ℕ) (piece before after : List ℕ) → n ≤ length w → stream_in w t ≡ old → piece ≡ take n w → after ≡ before ++ piece → w' ≡ drop n w → Moves old (stream_in w' t) before after
moved w w' None old n piece before after le is front more rest = subst (λ (o : Option Stream). Moves o None before after) is tt
moved w w' (Some t) old n piece before after le is front more rest =
    subst (λ (o : Option Stream). Moves o (stream_in w' (Some t)) before after) is (
      n,
      omega (arith, length-append w t.coming),
      more ∙ ap (λ p. before ++ p) (front ∙ sym (take-append-le n w t.coming le)),
      ap (some_left t.sent) (ap (λ x. x ++ t.coming) rest ∙ sym (drop-append-le n w t.coming le)),
    )

pub moves_on : (a b c : Option Stream) (x y z : List ℕ) → Moves a b x y → Moves b c y z → Moves a c x z
moves_on None b c x y z one two = tt
moves_on (Some s) b c x y z one two =
    let more = subst (λ (o : Option Stream). Moves o c y z) one.3 two in (
      one.0 + more.0,
      omega (arith, one.1, more.1, length-drop one.0 s.left),
      more.2 ∙ ap (λ p. p ++ take more.0 (drop one.0 s.left)) one.2 ∙ append_assoc x _ _ ∙ ap (λ p. x ++ p) (sym (take-add one.0 more.0 s.left)),
      more.3 ∙ ap (some_left s.sent) (sym (drop_add one.0 more.0 s.left)),
    )

pub sent_same : (w w' : List ℕ) (t : Option Traffic) → sent_in (stream_in w t) ≡ sent_in (stream_in w' t)
sent_same w w' None = refl
sent_same w w' (Some t) = refl
