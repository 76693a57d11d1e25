-- How the taking of a body goes on.
use Rattle.std.proofs.Common.{◌≡◌, ℕ, ◌+◌, ◌-◌, ◌<◌, ◌≤◌, ◌⊎◌, inl, inr, min, List, [], ◌++◌, length, take, drop, Some, None, Ok, Err, sym, ap, ◌∙◌, subst, arith}
use Rattle.std.specs.Prelude.{Option, Result, IfSome, OnOk}
use Rattle.std.proofs.lemmas.Bool.{cases_lt}
use Rattle.std.proofs.lemmas.List.{append-nil, drop-append-le, drop_all, length-append, take_all}
use Rattle.http_read.proofs.Streams.{weaker}
use Rattle.dsy_base.specs.Links.{ReadsNext, Traffic}
use Rattle.http_fetch.specs.Taking.{IsShort, TakesBodyFront}

-- the next piece was taken, of which all bytes are of the body
front_grows : (Before After : List ℕ → Type 0) (piece : List ℕ) → ((b : List ℕ) → Before b → After (b ++ piece)) → (head size left : ℕ) (t : Traffic)
    → length piece ≤ left → 0 < length piece → take (length piece) t.coming ≡ piece → TakesBodyFront Before head size left t
    → TakesBodyFront After head size (left - length piece) (record { received = t.received ++ take (length piece) t.coming; coming = drop (length piece) t.coming; sent = t.sent })
front_grows Before After piece more head size left t few some next front =
    let d = drop head t.received in
    let grown : drop head (t.received ++ take (length piece) t.coming) ≡ d ++ piece =
    ap (λ p. drop head (t.received ++ p)) next ∙ drop-append-le head t.received piece front.inside in
    let long : length (drop head (t.received ++ take (length piece) t.coming)) ≡ length d + length piece = ap length grown ∙ length-append d piece in
    let sum : length (d ++ piece) ≡ length d + length piece = length-append d piece in
    let had : Before d = subst Before (take_all size d (omega (arith, front.missing))) front.taken in
    record {
      inside = omega (arith, length-append t.received (take (length piece) t.coming), front.inside);
      taken =
          let now : After (take size (d ++ piece)) = subst After (sym (take_all size (d ++ piece) (omega (arith, front.missing, sum)))) (more d had) in
          subst (λ b. After (take size b)) (sym grown) now;
      missing = omega (arith, front.missing, long);
    }

pub piece_taken : (Before After : List ℕ → Type 0) (piece : List ℕ) → ((b : List ℕ) → Before b → After (b ++ piece)) → (n : ℕ) → length piece ≡ n → 0 < n
    → (old new : Option Traffic) → ReadsNext piece old new → (head size left : ℕ) → n ≤ left → IfSome old (TakesBodyFront Before head size left)
    → IfSome new (TakesBodyFront After head size (left - n))
piece_taken Before After piece more n len some None new reads head size left few front =
    subst (λ o. IfSome o (TakesBodyFront After head size (left - n))) (sym reads.received) tt
piece_taken Before After piece more n len some (Some t) new reads head size left few front =
    let grown = front_grows Before After piece more head size left t (omega (arith, len)) (omega (arith, len)) reads.next front in
    let P : ℕ → Type 0 = λ m. TakesBodyFront After head size (left - m) (record { received = t.received ++ take (length piece) t.coming; coming = drop (length piece) t.coming; sent = t.sent }) in
    subst (λ o. IfSome o (TakesBodyFront After head size (left - n))) (sym reads.received) (subst P len grown)

drop_none : (n : ℕ) (xs : List ℕ) → xs ≡ [] → drop n xs ≡ []
drop_none n xs none = drop_all n xs (omega (arith, ap length none))

-- no more comes
pub ended_short : (Before : List ℕ → Type 0) (piece : List ℕ) → piece ≡ [] → (old new : Option Traffic) → ReadsNext piece old new
    → IfSome old (λ t. t.coming ≡ []) → (head size left : ℕ) → 0 < left → IfSome old (TakesBodyFront Before head size left) → IfSome new (IsShort head size)
ended_short Before piece none None new reads end head size left some front =
    subst (λ o. IfSome o (IsShort head size)) (sym reads.received) tt
ended_short Before piece none (Some t) new reads end head size left some front =
    let same : t.received ++ take (length piece) t.coming ≡ t.received =
    ap (λ p. t.received ++ p) reads.next ∙ ap (λ p. t.received ++ p) none ∙ append-nil t.received in
    subst (λ o. IfSome o (IsShort head size)) (sym reads.received) (record {
      few = omega (arith, ap (λ r. length (drop head r)) same, front.missing);
      ended = drop_none (length piece) t.coming end;
    })

-- what came with the head
pub begins_taken : (Before After : List ℕ → Type 0) (head size len : ℕ) (came piece : List ℕ) (traffic : Option Traffic)
    → ((b : List ℕ) → Before b → After (b ++ piece)) → Before [] → piece ≡ take len came → len ≡ min size (length came)
    → IfSome traffic (λ t. (head ≤ length t.received) × (drop head t.received ≡ came)) → IfSome traffic (TakesBodyFront After head size (size - len))
begins_taken Before After head size len came piece traffic more none is few behind =
    let all : take size came ≡ piece = front_of size len came few ∙ sym is in
    weaker traffic (λ t front.
    let same : take size (drop head t.received) ≡ piece = ap (take size) front.1 ∙ all in
    record {
      inside = front.0;
      taken = subst After (sym same) (more [] none);
      missing = omega (arith, few, ap length front.1);
    }) behind
  where
    take_over : (n : ℕ) (xs : List ℕ) → length xs ≤ n → take n xs ≡ take (length xs) xs
    take_over n xs le = take_all n xs le ∙ sym (take_all (length xs) xs (omega arith))

    by_size : (n m : ℕ) (xs : List ℕ) → m ≡ min n (length xs) → (n < length xs) ⊎ (length xs ≤ n) → take n xs ≡ take m xs
    by_size n m xs is (inl lt) = ap (λ k. take k xs) (omega (arith, is))
    by_size n m xs is (inr le) = take_over n xs le ∙ ap (λ k. take k xs) (omega (arith, is))

    front_of : (n m : ℕ) (xs : List ℕ) → m ≡ min n (length xs) → take n xs ≡ take m xs
    front_of n m xs is = by_size n m xs is (cases_lt n (length xs))

-- another fact of the answer
pub on_ok : {E : Type 0} {P Q : Type 0} → (r : Result (Unit {0}) E) → (P → Q) → OnOk r P → OnOk r Q
on_ok (Ok x) more is = more is
on_ok (Err e) more is = tt
