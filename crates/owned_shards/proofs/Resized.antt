-- A target past its old length, after its length was set.
use Rattle.std.proofs.Common.{◌≡◌, ℕ, ◌+◌, ◌-◌, ◌<◌, ◌≤◌, List, ◌++◌, length, take, drop, replicate, sym, ap, ◌∙◌, inl, inr, arith, length-append}
use Rattle.std.proofs.lemmas.Bool.{cases_lt}
use Rattle.std.proofs.lemmas.List.{take-replicate, drop-replicate, take_all, length-take, length-replicate}
use Rattle.std.proofs.Math.Seq.{drop-append-add}
use Rattle.dsy_base.specs.Bytes.{resized}
use Rattle.owned_shards.specs.Wholes.{ZerosFrom}

pub length_resized : (o : List ℕ) (n : ℕ) → length (resized o n) ≡ n
length_resized o n = rw (length-append, length-take, length-replicate) (omega arith)

longer : (o : List ℕ) (n : ℕ) → length o < n → ZerosFrom (length o) (resized o n)
longer o n less a z past le inside =
    let size = length_resized o n in
    let rest : List ℕ = replicate (n - length o) 0 in
    let m = a - length o in
    let whole : take n o ≡ o = take_all n o (omega arith) in
    let at : a ≡ length o + m = omega arith in
    let fits : z - a ≤ (n - length o) - m = omega (arith, size, inside) in
    let past_old : drop a (o ++ rest) ≡ replicate ((n - length o) - m) 0 =
    ap (λ k. drop k (o ++ rest)) at ∙ drop-append-add o rest m ∙ drop-replicate m (n - length o) 0 in
    ap (λ x. take (z - a) (drop a (x ++ rest))) whole
    ∙ ap (take (z - a)) past_old
    ∙ take-replicate (z - a) ((n - length o) - m) 0 fits

shorter : (o : List ℕ) (n : ℕ) → n ≤ length o → ZerosFrom (length o) (resized o n)
shorter o n less a z past le inside =
    let size = length_resized o n in
    let nothing : z - a ≡ 0 = omega (arith, size, inside) in
    ap (λ k. take k (drop a (resized o n))) nothing ∙ ap (λ k. replicate k 0) (sym nothing)

pub zeros_from : (o : List ℕ) (n : ℕ) → ZerosFrom (length o) (resized o n)
zeros_from o n = elim (cases_lt (length o) n) [ inl less ↦ longer o n less | inr at_most ↦ shorter o n at_most ]
