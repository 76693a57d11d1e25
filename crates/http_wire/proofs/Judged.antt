-- The body of a request that is taken.
use Rattle.std.proofs.Common.{◌≡◌, ℕ, ◌≤◌, Bool, true, false, cond, nat_lt, Option, Some, None, Result, Ok, Err, refl, sym, ap, ◌∙◌, arith, is_err}
use Rattle.std.proofs.lemmas.Bool.Decides.{nat_tests}
use Rattle.http_wire.specs.declared.framing.Coding.{Coding}
use Rattle.http_wire.specs.declared.framing.Coding.TheVariants as coding
use Rattle.http_wire.specs.declared.framing.ContentLength.{ContentLength}
use Rattle.http_wire.specs.declared.framing.ContentLength.TheVariants as told
use Rattle.http_wire.specs.declared.framing.Framing.{Framing}
use Rattle.http_wire.specs.declared.reply.Method.{Method}
use Rattle.http_wire.specs.declared.reply.Method.TheVariants as method
use Rattle.http_wire.specs.Judging.{◌>>=◌, body_told, judged_method, judged_length, uncoded}

module _ (limit : ℕ) where
  -- what a PUT that is allowed comes to
  abbrev put_with : Coding → ContentLength → Result Method ℕ
  put_with c t = uncoded c >>= λ _. judged_length limit method.Put t >>= λ _. Ok method.Put

  tested : (n : ℕ) (t : Bool) → nat_lt limit n ≡ t → is_err (cond {0} t (Err 413) (Ok (tt {0})) >>= λ _. Ok method.Put) ≡ false → n ≤ limit
  tested n true is taken = absurd (cc)
  tested n false is taken = grind (arith, nat_tests)

  put_fits : (c : Coding) (t : ContentLength) → is_err (put_with c t) ≡ false → body_told (Some method.Put) t ≤ limit
  put_fits coding.Absent told.Absent taken = omega arith
  put_fits coding.Absent told.Wrong taken = omega arith
  put_fits coding.Absent (told.Number n) taken = tested n (nat_lt limit n) refl taken
  put_fits coding.Chunked t taken = absurd (cc)
  put_fits coding.Other t taken = absurd (cc)

  body_fits : (writable : Bool) (name : Option Method) (f : Framing) → is_err (judged_method limit writable name f) ≡ false → body_told name f.told ≤ limit
  unfolding judged_method
  body_fits writable None f taken = omega arith
  body_fits writable (Some method.Get) f taken = omega arith
  body_fits writable (Some method.Head) f taken = omega arith
  body_fits true (Some method.Put) f taken = put_fits f.coding f.told taken
  body_fits false (Some method.Put) f taken = absurd (cc)

  pub taken_fits : (writable : Bool) (name : Option Method) (f : Framing) (j : Result Method ℕ) → j ≡ judged_method limit writable name f → is_err j ≡ false → body_told name f.told ≤ limit
  taken_fits writable name f j judge taken = body_fits writable name f (ap is_err (sym judge) ∙ taken)
