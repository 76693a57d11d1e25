-- What is added to a line, read in another way.
use Rattle.std.proofs.Common.{◌≡◌, ℕ, ◌+◌, ◌≤◌, List, ◌++◌, length, Result, Ok, Err, sym, ap, subst, ◌∙◌, append_assoc, arith}
use Rattle.command_outcome.specs.ErrorLines.{name_in, text_of}
use Rattle.command_outcome.specs.Lines.{AddsToLine, Written}
use Rattle.command_outcome.specs.declared.outcome.Outcome.{Outcome}

-- the same text, of at most more bytes
pub adds_within : {A E : Type 0} {s : List ℕ} {m : ℕ} {old new : Written} {r : Result A E} (t : List ℕ) (k : ℕ) → AddsToLine s m old new r → s ≡ t → m ≤ k → AddsToLine t k old new r
adds_within {A} {E} {s} {m} {old} {new} {r} t k h same le = go r h where
  go : (r : Result A E) → AddsToLine s m old new r → AddsToLine t k old new r
  go (Ok u) h = record { ok = subst (λ x. new.text ≡ old.text ++ x) same h.ok; short = omega (arith, h.short, le); room = h.room; full = tt }
  go (Err e) h = record { ok = tt; short = tt; room = h.room; full = omega (arith, h.full, le) }

-- one text behind another
pub adds_then : {A E B F : Type 0} {q : Result B F} {r : Result A E} {s t : List ℕ} {m n : ℕ} {old mid new : Written} (x : B) → q ≡ Ok x → AddsToLine s m old mid q → AddsToLine t n mid new r → AddsToLine (s ++ t) (m + n) old new r
adds_then {A} {E} {B} {F} {q} {r} {s} {t} {m} {n} {old} {mid} {new} x is first next = go r next where
  h : AddsToLine {A = B} {E = F} s m old mid (Ok x)
  h = subst (λ (p : Result B F). AddsToLine s m old mid p) is first

  go : (r : Result A E) → AddsToLine t n mid new r → AddsToLine (s ++ t) (m + n) old new r
  go (Ok u) then = record { ok = then.ok ∙ ap (λ y. y ++ t) h.ok ∙ append_assoc old.text s t; short = omega (arith, then.short, h.short); room = omega (arith, then.room, h.room); full = tt }
  go (Err e) then = record { ok = tt; short = tt; room = omega (arith, then.room, h.room); full = omega (arith, then.full, h.short, h.room) }

-- an outcome that is this one
pub adds_as : {A E : Type 0} {old new : Written} {r : Result A E} (o p : Outcome) (s : List ℕ) (m : ℕ) → o ≡ p → AddsToLine s m old new r → s ≡ text_of p → m ≤ length (name_in p) + 200 → AddsToLine (text_of o) (length (name_in o) + 200) old new r
adds_as {A} {E} {old} {new} {r} o p s m is h same le = subst (λ x. AddsToLine (text_of x) (length (name_in x) + 200) old new r) (sym is) (adds_within (text_of p) (length (name_in p) + 200) h same le)
