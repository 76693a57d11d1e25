use Rattle.std.proofs.Common.{◌≤◌, ◌<◌, ◌+◌, ℕ, List, [], length, map, slice_index_or, string_bytes, ap, subst, sym, inl, inr, arith}
use Rattle.std.proofs.Math.Nat.{eq-or-lt_of_le}
use Rattle.desync_cli.proofs.telling.longest.Goals as goal
use Rattle.desync_cli.proofs.telling.longest.Goals.{then-length-longest, else-length-longest}

one_more : (words : List (List ℕ)) (i before after : ℕ) → ((k : ℕ) → k < i → length (slice_index_or words k []) ≤ before) → before ≤ after → length (slice_index_or words i []) ≤ after → (k : ℕ) → k < i + 1 → length (slice_index_or words k []) ≤ after
one_more words i before after each le one k lt =
    let at : k ≤ i = omega (arith, lt) in
    elim (eq-or-lt_of_le at) [
      | inl same ↦ subst (λ j. length (slice_index_or words j []) ≤ after) (sym same) one
      | inr less ↦ omega (arith, each k less, le)
    ]

pub words-init : goal.words-init
words-init c = record { each = λ k lt. absurd (omega (arith, lt)) }

pub words-preserved : goal.words-preserved
words-preserved c =
    let word = ap length c.word-length.ensures in
    record {
      each = one_more (map string_bytes c.args.words.now) c.words.i c.words.longest c.if-length-longest.longest c.words.invariant.each
          (elim c.if-length-longest.branch [ then-length-longest w ↦ omega (arith, w.longest-is, w.if-length-longest.true) | else-length-longest w ↦ omega (arith, w.longest-is) ])
          (elim c.if-length-longest.branch [ then-length-longest w ↦ omega (arith, word, w.longest-is) | else-length-longest w ↦ omega (arith, word, w.longest-is, w.if-length-longest.false) ]);
    }

pub returns : goal.returns
returns c = λ i lt. c.words.invariant.each i (omega (arith, lt, c.words-test.false))
