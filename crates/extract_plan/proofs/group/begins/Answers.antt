use Rattle.std.proofs.Common.{◌≡◌, ℕ, ◌<◌, ◌-◌, Bool, true, false, not, Some, List, get_or, refl, sym, ap, ◌∙◌, subst, arith}
use Rattle.std.proofs.lemmas.List.{get_or_default}
use Rattle.extract_plan.specs.Keys.{has_key, number_with}
use Rattle.extract_plan.specs.declared.keyed.ChunkKey.{ChunkKey}
use Rattle.extract_plan.specs.declared.keyed.Keyed.{Keyed}
use Rattle.extract_plan.proofs.Firsts.{key_parts}
use Rattle.extract_plan.proofs.KeyOrder.{nothing, run_begins}
use Rattle.extract_plan.proofs.group.begins.Goals as goal

other : (b : Bool) → not b ≡ true → b ≡ false
other true e = absurd (cc)
other false e = refl

alike : (b : Bool) → not b ≡ false → b ≡ true
alike true e = refl
alike false e = absurd (cc)

same_key : (x y : ChunkKey) → x.id.0 ≡ y.id.0 → x.size ≡ y.size → x ≡ y
same_key x y named sized =
    ap (λ (q : List ℕ). record { id = record { 0 = q }; size = x.size }) named ∙ ap (λ (n : ℕ). record { id = y.id; size = n }) sized

pub returns-then-k-eq0-clause-first : goal.returns-then-k-eq0-clause-first
returns-then-k-eq0-clause-first c is d = run_begins c.args.entries.now c.args.k d c.requires.sorted c.requires.inside (λ some. absurd (omega (arith, c.if-k-eq0.true)))

pub returns-else-k-eq0-clause-first : goal.returns-else-k-eq0-clause-first
returns-else-k-eq0-clause-first c is d =
    let xs = c.args.entries.now in
    let k = c.args.k in
    let x = get_or xs k nothing in
    let y = get_or xs (k - 1) nothing in
    let ne : c.ne.result ≡ not (has_key y.key.id.0 y.key.size x) = c.ne.ensures in
    subst (λ (x : Keyed). number_with xs x ≡ Some x.number) (get_or_default xs k nothing d c.requires.inside)
    (run_begins xs k nothing c.requires.sorted c.requires.inside (λ some. other (has_key y.key.id.0 y.key.size x) (sym ne ∙ is)))

pub returns-else-k-eq0-clause-again : goal.returns-else-k-eq0-clause-again
returns-else-k-eq0-clause-again c is =
    let xs = c.args.entries.now in
    let k = c.args.k in
    let some : 0 < k = omega (arith, c.if-k-eq0.false) in
    let x = get_or xs k nothing in
    let y = get_or xs (k - 1) nothing in
    let ne : c.ne.result ≡ not (has_key y.key.id.0 y.key.size x) = c.ne.ensures in
    let parts = key_parts y.key.id.0 y.key.size x (alike (has_key y.key.id.0 y.key.size x) (sym ne ∙ is)) in (
      some,
      λ d.
          ap (λ (z : Keyed). z.key) (get_or_default xs k d nothing c.requires.inside) ∙ same_key x.key y.key parts.0 parts.1
          ∙ ap (λ (z : Keyed). z.key) (get_or_default xs (k - 1) nothing d (omega (arith, c.requires.inside))),
    )
