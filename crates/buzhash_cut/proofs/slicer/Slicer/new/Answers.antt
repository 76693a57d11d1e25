use Rattle.std.proofs.Common.{◌≡◌, ℕ, ◌+◌, ◌-◌, ◌∙◌, refl, sym, subst, arith}
use Rattle.buzhash_cut.proofs.Pieces.{range_none}
use Rattle.chunk_ends.specs.Feeding.{WasFed}
use Rattle.buzhash_cut.proofs.slicer.Slicer.new.Goals as goal

pub returns-clause-read : goal.returns-clause-read
returns-clause-read c = λ t. record {
  fed = subst (WasFed c.in_ok-cutter.cutter) (sym (range_none t c.args.start c.args.start refl)) (c.in_ok-cutter.ensures.none.1);
  left = sym (range_none t c.args.start (c.args.start + 0) (omega arith));
  chunk =
      let begun : ℕ = c.args.start + c.in_ok-cutter.cutter.begun in
      let same : c.args.start ≡ begun = omega (arith, c.in_ok-cutter.ensures.none.0) in
      let none : c.args.start - begun ≡ 0 = omega (arith, same) in
      range_none _ 0 (c.args.start - begun) none ∙ sym (range_none t begun c.args.start same);
}
