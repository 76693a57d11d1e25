use Rattle.caibx_codec.specs.Listing.{size_of}
use Rattle.range_survey.proofs.zeros.ZeroDigests.of.Goals as goal

pub returns-clause-ok : goal.returns-clause-ok
returns-clause-ok c = record {
  kind_is = c.kind-kind.ensures;
  sizes = λ i lt past. c.in_ok-digests.ensures.known (size_of c.args.index.now i) (c.in_ok-sizes.ensures.known i lt past);
}

pub returns-clause-only : goal.returns-clause-only
returns-clause-only c = λ n has. c.in_ok-sizes.ensures.only n (c.in_ok-digests.ensures.only n has)
