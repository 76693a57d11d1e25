use Rattle.caibx_codec.specs.Listing.{size_of}
use Rattle.caibx_codec.proofs.Largest.{Largest}
use Rattle.caibx_codec.proofs.index.Index.largest.Given as goal

abbrev pub invariant-loop-i : goal.invariant-loop-i
invariant-loop-i l = Largest (size_of l.self) l.i l.most
