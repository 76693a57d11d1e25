use Rattle.std.proofs.Common.{arith, sym, ◌∙◌, ap, subst}
use Rattle.std.specs.List.{AllByRecursion}
use Rattle.chunk_store.specs.Digests.{IsId}
use Rattle.std.proofs.lemmas.List.{length-map}
use Rattle.caibx_codec.specs.Judge.{entry_fault}
use Rattle.caibx_codec.specs.Seen.{pairs}
use Rattle.caibx_codec.proofs.Valid.{chunks_of}
use Rattle.caibx_codec.proofs.index.Index.new.Goals as goal

-- no test found a fault
pub invariant_of-result : goal.invariant_of-result
invariant_of-result c = record {
  size = omega arith;
  few = rw length-map (omega arith);
  chunks = chunks_of c.args.max 0 0 (pairs c.args.entries.items) (ap (λ es. entry_fault c.args.max 0 0 (pairs es)) (sym c.deref.ensures.value) ∙ sym c.fault_in.ensures.value ∙ c.in-None.is);
  ids = subst (λ es. AllByRecursion (λ e. IsId e.1) (pairs es)) c.deref.ensures.value (c.fault_in.ensures.known c.in-None.is);
  flags = omega arith;
  least = omega arith;
  average = omega arith;
}
