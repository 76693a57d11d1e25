use Rattle.std.proofs.Common.{◌≡◌, Some, take}
use Rattle.chunk_store.specs.Asks.{Get}
use Rattle.image_reader.proofs.Got.{shown_by}
use Rattle.store_chain.proofs.Kept.{kept_still}
use Rattle.store_chain.specs.Queries.{query_of}
use Rattle.image_reader.proofs.reading.fetch.Goals as goal

pub returns-in_default-clause-kept : goal.returns-in_default-clause-kept
returns-in_default-clause-kept g c = kept_still g.S.Store (λ a. a ≡ Get c.args.want.now.id.0) c.args.chain.now.stores

pub returns-in-Ok-obtain-clause-had : goal.returns-in-Ok-obtain-clause-had
returns-in-Ok-obtain-clause-had g c =
    let S = g.S.Store in
    let w = c.args.want.now in
    let b = take c.in-Ok-obtain.field-0 c.obtain.new.out in
    let fills = c.in-Ok-obtain.ensures.ok in
    record {
      bytes = b;
      chunk = record { named = fills.wanted.named; sized = fills.wanted.sized };
      shown = shown_by S.said S.faults S.may_lack_memory (query_of c.args.chain.now.kind w.id (Some w.size) w.size) b c.args.chain.now.stores c.obtain.new.self.stores c.in-Ok-obtain.ensures.found;
      held = c.in-Ok-obtain.ensures.had;
    }
