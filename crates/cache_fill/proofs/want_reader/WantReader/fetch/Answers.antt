use Rattle.std.proofs.Common.{List, ℕ, subst}
use Rattle.image_slices.proofs.Rooms.{ahead_adds}
use Rattle.cache_fill.proofs.Ahead.{fetched_slice}
use Rattle.cache_fill.proofs.EntryCalls.{entry_kept}
use Rattle.cache_fill.proofs.Fetched.{fetches_more, refused_last, rooms_same}
use Rattle.chunk_dealing.specs.Dealing.{owner_of}
use Rattle.cache_fill.specs.Fetching.{SomeHoldsEntry}
use Rattle.store_chain.specs.Chains.{AsksOnce}
use Rattle.cache_fill.proofs.want_reader.WantReader.fetch.Goals as goal

pub returns-in-Err-clause-right : goal.returns-in-Err-clause-right
returns-in-Err-clause-right g c =
    rooms_same g.S.Store.members c.args.self.now.index.now c.args.self.now.chain.stores c.obtain.new.self.stores c.obtain.ensures.kept.members c.args.room.now c.requires.right

pub returns-in-Err-clause-on : goal.returns-in-Err-clause-on
returns-in-Err-clause-on g c = λ first was.
    let r = c.args.self.now in
    let id = c.entry-entry.result.id.0 in
    let is_id = c.entry-entry.ensures.id in
    fetches_more g.S.Store r.index.now (owner_of r.owners.now) r.number r.next c.args.i c.requires.order c.requires.listed c.requires.own first r.chain c.obtain.new.self
    (subst (λ (q : List ℕ). AsksOnce g.S.Store.asked g.S.Store.queried q r.chain c.obtain.new.self) is_id c.obtain.ensures.asks)
    (entry_kept g.S.Store r.index.now c.args.i id r.chain.stores c.obtain.new.self.stores is_id c.obtain.ensures.kept) was

pub returns-in-Err-clause-lost : goal.returns-in-Err-clause-lost
returns-in-Err-clause-lost g c = λ first was.
    let r = c.args.self.now in
    let entry = c.entry-entry.result in
    refused_last g.S.Store r.index.now c.args.i entry.id c.entry-entry.ensures.id r.chain.kind entry.size entry.size c.requires.kind c.entry-entry.ensures.size (owner_of r.owners.now) r.number r.next first r.chain c.obtain.new.self c.in-Err.refused _ c.fault_at-fault.ensures.value
    c.obtain.ensures.asks c.in-Err.ensures.absent c.in-Err.ensures.first was

pub returns-in-Ok-clause-right : goal.returns-in-Ok-clause-right
returns-in-Ok-clause-right g c =
    let r = c.args.self.now in
    let l = r.index.now in
    let entry = c.entry-entry.result in
    let held = c.obtain.ensures.kept.members in
    let bytes = c.split_at.result.0.now in
    ahead_adds l (SomeHoldsEntry g.S.Store.members l c.obtain.new.self.stores) c.args.i bytes c.args.room.now c.push.new.self c.push.ensures
    (fetched_slice g.S.Store.members l c.args.i entry.id c.entry-entry.ensures.id r.chain.kind entry.size entry.size c.in-Ok.n c.obtain.new.out bytes r.chain.stores c.obtain.new.self.stores c.requires.kind c.entry-entry.ensures.size
    c.split_at.ensures.front c.in-Ok.ensures.ok c.in-Ok.ensures.had held)
    (rooms_same g.S.Store.members l r.chain.stores c.obtain.new.self.stores held c.args.room.now c.requires.right)

pub returns-in-Ok-clause-on : goal.returns-in-Ok-clause-on
returns-in-Ok-clause-on g c = λ first was.
    let r = c.args.self.now in
    let id = c.entry-entry.result.id.0 in
    let is_id = c.entry-entry.ensures.id in
    fetches_more g.S.Store r.index.now (owner_of r.owners.now) r.number r.next c.args.i c.requires.order c.requires.listed c.requires.own first r.chain c.obtain.new.self
    (subst (λ (q : List ℕ). AsksOnce g.S.Store.asked g.S.Store.queried q r.chain c.obtain.new.self) is_id c.obtain.ensures.asks)
    (entry_kept g.S.Store r.index.now c.args.i id r.chain.stores c.obtain.new.self.stores is_id c.obtain.ensures.kept) was
