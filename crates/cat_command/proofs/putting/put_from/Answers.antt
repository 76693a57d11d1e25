use Rattle.std.proofs.Common.{◌≡◌, ℕ, [], map, refl, sym, subst}
use Rattle.std.specs.List.{AllZip}
use Rattle.cat_command.proofs.Given.{Lasts, asks_nothing, ends_given, ends_last, nothing_given}
use Rattle.cat_command.specs.Cat.{kept_chunks}
use Rattle.cat_command.specs.Putting.{EndsGiving, EndsPutting, PutsGiven}
use Rattle.image_reader.specs.Covered.{IsCoveredGet, wants_of}
use Rattle.image_reader.specs.Keeping.{missed}
use Rattle.image_reader.specs.Reading.{AsksWants, ReaderState}
use Rattle.store_chain.proofs.Kept.{kept_still}
use Rattle.store_chain.specs.Chains.{Chained, KeepsStores}
use Rattle.cat_command.proofs.putting.put_from.Given.{Over}
use Rattle.cat_command.proofs.putting.put_from.Goals as goal

pub returns-then-range-eq0-clause-ends : goal.returns-then-range-eq0-clause-ends
returns-then-range-eq0-clause-ends g c =
    let p = g.O.Sink.output c.args.out.now in
    let P : ℕ → Type 0 = λ n. PutsGiven g.S.Store c.args.index c.args.range.at n c.args.chain c.args.chain p p n in
    subst P (sym c.if-range-eq0.true) (nothing_given g.S.Store c.args.range.at 0 c.args.index c.args.chain p)

pub returns-then-range-eq0-clause-kept : goal.returns-then-range-eq0-clause-kept
returns-then-range-eq0-clause-kept g c = kept_still g.S.Store (IsCoveredGet c.args.index c.args.range.at c.args.range.size) c.args.chain.stores

pub returns-then-range-eq0-clause-asks : goal.returns-then-range-eq0-clause-asks
returns-then-range-eq0-clause-asks g c = asks_nothing g.S.Store (missed kept_chunks [] (wants_of c.args.index c.args.range.at c.args.range.size)) c.args.chain.stores

-- what stands of the stores after the range was put
lasts : (g : Over) (c : goal.After-drop-into_parts g) → Lasts g.S.Store c.args.range.at c.args.range.size c.args.index c.args.chain kept_chunks c.put_range-put.new.reader (g.O.Sink.output c.args.out.now) (g.O.Sink.output c.put_range-put.new.out)
lasts g c =
    let p = g.O.Sink.output c.args.out.now in
    let q = g.O.Sink.output c.put_range-put.new.out in
    let P : ReaderState g.row.S.Denot → Type 0 = λ x. EndsPutting g.S.Store c.args.range.at c.args.range.size x c.put_range-put.new.reader p q c.put_range-put.result in
    ends_last g.S.Store c.args.range.at c.args.range.size c.args.index c.args.chain kept_chunks c.put_range-put.new.reader p q c.put_range-put.result (subst P c.in-Ok.ensures.ok c.put_range-put.ensures.ends)

pub returns-in-Ok-clause-ends : goal.returns-in-Ok-clause-ends
returns-in-Ok-clause-ends g c =
    let now = c.put_range-put.new.reader in
    let p = g.O.Sink.output c.args.out.now in
    let q = g.O.Sink.output c.put_range-put.new.out in
    let r = c.put_range-put.result in
    let P : ReaderState g.row.S.Denot → Type 0 = λ x. EndsPutting g.S.Store c.args.range.at c.args.range.size x now p q r in
    let C : Chained g.row.S.Denot → Type 0 = λ d. EndsGiving g.S.Store c.args.index c.args.range.at c.args.range.size c.args.chain d p q r in
    subst C (sym c.into_parts-chain.ensures.value.1) (ends_given g.S.Store c.args.range.at c.args.range.size c.args.index c.args.chain kept_chunks now p q c.rules.ensures r (subst P c.in-Ok.ensures.ok c.put_range-put.ensures.ends))

pub returns-in-Ok-clause-kept : goal.returns-in-Ok-clause-kept
returns-in-Ok-clause-kept g c =
    let C : Chained g.row.S.Denot → Type 0 = λ d. KeepsStores g.S.Store (IsCoveredGet c.args.index c.args.range.at c.args.range.size) c.args.chain.stores d.stores in
    subst C (sym c.into_parts-chain.ensures.value.1) (lasts g c).kept

pub returns-in-Ok-clause-asks : goal.returns-in-Ok-clause-asks
returns-in-Ok-clause-asks g c =
    let C : Chained g.row.S.Denot → Type 0 = λ d. AllZip (λ a b. AsksWants (missed kept_chunks [] (wants_of c.args.index c.args.range.at c.args.range.size)) (g.S.Store.asked a) (g.S.Store.asked b)) c.args.chain.stores d.stores in
    subst C (sym c.into_parts-chain.ensures.value.1) (lasts g c).asks

pub returns-in-Ok-clause-queries : goal.returns-in-Ok-clause-queries
returns-in-Ok-clause-queries g c =
    let C : Chained g.row.S.Denot → Type 0 = λ d. map g.S.Store.queried d.stores ≡ map g.S.Store.queried c.args.chain.stores in
    subst C (sym c.into_parts-chain.ensures.value.1) (lasts g c).queries

pub returns-clause-ends : goal.returns-clause-ends
returns-clause-ends g c =
    let p = g.O.Sink.output c.args.out.now in
    let C : Chained g.row.S.Denot → Type 0 = λ d. PutsGiven g.S.Store c.args.index c.args.range.at c.args.range.size c.args.chain d p p 0 in
    ((0, subst C (sym c.in-Err.ensures.err.1) (nothing_given g.S.Store c.args.range.at c.args.range.size c.args.index c.args.chain p)), refl)

pub returns-clause-kept : goal.returns-clause-kept
returns-clause-kept g c =
    let C : Chained g.row.S.Denot → Type 0 = λ d. KeepsStores g.S.Store (IsCoveredGet c.args.index c.args.range.at c.args.range.size) c.args.chain.stores d.stores in
    subst C (sym c.in-Err.ensures.err.1) (kept_still g.S.Store (IsCoveredGet c.args.index c.args.range.at c.args.range.size) c.args.chain.stores)

pub returns-clause-asks : goal.returns-clause-asks
returns-clause-asks g c =
    let ws = missed kept_chunks [] (wants_of c.args.index c.args.range.at c.args.range.size) in
    let C : Chained g.row.S.Denot → Type 0 = λ d. AllZip (λ a b. AsksWants ws (g.S.Store.asked a) (g.S.Store.asked b)) c.args.chain.stores d.stores in
    subst C (sym c.in-Err.ensures.err.1) (asks_nothing g.S.Store ws c.args.chain.stores)
