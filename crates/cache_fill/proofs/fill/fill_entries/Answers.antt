use Rattle.std.proofs.Common.{◌≡◌, ℕ, List, ap, length, map, arith, refl, sym, subst, ◌∙◌}
use Rattle.std.proofs.lemmas.List.{length-map}
use Rattle.std.proofs.lemmas.List.Elements.{length_all_zip}
use Rattle.std.specs.List.{AllZip}
use Rattle.cache_fill.proofs.Fetched.{Went, reader_lost, readers_begin, readers_end, rooms_back}
use Rattle.cache_fill.proofs.Progress.{ends_so, fills_none, lost_none, mapped_all, shared_so}
use Rattle.cache_fill.proofs.Sparing.{fetched_still, none_dealt_lacking}
use Rattle.chunk_dealing.specs.Dealing.{DealsLacking, owner_of}
use Rattle.cache_fill.specs.FillProgress.{shelf_at}
use Rattle.cache_store.specs.Shelves.{held_on}
use Rattle.cache_store.specs.Through.{Behind}
use Rattle.read_ahead.proofs.Readings.{all_went}
use Rattle.store_chain.specs.Chains.{Chained}
use Rattle.cache_fill.proofs.fill.fill_entries.Goals as goal

pub take_by_rounds-taken-requires-clause-trusted : goal.take_by_rounds-taken-requires-clause-trusted
take_by_rounds-taken-requires-clause-trusted g c κs within = λ k d lt a right.
    let members = g.S.Store.members in
    let index = c.deal.ensures.index ∙ c.new-filling.ensures.index in
    let first = c.deal.ensures.first ∙ c.new-filling.ensures.first in
    let same = ap (λ (x : Chained g.row.S.Denot). map members x.stores) c.requires.chain ∙ sym (ap (λ (b : Behind g.row.F.Denot g.row.S.Denot). map members b.chain.stores) first) in
    rooms_back members _ _ _ _ ((c.requires.hired k d lt).index ∙ sym index) (c.requires.members k d lt ∙ same) a right

pub returns-in_default-clause-answers : goal.returns-in_default-clause-answers
returns-in_default-clause-answers g c =
    let S = g.S.Store in
    let v = c.new-filling.result in
    let w = c.take_alone-taken.new.consumer in
    let made = c.new-filling.ensures in
    let done = c.take_alone-taken.ensures in
    let l = c.args.index.now in
    let first = c.args.first.value in
    let rs = c.args.readers.now in
    let on = done.on v (fills_none g.F.Look S g.F.Folder.pairs g.F.Folder.stores v made.filling) in
    let cached_is : w.cached.now ≡ c.cached-1.given.0 = sym (c.cached-1.given.1 (sym (on.cached ∙ made.same)) ∙ c.end.ensures.kept) in
    let alike = mapped_all (λ (x : Chained g.row.S.Denot). map S.holds x.stores ≡ map S.holds first.chain.stores) (λ r. r.chain) rs (λ k d lt. c.requires.alike k d lt ∙ ap (λ (x : Chained g.row.S.Denot). map S.holds x.stores) c.requires.chain) in
    ends_so g.F.Look S g.F.Folder.pairs g.F.Folder.stores v w l first _ made.index made.first cached_is (map (λ r. r.chain) rs) (map (λ r. r.chain) rs) alike refl
    (λ s. (g.met.S.Store g.world.𝓛 g.world.𝓜 g.world.𝓡 ((λ s y. y), (λ y. y), (λ y. y), (λ y. y))).alone s) c.take_alone-taken.result on done.all rs (λ worker fault tells. absurd (lost_none l c.args.dealt.now.owners.items rs c.requires.hired w.at worker fault tells)) c.ended.result.worker c.ended.result.result c.ended.ensures

pub returns-in_default-clause-dealt : goal.returns-in_default-clause-dealt
returns-in_default-clause-dealt g c =
    let S = g.S.Store in
    let v = c.new-filling.result in
    let w = c.take_alone-taken.new.consumer in
    let made = c.new-filling.ensures in
    let done = c.take_alone-taken.ensures in
    let l = c.args.index.now in
    let first = c.args.first.value in
    let rs = c.args.readers.now in
    let owners = c.none_dealt-none.result.owners.items in
    let held = held_on (shelf_at g.F.Look S first) in
    let on = done.on v (fills_none g.F.Look S g.F.Folder.pairs g.F.Folder.stores v made.filling) in
    let cached_is : w.cached.now ≡ c.cached-1.given.0 = sym (c.cached-1.given.1 (sym (on.cached ∙ made.same)) ∙ c.end.ensures.kept) in
    let alike = mapped_all (λ (x : Chained g.row.S.Denot). map S.holds x.stores ≡ map S.holds first.chain.stores) (λ r. r.chain) rs (λ k d lt. c.requires.alike k d lt ∙ ap (λ (x : Chained g.row.S.Denot). map S.holds x.stores) c.requires.chain) in
    record {
      owner = owner_of owners;
      lacking = subst (λ (o : List ℕ). DealsLacking l held (owner_of o)) (sym c.none_dealt-none.ensures) (none_dealt_lacking l held);
      first = shared_so g.F.Look S g.F.Folder.pairs g.F.Folder.stores v w l first _ made.index made.first cached_is (map (λ r. r.chain) rs) (map (λ r. r.chain) rs) alike refl c.take_alone-taken.result on owners made.owners;
      further = fetched_still l S (owner_of owners) 1 (map (λ r. r.chain) rs);
    }

pub returns-clause-answers : goal.returns-clause-answers
returns-clause-answers g c =
    let S = g.S.Store in
    let v = c.deal.new.self in
    let w = c.take_by_rounds-taken.new.consumer in
    let made = c.new-filling.ensures in
    let dealt = c.deal.ensures in
    let done = c.take_by_rounds-taken.ensures in
    let l = c.args.index.now in
    let first = c.args.first.value in
    let owners = c.args.dealt.now.owners.items in
    let rs = c.args.readers.now in
    let ss = c.take_by_rounds-taken.new.readers in
    let on = done.on v (fills_none g.F.Look S g.F.Folder.pairs g.F.Folder.stores v dealt.filling) in
    let cached_is : w.cached.now ≡ c.cached-2-1.given.0 = sym (c.cached-2-1.given.1 (sym (on.cached ∙ dealt.same ∙ made.same)) ∙ c.end-2.ensures.kept) in
    let went : AllZip (Went S) rs ss = all_went _ rs rs ss done.readers (readers_begin S l owners rs c.requires.hired) in
    let many : length rs ≡ length ss = length_all_zip (Went S) rs ss went in
    let alike = mapped_all (λ (x : Chained g.row.S.Denot). map S.holds x.stores ≡ map S.holds first.chain.stores) (λ r. r.chain) rs (λ k d lt. c.requires.alike k d lt ∙ ap (λ (x : Chained g.row.S.Denot). map S.holds x.stores) c.requires.chain) in
    ends_so g.F.Look S g.F.Folder.pairs g.F.Folder.stores v w l first _ (dealt.index ∙ made.index) (dealt.first ∙ made.first) cached_is (map (λ r. r.chain) rs) (map (λ r. r.chain) ss) alike
    (length-map rs (λ r. r.chain) ∙ many ∙ sym (length-map ss (λ r. r.chain)))
    (λ s. (g.met.S.Store g.world.𝓛 g.world.𝓜 g.world.𝓡 ((λ s y. y), (λ y. y), (λ y. y), (λ y. y))).alone s) c.take_by_rounds-taken.result on done.all ss
    (λ worker fault tells.
    (let lost = reader_lost S l owners rs ss c.requires.hired c.requires.numbered went w.at worker fault tells in
    (tells.place, lost.0, omega (arith, tells.inside, length-map ss (λ r. r.chain)), lost.1)))
    c.ended-2.result.worker c.ended-2.result.result c.ended-2.ensures

pub returns-clause-dealt : goal.returns-clause-dealt
returns-clause-dealt g c =
    let S = g.S.Store in
    let v = c.deal.new.self in
    let w = c.take_by_rounds-taken.new.consumer in
    let made = c.new-filling.ensures in
    let dealt = c.deal.ensures in
    let done = c.take_by_rounds-taken.ensures in
    let l = c.args.index.now in
    let first = c.args.first.value in
    let owners = c.args.dealt.now.owners.items in
    let rs = c.args.readers.now in
    let ss = c.take_by_rounds-taken.new.readers in
    let on = done.on v (fills_none g.F.Look S g.F.Folder.pairs g.F.Folder.stores v dealt.filling) in
    let cached_is : w.cached.now ≡ c.cached-2-1.given.0 = sym (c.cached-2-1.given.1 (sym (on.cached ∙ dealt.same ∙ made.same)) ∙ c.end-2.ensures.kept) in
    let went : AllZip (Went S) rs ss = all_went _ rs rs ss done.readers (readers_begin S l owners rs c.requires.hired) in
    let many : length rs ≡ length ss = length_all_zip (Went S) rs ss went in
    let alike = mapped_all (λ (x : Chained g.row.S.Denot). map S.holds x.stores ≡ map S.holds first.chain.stores) (λ r. r.chain) rs (λ k d lt. c.requires.alike k d lt ∙ ap (λ (x : Chained g.row.S.Denot). map S.holds x.stores) c.requires.chain) in
    record {
      owner = owner_of owners;
      lacking = c.requires.lacking;
      first = shared_so g.F.Look S g.F.Folder.pairs g.F.Folder.stores v w l first _ (dealt.index ∙ made.index) (dealt.first ∙ made.first) cached_is (map (λ r. r.chain) rs) (map (λ r. r.chain) ss) alike
          (length-map rs (λ r. r.chain) ∙ many ∙ sym (length-map ss (λ r. r.chain))) c.take_by_rounds-taken.result on owners dealt.owners;
      further = readers_end S l owners 1 rs ss c.requires.hired c.requires.numbered went;
    }
