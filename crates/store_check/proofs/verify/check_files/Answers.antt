use Rattle.std.proofs.Common.{◌≡◌, get_or, IfSome, Ok, Err, Some, length, ap, subst, sym, ◌∙◌}
use Rattle.store_check.proofs.Looks.{readers_kept, reads_trusted}
use Rattle.store_check.proofs.Progress.{ends_all, ends_early, verifies_none}
use Rattle.store_check.specs.VerifyProgress.{StoreCheckEnds}
use Rattle.store_check.specs.declared.file.CheckRule.{CheckRule}
use Rattle.store_check.proofs.verify.check_files.Goals as goal

pub take_all-checked-requires-clause-count : goal.take_all-checked-requires-clause-count
take_all-checked-requires-clause-count g c κs within = λ k d lt. ap length (c.requires.same k d lt ∙ sym c.new-verifying.ensures.listed)

pub take_all-checked-requires-clause-trusted : goal.take_all-checked-requires-clause-trusted
take_all-checked-requires-clause-trusted g c κs within = λ k d lt room right.
    let made = c.new-verifying.ensures in
    reads_trusted _ _ _ _ _ _ room (subst (λ f. IfSome (g.F.Look.files f) (λ m. g.L.Look.files (get_or c.args.readers.now k d).store ≡ Some m)) (sym made.first.0) (c.requires.alike k d lt)) (c.requires.kind k d lt ∙ sym (ap (λ (x : CheckRule). x.kind) made.repair)) (c.requires.same k d lt ∙ sym made.listed) right

pub returns-in-Ok-clause-ends : goal.returns-in-Ok-clause-ends
returns-in-Ok-clause-ends g c =
    let v = c.new-verifying.result in
    let w = c.take_all-checked.new.consumer in
    let made = c.new-verifying.ensures in
    let went = c.in-Ok.ensures.on v (verifies_none g.F.Look g.S.Sink v made.verifying) in
    let store_is : w.store.now ≡ c.store-1.given.0 = sym (c.store-1.given.1 (sym (went.store ∙ made.same)) ∙ c.end-left.ensures.kept.0) in
    let out_is : w.out.now ≡ c.out-1.given.0 = sym (c.out-1.given.1 (sym (went.out ∙ made.out)) ∙ c.end-left.ensures.kept.1) in
    subst (λ r. StoreCheckEnds g.F.Look g.S.Sink r c.args.store.now c.store-1.given.0 c.args.out.now c.out-1.given.0 (Ok c.end-left.result)) made.repair
    (ends_all g.F.Look g.S.Sink v w _ _ _ _ made.first.1 made.first.0 made.before.1 made.before.0 store_is out_is c.path_names_one_id.ensures.named c.end-left.result went c.in-Ok.ensures.all c.end-left.ensures.left)

pub returns-in-Ok-clause-others : goal.returns-in-Ok-clause-others
returns-in-Ok-clause-others g c = c.in-Ok.ensures.readers c.args.readers.now (readers_kept g.L.Look (λ r. r.store) c.args.readers.now)

pub returns-in-Err-clause-ends : goal.returns-in-Err-clause-ends
returns-in-Err-clause-ends g c =
    let v = c.new-verifying.result in
    let w = c.take_all-checked.new.consumer in
    let made = c.new-verifying.ensures in
    let went = c.in-Err.ensures.on v (verifies_none g.F.Look g.S.Sink v made.verifying) in
    let store_is : w.store.now ≡ c.store-1.given.0 = sym (c.store-1.given.1 (sym (went.store ∙ made.same)) ∙ c.end-left.ensures.kept.0) in
    let out_is : w.out.now ≡ c.out-1.given.0 = sym (c.out-1.given.1 (sym (went.out ∙ made.out)) ∙ c.end-left.ensures.kept.1) in
    subst (λ r. StoreCheckEnds g.F.Look g.S.Sink r c.args.store.now c.store-1.given.0 c.args.out.now c.out-1.given.0 (Err c.in-Err.fault)) made.repair
    (ends_early g.F.Look g.S.Sink v w _ _ _ _ made.first.1 made.first.0 made.before.1 made.before.0 store_is out_is c.in-Err.fault went)

pub returns-in-Err-clause-others : goal.returns-in-Err-clause-others
returns-in-Err-clause-others g c = c.in-Err.ensures.readers c.args.readers.now (readers_kept g.L.Look (λ r. r.store) c.args.readers.now)
