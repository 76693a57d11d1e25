use Rattle.std.proofs.Common.{ℕ, List, refl, subst, arith}
use Rattle.http_serve.specs.Answers.{answer_in}
use Rattle.http_wire.specs.declared.index_request.IndexAct.TheVariants as act
use Rattle.index_server.specs.Answers.{IsIndexAnswer, AnswersIndexOrFails, index_folder}
use Rattle.index_server.proofs.Answered.{lost_goes, ok_more}
use Rattle.index_server.proofs.state.IndexState.apply.Goals as goal

pub returns-in-Get-clause-only : goal.returns-in-Get-clause-only
returns-in-Get-clause-only g c =
    rw c.in-Get.is (ok_more c.find.result (λ r h. subst (λ (n : List ℕ). IsIndexAnswer (act.Get n) c.args.body.now (answer_in r)) c.as_str.ensures (h c.args.body.now)) c.find.ensures.only)

pub returns-in-Get-clause-ok : goal.returns-in-Get-clause-ok
returns-in-Get-clause-ok g c =
    let old = index_folder g.F.Look.files g.F.Look.faults c.args.self.now.folder in
    let new = index_folder g.F.Look.files g.F.Look.faults c.find.new.self.folder in
    rw c.in-Get.is (ok_more c.find.result (λ r h. subst (λ (n : List ℕ). AnswersIndexOrFails old (act.Get n) c.args.body.now (answer_in r) new) c.as_str.ensures (h c.args.body.now)) c.find.ensures.ok)

pub returns-in-Head-clause-only : goal.returns-in-Head-clause-only
returns-in-Head-clause-only g c =
    rw c.in-Head.is (ok_more c.find-in-Head.result (λ r h. subst (λ (n : List ℕ). IsIndexAnswer (act.Head n) c.args.body.now (answer_in r)) c.as_str-in-Head.ensures (h c.args.body.now)) c.find-in-Head.ensures.only)

pub returns-in-Head-clause-ok : goal.returns-in-Head-clause-ok
returns-in-Head-clause-ok g c =
    let old = index_folder g.F.Look.files g.F.Look.faults c.args.self.now.folder in
    let new = index_folder g.F.Look.files g.F.Look.faults c.find-in-Head.new.self.folder in
    rw c.in-Head.is (ok_more c.find-in-Head.result (λ r h. subst (λ (n : List ℕ). AnswersIndexOrFails old (act.Head n) c.args.body.now (answer_in r) new) c.as_str-in-Head.ensures (h c.args.body.now)) c.find-in-Head.ensures.ok)

pub returns-in-Lost-clause-ok : goal.returns-in-Lost-clause-ok
returns-in-Lost-clause-ok g c = rw c.in-Lost.is (lost_goes _ _ c.args.body.now _ c.bare.ensures refl (omega arith))
