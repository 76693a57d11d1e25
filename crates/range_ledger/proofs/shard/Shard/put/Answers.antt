use Rattle.std.proofs.Common.{◌≡◌, true, false, Ok, sym, subst, ◌∙◌}
use Rattle.range_ledger.proofs.Keeps.{put_surveyed, settled_in, settling, torn_surveyed}
use Rattle.range_ledger.proofs.Steps.{put_leads}
use Rattle.range_ledger.specs.Runs.{Has, Seen, WhereTells, has_settled}
use Rattle.range_ledger.specs.Steps.{PutLeads}
use Rattle.range_ledger.proofs.shard.Shard.put.Goals as goal

pub invariant_of-self : goal.invariant_of-self
invariant_of-self g c =
    let r = g.R.RunName.run in
    let old : Seen = c.self.inside.entries in
    let has : Has r old c.args.entry = subst (λ (v : Seen). Has r v c.args.entry) (sym c.self.view_is) c.requires.inside in
    let unset : has_settled r old c.args.entry ≡ false =
    subst (λ (v : Seen). has_settled r v c.args.entry ≡ false) (sym c.self.view_is) (sym c.settled.ensures.value ∙ c.if-settled.false) in
    let w = c.in-Ok.ensures in
    let m = c.settle.ensures in
    put_surveyed r old c.write.new.self c.settle.new.self w.inside c.self.invariant c.args.entry has unset c.args.fate c.requires.fate c.args.b.now c.requires.may
    w.sized w.number w.kept w.ok w.faults.never_falls m.number m.fates m.held m.faults

pub invariant_of-self-in-Err : goal.invariant_of-self-in-Err
invariant_of-self-in-Err g c =
    let r = g.R.RunName.run in
    let old : Seen = c.self.inside.entries in
    let has : Has r old c.args.entry = subst (λ (v : Seen). Has r v c.args.entry) (sym c.self.view_is) c.requires.inside in
    let unset : has_settled r old c.args.entry ≡ false =
    subst (λ (v : Seen). has_settled r v c.args.entry ≡ false) (sym c.self.view_is) (sym c.settled.ensures.value ∙ c.if-settled.false) in
    let w = c.in-Err.ensures in
    torn_surveyed r old c.write.new.self w.inside c.self.invariant c.args.entry has unset w.sized w.err.0 (w.err.1 ∙ c.requires.may.size) w.number w.kept
    w.err.2 w.faults.cause w.faults.never_falls

pub returns-in-Ok-clause-exactly : goal.returns-in-Ok-clause-exactly
returns-in-Ok-clause-exactly g c =
    let r = g.R.RunName.run in
    let old : Seen = c.self.inside.entries in
    let new : Seen = c.settle.new.self in
    let has : Has r old c.args.entry = subst (λ (v : Seen). Has r v c.args.entry) (sym c.self.view_is) c.requires.inside in
    let unset : has_settled r old c.args.entry ≡ false =
    subst (λ (v : Seen). has_settled r v c.args.entry ≡ false) (sym c.self.view_is) (sym c.settled.ensures.value ∙ c.if-settled.false) in
    let w = c.in-Ok.ensures in
    let m = c.settle.ensures in
    let leads = put_leads r old (record { dealt = w.inside; kept = c.self.invariant }) c.args.entry has unset c.args.fate c.requires.fate c.args.b.now c.requires.may
    new.faults new.held w.sized (m.held ∙ w.ok) in
    let same : settling r old c.args.entry c.args.fate new.faults new.held ≡ new =
    settled_in r old c.write.new.self new w.inside c.self.invariant c.args.entry has c.args.fate c.requires.fate c.args.b.now c.requires.may w.sized w.number w.kept w.ok
    w.faults.never_falls m.number m.fates m.held m.faults in
    let all : WhereTells r old new (PutLeads r c.args.entry c.args.b.now (has_settled r old c.args.entry) (Ok true) old new) =
    subst (λ k. WhereTells r old new (PutLeads r c.args.entry c.args.b.now k (Ok true) old new)) (sym unset)
    (subst (λ (v : Seen). WhereTells r old v (PutLeads r c.args.entry c.args.b.now false (Ok true) old v)) same leads) in
    subst (λ (v : Seen). WhereTells r v new (PutLeads r c.args.entry c.args.b.now (has_settled r v c.args.entry) (Ok true) v new)) c.self.view_is all
