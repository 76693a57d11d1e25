use Rattle.std.proofs.Common.{List, Ok, Err, inl, inr, refl, subst}
use Rattle.std.proofs.lemmas.Result.{err_from_is_err_and}
use Rattle.command_steps.specs.Sources.{storage}
use Rattle.command_words.specs.declared.command.Location.{Location}
use Rattle.store_commands.specs.Info.{IdsCounted}
use Rattle.store_commands.proofs.info.print_info.Goals as goal

pub returns-in_err-held : goal.returns-in_err-held
returns-in_err-held g c =
    let p = err_from_is_err_and c.from_residual-in_err-held.result c.from_residual-in_err-held.ensures.1 in
    let listed = c.in_ok-listed.ensures in
    let held = c.in_err-held.ensures in
    let at = g.F.Files.disk in
    let state = g.D.Dial.state in
    let counted = subst (λ (s : List (List Location)). IdsCounted g.F.Look.Look.never_fails s c.args.retries c.in_ok-listed.listed (storage (at c.load_index.new.files) (state c.load_index.new.dial)) (Err c.in_err-held.field-0.0) (storage (at c.count.new.files) (state c.count.new.dial))) c.as_slice.ensures (held.counted, held.kept, held.asks) in
    record { ends = rw (p.1, p.2) (inr (record { disk = _; dial = _; out = _; gave = c.in_ok-listed.listed; did = (listed.ends, refl); then = inl (counted, refl) })) }

pub returns-in_err-print : goal.returns-in_err-print
returns-in_err-print g c =
    let p = err_from_is_err_and c.from_residual-in_err-print.result c.from_residual-in_err-print.ensures.1 in
    let listed = c.in_ok-listed.ensures in
    let held = c.in_ok-held.ensures in
    let at = g.F.Files.disk in
    let state = g.D.Dial.state in
    let counted = subst (λ (s : List (List Location)). IdsCounted g.F.Look.Look.never_fails s c.args.retries c.in_ok-listed.listed (storage (at c.load_index.new.files) (state c.load_index.new.dial)) (Ok c.in_ok-held.held) (storage (at c.count.new.files) (state c.count.new.dial))) c.as_slice.ensures (held.counted, held.kept, held.asks) in
    record { ends = rw (p.1, p.2) (inr (record { disk = _; dial = _; out = _; gave = c.in_ok-listed.listed; did = (listed.ends, refl); then = inr (record { disk = _; dial = _; out = _; gave = _; did = (counted, refl); then = (c.in_err-print.ensures.printed, refl, refl) }) })) }

pub returns : goal.returns
returns g c =
    let listed = c.in_ok-listed.ensures in
    let held = c.in_ok-held.ensures in
    let at = g.F.Files.disk in
    let state = g.D.Dial.state in
    let counted = subst (λ (s : List (List Location)). IdsCounted g.F.Look.Look.never_fails s c.args.retries c.in_ok-listed.listed (storage (at c.load_index.new.files) (state c.load_index.new.dial)) (Ok c.in_ok-held.held) (storage (at c.count.new.files) (state c.count.new.dial))) c.as_slice.ensures (held.counted, held.kept, held.asks) in
    record { ends = record { disk = _; dial = _; out = _; gave = c.in_ok-listed.listed; did = (listed.ends, refl); then = record { disk = _; dial = _; out = _; gave = _; did = (counted, refl); then = (c.in_ok-print.ensures.printed, refl, refl) } } }
