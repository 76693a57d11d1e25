use Rattle.std.proofs.Common.{◌≡◌, ◌-◌, length, take, drop, Ok, ap, subst, ◌∙◌, arith}
use Rattle.std.proofs.lemmas.List.{take_all, length-drop}
use Rattle.http_frames.specs.Body.{reads_body}
use Rattle.http_frames.specs.Seen.{reading_seen}
use Rattle.http_frames.proofs.Runs.{reading_goes_on, reading_ends}
use Rattle.http_frames.proofs.progress.Progress.feed.Goals as goal

pub loop-at-preserved : goal.loop-at-preserved
loop-at-preserved c =
    let room = c.loop-at.invariant.room in
    let slice : take (length c.args.piece.now - c.loop-at.at) (drop c.loop-at.at c.args.piece.now) ≡ drop c.loop-at.at c.args.piece.now =
    take_all _ _ (omega (arith, length-drop c.loop-at.at c.args.piece.now)) in
    let len : length (take (length c.args.piece.now - c.loop-at.at) (drop c.loop-at.at c.args.piece.now)) ≡ length c.args.piece.now - c.loop-at.at =
    ap length slice ∙ length-drop c.loop-at.at c.args.piece.now in
    let step : reads_body (length c.args.out.now) (reading_seen c.loop-at.self c.loop-at.out) (take c.in_ok-at.field-0 (drop c.loop-at.at c.args.piece.now)) ≡ Ok (reading_seen c.step.new.self c.step.new.out) =
    subst (λ n. reads_body n (reading_seen c.loop-at.self c.loop-at.out) (take c.in_ok-at.field-0 (drop c.loop-at.at c.args.piece.now)) ≡ Ok (reading_seen c.step.new.self c.step.new.out)) room
    (subst (λ xs. reads_body (length c.loop-at.out) (reading_seen c.loop-at.self c.loop-at.out) (take c.in_ok-at.field-0 xs) ≡ Ok (reading_seen c.step.new.self c.step.new.out)) slice c.in_ok-at.ensures.value) in
    record {
      within = omega (arith, len, c.in_ok-at.ensures.size.1, c.loop-at.invariant.within);
      inside = c.step.ensures.inside;
      room = c.step.auto.out ∙ room;
      so_far = reading_goes_on (length c.args.out.now) (reading_seen c.args.self.now c.args.out.now) (reading_seen c.loop-at.self c.loop-at.out) (reading_seen c.step.new.self c.step.new.out) c.args.piece.now c.loop-at.at c.in_ok-at.field-0 c.loop-at.invariant.so_far step;
    }

pub returns-clause-value : goal.returns-clause-value
returns-clause-value c =
    reading_ends (length c.args.out.now) (reading_seen c.args.self.now c.args.out.now) (reading_seen c.loop-at.self c.loop-at.out) c.args.piece.now c.loop-at.at (omega (arith, c.loop-at-test.false)) c.loop-at.invariant.so_far
