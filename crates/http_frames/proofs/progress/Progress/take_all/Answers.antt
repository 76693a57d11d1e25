use Rattle.std.proofs.Common.{◌≡◌, length, take, ◌++◌, Ok, ap, ◌∙◌, sym, arith}
use Rattle.std.proofs.lemmas.List.{length-take-le, take_all}
use Rattle.http_frames.specs.Body.{reads_body}
use Rattle.http_frames.specs.Seen.{kept_of, reading_seen, with_body}
use Rattle.http_frames.proofs.Runs.{all_fit, all_fail}
use Rattle.http_frames.proofs.progress.Progress.take_all.Goals as goal

pub returns-then-bytes-out-clause-value : goal.returns-then-bytes-out-clause-value
returns-then-bytes-out-clause-value c =
    let len : length (take c.args.self.now.filled c.args.out.now) ≡ c.args.self.now.filled = length-take-le _ _ c.requires.inside in
    let same = ap (λ h. h.filled) c.self.view_is in
    all_fail (length c.args.out.now) (reading_seen c.args.self.now c.args.out.now) c.args.bytes.now c.requires.next (omega (arith, len, c.requires.inside)) (omega (arith, len, c.if-bytes-out.true, same, c.requires.inside))

pub returns-clause-value : goal.returns-clause-value
returns-clause-value c =
    let len : length (take c.args.self.now.filled c.args.out.now) ≡ c.args.self.now.filled = length-take-le _ _ c.requires.inside in
    let same = ap (λ h. h.filled) c.self.view_is in
    let fits = all_fit (length c.args.out.now) (reading_seen c.args.self.now c.args.out.now) c.args.bytes.now c.requires.next (omega (arith, len, c.if-bytes-out.false, same, c.requires.inside)) in
    ap (reads_body (length c.args.out.now) (reading_seen c.args.self.now c.args.out.now)) (take_all (length c.args.bytes.now) c.args.bytes.now (omega arith))
    ∙ fits
    ∙ ap (λ h. Ok (with_body h (take h.filled c.args.out.now ++ c.args.bytes.now))) (sym c.self.view_is)
    ∙ ap (λ b. Ok (with_body (kept_of c.self.inside) b)) (sym c.put.ensures)
