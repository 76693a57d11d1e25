use Rattle.std.proofs.Common.{◌≡◌, length, take, Ok, ap, ◌∙◌, sym, arith}
use Rattle.std.proofs.lemmas.List.{length-take-le}
use Rattle.std.proofs.lemmas.Result.{err_from_is_err_and}
use Rattle.http_frames.specs.declared.progress.Next.TheVariants as next
use Rattle.http_frames.specs.Seen.{reading_seen, with_body}
use Rattle.http_frames.proofs.Runs.{whole_stays, counted_steps, length_counts, chunk_counts, one_read, one_fails}
use Rattle.http_frames.proofs.progress.Progress.step.Goals as goal

pub returns-in_err-take_between-in_default : goal.returns-in_err-take_between-in_default
returns-in_err-take_between-in_default c =
    let p = err_from_is_err_and c.from_residual.result c.from_residual.ensures.1 in
    let len : length (take c.args.self.now.filled c.args.out.now) ≡ c.args.self.now.filled = length-take-le _ _ c.requires.inside in
    rw (p.1, p.2) (record {
      inside = omega (arith, c.take_between.ensures.kept, c.requires.inside);
      size = tt;
      value = one_fails (length c.args.out.now) (reading_seen c.args.self.now c.args.out.now) _ c.args.bytes.now c.requires.some (c.in_err-take_between-in_default.ensures.value (take c.args.self.now.filled c.args.out.now) len);
    })

pub returns-in-Whole-clause-value : goal.returns-in-Whole-clause-value
returns-in-Whole-clause-value c =
    whole_stays (length c.args.out.now) (reading_seen c.args.self.now c.args.out.now) _ (ap (λ h. h.next) (sym c.self.view_is) ∙ c.in-Whole.is)

pub returns-in-Length-clause-value : goal.returns-in-Length-clause-value
returns-in-Length-clause-value c =
    counted_steps next.Length next.Whole length_counts (length c.args.out.now) (reading_seen c.args.self.now c.args.out.now) _ c.args.bytes.now c.take_counted.result (ap (λ h. h.next) (sym c.self.view_is) ∙ c.in-Length.is) c.requires.some c.take_counted.ensures.size c.take_counted.ensures.value

pub returns-in-Chunk-clause-value : goal.returns-in-Chunk-clause-value
returns-in-Chunk-clause-value c =
    counted_steps next.Chunk next.ChunkCr chunk_counts (length c.args.out.now) (reading_seen c.args.self.now c.args.out.now) _ c.args.bytes.now c.take_counted-in-Chunk.result (ap (λ h. h.next) (sym c.self.view_is) ∙ c.in-Chunk.is) c.requires.some c.take_counted-in-Chunk.ensures.size c.take_counted-in-Chunk.ensures.value

pub returns-in_ok-take_between-in_default : goal.returns-in_ok-take_between-in_default
returns-in_ok-take_between-in_default c =
    let body = take c.args.self.now.filled c.args.out.now in
    let len : length body ≡ c.args.self.now.filled = length-take-le _ _ c.requires.inside in
    record {
      inside = omega (arith, c.take_between.ensures.kept, c.requires.inside);
      size = (omega arith, omega (arith, c.requires.some));
      value =
          one_read (length c.args.out.now) (reading_seen c.args.self.now c.args.out.now) (with_body c.take_between.new.self body) c.args.bytes.now c.requires.some (c.in_ok-take_between-in_default.ensures.value body len)
          ∙ ap (λ n. Ok (with_body c.take_between.new.self (take n c.args.out.now))) (sym c.take_between.ensures.kept);
    }
