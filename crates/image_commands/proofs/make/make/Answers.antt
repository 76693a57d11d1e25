use Rattle.std.proofs.lemmas.Result.{err_from_is_err_and}
use Rattle.image_commands.proofs.Ended.{make_ends, make_fails}
use Rattle.image_commands.proofs.make.make.Goals as goal

pub returns-in_err-bytes : goal.returns-in_err-bytes
returns-in_err-bytes g c =
    let p = err_from_is_err_and c.from_residual-in_err-bytes.result c.from_residual-in_err-bytes.ensures.1 in
    let at = g.F.Files.disk in
    let state = g.D.Dial.state in
    let words = c.args.words in
    let views = c.in_ok-views.ensures in
    let opened = views.bytes in
    record {
      ends = λ o. rw (p.1, p.2) (make_fails words.store words.digest words.sizes words.index words.image c.in_ok-sizes.sizes opened.0 (state c.args.dial.now) (state c.store_into.new.dial) o (at c.args.files.now) (at c.open_views.new.files) (at c.store_into.new.files)
          c.in_ok-sizes.ensures (opened.1, views.kept, views.used) c.in_err-bytes.field-0.0 (c.in_err-bytes.ensures.err words.image opened.0 opened.2 o));
    }

pub returns : goal.returns
returns g c =
    let at = g.F.Files.disk in
    let state = g.D.Dial.state in
    let words = c.args.words in
    let views = c.in_ok-views.ensures in
    let opened = views.bytes in
    record {
      ends = λ o. make_ends words.store words.digest words.sizes words.index words.image c.in_ok-sizes.sizes opened.0 (state c.args.dial.now) (state c.store_into.new.dial) o (at c.args.files.now) (at c.open_views.new.files) (at c.store_into.new.files)
          c.in_ok-sizes.ensures (opened.1, views.kept, views.used) c.in_ok-bytes.bytes.items (at c.write_index.new.files) c.write_index.result (c.in_ok-bytes.ensures.ok words.image opened.0 opened.2 o) (rw c.deref.ensures.value at c.write_index.ensures);
    }
