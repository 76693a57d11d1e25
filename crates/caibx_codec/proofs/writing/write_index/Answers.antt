use Rattle.caibx_codec.proofs.Written.{front_part, items_part, tail_part, file_put, on_error, last_err, last_ok}
use Rattle.caibx_codec.proofs.writing.write_index.Goals as goal

pub returns-in_err-put_front-clause-err : goal.returns-in_err-put_front-clause-err
returns-in_err-put_front-clause-err g c =
    on_error _ _ (front_part c.args.index.now _ (g.S.Sink.output c.args.out.now).taken _ c.in_err-put_front.ensures.bytes)

pub returns-in_err-put_items-clause-err : goal.returns-in_err-put_items-clause-err
returns-in_err-put_items-clause-err g c =
    on_error _ _ (items_part c.args.index.now _ _ _ c.in_ok-put_front.ensures.bytes _ c.entries.ensures c.in_err-put_items.ensures.bytes)

pub returns-clause-err : goal.returns-clause-err
returns-clause-err g c =
    last_err c.put_tail.result _ _ _ _ (tail_part c.args.index.now _ _ _ c.in_ok-put_front.ensures.bytes _ c.entries.ensures _ c.in_ok-put_items.ensures.bytes) c.put_tail.ensures.bytes

pub returns-clause-ok : goal.returns-clause-ok
returns-clause-ok g c =
    last_ok c.put_tail.result _ _ _ _ (file_put c.args.index.now _ _ _ c.in_ok-put_front.ensures.bytes _ c.entries.ensures _ c.in_ok-put_items.ensures.bytes) c.put_tail.ensures.bytes
