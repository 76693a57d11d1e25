use lib.Utf8.{encode}
use Rattle.verify_tool.proofs.InfoText.{line_is}
use Rattle.verify_tool.proofs.info.line.Goals as goal

pub returns : goal.returns
unfolding encode
returns c = record { value = line_is c.args.index.now c.args.in_store c.in_ok-f.f _ _ _ c.in_ok-f.ensures.value c.in_ok-object.ensures.value c.in_ok-text.ensures.text c.in_ok-push.ensures.bytes }
