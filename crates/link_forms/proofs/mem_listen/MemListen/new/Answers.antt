use Rattle.std.proofs.Common.{Some, ap}
use Rattle.link_forms.proofs.FreshLinks.{all_first}
use Rattle.link_forms.proofs.mem_listen.MemListen.new.Goals as goal

pub returns-clause-coming : goal.returns-clause-coming
returns-clause-coming c = ap Some (all_first c.args.links.items c.requires.fresh)
