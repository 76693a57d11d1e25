use Rattle.std.proofs.Common.{◌≡◌, [], arith}
use Rattle.command_steps.proofs.Consulted.{reads_none, reads_twice}
use Rattle.command_groups.proofs.LentChains.{chain_over, chains_over}
use Rattle.command_steps.proofs.InTurn.{put_last}
use Rattle.command_steps.proofs.Used.{all_more, uses_twice}
use Rattle.command_groups.specs.Chains.{IsChainOpened}
use Rattle.command_groups.specs.Groups.{stores_of}
use Rattle.command_steps.specs.Uses.{folders_among}
use Rattle.command_groups.proofs.chains.open_chains.Goals as goal

pub unwrap-requires : goal.unwrap-requires
unwrap-requires g c =
    let inv = c.loop-opened.invariant in
    c.push.ensures.succeeds (omega (arith, inv.few, inv.room, c.loop-opened-test.true))

pub loop-opened-preserved : goal.loop-opened-preserved
loop-opened-preserved g c =
    let look = g.F.Look.Look in
    let state = g.D.Dial.state in
    let at = g.F.Files.disk in
    let inv = c.loop-opened.invariant in
    let d = at c.args.files.now in
    let b = at c.loop-opened.files in
    let e = at c.open_chain.new.files in
    let groups = c.args.groups.now in
    let again = c.args.retries in
    let old = c.loop-opened.chains.items in
    let new = c.push.new.self.items in
    let is = put_last old new c.in-Ok-open_chain.chain c.push.result c.unwrap.result c.unwrap.ensures c.push.ensures.items in
    record {
      opened = all_more (IsChainOpened look state d e groups again) old new c.in-Ok-open_chain.chain is
          (chains_over look state d d b e (reads_none d) c.in-Ok-open_chain.ensures.kept groups again old inv.opened)
          (chain_over look state d b e e inv.reads (reads_none e) groups again c.in-Ok-open_chain.chain c.in-Ok-open_chain.ensures.ok);
      kinds = all_more (λ x. x.kind ≡ c.args.kind) old new c.in-Ok-open_chain.chain is inv.kinds c.in-Ok-open_chain.ensures.kind;
      few = omega (arith, inv.few, c.push.ensures.upper_bound);
      counted = omega (arith, c.loop-opened-test.true);
      room = omega (arith, inv.room, c.push.ensures.capacity);
      reads = reads_twice d b e inv.reads c.in-Ok-open_chain.ensures.kept;
      used = uses_twice [] (folders_among (stores_of groups)) d b e inv.used c.in-Ok-open_chain.ensures.used;
    }

pub returns-in_default-open_chain-clause-opened : goal.returns-in_default-open_chain-clause-opened
returns-in_default-open_chain-clause-opened g c =
    let at = g.F.Files.disk in
    let d = at c.args.files.now in
    chains_over g.F.Look.Look g.D.Dial.state d d (at c.loop-opened.files) (at c.open_chain.new.files) (reads_none d) c.in_default-open_chain.ensures.kept c.args.groups.now c.args.retries c.loop-opened.chains.items c.loop-opened.invariant.opened
