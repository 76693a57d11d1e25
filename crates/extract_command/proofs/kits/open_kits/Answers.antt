use Rattle.std.proofs.Common.{◌≡◌, arith, map}
use Rattle.command_steps.proofs.Consulted.{reads_none, reads_twice}
use Rattle.command_steps.proofs.Used.{all_more, uses_none, uses_twice}
use Rattle.command_groups.specs.Groups.{stores_of}
use Rattle.command_steps.specs.Seeds.{image_name}
use Rattle.command_steps.specs.Uses.{folders_among}
use Rattle.command_steps.proofs.InTurn.{put_last}
use Rattle.extract_command.proofs.LentKits.{all_opened_over, opened_over}
use Rattle.extract_command.proofs.kits.open_kits.Goals as goal
use Rattle.extract_command.specs.Kits.{IsKitOpened}

pub loop-opened-init : goal.loop-opened-init
loop-opened-init g c =
    let d = g.F.Files.disk c.args.files.now in
    record {
      opened = λ n k lt. absurd (omega (arith, lt, c.args.kits.now.ok.0, c.requires.room.0));
      kinds = λ n k lt. absurd (omega (arith, lt, c.args.kits.now.ok.0, c.requires.room.0));
      few = omega (arith, c.requires.room.0);
      counted = c.requires.some;
      room = c.requires.room.1;
      reads = reads_none d;
      used = uses_none (map image_name c.args.seeds.now) (folders_among (stores_of c.args.stores.now.groups)) d;
    }

pub unwrap-requires : goal.unwrap-requires
unwrap-requires g c =
    let inv = c.loop-opened.invariant in
    c.push.ensures.succeeds (omega (arith, inv.few, inv.room, c.loop-opened-test.true))

pub loop-opened-preserved : goal.loop-opened-preserved
loop-opened-preserved g c =
    let look = g.F.Look.Look in
    let view = g.F.View.View in
    let state = g.D.Dial.state in
    let at = g.F.Files.disk in
    let inv = c.loop-opened.invariant in
    let d = at c.args.files.now in
    let b = at c.loop-opened.files in
    let e = at c.open_kit.new.files in
    let stores = c.args.stores.now in
    let images = map image_name c.args.seeds.now in
    let old = c.loop-opened.kits.items in
    let new = c.push.new.self.items in
    let is = put_last old new c.in-Some.kit c.push.result c.unwrap.result c.unwrap.ensures c.push.ensures.items in
    record {
      opened = all_more (IsKitOpened look view state d e stores images) old new c.in-Some.kit is
          (all_opened_over look view state d d b e (reads_none d) c.in-Some.ensures.kept stores images old inv.opened)
          (opened_over look view state d b e e inv.reads (reads_none e) stores images c.in-Some.kit c.in-Some.ensures.some);
      kinds = all_more (λ k. k.chain.kind ≡ c.args.kind) old new c.in-Some.kit is inv.kinds c.in-Some.ensures.kind;
      few = omega (arith, inv.few, c.push.ensures.upper_bound);
      counted = omega (arith, c.loop-opened-test.true);
      room = omega (arith, inv.room, c.push.ensures.capacity);
      reads = reads_twice d b e inv.reads c.in-Some.ensures.kept;
      used = uses_twice images (folders_among (stores_of stores.groups)) d b e inv.used c.in-Some.ensures.used;
    }

pub returns-in_default : goal.returns-in_default
returns-in_default g c =
    let look = g.F.Look.Look in
    let view = g.F.View.View in
    let state = g.D.Dial.state in
    let at = g.F.Files.disk in
    let inv = c.loop-opened.invariant in
    let d = at c.args.files.now in
    let b = at c.loop-opened.files in
    let e = at c.open_kit.new.files in
    let stores = c.args.stores.now in
    let images = map image_name c.args.seeds.now in
    record {
      opened = all_opened_over look view state d d b e (reads_none d) c.in_default.ensures.kept stores images c.loop-opened.kits.items inv.opened;
      kinds = inv.kinds;
      few = omega (arith, inv.few, inv.counted);
      room = omega (arith, inv.few, inv.counted, inv.room);
      kept = reads_twice d b e inv.reads c.in_default.ensures.kept;
      used = uses_twice images (folders_among (stores_of stores.groups)) d b e inv.used c.in_default.ensures.used;
    }

pub returns-clause-few : goal.returns-clause-few
returns-clause-few g c = omega (arith, c.loop-opened.invariant.few, c.loop-opened.invariant.counted)

pub returns-clause-room : goal.returns-clause-room
returns-clause-room g c = omega (arith, c.loop-opened.invariant.few, c.loop-opened.invariant.counted, c.loop-opened.invariant.room)
