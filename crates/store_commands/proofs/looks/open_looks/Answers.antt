use Rattle.std.proofs.Common.{◌∷◌, [], IsSome, arith, get_or, subst, sym}
use Rattle.command_steps.proofs.Consulted.{reads_twice}
use Rattle.command_steps.proofs.Used.{uses_twice}
use Rattle.command_steps.specs.Stores.{IsStoreAt}
use Rattle.image_views.proofs.Viewed.{all_grow, few_grow, grows_as}
use Rattle.store_commands.proofs.Looking.{store_earlier}
use Rattle.store_commands.proofs.looks.open_looks.Goals as goal

pub loop-opened-preserved : goal.loop-opened-preserved
loop-opened-preserved g c =
    let L = g.F.Look.Look in
    let at = g.F.Files.disk in
    let d = at c.args.files.now in
    let b = at c.loop-opened.files in
    let e = at c.add_look.new.files in
    let q = c.args.store.now in
    let old = c.loop-opened.looks.items in
    let new = c.add_look.new.looks.items in
    let inv = c.loop-opened.invariant in
    let added = c.add_look.ensures.changed in
    let found = grows_as _ (IsStoreAt L.files L.place L.faults d.folders q) old new (λ l is. store_earlier L.files L.place L.faults d b q l inv.reads.folders is.0) added in
    let known = grows_as _ (λ l. IsSome (e.folder_counts (L.place l))) old new (λ l is. subst (λ n. IsSome (e.folder_counts n)) (sym is.0.named) is.1) added in
    record {
      few = omega (arith, inv.few, few_grow _ old new added);
      counted = omega (arith, c.loop-opened-test.true);
      found = all_grow _ old new found inv.found;
      known = all_grow _ old new known (λ k l lt. c.add_look.ensures.kept.folder_known (L.place (get_or old k l)) (inv.known k l lt));
      reads = reads_twice d b e inv.reads c.add_look.ensures.kept;
      used = uses_twice [] (q ∷ []) d b e inv.used c.add_look.ensures.used;
    }
