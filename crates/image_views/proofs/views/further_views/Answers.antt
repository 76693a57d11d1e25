use Rattle.std.proofs.Common.{◌≡◌, ℕ, List, [], ◌∷◌, IsSome, slice_index_or, sym, map, arith, subst, All}
use Rattle.std.proofs.lemmas.List.Elements.{All-map}
use Rattle.command_steps.proofs.Consulted.{reads_twice}
use Rattle.command_steps.proofs.Used.{uses_twice}
use Rattle.image_views.specs.Views.{IsViewOf}
use Rattle.image_views.proofs.Viewed.{all_grow, all_tell, alike_to, few_grow, grows_as, told_by, view_earlier}
use Rattle.image_views.proofs.views.further_views.Goals as goal

pub loop-opened-preserved : goal.loop-opened-preserved
loop-opened-preserved g c =
    let d = g.F.Files.disk c.args.files.now in
    let b = g.F.Files.disk c.loop-opened.files in
    let held = g.F.View.View.held in
    let q = c.args.image.now in
    let inv = c.loop-opened.invariant in
    let added = c.add_view.ensures.changed in
    let grows = grows_as _ (λ v. IsViewOf d q c.args.size (held v)) c.loop-opened.views.items c.add_view.new.views.items
    (λ v is. view_earlier d b q c.args.size (held v) inv.reads.files is.1) added in
    let known = grows_as _ (λ v. IsSome ((g.F.Files.disk c.add_view.new.files).file_counts (held v).name)) c.loop-opened.views.items c.add_view.new.views.items
    (λ v is. subst (λ (n : List ℕ). IsSome ((g.F.Files.disk c.add_view.new.files).file_counts n)) (sym is.1.name) is.2) added in
    record {
      few = omega (arith, inv.few, few_grow _ c.loop-opened.views.items c.add_view.new.views.items added);
      counted = omega (arith, c.loop-opened-test.true);
      opened = all_grow _ c.loop-opened.views.items c.add_view.new.views.items grows inv.opened;
      reads = reads_twice d b (g.F.Files.disk c.add_view.new.files) inv.reads c.add_view.ensures.kept;
      used = uses_twice (q ∷ []) [] d b (g.F.Files.disk c.add_view.new.files) inv.used c.add_view.ensures.used;
      known = all_grow _ c.loop-opened.views.items c.add_view.new.views.items known (λ k e lt. c.add_view.ensures.kept.known (held (slice_index_or c.loop-opened.views.items k e)).name (inv.known k e lt));
    }

pub returns-clause-named : goal.returns-clause-named
returns-clause-named g c =
    let xs = c.loop-opened.views.items in
    All-map (λ h. h.name ≡ c.args.image.now) g.F.View.View.held xs (λ k e lt. (c.loop-opened.invariant.opened k e lt).name)

pub returns-clause-alike : goal.returns-clause-alike
returns-clause-alike g c = λ h some long holds.
    let d = g.F.Files.disk c.args.files.now in
    let held = g.F.View.View.held in
    let tells = g.F.Files.tells in
    let xs = c.loop-opened.views.items in
    let told = all_tell tells g.F.View.View.tells held g.met.F.View.View.told (λ t. (g.met.F.Files.alike.0 t).0) g.met.F.ImageFiles.untold in
    alike_to d c.args.image.now c.args.size tells (g.met.F.Files.told c.args.files.now).0 h (told_by tells g.F.View.View.tells h.bytes some (λ t. (g.met.F.Files.alike.0 t).0) g.met.F.ImageFiles.untold) long holds
    (map held xs) (told xs) (All-map (IsViewOf d c.args.image.now c.args.size) held xs c.loop-opened.invariant.opened)

pub returns-clause-few : goal.returns-clause-few
returns-clause-few g c = omega (arith, c.loop-opened.invariant.few, c.loop-opened.invariant.counted)
