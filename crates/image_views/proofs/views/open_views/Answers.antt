use Rattle.std.proofs.Common.{◌≡◌, ℕ, List, [], ◌∷◌, IsSome, slice_index_or, sym, map, rules, arith, inr, subst}
use Rattle.std.proofs.lemmas.List.Elements.{All-map}
use Rattle.command_steps.proofs.Consulted.{reads_twice}
use Rattle.command_steps.proofs.Used.{file_used, uses_twice}
use Rattle.image_views.specs.Views.{IsViewOf}
use Rattle.image_views.proofs.Viewed.{all_grow, all_tell, alike, few_grow, grows_as, long_enough, of_one, opened_read, some_grow, view_earlier}
use Rattle.image_views.proofs.views.open_views.Goals as goal

pub loop-opened-init : goal.loop-opened-init
loop-opened-init g c =
    let d = g.F.Files.disk c.args.files.now in
    let held = g.F.View.View.held in
    let q = c.args.image in
    let found = c.in-Ok.ensures in
    let opened : (g.F.View.View.faults c.in-Ok.view ≡ 0) × IsViewOf d q c.size-size.result (held c.in-Ok.view) = (
      found.fresh.0,
      record {
        name = rw c.as_str.ensures at found.fresh.1;
        size = search rules;
        holds = rw c.as_str.ensures at found.found;
      },
    ) in
    record {
      some = search rules;
      few = search rules;
      counted = omega arith;
      opened = all_grow (λ v. (g.F.View.View.faults v ≡ 0) × IsViewOf d q c.size-size.result (held v)) [] c.push.new.self.items (inr (_, search rules, opened)) (λ k e lt. absurd (omega (arith, lt)));
      used = file_used q d (g.F.Files.disk c.view.new.self) (rw c.as_str.ensures at found.counts);
      reads = opened_read d (g.F.Files.disk c.view.new.self) q found.kept (rw c.as_str.ensures at found.counts);
      known = all_grow (λ v. IsSome ((g.F.Files.disk c.view.new.self).file_counts (held v).name)) [] c.push.new.self.items (inr (_, search rules, subst (λ (n : List ℕ). IsSome ((g.F.Files.disk c.view.new.self).file_counts n)) (sym found.fresh.1) found.known)) (λ k e lt. absurd (omega (arith, lt)));
    }

pub loop-opened-preserved : goal.loop-opened-preserved
loop-opened-preserved g c =
    let d = g.F.Files.disk c.args.files.now in
    let b = g.F.Files.disk c.loop-opened.files in
    let held = g.F.View.View.held in
    let q = c.args.image in
    let inv = c.loop-opened.invariant in
    let added = rw c.as_str-in-loop-opened.ensures at c.add_view.ensures.changed in
    let grows = grows_as _ (λ v. (g.F.View.View.faults v ≡ 0) × IsViewOf d q c.size-size.result (held v)) c.loop-opened.views.items c.add_view.new.views.items
    (λ v is. (is.0, view_earlier d b q c.size-size.result (held v) inv.reads.files is.1)) added in
    let known = grows_as _ (λ v. IsSome ((g.F.Files.disk c.add_view.new.files).file_counts (held v).name)) c.loop-opened.views.items c.add_view.new.views.items
    (λ v is. subst (λ (n : List ℕ). IsSome ((g.F.Files.disk c.add_view.new.files).file_counts n)) (sym is.1.name) is.2) added in
    record {
      some = omega (arith, some_grow _ c.loop-opened.views.items c.add_view.new.views.items added (omega (arith, inv.some)));
      few = omega (arith, inv.few, few_grow _ c.loop-opened.views.items c.add_view.new.views.items added);
      counted = omega (arith, c.loop-opened-test.true);
      opened = all_grow _ c.loop-opened.views.items c.add_view.new.views.items grows inv.opened;
      used = uses_twice (q ∷ []) [] d b (g.F.Files.disk c.add_view.new.files) inv.used (rw c.as_str-in-loop-opened.ensures at c.add_view.ensures.used);
      reads = reads_twice d b (g.F.Files.disk c.add_view.new.files) inv.reads c.add_view.ensures.kept;
      known = all_grow _ c.loop-opened.views.items c.add_view.new.views.items known (λ k e lt. c.add_view.ensures.kept.known (held (slice_index_or c.loop-opened.views.items k e)).name (inv.known k e lt));
    }

pub returns-clause-bytes : goal.returns-clause-bytes
returns-clause-bytes g c =
    let d = g.F.Files.disk c.args.files.now in
    let held = g.F.View.View.held in
    let tells = g.F.Files.tells in
    let xs = c.loop-opened.views.items in
    of_one d c.args.image c.size-size.result tells (g.met.F.Files.told c.args.files.now).0 (map held xs) (long_enough held xs (omega (arith, c.loop-opened.invariant.some)))
    (all_tell tells g.F.View.View.tells held g.met.F.View.View.told (λ t. (g.met.F.Files.alike.0 t).0) g.met.F.ImageFiles.untold xs)
    (All-map (IsViewOf d c.args.image c.size-size.result) held xs (λ k e lt. (c.loop-opened.invariant.opened k e lt).1))

pub returns-clause-alike : goal.returns-clause-alike
returns-clause-alike g c =
    let d = g.F.Files.disk c.args.files.now in
    let held = g.F.View.View.held in
    let tells = g.F.Files.tells in
    let xs = c.loop-opened.views.items in
    alike d c.args.image c.size-size.result tells (g.met.F.Files.told c.args.files.now).0 (map held xs)
    (all_tell tells g.F.View.View.tells held g.met.F.View.View.told (λ t. (g.met.F.Files.alike.0 t).0) g.met.F.ImageFiles.untold xs)
    (All-map (IsViewOf d c.args.image c.size-size.result) held xs (λ k e lt. (c.loop-opened.invariant.opened k e lt).1))

pub returns-clause-few : goal.returns-clause-few
returns-clause-few g c = omega (arith, c.loop-opened.invariant.few, c.loop-opened.invariant.counted)
