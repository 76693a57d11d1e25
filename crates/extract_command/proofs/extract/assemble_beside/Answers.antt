use Rattle.std.proofs.Common.{ℕ, List, Option, Ok, Err, inl, map, refl, subst, sym, true, ◌∙◌}
use Rattle.std.proofs.lemmas.Result.{err_from_is_err_and}
use Rattle.cache_store.specs.Shelves.{Shelf, Shelved}
use Rattle.chunk_sources.specs.Caches.{seen}
use Rattle.command_steps.specs.Cache.{with_cache}
use Rattle.extract_command.proofs.extract.assemble_beside.Given.{Over}
use Rattle.command_steps.specs.Seeds.{image_name}
use Rattle.command_steps.specs.Sources.{NotAsking, storage}
use Rattle.command_worlds.specs.Worlds.{world}
use Rattle.extract_command.proofs.Replaced.{beside_apart, clears, passed_any}
use Rattle.extract_command.proofs.extract.assemble_beside.Goals as goal
use Rattle.extract_command.specs.Extract.{ClearedAfter, ImageMade, Renamed, Seeds, beside, extract_stores, never_fail}

-- what is seen of the cache
abbrev see : (g : Over) → Option (Shelved g.row.F-Folder.Denot) → Option Shelf
see g = seen g.F.Folder.Look

pub rename-renamed-requires : goal.rename-renamed-requires
rename-renamed-requires g c = λ same. beside_apart c.args.target (sym same ∙ c.requires.named)

pub returns-in_err-clear : goal.returns-in_err-clear
returns-in_err-clear g c =
    let at = g.F.Files.disk in
    let e = err_from_is_err_and c.from_residual.result c.from_residual.ensures.1 in
    let d = with_cache (see g c.args.held.shelf) (at c.args.files.now) in
    let b = at c.assemble_into-made.new.files in
    let k0 = g.D.Dial.state c.args.dial.now in
    let k1 = g.D.Dial.state c.assemble_into-made.new.dial in
    let w = storage d k0 in
    let names = extract_stores g.F.Look.Look.never_fails c.args.planned.now.stores in
    let l = c.args.planned.now.index in
    record {
      made = λ deal ls p plan is.
          let z : Seeds = record { images = map image_name c.args.planned.now.seeds; listings = ls } in
          let made = c.assemble_into-made.ensures in
          let image = subst (λ (n : List ℕ). ImageMade (never_fail g.F.Target.View.never_fails g.F.Folder.Look.never_fails) names c.args.held.cache (record { name = n; fresh = true }) l z w c.assemble_into-made.result (storage b k1)) c.requires.named (made.assembled deal ls plan is, made.kept, made.tells, made.dialed, made.numbered, made.asks deal ls plan is, made.used) in
          let cleared = subst (λ (n : List ℕ). ClearedAfter n b c.assemble_into-made.result (Err c.in_err-clear.field-0.0) (at c.clear.new.files)) c.requires.named c.in_err-clear.ensures in
          rw (e.1, e.2) (inl (clears _ (ImageMade (never_fail g.F.Target.View.never_fails g.F.Folder.Look.never_fails) names c.args.held.cache (beside c.args.target) l z) w b (at c.clear.new.files) k1 c.assemble_into-made.result (Err c.in_err-clear.field-0.0) image cleared, refl));
    }

pub returns : goal.returns
returns g c =
    let at = g.F.Files.disk in
    let d = with_cache (see g c.args.held.shelf) (at c.args.files.now) in
    let b = at c.assemble_into-made.new.files in
    let k0 = g.D.Dial.state c.args.dial.now in
    let k1 = g.D.Dial.state c.assemble_into-made.new.dial in
    let w = storage d k0 in
    let m = at c.clear.new.files in
    let n = at c.rename-renamed.new.files in
    let f = at c.clear-2.new.files in
    let names = extract_stores g.F.Look.Look.never_fails c.args.planned.now.stores in
    let l = c.args.planned.now.index in
    record {
      made = λ deal ls p plan is.
          let z : Seeds = record { images = map image_name c.args.planned.now.seeds; listings = ls } in
          let made = c.assemble_into-made.ensures in
          let image = subst (λ (n : List ℕ). ImageMade (never_fail g.F.Target.View.never_fails g.F.Folder.Look.never_fails) names c.args.held.cache (record { name = n; fresh = true }) l z w c.assemble_into-made.result (storage b k1)) c.requires.named (made.assembled deal ls plan is, made.kept, made.tells, made.dialed, made.numbered, made.asks deal ls plan is, made.used) in
          let cleared = subst (λ (n : List ℕ). ClearedAfter n b c.assemble_into-made.result (Ok tt) m) c.requires.named c.in_ok-clear.ensures in
          let renamed = subst (λ (q : List ℕ). Renamed q c.args.target m c.rename-renamed.result n) c.requires.named c.rename-renamed.ensures in
          let last = subst (λ (q : List ℕ). ClearedAfter q n c.rename-renamed.result c.clear-2.result f) c.requires.named c.clear-2.ensures in
          passed_any _ _ (world d k0 p) c.clear-2.result (world f k1 p) (record {
            disk = m;
            dial = k1;
            out = p;
            gave = tt;
            did = (clears _ (ImageMade (never_fail g.F.Target.View.never_fails g.F.Folder.Look.never_fails) names c.args.held.cache (beside c.args.target) l z) w b m k1 c.assemble_into-made.result (Ok tt) image cleared, refl);
            then = (clears _ (NotAsking (Renamed _ c.args.target)) (storage m k1) n f k1 c.rename-renamed.result c.clear-2.result (renamed, refl) last, refl);
          });
    }
