use Rattle.std.proofs.Common.{◌+◌, ◌≤◌, Some, arith, length, max}
use Rattle.cache_command.proofs.AskedListings.{more_workers}
use Rattle.cache_command.proofs.CacheFilled.{cache_ends, not_reached}
use Rattle.cache_command.proofs.cache.fill_cache.Goals as goal
use Rattle.cache_store.specs.Shelves.{shelf_of}
use Rattle.command_steps.specs.Cache.{with_cache}
use Rattle.command_steps.specs.Sources.{storage}

pub returns-in-Err : goal.returns-in-Err
returns-in-Err g c =
    let at = g.F.Files.disk in
    let words = c.args.words in
    record { ends = λ p. not_reached g.F.Look.Look.never_fails words.stores words.retries words.cache words.workers words.indexes (g.D.Dial.state c.args.dial.now) p (at c.args.files.now) (at c.reach-reached.new.files) c.in-Err.outcome (rw c.as_slice-groups.ensures at (rw c.as_str-cache.ensures at c.in-Err.ensures.err)) }

pub returns : goal.returns
returns g c =
    let at = g.F.Files.disk in
    let D = g.F.Folder.Look in
    let words = c.args.words in
    let many = length c.in-Ok.filling.further.items in
    let k = g.D.Dial.state c.args.dial.now in
    let j = g.D.Dial.state c.fill_between.new.dial in
    let m = at c.reach-reached.new.files in
    let e = at c.fill_between.new.files in
    let w = storage (with_cache (Some (shelf_of D.files D.place D.faults c.in-Ok.filling.cached.shelf)) m) k in
    let r = c.fill_between.result in
    let few : max 1 (1 + many) ≤ max 1 words.workers = omega (arith, c.in-Ok.ensures.few) in
    let between = more_workers g.F.Look.Look.never_fails words.stores words.retries words.cache (1 + many) words.workers words.indexes w (storage e j) r few c.fill_between.ensures.filled in
    let reached = rw c.as_slice-groups.ensures at (rw c.as_str-cache.ensures at c.in-Ok.ensures.ok) in
    record { ends = λ p. cache_ends g.F.Look.Look.never_fails words.stores words.retries words.cache words.workers words.indexes k j p (at c.args.files.now) reached.0 (with_cache (Some (shelf_of D.files D.place D.faults c.in-Ok.filling.cached.shelf)) m) e r reached.1 reached.2 between }
