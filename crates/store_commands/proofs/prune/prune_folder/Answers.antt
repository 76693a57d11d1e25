use Rattle.std.proofs.Common.{◌≡◌, List, [], ◌∷◌, ℕ, Bool, Ok, Err, inl, inr, refl, sym, subst, ap, ◌∙◌}
use Rattle.std.proofs.lemmas.Result.{err_from_is_err_and}
use Rattle.command_indexes.specs.Gets.{IndexesGot}
use Rattle.command_steps.proofs.Used.{uses_none}
use Rattle.command_steps.specs.Stores.{StoreTaken}
use Rattle.command_worlds.specs.Worlds.{world}
use Rattle.dsy_base.specs.Disk.{Output}
use Rattle.store_commands.proofs.GivenFolders.{reads_still}
use Rattle.store_commands.specs.Prune.{StorePruned}
use Rattle.verify_tool.specs.Pruning.{has_id, is_listed_in}
use Rattle.store_commands.proofs.prune.prune_folder.Goals as goal

pub returns-in_err-listed : goal.returns-in_err-listed
returns-in_err-listed g c =
    let p = err_from_is_err_and c.from_residual.result c.from_residual.ensures.1 in
    let at = g.F.Files.disk in
    let state = g.D.Dial.state in
    let refused = λ (o : Output). subst (λ (qs : List (List ℕ)). IndexesGot 0 qs (world (at c.args.files.now) (state c.args.dial.now) o) (Err c.in_err-listed.field-0.0) (world (at c.load_indexes.new.files) (state c.load_indexes.new.dial) o)) c.as_slice.ensures (c.in_err-listed.ensures.err o) in
    record { ends = λ o. rw (p.1, p.2) (inl (refused o)) }

pub returns-in_err-keep : goal.returns-in_err-keep
returns-in_err-keep g c =
    let p = err_from_is_err_and c.from_residual-in_err-keep.result c.from_residual-in_err-keep.ensures.1 in
    let at = g.F.Files.disk in
    let state = g.D.Dial.state in
    let read = λ (o : Output). subst (λ (qs : List (List ℕ)). IndexesGot 0 qs (world (at c.args.files.now) (state c.args.dial.now) o) (Ok c.in_ok-listed.listed.items) (world (at c.load_indexes.new.files) (state c.load_indexes.new.dial) o)) c.as_slice.ensures (c.in_ok-listed.ensures.ok o) in
    let lacking = sym c.in_err-keep.ensures.err in
    let d = at c.load_indexes.new.files in
    record { ends = λ o. rw (p.1, p.2) (inr (record { disk = _; dial = _; out = _; gave = c.in_ok-listed.listed.items; did = read o; then = inl (subst (λ e. StoreTaken [] c.args.store d (Err e) d) lacking (tt, reads_still d, uses_none [] (c.args.store ∷ []) d), refl, refl) })) }

pub returns-in_err-taken : goal.returns-in_err-taken
returns-in_err-taken g c =
    let p = err_from_is_err_and c.from_residual-in_err-taken.result c.from_residual-in_err-taken.ensures.1 in
    let at = g.F.Files.disk in
    let state = g.D.Dial.state in
    let read = λ (o : Output). subst (λ (qs : List (List ℕ)). IndexesGot 0 qs (world (at c.args.files.now) (state c.args.dial.now) o) (Ok c.in_ok-listed.listed.items) (world (at c.load_indexes.new.files) (state c.load_indexes.new.dial) o)) c.as_slice.ensures (c.in_ok-listed.ensures.ok o) in
    let took = c.in_err-taken.ensures in
    let refused = subst (λ (q : List ℕ). StoreTaken [] q (at c.load_indexes.new.files) (Err c.in_err-taken.field-0.0) (at c.take_folder.new.files)) c.as_str.ensures (took.err, took.kept, took.used) in
    record { ends = λ o. rw (p.1, p.2) (inr (record { disk = _; dial = _; out = _; gave = c.in_ok-listed.listed.items; did = read o; then = inl (refused, refl, refl) })) }

pub returns-in_err-prune_taken : goal.returns-in_err-prune_taken
returns-in_err-prune_taken g c =
    let p = err_from_is_err_and c.from_residual-in_err-prune_taken.result c.from_residual-in_err-prune_taken.ensures.1 in
    let at = g.F.Files.disk in
    let ls = c.in_ok-listed.listed.items in
    let state = g.D.Dial.state in
    let read = λ (o : Output). subst (λ (qs : List (List ℕ)). IndexesGot 0 qs (world (at c.args.files.now) (state c.args.dial.now) o) (Ok c.in_ok-listed.listed.items) (world (at c.load_indexes.new.files) (state c.load_indexes.new.dial) o)) c.as_slice.ensures (c.in_ok-listed.ensures.ok o) in
    let took = c.in_ok-taken.ensures in
    let held = g.F.Folder.Look.files c.in_ok-taken.taken in
    let told : has_id c.in_ok-keep.keep ≡ is_listed_in c.deref.result.now = (λ i q. (c.in_ok-keep.ensures.ok q) i) in
    let same : has_id c.in_ok-keep.keep ≡ is_listed_in ls = told ∙ ap is_listed_in c.deref.ensures.value in
    let there = subst (λ (q : List ℕ). StorePruned (has_id c.in_ok-keep.keep) q held (at c.take_folder.new.files) (Err c.in_err-prune_taken.field-0.0) (at c.prune_taken.new.files)) c.as_str-2.ensures c.in_err-prune_taken.ensures in
    let pruned = subst (λ (k : List ℕ → Bool). StorePruned k c.args.store held (at c.take_folder.new.files) (Err c.in_err-prune_taken.field-0.0) (at c.prune_taken.new.files)) same there in
    let taken = subst (λ (q : List ℕ). StoreTaken [] q (at c.load_indexes.new.files) (Ok held) (at c.take_folder.new.files)) c.as_str.ensures (took.ok.found, took.changed, took.used) in
    record {
      ends = λ o. rw (p.1, p.2) (inr (record { disk = _; dial = _; out = _; gave = ls; did = read o; then = inr (record { disk = _; dial = _; out = _; gave = held; did = (taken, refl, refl); then = (pruned, refl, refl) }) }));
    }

pub returns : goal.returns
returns g c =
    let at = g.F.Files.disk in
    let ls = c.in_ok-listed.listed.items in
    let state = g.D.Dial.state in
    let read = λ (o : Output). subst (λ (qs : List (List ℕ)). IndexesGot 0 qs (world (at c.args.files.now) (state c.args.dial.now) o) (Ok c.in_ok-listed.listed.items) (world (at c.load_indexes.new.files) (state c.load_indexes.new.dial) o)) c.as_slice.ensures (c.in_ok-listed.ensures.ok o) in
    let took = c.in_ok-taken.ensures in
    let held = g.F.Folder.Look.files c.in_ok-taken.taken in
    let told : has_id c.in_ok-keep.keep ≡ is_listed_in c.deref.result.now = (λ i q. (c.in_ok-keep.ensures.ok q) i) in
    let same : has_id c.in_ok-keep.keep ≡ is_listed_in ls = told ∙ ap is_listed_in c.deref.ensures.value in
    let there = subst (λ (q : List ℕ). StorePruned (has_id c.in_ok-keep.keep) q held (at c.take_folder.new.files) (Ok tt) (at c.prune_taken.new.files)) c.as_str-2.ensures c.in_ok-prune_taken.ensures in
    let pruned = subst (λ (k : List ℕ → Bool). StorePruned k c.args.store held (at c.take_folder.new.files) (Ok tt) (at c.prune_taken.new.files)) same there in
    let taken = subst (λ (q : List ℕ). StoreTaken [] q (at c.load_indexes.new.files) (Ok held) (at c.take_folder.new.files)) c.as_str.ensures (took.ok.found, took.changed, took.used) in
    record {
      ends = λ o. record { disk = _; dial = _; out = _; gave = ls; did = read o; then = record { disk = _; dial = _; out = _; gave = held; did = (taken, refl, refl); then = (pruned, refl, refl) } };
    }
