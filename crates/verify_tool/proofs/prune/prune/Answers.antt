use Rattle.std.proofs.Common.{◌≡◌, List, ℕ, Option, ap, length, subst, sym, inr, rules, ◌∙◌}
use Rattle.std.specs.Option.{option_map}
use Rattle.dir_store.proofs.Lists.{kept_where}
use Rattle.dsy_base.specs.Maps.{Map}
use Rattle.verify_tool.proofs.Pruned.{all_named, counted_all, pruned_all, rest_pruned, rest_stopped}
use Rattle.verify_tool.specs.Pruning.{KeepsRest, RemovesFront, has_id, is_victim, without}
use Rattle.verify_tool.proofs.prune.prune.Goals as goal

pub remove_files-requires : goal.remove_files-requires
remove_files-requires g c = record { named = all_named (has_id c.args.keep.now) c.in_ok-names.names.items c.deref.result.now (c.deref.ensures.value ∙ c.leave_victims.ensures.value) }

pub returns-in-Ok-clause-ok : goal.returns-in-Ok-clause-ok
returns-in-Ok-clause-ok g c =
    let F = g.F.Look in
    let keep = has_id c.args.keep.now in
    let names = c.deref.result.now in
    let old = F.files c.args.store.now in
    let victims = kept_where (is_victim keep) old c.in_ok-names.names.items names c.in_ok-names.ensures.found (c.deref.ensures.value ∙ c.leave_victims.ensures.value) in
    c.in-Ok.ensures.ok ∙ ap (option_map (without names)) c.in_ok-names.ensures.kept ∙ pruned_all keep names old victims

pub returns-in-Ok-clause-value : goal.returns-in-Ok-clause-value
returns-in-Ok-clause-value g c =
    let F = g.F.Look in
    let keep = has_id c.args.keep.now in
    let names = c.leave_victims.new.names.items in
    let old = F.files c.args.store.now in
    let victims = kept_where (is_victim keep) old c.in_ok-names.names.items names c.in_ok-names.ensures.found c.leave_victims.ensures.value in
    let count : c.len.result ≡ length names = search rules in
    counted_all keep names c.len.result old count victims

pub returns-in-Ok-clause-kept : goal.returns-in-Ok-clause-kept
returns-in-Ok-clause-kept g c =
    let F = g.F.Look in
    let keep = has_id c.args.keep.now in
    let old = F.files c.args.store.now in
    subst (λ (x : Option (Map (List ℕ))). KeepsRest keep old x) (sym (returns-in-Ok-clause-ok g c)) (rest_pruned keep old)

pub returns-clause-err : goal.returns-clause-err
returns-clause-err g c =
    let F = g.F.Look in
    let keep = has_id c.args.keep.now in
    let names = c.deref.result.now in
    let old = F.files c.args.store.now in
    let victims = kept_where (is_victim keep) old c.in_ok-names.names.items names c.in_ok-names.ensures.found (c.deref.ensures.value ∙ c.leave_victims.ensures.value) in
    let front : RemovesFront names old (F.files c.remove_files.new.store) = subst (λ (x : Option (Map (List ℕ))). RemovesFront names x (F.files c.remove_files.new.store)) c.in_ok-names.ensures.kept c.in-Err.ensures.err in
    inr (names, victims, front)

pub returns-clause-kept : goal.returns-clause-kept
returns-clause-kept g c =
    let F = g.F.Look in
    let keep = has_id c.args.keep.now in
    rest_stopped keep (F.files c.args.store.now) (F.files c.remove_files.new.store) (returns-clause-err g c)
