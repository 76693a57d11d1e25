use Rattle.std.proofs.Common.{arith, ◌≡◌, ℕ, List, None, subst, ◌∙◌}
use Rattle.std.specs.Option.{option_map}
use Rattle.dsy_base.specs.Maps.{at_name}
use Rattle.verify_tool.proofs.Pruned.{removed_more}
use Rattle.verify_tool.proofs.prune.remove_files.Goals as goal

pub loop-name-preserved : goal.loop-name-preserved
loop-name-preserved g c =
    let F = g.F.Look in
    let gone = subst (λ (n : List ℕ). F.files c.remove_file.new.store ≡ option_map (λ m. at_name m n None) (F.files c.loop-name.store)) c.as_str.ensures c.in-Ok.ensures.ok in
    record {
      gone = removed_more c.args.names.now c.loop-name.name-index c.name-item.result (F.files c.args.store.now) (F.files c.loop-name.store) (F.files c.remove_file.new.store) (omega (arith, c.loop-name-test.true)) c.name-item.is c.loop-name.invariant.gone gone;
      place = c.remove_file.ensures.place ∙ c.loop-name.invariant.place;
      faults = c.in-Ok.ensures.faults.done ∙ c.loop-name.invariant.faults;
    }
