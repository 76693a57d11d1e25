use Rattle.std.proofs.Common.{◌≡◌, [], map, rules}
use Rattle.store_check.proofs.Looks.{hired}
use Rattle.store_check.proofs.hiring.hire.Goals as goal

pub returns-clause-kept : goal.returns-clause-kept
returns-clause-kept g c =
    let none : c.loop-store.looks.items ≡ [] = search rules in
    hired c.args.looks.now.items (map (λ r. r.store) c.loop-store.readers.items) c.loop-store.looks.items none c.loop-store.invariant.looks
