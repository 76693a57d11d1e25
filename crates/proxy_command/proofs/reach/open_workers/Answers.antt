use Rattle.std.proofs.Common.{◌≡◌, ◌∙◌, ◌++◌, [], ◌∷◌, ◌+◌, All, List, ap, arith, inr, length, refl, subst, sym}
use Rattle.std.proofs.lemmas.List.{length-append}
use Rattle.command_groups.proofs.LentChains.{chain_over, chains_over}
use Rattle.command_groups.specs.Chains.{IsChainOpened, chain_groups}
use Rattle.command_groups.specs.Groups.{stores_of}
use Rattle.command_steps.proofs.Consulted.{reads_none, reads_twice}
use Rattle.command_steps.proofs.Used.{all_more, uses_twice}
use Rattle.command_steps.specs.Uses.{Uses, folders_among}
use Rattle.command_words.specs.declared.command.Location.{Location}
use Rattle.proxy_command.specs.Reaching.{AreWorkers}
use Rattle.proxy_command.proofs.reach.open_workers.Goals as goal

pub returns-in-Ok-push-clause-ok : goal.returns-in-Ok-push-clause-ok
returns-in-Ok-push-clause-ok g c =
    let look = g.F.Look.Look in
    let state = g.D.Dial.state in
    let at = g.F.Files.disk in
    let d = at c.args.files.now in
    let b = at c.open_chain.new.files in
    let e = at c.open_chains-chains.new.files in
    let words = c.args.words.now in
    let old = c.open_chains-chains.result.items in
    let new = c.push.new.self.items in
    let first = c.in-Ok.first in
    let is : new ≡ old ++ first ∷ [] = c.in-Ok-push.ensures.items in
    let many : length (old ++ first ∷ []) ≡ length old + 1 = length-append old (first ∷ []) in
    let size : length new ≡ length (old ++ first ∷ []) = ap length is in
    let groups = c.as_slice-groups.result.now in
    subst (λ (l : List (List Location)). AreWorkers look state d e l words.retries words.kind words.workers new) c.as_slice-groups.ensures (record {
      opened = all_more (IsChainOpened look state d e groups words.retries) old new first is
          (chains_over look state d b e e c.in-Ok.ensures.kept (reads_none e) groups words.retries old c.open_chains-chains.ensures.opened)
          (chain_over look state d d b e (reads_none d) c.open_chains-chains.ensures.kept groups words.retries first c.in-Ok.ensures.ok);
      kinds = all_more (λ x. x.kind ≡ words.kind) old new first is c.open_chains-chains.ensures.kinds c.in-Ok.ensures.kind;
      some = omega (arith, many, size);
      few = omega (arith, many, size, c.open_chains-chains.ensures.few);
    })

pub returns-in-Err-push-clause-err : goal.returns-in-Err-push-clause-err
returns-in-Err-push-clause-err g c =
    let look = g.F.Look.Look in
    let at = g.F.Files.disk in
    let d = at c.args.files.now in
    let b = at c.open_chain.new.files in
    let e = at c.open_chains-chains.new.files in
    let m = at c.drop_chains.new.files in
    let n = at c.drop_chain.new.files in
    let groups = c.as_slice-groups.result.now in
    let names = folders_among (stores_of groups) in
    let opened = c.in-Ok.ensures in
    let further = c.open_chains-chains.ensures in
    let at_names = subst (λ l. All (λ x. chain_groups look x ≡ groups) l) (sym c.in-Err-push.ensures.items) (λ k x lt. (further.opened k x lt).located) in
    let let_go = c.drop_chains.ensures.used groups at_names in
    let last = subst (λ (l : List (List Location)). Uses [] (folders_among (stores_of l)) m n) (ap (chain_groups look) c.in-Err-push.ensures.value_returned ∙ opened.ok.located) c.drop_chain.ensures.used in
    let before = reads_twice d b e opened.kept further.kept in
    let behind = reads_twice e m n c.drop_chains.ensures.kept c.drop_chain.ensures.kept in
    rw (← c.as_slice-groups.ensures)
    (inr refl, reads_twice d e n before behind, uses_twice [] names d e n (uses_twice [] names d b e opened.used further.used) (uses_twice [] names e m n let_go last))
