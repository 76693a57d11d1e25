use Rattle.std.proofs.Common.{◌≡◌, [], All, arith, map, refl, rules, subst, sym}
use Rattle.std.proofs.lemmas.List.Elements.{All-push}
use Rattle.cache_fill.proofs.Progress.{hired, hired_more, numbered_push}
use Rattle.cache_fill.specs.FillProgress.{RiseByOne, IsHired}
use Rattle.cache_fill.proofs.hiring.hire.Goals as goal

pub returns-clause-kept : goal.returns-clause-kept
returns-clause-kept g c =
    let none : c.loop-chain.chains.items ≡ [] = search rules in
    hired c.args.chains.now.items (map (λ r. r.chain) c.loop-chain.readers.items) c.loop-chain.chains.items none c.loop-chain.invariant.chains

pub loop-chain-preserved : goal.loop-chain-preserved
loop-chain-preserved g c =
    let l = c.args.index.now in
    let owners = c.args.owners.now in
    let inv = c.loop-chain.invariant in
    let rs = c.loop-chain.readers.items in
    let pushed = c.in-Ok.ensures.items in
    record {
      chains = hired_more (λ r. r.chain) c.loop-chain.chains.items c.pop.new.self.items _ rs c.push.new.self.items _ c.in-Some.ensures.items pushed inv.chains;
      hired = subst (All (IsHired l owners)) (sym pushed) (All-push (IsHired l owners) rs _ inv.hired (record { index = refl; owners_are = refl; next = refl; lost = refl }));
      numbered = subst (RiseByOne 1) (sym pushed) (numbered_push 1 rs _ inv.numbered (omega (arith, c.len-number.ensures)));
      count = search rules;
      room = search rules;
      back = search rules;
    }
