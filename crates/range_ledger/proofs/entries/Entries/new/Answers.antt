use Rattle.std.proofs.Common.{◌≡◌, ◌+◌, ◌-◌, ◌<◌, ℕ, List, length, sym, subst, ap, ◌∙◌, false, arith}
use Rattle.caibx_codec.specs.Listing.{Rules, count_of}
use Rattle.extract_plan.specs.Deal.{deal_shards, shard_start}
use Rattle.range_ledger.proofs.Dealt.{fresh_dealt, none_settled, valid_shard}
use Rattle.range_ledger.specs.Runs.{IsDealtShard, first_in, has_settled}
use Rattle.range_survey.specs.declared.fate.Fate.{Fate}
use Rattle.range_ledger.proofs.entries.Entries.new.Goals as goal

pub invariant_of-result : goal.invariant_of-result
invariant_of-result g c =
    let r = g.R.RunName.run in
    let rules : Rules r.listing = subst Rules c.requires.dealt.listing c.rules.ensures in
    let lt : c.args.number < r.shards = omega (arith, c.requires.inside, c.requires.dealt.shards) in
    let start : (k : ℕ) → shard_start (length c.args.plan.now.want_of) (deal_shards c.args.plan.now) k ≡ first_in r k = λ k.
    ap (λ n. shard_start n (deal_shards c.args.plan.now) k) c.requires.dealt.entries ∙ ap (λ n. shard_start (count_of r.listing) n k) c.requires.dealt.shards in
    let count : first_in r c.args.number + (first_in r (c.args.number + 1) - first_in r c.args.number) ≡ first_in r (c.args.number + 1) =
    omega (arith, (valid_shard r c.args.number rules lt).some) in (
      c.requires.dealt.listing,
      c.first_of-first.ensures.value ∙ start c.args.number,
      subst (λ (xs : List Fate). IsDealtShard r (record { number = c.args.number; fates = xs; faults = g.P.View.faults c.args.part; held = g.P.View.held c.args.part }))
          (sym c.requires.open)
          (fresh_dealt r c.args.number (first_in r (c.args.number + 1) - first_in r c.args.number) (g.P.View.faults c.args.part) (g.P.View.held c.args.part) rules lt count c.requires.size),
    )

pub returns-clause-none : goal.returns-clause-none
returns-clause-none g c e =
    let r = g.R.RunName.run in
    subst (λ (xs : List Fate). has_settled r (record { number = c.args.number; fates = xs; faults = g.P.View.faults c.args.part; held = g.P.View.held c.args.part }) e ≡ false)
    (sym c.requires.open)
    (none_settled r c.args.number (first_in r (c.args.number + 1) - first_in r c.args.number) (g.P.View.faults c.args.part) (g.P.View.held c.args.part) e)

pub returns-clause-inside : goal.returns-clause-inside
returns-clause-inside g c e has =
    let r = g.R.RunName.run in
    let rules : Rules r.listing = subst Rules c.requires.dealt.listing c.rules.ensures in
    let lt : c.args.number < r.shards = omega (arith, c.requires.inside, c.requires.dealt.shards) in
    omega (arith, has.to, (valid_shard r c.args.number rules lt).within)
