use Rattle.std.proofs.Common.{◌≡◌, ◌-◌, sym, ap, ◌∙◌, arith}
use Rattle.caibx_codec.specs.Listing.{count_of, end_of, start_of}
use Rattle.range_ledger.proofs.Dealt.{has_entries}
use Rattle.range_ledger.proofs.unread.shard_size.Goals as goal

pub end-requires : goal.end-requires
end-requires g c =
    let has = has_entries c.args.index.now c.args.plan.now c.args.number c.rules.ensures (c.requires.dealt.entries ∙ ap count_of (sym c.requires.dealt.listing)) c.requires.inside in
    omega (arith, c.first_of-past.ensures.value, has.some, has.within)

pub overflow_sub-result : goal.overflow_sub-result
overflow_sub-result g c =
    let has = has_entries c.args.index.now c.args.plan.now c.args.number c.rules.ensures (c.requires.dealt.entries ∙ ap count_of (sym c.requires.dealt.listing)) c.requires.inside in
    let first : c.entry.result.start ≡ start_of c.args.index.now c.first_of-first.result = c.entry.ensures.start in
    let from = ap (start_of c.args.index.now) c.first_of-first.ensures.value in
    let past = ap (λ n. end_of c.args.index.now (n - 1)) c.first_of-past.ensures.value in
    omega (arith, first, from, past, has.rises, c.end.ensures)
