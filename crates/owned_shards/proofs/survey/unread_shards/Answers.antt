use Rattle.std.proofs.Common.{◌≡◌, ◌+◌, ◌≤◌, ◌++◌, ◌∷◌, [], ℕ, zero, suc, length, reverse, vec_capacity, vec_len, refl, sym, subst, ap, ◌∙◌, arith, rules}
use Rattle.std.proofs.lemmas.List.{length-map, length_push, nil_from_length, reverse-append}
use Rattle.dsy_base.specs.Splits.{extent}
use Rattle.owned_shards.proofs.Begun.{length_below, popped}
use Rattle.range_ledger.specs.Runs.{Run, Seen, open_in}
use Rattle.owned_shards.specs.Wholes.{ShardsWith, base_extent, extents_below, open_below}
use Rattle.owned_shards.specs.Shares.{IsUnsurveyed}
use Rattle.owned_shards.proofs.survey.unread_shards.Goals as goal

pub loop-part-init : goal.loop-part-init
loop-part-init g c =
    let r = g.R.RunName.run in
    let parts = c.args.parts.items in
    let n : length parts ≡ r.shards = sym (length-map parts (λ p. extent (g.P.View.held p))) ∙ (ap length c.requires.parts ∙ length_below r r.shards) in
    let cap : length parts ≤ vec_capacity c.args.parts = search rules in (
      c.requires.parts ∙ ap (extents_below r) (sym n),
      c.requires.open ∙ ap (open_below r) (sym n),
      subst (λ xs. ShardsWith (IsUnsurveyed r) r (length parts) (reverse xs)) (sym c.requires.none) n,
      omega (arith, ap length c.requires.none, n),
      c.requires.capacity,
      omega (arith, cap, n),
    )

pub pop_fates-open-requires : goal.pop_fates-open-requires
pop_fates-open-requires g c =
    let r = g.R.RunName.run in
    let inv = c.loop-part.invariant in
    let left = c.pop.new.self.items in
    let all = c.loop-part.parts.items in
    let pushed : all ≡ left ++ c.in-Some.part ∷ [] = c.in-Some.ensures.items in
    let long : length all ≡ suc (length left) = let h = length_push left c.in-Some.part in omega (arith, h, ap length pushed) in
    let same : length c.loop-part.fates.items ≡ length all = sym (length-map c.loop-part.fates.items (λ f. f.items)) ∙ (ap length inv.1 ∙ opens r (length all)) in
    let size : length c.loop-part.fates.items ≡ vec_len c.loop-part.fates = search rules in
    omega (arith, same, size, long) where
      opens : (r : Run) (n : ℕ) → length (open_below r n) ≡ n
      opens r zero = refl
      opens r (suc n) = omega (arith, opens r n, length_push (open_below r n) (open_in r n))

pub unread_shard-requires-clause-part : goal.unread_shard-requires-clause-part
unread_shard-requires-clause-part g c =
    let r = g.R.RunName.run in
    let inv = c.loop-part.invariant in
    let left = c.pop.new.self.items in
    let all = c.loop-part.parts.items in
    let pushed : all ≡ left ++ c.in-Some.part ∷ [] = c.in-Some.ensures.items in
    let long : length all ≡ suc (length left) = let h = length_push left c.in-Some.part in omega (arith, h, ap length pushed) in
    let num : c.len-number.result ≡ length left = search rules in
    (popped (λ p. extent (g.P.View.held p)) (extents_below r) (base_extent r) (λ n. refl) left all c.in-Some.part (length left) pushed (inv.0 ∙ ap (extents_below r) long)).1 ∙ ap (base_extent r) (sym num)

pub unread_shard-requires-clause-open : goal.unread_shard-requires-clause-open
unread_shard-requires-clause-open g c =
    let r = g.R.RunName.run in
    let inv = c.loop-part.invariant in
    let left = c.pop.new.self.items in
    let all = c.loop-part.parts.items in
    let pushed : all ≡ left ++ c.in-Some.part ∷ [] = c.in-Some.ensures.items in
    let long : length all ≡ suc (length left) = let h = length_push left c.in-Some.part in omega (arith, h, ap length pushed) in
    let num : c.len-number.result ≡ length left = search rules in
    (popped (λ f. f.items) (open_below r) (open_in r) (λ n. refl) c.pop_fates-open.new.lists.items c.loop-part.fates.items c.pop_fates-open.result (length left) c.pop_fates-open.ensures
    (inv.1 ∙ ap (open_below r) long)).1 ∙ ap (open_in r) (sym num)

pub loop-part-preserved : goal.loop-part-preserved
loop-part-preserved g c =
    let r = g.R.RunName.run in
    let inv = c.loop-part.invariant in
    let left = c.pop.new.self.items in
    let all = c.loop-part.parts.items in
    let pushed : all ≡ left ++ c.in-Some.part ∷ [] = c.in-Some.ensures.items in
    let long : length all ≡ suc (length left) = let h = length_push left c.in-Some.part in omega (arith, h, ap length pushed) in
    let num : c.len-number.result ≡ length left = search rules in
    let shard : Seen = c.unread_shard.result in
    let turned : reverse c.put_back.new.values.items ≡ shard ∷ reverse c.loop-part.unread.items =
    ap reverse c.put_back.ensures.items ∙ reverse-append c.loop-part.unread.items (shard ∷ []) in
    let next : length all ≡ length left + 1 = omega (arith, long) in (
      (popped (λ p. extent (g.P.View.held p)) (extents_below r) (base_extent r) (λ n. refl) left all c.in-Some.part (length left) pushed (inv.0 ∙ ap (extents_below r) long)).0,
      (popped (λ f. f.items) (open_below r) (open_in r) (λ n. refl) c.pop_fates-open.new.lists.items c.loop-part.fates.items c.pop_fates-open.result (length left) c.pop_fates-open.ensures
          (inv.1 ∙ ap (open_below r) long)).0,
      subst (λ xs. ShardsWith (IsUnsurveyed r) r (length left) xs) (sym turned)
          (c.unread_shard.ensures.number ∙ num, (c.unread_shard.ensures.unread, subst (λ k. ShardsWith (IsUnsurveyed r) r k (reverse c.loop-part.unread.items)) next inv.2)),
      omega (arith, ap length c.put_back.ensures.items, length_push c.loop-part.unread.items shard, inv.3, next),
      omega (arith, c.put_back.ensures.kept, inv.4),
      omega (arith, c.in-Some.ensures.capacity, inv.5),
    )

pub returns-clause-none : goal.returns-clause-none
returns-clause-none g c = let none : length c.pop.new.self.items ≡ 0 = search rules in nil_from_length c.pop.new.self.items none

pub returns-clause-unread : goal.returns-clause-unread
returns-clause-unread g c =
    let r = g.R.RunName.run in
    let none : length c.loop-part.parts.items ≡ 0 = search rules in
    subst (λ k. ShardsWith (IsUnsurveyed r) r k (reverse c.loop-part.unread.items)) none c.loop-part.invariant.2
