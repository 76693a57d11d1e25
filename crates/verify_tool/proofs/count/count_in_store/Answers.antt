use Rattle.std.proofs.Common.{◌≡◌, ◌≤◌, ◌<◌, ◌+◌, cond, Bool, true, false, List, ℕ, [], length, get_or, arith, refl, sym, subst, ap, ◌∙◌, inl, inr}
use Rattle.std.proofs.lemmas.List.{length-map, get_or-map}
use Rattle.std.specs.BTreeSet.{contains}
use Rattle.std.specs.Cmp.Lexicographic.{slice_cmp}
use Rattle.std.specs.Ordering.{nat_cmp}
use Rattle.caibx_codec.proofs.Asks.{has_listed}
use Rattle.caibx_codec.specs.Asks.{IsListedHas}
use Rattle.caibx_codec.specs.Listing.{Listing, id_of, count_of}
use Rattle.chunk_store.specs.Asks.{Has}
use Rattle.store_chain.proofs.Kept.{kept_still, kept_on, kept_weaker}
use Rattle.verify_tool.proofs.Asked.{asks_later, denies_first, denies_next, each_one_more, is_first, is_known, reaches_first, reaches_next}
use Rattle.verify_tool.proofs.Counted.{turn_at_most, turn_holds, turn_passes, few_counted}
use Rattle.store_chain.specs.Refusals.{HasFails}
use Rattle.verify_tool.specs.Counts.{is_listed_before}
use Rattle.verify_tool.specs.Texts.{ids_of}
use Rattle.verify_tool.proofs.count.count_in_store.Goals as goal

at_most_one : (b : Bool) → cond b 1 0 ≤ 1
at_most_one true = omega arith
at_most_one false = omega arith

all_ids : (l : Listing) → length (ids_of l) ≡ count_of l
all_ids l = length-map _ _

named : (l : Listing) (i : ℕ) (id : List ℕ) → i < count_of l → id ≡ id_of l i → id ≡ get_or (ids_of l) i []
named l i id lt is = is ∙ sym (get_or-map _ l.entries i (0, []) [] lt)

pub loop-i-init : goal.loop-i-init
loop-i-init g c =
    let S = g.S.Store in
    let stores = c.args.chain.now.stores in
    record {
      asked = λ q. ap (λ ks. contains (slice_cmp nat_cmp) (record { keys = ks }) q) c.new-asked.ensures.empty;
      value = λ maps told. refl;
      size = omega arith;
      reaches = reaches_first S.holds S.said S.queried S.faults c.args.index.now stores;
      denies = denies_first S.said c.args.index.now stores;
      kept = kept_still S (IsListedHas c.args.index.now) stores;
      asks = record { stores = refl; calls = refl; kind = refl };
    }

pub returns-in-Err-clause-first : goal.returns-in-Err-clause-first
returns-in-Err-clause-first g c =
    let S = g.S.Store in
    let i = c.loop-i.i in
    record {
      entry = i;
      listed = omega (arith, c.count-i-end.ensures);
      before = c.loop-i.chain.stores;
      reaches = c.loop-i.invariant.reaches;
      ends = inr (refl, refl);
      asked = asks_later S.queried c.args.index.now i (i + 1) (omega arith) c.args.chain.now.stores c.loop-i.chain.stores c.loop-i.invariant.reaches.asked;
    }

pub returns-in-Err-clause-queries : goal.returns-in-Err-clause-queries
returns-in-Err-clause-queries g c =
    asks_later g.S.Store.queried c.args.index.now c.loop-i.i _ (omega (arith, c.count-i-end.ensures)) c.args.chain.now.stores c.loop-i.chain.stores c.loop-i.invariant.reaches.asked

pub returns-in-Err-count_one-clause-first : goal.returns-in-Err-count_one-clause-first
returns-in-Err-count_one-clause-first g c =
    let S = g.S.Store in
    let l : Listing = c.args.index.now in
    let i = c.loop-i.i in
    let id = c.id-id.result.0 in
    let lt : i < count_of l = omega (arith, c.count-i-end.ensures) in
    let new_id : is_listed_before l i id ≡ false = is_first l i id _ c.in-Ok.is_new (c.loop-i.invariant.asked id) c.in-Ok.ensures.added c.in-Err-count_one.ensures.only in
    let P : List ℕ → Type 0 = λ x. (is_listed_before l i x ≡ false) × HasFails S.said S.faults x c.loop-i.chain.stores c.count_one.new.chain.stores c.in-Err-count_one.fault in
    record {
      entry = i;
      listed = lt;
      before = c.loop-i.chain.stores;
      reaches = c.loop-i.invariant.reaches;
      ends = inl (subst P c.id-id.ensures (new_id, c.in-Err-count_one.ensures.first));
      asked = each_one_more l i id (omega (arith, lt, all_ids l)) (named l i id lt c.id-id.ensures) new_id S.queried c.args.chain.now.stores c.loop-i.chain.stores c.count_one.new.chain.stores c.loop-i.invariant.reaches.asked c.in-Err-count_one.ensures.queries;
    }

pub returns-in-Err-count_one-clause-kept : goal.returns-in-Err-count_one-clause-kept
returns-in-Err-count_one-clause-kept g c =
    let S = g.S.Store in
    kept_on S (IsListedHas c.args.index.now) c.args.chain.now.stores c.loop-i.chain.stores c.count_one.new.chain.stores c.loop-i.invariant.kept
    (kept_weaker S (λ a. a ≡ Has c.id-id.result.0) (IsListedHas c.args.index.now) (has_listed c.args.index.now c.loop-i.i (omega (arith, c.count-i-end.ensures)) c.id-id.result.0 c.id-id.ensures) c.loop-i.chain.stores c.count_one.new.chain.stores c.count_one.ensures.kept)

pub returns-in-Err-count_one-clause-queries : goal.returns-in-Err-count_one-clause-queries
unfolding returns-in-Err-count_one-clause-first
returns-in-Err-count_one-clause-queries g c =
    let fails = returns-in-Err-count_one-clause-first g c in
    asks_later g.S.Store.queried c.args.index.now (c.loop-i.i + 1) _ (omega (arith, c.count-i-end.ensures)) c.args.chain.now.stores c.count_one.new.chain.stores fails.asked

pub overflow_add-n : goal.overflow_add-n
overflow_add-n g c =
    let few : c.loop-i.n ≤ c.loop-i.i = few_counted (ids_of c.args.index.now) c.loop-i.i c.loop-i.n c.loop-i.invariant.size in
    omega (arith, few, c.in-Ok-count_one.ensures.size, at_most_one c.in-Ok.is_new)

pub loop-i-preserved : goal.loop-i-preserved
loop-i-preserved g c =
    let S = g.S.Store in
    let l : Listing = c.args.index.now in
    let ids : List (List ℕ) = ids_of l in
    let i = c.loop-i.i in
    let id = c.id-id.result.0 in
    let old = c.args.chain.now.stores in
    let mid = c.loop-i.chain.stores in
    let new = c.count_one.new.chain.stores in
    let before = c.loop-i.invariant in
    let one = c.in-Ok-count_one.ensures in
    let lt : i < count_of l = omega (arith, c.count-i-end.ensures) in
    let inside : i < length ids = omega (arith, lt, all_ids l) in
    let is : id ≡ get_or ids i [] = named l i id lt c.id-id.ensures in
    record {
      asked = λ q. turn_holds ids i id inside is q _ _ (before.asked q) (c.in-Ok.ensures.updates.0 q);
      value = λ maps told. turn_passes ids i id inside is _ c.in-Ok.is_new (before.asked id) c.in-Ok.ensures.added _ c.loop-i.n c.in-Ok-count_one.more (before.value maps told) (one.value maps (before.kept.held ∙ told));
      size = turn_at_most ids i id inside is _ c.in-Ok.is_new (before.asked id) c.in-Ok.ensures.added c.loop-i.n c.in-Ok-count_one.more before.size one.size;
      reaches = reaches_next S.holds S.said S.queried S.faults l old mid new i id inside is before.reaches _ c.in-Ok.is_new (before.asked id) c.in-Ok.ensures.added before.kept.held one.kept.says
          one.ok (λ h. ap (λ x. x.stores) (one.unasked h)) one.queries one.kept.never_fall;
      denies = denies_next S.said l mid new one.kept.says i id inside is c.loop-i.n before.denies c.in-Ok.is_new c.in-Ok-count_one.more (is_known l i id _ c.in-Ok.is_new (before.asked id) c.in-Ok.ensures.added) one.size one.absent;
      kept = kept_on S (IsListedHas l) old mid new before.kept (kept_weaker S (λ a. a ≡ Has id) (IsListedHas l) (has_listed l i lt id c.id-id.ensures) mid new one.kept);
      asks = record { stores = one.asks.stores ∙ before.asks.stores; calls = one.asks.calls ∙ before.asks.calls; kind = one.asks.kind ∙ before.asks.kind };
    }
