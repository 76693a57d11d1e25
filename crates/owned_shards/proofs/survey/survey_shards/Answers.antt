use Rattle.std.proofs.Common.{◌≡◌, ◌<◌, ℕ, List, All, length, vec_len, IfSome, true, sym, subst, ap, ◌∙◌, arith, rules}
use Rattle.caibx_codec.specs.Listing.{Listing, Rules, count_of, image_length}
use Rattle.dsy_base.specs.Bytes.{Held, held_resized}
use Rattle.dsy_base.specs.Counts.{raised}
use Rattle.dsy_base.specs.Splits.{IsCuts, Left, extents, held_joined}
use Rattle.extract_plan.specs.Deal.{AreShardEnds}
use Rattle.owned_shards.proofs.Begun.{all_base, all_first, base_known, base_size, base_zeros, cuts_all, extents_all, joined_base, missed_told, same_held, shards_rise, some_shards}
use Rattle.owned_shards.proofs.Putting.{right}
use Rattle.owned_shards.proofs.Wholes.{with_map}
use Rattle.range_ledger.specs.Runs.{Seen}
use Rattle.owned_shards.proofs.Dealt.{all_alike}
use Rattle.owned_shards.specs.Shares.{TakesEach}
use Rattle.owned_shards.specs.Wholes.{Begun, IsTold, IsWhole, Whole, base_told, joined_bytes, joined_faults, fates_of, whole_of}
use Rattle.range_survey.specs.Fates.{FirstFates, OpenWrong, SettledRight}
use Rattle.owned_shards.proofs.survey.survey_shards.Goals as goal

pub split-requires : goal.split-requires
split-requires g c =
    let r = g.R.RunName.run in
    let l = c.args.index.now in
    let over = c.requires.over in
    let same : l ≡ r.listing = over.dealt.listing in
    let length_same : image_length l ≡ image_length r.listing = ap image_length same in
    let old : Held = g.T.View.held c.args.target in
    let is = g.met.T.View.told c.args.target in
    let now : Held = g.T.View.held c.set_len.new.self in
    let resized_to : now ≡ held_resized old (image_length l) = c.in-Ok-set_len.ensures.ok ∙ ap (held_resized old) c.length.ensures in
    let known : now.bytes ≡ base_told r = ap (λ (h : Held). h.bytes) resized_to ∙ base_known r old.bytes (image_length l) g.T.View.tells over.tells is over.base in
    let cuts = c.args.plan.now.cuts in
    let are : AreShardEnds r.listing r.shards cuts = subst (λ m. AreShardEnds m r.shards cuts) same (subst (λ k. AreShardEnds l k cuts) over.dealt.shards over.cuts) in
    let some : 0 < count_of r.listing → 0 < r.shards = some_shards r l c.args.plan.now over.dealt over.workers in
    let rules : Rules r.listing = subst Rules same c.rules.ensures in
    subst (λ cs. IsCuts 0 cs now.size) (sym c.cuts.ensures) (subst (IsCuts 0 cuts) (sym length_same ∙ sym (ap (λ (h : Held). h.size) resized_to))
    (cuts_all r cuts are (shards_rise r l c.args.plan.now over.dealt rules) some))

pub survey-shards-requires-clause-parts : goal.survey-shards-requires-clause-parts
survey-shards-requires-clause-parts g c κs within =
    let r = g.R.RunName.run in
    let l = c.args.index.now in
    let over = c.requires.over in
    let same : l ≡ r.listing = over.dealt.listing in
    let length_same : image_length l ≡ image_length r.listing = ap image_length same in
    let old : Held = g.T.View.held c.args.target in
    let is = g.met.T.View.told c.args.target in
    let now : Held = g.T.View.held c.set_len.new.self in
    let resized_to : now ≡ held_resized old (image_length l) = c.in-Ok-set_len.ensures.ok ∙ ap (held_resized old) c.length.ensures in
    let known : now.bytes ≡ base_told r = ap (λ (h : Held). h.bytes) resized_to ∙ base_known r old.bytes (image_length l) g.T.View.tells over.tells is over.base in
    let cuts = c.args.plan.now.cuts in
    let are : AreShardEnds r.listing r.shards cuts = subst (λ m. AreShardEnds m r.shards cuts) same (subst (λ k. AreShardEnds l k cuts) over.dealt.shards over.cuts) in
    c.in-Ok-split.ensures.parts ∙ (ap (λ t. extents t 0 c.cuts.result.now) known ∙ (ap (extents (base_told r) 0) c.cuts.ensures ∙ extents_all r cuts are))

pub survey-shards-requires-clause-zeros : goal.survey-shards-requires-clause-zeros
survey-shards-requires-clause-zeros g c κs within =
    let r = g.R.RunName.run in
    let l = c.args.index.now in
    let over = c.requires.over in
    let same : l ≡ r.listing = over.dealt.listing in
    let length_same : image_length l ≡ image_length r.listing = ap image_length same in
    let old : Held = g.T.View.held c.args.target in
    let is = g.met.T.View.told c.args.target in
    base_zeros r old.bytes (image_length l) c.size-old.result g.T.View.tells over.tells is over.base
    (subst (λ n. IfSome old.bytes (λ t. length t ≡ n)) (sym c.size-old.ensures) (g.met.T.View.sized c.args.target))

pub survey-shards-requires-clause-size : goal.survey-shards-requires-clause-size
survey-shards-requires-clause-size g c κs within =
    let r = g.R.RunName.run in
    let l = c.args.index.now in
    let over = c.requires.over in
    let same : l ≡ r.listing = over.dealt.listing in
    let length_same : image_length l ≡ image_length r.listing = ap image_length same in
    let old : Held = g.T.View.held c.args.target in
    let is = g.met.T.View.told c.args.target in
    λ told. base_size r old.bytes (image_length l) g.T.View.tells over.tells is over.base told ∙ length_same

pub survey-shards-requires-clause-room : goal.survey-shards-requires-clause-room
survey-shards-requires-clause-room g c κs within =
    let r = g.R.RunName.run in
    let l = c.args.index.now in
    let over = c.requires.over in
    let same : l ≡ r.listing = over.dealt.listing in
    let length_same : image_length l ≡ image_length r.listing = ap image_length same in
    let old : Held = g.T.View.held c.args.target in
    let is = g.met.T.View.told c.args.target in
    subst (λ (m : Listing). All (λ b. TakesEach m (vec_len b)) c.zero_digests.new.buffers) same
    (all_alike (λ b. vec_len b) (TakesEach l) c.args.buffers.now c.zero_digests.new.buffers c.zero_digests.ensures.room c.requires.room)

pub new-requires-clause-whole : goal.new-requires-clause-whole
new-requires-clause-whole g c =
    let r = g.R.RunName.run in
    let l = c.args.index.now in
    let over = c.requires.over in
    let same : l ≡ r.listing = over.dealt.listing in
    let length_same : image_length l ≡ image_length r.listing = ap image_length same in
    let old : Held = g.T.View.held c.args.target in
    let is = g.met.T.View.told c.args.target in
    let now : Held = g.T.View.held c.set_len.new.self in
    let resized_to : now ≡ held_resized old (image_length l) = c.in-Ok-set_len.ensures.ok ∙ ap (held_resized old) c.length.ensures in
    let known : now.bytes ≡ base_told r = ap (λ (h : Held). h.bytes) resized_to ∙ base_known r old.bytes (image_length l) g.T.View.tells over.tells is over.base in
    let some : 0 < count_of r.listing → 0 < r.shards = some_shards r l c.args.plan.now over.dealt over.workers in
    let ss : List Seen = c.survey-shards.result.0.items in
    let left : Left = g.T.Target.left c.in-Ok-split.rest in
    let begun = c.survey-shards.ensures.begun in
    let rest = c.in-Ok-split.ensures.rest in
    let whole : IsWhole r g.T.View.tells left ss = record {
      shards = with_map r (Begun r) (IsTold r) (λ s b. b.told) 0 ss begun;
      some = some;
      few = omega (arith, over.dealt.shards, over.dealt.entries);
      size = ap (λ (x : Left). x.size) rest ∙ (ap (λ (h : Held). h.size) resized_to ∙ length_same);
      counted = c.in-Ok-split.ensures.counted;
      tells = over.tells;
    } in
    whole

pub returns-in-Ok-split : goal.returns-in-Ok-split
returns-in-Ok-split g c =
    let r = g.R.RunName.run in
    let l = c.args.index.now in
    let over = c.requires.over in
    let same : l ≡ r.listing = over.dealt.listing in
    let length_same : image_length l ≡ image_length r.listing = ap image_length same in
    let old : Held = g.T.View.held c.args.target in
    let is = g.met.T.View.told c.args.target in
    let now : Held = g.T.View.held c.set_len.new.self in
    let resized_to : now ≡ held_resized old (image_length l) = c.in-Ok-set_len.ensures.ok ∙ ap (held_resized old) c.length.ensures in
    let known : now.bytes ≡ base_told r = ap (λ (h : Held). h.bytes) resized_to ∙ base_known r old.bytes (image_length l) g.T.View.tells over.tells is over.base in
    let some : 0 < count_of r.listing → 0 < r.shards = some_shards r l c.args.plan.now over.dealt over.workers in
    let ss : List Seen = c.survey-shards.result.0.items in
    let left : Left = g.T.Target.left c.in-Ok-split.rest in
    let begun = c.survey-shards.ensures.begun in
    let rest = c.in-Ok-split.ensures.rest in
    let whole : IsWhole r g.T.View.tells left ss = record {
      shards = with_map r (Begun r) (IsTold r) (λ s b. b.told) 0 ss begun;
      some = some;
      few = omega (arith, over.dealt.shards, over.dealt.entries);
      size = ap (λ (x : Left). x.size) rest ∙ (ap (λ (h : Held). h.size) resized_to ∙ length_same);
      counted = c.in-Ok-split.ensures.counted;
      tells = over.tells;
    } in
    let based : r.tells ≡ true → joined_bytes ss ≡ r.base = λ told. all_base r told some ss begun (base_size r old.bytes (image_length l) g.T.View.tells over.tells is over.base told ∙ length_same) in
    let first : left.faults ≡ g.T.View.faults c.args.target = ap (λ (x : Left). x.faults) rest ∙ c.in-Ok-set_len.ensures.faults.done in
    record {
      ok = ap (λ (w : Whole). w.held) c.new.ensures
          ∙ (same_held (held_joined left g.T.View.tells (joined_bytes ss)) now (joined_base r ss g.T.View.tells over.tells based ∙ sym known) (ap (λ (x : Left). x.size) rest) (ap (λ (x : Left). x.name) rest)
          ∙ resized_to);
      first = subst (λ (w : Whole). FirstFates w.fates (count_of l)) (sym c.new.ensures) (all_first r 0 ss begun (count_of l));
      yes = subst (λ (w : Whole). IfSome w.held.bytes (λ t. SettledRight l t w.fates (count_of l))) (sym c.new.ensures)
          (subst (λ (m : Listing). IfSome (whole_of left g.T.View.tells ss).held.bytes (λ t. SettledRight m t (fates_of ss) (count_of m))) (sym same) (right r left g.T.View.tells ss whole));
      no = subst (λ (w : Whole). IfSome w.held.bytes (λ t. OpenWrong l t w.fates (g.T.View.faults c.args.target) w.faults (count_of l))) (sym c.new.ensures)
          (subst (λ (n : ℕ). IfSome (whole_of left g.T.View.tells ss).held.bytes (λ t. OpenWrong l t (fates_of ss) n (raised left.faults (joined_faults ss)) (count_of l))) first
          (subst (λ (m : Listing). IfSome (whole_of left g.T.View.tells ss).held.bytes (λ t. OpenWrong m t (fates_of ss) left.faults (raised left.faults (joined_faults ss)) (count_of m))) (sym same)
          (missed_told r ss g.T.View.tells over.tells based some whole.shards left.faults)));
      faults = search rules;
      before = search rules;
      err = search rules;
      refused = search rules;
      cause = search rules;
      room = search rules;
    }
