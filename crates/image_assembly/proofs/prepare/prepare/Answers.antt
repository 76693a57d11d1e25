use Rattle.std.proofs.Common.{◌≡◌, ◌∙◌, ◌<◌, ◌≤◌, ℕ, All, IfSome, List, is_some, length, map, slice_index_or, sym, ap, subst, arith}
use Rattle.std.proofs.lemmas.List.{get_or-map, length-map, with_items_is}
use Rattle.std.specs.Vec.{with_items}
use Rattle.caibx_codec.specs.Listing.{Listing, count_of, image_length, kind_of}
use Rattle.dsy_base.specs.Bytes.{Held, resized}
use Rattle.extract_plan.specs.Deal.{IsPlan, shards_of}
use Rattle.extract_plan.specs.Places.{PlacesKnown}
use Rattle.image_assembly.proofs.Lending.{all_same}
use Rattle.image_assembly.proofs.OnePlan.{places_on}
use Rattle.image_assembly.proofs.Readying.{if_map, resized_tells, right_in}
use Rattle.image_assembly.specs.Readied.{AreRoomsFor, IsRoomOf}
use Rattle.range_survey.specs.Fates.{FirstFates}
use Rattle.image_assembly.proofs.prepare.prepare.Given.{Over}
use Rattle.image_assembly.proofs.prepare.prepare.Goals.{In-Ok-survey_shards}
use Rattle.image_assembly.proofs.prepare.prepare.Goals as goal

-- each buffer has room for each entry
pub survey_shards-requires-clause-room : goal.survey_shards-requires-clause-room
survey_shards-requires-clause-room g c = λ κs within k d less i inside.
    let xs = c.deref_mut.result.now in
    let has = subst (λ bs. All (λ b. IsRoomOf c.args.index.now (length b.items)) bs) (sym c.deref_mut.ensures.value) c.in-Ok.ensures.room in
    let b = slice_index_or xs k d in
    omega (arith, (has k d less).enough i inside, b.ok.0)

pub returns-in-Err-clause-cause : goal.returns-in-Err-clause-cause
returns-in-Err-clause-cause g c = λ so. c.in-Err.ensures.cause (c.refusal.ensures.cause so)

-- what holds for the sizes of some holds for others that have these sizes
by_size : {B : Type 0} (xs ys : List B) (f h : B → ℕ) → ((b : B) → f b ≡ h b) → (P : ℕ → Type 0) → map f ys ≡ map f xs → All (λ b. P (h b)) xs → All (λ b. P (h b)) ys
by_size xs ys f h is P same has k d less =
    let long : length ys ≡ length xs = sym (length-map ys f) ∙ ap length same ∙ length-map xs f in
    let x = slice_index_or xs k d in
    let y = slice_index_or ys k d in
    let inside : k < length xs = omega (arith, less, long) in
    let at : f y ≡ f x = sym (get_or-map f ys k d (f d) less) ∙ ap (λ zs. slice_index_or zs k (f d)) same ∙ get_or-map f xs k d (f d) inside in
    subst P (sym (is x) ∙ sym at ∙ is y) (has k d inside)

-- each buffer has room still
buffers_so : (g : Over) (c : In-Ok-survey_shards g) → All (λ b. IsRoomOf c.args.index.now (length b.items)) (with_items c.in-Ok.room.buffers c.survey_shards.new.buffers).items
buffers_so g c =
    let l = c.args.index.now in
    let xs = c.deref_mut.result.now in
    let ys = c.survey_shards.new.buffers in
    let long : length ys ≡ length xs = sym (length-map ys (λ b. b.len)) ∙ ap length c.survey_shards.ensures.room ∙ length-map xs (λ b. b.len) in
    let same = with_items_is c.in-Ok.room.buffers ys (omega (arith, long, c.deref_mut.ensures.len)) in
    let has = subst (λ bs. All (λ b. IsRoomOf l (length b.items)) bs) (sym c.deref_mut.ensures.value) c.in-Ok.ensures.room in
    subst (λ bs. All (λ b. IsRoomOf l (length b.items)) bs) (sym same) (by_size xs ys (λ b. b.len) (λ b. length b.items) (λ b. b.ok.0) (IsRoomOf l) c.survey_shards.ensures.room has)

pub returns-clause-room : goal.returns-clause-room
returns-clause-room g c = c.equipped-kits.ensures.room c.args.index.now (buffers_so g (goal.at.returns-clause-room g c).In-Ok-survey_shards)

pub invariant_of-result : goal.invariant_of-result
invariant_of-result g c =
    let here = (goal.at.invariant_of-result g c).In-Ok-survey_shards in
    let l = c.args.index.now in
    let x = c.args.places.now in
    let d = c.in-Ok.room.plan in
    let kits = c.args.kits.items in
    let ms = c.equipped-kits.result.items in
    let e = c.equipped-kits.ensures in
    let n = length ms in
    let many : n ≡ length kits = e.size in
    let r = g.R.RunName.run in
    let over = c.requires.over in
    let plan : IsPlan l n d = subst (λ (k : ℕ). IsPlan l k d) (c.len.ensures ∙ c.args.kits.ok.0 ∙ sym many) c.in-Ok.ensures.plan in
    let s = c.in-Ok-survey_shards.shards in
    let does = c.in-Ok-survey_shards.ensures in
    let old = g.T.View.held c.args.target in
    let based : IfSome s.held.bytes (λ t. r.base ≡ t) = subst (λ (h : Held). IfSome h.bytes (λ t. r.base ≡ t)) (sym does.ok)
    (if_map (λ t. resized t (image_length l)) old.bytes (λ t. r.base ≡ t) over.base) in
    let shown : is_some s.held.bytes ≡ g.T.View.tells = resized_tells old s.held (image_length l) does.ok ∙ g.met.T.View.told c.args.target in
    let tells : is_some s.held.bytes ≡ r.tells = shown ∙ sym over.tells in (
      record {
        listing = sym over.listing;
        one = λ alone. c.requires.one (c.args.kits.ok.0 ∙ sym many ∙ alone);
        shards = over.shards ∙ ap (λ (k : ℕ). shards_of k (count_of l)) (c.args.kits.ok.0 ∙ sym many) ∙ ap (λ (m : Listing). shards_of n (count_of m)) (sym over.listing);
        base = based;
        tells = sym over.tells;
        shown = shown;
        rises = omega (arith, does.before, does.faults);
        first = record {
          size = c.rules.ensures.counted;
          first = subst (λ (m : Listing). FirstFates s.fates (count_of m)) (sym over.listing) does.first;
          right = right_in r.listing r.base s.fates (count_of r.listing) s.held.bytes r.tells tells based (c.rules.ensures.right);
        };
        some = omega (arith, c.requires.size, c.args.kits.ok.0, many);
        plan = plan;
        fresh = c.in-Ok.ensures.fresh;
        places = all_same ms kits e.chain e.seeds (λ ch s. PlacesKnown l d x (length s))
            (λ k q less. places_on l 1 n c.requires.places.0 d c.requires.places.1 plan x _ (c.requires.places.2 k q less));
        kind = all_same ms kits e.chain e.seeds (λ ch s. ch.kind ≡ kind_of l) c.requires.kind;
        room = e.room l (buffers_so g here);
      },
      λ none. many ∙ sym c.args.kits.ok.0 ∙ sym c.len.ensures ∙ c.in-Ok.ensures.one none,
      subst (λ (k : ℕ). IfSome c.in-Ok.room.rooms (λ y. (2 ≤ k) × AreRoomsFor r k y.locks y.lanes y.known)) (c.len.ensures ∙ c.args.kits.ok.0 ∙ sym many) c.in-Ok.ensures.many,
    )
