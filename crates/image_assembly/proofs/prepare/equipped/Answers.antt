use Rattle.std.proofs.Common.{◌≡◌, ◌∙◌, ◌++◌, ◌∷◌, ◌<◌, ◌≤◌, ℕ, [], List, length, map, slice_index_or, slice_set, refl, inl, inr, sym, ap, subst, arith, rules}
use Rattle.std.proofs.lemmas.List.{get_or-set_other, get_or-set_same, length-append, length-set, map-set, set-get_or}
use Rattle.std.proofs.lemmas.Bool.{cases_eq}
use Rattle.chunk_sources.specs.declared.kit.Kit.{Kit}
use Rattle.image_assembly.proofs.Lending.{at_map}
use Rattle.image_workers.proofs.Moving.{all_before, last_so}
use Rattle.image_assembly.specs.Readied.{IsRoomOf}
use Rattle.image_assembly.proofs.prepare.equipped.Goals as goal

-- another value that gives the same was put in a value's place
kept_set : {A B : Type 0} (h : A → B) (xs : List A) (k : ℕ) (y d : A) → d ≡ slice_index_or xs k d → h y ≡ h d → map h (slice_set xs k y) ≡ map h xs
kept_set h xs k y d is same = map-set h xs k y ∙ ap (λ z. slice_set (map h xs) k z) (same ∙ ap h is ∙ at_map h xs k d) ∙ set-get_or (map h xs) k (h d)

pub loop-k-preserved : goal.loop-k-preserved
loop-k-preserved g c =
    let kits = c.loop-k.kits.items in
    let k = c.loop-k.k in
    let i = c.loop-k.invariant in
    let old : Kit g.row.S.Denot g.row.V.Denot = c.index_mut.result.now in
    let buffer = c.in-Some.buffer in
    let new : Kit g.row.S.Denot g.row.V.Denot = record { chain = old.chain; seeds = old.seeds; buffer = buffer } in
    let popped : c.loop-k.buffers.items ≡ c.pop.new.self.items ++ buffer ∷ [] = c.in-Some.ensures.items in
    let less : k < length kits = search rules in
    record {
      size = length-set kits k new ∙ i.size;
      left = omega (arith, i.left, ap length popped, length-append c.pop.new.self.items (buffer ∷ []));
      chain = kept_set (λ (q : Kit g.row.S.Denot g.row.V.Denot). q.chain) kits k new old c.index_mut.ensures.value refl ∙ i.chain;
      seeds = kept_set (λ (q : Kit g.row.S.Denot g.row.V.Denot). q.seeds) kits k new old c.index_mut.ensures.value refl ∙ i.seeds;
      room = λ l all.
          let has = i.room l all in (
            all_before (λ b. IsRoomOf l (length b.items)) c.loop-k.buffers.items c.pop.new.self.items buffer popped has.0,
            λ j q below. elim (cases_eq j k) [
              | inl is ↦ subst (λ (m : ℕ). IsRoomOf l (length (slice_index_or (slice_set kits k new) m q).buffer.items)) (sym is)
                  (subst (λ (z : Kit g.row.S.Denot g.row.V.Denot). IsRoomOf l (length z.buffer.items)) (sym (get_or-set_same kits k new q less))
                  (last_so (λ b. IsRoomOf l (length b.items)) c.loop-k.buffers.items c.pop.new.self.items buffer popped has.0))
              | inr isnt ↦ subst (λ (z : Kit g.row.S.Denot g.row.V.Denot). IsRoomOf l (length z.buffer.items)) (sym (get_or-set_other kits k j new q isnt)) (has.1 j q (omega (arith, below, isnt)))
            ],
          );
    }

pub returns-clause-room : goal.returns-clause-room
returns-clause-room g c = λ l all j q less.
    let end : length c.loop-k.kits.items ≤ c.loop-k.k = search rules in
    (c.loop-k.invariant.room l all).1 j q (omega (arith, less, end))
