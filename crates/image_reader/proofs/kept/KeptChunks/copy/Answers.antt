use Rattle.std.proofs.Common.{◌≡◌, ◌<◌, ◌+◌, ◌∷◌, true, false, slice_range, length, arith, ap, sym, subst, ◌∙◌}
use Rattle.std.specs.Map.{keys_of}
use Rattle.lru.specs.LruCache.{promoted}
use Rattle.image_reader.proofs.Entries.{found_is_chunk, has_found, keys_promoted, lacks_unfound, promoted_chunks, promoted_unfound, seen, seen_with}
use Rattle.image_reader.specs.Keeping.{AreChunksOf, Kept, has_want, is_want, without_want}
use Rattle.chunk_store.specs.Giving.{IsChunk}
use Rattle.image_reader.proofs.kept.KeptChunks.copy.Goals as goal

pub invariant_of-self : goal.invariant_of-self
invariant_of-self c =
    let i = c.self.inside in
    subst (λ d. (0 < d.cap) × AreChunksOf i.kind d.entries) (sym c.get.follows.holds-at-none) (c.self.invariant.0, promoted_chunks i.kind c.args.want.now i.chunks.entries c.self.invariant.1)

pub returns-in_default-clause-value : goal.returns-in_default-clause-value
returns-in_default-clause-value c =
    let P : Kept → Type 0 = λ k. false ≡ has_want k.wants c.args.want.now in
    subst P c.self.view_is (sym (lacks_unfound c.args.want.now c.self.inside.chunks.entries (sym c.in_default.ensures.value)))

pub returns-in_default-clause-no : goal.returns-in_default-clause-no
returns-in_default-clause-no c = λ _.
    let i = c.self.inside in
    let same = promoted_unfound c.args.want.now i.chunks.entries (sym c.in_default.ensures.value) in
    seen_with i.kind i.chunks.cap c.get.follows.lender-at-none (promoted (is_want c.args.want.now) i.chunks.entries) (keys_of i.chunks.entries) c.get.follows.holds-at-none (ap keys_of same) ∙ c.self.view_is

pub copy_part-requires : goal.copy_part-requires
copy_part-requires c =
    let i = c.self.inside in
    let right = found_is_chunk c.args.want.now i.kind i.chunks.entries c.in-Some.chunk.now c.self.invariant.1 (sym c.in-Some.ensures.value) in
    record { inside = omega (arith, right.sized, ap length c.deref.ensures.value, c.requires.inside) }

pub invariant_of-self-2 : goal.invariant_of-self-2
invariant_of-self-2 c =
    let i = c.self.inside in
    subst (λ d. (0 < d.cap) × AreChunksOf i.kind d.entries) (sym c.get.follows.holds-at-none) (c.self.invariant.0, promoted_chunks i.kind c.args.want.now i.chunks.entries c.self.invariant.1)

pub returns-clause-value : goal.returns-clause-value
returns-clause-value c =
    let P : Kept → Type 0 = λ k. true ≡ has_want k.wants c.args.want.now in
    subst P c.self.view_is (sym (has_found c.args.want.now c.self.inside.chunks.entries c.in-Some.chunk.now (sym c.in-Some.ensures.value)))

pub returns-clause-bytes : goal.returns-clause-bytes
returns-clause-bytes c = λ _.
    let i = c.self.inside in
    let right = found_is_chunk c.args.want.now i.kind i.chunks.entries c.in-Some.chunk.now c.self.invariant.1 (sym c.in-Some.ensures.value) in
    let P : Kept → Type 0 = λ k. IsChunk k.kind c.args.want.now.id.0 c.args.want.now.size c.in-Some.chunk.now.items in
    (c.in-Some.chunk.now.items, subst P c.self.view_is right, c.copy_part.ensures.bytes ∙ ap (λ b. slice_range b c.args.from (c.args.from + length c.args.out.now)) c.deref.ensures.value)

pub returns-clause-yes : goal.returns-clause-yes
returns-clause-yes c = λ _.
    let i = c.self.inside in
    let P : Kept → Type 0 = λ k. seen i.kind c.get.follows.lender-at-none ≡ record k { wants = c.args.want.now ∷ without_want c.args.want.now k.wants } in
    subst P c.self.view_is (seen_with i.kind i.chunks.cap c.get.follows.lender-at-none (promoted (is_want c.args.want.now) i.chunks.entries) _ c.get.follows.holds-at-none (keys_promoted c.args.want.now i.chunks.entries c.in-Some.chunk.now (sym c.in-Some.ensures.value)))
