use Rattle.std.proofs.Common.{◌≡◌, ◌<◌, ◌∷◌, false, take, sym, subst}
use Rattle.lru.specs.LruCache.{put_entries}
use Rattle.image_reader.proofs.Entries.{keys_put, put_chunks, seen, seen_with}
use Rattle.chunk_store.specs.Giving.{IsChunk}
use Rattle.image_reader.specs.Keeping.{AreChunksOf, Kept, has_want, is_want}
use Rattle.image_reader.proofs.kept.KeptChunks.add.Goals as goal

pub returns-in-Ok-clause-ok : goal.returns-in-Ok-clause-ok
returns-in-Ok-clause-ok c =
    let i = c.self.inside in
    let lacks = (let P : Kept → Type 0 = λ k. has_want k.wants c.args.want ≡ false in subst P (sym c.self.view_is) c.requires.missed) in
    let P : Kept → Type 0 = λ k. seen i.kind c.put.new.self ≡ record k { wants = take k.keep (c.args.want ∷ k.wants) } in
    subst P c.self.view_is (seen_with i.kind i.chunks.cap c.put.new.self (put_entries is_want i.chunks c.args.want c.args.chunk) _ c.in-Ok.ensures.entries (keys_put c.args.want i.chunks c.args.chunk c.self.invariant.0 lacks))

pub invariant_of-self : goal.invariant_of-self
invariant_of-self c =
    let i = c.self.inside in
    let right = (let P : Kept → Type 0 = λ k. IsChunk k.kind c.args.want.id.0 c.args.want.size c.args.chunk.items in subst P (sym c.self.view_is) c.requires.right) in
    subst (λ d. (0 < d.cap) × AreChunksOf i.kind d.entries) (sym c.in-Ok.ensures.entries) (c.self.invariant.0, put_chunks i.kind c.args.want i.chunks c.args.chunk c.self.invariant.1 right)
