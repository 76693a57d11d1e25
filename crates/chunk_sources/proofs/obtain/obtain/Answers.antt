use Rattle.std.proofs.Common.{◌≡◌, ◌++◌, ℕ, length, Ok, inl, inr, refl, subst, sym, ⊎_elim, arith, Option}
use Rattle.cache_store.specs.Giving.{SomeGives}
use Rattle.cache_store.specs.Shelves.{Shelf}
use Rattle.caibx_codec.specs.Listing.{kind_of}
use Rattle.chunk_sources.proofs.Cached.{stocked_none}
use Rattle.chunk_sources.proofs.Lacking.{quiet_never, seeds_never}
use Rattle.chunk_sources.proofs.Obtained.{among_named, err_more, ok_more, sized_as}
use Rattle.chunk_sources.proofs.Origins.{answered_upstream, by_copy, by_rest, by_seed, rest_source}
use Rattle.chunk_sources.specs.Caches.{OthersAddOnly, CacheFailed, CacheLacks, Stocked, TakesChunk}
use Rattle.chunk_sources.specs.AnyCaches.{seen_in}
use Rattle.chunk_sources.specs.Economy.{AnsweredAs, ObtainedBy, as_upstream, source_among, source_behind}
use Rattle.chunk_sources.specs.Losses.{RefusedBy, chunk_of}
use Rattle.chunk_sources.specs.Sources.{Agree, counts_of, views_of}
use Rattle.chunk_sources.specs.Wants.{Wanted, sought_chunk}
use Rattle.chunk_sources.specs.declared.obtain.Sought.{Sought}
use Rattle.chunk_store.specs.Asks.{Get}
use Rattle.chunk_store.specs.Digests.{digest_of}
use Rattle.chunk_store.specs.declared.id.DigestKind.{DigestKind}
use Rattle.range_survey.specs.Fates.{settled}
use Rattle.range_survey.specs.declared.fate.Fate.{Fate}
use Rattle.range_survey.specs.declared.fate.Fate.TheVariants as fate
use Rattle.store_chain.proofs.Kept.{kept_still}
use Rattle.chunk_sources.proofs.obtain.obtain.Given.{Over}
use Rattle.chunk_sources.proofs.obtain.obtain.Goals.{After-slice_known-4-1}
use Rattle.chunk_sources.proofs.obtain.obtain.Goals as goal

-- what is seen of a cache
abbrev see : (g : Over) → Option g.row.C.Denot → Option Shelf
see g = seen_in g.C.Cache

pub returns-then-copy-clause-stores : goal.returns-then-copy-clause-stores
returns-then-copy-clause-stores g c = kept_still g.S.Store (λ a. a ≡ Get c.args.sought.now.id.0) c.args.chain.now.stores

pub returns-then-from_seeds-clause-stores : goal.returns-then-from_seeds-clause-stores
returns-then-from_seeds-clause-stores g c = kept_still g.S.Store (λ a. a ≡ Get c.args.sought.now.id.0) c.args.chain.now.stores

pub returns-then-copy-clause-stocked : goal.returns-then-copy-clause-stocked
returns-then-copy-clause-stocked g c =
    stocked_none (TakesChunk g.S.Store (kind_of g.E.Ledger.run.listing) c.args.sought.now.id.0 (length c.args.chunk.now) c.args.chain.now.stores) (see g c.args.cache.now)

pub returns-then-from_seeds-clause-stocked : goal.returns-then-from_seeds-clause-stocked
returns-then-from_seeds-clause-stocked g c =
    stocked_none (TakesChunk g.S.Store (kind_of g.E.Ledger.run.listing) c.args.sought.now.id.0 (length c.args.chunk.now) c.args.chain.now.stores) (see g c.args.cache.now)

pub returns-then-copy-clause-exactly : goal.returns-then-copy-clause-exactly
returns-then-copy-clause-exactly g c = λ alone cached maps quiet.
    let found = c.copy.ensures.found c.if-copy.true in
    by_copy (settled (g.E.Ledger.fates c.args.ledger.now)) (sought_chunk (kind_of g.E.Ledger.run.listing) c.args.sought.now (length c.args.chunk.now))
    (views_of g.V.View c.args.seeds.now) cached maps c.args.chain.now c.args.chain.now c.asks.ensures.below refl found.0 found.1 found.2

pub returns-then-from_seeds-clause-exactly : goal.returns-then-from_seeds-clause-exactly
returns-then-from_seeds-clause-exactly g c = λ alone cached maps quiet.
    let faults = g.E.Ledger.faults in
    by_seed (settled (g.E.Ledger.fates c.args.ledger.now)) (sought_chunk (kind_of g.E.Ledger.run.listing) c.args.sought.now (length c.args.chunk.now))
    (views_of g.V.View c.args.seeds.now) cached maps c.args.chain.now c.args.chain.now
    (λ i among is. quiet_never (faults c.args.ledger.now) (faults c.copy.new.ledger) quiet.target (c.copy.ensures.absent c.if-copy.false i among is))
    c.asks.ensures.below refl (c.from_seeds.ensures.found c.if-from_seeds.true quiet.telling)

pub from_seeds-requires : goal.from_seeds-requires
from_seeds-requires g c = λ k d lt. let p = c.requires.places k d lt in (p.0, omega (arith, p.1, c.copy.auto.chunk))

pub returns-then-from_seeds-clause-ok : goal.returns-then-from_seeds-clause-ok
returns-then-from_seeds-clause-ok g c = λ told. c.from_seeds.ensures.ok c.if-from_seeds.true (kind_of g.E.Ledger.run.listing) (λ k d lt. (c.requires.places k d lt).2)

pub returns-then-copy-clause-ok : goal.returns-then-copy-clause-ok
returns-then-copy-clause-ok g c = λ told.
    let found = c.copy.ensures.named c.if-copy.true told in
    among_named g.E.Ledger.run.listing c.args.sought.now.id.0 (length c.args.chunk.now) c.args.sought.now.entries.now c.requires.entries c.copy.new.chunk found.0 found.1 found.2

pub returns-clause-ok : goal.returns-clause-ok
returns-clause-ok g c =
    ok_more c.from_upstream.result (λ named told.
    sized_as (λ k n. digest_of k c.from_upstream.new.chunk ≡ c.args.sought.now.id.0) c.args.chain.now.kind (kind_of g.E.Ledger.run.listing) 0 0 c.requires.kind refl named)
    c.from_upstream.ensures.ok

-- what is known of what was asked for is known of what is sought
module _ (g : Over) (c : After-slice_known-4-1 g) (P : DigestKind → ℕ → Type 0) where
  as_sought : P c.args.chain.now.kind (length c.from_seeds.new.chunk) → P (kind_of g.E.Ledger.run.listing) (length c.args.chunk.now)
  as_sought = sized_as P c.args.chain.now.kind (kind_of g.E.Ledger.run.listing) (length c.from_seeds.new.chunk) (length c.args.chunk.now)
      c.requires.kind (omega (arith, c.from_seeds.auto.chunk, c.copy.auto.chunk))

pub returns-clause-had : goal.returns-clause-had
returns-clause-had g c = λ tells cached maps has told.
    ok_more c.from_upstream.result (λ gives. inr (inr (as_sought g c (λ k n. SomeGives k c.args.sought.now.id.0 n (cached ++ maps)) gives)))
    (c.from_upstream.ensures.had cached maps has told)

pub returns-clause-refused : goal.returns-clause-refused
returns-clause-refused g c =
    err_more c.from_upstream.result (λ r told memory.
    as_sought g c (λ k n. RefusedBy g.S.Store (chunk_of k c.args.sought.now.id n) c.args.chain.now.stores c.from_upstream.new.chain.stores r) (told memory))
    c.from_upstream.ensures.refused

pub returns-clause-missed : goal.returns-clause-missed
returns-clause-missed g c =
    err_more c.from_upstream.result (λ r lacks memory alone.
    as_sought g c (λ k n. CacheLacks k c.args.sought.now.id.0 n (see g c.args.cache.now) (see g c.from_upstream.new.cache)) (lacks memory alone))
    c.from_upstream.ensures.missed

pub returns-clause-asks : goal.returns-clause-asks
returns-clause-asks g c =
    let failed = as_sought g c (λ k n. CacheFailed k c.args.sought.now.id.0 n (see g c.args.cache.now) (see g c.from_upstream.new.cache)) in
    ⊎_elim (λ same. inl same)
    (λ once. inr (record { once = once.0; copies = c.copy.ensures.absent c.if-copy.false; seeds = c.from_seeds.ensures.absent c.if-from_seeds.false; cache = failed once.1 }))
    c.from_upstream.ensures.asks

pub returns-clause-asked : goal.returns-clause-asked
returns-clause-asked g c =
    let failed = as_sought g c (λ k n. CacheFailed k c.args.sought.now.id.0 n (see g c.args.cache.now) (see g c.from_upstream.new.cache)) in
    err_more c.from_upstream.result (λ r once memory.
    record { once = (once memory).0; copies = c.copy.ensures.absent c.if-copy.false; seeds = c.from_seeds.ensures.absent c.if-from_seeds.false; cache = failed (once memory).1 })
    c.from_upstream.ensures.asked

pub returns-clause-exactly : goal.returns-clause-exactly
returns-clause-exactly g c = λ alone cached maps quiet.
    let q = c.args.sought.now in
    let views = views_of g.V.View c.args.seeds.now in
    let faults = g.E.Ledger.faults in
    by_rest (settled (g.E.Ledger.fates c.args.ledger.now)) (sought_chunk (kind_of g.E.Ledger.run.listing) q (length c.args.chunk.now)) views cached maps
    c.args.chain.now c.from_upstream.new.chain
    (λ i among is. quiet_never (faults c.args.ledger.now) (faults c.copy.new.ledger) quiet.target (c.copy.ensures.absent c.if-copy.false i among is))
    (seeds_never views q.places.now q.id.0 (counts_of g.V.View c.args.seeds.now) (counts_of g.V.View c.from_seeds.new.seeds) quiet.seeds
    (c.from_seeds.ensures.absent c.if-from_seeds.false))
    c.from_upstream.result
    (as_sought g c (λ k n. ObtainedBy (source_behind k q.id.0 n cached maps) c.args.chain.now c.from_upstream.new.chain c.from_upstream.result)
    (c.from_upstream.ensures.exactly alone cached maps quiet.told_cache quiet.cache quiet.told (subst (λ (k : DigestKind). Agree g.S.Store k q.id.0 (length c.from_seeds.new.chunk) c.args.chain.now.stores) (sym c.requires.kind) (quiet.agree q.id.0 (length c.from_seeds.new.chunk) (refl, omega (arith, c.from_seeds.auto.chunk, c.copy.auto.chunk)))) quiet.stores))

pub returns-clause-stocked : goal.returns-clause-stocked
returns-clause-stocked g c =
    as_sought g c (λ k n. Stocked (TakesChunk g.S.Store k c.args.sought.now.id.0 n c.args.chain.now.stores) (see g c.args.cache.now) (see g c.from_upstream.new.cache))
    c.from_upstream.ensures.stocked

-- ---- where others add to the cache too

-- what is sought
abbrev chunk : (g : Over) → Sought → ℕ → Wanted
chunk g q size = sought_chunk (kind_of g.E.Ledger.run.listing) q size

pub returns-then-copy-clause-shared : goal.returns-then-copy-clause-shared
returns-then-copy-clause-shared g c = λ cached maps only quiet.
    let found = c.copy.ensures.found c.if-copy.true in
    let q = chunk g c.args.sought.now (length c.args.chunk.now) in
    let views = views_of g.V.View c.args.seeds.now in
    answered_upstream (source_among (settled (g.E.Ledger.fates c.args.ledger.now)) q views cached maps) (Ok fate.Copied)
    (by_copy (settled (g.E.Ledger.fates c.args.ledger.now)) q views cached maps c.args.chain.now c.args.chain.now c.asks.ensures.below refl found.0 found.1 found.2).1

pub returns-then-from_seeds-clause-shared : goal.returns-then-from_seeds-clause-shared
returns-then-from_seeds-clause-shared g c = λ cached maps only quiet.
    let faults = g.E.Ledger.faults in
    let q = chunk g c.args.sought.now (length c.args.chunk.now) in
    let views = views_of g.V.View c.args.seeds.now in
    answered_upstream (source_among (settled (g.E.Ledger.fates c.args.ledger.now)) q views cached maps) (Ok fate.Seeded)
    (by_seed (settled (g.E.Ledger.fates c.args.ledger.now)) q views cached maps c.args.chain.now c.args.chain.now
    (λ i among is. quiet_never (faults c.args.ledger.now) (faults c.copy.new.ledger) quiet.target (c.copy.ensures.absent c.if-copy.false i among is))
    c.asks.ensures.below refl (c.from_seeds.ensures.found c.if-from_seeds.true quiet.telling)).1

pub returns-clause-shared : goal.returns-clause-shared
returns-clause-shared g c = λ cached maps only quiet.
    let q = c.args.sought.now in
    let views = views_of g.V.View c.args.seeds.now in
    let faults = g.E.Ledger.faults in
    let was : DigestKind = c.args.chain.now.kind in
    let same : was ≡ kind_of g.E.Ledger.run.listing = c.requires.kind in
    let sized : length c.args.chunk.now ≡ length c.from_seeds.new.chunk = omega (arith, c.from_seeds.auto.chunk, c.copy.auto.chunk) in
    subst (λ (s : Fate). AnsweredAs as_upstream s c.from_upstream.result)
    (sym (rest_source (settled (g.E.Ledger.fates c.args.ledger.now)) (chunk g q (length c.args.chunk.now)) views cached maps
    (λ i among is. quiet_never (faults c.args.ledger.now) (faults c.copy.new.ledger) quiet.target (c.copy.ensures.absent c.if-copy.false i among is))
    (seeds_never views q.places.now q.id.0 (counts_of g.V.View c.args.seeds.now) (counts_of g.V.View c.from_seeds.new.seeds) quiet.seeds
    (c.from_seeds.ensures.absent c.if-from_seeds.false))))
    (as_sought g c (λ k n. AnsweredAs as_upstream (source_behind k q.id.0 n cached maps) c.from_upstream.result)
    (c.from_upstream.ensures.shared cached maps
    (sized_as (λ k n. OthersAddOnly k q.id.0 n (see g c.args.cache.now) cached maps) (kind_of g.E.Ledger.run.listing) was (length c.args.chunk.now) (length c.from_seeds.new.chunk) (sym same) sized only)
    quiet.told_cache quiet.cache quiet.told (subst (λ (k : DigestKind). Agree g.S.Store k q.id.0 (length c.from_seeds.new.chunk) c.args.chain.now.stores) (sym c.requires.kind) (quiet.agree q.id.0 (length c.from_seeds.new.chunk) (refl, omega (arith, c.from_seeds.auto.chunk, c.copy.auto.chunk)))) quiet.stores))
