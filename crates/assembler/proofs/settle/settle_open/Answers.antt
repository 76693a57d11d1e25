use Rattle.std.proofs.Common.{◌≡◌, ◌⊎◌, ◌∙◌, ◌++◌, ℕ, List, length, slice_index, Option, Ok, Err, refl, ap, sym, subst, arith}
use Rattle.assembler.proofs.EconomyQuiet.{quiet_before, quiet_fewer}
use Rattle.assembler.proofs.Filled.{told_none, told_since, torn_since}
use Rattle.assembler.proofs.Settled.{asks_still}
use Rattle.assembler.proofs.Tallies.{TalliedAs}
use Rattle.assembler.specs.Economy.{SettledShared, SettlesBy}
use Rattle.assembler.specs.declared.fault.Lost.{Lost}
use Rattle.assembler.specs.declared.fault.Unsettled.TheVariants as unsettled
use Rattle.range_ledger.specs.Fills.{Fills, FillsTorn, WhereTold}
use Rattle.range_survey.specs.declared.fate.Fate.{Fate}
use Rattle.assembler.proofs.EconomySettled.{settles_got, settles_lost, shared_got, shared_lost}
use Rattle.caibx_codec.specs.Listing.{kind_of, count_of}
use Rattle.chunk_sources.specs.AnyCaches.{seen_in}
use Rattle.chunk_sources.specs.Caches.{OthersAddOnly, CacheLacks, IfShared, TakesChunk}
use Rattle.chunk_sources.specs.Economy.{AnsweredAs, ObtainedBy, as_upstream, source_among}
use Rattle.chunk_sources.specs.Losses.{AskedLast, Had}
use Rattle.chunk_sources.specs.Sources.{IsThis, sources, views_of}
use Rattle.chunk_sources.specs.Wants.{Wanted, sought_chunk}
use Rattle.chunk_sources.specs.declared.obtain.Sought.{Sought}
use Rattle.chunk_store.specs.declared.id.DigestKind.{DigestKind}
use Rattle.dsy_base.specs.Bytes.{Held}
use Rattle.range_survey.specs.Fates.{settled}
use Rattle.assembler.proofs.settle.settle_open.Goals as goal
use Rattle.assembler.proofs.settle.settle_open.Given.{Over}
use Rattle.cache_store.specs.Shelves.{MayAdd, Shelf}

-- what is seen of a cache
abbrev see : (g : Over) → Option g.row.C.Denot → Option Shelf
see g = seen_in g.C.Cache

-- what holds for the chunk as it was lent holds for the one that is sought
module _ (kind : DigestKind) (q : Sought) (n size : ℕ) (same : n ≡ size) (P : Wanted → Type 0) where
  as_sought : P (sought_chunk kind q n) → P (sought_chunk kind q size)
  as_sought = subst (λ (k : ℕ). P (sought_chunk kind q k)) same

pub obtain-requires-clause-takes : goal.obtain-requires-clause-takes
obtain-requires-clause-takes g c =
    subst (λ (n : ℕ). IfShared (see g c.args.cache.now) ((b : List ℕ) → TakesChunk g.S.Store c.args.chain.now.kind c.args.opened.now.sought.id.0 n c.args.chain.now.stores
    c.args.opened.now.sought.id.0 b → MayAdd c.args.chain.now.kind g.C.Cache.pairs g.C.Cache.stores c.args.opened.now.sought.id.0 b)) (sym c.split_at_mut-chunk.ensures.front_len) c.requires.takes

pub put-requires-clause-chunk : goal.put-requires-clause-chunk
put-requires-clause-chunk g c = λ k less. omega (arith, (c.requires.entries k less).size_is, c.split_at_mut-chunk.ensures.front_len, c.obtain.auto.chunk)

pub put-requires-clause-may : goal.put-requires-clause-may
put-requires-clause-may g c = λ k less. c.requires.may
    (λ tells cached maps has told.
    as_sought (kind_of g.E.Ledger.run.listing) c.args.opened.now.sought (length c.split_at_mut-chunk.result.0.now) c.args.opened.now.size c.split_at_mut-chunk.ensures.front_len
    (λ q. Had (g.E.Ledger.fates c.args.ledger.now) q (views_of g.V.View c.args.seeds.now) (cached ++ maps)) (c.in-Ok.ensures.had tells cached maps has told))
    (slice_index c.args.opened.now.sought.entries.now k) (k, less, refl)

pub returns-in-Ok-put-clause-had : goal.returns-in-Ok-put-clause-had
returns-in-Ok-put-clause-had g c = λ tells cached maps has told i was now.
    as_sought (kind_of g.E.Ledger.run.listing) c.args.opened.now.sought (length c.split_at_mut-chunk.result.0.now) c.args.opened.now.size c.split_at_mut-chunk.ensures.front_len
    (λ q. Had (g.E.Ledger.fates c.args.ledger.now) q (views_of g.V.View c.args.seeds.now) (cached ++ maps)) (c.in-Ok.ensures.had tells cached maps has told)

pub returns-in-Err-put-clause-had : goal.returns-in-Err-put-clause-had
returns-in-Err-put-clause-had g c = λ tells cached maps has told i was now.
    as_sought (kind_of g.E.Ledger.run.listing) c.args.opened.now.sought (length c.split_at_mut-chunk.result.0.now) c.args.opened.now.size c.split_at_mut-chunk.ensures.front_len
    (λ q. Had (g.E.Ledger.fates c.args.ledger.now) q (views_of g.V.View c.args.seeds.now) (cached ++ maps)) (c.in-Ok.ensures.had tells cached maps has told)

pub returns-in-Ok-put-clause-exactly : goal.returns-in-Ok-put-clause-exactly
returns-in-Ok-put-clause-exactly g c = λ alone cached maps quiet.
    let e = g.E.Ledger in
    let m = e.fates c.args.ledger.now in
    let q = sought_chunk (kind_of e.run.listing) c.args.opened.now.sought c.args.opened.now.size in
    let sooner = quiet_before g.S.Store g.V.View (e.faults c.args.ledger.now) (e.faults c.obtain.new.ledger) (e.faults c.put.new.ledger)
    c.args.seeds.now c.obtain.new.seeds (see g c.args.cache.now) (see g c.obtain.new.cache) c.args.chain.now c.obtain.new.chain cached maps
    c.in-Ok.ensures.faults c.in-Ok-put.ensures.faults (quiet_fewer g.S.Store g.V.View (IsThis c.args.opened.now.sought.id.0 (length c.split_at_mut-chunk.result.0.now)) _ _ cached maps (λ q k is. (is.0, is.1 ∙ c.split_at_mut-chunk.ensures.front_len)) quiet) in
    settles_got (source_among (settled m) q (views_of g.V.View c.args.seeds.now) cached maps) (count_of e.run.listing) m (e.fates c.put.new.ledger) c.args.chain.now c.obtain.new.chain
    c.in-Ok.origin (as_sought (kind_of e.run.listing) c.args.opened.now.sought (length c.split_at_mut-chunk.result.0.now) c.args.opened.now.size c.split_at_mut-chunk.ensures.front_len
    (λ q. ObtainedBy (source_among (settled m) q (views_of g.V.View c.args.seeds.now) cached maps) c.args.chain.now c.obtain.new.chain (Ok c.in-Ok.origin))
    (c.in-Ok.ensures.exactly alone cached maps sooner))
    (subst (λ (n : List Fate). TalliedAs c.in-Ok.origin (count_of e.run.listing) n (e.fates c.put.new.ledger)) c.in-Ok.ensures.fates
    (c.in-Ok-put.ensures.tallied c.args.opened.now.entry c.requires.among (ap (λ (n : List Fate). settled n c.args.opened.now.entry) c.in-Ok.ensures.fates ∙ c.requires.is_open)))

-- where others fill the cache too
pub returns-in-Ok-put-clause-shared : goal.returns-in-Ok-put-clause-shared
returns-in-Ok-put-clause-shared g c = λ cached maps only quiet.
    let e = g.E.Ledger in
    let m = e.fates c.args.ledger.now in
    let kind = kind_of e.run.listing in
    let q = sought_chunk kind c.args.opened.now.sought c.args.opened.now.size in
    let n : ℕ = length c.split_at_mut-chunk.result.0.now in
    let sized = c.split_at_mut-chunk.ensures.front_len in
    let sooner = quiet_before g.S.Store g.V.View (e.faults c.args.ledger.now) (e.faults c.obtain.new.ledger) (e.faults c.put.new.ledger)
    c.args.seeds.now c.obtain.new.seeds (see g c.args.cache.now) (see g c.obtain.new.cache) c.args.chain.now c.obtain.new.chain cached maps
    c.in-Ok.ensures.faults c.in-Ok-put.ensures.faults (quiet_fewer g.S.Store g.V.View (IsThis c.args.opened.now.sought.id.0 (length c.split_at_mut-chunk.result.0.now)) _ _ cached maps (λ q k is. (is.0, is.1 ∙ c.split_at_mut-chunk.ensures.front_len)) quiet) in
    shared_got (source_among (settled m) q (views_of g.V.View c.args.seeds.now) cached maps) (count_of e.run.listing) m (e.fates c.put.new.ledger) c.args.chain.now c.obtain.new.chain
    c.in-Ok.origin (as_sought kind c.args.opened.now.sought n c.args.opened.now.size sized
    (λ q. AnsweredAs as_upstream (source_among (settled m) q (views_of g.V.View c.args.seeds.now) cached maps) (Ok c.in-Ok.origin))
    (c.in-Ok.ensures.shared cached maps (subst (λ (k : ℕ). OthersAddOnly kind c.args.opened.now.sought.id.0 k (see g c.args.cache.now) cached maps) (sym sized) only) sooner))
    (subst (λ (n : List Fate). TalliedAs c.in-Ok.origin (count_of e.run.listing) n (e.fates c.put.new.ledger)) c.in-Ok.ensures.fates
    (c.in-Ok-put.ensures.tallied c.args.opened.now.entry c.requires.among (ap (λ (n : List Fate). settled n c.args.opened.now.entry) c.in-Ok.ensures.fates ∙ c.requires.is_open)))

pub returns-in-Ok-put-clause-bytes : goal.returns-in-Ok-put-clause-bytes
returns-in-Ok-put-clause-bytes g c =
    let e = g.E.Ledger in
    subst (λ (n : List Fate). WhereTold (e.held c.args.ledger.now).bytes (e.held c.put.new.ledger).bytes (Fills e.run.listing n (e.fates c.put.new.ledger)
    (e.faults c.args.ledger.now) (e.faults c.put.new.ledger))) c.in-Ok.ensures.fates
    (told_since e.run.listing (e.fates c.obtain.new.ledger) (e.fates c.put.new.ledger) (e.faults c.args.ledger.now) (e.faults c.obtain.new.ledger) (e.faults c.put.new.ledger)
    (e.held c.args.ledger.now).bytes (e.held c.obtain.new.ledger).bytes (e.held c.put.new.ledger).bytes (ap (λ (h : Held). h.bytes) c.in-Ok.ensures.kept)
    c.in-Ok.ensures.faults c.in-Ok-put.ensures.bytes)

pub returns-in-Err-put-clause-bytes : goal.returns-in-Err-put-clause-bytes
returns-in-Err-put-clause-bytes g c =
    let e = g.E.Ledger in
    subst (λ (n : List Fate). WhereTold (e.held c.args.ledger.now).bytes (e.held c.put.new.ledger).bytes (Fills e.run.listing n (e.fates c.put.new.ledger)
    (e.faults c.args.ledger.now) (e.faults c.put.new.ledger))) c.in-Ok.ensures.fates
    (told_since e.run.listing (e.fates c.obtain.new.ledger) (e.fates c.put.new.ledger) (e.faults c.args.ledger.now) (e.faults c.obtain.new.ledger) (e.faults c.put.new.ledger)
    (e.held c.args.ledger.now).bytes (e.held c.obtain.new.ledger).bytes (e.held c.put.new.ledger).bytes (ap (λ (h : Held). h.bytes) c.in-Ok.ensures.kept)
    c.in-Ok.ensures.faults c.in-Err-put.ensures.bytes)

pub returns-in-Err-put-clause-failed : goal.returns-in-Err-put-clause-failed
returns-in-Err-put-clause-failed g c = λ _.
    let e = g.E.Ledger in
    let f = c.in-Err-put.ensures.failed in (
      f.0,
      f.1,
      subst (λ (n : List Fate). WhereTold (e.held c.args.ledger.now).bytes (e.held c.put.new.ledger).bytes (FillsTorn e.run.listing n (e.fates c.put.new.ledger)
          (e.faults c.args.ledger.now) (e.faults c.put.new.ledger) f.0)) c.in-Ok.ensures.fates
          (torn_since e.run.listing (e.fates c.obtain.new.ledger) (e.fates c.put.new.ledger) (e.faults c.args.ledger.now) (e.faults c.obtain.new.ledger) (e.faults c.put.new.ledger) f.0
          (e.held c.args.ledger.now).bytes (e.held c.obtain.new.ledger).bytes (e.held c.put.new.ledger).bytes (ap (λ (h : Held). h.bytes) c.in-Ok.ensures.kept)
          c.in-Ok.ensures.faults f.2),
    )

-- where no source gave the chunk nothing was written
pub returns-in-Err-clause-bytes : goal.returns-in-Err-clause-bytes
returns-in-Err-clause-bytes g c =
    let e = g.E.Ledger in
    let l = e.run.listing in
    let m = e.fates c.args.ledger.now in
    let a = e.faults c.args.ledger.now in
    let b = e.faults c.obtain.new.ledger in
    subst (λ (n : List Fate). WhereTold (e.held c.args.ledger.now).bytes (e.held c.obtain.new.ledger).bytes (Fills l m n a b)) (sym c.in-Err.ensures.fates)
    (subst (λ (h : Held). WhereTold (e.held c.args.ledger.now).bytes h.bytes (Fills l m m a b)) (sym c.in-Err.ensures.kept)
    (told_none l m a b c.in-Err.ensures.faults (e.held c.args.ledger.now).bytes))

pub returns-in-Ok-put-clause-asks : goal.returns-in-Ok-put-clause-asks
returns-in-Ok-put-clause-asks g c =
    let e = g.E.Ledger in
    asks_still g.S.Store g.V.View (sought_chunk (kind_of e.run.listing) c.args.opened.now.sought c.args.opened.now.size) (e.fates c.args.ledger.now)
    (e.faults c.args.ledger.now) (e.faults c.obtain.new.ledger) (e.faults c.put.new.ledger) c.in-Ok-put.ensures.faults c.args.seeds.now c.obtain.new.seeds
    (see g c.args.cache.now) (see g c.obtain.new.cache) c.args.chain.now c.obtain.new.chain
    (as_sought (kind_of e.run.listing) c.args.opened.now.sought (length c.split_at_mut-chunk.result.0.now) c.args.opened.now.size c.split_at_mut-chunk.ensures.front_len
    (λ q. (c.obtain.new.chain ≡ c.args.chain.now) ⊎ AskedLast g.S.Store g.V.View q (e.fates c.args.ledger.now)
    (sources (e.faults c.args.ledger.now) c.args.seeds.now (see g c.args.cache.now) c.args.chain.now)
    (sources (e.faults c.obtain.new.ledger) c.obtain.new.seeds (see g c.obtain.new.cache) c.obtain.new.chain)) c.in-Ok.ensures.asks)

pub returns-in-Err-put-clause-asks : goal.returns-in-Err-put-clause-asks
returns-in-Err-put-clause-asks g c =
    let e = g.E.Ledger in
    asks_still g.S.Store g.V.View (sought_chunk (kind_of e.run.listing) c.args.opened.now.sought c.args.opened.now.size) (e.fates c.args.ledger.now)
    (e.faults c.args.ledger.now) (e.faults c.obtain.new.ledger) (e.faults c.put.new.ledger) c.in-Err-put.ensures.faults c.args.seeds.now c.obtain.new.seeds
    (see g c.args.cache.now) (see g c.obtain.new.cache) c.args.chain.now c.obtain.new.chain
    (as_sought (kind_of e.run.listing) c.args.opened.now.sought (length c.split_at_mut-chunk.result.0.now) c.args.opened.now.size c.split_at_mut-chunk.ensures.front_len
    (λ q. (c.obtain.new.chain ≡ c.args.chain.now) ⊎ AskedLast g.S.Store g.V.View q (e.fates c.args.ledger.now)
    (sources (e.faults c.args.ledger.now) c.args.seeds.now (see g c.args.cache.now) c.args.chain.now)
    (sources (e.faults c.obtain.new.ledger) c.obtain.new.seeds (see g c.obtain.new.cache) c.obtain.new.chain)) c.in-Ok.ensures.asks)

pub returns-in-Err-clause-exactly : goal.returns-in-Err-clause-exactly
returns-in-Err-clause-exactly g c = λ alone cached maps quiet.
    let e = g.E.Ledger in
    let m = e.fates c.args.ledger.now in
    let q = sought_chunk (kind_of e.run.listing) c.args.opened.now.sought c.args.opened.now.size in
    let source = source_among (settled m) q (views_of g.V.View c.args.seeds.now) cached maps in
    let lost : Lost = record { entry = c.args.opened.now.entry; id = c.args.opened.now.sought.id; refused = c.in-Err.refused } in
    subst (λ (n : List Fate). SettlesBy source (count_of e.run.listing) m n c.args.chain.now c.obtain.new.chain (Err (unsettled.Lost lost))) (sym c.in-Err.ensures.fates)
    (settles_lost source (count_of e.run.listing) m c.args.chain.now c.obtain.new.chain lost
    (as_sought (kind_of e.run.listing) c.args.opened.now.sought (length c.split_at_mut-chunk.result.0.now) c.args.opened.now.size c.split_at_mut-chunk.ensures.front_len
    (λ q. ObtainedBy (source_among (settled m) q (views_of g.V.View c.args.seeds.now) cached maps) c.args.chain.now c.obtain.new.chain (Err c.in-Err.refused))
    (c.in-Err.ensures.exactly alone cached maps (quiet_fewer g.S.Store g.V.View (IsThis c.args.opened.now.sought.id.0 (length c.split_at_mut-chunk.result.0.now)) _ _ cached maps (λ q k is. (is.0, is.1 ∙ c.split_at_mut-chunk.ensures.front_len)) quiet))))

pub returns-in-Err-clause-shared : goal.returns-in-Err-clause-shared
returns-in-Err-clause-shared g c = λ cached maps only quiet.
    let e = g.E.Ledger in
    let m = e.fates c.args.ledger.now in
    let kind = kind_of e.run.listing in
    let q = sought_chunk kind c.args.opened.now.sought c.args.opened.now.size in
    let n : ℕ = length c.split_at_mut-chunk.result.0.now in
    let sized = c.split_at_mut-chunk.ensures.front_len in
    let source = source_among (settled m) q (views_of g.V.View c.args.seeds.now) cached maps in
    let lost : Lost = record { entry = c.args.opened.now.entry; id = c.args.opened.now.sought.id; refused = c.in-Err.refused } in
    subst (λ (n : List Fate). SettledShared source (count_of e.run.listing) m n (Err (unsettled.Lost lost))) (sym c.in-Err.ensures.fates)
    (shared_lost source (count_of e.run.listing) m lost
    (as_sought kind c.args.opened.now.sought n c.args.opened.now.size sized
    (λ q. AnsweredAs as_upstream (source_among (settled m) q (views_of g.V.View c.args.seeds.now) cached maps) (Err c.in-Err.refused))
    (c.in-Err.ensures.shared cached maps (subst (λ (k : ℕ). OthersAddOnly kind c.args.opened.now.sought.id.0 k (see g c.args.cache.now) cached maps) (sym sized) only) (quiet_fewer g.S.Store g.V.View (IsThis c.args.opened.now.sought.id.0 (length c.split_at_mut-chunk.result.0.now)) _ _ cached maps (λ q k is. (is.0, is.1 ∙ c.split_at_mut-chunk.ensures.front_len)) quiet))))

pub returns-in-Err-clause-asks : goal.returns-in-Err-clause-asks
returns-in-Err-clause-asks g c =
    let e = g.E.Ledger in
    as_sought (kind_of e.run.listing) c.args.opened.now.sought (length c.split_at_mut-chunk.result.0.now) c.args.opened.now.size c.split_at_mut-chunk.ensures.front_len
    (λ q. (c.obtain.new.chain ≡ c.args.chain.now) ⊎ AskedLast g.S.Store g.V.View q (e.fates c.args.ledger.now)
    (sources (e.faults c.args.ledger.now) c.args.seeds.now (see g c.args.cache.now) c.args.chain.now)
    (sources (e.faults c.obtain.new.ledger) c.obtain.new.seeds (see g c.obtain.new.cache) c.obtain.new.chain)) c.in-Err.ensures.asks

pub returns-in-Err-clause-missed : goal.returns-in-Err-clause-missed
returns-in-Err-clause-missed g c = λ memory alone.
    as_sought (kind_of g.E.Ledger.run.listing) c.args.opened.now.sought (length c.split_at_mut-chunk.result.0.now) c.args.opened.now.size c.split_at_mut-chunk.ensures.front_len
    (λ q. CacheLacks q.kind q.id q.size (see g c.args.cache.now) (see g c.obtain.new.cache)) (c.in-Err.ensures.missed memory alone)

pub returns-in-Err-clause-asked : goal.returns-in-Err-clause-asked
returns-in-Err-clause-asked g c = λ memory.
    let e = g.E.Ledger in
    as_sought (kind_of e.run.listing) c.args.opened.now.sought (length c.split_at_mut-chunk.result.0.now) c.args.opened.now.size c.split_at_mut-chunk.ensures.front_len
    (λ q. AskedLast g.S.Store g.V.View q (e.fates c.args.ledger.now)
    (sources (e.faults c.args.ledger.now) c.args.seeds.now (see g c.args.cache.now) c.args.chain.now)
    (sources (e.faults c.obtain.new.ledger) c.obtain.new.seeds (see g c.obtain.new.cache) c.obtain.new.chain)) (c.in-Err.ensures.asked memory)
