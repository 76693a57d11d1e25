use Rattle.std.proofs.Common.{◌≡◌, ◌∙◌, ℕ, List, Bool, true, Option, Some, None, IfSome, is_some, length, refl, subst, sym, ap, vec_len, arith}
use Rattle.assembler.proofs.Others.{seen_alone}
use Rattle.cache_store.specs.Shelves.{Shelf}
use Rattle.chunk_sources.specs.Caches.{cache_faults, cached_in, seen}
use Rattle.chunk_store.specs.Kinds.{kind_named, kind_number}
use Rattle.chunk_store.specs.Members.{maps_of}
use Rattle.chunk_store.specs.declared.id.DigestKind.{DigestKind}
use Rattle.chunk_store.specs.declared.id.DigestKind.TheVariants as kinds
use Rattle.image_workers.specs.Shared.{NamesShelf, all_stores, pairs_of}
use Rattle.image_assembly.proofs.OnePlan.{same_plan}
use Rattle.image_assembly.proofs.Picking.{picked}
use Rattle.image_assembly.proofs.Picks.{length_resized, picked_one, picked_permits}
use Rattle.image_assembly.proofs.Planned.{is_plan, plan_of}
use Rattle.image_assembly.proofs.assemble.assemble.Invariants.{base_of, files_of, place_of}
use Rattle.caibx_codec.specs.Listing.{count_of, image_length, kind_of}
use Rattle.chunk_sources.specs.Wants.{Task}
use Rattle.dsy_base.specs.Bytes.{resized}
use Rattle.extract_plan.specs.Deal.{Deal, shards_of}
use Rattle.image_assembly.specs.Readied.{Permits}
use Rattle.image_assembly.proofs.assemble.assemble.Goals as goal

-- the target's bytes with the image's length are the base, where they are told
based : (o : Option (List ℕ)) (n : ℕ) → IfSome o (λ y. base_of o n ≡ resized y n)
unfolding base_of
based None n = tt
based (Some y) n = refl

long : (o : Option (List ℕ)) (n : ℕ) (b : Bool) → is_some o ≡ b → b ≡ true → length (base_of o n) ≡ n
unfolding base_of
long None n b some tells = absurd (cc)
long (Some y) n b some tells = length_resized y n

pub assemble_named-requires-clause-over : goal.assemble_named-requires-clause-over
assemble_named-requires-clause-over g c κs within = record {
  listing = refl;
  shards = ap (λ (n : ℕ). shards_of n (count_of c.args.index.now)) (sym c.args.kits.ok.0);
  base = based (g.T.View.held c.args.target).bytes (image_length c.args.index.now);
  tells = refl;
}

pub assemble_named-requires-clause-one : goal.assemble_named-requires-clause-one
assemble_named-requires-clause-one g c κs within = λ one.
    let l = c.args.index.now in
    let n = vec_len c.args.kits in
    let t : Task = record { listing = l; plan = plan_of l n; places = c.args.places.now } in
    let plan = is_plan l 1 n c.requires.places.0 c.requires.places.1 in
    picked_one t (base_of (g.T.View.held c.args.target).bytes (image_length l)) plan.wants g.S.Store g.V.View g.T.View.tells c.args.kits.items (seen g.F.Look c.args.cache) (sym c.args.kits.ok.0 ∙ one)

-- the cache as it is named
named : (k n : DigestKind) → n ≡ k → (c : Option Shelf) → IfSome c (λ s. s.kind ≡ k) → IfSome c (λ s. s.others ≡ None) → IfSome c (NamesShelf n (files_of c) (place_of c) (cache_faults c))
named k n same None kind alone = tt
named k n same (Some s) kind alone = record { opening = refl; place = refl; faults = refl; kind_is = kind ∙ sym same; others = alone }

-- the number of a kind names it
numbered : (k : DigestKind) → kind_named (kind_number k) ≡ k
numbered kinds.Sha512T256 = refl
numbered kinds.Sha256 = refl

pub assemble_named-requires-clause-may : goal.assemble_named-requires-clause-may
assemble_named-requires-clause-may g c κs within = λ many d is.
    let l = c.args.index.now in
    let x = c.args.places.now in
    let kits = c.args.kits.items in
    let n = vec_len c.args.kits in
    let o = (g.T.View.held c.args.target).bytes in
    let base = base_of o (image_length l) in
    let plan = is_plan l n n d is in
    let t : Task = record { listing = l; plan = plan_of l n; places = x } in
    let cache = seen g.F.Look c.args.cache in
    let pairs = Some (pairs_of l) in
    let maps = maps_of g.S.Store.members (all_stores kits) in
    let kind = kind_named (kind_number (kind_of l)) in
    subst (λ (e : Deal). Permits g.S.Store g.V.View (picked g.S.Store g.V.View g.T.View.tells t base (cached_in cache) kits) (record { listing = l; plan = e; places = x }) kits kind (files_of cache) (place_of cache)
    (cache_faults cache) pairs maps cache) (same_plan l n (plan_of l n) d plan is)
    (picked_permits t base plan.wants g.S.Store g.V.View g.T.View.tells kits cache (long o (image_length l) g.T.View.tells (g.met.T.View.told c.args.target)) (omega (arith, many, c.args.kits.ok.0))
    kind (numbered (kind_of l)) (files_of cache) (place_of cache) (cache_faults cache) pairs maps
    (named (kind_of l) kind (numbered (kind_of l)) cache c.requires.cache (seen_alone g.F.Look c.args.cache)) refl refl)

pub returns-clause-bytes : goal.returns-clause-bytes
returns-clause-bytes g c = c.assemble_named.ensures.bytes

pub returns-clause-assembled : goal.returns-clause-assembled
returns-clause-assembled g c = c.assemble_named.ensures.assembled

pub returns-clause-kept : goal.returns-clause-kept
returns-clause-kept g c = λ one. c.assemble_named.ensures.kept (sym c.args.kits.ok.0 ∙ one)

pub returns-clause-kits : goal.returns-clause-kits
returns-clause-kits g c = c.assemble_named.ensures.kits

pub returns-clause-report : goal.returns-clause-report
returns-clause-report g c = c.assemble_named.ensures.report

pub returns-clause-size : goal.returns-clause-size
returns-clause-size g c = c.assemble_named.result.kits.ok.0 ∙ c.assemble_named.ensures.size ∙ sym c.args.kits.ok.0

pub returns-clause-name : goal.returns-clause-name
returns-clause-name g c = c.assemble_named.ensures.name

pub returns-clause-faults : goal.returns-clause-faults
returns-clause-faults g c = c.assemble_named.ensures.faults
