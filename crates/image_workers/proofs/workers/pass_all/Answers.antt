use Rattle.std.proofs.Common.{◌≡◌, ◌∙◌, Bool, IfSome, Option, None, Some, is_some, refl, slice_index_or, subst, sym}
use Rattle.assembler.specs.Stages.{task}
use Rattle.cache_store.specs.Shelves.{Shelf, Shelved}
use Rattle.chunk_sources.specs.Caches.{seen}
use Rattle.chunk_store.specs.Kinds.{kind_named}
use Rattle.dsy_base.specs.declared.look.Look.{Ghosts as LookWords}
use Rattle.image_workers.proofs.Doors.{same_door}
use Rattle.image_workers.specs.Lanes.{LaneWorks}
use Rattle.image_workers.specs.Shared.{door_shelf}
use Rattle.image_workers.proofs.workers.pass_all.Goals as goal

seen_some : {F : Type 0} (look : LookWords F) (cache : Option (Shelved F)) → is_some (seen look cache) ≡ is_some cache
seen_some look None = refl
seen_some look (Some s) = refl

seen_told : {F : Type 0} (look : LookWords F) (tells : Bool) → ((f : F) → is_some (look.files f) ≡ tells) → (cache : Option (Shelved F)) → IfSome (seen look cache) (λ s. is_some s.files ≡ tells)
seen_told look tells told None = tt
seen_told look tells told (Some s) = told s.folder

pub returns-clause-each : goal.returns-clause-each
returns-clause-each g c = λ k a less.
    let n = g.N.FolderName in
    let t = task g.R.RunName.run.listing c.args.wants.now in
    let cache = seen g.F.Look c.args.cache in
    subst (λ (e : Option Shelf). LaneWorks g.S.Store g.V.View g.R.RunName.run t e g.T.View.never_fails g.F.Look.never_fails k (slice_index_or c.args.lanes.now k a) (slice_index_or c.go_all.new.lanes k a))
    (same_door (kind_named n.kind) n.opening n.pairs n.stores c.lock_cache-cache.result cache (c.lock_cache-cache.ensures.there ∙ sym (seen_some g.F.Look c.args.cache)))
    (subst (λ (never : Bool). LaneWorks g.S.Store g.V.View g.R.RunName.run t (door_shelf (kind_named n.kind) n.opening n.pairs n.stores 0 c.lock_cache-cache.result) never g.F.Look.never_fails k (slice_index_or c.args.lanes.now k a)
    (slice_index_or c.go_all.new.lanes k a))
    g.met.T.Target.parts_fail (c.go_all.ensures.each k a less))

pub returns-clause-stocked : goal.returns-clause-stocked
returns-clause-stocked g c =
    c.unlock_cache.ensures.stocked (seen g.F.Look c.args.cache) (seen_some g.F.Look c.args.cache ∙ sym c.lock_cache-cache.ensures.there) c.requires.named
    (seen_told g.F.Look g.F.Look.tells (g.met.F.Look g.world.𝓛 g.world.𝓜 g.world.𝓡 ((λ s y. y), (λ y. y), (λ y. y), (λ y. y))).told c.args.cache)
