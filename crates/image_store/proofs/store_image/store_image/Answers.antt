use Rattle.std.proofs.Common.{◌≡◌, IfSome, length, ap, arith, sym}
use Rattle.std.proofs.lemmas.List.{length-map}
use Rattle.buzhash_cut.specs.Image.{IsIndexOfImage}
use Rattle.caibx_codec.specs.Listing.{image_length, kind_of}
use Rattle.image_store.proofs.Answered.{few_cuts, if_err}
use Rattle.image_store.proofs.Views.{all_kept, all_kept_as, if_ok}
use Rattle.image_store.specs.StoreImage.{IsOfImage, StoresImage, PutsFilesOf, SaysOf, SendsOf, AsksOf}
use Rattle.image_store.proofs.store_image.store_image.Goals as goal

pub store_listed-requires-clause-some : goal.store_listed-requires-clause-some
store_listed-requires-clause-some g c =
    omega (arith, ap length c.index_of-views.ensures.kept, length-map c.args.views.items (λ v. g.V.View.held v), length-map c.index_of-views.result.0.items (λ v. g.V.View.held v), c.requires.some)

pub store_listed-requires-clause-index : goal.store_listed-requires-clause-index
store_listed-requires-clause-index g c = λ lifetimes bounds. all_kept_as (λ v. g.V.View.held v) c.args.kind (kind_of c.in-Ok.index) (sym (rw c.in-Ok.is at c.index_of-views.ensures.kind))
    (λ kind h. IfSome h.bytes (λ t. IsIndexOfImage kind c.args.sizes.now t c.in-Ok.index)) c.args.views.items c.index_of-views.result.0.items c.index_of-views.ensures.kept
    (rw c.in-Ok.is at c.index_of-views.ensures.exactly)

pub store_listed-requires-clause-size : goal.store_listed-requires-clause-size
store_listed-requires-clause-size g c = λ lifetimes bounds. all_kept (λ v. g.V.View.held v) (λ h. image_length c.in-Ok.index ≡ h.size) c.args.views.items c.index_of-views.result.0.items c.index_of-views.ensures.kept
    (rw c.in-Ok.is at c.index_of-views.ensures.size)

pub returns-clause-exactly : goal.returns-clause-exactly
returns-clause-exactly g c = all_kept_as (λ v. g.V.View.held v) (kind_of c.in-Ok.index) c.args.kind (rw c.in-Ok.is at c.index_of-views.ensures.kind)
    (λ kind h. IfSome h.bytes (λ t. IfSome (g.S.Store.holds c.args.store) (λ old. IfSome (g.S.Store.holds c.store_listed.result.1) (λ new. StoresImage kind c.args.sizes.now (λ b. b.items) t old new c.store_listed.result.2))))
    c.index_of-views.result.0.items c.args.views.items (sym c.index_of-views.ensures.kept) c.store_listed.ensures.exactly

pub returns-clause-files : goal.returns-clause-files
returns-clause-files g c = all_kept_as (λ v. g.V.View.held v) (kind_of c.in-Ok.index) c.args.kind (rw c.in-Ok.is at c.index_of-views.ensures.kind)
    (λ kind h. PutsFilesOf kind c.args.sizes.now h.bytes (g.S.Store.holds c.args.store) (g.S.Store.folder c.args.store) (g.S.Store.folder c.store_listed.result.1))
    c.index_of-views.result.0.items c.args.views.items (sym c.index_of-views.ensures.kept) c.store_listed.ensures.files

pub returns-clause-said : goal.returns-clause-said
returns-clause-said g c = if_ok c.store_listed.result.2 _ _ (λ b. all_kept_as (λ v. g.V.View.held v) (kind_of c.in-Ok.index) c.args.kind (rw c.in-Ok.is at c.index_of-views.ensures.kind)
    (λ kind h. SaysOf kind c.args.sizes.now h.bytes b.items (g.S.Store.said c.store_listed.result.1))
    c.index_of-views.result.0.items c.args.views.items (sym c.index_of-views.ensures.kept)) c.store_listed.ensures.said

pub returns-clause-many : goal.returns-clause-many
returns-clause-many g c = λ k d lt. few_cuts c.args.kind c.args.sizes.now _ c.in-Ok.index _ (λ t many index.
    let more = c.many_cuts.ensures.value c.args.kind c.args.sizes.now t c.in-Ok.index many index in
    omega (arith, more, rw c.in-Ok.is at c.index_of-views.ensures.few)) ((rw c.in-Ok.is at c.index_of-views.ensures.exactly) k d lt)

pub returns-clause-cause : goal.returns-clause-cause
returns-clause-cause g c = if_err c.store_listed.result.2 _ _ (λ e. all_kept (λ v. g.V.View.held v)
    (λ h. IsOfImage c.args.sizes.now h.bytes e)
    c.index_of-views.result.0.items c.args.views.items (sym c.index_of-views.ensures.kept)) c.store_listed.ensures.cause

pub returns-clause-asks : goal.returns-clause-asks
returns-clause-asks g c = all_kept_as (λ v. g.V.View.held v) (kind_of c.in-Ok.index) c.args.kind (rw c.in-Ok.is at c.index_of-views.ensures.kind)
    (λ kind h. AsksOf kind c.args.sizes.now h.bytes (g.S.Store.asked c.args.store) (g.S.Store.asked c.store_listed.result.1))
    c.index_of-views.result.0.items c.args.views.items (sym c.index_of-views.ensures.kept) c.store_listed.ensures.asks

pub returns-clause-sends : goal.returns-clause-sends
returns-clause-sends g c = all_kept_as (λ v. g.V.View.held v) (kind_of c.in-Ok.index) c.args.kind (rw c.in-Ok.is at c.index_of-views.ensures.kind)
    (λ kind h. SendsOf kind c.args.sizes.now h.bytes (g.S.Store.asked c.args.store) (g.S.Store.asked c.store_listed.result.1) (g.S.Store.sent c.args.store) (g.S.Store.sent c.store_listed.result.1))
    c.index_of-views.result.0.items c.args.views.items (sym c.index_of-views.ensures.kept) c.store_listed.ensures.sends
