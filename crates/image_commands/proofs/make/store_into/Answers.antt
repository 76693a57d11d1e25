use Rattle.std.proofs.Common.{◌≡◌, ◌<◌, ◌≤◌, ◌∙◌, ℕ, All, [], ◌∷◌, List, Option, Err, IfSome, IsErrAnd, IsSome, length, map, slice_index_or, arith, ap, inl, refl, subst, sym}
use Rattle.std.specs.Map.{count_at}
use Rattle.std.specs.Option.{option_map}
use Rattle.chunk_store.specs.Folders.{chunks}
use Rattle.command_steps.proofs.Given.{stands_there}
use Rattle.command_steps.proofs.Used.{within_none}
use Rattle.command_steps.specs.AnyStores.{asked_in, code_of, source_files, said_in, source_sent}
use Rattle.command_steps.specs.Sources.{storage}
use Rattle.command_worlds.specs.Worlds.{world}
use Rattle.dsy_base.specs.Counts.{raised}
use Rattle.dsy_base.specs.Disk.{Output}
use Rattle.image_commands.proofs.Ended.{stored_into}
use Rattle.image_commands.proofs.GivenStores.{back, gives_store, rose, taken_beside, taken_longer}
use Rattle.image_commands.proofs.Made.{gets_image, if_some, unmade, wrote_alone}
use Rattle.image_commands.proofs.Stored.{SaidAfter, cause_of, if_stored, if_unstored, made_as, said_after, said_more, seen_as, stored_ended}
use Rattle.image_commands.proofs.Viewed.{all_kept, exactly_of, files_of, first_rose, of_first}
use Rattle.image_views.proofs.Viewed.{names_alone}
use Rattle.buzhash_cut.specs.Image.{HasTooManyCuts}
use Rattle.image_commands.specs.Make.{AnySaid, MadeOf, StoredInto, answer_of_storing}
use Rattle.image_views.specs.Views.{AreOf, IfFirst, names_of}
use Rattle.image_commands.proofs.make.store_into.Goals as goal
use Rattle.image_store.specs.StoreImage.{IsOfCutting, SendsOf}
use Rattle.http_wire.specs.declared.reply.Method.TheVariants as method

-- the subfolders are those of the store's folder
pub store_image-views-requires-clause-place : goal.store_image-views-requires-clause-place
store_image-views-requires-clause-place g c = λ lifetimes bounds. if_some c.inner_of.result _ _ (λ s is. ap code_of (sym is ∙ sym c.in-Ok.ensures.located)) c.inner_of.ensures.place

pub end_views-requires-2 : goal.end_views-requires-2
end_views-requires-2 g c =
    let held = g.F.View.View.held in
    let m = (g.F.Files.disk c.take_source.new.files).file_counts in
    let xs = c.args.views.items in
    let known : All (λ y. IsSome (m (held y).name)) xs = λ k e lt. c.in-Ok.ensures.changed.known (held (slice_index_or xs k e)).name (c.requires.known k e lt) in
    record { known = all_kept held xs c.store_image-views.result.0.items c.store_image-views.ensures.kept (λ h. IsSome (m h.name)) known }

pub give_source-requires-clause-located : goal.give_source-requires-clause-located
give_source-requires-clause-located g c = stands_there g.F.Folder.Look.place c.in-Ok.taken c.store_image-views.result.1 c.store_image-views.ensures.place ∙ c.in-Ok.ensures.located

pub returns-in-Err-clause-err : goal.returns-in-Err-clause-err
returns-in-Err-clause-err g c = λ q told are p.
    let at = g.F.Files.disk in
    let store = c.args.store.now in
    let hs = map g.F.View.View.held c.args.views.items in
    let d = at c.args.files.now in
    let e = at c.end_views.new.files in
    let gone = c.end_views.ensures in
    inl (taken_beside (names_of hs) (q ∷ []) store d e (Err c.in-Err.outcome) (names_alone q told hs are) (taken_longer (names_of hs) store d (at c.take_source.new.files) e c.in-Err.outcome c.in-Err.ensures.err gone.kept gone.used), refl, refl)

pub returns : goal.returns
returns g c =
    let files = g.F.Folder.Look.files in
    let place = g.F.Folder.Look.place in
    let counts = g.F.Folder.Look.faults in
    let state = g.D.Dial.state in
    let at = g.F.Files.disk in
    let kind = c.args.by.now.digest in
    let s = c.args.by.now.sizes in
    let store = c.args.store.now in
    let held = g.F.View.View.held in
    let faults = g.F.View.View.faults in
    let xs = c.args.views.items in
    let some : 0 < length xs = omega (arith, c.requires.some) in
    let ys = c.store_image-views.result.0.items in
    let took = c.in-Ok.ensures in
    let old = c.in-Ok.taken in
    let new = c.store_image-views.result.1 in
    let r = c.store_image-views.result.2 in
    let before = source_files files old in
    let after = source_files files new in
    let k = state c.args.dial.now in
    let j = state c.give_source.new.dial in
    let a = at c.args.files.now in
    let d = at c.take_source.new.files in
    let e = at c.give_source.new.files in
    let w = storage d k in
    let v = storage e j in
    let end = c.end_views-2.ensures in
    let give = c.give_source.ensures in
    let gave = gives_store files place counts state (names_of (map held ys)) d (at c.end_views-2.new.files) e k j store new end.kept end.used give.folders give.changed give.used give.dialed give.given in
    let added = subst (λ m. IfFirst (λ y. raised (count_at d.file_counts (held y).name) (faults y) ≤ count_at m (held y).name) ys) (sym give.counts) end.added in
    let done = c.store_image-views.ensures in
    let there = stands_there place old new done.place ∙ took.located in
    let ended = λ (q : List ℕ) (told : Option (List ℕ)) (are : AreOf q told (map held xs)) (p : Output).
    let holds = made_as (λ b. b.items) kind s told r before after (exactly_of held xs q told some are kind s (λ b. b.items) (option_map chunks before) (option_map chunks after) r done.exactly)
    (files_of held xs q told some are kind s (option_map chunks before) before after done.files) in
    stored_into store kind s q told before k j p a d e (seen_as (λ b. b.items) (answer_of_storing r)) (taken_beside [] (q ∷ []) store a d _ (within_none (q ∷ [])) took.ok)
    (stored_ended kind s q told store before w v (λ b. b.items) r (new ≡ old)
    (of_first held xs q told some are (λ o. IfSome o (λ t. HasTooManyCuts s t → IsErrAnd r IsOfCutting × (new ≡ old))) done.many)
    (cause_of (λ b. b.items) held xs q told some are kind s r done.cause)
    (back files place counts state w v store old new done.place took.located gave.folders gave.given (MadeOf kind s told (seen_as (λ b. b.items) r)) (SaidAfter kind s told (seen_as (λ b. b.items) r)) (said_more kind s told (seen_as (λ b. b.items) r)) done.tells holds (said_after (λ b. b.items) held xs q told some are kind s r (said_in files state new) done.said))
    (λ is. back files place counts state w v store old new done.place took.located gave.folders gave.given (λ f g. (g ≡ f) × MadeOf kind s told (seen_as (λ b. b.items) r) f g) AnySaid (λ a b keeps says. tt) done.tells (unmade kind s told (seen_as (λ b. b.items) r) before after (ap (source_files files) (done.untouched is)) holds) tt)
    (λ is. first_rose held faults d e xs ys q told some done.kept are c.requires.fresh added (done.image_faults.first.cause is))
    (λ is. rose files place counts state w v store old new done.place took.located gave.folders gave.given took.fresh (done.store_faults.cause is))
    (wrote_alone store w v q told (map held xs) (map held ys) done.kept are gave.kept)
    (gets_image place state kind s told old new store w.dial.ended v.dial.ended took.unused there
    (of_first held xs q told some are (λ o. SendsOf kind s o (asked_in method.Get state old) (asked_in method.Get state new) (source_sent state old) (source_sent state new)) done.sends) done.queries give.ended)) in
    rw c.answer_of.ensures (record {
      ok = if_stored (λ b. b.items) (λ q told. AreOf q told (map held xs)) (λ q told x. (p : Output) → StoredInto store kind s q told (world a k p) x (world e j p)) (answer_of_storing r) ended;
      err = if_unstored (λ b. b.items) (λ q told. AreOf q told (map held xs)) (λ q told x. (p : Output) → StoredInto store kind s q told (world a k p) x (world e j p)) (answer_of_storing r) ended;
    })
