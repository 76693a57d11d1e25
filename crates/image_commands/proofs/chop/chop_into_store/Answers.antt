use Rattle.std.proofs.Common.{◌≡◌, ◌≤◌, ◌∙◌, ◌+◌, ℕ, List, [], ◌∷◌, All, IsSome, map, ap, arith, inl, inr, refl, subst, sym}
use Rattle.std.specs.Map.{count_at}
use Rattle.command_steps.proofs.Given.{stands_there}
use Rattle.command_steps.proofs.Used.{within_none}
use Rattle.command_steps.specs.AnyStores.{source_files}
use Rattle.command_steps.specs.Sources.{storage}
use Rattle.command_steps.specs.Uses.{Uses}
use Rattle.dsy_base.specs.Counts.{raised}
use Rattle.image_commands.proofs.Chopped.{chop_ended, chopped_to, gets_only, gets_to, if_told, order_of, says_before, stops_server, unchanged}
use Rattle.image_commands.proofs.Ended.{chop_ends}
use Rattle.image_commands.proofs.GivenStores.{back, gives_store, refused_read, rose, says_more, taken_beside, taken_longer}
use Rattle.image_views.proofs.Viewed.{view_rose}
use Rattle.image_commands.specs.Chop.{ChoppedTo}
use Rattle.image_commands.specs.Make.{AnySaid}
use Rattle.image_commands.proofs.chop.chop_into_store.Goals as goal
use Rattle.image_chop.specs.Chopping.{SaysBefore, most_seen, seen_to}
use Rattle.image_store.specs.PutChunks.{SaysAll}

pub end_image-requires-clause-known : goal.end_image-requires-clause-known
end_image-requires-clause-known g c =
    let at = g.F.Files.disk in
    let view = c.in_ok-opened.ensures in
    let read = refused_read [] c.args.words.store (at c.open_for.new.files) (at c.take_source.new.files) c.in-Err.outcome c.in-Err.ensures.err in
    subst (λ (n : List ℕ). IsSome ((at c.take_source.new.files).file_counts n)) (sym view.fresh.1) (read.known c.args.words.image view.known)

pub end_image-requires-clause-named : goal.end_image-requires-clause-named
end_image-requires-clause-named g c =
    let view = c.in_ok-opened.ensures in
    subst (λ (n : List ℕ). All (λ h. h.name ≡ n) (map g.F.View.View.held c.in_ok-opened.opened.others.items)) (sym view.fresh.1) view.named

pub end_image-requires-2-clause-known : goal.end_image-requires-2-clause-known
end_image-requires-2-clause-known g c =
    let m = (g.F.Files.disk c.take_source.new.files).file_counts in
    subst (λ (n : List ℕ). IsSome (m n)) (sym (ap (λ h. h.name) c.chop-first.ensures.kept ∙ c.in_ok-opened.ensures.fresh.1)) (c.in-Ok.ensures.changed.known c.args.words.image c.in_ok-opened.ensures.known)

pub end_image-requires-2-clause-named : goal.end_image-requires-2-clause-named
end_image-requires-2-clause-named g c =
    let view = c.in_ok-opened.ensures in
    let done = c.chop-first.ensures in
    subst (λ hs. All (λ h. h.name ≡ (g.F.View.View.held c.chop-first.result.0).name) hs) (sym done.others)
    (subst (λ (n : List ℕ). All (λ h. h.name ≡ n) (map g.F.View.View.held c.in_ok-opened.opened.others.items)) (sym (ap (λ h. h.name) done.kept ∙ view.fresh.1)) view.named)

pub give_source-requires-clause-located : goal.give_source-requires-clause-located
give_source-requires-clause-located g c = stands_there g.F.Folder.Look.place c.in-Ok.taken c.chop-first.result.1 c.chop-first.ensures.place ∙ c.in-Ok.ensures.located

pub returns-in-Err : goal.returns-in-Err
returns-in-Err g c =
    let at = g.F.Files.disk in
    let listed = c.in_ok-listed.ensures in
    let view = c.in_ok-opened.ensures in
    let b = at c.open_for.new.files in
    let d = at c.take_source.new.files in
    let e = at c.end_image.new.files in
    let gone = c.end_image.ensures in
    let used = subst (λ (n : List ℕ). Uses (n ∷ []) [] d e) view.fresh.1 gone.used in
    let taken = taken_longer (c.args.words.image ∷ []) c.args.words.store b d e c.in-Err.outcome c.in-Err.ensures.err gone.kept used in
    record { ends = λ o. inr (record { disk = _; dial = _; out = _; gave = c.in_ok-listed.listed; did = (listed.ends, refl); then = inr (record { disk = _; dial = _; out = _; gave = _; did = ((view.ok, view.kept, view.used), refl, refl); then = inl (taken, refl, refl) }) }) }

pub returns : goal.returns
returns g c =
    let files = g.F.Folder.Look.files in
    let place = g.F.Folder.Look.place in
    let faults = g.F.Folder.Look.faults in
    let state = g.D.Dial.state in
    let at = g.F.Files.disk in
    let listed = c.in_ok-listed.ensures in
    let view = c.in_ok-opened.ensures in
    let l = c.in_ok-listed.listed in
    let told = (g.F.View.View.held c.in_ok-opened.opened.first).bytes in
    let q = c.args.words.image in
    let took = c.in-Ok.ensures in
    let old = c.in-Ok.taken in
    let new = c.chop-first.result.1 in
    let store = c.args.words.store in
    let b = at c.open_for.new.files in
    let d = at c.take_source.new.files in
    let e = at c.give_source.new.files in
    let k = state c.load_index.new.dial in
    let j = state c.give_source.new.dial in
    let w = storage d k in
    let v = storage e j in
    let gone = c.end_image-2.ensures in
    let give = c.give_source.ensures in
    let done = c.chop-first.ensures in
    let r = c.chop-first.result.2 in
    let named = ap (λ h. h.name) done.kept ∙ view.fresh.1 in
    let used = subst (λ (n : List ℕ). Uses (n ∷ []) [] d (at c.end_image-2.new.files)) named gone.used in
    let gave = gives_store files place faults state (q ∷ []) d (at c.end_image-2.new.files) e k j store new gone.kept used give.folders give.changed give.used give.dialed give.given in
    let m = g.F.View.View.faults c.chop-first.result.0 in
    let added = subst (λ (n : List ℕ). raised (count_at d.file_counts n) m ≤ count_at e.file_counts n) named
    (subst (λ counts. raised (count_at d.file_counts (g.F.View.View.held c.chop-first.result.0).name) m ≤ count_at counts (g.F.View.View.held c.chop-first.result.0).name) (sym give.counts) gone.added) in
    let there = stands_there place old new done.place ∙ took.located in
    let stands = chopped_to l told r (source_files files old) (source_files files new) done.holds done.changed done.files (order_of _ l told old new r done.order) in
    let given = back files place faults state w v store old new done.place took.located gave.folders gave.given (ChoppedTo l told r) (SaysAll l (seen_to l r)) (says_more l (seen_to l r)) done.tells stands done.told in
    let gets = gets_only place state l (most_seen l r) old new store w.dial.ended v.dial.ended took.unused there done.asks done.queries give.ended done.sends in
    let chopped = chop_ended l q told store (source_files files old) w v (g.F.View.View.held c.in_ok-opened.opened.first).size r view.sized done.size done.right done.first given
    (λ n is. back files place faults state w v store old new done.place took.located gave.folders gave.given (λ f g. g ≡ f) AnySaid (λ a b keeps says. tt) done.tells
    (unchanged (source_files files old) (source_files files new) (ap (source_files files) (done.untouched n is).1)) tt)
    (λ is. view_rose d e q (g.F.View.View.faults c.in_ok-opened.opened.first) (g.F.View.View.faults c.chop-first.result.0) added view.fresh.0 (done.image_faults.cause is))
    (λ is. rose files place faults state w v store old new done.place took.located gave.folders gave.given took.fresh (done.store_faults.cause is))
    gave.kept gets
    (stops_server _ l q told store (source_files files old) w v old new r done.order
    (λ k says. back files place faults state w v store old new done.place took.located gave.folders gave.given (λ f g. f ≡ f) (SaysBefore l k) (says_before l k) done.tells (if_told (source_files files old) (source_files files new)) says)
    (λ k asks. gets_to place state l (k + 1) old new store w.dial.ended v.dial.ended took.unused there asks done.queries give.ended (k + 1) (λ q. omega arith))) in
    rw c.answer_of.ensures (record {
      ends = λ o. chop_ends store c.args.words.index q l told (source_files files old) (state c.args.dial.now) k j o (at c.args.files.now) (at c.load_index.new.files) b d e _ listed.ends (view.ok, view.kept, view.used)
          (taken_beside [] (q ∷ []) store b d _ (within_none (q ∷ [])) took.ok) chopped;
    })
