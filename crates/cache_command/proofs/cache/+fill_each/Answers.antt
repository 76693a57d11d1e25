use Rattle.std.proofs.Common.{◌∙◌, ℕ, List, [], ◌∷◌, Ok, Err, inl, inr, refl, rules, subst, sym}
use Rattle.std.proofs.lemmas.List.Elements.{All-rest}
use Rattle.cache_command.proofs.AskedListings.{front_wider, listed_none, listed_then, shares_none, shares_then}
use Rattle.cache_command.proofs.CacheFilled.{fill_passed, fill_stopped, fills_on, none_fell}
use Rattle.cache_command.proofs.Had.{had_first, had_next, had_none, rest_part}
use Rattle.cache_command.proofs.cache.+fill_each.Goals as goal
use Rattle.cache_command.specs.Caching.{of_calls}
use Rattle.cache_command.specs.Filling.{AreHad, each_stores}
use Rattle.caibx_codec.specs.Listing.{Listing}
use Rattle.command_indexes.proofs.Got.{got_not_spelled}
use Rattle.command_indexes.proofs.Spelled.{got_then}
use Rattle.command_indexes.specs.Gets.{IndexGot}
use Rattle.command_steps.proofs.Dialed.{dials_none}
use Rattle.command_steps.specs.Sources.{storage}
use Rattle.command_words.specs.Locations.{NamesIndex, index_place_of}

pub fill_each-requires : goal.fill_each-requires
fill_each-requires g t c κs within =
    let named = All-rest NamesIndex c.in-Some.first.now c.in-Some.rest.now c.args.indexes.now c.in-Some.ensures.cases.0 c.requires.named in
    search rules

pub returns-in_default-clause-had : goal.returns-in_default-clause-had
returns-in_default-clause-had g t c = had_none c.args.indexes.now (storage (g.F.Files.disk c.args.files.now) (g.D.Dial.state c.args.dial.now))

pub returns-in_default-of-clause-had : goal.returns-in_default-of-clause-had
returns-in_default-of-clause-had g t c = had_none c.args.indexes.now (storage (g.F.Files.disk c.args.files.now) (g.D.Dial.state c.args.dial.now))

pub returns-in-Err-clause-had : goal.returns-in-Err-clause-had
returns-in-Err-clause-had g t c =
    let w = storage (g.F.Files.disk c.args.files.now) (g.D.Dial.state c.args.dial.now) in
    let u = storage (g.F.Files.disk c.load_index.new.files) (g.D.Dial.state c.load_index.new.dial) in
    let got = subst (λ (q : List ℕ). IndexGot q w (Err c.in-Err.outcome) u) (c.in-Ok.ensures ∙ c.as_str.ensures) c.in-Err.ensures.ends in
    rw c.in-Some.ensures.cases.0 (had_first c.in-Some.first.now c.in-Some.rest.now w (Err c.in-Err.outcome) u got)

pub returns-clause-had : goal.returns-clause-had
returns-clause-had g t c =
    let w = storage (g.F.Files.disk c.args.files.now) (g.D.Dial.state c.args.dial.now) in
    let u = storage (g.F.Files.disk c.load_index.new.files) (g.D.Dial.state c.load_index.new.dial) in
    let l : Listing = c.in-Ok-load_index.index in
    let got = subst (λ (q : List ℕ). IndexGot q w (Ok l) u) (c.in-Ok.ensures ∙ c.as_str.ensures) c.in-Ok-load_index.ensures.ends in
    rw c.in-Some.ensures.cases.0 (had_first c.in-Some.first.now c.in-Some.rest.now w (Ok l) u got)

pub returns-in-Ok-filled-clause-had : goal.returns-in-Ok-filled-clause-had
returns-in-Ok-filled-clause-had g t c =
    let w = storage (g.F.Files.disk c.args.files.now) (g.D.Dial.state c.args.dial.now) in
    let u = storage (g.F.Files.disk c.load_index.new.files) (g.D.Dial.state c.load_index.new.dial) in
    let v = storage (g.F.Files.disk c.fill_each.new.files) (g.D.Dial.state c.fill_each.new.dial) in
    let l : Listing = c.in-Ok-load_index.index in
    let got = subst (λ (q : List ℕ). IndexGot q w (Ok l) u) (c.in-Ok.ensures ∙ c.as_str.ensures) c.in-Ok-load_index.ensures.ends in
    rw c.in-Some.ensures.cases.0 (had_next c.in-Some.first.now c.in-Some.rest.now w (Ok l) u got v c.fill_each.ensures.had)

pub returns-in-Err-clause-filled : goal.returns-in-Err-clause-filled
returns-in-Err-clause-filled g t c =
    let w = storage (g.F.Files.disk c.args.files.now) (g.D.Dial.state c.args.dial.now) in
    let u = storage (g.F.Files.disk c.load_index.new.files) (g.D.Dial.state c.load_index.new.dial) in
    let q = c.in-Some.first.now in
    let got = subst (λ (q : List ℕ). IndexGot q w (Err c.in-Err.outcome) u) (c.in-Ok.ensures ∙ c.as_str.ensures) c.in-Err.ensures.ends in
    rw c.in-Some.ensures.cases.0 (inl (got_not_spelled q (index_place_of q) w c.in-Err.outcome u got, refl))

pub returns-clause-filled : goal.returns-clause-filled
returns-clause-filled g t c =
    let D = g.F.Folder.Look in
    let store = g.S.Store in
    let l : Listing = c.in-Ok-load_index.index in
    let old = c.args.filling.cached in
    let new = c.fill_by-filling.result.0.cached in
    let before = each_stores (old.chain ∷ c.args.filling.further.items) in
    let after = each_stores (new.chain ∷ c.fill_by-filling.result.0.further.items) in
    let by = c.fill_by-filling.ensures.filled in
    let w = storage (g.F.Files.disk c.args.files.now) (g.D.Dial.state c.args.dial.now) in
    let u = storage (g.F.Files.disk c.load_index.new.files) (g.D.Dial.state c.load_index.new.dial) in
    let got = subst (λ (q : List ℕ). IndexGot q w (Ok l) u) (c.in-Ok.ensures ∙ c.as_str.ensures) c.in-Ok-load_index.ensures.ends in
    let listed = got_then c.in-Some.first.now w u u l got (dials_none u.dial) in
    let stopped = fill_stopped (of_calls store before after c.fill_by-filling.result.0.refuser (D.faults old.shelf.folder) (D.faults new.shelf.folder)) l (D.files old.shelf.folder) (D.files new.shelf.folder)
    by.0 c.in-Err-filled.outcome (sym by.1 ∙ c.in-Err-filled.is) by.2 in
    rw c.in-Some.ensures.cases.0 (inr (l, listed, inl stopped))

pub returns-in-Ok-filled-clause-filled : goal.returns-in-Ok-filled-clause-filled
returns-in-Ok-filled-clause-filled g t c =
    let D = g.F.Folder.Look in
    let store = g.S.Store in
    let l : Listing = c.in-Ok-load_index.index in
    let old = c.args.filling.cached in
    let mid = c.fill_by-filling.result.0.cached in
    let new = c.fill_each.result.0.cached in
    let by = c.fill_by-filling.ensures.filled in
    let q = c.in-Some.first.now in
    let rest = c.in-Some.rest.now in
    let w = storage (g.F.Files.disk c.args.files.now) (g.D.Dial.state c.args.dial.now) in
    let u = storage (g.F.Files.disk c.load_index.new.files) (g.D.Dial.state c.load_index.new.dial) in
    let v = storage (g.F.Files.disk c.fill_each.new.files) (g.D.Dial.state c.fill_each.new.dial) in
    let had : AreHad rest u v = c.fill_each.ensures.had in
    let got = subst (λ (q : List ℕ). IndexGot q w (Ok l) u) (c.in-Ok.ensures ∙ c.as_str.ensures) c.in-Ok-load_index.ensures.ends in
    let listed = got_then q w u v l got had.dials in
    let b0 = each_stores (old.chain ∷ c.args.filling.further.items) in
    let b1 = each_stores (mid.chain ∷ c.fill_by-filling.result.0.further.items) in
    let b2 = each_stores (new.chain ∷ c.fill_each.result.0.further.items) in
    let passed = fill_passed (of_calls store b0 b1 c.fill_by-filling.result.0.refuser (D.faults old.shelf.folder) (D.faults mid.shelf.folder)) l (D.files old.shelf.folder) (D.files mid.shelf.folder)
    by.0 _ (sym by.1 ∙ c.in-Ok-filled.is) by.2 in
    let first = c.fill_by-filling.ensures.asks in
    let then = c.fill_each.ensures.asks in
    let fell = none_fell store (l ∷ []) (old.chain ∷ c.args.filling.further.items) (mid.chain ∷ c.fill_by-filling.result.0.further.items) first in
    let falls = none_fell store then.0 (mid.chain ∷ c.fill_by-filling.result.0.further.items) (new.chain ∷ c.fill_each.result.0.further.items) then.2 in
    rw c.in-Some.ensures.cases.0 (fills_on store (D.faults old.shelf.folder) (D.faults mid.shelf.folder) (D.faults new.shelf.folder) b0 b1 b2 c.fill_by-filling.result.0.refuser c.fill_each.result.0.refuser
    c.fill_by-filling.ensures.never_falls c.fill_each.ensures.never_falls first.0.keeps.files fell falls w u v (rest_part q rest w (Ok l) u got v had)
    q rest l (D.files old.shelf.folder) (D.files mid.shelf.folder) (D.files new.shelf.folder) c.fill_each.result.1 listed passed c.fill_each.ensures.filled)

pub returns-in_default-clause-asks : goal.returns-in_default-clause-asks
returns-in_default-clause-asks g t c = ([], tt, listed_none _ (c.args.filling.cached.chain ∷ c.args.filling.further.items), shares_none g.S.Store (c.args.filling.cached.chain ∷ c.args.filling.further.items))

pub returns-in_default-of-clause-asks : goal.returns-in_default-of-clause-asks
returns-in_default-of-clause-asks g t c = ([], tt, listed_none _ (c.args.filling.cached.chain ∷ c.args.filling.further.items), shares_none g.S.Store (c.args.filling.cached.chain ∷ c.args.filling.further.items))

pub returns-in-Err-clause-asks : goal.returns-in-Err-clause-asks
returns-in-Err-clause-asks g t c = ([], tt, listed_none _ (c.args.filling.cached.chain ∷ c.args.filling.further.items), shares_none g.S.Store (c.args.filling.cached.chain ∷ c.args.filling.further.items))

pub returns-clause-asks : goal.returns-clause-asks
returns-clause-asks g t c =
    let w = storage (g.F.Files.disk c.args.files.now) (g.D.Dial.state c.args.dial.now) in
    let u = storage (g.F.Files.disk c.load_index.new.files) (g.D.Dial.state c.load_index.new.dial) in
    let l : Listing = c.in-Ok-load_index.index in
    let got = subst (λ (q : List ℕ). IndexGot q w (Ok l) u) (c.in-Ok.ensures ∙ c.as_str.ensures) c.in-Ok-load_index.ensures.ends in
    (l ∷ [], rw c.in-Some.ensures.cases.0 (got_then c.in-Some.first.now w u u l got (dials_none u.dial), tt), c.fill_by-filling.ensures.asks, c.fill_by-filling.ensures.shares)

pub returns-in-Ok-filled-clause-asks : goal.returns-in-Ok-filled-clause-asks
returns-in-Ok-filled-clause-asks g t c =
    let q = c.in-Some.first.now in
    let names = c.in-Some.rest.now in
    let w = storage (g.F.Files.disk c.args.files.now) (g.D.Dial.state c.args.dial.now) in
    let u = storage (g.F.Files.disk c.load_index.new.files) (g.D.Dial.state c.load_index.new.dial) in
    let v = storage (g.F.Files.disk c.fill_each.new.files) (g.D.Dial.state c.fill_each.new.dial) in
    let l : Listing = c.in-Ok-load_index.index in
    let had : AreHad names u v = c.fill_each.ensures.had in
    let got = subst (λ (q : List ℕ). IndexGot q w (Ok l) u) (c.in-Ok.ensures ∙ c.as_str.ensures) c.in-Ok-load_index.ensures.ends in
    let rest = c.fill_each.ensures.asks in
    let old = c.args.filling in
    let mid = c.fill_by-filling.result.0 in
    let new = c.fill_each.result.0 in (
      l ∷ rest.0,
      rw c.in-Some.ensures.cases.0 (got_then q w u v l got had.dials, front_wider w u v v (rest_part q names w (Ok l) u got v had) names rest.0 rest.1),
      listed_then _ l rest.0 (old.cached.chain ∷ old.further.items) (mid.cached.chain ∷ mid.further.items) (new.cached.chain ∷ new.further.items) c.fill_by-filling.ensures.asks rest.2,
      shares_then g.S.Store l rest.0 (old.cached.chain ∷ old.further.items) (mid.cached.chain ∷ mid.further.items) (new.cached.chain ∷ new.further.items) c.fill_by-filling.ensures.shares rest.3,
    )
