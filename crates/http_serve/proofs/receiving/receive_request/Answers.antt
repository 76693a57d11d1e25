use Rattle.std.proofs.Common.{ℕ, ◌≤◌, List, ◌++◌, length, Option, Some, None, Result, Ok, Err, refl, ap, subst, sym, ◌∙◌, arith, length-drop}
use Rattle.std.specs.Prelude.{IfOk, IfSome}
use Rattle.http_frames.specs.HeadEnd.{IsFirstEnd, head_limit}
use Rattle.http_serve.specs.Coming.{ComesFirst}
use Rattle.http_serve.specs.Requests.{IsRequestHead}
use Rattle.http_serve.specs.Streams.{stream_in}
use Rattle.http_serve.proofs.Nexts.{endless_next, whole_next}
use Rattle.http_serve.proofs.Streaming.{sent_same}
use Rattle.http_serve.proofs.receiving.receive_request.Goals as goal

some_more : {A E : Type 0} {P Q : A → Type 0} (r : Result (Option A) E) → ((x : A) → P x → Q x) → IfOk r (λ o. IfSome o P) → IfOk r (λ o. IfSome o Q)
some_more (Ok (Some x)) f p = f x p
some_more (Ok None) f p = tt
some_more (Err e) f p = tt

pub returns-in-Ok-Endless-clause-size : goal.returns-in-Ok-Endless-clause-size
returns-in-Ok-Endless-clause-size g c =
    omega (arith, ap length c.skip.ensures, length-drop 16384 c.receive_head.new.waiting.items, c.receive_head.ensures.size)

pub returns-in-Ok-Endless-clause-found : goal.returns-in-Ok-Endless-clause-found
returns-in-Ok-Endless-clause-found g c =
    let w = (g.S.Service.protocol (g.S.Service.setting c.args.desk.now)).reading in
    let inside = rw c.in-Ok-Endless.field-0-is at c.in-Ok-Endless.ensures.inside in
    let found = rw c.in-Ok-Endless.field-0-is at c.in-Ok-Endless.ensures.found in
    endless_next w c.receive_head.new.waiting.items _ _ _ _ c.in-Ok-Endless.ensures.ok inside found c.endless.ensures c.skip.ensures

pub returns-in-Ok-Endless-clause-kept : goal.returns-in-Ok-Endless-clause-kept
returns-in-Ok-Endless-clause-kept g c =
    sent_same c.skip.new.waiting.items c.receive_head.new.waiting.items (g.K.Link.state c.receive_head.new.link).traffic ∙ c.receive_head.ensures.kept

pub returns-clause-found : goal.returns-clause-found
returns-clause-found g c =
    let w = (g.S.Service.protocol (g.S.Service.setting c.args.desk.now)).reading in
    let inside = rw c.in-Ok-Ends.field-0-is at c.in-Ok-Ends.ensures.inside in
    let found = rw c.in-Ok-Ends.field-0-is at c.in-Ok-Ends.ensures.found in
    let near : c.in-Ok-Ends.head ≤ head_limit = omega (arith, inside, c.receive_head.ensures.size) in
    let says = subst (λ (b : List ℕ). (more : List ℕ) → IsFirstEnd (b ++ more) c.in-Ok-Ends.head → IsRequestHead w (b ++ more) c.in-Ok-Ends.head c.in-Ok.request) c.as_slice.ensures.value c.in-Ok.ensures.found in
    let a = stream_in c.args.waiting.now.items (g.K.Link.state c.args.link.now).traffic in
    let b = stream_in c.receive_rest.new.waiting.items (g.K.Link.state c.receive_rest.new.link).traffic in
    some_more c.receive_rest.result (λ r h. subst (λ q. ComesFirst w q a b) (sym h.0)
    (whole_next w c.receive_head.new.waiting.items c.skip-2.new.waiting.items (g.K.Link.state c.receive_head.new.link).traffic a b c.in-Ok-Ends.head c.in-Ok.request c.in-Ok-Ends.ensures.ok inside near found says c.skip-2.ensures (w.size c.in-Ok.request) r.body.items refl h.1)) c.receive_rest.ensures.found
