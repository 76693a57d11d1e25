use Rattle.std.proofs.Common.{◌≡◌, List, ℕ, ◌++◌, take, sym, subst, ◌∙◌, Result, Ok, Err}
use Rattle.std.specs.Prelude.{IfOk}
use Rattle.std.proofs.lemmas.List.{take-append-le}
use Rattle.http_serve.proofs.receiving.read_head.Goals as goal

ok_more : {A E : Type 0} {P Q : A → Type 0} (r : Result A E) → ((x : A) → P x → Q x) → IfOk r P → IfOk r Q
ok_more (Ok x) f p = f x p
ok_more (Err e) f p = tt

pub returns-clause-found : goal.returns-clause-found
returns-clause-found g c =
    let w = (g.S.Service.protocol (g.S.Service.setting c.args.desk.now)).reading in
    ok_more c.read.result (λ r says more ends.
    let front : c.split_at.result.0.now ≡ take c.args.n (c.args.bytes.now ++ more) = c.split_at.ensures.front ∙ sym (take-append-le _ _ _ c.requires.inside) in
    record {
      ends = ends;
      near = c.requires.near;
      says = subst (λ (b : List ℕ). w.says b r) front says;
    }) c.read.ensures.ok
