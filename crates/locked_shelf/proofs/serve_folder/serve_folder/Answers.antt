use Rattle.std.proofs.Common.{◌≡◌, Bool, IfSome, refl, subst, sym}
use Rattle.chunk_store.specs.Kinds.{kind_named, kind_number}
use Rattle.chunk_store.specs.declared.id.DigestKind.{DigestKind}
use Rattle.chunk_store.specs.declared.id.DigestKind.TheVariants as kinds
use Rattle.dsy_base.specs.Links.{LinkState}
use Rattle.locked_shelf.specs.Endings.{EndsOver}
use Rattle.locked_shelf.specs.Keepings.{KeepsOpening}
use Rattle.locked_shelf.specs.Listening.{ServesAll, ServesSome}
use Rattle.locked_shelf.proofs.Counting.{serves_all_later, serves_all_still, serves_some_later, serves_some_still}
use Rattle.locked_shelf.proofs.Keeping.{kept_self}
use Rattle.locked_shelf.proofs.serve_folder.serve_folder.Goals as goal

-- the number of a kind names it
numbered : (k : DigestKind) → kind_named (kind_number k) ≡ k
numbered kinds.Sha512T256 = refl
numbered kinds.Sha256 = refl

pub serve_named-requires-clause-kind : goal.serve_named-requires-clause-kind
serve_named-requires-clause-kind g c κs within = sym (numbered c.args.rules.kind)

pub returns-in-Ok-clause-kept : goal.returns-in-Ok-clause-kept
returns-in-Ok-clause-kept g c =
    subst (λ (k : DigestKind). IfSome (g.F.Look.files c.args.folder) (λ first. KeepsOpening k first (g.F.Look.files c.serve_named.result.0))) (numbered c.args.rules.kind) c.serve_named.ensures.kept

pub returns-in-Ok-clause-served : goal.returns-in-Ok-clause-served
returns-in-Ok-clause-served g c = λ h k.
    let state = g.L.Listen.state in
    let ends : DigestKind → Bool → LinkState → Type 0 = λ k. EndsOver k (g.F.Look.files c.args.folder) g.F.Look.never_fails c.args.rules.writable g.L.Link.Link.tells in
    let all = subst (λ (j : DigestKind). ServesAll (ends j) (state c.bind.new.self) (state c.serve_named.new.listen)) (numbered c.args.rules.kind) (c.serve_named.ensures.served h k) in
    serves_all_later (ends c.args.rules.kind) (state c.args.listen.now) (state c.bind.new.self) c.bind.ensures.coming c.bind.ensures.ended (state c.serve_named.new.listen) all

pub returns-in-Ok-clause-lacking : goal.returns-in-Ok-clause-lacking
returns-in-Ok-clause-lacking g c =
    let state = g.L.Listen.state in
    let ends : DigestKind → Bool → LinkState → Type 0 = λ k. EndsOver k (g.F.Look.files c.args.folder) g.F.Look.never_fails c.args.rules.writable g.L.Link.Link.tells in
    let some = subst (λ (k : DigestKind). ServesSome (ends k) (state c.bind.new.self) (state c.serve_named.new.listen)) (numbered c.args.rules.kind) c.serve_named.ensures.lacking in
    serves_some_later (ends c.args.rules.kind) (state c.args.listen.now) (state c.bind.new.self) c.bind.ensures.coming c.bind.ensures.ended (state c.serve_named.new.listen) some

pub returns-in-Err-Failed-clause-kept : goal.returns-in-Err-Failed-clause-kept
returns-in-Err-Failed-clause-kept g c = kept_self c.args.rules.kind (g.F.Look.files c.args.folder)

pub returns-in-Err-Failed-clause-served : goal.returns-in-Err-Failed-clause-served
returns-in-Err-Failed-clause-served g c = λ h k.
    serves_all_still (EndsOver c.args.rules.kind (g.F.Look.files c.args.folder) g.F.Look.never_fails c.args.rules.writable g.L.Link.Link.tells) (g.L.Listen.state c.args.listen.now) (g.L.Listen.state c.bind.new.self) c.bind.ensures.coming c.bind.ensures.ended

pub returns-in-Err-Failed-clause-lacking : goal.returns-in-Err-Failed-clause-lacking
returns-in-Err-Failed-clause-lacking g c =
    serves_some_still (EndsOver c.args.rules.kind (g.F.Look.files c.args.folder) g.F.Look.never_fails c.args.rules.writable g.L.Link.Link.tells) (g.L.Listen.state c.args.listen.now) (g.L.Listen.state c.bind.new.self) c.bind.ensures.coming c.bind.ensures.ended

pub returns-in-Err-Memory-clause-kept : goal.returns-in-Err-Memory-clause-kept
returns-in-Err-Memory-clause-kept g c = kept_self c.args.rules.kind (g.F.Look.files c.args.folder)

pub returns-in-Err-Memory-clause-lacking : goal.returns-in-Err-Memory-clause-lacking
returns-in-Err-Memory-clause-lacking g c =
    serves_some_still (EndsOver c.args.rules.kind (g.F.Look.files c.args.folder) g.F.Look.never_fails c.args.rules.writable g.L.Link.Link.tells) (g.L.Listen.state c.args.listen.now) (g.L.Listen.state c.bind.new.self) c.bind.ensures.coming c.bind.ensures.ended
