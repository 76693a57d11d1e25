use Rattle.std.proofs.Common.{◌≡◌, ◌∷◌, [], All, IsSome, get_or, rules, ap, subst, sym, ◌∙◌}
use Rattle.command_steps.proofs.Used.{folder_given, uses_twice}
use Rattle.command_steps.specs.Uses.{Uses}
use Rattle.image_views.proofs.Viewed.{all_front}
use Rattle.store_commands.proofs.Looking.{at_last, look_ended}
use Rattle.store_commands.proofs.looks.+end_looks.Goals as goal

pub end_looks-requires : goal.end_looks-requires
end_looks-requires g t c =
    let at = g.F.Files.disk in
    let place = g.F.Look.Look.place in
    let d = at c.args.files.now in
    let rest = c.pop.new.self.items in
    let reads = look_ended d (at c.end_look.new.self) _ _ c.end_look.ensures.kept c.end_look.ensures.counts in
    let all = all_front (λ l. IsSome (d.folder_counts (place l))) c.args.looks.items rest (c.in-Some.look ∷ []) (sym c.in-Some.ensures.items) c.requires.known in
    let known : All (λ l. IsSome ((at c.end_look.new.self).folder_counts (place l))) rest = λ k l lt. reads.folder_known (place (get_or rest k l)) (all k l lt) in
    search rules

pub returns-in-Some-clause-used : goal.returns-in-Some-clause-used
returns-in-Some-clause-used g t c = λ q named.
    let at = g.F.Files.disk in
    let place = g.F.Look.Look.place in
    let d = at c.args.files.now in
    let b = at c.end_look.new.self in
    let rest = c.pop.new.self.items in
    let last = at_last (λ l. place l ≡ q) c.args.looks.items rest c.in-Some.look c.in-Some.ensures.items named in
    let first = folder_given _ d b _ c.end_look.ensures.counts in
    uses_twice [] (q ∷ []) d b (at c.end_looks.new.files) (subst (λ p. Uses [] (p ∷ []) d b) (ap place c.into_inner.ensures ∙ last) first)
    (c.end_looks.ensures.used q (all_front (λ l. place l ≡ q) c.args.looks.items rest (c.in-Some.look ∷ []) (sym c.in-Some.ensures.items) named))
