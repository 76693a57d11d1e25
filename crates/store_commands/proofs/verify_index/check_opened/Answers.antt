use Rattle.std.proofs.Common.{◌≡◌, ◌≤◌, ℕ, List, All, IsSome, ap, map, subst, sym}
use Rattle.std.specs.Map.{count_at}
use Rattle.dsy_base.specs.Counts.{raised}
use Rattle.image_views.proofs.Viewed.{view_rose}
use Rattle.store_commands.proofs.VerifyIndex.{checked}
use Rattle.store_commands.proofs.verify_index.check_opened.Goals as goal

pub end_image-requires-clause-known : goal.end_image-requires-clause-known
end_image-requires-clause-known g c =
    subst (λ (n : List ℕ). IsSome ((g.F.Files.disk c.args.files.now).file_counts n)) (sym (ap (λ h. h.name) c.verify_index-first.ensures.kept)) c.requires.known

pub end_image-requires-clause-named : goal.end_image-requires-clause-named
end_image-requires-clause-named g c =
    let held = g.F.View.View.held in
    let done = c.verify_index-first.ensures in
    subst (λ hs. All (λ h. h.name ≡ (held c.verify_index-first.result.0).name) hs) (sym done.others)
    (subst (λ (n : List ℕ). All (λ h. h.name ≡ n) (map held c.args.image.others.items)) (sym (ap (λ h. h.name) done.kept)) c.requires.named)

pub returns-clause-checked : goal.returns-clause-checked
returns-clause-checked g c =
    let d = g.F.Files.disk c.args.files.now in
    let e = g.F.Files.disk c.end_image.new.files in
    let first = c.args.image.first in
    let held = g.F.View.View.held first in
    let done = c.verify_index-first.ensures in
    let m = g.F.View.View.faults c.verify_index-first.result.0 in
    let added = subst (λ (n : List ℕ). raised (count_at d.file_counts n) m ≤ count_at e.file_counts n) (ap (λ h. h.name) done.kept) c.end_image.ensures.added in
    rw c.answer_of.ensures (checked d e held.name c.args.index.now held.bytes held.size c.verify_index-first.result.1 c.requires.sized done.size done.exactly done.inside
    (λ is. view_rose d e held.name (g.F.View.View.faults first) m added c.requires.fresh (done.faults.cause is)))
