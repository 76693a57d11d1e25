use Rattle.std.proofs.Common.{IsSome, refl, subst, sym}
use Rattle.command_steps.proofs.Taken.{gives_adds}
use Rattle.command_worlds.specs.Worlds.{world}
use Rattle.dsy_base.specs.Disk.{GivesFolder}
use Rattle.store_commands.proofs.GivenFolders.{adds_later, folder_back, gives_rose_later, outcome_ends}
use Rattle.store_commands.proofs.Looking.{places_kept}
use Rattle.store_commands.specs.Verify.{KeepsCounts, StoreVerified}
use Rattle.store_commands.proofs.verify.verify_taken.Goals as goal

pub end_looks-requires : goal.end_looks-requires
end_looks-requires g c =
    let look = g.F.Look.Look in
    let counts = (g.F.Files.disk c.args.files.now).folder_counts in
    let new = c.verify_store_as-verified.new.others.items in
    let places = places_kept look c.args.store.now c.args.taken.looks.items new c.verify_store_as-verified.ensures.others c.requires.places in
    record { known = λ k l lt. subst (λ q. IsSome (counts q)) (sym (places k l lt)) c.requires.folder }

pub returns : goal.returns
returns g c = λ k.
    let D = g.F.Folder.Look in
    let at = g.F.Files.disk in
    let out = g.O.Sink.output in
    let q = c.args.store.now in
    let d = at c.args.files.now in
    let e = at c.end_looks.new.files in
    let b = at c.give_folder.new.files in
    let first = c.args.taken.store in
    let last = c.verify_store_as-verified.new.store in
    let r = c.verify_store_as-verified.result in
    let done = c.verify_store_as-verified.ensures in
    let w = world d k (out c.args.out.now) in
    let v = world b k (out c.verify_store_as-verified.new.out) in
    let given = subst (λ p. GivesFolder e b p (D.faults last)) c.as_str.ensures c.give_folder.ensures.counts in
    let keeps : KeepsCounts w v = record { adds = adds_later d e b c.end_looks.ensures.kept (gives_adds e b q (D.faults last) given); dial = refl; out = done.faults.never_falls } in
    let back = folder_back D q c.as_str.result.now d e b last c.as_str.ensures c.end_looks.ensures.kept.folders c.give_folder.ensures.folders in
    subst (λ x. StoreVerified c.args.how.kind q c.args.how.repair (D.files first) w x v) (sym c.outcome_of.ensures.value)
    (outcome_ends c.args.how.kind q c.args.how.repair (D.files first) (D.files last) w v keeps back r done.ok done.err
    (λ failed. gives_rose_later d e b q (D.faults first) (D.faults last) c.end_looks.ensures.kept given c.requires.fresh (done.store_faults.cause failed))
    done.faults.cause)
