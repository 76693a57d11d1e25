use Rattle.std.proofs.Common.{◌≡◌, ◌+◌, ◌-◌, ℕ, arith, sym, ◌∙◌}
use Rattle.std.proofs.lemmas.Grind.{common_steps}
use Rattle.std.proofs.lemmas.Str.Pattern.{rfind_char}
use Rattle.dir_store.proofs.Components.{last_from}
use Rattle.dir_store.proofs.names.last_component.Goals as goal

pub returns-in-Some : goal.returns-in-Some
returns-in-Some c =
    let name = c.args.name.now in
    let slash : ℕ = c.in-Some.slash in
    let found = rw c.in-Some.is at (rfind_char 47 name c.rfind.result c.rfind.ensures.cases (omega arith)) in
    let here : slash + 1 - 1 ≡ slash = omega arith in
    let last = last_from name (slash + 1) (omega (arith, found.0)) (λ j le lt. found.2 j (omega arith) lt) (λ _. rw here found.1) in
    record { value = grind (arith, common_steps, last, found.0) }

pub returns-in-None : goal.returns-in-None
returns-in-None c =
    let name = c.args.name.now in
    let none = rw c.in-None.is at (rfind_char 47 name c.rfind.result c.rfind.ensures.cases (omega arith)) in
    record { value = c.as_bytes-bytes.ensures.value ∙ sym (last_from name 0 (omega arith) (λ j le lt. none j lt) (λ more. absurd (omega arith))) }
