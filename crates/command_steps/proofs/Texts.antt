-- What printing answers.
use Rattle.std.proofs.Common.{◌≡◌, ℕ, List, ◌++◌, Option, Some, None, OnOk, Result, Ok, Err, refl, sym, ap, ◌∙◌, arith, append-nil}
use Rattle.std.specs.Option.{option_map}
use Rattle.dsy_base.specs.Disk.{PutsFront}
use Rattle.dsy_base.specs.Counts.{Rose}
use Rattle.dsy_base.specs.declared.fault.IoFault.{IoFault}
use Rattle.dsy_base.specs.declared.fault.IoFault.TheVariants as io
use Rattle.dsy_base.specs.Texts.{Puts}
use Rattle.command_worlds.specs.Printing.{Prints, answer_of_put}
use Rattle.dsy_base.specs.Disk.{Output}

pub text_put : (p q : Output) (text : List ℕ) (r : Result Unit IoFault) → Puts text p.taken q.taken r → (r ≡ Err io.Failed → Rose p.faults q.faults) → Prints p q text (answer_of_put r)
text_put p q text (Ok u) puts rose = puts
text_put p q text (Err io.Failed) puts rose = (rose refl, puts)
text_put p q text (Err io.Memory) puts rose = puts

nothing_put : (text : List ℕ) (old new : Option (List ℕ)) → new ≡ old → PutsFront text old new
nothing_put text None new same = (0, omega arith, same)
nothing_put text (Some t) new same = (0, omega arith, same ∙ ap Some (sym (append-nil t)))

pub help_put : (p q : Output) (text : List ℕ) (r : Result Unit IoFault) → OnOk r (q.taken ≡ option_map (λ t. t ++ text) p.taken)
    → (r ≡ Err io.Failed → PutsFront text p.taken q.taken) → (r ≡ Err io.Memory → q.taken ≡ p.taken) → (r ≡ Err io.Failed → Rose p.faults q.faults)
    → Prints p q text (answer_of_put r)
help_put p q text (Ok u) ok err kept rose = ok
help_put p q text (Err io.Failed) ok err kept rose = (rose refl, err refl)
help_put p q text (Err io.Memory) ok err kept rose = nothing_put text p.taken q.taken (kept refl)
