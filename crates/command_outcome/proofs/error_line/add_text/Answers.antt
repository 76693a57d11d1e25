use Rattle.std.proofs.Common.{codes, length, ◌++◌, refl, ap, arith}
use Rattle.std.proofs.lemmas.List.{append-nil}
use Rattle.std.specs.Fmt.{decimal}
use Rattle.command_outcome.proofs.Added.{adds_as}
use Rattle.command_outcome.specs.ErrorLines.{fault_text}
use Rattle.command_outcome.proofs.error_line.add_text.Goals as goal

pub returns-in-BadIndex : goal.returns-in-BadIndex
returns-in-BadIndex c = adds_as _ _ _ _ c.in-BadIndex.is c.add_bad_index.ensures (ap (λ n. n ++ (codes ": bad index: " ++ fault_text c.in-BadIndex.fault)) c.as_str-in-BadIndex.ensures) (omega (arith, ap length c.as_str-in-BadIndex.ensures))

pub returns-in-Missing : goal.returns-in-Missing
returns-in-Missing c = adds_as _ _ _ _ c.in-Missing.is c.add_chunk.ensures refl (omega arith)

pub returns-in-Length : goal.returns-in-Length
returns-in-Length c = adds_as _ _ _ _ c.in-Length.is c.add_counted.ensures refl (omega arith)

pub returns-in-Changed : goal.returns-in-Changed
returns-in-Changed c = adds_as _ _ _ _ c.in-Changed.is c.add_counted-in-Changed.ensures (ap (λ d. codes "the image changed at entry " ++ d) (append-nil (decimal c.in-Changed.entry))) (omega arith)

pub returns-in-CacheFault : goal.returns-in-CacheFault
returns-in-CacheFault c = adds_as _ _ _ _ c.in-CacheFault.is c.add.ensures.adds refl (omega arith)

pub returns-in-ImageFault : goal.returns-in-ImageFault
returns-in-ImageFault c = adds_as _ _ _ _ c.in-ImageFault.is c.add-in-ImageFault.ensures.adds refl (omega arith)

pub returns-in-DamagedLeft : goal.returns-in-DamagedLeft
returns-in-DamagedLeft c = adds_as _ _ _ _ c.in-DamagedLeft.is c.add_counted-in-DamagedLeft.ensures (ap (λ d. codes "damaged chunks left: " ++ d) (append-nil (decimal c.in-DamagedLeft.count))) (omega arith)

pub returns-in-TooManyItems : goal.returns-in-TooManyItems
returns-in-TooManyItems c = adds_as _ _ _ _ c.in-TooManyItems.is c.add-in-TooManyItems.ensures.adds refl (omega arith)
