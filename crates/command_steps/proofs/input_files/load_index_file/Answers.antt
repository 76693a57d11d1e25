use Rattle.std.proofs.Common.{◌≡◌, ℕ, List, Result, Ok, Err, Some, IfSome, arith, refl, subst}
use Rattle.caibx_codec.specs.Answers.{FirstIn, ReadsIndex}
use Rattle.caibx_codec.specs.Listing.{Listing}
use Rattle.caibx_codec.specs.declared.reading.ViewFault.{ViewFault}
use Rattle.caibx_codec.specs.declared.reading.ViewFault.TheVariants as viewed
use Rattle.command_steps.proofs.IndexFiles.{bad, listed}
use Rattle.command_steps.proofs.input_files.load_index_file.Goals as goal
use Rattle.dsy_base.specs.Files.{OpenGives}

pub returns-in-Ok-read-clause-ok : goal.returns-in-Ok-read-clause-ok
returns-in-Ok-read-clause-ok g c =
    let d = g.F.Files.disk c.args.files.now in
    let bytes = λ (v : g.row.F-View.Denot). (g.F.View.View.held v).bytes in
    let v = c.in-Ok.view in
    let opened = subst (λ (q : List ℕ). IfSome d.files (λ m. OpenGives (m q) (λ w b. bytes w ≡ Some b) (Ok v))) c.as_str.ensures c.in-Ok.ensures.found in
    listed d.files c.args.name bytes v c.in-Ok-read.index opened c.in-Ok-read.ensures.exactly

pub returns-in-Err-Bad-clause-err : goal.returns-in-Err-Bad-clause-err
returns-in-Err-Bad-clause-err g c =
    let d = g.F.Files.disk c.args.files.now in
    let bytes = λ (v : g.row.F-View.Denot). (g.F.View.View.held v).bytes in
    let v = c.in-Ok.view in
    let opened = subst (λ (q : List ℕ). IfSome d.files (λ m. OpenGives (m q) (λ w b. bytes w ≡ Some b) (Ok v))) c.as_str.ensures c.in-Ok.ensures.found in
    let is : c.read_index-read.result ≡ Err (viewed.Bad c.in-Err-Bad.fault) = grind arith in
    let none = subst (λ (r : Result Listing ViewFault). IfSome (bytes v) (λ t. ReadsIndex t r)) is c.read_index-read.ensures.exactly in
    let first = subst (λ (r : Result Listing ViewFault). IfSome (bytes v) (λ t. FirstIn t r)) is c.read_index-read.ensures.first in
    (refl, bad d.files c.args.name bytes v c.in-Err-Bad.fault opened none first)
