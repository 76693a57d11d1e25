use Rattle.std.proofs.Common.{arith, sym}
use Rattle.std.proofs.lemmas.Str.{IsCharBoundary-start}
use Rattle.std.proofs.lemmas.Str.Pattern.{rfind_char}
use Rattle.dsy_base.proofs.Folders.{stem_none, stem_last}
use Rattle.dsy_base.proofs.temporary.stem_of.Goals as goal

pub returns-in-Some-clause-value : goal.returns-in-Some-clause-value
returns-in-Some-clause-value c =
    let found = rw c.in-Some.is at (rfind_char 47 c.args.name.now c.rfind.result c.rfind.ensures.cases (omega arith)) in
    sym (stem_last c.args.name.now c.in-Some.slash found.0 found.1 found.2)

pub returns-in-None-clause-value : goal.returns-in-None-clause-value
returns-in-None-clause-value c =
    let none = rw c.in-None.is at (rfind_char 47 c.args.name.now c.rfind.result c.rfind.ensures.cases (omega arith)) in
    sym (stem_none c.args.name.now none)

pub returns-in-None-clause-whole : goal.returns-in-None-clause-whole
returns-in-None-clause-whole c = IsCharBoundary-start c.args.name.now c.utf8.name
