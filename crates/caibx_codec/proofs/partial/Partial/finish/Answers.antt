use Rattle.caibx_codec.specs.Seen.{read_of}
use Rattle.caibx_codec.proofs.Answered.{ends_cut, ends_whole}
use Rattle.caibx_codec.proofs.partial.Partial.finish.Goals as goal

pub returns-in_default : goal.returns-in_default
returns-in_default c =
    let both = ends_cut _ (read_of c.self.inside) c.self.view_is c.requires c.len-at.result c.len-at.ensures c.in_default.not-Nothing in
    record { first = both.0; exactly = both.1 }

pub returns-clause-first : goal.returns-clause-first
returns-clause-first c = (ends_whole _ (read_of c.self.inside) c.self.view_is c.requires c.of_fields.result c.in-Nothing.is c.of_fields.ensures).0

pub returns-clause-exactly : goal.returns-clause-exactly
returns-clause-exactly c = (ends_whole _ (read_of c.self.inside) c.self.view_is c.requires c.of_fields.result c.in-Nothing.is c.of_fields.ensures).1
