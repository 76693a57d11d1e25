use Rattle.std.proofs.Common.{rules}
use Rattle.std.proofs.lemmas.Fn.{filter_same}
use Rattle.dir_store.specs.Names.{is_temporary}
use Rattle.dir_store.proofs.listing.keep_temporaries.Goals as goal

pub returns : goal.returns
returns c = record { value = filter_same _ is_temporary _ (λ x b f' k. search rules) _ _ c.retain.ensures.filtered }
