use Rattle.std.proofs.Common.{rules}
use Rattle.std.proofs.lemmas.Fn.{filter_same}
use Rattle.dir_store.specs.Names.{is_stranger}
use Rattle.dir_store.proofs.listing.keep_strangers.Goals as goal

pub returns : goal.returns
returns c = record { value = filter_same _ is_stranger _ (λ x b f' k. search rules) _ _ c.retain.ensures.filtered }
