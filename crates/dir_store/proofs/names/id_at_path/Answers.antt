use Rattle.std.proofs.Common.{sym, ◌∙◌}
use Rattle.std.proofs.lemmas.Bool.{false≢true}
use Rattle.dir_store.proofs.Ids.{no_id, digits_behind, whole_behind}
use Rattle.dir_store.proofs.names.id_at_path.Goals as goal

pub returns-in_err-digits : goal.returns-in_err-digits
returns-in_err-digits c =
    let none = no_id c.args.name.now (λ id is path. false≢true ((c.in_err-digits.ensures {u = tt}).variant.1 (whole_behind c.args.name.now id is path c.utf8.name))) in
    record { value = rw c.from_residual.ensures (sym none) }

pub returns-in_default : goal.returns-in_default
returns-in_default c =
    record { value = sym (no_id c.args.name.now (λ id is path. c.in_default.ensures.known id is (c.in_ok-digits.ensures.back ∙ digits_behind c.args.name.now id is path))) }
