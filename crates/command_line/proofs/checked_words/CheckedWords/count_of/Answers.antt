use Rattle.std.proofs.Common.{◌≡◌, map, string_bytes, length, subst, sym, ◌∙◌}
use Rattle.std.proofs.lemmas.List.{length-map}
use Rattle.command_words.specs.Roles.{WordsByRole, words_as}
use Rattle.command_line.proofs.Lists.{words_counted}
use Rattle.command_line.proofs.checked_words.CheckedWords.count_of.Goals as goal

pub returns-clause-size : goal.returns-clause-size
returns-clause-size c =
    let as_many = c.self.invariant ∙ sym (length-map c.self.inside.words.now string_bytes) in
    let counted = words_counted c.args.role c.self.inside.roles.now (map string_bytes c.self.inside.words.now) as_many in
    let P : WordsByRole → Type 0 = λ p. c.count_of.result ≡ length (words_as c.args.role p.roles p.words) in
    subst P c.self.view_is (c.count_of.ensures ∙ sym counted)
