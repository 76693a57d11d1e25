-- How many words a group of locations has.
use Rattle.std.proofs.Common.{◌≡◌, ℕ, ◌+◌, ◌==◌, List, length, count_by, sym, ap, ◌∙◌}
use Rattle.std.proofs.lemmas.List.Splits.{length-slice_split}
use Rattle.command_words.specs.Locations.{parts_of}

pub parts_counted : (w : List ℕ) (n : ℕ) → n ≡ count_by (λ c. c == 124) w → n + 1 ≡ length (parts_of w)
parts_counted w n e = ap (λ k. k + 1) e ∙ sym (length-slice_split (λ c. c == 124) w)
