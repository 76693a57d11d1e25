use Rattle.std.proofs.Common.{◌≡◌, map, take}
use Rattle.command_line.specs.CommandLine.{read_location}
use Rattle.command_words.specs.Locations.{location_of}
use Rattle.command_line.proofs.word_values.group_among.Given as goal

-- the locations so far are those of the first parts
abbrev pub invariant-loop-part : goal.invariant-loop-part
invariant-loop-part l = l.locations.items ≡ map (λ w. read_location (location_of w)) (take l.part-index (map (λ p. p.now) l.parts))
