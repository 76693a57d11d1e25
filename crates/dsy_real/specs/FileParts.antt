-- What a part of a file tells.
use Rattle.std.specs.Prelude.{ℕ, List, Option, None}

-- a part of a real file as contracts see it: its size, its name and its count of faults
pub record FilePart : Type 0 where
  pub size : ℕ
  pub name : List ℕ
  pub faults : ℕ

-- its extent, with no bytes told
abbrev pub part_extent : FilePart → Option (List ℕ) × ℕ
part_extent p = (None, p.size)
