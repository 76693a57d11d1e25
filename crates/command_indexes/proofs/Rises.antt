-- Whose fault an outcome tells, over more than the calls that told it.
use Rattle.std.proofs.Common.{Result, Ok, Err, inl, inr}
use Rattle.command_indexes.specs.Blames.{IndexRose, IsUnfetched}
use Rattle.command_steps.proofs.Consulted.{dialed_later, dialed_longer}
use Rattle.command_steps.proofs.Dialed.{any_earlier, any_longer}
use Rattle.command_steps.specs.Dials.{Dials}
use Rattle.command_words.specs.declared.location.IndexPlace.{IndexPlace}
use Rattle.command_words.specs.declared.location.IndexPlace.TheVariants as places
use Rattle.command_words.specs.declared.location.NoLocation.{NoLocation}
use Rattle.dsy_base.specs.Links.{DialState}

-- a fault of an index that a server wasn't able to give, after other calls and before
pub index_rose_later : (k i j : DialState) → Dials k i → Dials i j → (p : Result IndexPlace NoLocation) → IndexRose i j p → IndexRose k j p
index_rose_later k i j a b (Ok (places.File name)) rose = rose
index_rose_later k i j a b (Ok (places.Http host port path)) (inl rose) = inl (dialed_later k.faults i.faults j.faults a.faults rose)
index_rose_later k i j a b (Ok (places.Http host port path)) (inr bad) = inr (any_earlier (IsUnfetched host port path) k.ended i.ended j.ended a.ended b.ended bad)
index_rose_later k i j a b (Err why) rose = rose

pub index_rose_longer : (k i j : DialState) → Dials k i → Dials i j → (p : Result IndexPlace NoLocation) → IndexRose k i p → IndexRose k j p
index_rose_longer k i j a b (Ok (places.File name)) rose = rose
index_rose_longer k i j a b (Ok (places.Http host port path)) (inl rose) = inl (dialed_longer k.faults i.faults j.faults b.faults rose)
index_rose_longer k i j a b (Ok (places.Http host port path)) (inr bad) = inr (any_longer (IsUnfetched host port path) k.ended i.ended j.ended a.ended b.ended bad)
index_rose_longer k i j a b (Err why) rose = rose
