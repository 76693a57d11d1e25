-- What an assembly is to make right, as one argument.
use Rattle.caibx_codec.specs.Listing.{Listing}
use Rattle.chunk_sources.specs.Wants.{Task}
use Rattle.extract_plan.specs.Deal.{Deal}
use Rattle.extract_plan.specs.Places.{Placed}

abbrev pub task : Listing → Deal → Placed → Task
task l d x = record { listing = l; plan = d; places = x }
