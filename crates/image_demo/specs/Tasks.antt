-- What is to be made right.
use Rattle.caibx_codec.specs.Listing.{Listing}
use Rattle.chunk_sources.specs.Wants.{Task}
use Rattle.extract_plan.specs.Deal.{Deal}
use Rattle.extract_plan.specs.Places.{Placed}

-- the entries of an index, by its plan, and where the seed lists their chunks
abbrev pub task_of : Listing → Deal → Placed → Task
task_of l d x = record { listing = l; plan = d; places = x }
