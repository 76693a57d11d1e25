-- Entries of a want that stay open.
use Rattle.std.specs.Prelude.{◌≡◌, ℕ, ◌<◌, List, true, false, Result, Ok, Err}
use Rattle.assembler.specs.declared.fault.Lost.{Lost}
use Rattle.assembler.specs.declared.fault.Unsettled.{Unsettled}
use Rattle.assembler.specs.declared.fault.Unsettled.TheVariants as unsettled
use Rattle.caibx_codec.specs.Listing.{Listing, id_of, kind_of, size_of}
use Rattle.chunk_sources.specs.Losses.{chunk_of}
use Rattle.chunk_sources.specs.Wants.{IsAmong}
use Rattle.range_survey.specs.Fates.{settled}
use Rattle.range_survey.specs.declared.fate.Fate.{Fate}
use Rattle.store_chain.specs.declared.query.Query.{Query}

-- the first open one of these entries
pub record IsFirstOpen (l : Listing) (fates : List Fate) (entries : List ℕ) (x : Lost) : Type 0 where
  pub among : IsAmong entries x.entry
  pub id_is : x.id.0 ≡ id_of l x.entry
  pub is_open : settled fates x.entry ≡ false
  pub first : (i : ℕ) → i < x.entry → IsAmong entries i → settled fates i ≡ true

-- what holds where open entries stay open: of the lost one, or after a write that failed
abbrev pub Where : (Lost → Type 0) → Type 0 → Result Unit Unsettled → Type 0
Where P F (Ok r) = Unit {0}
Where P F (Err (unsettled.Lost x)) = P x
Where P F (Err unsettled.TargetFault) = F

-- what the lost entry's chunk is asked for as
abbrev pub lost_want : Listing → Lost → Query
lost_want l x = chunk_of (kind_of l) x.id (size_of l x.entry)
