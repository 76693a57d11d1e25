-- How long the name is that an outcome tells: no longer than the words, but for what stands behind OUT in the name of the
-- temporary file.
use Rattle.std.proofs.Common.{◌≡◌, ℕ, ◌≤◌, List, [], ◌∷◌, length, map, Bool, true, false, Option, Some, None, Result, Ok, Err, ap, inl, inr, arith}
use Rattle.caibx_codec.specs.Listing.{Listing}
use Rattle.buzhash_cut.specs.Sizes.{Sizes}
use Rattle.chunk_store.specs.declared.id.DigestKind.{DigestKind}
use Rattle.command_outcome.specs.ErrorLines.{name_in}
use Rattle.command_outcome.specs.declared.outcome.Outcome.{Outcome}
use Rattle.command_outcome.specs.declared.outcome.Outcome.TheVariants as ends
use Rattle.command_steps.specs.Cache.{CacheOpened}
use Rattle.command_indexes.proofs.Got.{got_not_spelled}
use Rattle.command_indexes.specs.Gets.{IndexGot, IndexesGot}
use Rattle.command_indexes.specs.Spelled.{NoneServed, NotSpelledAt}
use Rattle.command_steps.specs.InputFiles.{ImageOpened, NotOpened, NotRead}
use Rattle.command_worlds.specs.Printing.{Printed}
use Rattle.command_steps.specs.Seeds.{CountedWith, IndexesRead, NoneListed}
use Rattle.command_steps.specs.Sources.{FirstUnreached, NotAsking, OnStorage, Storage, SourcesOpened, Unreached, storage, storage_of}
use Rattle.command_worlds.specs.Steps.{◌>>=◌}
use Rattle.command_steps.specs.Stores.{NotReached, StoreTaken, folder_name}
use Rattle.command_steps.specs.TakenStores.{SourceTaken}
use Rattle.command_worlds.specs.Worlds.{OnDisk, OnOut, Pure, Step, World}
use Rattle.command_words.specs.Locations.{index_place_of}
use Rattle.command_words.specs.declared.command.Location.{Location}
use Rattle.command_words.specs.declared.command.Location.TheVariants as locations
use Rattle.command_words.specs.declared.location.IndexPlace.{IndexPlace}
use Rattle.command_words.specs.declared.location.IndexPlace.TheVariants as places
use Rattle.command_words.specs.declared.location.NoLocation.{NoLocation}
use Rattle.dsy_base.specs.Disk.{Disk, Output}
use Rattle.dsy_base.specs.Maps.{Map}
use Rattle.image_commands.specs.Chop.{ImageChopped}
use Rattle.print_commands.specs.Demo.{Rehearsed}
use Rattle.command_groups.specs.Groups.{stores_of}
use Rattle.extract_command.specs.Extract.{Clearing, ExtractStores, ImageMade, Into, NeverFail, NotRenamed, OutMade, Renamed, Seeds, beside, in_place, temporary_out}
use Rattle.image_commands.specs.Make.{ImageStored, IndexWritten, NotWritten, SizesJudged}
use Rattle.store_commands.specs.VerifyIndex.{ImageChecked}
use Rattle.cat_command.specs.Cat.{RangePut}
use Rattle.cache_command.specs.Caching.{IndexesFilled, NotFilled, Evidence, outcome_of_fill}
use Rattle.store_commands.specs.Info.{IdsCounted, NotAsked}
use Rattle.store_commands.specs.Prune.{StorePruned}
use Rattle.proxy_command.specs.ProxyServing.{LookTypes, OrUnheard, ProxyServed, ServesProxyTo, Supply, Surely}
use Rattle.server_commands.specs.Serving.{FolderServed, FolderServing, Heard, TakenUnheard}
use Rattle.store_commands.specs.Verify.{StoreVerified}
use Rattle.cache_fill.specs.declared.fill.FillFault.{FillFault}
use Rattle.cache_fill.specs.declared.fill.FillFault.TheVariants as fills

-- each of the names is no longer than this
abbrev pub AllShort : ℕ → List (List ℕ) → Type 0
AllShort n [] = Unit {0}
AllShort n (q ∷ names) = (length q ≤ n) × AllShort n names

-- so is that of each refusal of a step
abbrev pub Tells : {W A : Type 0} → ℕ → (W → Result A Outcome → W → Type 0) → Type 0
Tells {W} {A} n step = (w v : W) (o : Outcome) → step w (Err o) v → length (name_in o) ≤ n

pub record Shorts {W A : Type 0} (n : ℕ) (step : W → Result A Outcome → W → Type 0) : Type 0 where
  pub short : (w v : W) (o : Outcome) → step w (Err o) v → length (name_in o) ≤ n

short_as : (n : ℕ) (p q : List ℕ) → p ≡ q → length q ≤ n → length p ≤ n
short_as n p q same le = omega (arith, ap length same, le)

-- ---- steps in order

pub bound : {A B : Type 0} {n : ℕ} {step : Step World A} {next : A → Step World B} → Shorts n step → ((a : A) → Shorts n (next a)) → Shorts n (step >>= next)
bound {A} {B} {n} {step} {next} first rest = record { short = go } where
  go : (w v : World) (o : Outcome) → (step >>= next) w (Err o) v → length (name_in o) ≤ n
  go w v o (inl h) = first.short w v o h
  go w v o (inr h) = (rest h.gave).short _ v o h.then

pub on_disk : {A : Type 0} {n : ℕ} {step : Step Disk A} → Shorts n step → Shorts n (OnDisk step)
on_disk k = record { short = λ w v o h. k.short w.disk v.disk o h.0 }

pub on_out : {A : Type 0} {n : ℕ} {step : Step Output A} → Shorts n step → Shorts n (OnOut step)
on_out k = record { short = λ w v o h. k.short w.out v.out o h.0 }

pub on_sources : {A : Type 0} {n : ℕ} {step : Step Storage A} → Shorts n step → Shorts n (OnStorage step)
on_sources k = record { short = λ w v o h. k.short (storage_of w) (storage_of v) o h.0 }

-- ---- each step

module _ (n : ℕ) where
  not_reached : (q : List ℕ) → length q ≤ n → (d e : Disk) (o : Outcome) → NotReached d e q o → length (name_in o) ≤ n
  not_reached q le d e (ends.NoFolder name) h = short_as n name q h.0 le
  not_reached q le d e (ends.FileFault name) h = short_as n name q h.0 le
  not_reached q le d e ends.Memory h = omega arith
  not_reached q le d e other h = absurd h

  not_read : (q : List ℕ) → length q ≤ n → (d e : Disk) (o : Outcome) → NotRead d e q o → length (name_in o) ≤ n
  not_read q le d e (ends.NoFile name) h = short_as n name q h.0 le
  not_read q le d e (ends.BadIndex name fault) h = short_as n name q h.0 le
  not_read q le d e (ends.FileFault name) h = short_as n name q h.0 le
  not_read q le d e ends.Memory h = omega arith
  not_read q le d e other h = absurd h

  not_served : (q : List ℕ) → length q ≤ n → (host : List ℕ) (port : ℕ) (path : List ℕ) (w v : Storage) (o : Outcome) → NoneServed q host port path w v o → length (name_in o) ≤ n
  not_served q le host port path w v (ends.NoFile name) h = short_as n name q h.0 le
  not_served q le host port path w v (ends.BadIndex name fault) h = short_as n name q h.0 le
  not_served q le host port path w v (ends.FileFault name) h = short_as n name q h.0 le
  not_served q le host port path w v ends.Memory h = omega arith
  not_served q le host port path w v other h = absurd h

  not_spelled : (q : List ℕ) → length q ≤ n → (p : Result IndexPlace NoLocation) (w v : Storage) (o : Outcome) → NotSpelledAt q p w v o → length (name_in o) ≤ n
  not_spelled q le (Ok (places.File name)) w v o h = not_read q le w.disk v.disk o h
  not_spelled q le (Ok (places.Http host port path)) w v o h = not_served q le host port path w v o h
  not_spelled q le (Err why) w v o h = omega (arith, ap (λ r. length (name_in r)) h)

  not_opened : (q : List ℕ) → length q ≤ n → (d e : Disk) (o : Outcome) → NotOpened d e q o → length (name_in o) ≤ n
  not_opened q le d e (ends.NoFile name) h = short_as n name q h.0 le
  not_opened q le d e ends.ImageFault h = omega arith
  not_opened q le d e ends.Memory h = omega arith
  not_opened q le d e other h = absurd h

  not_written : (q : List ℕ) → length q ≤ n → (d e : Disk) (o : Outcome) → NotWritten d e q o → length (name_in o) ≤ n
  not_written q le d e (ends.FileFault name) h = short_as n name q h.0 le
  not_written q le d e ends.Memory h = omega arith
  not_written q le d e other h = absurd h

  not_renamed : (p q : List ℕ) → length p ≤ n → length q ≤ n → (d e : Disk) (o : Outcome) → NotRenamed p q d o e → length (name_in o) ≤ n
  not_renamed p q from to d e (ends.NoFile name) h = short_as n name p h.0 from
  not_renamed p q from to d e (ends.FileFault name) h = short_as n name q h.0 to
  not_renamed p q from to d e ends.Memory h = omega arith
  not_renamed p q from to d e other h = absurd h

  unreached : (s : Location) → length (folder_name s) ≤ n → (d e : Disk) (o : Outcome) → Unreached d e s o → length (name_in o) ≤ n
  unreached (locations.Folder q) le d e ends.Memory h = omega arith
  unreached (locations.Folder q) le d e other h = not_reached q le d e other h
  unreached (locations.Http host port prefix) le d e ends.Memory h = omega arith
  unreached (locations.Http host port prefix) le d e other h = absurd h

  first_unreached : (stores : List Location) → AllShort n (map folder_name stores) → (d e : Disk) (o : Outcome) → FirstUnreached d e stores o → length (name_in o) ≤ n
  first_unreached [] all d e o h = absurd h
  first_unreached (s ∷ stores) all d e o (inl h) = unreached s all.0 d e o h
  first_unreached (s ∷ stores) all d e o (inr h) = first_unreached stores all.1 d e o h.1

  none_listed : (names : List (List ℕ)) → AllShort n names → (m : ℕ) (d e : Disk) (o : Outcome) → NoneListed d e m names o → length (name_in o) ≤ n
  none_listed [] all m d e o h = absurd h
  none_listed (q ∷ names) all m d e o (inl h) = not_read q all.0 d e o h
  none_listed (q ∷ names) all m d e o (inr (l, listed, inl h)) = omega (arith, ap (λ r. length (name_in r)) h.0)
  none_listed (q ∷ names) all m d e o (inr (l, listed, inr h)) = none_listed names all.1 _ d e o h.1

  opened_tells : (stores : List Location) → AllShort n (map folder_name stores) → Tells n (SourcesOpened stores)
  opened_tells stores all d e o (inl h, reads, used) = first_unreached stores all d e o h
  opened_tells stores all d e o (inr h, reads, used) = omega (arith, ap (λ r. length (name_in r)) h)

  pub opened : (stores : List Location) → AllShort n (map folder_name stores) → Shorts n (SourcesOpened stores)
  opened stores all = record { short = opened_tells stores all }

  taken_tells : (images : List (List ℕ)) (q : List ℕ) → length q ≤ n → Tells n (StoreTaken images q)
  taken_tells images q le d e o h = not_reached q le d e o h.0

  pub taken : (q : List ℕ) → length q ≤ n → Shorts n (StoreTaken [] q)
  taken q le = record { short = taken_tells [] q le }

  source_taken_tells : (images : List (List ℕ)) (s : Location) → length (folder_name s) ≤ n → Tells n (SourceTaken images s)
  source_taken_tells images (locations.Folder q) le d e o h = not_reached q le d e o h.0
  source_taken_tells images (locations.Http host port prefix) le d e o h = omega (arith, ap (λ r. length (name_in r)) h.0)

  pub source_taken : (images : List (List ℕ)) (s : Location) → length (folder_name s) ≤ n → Shorts n (SourceTaken images s)
  source_taken images s le = record { short = source_taken_tells images s le }

  cache_opened_tells : (stores : List Location) (cache : Option (List ℕ)) → AllShort n (elim cache [ None ↦ [] | Some q ↦ q ∷ [] ]) → Tells n (CacheOpened stores cache)
  cache_opened_tells stores None all d e o h = absurd h
  cache_opened_tells stores (Some q) all d e o h = not_reached q all.0 d e o h.0

  pub cache_opened : (stores : List Location) (cache : Option (List ℕ)) → AllShort n (elim cache [ None ↦ [] | Some q ↦ q ∷ [] ]) → Shorts n (CacheOpened stores cache)
  cache_opened stores cache all = record { short = cache_opened_tells stores cache all }

  judged_tells : (sizes : List ℕ) (w v : World) (o : Outcome) → Pure (SizesJudged sizes) w (Err o) v → length (name_in o) ≤ n
  judged_tells sizes w v (ends.Sizes fault) h = omega arith
  judged_tells sizes w v other h = absurd h.0

  pub judged : (sizes : List ℕ) → Shorts n (Pure (SizesJudged sizes))
  judged sizes = record { short = judged_tells sizes }

  rehearsed_tells : (kind : DigestKind) (number size : ℕ) (w v : World) (o : Outcome) → Pure (Rehearsed kind number size) w (Err o) v → length (name_in o) ≤ n
  rehearsed_tells kind number size w v (ends.Mismatch k got) h = omega arith
  rehearsed_tells kind number size w v ends.Memory h = omega arith
  rehearsed_tells kind number size w v other h = absurd h.0

  pub rehearsed : (kind : DigestKind) (number size : ℕ) → Shorts n (Pure (Rehearsed kind number size))
  rehearsed kind number size = record { short = rehearsed_tells kind number size }

  printed_tells : (text : List ℕ) → Tells n (Printed text)
  printed_tells text p q ends.OutFault h = omega arith
  printed_tells text p q ends.Memory h = omega arith
  printed_tells text p q other h = absurd h.0

  pub printed : (text : List ℕ) → Shorts n (Printed text)
  printed text = record { short = printed_tells text }

  stored_tells : (kind : DigestKind) (s : Sizes) (image : List ℕ) (told : Option (List ℕ)) (store : Location) (held : Option (Map (List ℕ))) → Tells n (ImageStored kind s image told store held)
  stored_tells kind s image told store held w v ends.TooManyItems h = omega arith
  stored_tells kind s image told store held w v ends.ImageFault h = omega arith
  stored_tells kind s image told store held w v (ends.Changed k was got) h = omega arith
  stored_tells kind s image told store held w v (ends.StoreFault k) h = omega arith
  stored_tells kind s image told store held w v ends.Memory h = omega arith
  stored_tells kind s image told store held w v other h = absurd h.0

  pub stored : (kind : DigestKind) (s : Sizes) (image : List ℕ) (told : Option (List ℕ)) (store : Location) (held : Option (Map (List ℕ))) → Shorts n (ImageStored kind s image told store held)
  stored kind s image told store held = record { short = stored_tells kind s image told store held }

  chopped_tells : (l : Listing) (image : List ℕ) (told : Option (List ℕ)) (store : Location) (held : Option (Map (List ℕ))) → Tells n (ImageChopped l image told store held)
  chopped_tells l image told store held w v (ends.Length k) h = omega arith
  chopped_tells l image told store held w v (ends.Mismatch k got) h = omega arith
  chopped_tells l image told store held w v ends.ImageFault h = omega arith
  chopped_tells l image told store held w v (ends.StoreFault k) h = omega arith
  chopped_tells l image told store held w v ends.Memory h = omega arith
  chopped_tells l image told store held w v other h = absurd h.0

  pub chopped : (l : Listing) (image : List ℕ) (told : Option (List ℕ)) (store : Location) (held : Option (Map (List ℕ))) → Shorts n (ImageChopped l image told store held)
  chopped l image told store held = record { short = chopped_tells l image told store held }

  checked_tells : (image : List ℕ) (l : Listing) (told : Option (List ℕ)) → Tells n (ImageChecked image l told)
  checked_tells image l told d e (ends.Length k) h = omega arith
  checked_tells image l told d e (ends.Mismatch k got) h = omega arith
  checked_tells image l told d e ends.ImageFault h = omega arith
  checked_tells image l told d e ends.Memory h = omega arith
  checked_tells image l told d e other h = absurd h.0

  pub checked : (image : List ℕ) (l : Listing) (told : Option (List ℕ)) → Shorts n (ImageChecked image l told)
  checked image l told = record { short = checked_tells image l told }

  not_asked : (groups : List (List Location)) (retries : ℕ) (l : Listing) (w v : Storage) (o : Outcome) → NotAsked retries w v groups l o → length (name_in o) ≤ n
  not_asked groups retries l w v (ends.StoreFault k) h = omega arith
  not_asked groups retries l w v ends.Memory h = omega arith
  not_asked groups retries l w v other h = absurd h

  counted_tells : (looks : Bool) (groups : List (List Location)) (retries : ℕ) → AllShort n (map folder_name (stores_of groups)) → (l : Listing) → Tells n (IdsCounted looks groups retries l)
  counted_tells looks groups retries all l w v o (inl h, consults, asks) = first_unreached (stores_of groups) all w.disk v.disk o h
  counted_tells looks groups retries all l w v o (inr h, consults, asks) = not_asked groups retries l w v o h

  pub counted : (looks : Bool) (groups : List (List Location)) (retries : ℕ) → AllShort n (map folder_name (stores_of groups)) → (l : Listing) → Shorts n (IdsCounted looks groups retries l)
  counted looks groups retries all l = record { short = counted_tells looks groups retries all l }

  pruned_tells : (keeps : List ℕ → Bool) (q : List ℕ) (held : Option (Map (List ℕ))) → Tells n (StorePruned keeps q held)
  pruned_tells keeps q held d e (ends.StoreFault k) h = omega arith
  pruned_tells keeps q held d e ends.Memory h = omega arith
  pruned_tells keeps q held d e other h = absurd h.0

  range_tells : (looks : Bool) (groups : List (List Location)) (retries : ℕ) (l : Listing) (at m : ℕ) → Tells n (RangePut looks groups retries l at m)
  range_tells looks groups retries l at m w v (ends.Missing k id) h = omega arith
  range_tells looks groups retries l at m w v (ends.Damaged k id s shows) h = omega arith
  range_tells looks groups retries l at m w v (ends.StoreFault s) h = omega arith
  range_tells looks groups retries l at m w v ends.OutFault h = omega arith
  range_tells looks groups retries l at m w v ends.Memory h = omega arith
  range_tells looks groups retries l at m w v other h = absurd h.0

  pub range_put : (looks : Bool) (groups : List (List Location)) (retries : ℕ) (l : Listing) (at m : ℕ) → Shorts n (RangePut looks groups retries l at m)
  range_put looks groups retries l at m = record { short = range_tells looks groups retries l at m }

  pub pruned : (keeps : List ℕ → Bool) (q : List ℕ) (held : Option (Map (List ℕ))) → Shorts n (StorePruned keeps q held)
  pruned keeps q held = record { short = pruned_tells keeps q held }

  verified_tells : (kind : DigestKind) (q : List ℕ) (repair : Bool) (held : Option (Map (List ℕ))) → Tells n (StoreVerified kind q repair held)
  verified_tells kind q repair held w v (ends.DamagedLeft k) h = omega arith
  verified_tells kind q repair held w v (ends.StoreFault k) h = omega arith
  verified_tells kind q repair held w v ends.OutFault h = omega arith
  verified_tells kind q repair held w v ends.Memory h = omega arith
  verified_tells kind q repair held w v other h = absurd h.0

  pub verified : (kind : DigestKind) (q : List ℕ) (repair : Bool) (held : Option (Map (List ℕ))) → Shorts n (StoreVerified kind q repair held)
  verified kind q repair held = record { short = verified_tells kind q repair held }

  served_tells : (h : Heard) (q : List ℕ) (held : Option (Map (List ℕ))) (whole part : FolderServing) → Tells n (FolderServed h q held whole part)
  served_tells h q held whole part d e ends.ListenFault t = omega arith
  served_tells h q held whole part d e ends.Memory t = omega arith
  served_tells h q held whole part d e other t = absurd t.0

  proxied_tells : (looks : LookTypes) (h : Heard) (groups : List (List Location)) (e : ℕ) (cache : List ℕ) (kind : DigestKind) (in_turn : Bool) → Tells n (ProxyServed looks h groups e cache kind in_turn)
  proxied_tells looks h groups e cache kind in_turn w v o t = go o _ _ t.serving.served where
    go : (o : Outcome) (s : Supply) (sure : Surely) → ServesProxyTo kind h s sure in_turn (Err o) → length (name_in o) ≤ n
    go ends.ListenFault s sure t = omega arith
    go ends.Memory s sure t = omega arith
    go other s sure t = absurd t

  pub proxied : (looks : LookTypes) (h : Heard) (groups : List (List Location)) (e : ℕ) (cache : List ℕ) (kind : DigestKind) (in_turn : Bool) → Shorts n (ProxyServed looks h groups e cache kind in_turn)
  proxied looks h groups e cache kind in_turn = record { short = proxied_tells looks h groups e cache kind in_turn }

  pub or_unheard : {W A : Type 0} (h : Heard) (step : Step W A) → Shorts n step → Shorts n (OrUnheard h step)
  or_unheard h step k = record { short = λ w v o t. k.short w v o t.0 }

  pub served : (h : Heard) (q : List ℕ) (held : Option (Map (List ℕ))) (whole part : FolderServing) → Shorts n (FolderServed h q held whole part)
  served h q held whole part = record { short = served_tells h q held whole part }

  written_tells : (q bytes : List ℕ) → length q ≤ n → Tells n (IndexWritten q bytes)
  written_tells q bytes le d e o h = not_written q le d e o h.0

  pub written : (q bytes : List ℕ) → length q ≤ n → Shorts n (IndexWritten q bytes)
  written q bytes le = record { short = written_tells q bytes le }

  filled_by : (f : FillFault) → length (name_in (outcome_of_fill f)) ≤ n
  filled_by (fills.Missing k id) = omega arith
  filled_by (fills.Damaged k id s x) = omega arith
  filled_by (fills.StoreFault k) = omega arith
  filled_by fills.CacheFault = omega arith
  filled_by fills.Memory = omega arith

  not_filled : (over : Evidence) (w v : Storage) (indexes : List (List ℕ)) → AllShort n indexes → (x y : Option (Map (List ℕ))) (o : Outcome) → NotFilled over w v indexes x y o → length (name_in o) ≤ n
  not_filled over w v [] all x y o h = absurd h
  not_filled over w v (q ∷ indexes) all x y o (inl h) = not_spelled q all.0 (index_place_of q) w v o h.0
  not_filled over w v (q ∷ indexes) all x y o (inr (l, listed, inl (fault, is, filled))) = omega (arith, ap (λ r. length (name_in r)) is, filled_by fault)
  not_filled over w v (q ∷ indexes) all x y o (inr (l, listed, inr (z, filled, rest))) = not_filled over w v indexes all.1 z y o rest

  filled_tells : (looks : Bool) (groups : List (List Location)) (retries : ℕ) (cache : List ℕ) (most : ℕ) (indexes : List (List ℕ)) → AllShort n indexes → Tells n (IndexesFilled looks groups retries cache most indexes)
  filled_tells looks groups retries cache most indexes all w v o h = not_filled _ w v indexes all h.held h.now o h.filled

  pub filled : (looks : Bool) (groups : List (List Location)) (retries : ℕ) (cache : List ℕ) (most : ℕ) (indexes : List (List ℕ)) → AllShort n indexes → Shorts n (IndexesFilled looks groups retries cache most indexes)
  filled looks groups retries cache most indexes all = record { short = filled_tells looks groups retries cache most indexes all }

  made_tells : (sure : NeverFail) (stores : ExtractStores) (cache : Option (List ℕ)) (i : Into) (l : Listing) (x : Seeds) → Tells n (ImageMade sure stores cache i l x)
  made_tells sure stores cache i l x w v (ends.Missing k id) h = omega arith
  made_tells sure stores cache i l x w v (ends.Damaged k id store shows) h = omega arith
  made_tells sure stores cache i l x w v (ends.StoreFault k) h = omega arith
  made_tells sure stores cache i l x w v ends.TargetFault h = omega arith
  made_tells sure stores cache i l x w v ends.Memory h = omega arith
  made_tells sure stores cache i l x w v other h = absurd h.0

  pub made : (sure : NeverFail) (stores : ExtractStores) (cache : Option (List ℕ)) (i : Into) (l : Listing) (x : Seeds) → Shorts n (ImageMade sure stores cache i l x)
  made sure stores cache i l x = record { short = made_tells sure stores cache i l x }

  clearing_tells : (q : List ℕ) (step : Step Storage Unit) → Shorts n step → Tells n (Clearing q step)
  clearing_tells q step k w v o (c, did, cleared) = k.short w (storage c v.dial) o did

  pub clearing : (q : List ℕ) (step : Step Storage Unit) → Shorts n step → Shorts n (Clearing q step)
  clearing q step k = record { short = clearing_tells q step k }

  renamed_tells : (p q : List ℕ) → length p ≤ n → length q ≤ n → Tells n (NotAsking (Renamed p q))
  renamed_tells p q from to w v o h = not_renamed p q from to w.disk v.disk o h.0.0

  pub renamed : (p q : List ℕ) → length p ≤ n → length q ≤ n → Shorts n (NotAsking (Renamed p q))
  renamed p q from to = record { short = renamed_tells p q from to }

  pub out_made : (sure : NeverFail) (place : Bool) (stores : ExtractStores) (cache : Option (List ℕ)) (out : List ℕ) (l : Listing) (x : Seeds) → length (temporary_out out) ≤ n → length out ≤ n → Shorts n (OutMade sure place stores cache out l x)
  out_made sure true stores cache out l x temporary le = on_sources (made sure stores cache (in_place out) l x)
  out_made sure false stores cache out l x temporary le = bound (on_sources (clearing (temporary_out out) _ (made sure stores cache (beside out) l x))) (λ u. on_sources (clearing (temporary_out out) _ (renamed (temporary_out out) out temporary le)))

  pub index_got : (q : List ℕ) → length q ≤ n → Shorts n (IndexGot q)
  index_got q le = record { short = λ w v o h. not_spelled q le (index_place_of q) w v o (got_not_spelled q (index_place_of q) w o v h) }

  counted_with : (m : ℕ) (l : Listing) → Shorts n (Pure (CountedWith m l))
  counted_with m l = record { short = go } where
    go : Tells n (Pure (CountedWith m l))
    go w v ends.TooManyItems h = omega arith
    go w v ends.Memory h = omega arith
    go w v other h = absurd h.0

  surely : {A : Type 0} (a : A) → Shorts n (Pure (λ r. r ≡ Ok a))
  surely a = record { short = λ w v o h. absurd (err_not_ok a o h.0) } where
    err_not_ok : {A : Type 0} (a : A) (o : Outcome) → Err o ≡ Ok a → ⊥
    err_not_ok a o same = absurd (cc)

  pub indexes_got : (m : ℕ) (names : List (List ℕ)) → AllShort n names → Shorts n (IndexesGot m names)
  indexes_got m [] all = surely []
  indexes_got m (q ∷ names) all = bound (on_sources (index_got q all.0)) (λ l. bound (counted_with m l) (λ k. bound (indexes_got k names all.1) (λ ls. surely (l ∷ ls))))

  pub indexes_read : (names : List (List ℕ)) → AllShort n names → Shorts n (IndexesRead names)
  indexes_read names all = record { short = λ d e o h. none_listed names all 0 d e o h.0 }

  pub image_opened : (q : List ℕ) → length q ≤ n → Shorts n (ImageOpened q)
  image_opened q le = record { short = λ d e o h. not_opened q le d e o h.0 }

  pub unheard : (h : Heard) (q : List ℕ) → length q ≤ n → Shorts n (TakenUnheard h q)
  unheard h q le = record { short = λ d e o t. taken_tells [] q le d e o t.0 }
