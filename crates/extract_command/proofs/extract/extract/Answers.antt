use Rattle.std.proofs.Common.{[], ℕ, List, Option, inl, inr, arith, length, true, false, map, refl, subst, sym}
use Rattle.caibx_codec.specs.Listing.{Listing}
use Rattle.command_words.specs.declared.command.Location.{Location}
use Rattle.command_groups.specs.Groups.{stores_of}
use Rattle.command_steps.specs.InputFiles.{Listed}
use Rattle.command_steps.specs.Seeds.{image_name}
use Rattle.command_steps.specs.Uses.{folders_among}
use Rattle.command_steps.proofs.Consulted.{reads_none}
use Rattle.command_steps.proofs.Used.{uses_none}
use Rattle.command_outcome.specs.declared.outcome.Outcome.TheVariants as ends
use Rattle.command_worlds.specs.Worlds.{world}
use Rattle.extract_plan.specs.Places.{PlacesKnown}
use Rattle.extract_command.proofs.Replaced.{ends_unreached, ends_with, known_places_of}
use Rattle.extract_command.proofs.Seeded.{zipped_many}
use Rattle.extract_command.proofs.extract.extract.Given.{Over}
use Rattle.extract_command.proofs.extract.extract.Goals as goal
use Rattle.extract_command.specs.Extract.{ExtractEnds, ExtractStores, OutMade, extract_stores, never_fail}
use Rattle.extract_command.specs.Held.{disk_with}
use Rattle.extract_command.specs.declared.stores.Stores.{Stores}

pub plan_of-requires-clause-few : goal.plan_of-requires-clause-few
plan_of-requires-clause-few g c =
    let listed = rw c.as_slice.ensures at c.in_ok-indexes.ensures.ok in
    let many = zipped_many (λ q l. Listed (g.F.Files.disk c.load_index.new.files) q l) c.args.words.seeds c.in_ok-indexes.indexes.items listed in
    omega (arith, many, c.requires.seeds)

pub assemble_into-requires-clause-plan : goal.assemble_into-requires-clause-plan
assemble_into-requires-clause-plan g c κs within =
    let listed = rw c.as_slice.ensures at c.in_ok-indexes.ensures.ok in
    let p = c.in-Ok.planned in
    let plan = c.in-Ok.ensures.plan in (
      plan.0,
      rw c.in-Ok.ensures.index plan.1,
      subst (λ (ns : List (List ℕ)). PlacesKnown p.index plan.0 p.places (length ns)) (sym c.in-Ok.ensures.seeds)
          (known_places_of (g.F.Files.disk c.load_index.new.files) c.args.words.seeds c.in_ok-indexes.indexes.items c.in_ok-listed.listed p.index plan.0 p.places listed c.in-Ok.ensures.index plan.3),
    )

pub assemble_into-requires-clause-size : goal.assemble_into-requires-clause-size
assemble_into-requires-clause-size g c κs within = rw c.in-Ok.ensures.stores c.requires.stores

pub assemble_into-requires-clause-located : goal.assemble_into-requires-clause-located
assemble_into-requires-clause-located g c κs within = c.in-Ok-reach.ensures.located

pub assemble_into-requires-clause-workers : goal.assemble_into-requires-clause-workers
assemble_into-requires-clause-workers g c κs within = rw (c.in-Ok.ensures.size) c.worker_count-workers.ensures

pub assemble_into-requires-clause-held : goal.assemble_into-requires-clause-held
assemble_into-requires-clause-held g c κs within = rw (c.in-Ok.ensures.size) (rw c.kind-kind.ensures at c.in-Ok-reach.ensures.fresh)

pub assemble_beside-requires-clause-located : goal.assemble_beside-requires-clause-located
assemble_beside-requires-clause-located g c κs within = c.in-Ok-reach.ensures.located

pub assemble_beside-requires-clause-workers : goal.assemble_beside-requires-clause-workers
assemble_beside-requires-clause-workers g c κs within = rw (c.in-Ok.ensures.size) c.worker_count-workers.ensures

pub assemble_beside-requires-clause-held : goal.assemble_beside-requires-clause-held
assemble_beside-requires-clause-held g c κs within = rw (c.in-Ok.ensures.size) (rw c.kind-kind.ensures at c.in-Ok-reach.ensures.fresh)

pub assemble_beside-requires-clause-plan : goal.assemble_beside-requires-clause-plan
assemble_beside-requires-clause-plan g c κs within =
    let listed = rw c.as_slice.ensures at c.in_ok-indexes.ensures.ok in
    let p = c.in-Ok.planned in
    let plan = c.in-Ok.ensures.plan in (
      plan.0,
      rw c.in-Ok.ensures.index plan.1,
      subst (λ (ns : List (List ℕ)). PlacesKnown p.index plan.0 p.places (length ns)) (sym c.in-Ok.ensures.seeds)
          (known_places_of (g.F.Files.disk c.load_index.new.files) c.args.words.seeds c.in_ok-indexes.indexes.items c.in_ok-listed.listed p.index plan.0 p.places listed c.in-Ok.ensures.index plan.3),
    )

pub assemble_beside-requires-clause-size : goal.assemble_beside-requires-clause-size
assemble_beside-requires-clause-size g c κs within = rw c.in-Ok.ensures.stores c.requires.stores

pub reach-requires : goal.reach-requires
reach-requires g c = record { size = rw c.in-Ok.ensures.stores c.requires.stores }

-- the stores of the words
abbrev stores_by : List (List Location) → ℕ → Stores
stores_by groups retries = record { groups = groups; retries = retries }

abbrev sources_by : (g : Over) → List (List Location) → ℕ → ExtractStores
sources_by g groups retries = extract_stores g.F.Look.Look.never_fails (stores_by groups retries)

pub returns-in_default : goal.returns-in_default
returns-in_default g c =
    let at = g.F.Files.disk in
    let words = c.args.words in
    let listed = c.in_ok-listed.ensures in
    let read = c.in_ok-indexes.ensures in
    let e = at c.read_indexes.new.files in
    record {
      ends = λ p. ends_unreached (never_fail g.F.Target.View.never_fails g.F.Folder.Look.never_fails) (sources_by g words.stores words.retries) words.cache words.seeds words.in_place words.index words.target c.in_ok-listed.listed c.in_ok-indexes.indexes.items (at c.args.files.now) (at c.load_index.new.files) e e (g.D.Dial.state c.args.dial.now) (g.D.Dial.state c.load_index.new.dial) p ends.Memory
          listed.ends ((rw c.as_slice.ensures at read.ok, read.few), read.kept, rw c.as_slice.ensures at read.used) (inl (inr refl, reads_none e, uses_none [] (folders_among (stores_of words.stores)) e));
    }

pub returns-in_default-temporary_out : goal.returns-in_default-temporary_out
returns-in_default-temporary_out g c =
    let at = g.F.Files.disk in
    let words = c.args.words in
    let listed = c.in_ok-listed.ensures in
    let read = c.in_ok-indexes.ensures in
    let e = at c.read_indexes.new.files in
    record {
      ends = λ p. ends_unreached (never_fail g.F.Target.View.never_fails g.F.Folder.Look.never_fails) (sources_by g words.stores words.retries) words.cache words.seeds words.in_place words.index words.target c.in_ok-listed.listed c.in_ok-indexes.indexes.items (at c.args.files.now) (at c.load_index.new.files) e e (g.D.Dial.state c.args.dial.now) (g.D.Dial.state c.load_index.new.dial) p ends.Memory
          listed.ends ((rw c.as_slice.ensures at read.ok, read.few), read.kept, rw c.as_slice.ensures at read.used) (inl (inr refl, reads_none e, uses_none [] (folders_among (stores_of words.stores)) e));
    }

pub returns-in-Err : goal.returns-in-Err
returns-in-Err g c =
    let at = g.F.Files.disk in
    let words = c.args.words in
    let listed = c.in_ok-listed.ensures in
    let read = c.in_ok-indexes.ensures in
    let refused = rw c.in-Ok.ensures.stores at c.in-Err.ensures.err in
    record {
      ends = λ p. ends_unreached (never_fail g.F.Target.View.never_fails g.F.Folder.Look.never_fails) (sources_by g words.stores words.retries) words.cache words.seeds words.in_place words.index words.target c.in_ok-listed.listed c.in_ok-indexes.indexes.items (at c.args.files.now) (at c.load_index.new.files) (at c.read_indexes.new.files) (at c.reach.new.files)
          (g.D.Dial.state c.args.dial.now) (g.D.Dial.state c.load_index.new.dial) p c.in-Err.outcome listed.ends ((rw c.as_slice.ensures at read.ok, read.few), read.kept, rw c.as_slice.ensures at read.used) refused;
    }

pub returns-then-in_place : goal.returns-then-in_place
returns-then-in_place g c =
    let at = g.F.Files.disk in
    let words = c.args.words in
    let d = at c.args.files.now in
    let held = c.in-Ok-reach.held in
    let m = disk_with g.F.Folder.Look held (at c.reach.new.files) in
    let e = at c.assemble_into.new.files in
    let i = g.D.Dial.state c.args.dial.now in
    let k = g.D.Dial.state c.load_index.new.dial in
    let j = g.D.Dial.state c.assemble_into.new.dial in
    let ls = c.in_ok-indexes.indexes.items in
    let l = c.in_ok-listed.listed in
    let listed = c.in_ok-listed.ensures in
    let read = c.in_ok-indexes.ensures in
    let over = c.in-Ok-reach.ensures in
    let reached = rw c.in-Ok.ensures.stores at over.ok in
    let plan = c.in-Ok.ensures.plan in
    record {
      ends = λ p.
          let ended : Stores → Option (List ℕ) → List (List ℕ) → List ℕ → Listing → Type 0 = λ n cache images q l. OutMade (never_fail g.F.Target.View.never_fails g.F.Folder.Look.never_fails) true (extract_stores g.F.Look.Look.never_fails n) cache q l (record { images = map image_name images; listings = ls }) (world m k p) c.assemble_into.result (world e j p) in
          let made = c.assemble_into.ensures in
          let first : ended c.in-Ok.planned.stores held.cache c.in-Ok.planned.seeds c.as_str-then-in_place.result.now c.in-Ok.planned.index = ((made.assembled plan.0 ls (rw c.in-Ok.ensures.index plan.1) (rw c.in-Ok.ensures.index plan.2), made.kept, made.tells, made.dialed, made.numbered, made.asks plan.0 ls (rw c.in-Ok.ensures.index plan.1) (rw c.in-Ok.ensures.index plan.2), made.used), refl) in
          let named = subst (λ q. ended c.in-Ok.planned.stores held.cache c.in-Ok.planned.seeds q c.in-Ok.planned.index) c.as_str-then-in_place.ensures first in
          let indexed = subst (λ l. ended c.in-Ok.planned.stores held.cache c.in-Ok.planned.seeds words.target l) c.in-Ok.ensures.index named in
          let seeded = subst (λ ss. ended c.in-Ok.planned.stores held.cache ss words.target l) c.in-Ok.ensures.seeds indexed in
          let cached = subst (λ cache. ended c.in-Ok.planned.stores cache words.seeds words.target l) over.named seeded in
          let into : ended (stores_by words.stores words.retries) words.cache words.seeds words.target l = subst (λ n. ended n words.cache words.seeds words.target l) c.in-Ok.ensures.stores cached in
          subst (λ place. ExtractEnds (never_fail g.F.Target.View.never_fails g.F.Folder.Look.never_fails) (sources_by g words.stores words.retries) words.cache words.seeds place words.index words.target (world d i p) c.assemble_into.result (world e j p)) (sym c.if-in_place.true)
          (ends_with (never_fail g.F.Target.View.never_fails g.F.Folder.Look.never_fails) (sources_by g words.stores words.retries) words.cache words.seeds true words.index words.target l ls d (at c.load_index.new.files) (at c.read_indexes.new.files) m e i k j p c.assemble_into.result
          listed.ends ((rw c.as_slice.ensures at read.ok, read.few), read.kept, rw c.as_slice.ensures at read.used) reached into);
    }

pub returns-else-in_place : goal.returns-else-in_place
returns-else-in_place g c =
    let at = g.F.Files.disk in
    let words = c.args.words in
    let d = at c.args.files.now in
    let held = c.in-Ok-reach.held in
    let m = disk_with g.F.Folder.Look held (at c.reach.new.files) in
    let e = at c.assemble_beside.new.files in
    let i = g.D.Dial.state c.args.dial.now in
    let k = g.D.Dial.state c.load_index.new.dial in
    let j = g.D.Dial.state c.assemble_beside.new.dial in
    let ls = c.in_ok-indexes.indexes.items in
    let l = c.in_ok-listed.listed in
    let listed = c.in_ok-listed.ensures in
    let read = c.in_ok-indexes.ensures in
    let over = c.in-Ok-reach.ensures in
    let reached = rw c.in-Ok.ensures.stores at over.ok in
    let plan = c.in-Ok.ensures.plan in
    record {
      ends = λ p.
          let ended : Stores → Option (List ℕ) → List (List ℕ) → Listing → Type 0 = λ n cache images l. OutMade (never_fail g.F.Target.View.never_fails g.F.Folder.Look.never_fails) false (extract_stores g.F.Look.Look.never_fails n) cache words.target l (record { images = map image_name images; listings = ls }) (world m k p) c.assemble_beside.result (world e j p) in
          let first : ended c.in-Ok.planned.stores held.cache c.in-Ok.planned.seeds c.in-Ok.planned.index = c.assemble_beside.ensures.made plan.0 ls p (rw c.in-Ok.ensures.index plan.1) (rw c.in-Ok.ensures.index plan.2) in
          let indexed = subst (λ l. ended c.in-Ok.planned.stores held.cache c.in-Ok.planned.seeds l) c.in-Ok.ensures.index first in
          let seeded = subst (λ ss. ended c.in-Ok.planned.stores held.cache ss l) c.in-Ok.ensures.seeds indexed in
          let cached = subst (λ cache. ended c.in-Ok.planned.stores cache words.seeds l) over.named seeded in
          let into : ended (stores_by words.stores words.retries) words.cache words.seeds l = subst (λ n. ended n words.cache words.seeds l) c.in-Ok.ensures.stores cached in
          subst (λ place. ExtractEnds (never_fail g.F.Target.View.never_fails g.F.Folder.Look.never_fails) (sources_by g words.stores words.retries) words.cache words.seeds place words.index words.target (world d i p) c.assemble_beside.result (world e j p)) (sym c.if-in_place.false)
          (ends_with (never_fail g.F.Target.View.never_fails g.F.Folder.Look.never_fails) (sources_by g words.stores words.retries) words.cache words.seeds false words.index words.target l ls d (at c.load_index.new.files) (at c.read_indexes.new.files) m e i k j p c.assemble_beside.result
          listed.ends ((rw c.as_slice.ensures at read.ok, read.few), read.kept, rw c.as_slice.ensures at read.used) reached into);
    }
