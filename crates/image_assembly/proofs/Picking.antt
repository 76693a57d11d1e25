-- Which entries an assembly may fill: with one kit each of them. With more those that one of the kits has, as far as the
-- target, the seeds, the cache and the stores tell.
use Rattle.std.proofs.Common.{ℕ, ◌==◌, ◌||◌, ◌++◌, List, length, Bool, true, if◌then◌else◌, Option, Some, None, is_some}
use Rattle.std.specs.List.{list_any}
use Rattle.std.specs.Option.{option_map}
use Rattle.assembler.specs.Passes.{want_at}
use Rattle.caibx_codec.specs.Listing.{count_of, kind_of, size_of}
use Rattle.chunk_sources.specs.Economy.{seeds_give, stores_give}
use Rattle.chunk_sources.specs.Sources.{views_of}
use Rattle.chunk_sources.specs.Wants.{Task}
use Rattle.chunk_sources.specs.declared.kit.Kit.{Kit}
use Rattle.chunk_store.specs.Members.{maps_of}
use Rattle.chunk_store.specs.declared.store.Store.{Ghosts as StoreWords}
use Rattle.dsy_base.specs.Bytes.{Held}
use Rattle.dsy_base.specs.Maps.{Map}
use Rattle.dsy_base.specs.declared.view.View.{Ghosts as ViewWords}
use Rattle.extract_plan.specs.Deal.{first_of, of_want, shards_of, want_id}
use Rattle.extract_plan.specs.Places.{places_at}
use Rattle.range_ledger.specs.Runs.{Run}
use Rattle.range_survey.specs.Fates.{is_right_at}

-- what cache and stores tell together, where both do
abbrev pub both_told : Option (List (Map (List ℕ))) → Option (List (Map (List ℕ))) → Option (List (Map (List ℕ)))
both_told None maps = None
both_told (Some cached) maps = option_map (λ ms. cached ++ ms) maps

-- whether seeds whose views hold this tell so: where there is one with a view, its type does
abbrev pub seeds_tell : Bool → List (Option Held) → Bool
seeds_tell tells views = if list_any is_some views then tells else true

-- whether want w can be obtained from the base, and from seeds and stores that hold this: an entry of it is right in
-- the base, or a seed gives its chunk, or a store does
abbrev pub want_had : Task → List ℕ → List (Option Held) → List (Map (List ℕ)) → ℕ → Bool
want_had t base views maps w = list_any (is_right_at t.listing base) (of_want t.plan w)
    || (seeds_give views (places_at t.places w) (want_id t.listing t.plan w)
    || stores_give (kind_of t.listing) (want_id t.listing t.plan w) (size_of t.listing (first_of t.plan w)) maps)

-- the same of a kit that tells which maps its stores hold; one that doesn't may have each want
abbrev pub may_have : Task → List ℕ → List (Option Held) → Option (List (Map (List ℕ))) → ℕ → Bool
may_have t base views None w = true
may_have t base views (Some maps) w = want_had t base views maps w

module _ {S V : Type 0} (store : StoreWords S) (view : ViewWords V) where
  -- the maps that the cache and the stores of a kit hold, where they and its seeds tell
  abbrev pub kit_maps : Option (List (Map (List ℕ))) → Kit S V → Option (List (Map (List ℕ)))
  kit_maps cached k = if seeds_tell view.tells (views_of view k.seeds.items)
      then both_told cached (maps_of store.members k.chain.stores)
      else None

  -- whether one of the kits may have want w
  abbrev pub some_may_have : Task → List ℕ → Option (List (Map (List ℕ))) → List (Kit S V) → ℕ → Bool
  some_may_have t base cached kits w = list_any (λ k. may_have t base (views_of view k.seeds.items) (kit_maps cached k) w) kits

  -- whether the entries of want w may be filled
  abbrev pub may_fill : Bool → Task → List ℕ → Option (List (Map (List ℕ))) → List (Kit S V) → ℕ → Bool
  may_fill tells t base cached kits w = if tells then (length kits == 1) || some_may_have t base cached kits w else true

  -- the run that an assembly picks, over this base, which the target tells or not
  abbrev pub picked : Bool → Task → List ℕ → Option (List (Map (List ℕ))) → List (Kit S V) → Run
  picked tells t base cached kits = record {
    listing = t.listing;
    base = base;
    shards = shards_of (length kits) (count_of t.listing);
    may = λ e. may_fill tells t base cached kits (want_at t.plan e);
    tells = tells;
  }
