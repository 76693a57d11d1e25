-- What an extraction by way of a temporary file leaves of other files.
use Rattle.std.proofs.Common.{◌≡◌, ◌≢◌, ◌⊎◌, ℕ, List, Bool, true, false, is_some, map, Option, Some, None, IfSome, Result, Ok, Err, refl, sym, ap, subst, ◌∙◌, inl, inr}
use Rattle.std.specs.Option.{option_map}
use Rattle.caibx_codec.specs.Listing.{Listing}
use Rattle.command_outcome.specs.declared.outcome.Outcome.{Outcome}
use Rattle.command_outcome.specs.declared.outcome.Outcome.TheVariants as ends
use Rattle.command_words.specs.Locations.{index_place_of}
use Rattle.command_words.specs.declared.command.Command.{Command}
use Rattle.command_words.specs.declared.command.Command.TheVariants as commands
use Rattle.command_groups.specs.Groups.{stores_of}
use Rattle.command_steps.proofs.Cached.{cache_reads}
use Rattle.command_steps.specs.Cache.{CacheOpened}
use Rattle.command_steps.specs.Seeds.{IndexesRead, image_name}
use Rattle.command_worlds.specs.Steps.{◌>>=◌, outcome_of}
use Rattle.command_indexes.proofs.Got.{got_reads}
use Rattle.command_steps.specs.Sources.{Storage, SourcesOpened, storage, storage_of}
use Rattle.command_worlds.specs.Worlds.{OnDisk, Reads, World, world}
use Rattle.desync_cli.proofs.Fair.{begun, if_any, if_some}
use Rattle.desync_cli.specs.Commands.{CommandEnds, DesyncEnds, LeavesBehind, SureTypes, command_of}
use Rattle.server_commands.specs.Serving.{Heard}
use Rattle.extract_command.specs.Extract.{Assembled, Cleared, ExtractEnds, ExtractStores, Into, KeepsIn, NeverFail, OutMade, Seeds, StopsSomewhere, beside, folder_of, never_fail, old_of, temporary_out}
use Rattle.desync_cli.specs.Commands.{LeavesOut}
use Rattle.dsy_base.proofs.Counts.{at_other}
use Rattle.dsy_base.specs.Disk.{Disk}
use Rattle.dsy_base.specs.Maps.{Map, at_name}

module _ (tmp : List ℕ) where
  -- no file but this one has changed, and files tell as before
  abbrev Only : Option (Map (List ℕ)) → Option (Map (List ℕ)) → Type 0
  Only None None = Unit {0}
  Only None (Some a) = ⊥
  Only (Some b) None = ⊥
  Only (Some b) (Some a) = (q : List ℕ) → q ≢ tmp → a q ≡ b q

  only_same : (f g : Option (Map (List ℕ))) → g ≡ f → Only f g
  only_same f g same = subst (Only f) (sym same) (go f) where
    go : (f : Option (Map (List ℕ))) → Only f f
    go None = tt
    go (Some b) = λ q apart. refl

  only_then : (f g h : Option (Map (List ℕ))) → Only f g → Only g h → Only f h
  only_then None None None u v = tt
  only_then None None (Some c) u v = absurd v
  only_then None (Some a) h u v = absurd u
  only_then (Some b) None h u v = absurd u
  only_then (Some b) (Some a) None u v = absurd v
  only_then (Some b) (Some a) (Some c) u v = λ q apart. v q apart ∙ u q apart

  only_at : (f g : Option (Map (List ℕ))) (w : Option (List ℕ)) → g ≡ option_map (λ m. at_name m tmp w) f → Only f g
  only_at f g w is = subst (Only f) (sym is) (go f) where
    go : (f : Option (Map (List ℕ))) → Only f (option_map (λ m. at_name m tmp w) f)
    go None = tt
    go (Some b) = λ q apart. at_other b tmp w q apart

  -- what was cleared
  only_cleared : (d e : Disk) → Cleared tmp d e → Only d.files e.files
  only_cleared d e h = elim h.0 [
    | inl gone ↦ only_at d.files e.files None gone
    | inr same ↦ only_same d.files e.files same.0
  ]

  -- over files and folders that tell, and over such that don't
  over_told : (f : Option (Map (List ℕ))) (y : Option (Map (Map (List ℕ)))) (g : Option (Map (List ℕ))) (cache : Option (List ℕ)) (P : Map (List ℕ) → Map (List ℕ) → Map (Map (List ℕ)) → List (Map (List ℕ)) → Type 0) → is_some f ≡ is_some y → is_some g ≡ is_some f
      → ((b a : Map (List ℕ)) (n : Map (Map (List ℕ))) (cs : List (Map (List ℕ))) → P b a n cs → (w : Option (List ℕ)) × ((a ≡ b) ⊎ (a ≡ at_name b tmp w)))
      → IfSome f (λ b. IfSome y (λ n. IfSome g (λ a. (cs : List (Map (List ℕ))) × (map n (folder_of cache) ≡ map Some cs) × P b a n cs))) → Only f g
  over_told None y None cache P told tells p h = tt
  over_told None y (Some a) cache P told tells p h = let no : true ≡ false = tells in absurd (cc)
  over_told (Some b) None g cache P told tells p h = let no : true ≡ false = told in absurd (cc)
  over_told (Some b) (Some n) None cache P told tells p h = let no : false ≡ true = tells in absurd (cc)
  over_told (Some b) (Some n) (Some a) cache P told tells p h =
      let at = p b a n h.0 h.2 in
      elim at.1 [
        | inl same ↦ only_same (Some b) (Some a) (ap Some same)
        | inr set ↦ only_at (Some b) (Some a) at.0 (ap Some set)
      ]

module _ (stores : ExtractStores) (cache : Option (List ℕ)) (i : Into) (l : Listing) (x : Seeds) (w v : Storage) (told : is_some w.disk.files ≡ is_some w.disk.folders) (tells : is_some v.disk.files ≡ is_some w.disk.files) where
  abbrev d : Disk
  d = w.disk

  abbrev e : Disk
  e = v.disk

  kept_at : (b a : Map (List ℕ)) (P : List ℕ → Type 0) → (t : List ℕ) × KeepsIn d e b a i l t × P t → (w : Option (List ℕ)) × ((a ≡ b) ⊎ (a ≡ at_name b i.name w))
  kept_at b a P h = (Some h.0, inr h.1.0)

  stopped_at : (b a : Map (List ℕ)) (P : List ℕ → Type 0) → StopsSomewhere w v b a i l P → (w : Option (List ℕ)) × ((a ≡ b) ⊎ (a ≡ at_name b i.name w))
  stopped_at b a P (inl same) = (None, inl same.0)
  stopped_at b a P (inr (inl old)) = (Some (old_of b i), inr old)
  stopped_at b a P (inr (inr kept)) = kept_at b a P kept

  -- an assembly that was refused has changed no other file
  only_assembled : (o : Outcome) → Assembled w v stores cache i l x (Err o) → Only i.name d.files e.files
  only_assembled (ends.Missing k id) h = over_told i.name d.files d.folders e.files cache _ told tells (λ b a n cs p. (Some p.0.0, inr p.0.1.0)) h
  only_assembled (ends.Damaged k id store shows) h = over_told i.name d.files d.folders e.files cache _ told tells (λ b a n cs p. (Some p.0.0, inr p.0.1.0)) h
  only_assembled (ends.StoreFault s) h = over_told i.name d.files d.folders e.files cache _ told tells (λ b a n cs p. kept_at b a _ p.0) h.1
  only_assembled ends.TargetFault h = over_told i.name d.files d.folders e.files cache _ told tells (λ b a n cs p. stopped_at b a _ p) h.1
  only_assembled ends.Memory h = over_told i.name d.files d.folders e.files cache _ told tells (λ b a n cs p. stopped_at b a _ p) h
  only_assembled other h = absurd h

  -- nor has one that was done
  only_made : Assembled w v stores cache i l x (Ok tt) → Only i.name d.files e.files
  only_made h = over_told i.name d.files d.folders e.files cache _ told tells (λ b a n cs p. (Some p.0.0, inr p.0.1.0)) h

left_over : (out : List ℕ) (w v : World) → Only (temporary_out out) w.disk.files v.disk.files → LeavesOut false out w v
left_over out w v only = go w.disk.files v.disk.files only where
  go : (f g : Option (Map (List ℕ))) → Only (temporary_out out) f g → IfSome f (λ b. IfSome g (λ a. (q : List ℕ) → q ≢ temporary_out out → a q ≡ b q))
  go None g h = tt
  go (Some b) None h = tt
  go (Some b) (Some a) h = h

pub left_same : (place : Bool) (out : List ℕ) (w v : World) → v.disk.files ≡ w.disk.files → LeavesOut place out w v
left_same true out w v same = tt
left_same false out w v same = left_over out w v (only_same (temporary_out out) w.disk.files v.disk.files same)

-- what a refusal of the command leaves
pub left_out : (sure : NeverFail) (stores : ExtractStores) (cache : Option (List ℕ)) (seeds : List (List ℕ)) (place : Bool) (index out : List ℕ) (w v : World) (o : Outcome) → is_some w.disk.files ≡ is_some w.disk.folders → ExtractEnds sure stores cache seeds place index out w (Err o) v → LeavesOut place out w v
left_out sure stores cache seeds true index out w v o told h = tt
left_out sure stores cache seeds false index out w v o told (inl h) = left_same false out w v (got_reads index (index_place_of index) (storage_of w) (Err o) (storage_of v) h.0).files
left_out sure stores cache seeds false index out w v o told (inr h) = go h.then where
  tmp : List ℕ
  tmp = temporary_out out

  got : Reads w.disk h.disk
  got = got_reads index (index_place_of index) (storage_of w) (Ok h.gave) (storage h.disk h.dial) h.did.0

  first : h.disk.files ≡ w.disk.files
  first = got.files

  go : (OnDisk (IndexesRead seeds) >>= (λ ls. OnDisk (SourcesOpened (stores_of stores.groups)) >>= (λ u. OnDisk (CacheOpened (stores_of stores.groups) cache) >>= (λ u. OutMade sure false stores cache out h.gave (record { images = map image_name seeds; listings = ls }))))) (world h.disk h.dial h.out) (Err o) v → LeavesOut false out w v
  go (inl k) = left_same false out w v (k.0.1.files ∙ first)
  go (inr k) = opened k.then where
    read : k.disk.files ≡ w.disk.files
    read = k.did.0.1.files ∙ first

    x : Seeds
    x = record { images = map image_name seeds; listings = k.gave }

    opened : (OnDisk (SourcesOpened (stores_of stores.groups)) >>= (λ u. OnDisk (CacheOpened (stores_of stores.groups) cache) >>= (λ u. OutMade sure false stores cache out h.gave x))) (world k.disk k.dial k.out) (Err o) v → LeavesOut false out w v
    opened (inl m) = left_same false out w v (m.0.1.files ∙ read)
    opened (inr g) = shelved g.then where
      open_files : g.disk.files ≡ w.disk.files
      open_files = g.did.0.1.files ∙ read

      shelved : (OnDisk (CacheOpened (stores_of stores.groups) cache) >>= (λ u. OutMade sure false stores cache out h.gave x)) (world g.disk g.dial g.out) (Err o) v → LeavesOut false out w v
      shelved (inl m) = left_same false out w v ((cache_reads (stores_of stores.groups) cache g.disk v.disk (Err o) m.0).files ∙ open_files)
      shelved (inr m) = made m.then where
        reached : Reads g.disk m.disk
        reached = cache_reads (stores_of stores.groups) cache g.disk m.disk (Ok tt) m.did.0

        files : m.disk.files ≡ w.disk.files
        files = reached.files ∙ open_files

        folders : m.disk.folders ≡ w.disk.folders
        folders = reached.folders ∙ g.did.0.1.folders ∙ k.did.0.1.folders ∙ got.folders

        tells : is_some m.disk.files ≡ is_some m.disk.folders
        tells = ap is_some files ∙ told ∙ sym (ap is_some folders)

        from : (u : Option (Map (List ℕ))) → Only tmp m.disk.files u → Only tmp w.disk.files u
        from u only = subst (λ f. Only tmp f u) files only

        made : OutMade sure false stores cache out h.gave x (world m.disk m.dial m.out) (Err o) v → LeavesOut false out w v
        made (inl ((c, did, cleared), rest_same)) =
            left_over out w v (from v.disk.files (only_then tmp m.disk.files c.files v.disk.files (only_assembled stores cache (beside out) h.gave x (storage m.disk m.dial) (storage c v.dial) tells did.2 o did.0) (only_cleared tmp c v.disk cleared)))
        made (inr n) =
            let did = n.did.0 in
            let first_only = only_made stores cache (beside out) h.gave x (storage m.disk m.dial) (storage n.disk n.dial) tells did.2 did.0 in
            let c = n.then.0 in
            let second : Only tmp n.disk.files v.disk.files = only_then tmp n.disk.files c.0.files v.disk.files (only_same tmp n.disk.files c.0.files c.1.0.1) (only_cleared tmp c.0 v.disk c.2) in
            left_over out w v (from v.disk.files (only_then tmp m.disk.files n.disk.files v.disk.files first_only second))

-- ---- what the top call says

left_of : (sure : SureTypes) (k : Heard) (c : Command) (w v : World) (o : Outcome) → is_some w.disk.files ≡ is_some w.disk.folders → CommandEnds sure k c w (Err o) v → LeavesBehind c w v
left_of sure k (commands.Extract stores retries seeds cache place workers index target) w v o told h = left_out (never_fail sure.target k.never_fails) (record { groups = stores; retries = retries; sure = sure.looks.never_fail }) cache seeds place index target w v o told h
left_of sure k other w v o told h = tt

left_none : (c : Command) (w v : World) → v ≡ w → LeavesBehind c w v
left_none (commands.Extract stores retries seeds cache place workers index target) w v same = left_same place target w v (ap (λ u. u.disk.files) same)
left_none other w v same = tt

pub left_behind : (sure : SureTypes) (k : Heard) (words : List (List ℕ)) (w v : World) (r : Result Unit Outcome) → is_some w.disk.files ≡ is_some w.disk.folders → DesyncEnds sure k words w r v → outcome_of r ≢ ends.Done → IfSome (command_of words) (λ c. LeavesBehind c w v)
left_behind sure k words w v (Ok u) told h refused = absurd (refused refl)
left_behind sure k words w v (Err o) told (inl h) refused = if_any (command_of words) _ (λ c. left_none c w v h.1)
left_behind sure k words w v (Err o) told (inr h) refused = let b = begun sure k words w v (Err o) h in if_some (command_of words) _ b.0 b.1 (left_of sure k b.0 w v o told b.2)
