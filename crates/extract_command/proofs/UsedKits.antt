-- The kits after an assembly, and what is held with them: they are named as before, and can be given back.
use Rattle.std.proofs.Common.{◌≡◌, ◌∙◌, ℕ, ◌<◌, List, ◌∷◌, All, Bool, length, map, slice_index_or, Option, IfSome, IsSome, Result, sym, ap, subst, arith}
use Rattle.std.proofs.lemmas.List.Elements.{All-tail}
use Rattle.std.specs.Option.{option_map}
use Rattle.assembler.specs.OneKit.{Lent, lent}
use Rattle.assembler.specs.declared.fault.ExtractFault.{ExtractFault}
use Rattle.cache_store.specs.Shelves.{Shelf}
use Rattle.chunk_sources.specs.Wants.{Task}
use Rattle.chunk_sources.specs.declared.kit.Kit.{Kit}
use Rattle.command_groups.proofs.Words.{group_words}
use Rattle.command_groups.specs.Groups.{stores_of}
use Rattle.command_groups.specs.Opened.{all_locations, locations_in}
use Rattle.command_steps.specs.AnyStores.{IsKnown}
use Rattle.command_steps.specs.Seeds.{SeedsKnown}
use Rattle.command_steps.specs.Uses.{folders_among, names_among}
use Rattle.command_steps.specs.declared.any_store.AnyStore.{AnyStore}
use Rattle.command_words.specs.declared.command.Location.{Location}
use Rattle.dsy_base.specs.Disk.{Disk}
use Rattle.dsy_base.specs.Links.{DialState}
use Rattle.dsy_base.specs.declared.look.Look.{Ghosts as LookWords}
use Rattle.dsy_base.specs.declared.view.View.{Ghosts as ViewWords}
use Rattle.extract_command.proofs.Asked.{kit_can, kit_named, kit_still}
use Rattle.extract_command.proofs.LentKits.{give_later, opened_names}
use Rattle.extract_command.specs.Held.{CanBeGiven, HasNames, groups_of}
use Rattle.extract_command.specs.Kits.{AreNamesOf, AreOpened, CanGiveKit, UsesNames, kit_groups}
use Rattle.extract_command.specs.declared.held.Held.{Held}
use Rattle.extract_command.specs.declared.stores.Stores.{Stores}
use Rattle.store_group.specs.Groups.{Grouped}
use Rattle.extract_plan.specs.Seeds.{seed_held}
use Rattle.image_workers.specs.Kits.{IsAssembledBy}
use Rattle.range_survey.specs.declared.report.Report.{Report}

-- its stores are those of the names, as are those of the further kits, and its names are as before
pub record IsHeldStill {L W V D K : Type 0} (look : LookWords L) (view : ViewWords V) (names : Stores) (images : List (List ℕ)) (h : Held L W V D K) : Type 0 where
  pub located : groups_of look h ≡ names.groups
  pub kits : All (λ x. kit_groups look view x ≡ names.groups) h.kits.items
  pub named : HasNames look view images h

module _ {L W V D K : Type 0} (look : LookWords L) (view : ViewWords V) (state : D → DialState) (t : Task) (never cache_never : Bool) (d b : Disk) (names : Stores) (images : List (List ℕ)) (t0 t1 : Option (List ℕ)) (f0 f1 : ℕ) (e0 e1 : Option Shelf)
    (olds : List (Kit (Grouped (AnyStore L D K)) V)) (j : Kit (Grouped (AnyStore L D K)) V) (h : Held L W V D K) (r : Result Report ExtractFault) (all : AreOpened look view state d b names images olds)
    (made : IsAssembledBy (group_words look state) view t never cache_never t0 t1 (lent f0 olds e0) (lent f1 (j ∷ h.kits.items) e1) r) where
  abbrev before : Lent (Grouped (AnyStore L D K)) V
  before = lent f0 olds e0

  abbrev after : Lent (Grouped (AnyStore L D K)) V
  after = lent f1 (j ∷ h.kits.items) e1

  there : (n : ℕ) → n < length (j ∷ h.kits.items) → n < length olds
  there n lt = let many : length (j ∷ h.kits.items) ≡ length olds = made.kits in omega (arith, lt, many)

  each_still : All (λ x. kit_groups look view x ≡ names.groups) (j ∷ h.kits.items)
  each_still n x lt = kit_still look view state t d b b names never cache_never t0 n x x before after images (all n x (there n lt)) (made.each n x x (there n lt))

  each_named : All (UsesNames look view images (folders_among (stores_of names.groups))) (j ∷ h.kits.items)
  each_named n x lt = kit_named look view state t d b b names never cache_never t0 n x x before after images (folders_among (stores_of names.groups)) (made.each n x x (there n lt)) (opened_names look view state d b names images (slice_index_or olds n x) (all n x (there n lt)))

  module _ (stores_are : j.chain.stores ≡ h.stores.items) (seeds_are : j.seeds.items ≡ h.seeds.items) where
    held_at : groups_of look h ≡ names.groups
    held_at = ap (map (locations_in look.place)) (sym stores_are) ∙ each_still 0 j (omega arith)

    pub held_still : IsHeldStill look view names images h
    held_still =
        let first = each_named 0 j (omega arith) in
        record {
          located = held_at;
          kits = All-tail (λ x. kit_groups look view x ≡ names.groups) j h.kits.items each_still;
          named = record {
            seeds = subst (λ xs. AreNamesOf images (names_among (map (seed_held view.held) xs))) seeds_are first.seeds;
            kits = subst (λ (n : List (List Location)). All (UsesNames look view images (folders_among (stores_of n))) h.kits.items) (sym held_at) (All-tail (UsesNames look view images (folders_among (stores_of names.groups))) j h.kits.items each_named);
          };
        }

    -- over a disk on which no number was forgotten since
    pub held_given : (folder : LookWords W) (c : Disk) → ((q : List ℕ) → IsSome (b.folder_counts q) → IsSome (c.folder_counts q)) → ((q : List ℕ) → IsSome (b.file_counts q) → IsSome (c.file_counts q))
        → option_map (λ s. folder.place s.folder) h.shelf ≡ h.cache → IfSome h.cache (λ q. IsSome (c.folder_counts q)) → CanBeGiven look folder view c h
    held_given folder c folders files is known =
        let can : All (CanGiveKit look view c) (j ∷ h.kits.items) = λ n x lt. kit_can look view state t d b b names never cache_never t0 n x x before after c (made.each n x x (there n lt)) (give_later look view b c folders files (slice_index_or olds n x) (all n x (there n lt)).given) in
        let first = can 0 j (omega arith) in
        record {
          stores = subst (λ xs. All (IsKnown c.folder_counts) (all_locations look.place xs)) stores_are first.stores;
          named = is;
          cache = known;
          seeds = subst (λ xs. SeedsKnown view.held c.file_counts xs) seeds_are first.seeds;
          kits = All-tail (CanGiveKit look view c) j h.kits.items can;
        }
