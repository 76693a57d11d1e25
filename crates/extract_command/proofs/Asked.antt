-- How often the stores of one of several kits were asked, over files that were taken.
use Rattle.std.proofs.Common.{◌≡◌, ◌∙◌, ℕ, ◌<◌, List, map, All, Bool, true, Option, Some, IfSome, IsSomeAnd, Result, length, slice_index_or, sym, subst, inl, inr}
use Rattle.std.specs.List.{fold}
use Rattle.assembler.specs.OneKit.{Lent}
use Rattle.assembler.specs.declared.fault.ExtractFault.{ExtractFault}
use Rattle.caibx_codec.specs.Asks.{IsListedGet}
use Rattle.caibx_codec.specs.Listing.{size_of}
use Rattle.chunk_sources.specs.Caches.{CacheGives}
use Rattle.chunk_sources.specs.Sources.{views_of}
use Rattle.chunk_sources.specs.Wants.{Task}
use Rattle.chunk_sources.specs.declared.kit.Kit.{Kit}
use Rattle.command_groups.proofs.Asked.{groups_got, groups_sent}
use Rattle.command_groups.proofs.Stand.{fresh_tries, groups_stand_still, groups_try_still}
use Rattle.command_groups.proofs.Words.{group_words}
use Rattle.command_groups.specs.Asking.{with_retries}
use Rattle.command_groups.specs.Groups.{stores_of}
use Rattle.command_groups.specs.Opened.{locations_in, with_group}
use Rattle.command_steps.proofs.Asking.{few_each}
use Rattle.command_steps.proofs.Lacked.{same_length}
use Rattle.command_steps.proofs.Lent.{store_rose}
use Rattle.command_steps.specs.AnyStores.{IsKnown, place_in, source_faults}
use Rattle.command_steps.specs.Asking.{AsksFew, EachDialed, SendsFronts}
use Rattle.command_steps.specs.Seeds.{label_in}
use Rattle.command_steps.specs.declared.any_store.AnyStore.{AnyStore}
use Rattle.command_words.specs.declared.command.Location.{Location}
use Rattle.command_worlds.specs.Worlds.{FileRose}
use Rattle.command_steps.specs.Uses.{IsNoneOf, folders_among, names_among}
use Rattle.dsy_base.specs.Bytes.{Held}
use Rattle.dsy_base.specs.Counts.{Rose}
use Rattle.dsy_base.specs.Disk.{Disk}
use Rattle.dsy_base.specs.Links.{DialState, Traffic}
use Rattle.dsy_base.specs.declared.look.Look.{Ghosts as LookWords}
use Rattle.dsy_base.specs.declared.view.View.{Ghosts as ViewWords}
use Rattle.extract_command.proofs.LentKits.{IsKitAdded}
use Rattle.extract_command.proofs.Seeded.{label_of, labels_are, same_known, same_labels, zeros}
use Rattle.extract_command.proofs.Spared.{of_told, spared_over}
use Rattle.extract_command.specs.Extract.{CacheSpares, Into, IsSparedOnDisk, NeverFail, Seeds, never_fail, old_of}
use Rattle.extract_command.specs.Kits.{CanGiveKit, IsKitOpened, UsesNames}
use Rattle.extract_command.specs.declared.stores.Stores.{Stores}
use Rattle.extract_plan.specs.Deal.{IsPlan, first_of, want_id}
use Rattle.extract_plan.specs.Places.{IsSeedIndex}
use Rattle.extract_plan.specs.Seeds.{faults_in}
use Rattle.http_wire.specs.declared.reply.Method.TheVariants as method
use Rattle.image_workers.specs.Kits.{IsSparedFor, KitUsed, at_kit, uncached, worker_asks}
use Rattle.image_workers.specs.Shared.{all_stores}
use Rattle.range_survey.specs.declared.report.Report.{Report}
use Rattle.store_group.specs.Groups.{Grouped, group_place}

module _ {L V D K : Type 0} (look : LookWords L) (view : ViewWords V) (state : D → DialState) (t : Task) (d b e : Disk) (names : Stores) (never cache_never : Bool) (t0 : Option (List ℕ)) (i : ℕ) (q j : Kit (Grouped (AnyStore L D K)) V) (old new : Lent (Grouped (AnyStore L D K)) V) where
  abbrev sure : NeverFail
  sure = never_fail never cache_never

  abbrev many : ℕ
  many = length old.kits

  abbrev before : Kit (Grouped (AnyStore L D K)) V
  before = slice_index_or old.kits i q

  abbrev after : Kit (Grouped (AnyStore L D K)) V
  after = slice_index_or new.kits i j

  module _ (images : List (List ℕ)) (is : IsKitOpened look view state d b names images before) {answer : Result Report ExtractFault} (used : KitUsed (group_words look state) view t never cache_never t0 old i (at_kit old i q) (at_kit new i j) answer) where
    still : map (locations_in look.place) after.chain.stores ≡ map (locations_in look.place) before.chain.stores
    still = groups_stand_still look.place before.chain.stores after.chain.stores used.stores.places

    pub kit_still : map (locations_in look.place) after.chain.stores ≡ names.groups
    kit_still = still ∙ is.located

    -- its calls are made as often again
    pub kit_tries : All (λ g. g.retries ≡ names.retries) after.chain.stores
    kit_tries = groups_try_still look.place names.retries before.chain.stores after.chain.stores used.stores.places (fresh_tries (source_faults look.faults state) names.retries before.chain.stores is.fresh)

    -- only listed chunks were asked for
    pub kit_sends : (a c : Option (List Traffic)) → c ≡ fold (with_group state) a after.chain.stores → EachDialed (SendsFronts (IsListedGet t.listing)) (stores_of names.groups) a c
    kit_sends a c ended = groups_sent look.place state names.retries (IsListedGet t.listing) before.chain.stores after.chain.stores names.groups a c is.unused kit_tries still used.stores.sends kit_still ended

  -- it can be given back as it could before
  pub kit_can : (c : Disk) {answer : Result Report ExtractFault} → KitUsed (group_words look state) view t never cache_never t0 old i (at_kit old i q) (at_kit new i j) answer → CanGiveKit look view c before → CanGiveKit look view c after
  kit_can c used can = record {
    stores = subst (λ (l : List (List Location)). All (IsKnown c.folder_counts) (stores_of l)) (sym (groups_stand_still look.place before.chain.stores after.chain.stores used.stores.places)) can.stores;
    seeds = same_known view.held c.file_counts before.seeds.items after.seeds.items used.seeds.held can.seeds;
  }

  -- its names are still among these
  pub kit_named : (files folders : List (List ℕ)) {answer : Result Report ExtractFault} → KitUsed (group_words look state) view t never cache_never t0 old i (at_kit old i q) (at_kit new i j) answer → UsesNames look view files folders before → UsesNames look view files folders after
  kit_named files folders used named = record {
    seeds = λ n none. subst (λ (l : List (Option Held)). IsNoneOf n (names_among l)) (sym used.seeds.held) (named.seeds n none);
    stores = λ n none. subst (λ (l : List (List Location)). IsNoneOf n (folders_among (stores_of l))) (sym (groups_stand_still look.place before.chain.stores after.chain.stores used.stores.places)) (named.stores n none);
  }

  module _ (z : Seeds) (is : IsKitOpened look view state d b names z.images before) {answer : Result Report ExtractFault} (used : KitUsed (group_words look state) view t never cache_never t0 old i (at_kit old i q) (at_kit new i j) answer) (added : IsKitAdded look view state d e after)
      (count : ℕ) (plan : IsPlan t.listing count t.plan) (o : Into) (index : IsSeedIndex t.listing t.plan z.listings t.places) (later : (q : List ℕ) → FileRose d b q → FileRose d e q)
      (took : IfSome d.files (λ m. t0 ≡ Some (old_of m o))) (rose : Rose old.faults new.faults → FileRose d e o.name) (cache : Option (List ℕ))
      (gives : (w : ℕ) → IsSomeAnd cache (λ c. CacheSpares d e c t.listing (want_id t.listing t.plan w) (size_of t.listing (first_of t.plan w)))
      → CacheGives (group_words look state) t.listing (all_stores old.kits) (want_id t.listing t.plan w) (size_of t.listing (first_of t.plan w)) old.cache new.cache) where
    abbrev labels : List (List ℕ)
    labels = map label_of (views_of view before.seeds.items)

    pub kit_gets : (spared : ℕ → Bool) → ((w : ℕ) → w < t.plan.wants → spared w ≡ true → IsSomeAnd d.files (λ m. IsSparedOnDisk sure many d e m cache o t.listing z t.plan w))
        → (a c : Option (List Traffic)) → c ≡ fold (with_group state) a after.chain.stores
        → EachDialed (AsksFew method.Get (with_retries names.retries (worker_asks t.listing t.plan spared i))) (stores_of names.groups) a c
    kit_gets spared are a c ended =
        let xs = before.seeds.items in
        let ys = after.seeds.items in
        let fresh : map (faults_in view.faults) xs ≡ map {B = ℕ} (λ s. 0) labels = is.unfailed ∙ sym (zeros view.held xs) in
        let labelled : map (label_in view.held) ys ≡ labels = same_labels view.held xs ys used.seeds.held ∙ labels_are view.held xs in
        let rises = store_rose (faults_in view.faults) (label_in view.held) d.file_counts added.counts e.file_counts added.le xs ys labels fresh labelled added.added in
        let asked = used.asks spared (λ w below yes.
        of_told d.files (λ m. IsSparedOnDisk sure many d e m cache o t.listing z t.plan w) (IsSparedFor (group_words look state) view t never cache_never t0 old (at_kit old i q) (at_kit new i j) w)
        (λ m told so. elim (spared_over (group_words look state) view t (uncached (at_kit old i q)) (at_kit new i j) d b e m told count plan sure many o z is.viewed index later rises t0 (subst (λ f. IfSome f (λ m. t0 ≡ Some (old_of m o))) told took) rose cache w below so) [
          | inl spared ↦ inl spared
          | inr cached ↦ inr (gives w cached.0, cached.1)
        ]) (are w below yes)) in
        let asks = worker_asks t.listing t.plan spared i in
        let places = group_place (place_in look.place) in
        let few = few_each (group_words look state).asked asks before.chain.stores after.chain.stores (same_length places before.chain.stores after.chain.stores (sym used.stores.places)) (λ q n. asked.most q n) in
        groups_got look.place state names.retries asks before.chain.stores after.chain.stores names.groups a c is.unused (kit_tries z.images is used) (still z.images is used) few (kit_still z.images is used) ended
