-- What can be obtained with one of several kits that were opened for the same words.
use Rattle.std.proofs.Common.{◌≡◌, ◌∙◌, ◌++◌, ℕ, zero, suc, ◌<◌, List, [], ◌∷◌, All, length, map, IsTrue, Option, Some, IfSome, refl, sym, ap, subst, inl, inr, arith}
use Rattle.std.proofs.lemmas.List.Elements.{All-tail}
use Rattle.std.proofs.lemmas.Option.{same_Some}
use Rattle.std.specs.List.{Any}
use Rattle.std.specs.Option.{option_map}
use Rattle.caibx_codec.specs.Listing.{count_of, image_length}
use Rattle.chunk_sources.specs.Sources.{views_of}
use Rattle.chunk_sources.specs.Wants.{Task}
use Rattle.chunk_sources.specs.declared.kit.Kit.{Kit}
use Rattle.chunk_store.proofs.Members.{any_part}
use Rattle.chunk_store.specs.Folders.{chunks}
use Rattle.chunk_store.specs.Members.{maps_of, told_together}
use Rattle.command_groups.proofs.Seen.{groups_members, members_told}
use Rattle.command_groups.proofs.Stand.{fresh_first}
use Rattle.command_groups.proofs.Words.{group_words}
use Rattle.command_groups.specs.Groups.{member_files}
use Rattle.command_groups.specs.Opened.{told_members}
use Rattle.command_steps.specs.AnyStores.{source_faults}
use Rattle.command_steps.specs.declared.any_store.AnyStore.{AnyStore}
use Rattle.command_worlds.specs.Worlds.{FileRose}
use Rattle.dsy_base.specs.Bytes.{resized}
use Rattle.dsy_base.specs.Disk.{Disk}
use Rattle.dsy_base.specs.Links.{DialState}
use Rattle.dsy_base.specs.Maps.{Map}
use Rattle.dsy_base.specs.declared.look.Look.{Ghosts as LookWords}
use Rattle.dsy_base.specs.declared.view.View.{Ghosts as ViewWords}
use Rattle.extract_command.proofs.Assembled.{had_of}
use Rattle.extract_command.proofs.LentKits.{views_alike}
use Rattle.extract_command.specs.Extract.{CanBeHad, Seeds}
use Rattle.extract_command.specs.Kits.{AreOpened, IsKitOpened}
use Rattle.extract_command.specs.declared.stores.Stores.{Stores}
use Rattle.extract_plan.specs.Places.{IsSeedIndex}
use Rattle.image_workers.proofs.Sharing.{both_halves}
use Rattle.image_workers.specs.Kits.{AllKitsTell, AreKitsAlike, SomeKitHas}
use Rattle.image_workers.specs.Shared.{all_stores}
use Rattle.store_chain.specs.Giving.{SomeHolds}
use Rattle.store_group.specs.Groups.{Grouped}

-- a list n times
abbrev times : {X : Type 0} → ℕ → List X → List X
times zero xs = []
times (suc n) xs = xs ++ times n xs

one_of : {X : Type 0} (P : X → Type 0) (n : ℕ) (xs : List X) → Any P (times n xs) → Any P xs
one_of P zero xs any = let less : any.0 < 0 = any.2 in absurd (omega (arith, less))
one_of P (suc n) xs any = elim (any_part P xs (times n xs) any) [
  | inl here ↦ here
  | inr later ↦ one_of P n xs later
]

module _ {L V D K : Type 0} (look : LookWords L) (view : ViewWords V) (state : D → DialState) (d b : Disk) (names : Stores) (x : Seeds) (n : Map (Map (List ℕ))) (y : d.folders ≡ Some n) (fs : List (Map (List ℕ))) (there : maps_of (member_files look.never_fails n) names.groups ≡ Some fs) where
  abbrev IsOpen : Kit (Grouped (AnyStore L D K)) V → Type 0
  IsOpen k = IsKitOpened look view state d b names x.images k

  abbrev members : Grouped (AnyStore L D K) → Option (List (Map (List ℕ)))
  members = (group_words look state).members

  -- those who answer for its groups
  pub kit_known : (k : Kit (Grouped (AnyStore L D K)) V) → IsOpen k → map members k.chain.stores ≡ map (λ g. option_map (map chunks) (member_files look.never_fails n g)) names.groups
  kit_known k is =
      let sure = look.never_fails in
      let first = fresh_first (source_faults look.faults state) names.retries k.chain.stores is.fresh in
      subst (λ o. IfSome o (λ m. map (told_members sure look.files) k.chain.stores ≡ map (λ g. option_map (map chunks) (member_files sure m g)) names.groups)) y (groups_members sure look.files d.folders k.chain.stores names.groups first is.found)

  -- hold the chunks of the folders
  pub kit_members : (k : Kit (Grouped (AnyStore L D K)) V) → IsOpen k → maps_of members k.chain.stores ≡ Some (map chunks fs)
  kit_members k is = ap told_together (kit_known k is) ∙ (members_told look.never_fails n names.groups ∙ ap (option_map (map chunks)) there)

  all_members : (kits : List (Kit (Grouped (AnyStore L D K)) V)) → All IsOpen kits → maps_of members (all_stores kits) ≡ Some (times (length kits) (map chunks fs))
  all_members [] are = refl
  all_members (k ∷ kits) are =
      both_halves members k.chain.stores (all_stores kits) (map chunks fs) (times (length kits) (map chunks fs)) (kit_members k (are 0 k (omega arith))) (all_members kits (All-tail IsOpen k kits are))

  -- what one of them holds is in the folders
  pub all_held : (kits : List (Kit (Grouped (AnyStore L D K)) V)) → AreOpened look view state d b names x.images kits → (id c : List ℕ) → SomeHolds members (all_stores kits) id c → Any (λ m. m id ≡ Some c) (map chunks fs)
  all_held kits are id c held = one_of (λ m. m id ≡ Some c) (length kits) (map chunks fs) (held (times (length kits) (map chunks fs)) (all_members kits are))

  pub kits_tell : (t : Task) (kits : List (Kit (Grouped (AnyStore L D K)) V)) → AreOpened look view state d b names x.images kits → IsTrue view.tells → AllKitsTell (group_words look state) view t kits
  kits_tell t kits are tells = λ i k lt. (λ some. tells, (map chunks fs, kit_members _ (are i k lt)))

  module _ (m : Map (List ℕ)) (told : d.files ≡ Some m) where
    pub kits_alike : (t : Task) → ((q : List ℕ) → FileRose d b q → ⊥) → (kits : List (Kit (Grouped (AnyStore L D K)) V)) → AreOpened look view state d b names x.images kits → AreKitsAlike (group_words look state) view t kits
    kits_alike t quiet kits are = λ i q lt.
        let here = are i q lt in
        let first = are 0 q (omega (arith, lt)) in
        (views_alike d b m told quiet x.images _ _ here.viewed first.viewed, kit_known _ here ∙ sym (kit_known _ first))

    -- so an entry that can be obtained with one of them can be obtained
    pub kit_had : (t : Task) (kits : List (Kit (Grouped (AnyStore L D K)) V)) → AreOpened look view state d b names x.images kits → IsSeedIndex t.listing t.plan x.listings t.places → (cached : List (Map (List ℕ))) (o : List ℕ) (i : ℕ) → i < count_of t.listing
        → SomeKitHas (group_words look state) view t kits cached o i → CanBeHad t.listing (resized o (image_length t.listing)) m x (cached ++ map chunks fs) i
    kit_had t kits are is cached o i listed (j, k, lt, at, (maps, tell, has)) =
        let here : IsOpen k = subst IsOpen at (are j k lt) in
        let same : maps ≡ map chunks fs = same_Some maps (map chunks fs) (sym tell ∙ kit_members k here) in
        subst (λ (l : List (Map (List ℕ))). CanBeHad t.listing (resized o (image_length t.listing)) m x (cached ++ l) i) same
        (had_of d b t x (views_of view k.seeds.items) here.viewed is m told (resized o (image_length t.listing)) (cached ++ maps) i listed has)
