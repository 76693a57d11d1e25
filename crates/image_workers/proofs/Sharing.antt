-- What several workers may add to a cache that they share, and what it gives then. Kits count from 0.
use Rattle.std.proofs.Common.{◌≡◌, ◌⊎◌, ◌++◌, ◌∷◌, ◌<◌, ℕ, zero, suc, List, [], All, Option, Some, None, IfSome, IsSome, IsSomeAnd, length, map, slice_index_or, refl, sym, ap, subst, ◌∙◌, inl, inr, arith}
use Rattle.std.proofs.lemmas.List.{append_assoc, get_or_default}
use Rattle.std.proofs.lemmas.Option.{none-some, same_Some}
use Rattle.std.specs.List.{Any}
use Rattle.std.specs.Option.{option_map}
use Rattle.assembler.proofs.Counted.{quiet_part}
use Rattle.assembler.proofs.Entries.{first_among, ids_same, listed_of}
use Rattle.assembler.proofs.Finished.{here}
use Rattle.assembler.specs.Passes.{want_at}
use Rattle.cache_store.specs.Giving.{SomeGives}
use Rattle.cache_store.specs.Shelves.{IsPair, MayAdd, Shelf}
use Rattle.caibx_codec.specs.Listing.{Listing, count_of, id_of, kind_of, size_of}
use Rattle.chunk_sources.proofs.Cached.{gives_left, gives_right, stocked_falls, stocked_gave, stocked_gives, stocked_on, stocked_told, stocked_wider}
use Rattle.chunk_sources.specs.Caches.{OthersAddListed, AddsSize, CacheGives, IsListedAs, Stocked, TakesListed, TakesWants, cache_faults, cached_in, given_maps, shared_maps}
use Rattle.chunk_sources.specs.Wants.{Task}
use Rattle.chunk_sources.specs.declared.kit.Kit.{Kit}
use Rattle.chunk_store.specs.Folders.{chunks}
use Rattle.chunk_store.proofs.Members.{any_here, any_left, any_next, any_part, any_right, told_parts}
use Rattle.chunk_store.specs.Giving.{IsChunk}
use Rattle.chunk_store.specs.Members.{maps_of, told_together}
use Rattle.chunk_store.specs.declared.store.Store.{Ghosts as StoreWords}
use Rattle.dsy_base.specs.Maps.{Map}
use Rattle.dsy_base.specs.declared.view.View.{Ghosts as ViewWords}
use Rattle.extract_plan.specs.Deal.{AreWants, Deal, first_of, want_id}
use Rattle.extract_plan.specs.Places.{Placed}
use Rattle.image_workers.specs.Kits.{AreKitsAlike}
use Rattle.image_workers.specs.Shared.{GivesNoMore, MayAddFrom, all_stores, door_shelf, pairs_below}
use Rattle.store_chain.specs.Giving.{SomeHolds}

-- ---- lists

-- what two lists tell together
record Halves {X Y : Type 0} (h : X → Option (List Y)) (xs ys : List X) (maps : List Y) : Type 0 where
  left : List Y
  right : List Y
  whole : maps ≡ left ++ right
  of_left : told_together (map h xs) ≡ Some left
  of_right : told_together (map h ys) ≡ Some right

halves : {X Y : Type 0} (h : X → Option (List Y)) (xs ys : List X) (maps : List Y) → told_together (map h (xs ++ ys)) ≡ Some maps → Halves h xs ys maps
halves h [] ys maps told = record { left = []; right = maps; whole = refl; of_left = refl; of_right = told }
halves {X} {Y} h (x ∷ xs) ys maps told = go (h x) refl told (λ ms is. halves h xs ys ms is) where
  go : (o : Option (List Y)) → h x ≡ o → told_together (o ∷ map h (xs ++ ys)) ≡ Some maps
      → ((ms : List Y) → told_together (map h (xs ++ ys)) ≡ Some ms → Halves h xs ys ms) → Halves h (x ∷ xs) ys maps
  go None at all rest = absurd (none-some maps all)
  go (Some zs) at all rest =
      let p = told_parts zs (map h (xs ++ ys)) maps all in
      let r = rest p.0 p.1 in
      record {
        left = zs ++ r.left;
        right = r.right;
        whole = sym p.2 ∙ ap (λ l. zs ++ l) r.whole ∙ sym (append_assoc zs r.left r.right);
        of_left = ap (λ (o : Option (List Y)). told_together (o ∷ map h xs)) at ∙ ap (option_map (λ l. zs ++ l)) r.of_left;
        of_right = r.of_right;
      }

pub both_halves : {X Y : Type 0} (h : X → Option (List Y)) (xs ys : List X) (left right : List Y) → told_together (map h xs) ≡ Some left → told_together (map h ys) ≡ Some right
    → told_together (map h (xs ++ ys)) ≡ Some (left ++ right)
both_halves h [] ys left right first then = then ∙ ap (λ l. Some (l ++ right)) (same_Some [] left first)
both_halves {X} {Y} h (x ∷ xs) ys left right first then = go (h x) refl first (λ ms is. both_halves h xs ys ms right is then) where
  go : (o : Option (List Y)) → h x ≡ o → told_together (o ∷ map h xs) ≡ Some left
      → ((ms : List Y) → told_together (map h xs) ≡ Some ms → told_together (map h (xs ++ ys)) ≡ Some (ms ++ right)) → told_together (map h (x ∷ (xs ++ ys))) ≡ Some (left ++ right)
  go None at all rest = absurd (none-some left all)
  go (Some zs) at all rest =
      let p = told_parts zs (map h xs) left all in
      ap (λ (o : Option (List Y)). told_together (o ∷ map h (xs ++ ys))) at ∙ ap (option_map (λ l. zs ++ l)) (rest p.0 p.1)
      ∙ ap Some (sym (append_assoc zs p.0 right) ∙ ap (λ l. l ++ right) p.2)

none_under : {Y : Type 0} (ys : List Y) (o : Option (List Y)) → option_map (λ zs. ys ++ zs) o ≡ None → o ≡ None
none_under ys None is = refl
none_under ys (Some zs) is = absurd (cc)

mute_cons : {Y : Type 0} (o : Option (List Y)) (rest xs ys : List (Option (List Y))) → told_together (o ∷ rest) ≡ None → (told_together rest ≡ None → (told_together xs ≡ None) ⊎ (told_together ys ≡ None))
    → (told_together (o ∷ xs) ≡ None) ⊎ (told_together ys ≡ None)
mute_cons None rest xs ys is so = inl refl
mute_cons (Some y) rest xs ys is so = elim (so (none_under y (told_together rest) is)) [
  | inl here ↦ inl (ap (option_map (λ zs. y ++ zs)) here)
  | inr later ↦ inr later
]

mute_half : {X Y : Type 0} (h : X → Option (List Y)) (xs ys : List X) → told_together (map h (xs ++ ys)) ≡ None → (told_together (map h xs) ≡ None) ⊎ (told_together (map h ys) ≡ None)
mute_half h [] ys none = inr none
mute_half h (x ∷ xs) ys none = mute_cons (h x) (map h (xs ++ ys)) (map h xs) (map h ys) none (λ is. mute_half h xs ys is)

-- ---- pairs

last_or : (i n : ℕ) → i < suc n → (i ≡ n) ⊎ (i < n)
last_or zero zero less = inl refl
last_or zero (suc n) less = inr (omega arith)
last_or (suc i) zero less = absurd (omega (arith, less))
last_or (suc i) (suc n) less = elim (last_or i n (omega (arith, less))) [
  | inl same ↦ inl (ap suc same)
  | inr before ↦ inr (omega (arith, before))
]

pair_below : (l : Listing) (n i : ℕ) → i < n → IsPair (id_of l i) (size_of l i) (pairs_below l n)
pair_below l zero i less = absurd (omega (arith, less))
pair_below l (suc n) i less = elim (last_or i n less) [
  | inl same ↦ any_here (λ (p : List ℕ × ℕ). (p.0 ≡ id_of l i) × (p.1 ≡ size_of l i)) (id_of l n, size_of l n) (pairs_below l n) (ap (id_of l) (sym same), ap (size_of l) (sym same))
  | inr before ↦ any_next (λ (p : List ℕ × ℕ). (p.0 ≡ id_of l i) × (p.1 ≡ size_of l i)) (id_of l n, size_of l n) (pairs_below l n) (pair_below l n i before)
]

below_pair : (l : Listing) (n : ℕ) (id : List ℕ) (size : ℕ) → IsPair id size (pairs_below l n) → (i : ℕ) × (i < n) × (id_of l i ≡ id) × (size_of l i ≡ size)
below_pair l zero id size any = let less : any.0 < 0 = any.2 in absurd (omega (arith, less))
below_pair l (suc n) id size (zero, p, less, at, is) = (n, omega arith, ap (λ (q : List ℕ × ℕ). q.0) at ∙ is.0, ap (λ (q : List ℕ × ℕ). q.1) at ∙ is.1)
below_pair l (suc n) id size (suc k, p, less, at, is) =
    let r = below_pair l n id size (k, p, omega (arith, less), at, is) in
    (r.0, omega (arith, r.1), r.2, r.3)

-- ---- the stores of all kits

module _ {S V : Type 0} (store : StoreWords S) where
  -- what all stores tell those of one kit tell
  record PartOf (kits : List (Kit S V)) (k : ℕ) (q : Kit S V) (maps : List (Map (List ℕ))) : Type 0 where
    part : List (Map (List ℕ))
    told : maps_of store.members (slice_index_or kits k q).chain.stores ≡ Some part
    any : (id b : List ℕ) → Any (λ m. m id ≡ Some b) part → Any (λ m. m id ≡ Some b) maps

  part_of : (kits : List (Kit S V)) (k : ℕ) (q : Kit S V) (maps : List (Map (List ℕ))) → k < length kits → maps_of store.members (all_stores kits) ≡ Some maps → PartOf kits k q maps
  part_of [] k q maps less told = absurd (omega (arith, less))
  part_of (z ∷ zs) zero q maps less told =
      let h = halves store.members z.chain.stores (all_stores zs) maps told in
      record { part = h.left; told = h.of_left; any = λ id b some. subst (λ ms. Any (λ m. m id ≡ Some b) ms) (sym h.whole) (any_left (λ m. m id ≡ Some b) h.left h.right some) }
  part_of (z ∷ zs) (suc k) q maps less told =
      let h = halves store.members z.chain.stores (all_stores zs) maps told in
      let r = part_of zs k q h.right (omega (arith, less)) h.of_right in
      record { part = r.part; told = r.told; any = λ id b some. subst (λ ms. Any (λ m. m id ≡ Some b) ms) (sym h.whole) (any_right (λ m. m id ≡ Some b) h.left h.right (r.any id b some)) }

  -- what is held in one kit is held in all together
  pub holds_all : (kits : List (Kit S V)) (k : ℕ) (q : Kit S V) → k < length kits → (id b : List ℕ) → SomeHolds store.members (slice_index_or kits k q).chain.stores id b
      → SomeHolds store.members (all_stores kits) id b
  holds_all kits k q less id b held = λ maps told. let p = part_of kits k q maps less told in p.any id b (held p.part p.told)

  -- what some map of all stores does one of some kit does
  pub record KitOf (P : Map (List ℕ) → Type 0) (kits : List (Kit S V)) : Type 0 where
    pub at : ℕ
    pub kit : Kit S V
    pub inside : at < length kits
    pub is : slice_index_or kits at kit ≡ kit
    pub part : List (Map (List ℕ))
    pub told : maps_of store.members kit.chain.stores ≡ Some part
    pub any : Any P part

  next_kit : (P : Map (List ℕ) → Type 0) (z : Kit S V) (zs : List (Kit S V)) → KitOf P zs → KitOf P (z ∷ zs)
  next_kit P z zs r = let less = r.inside in record { at = suc r.at; kit = r.kit; inside = omega (arith, less); is = r.is; part = r.part; told = r.told; any = r.any }

  pub kit_of : (P : Map (List ℕ) → Type 0) (kits : List (Kit S V)) (maps : List (Map (List ℕ))) → maps_of store.members (all_stores kits) ≡ Some maps → Any P maps → KitOf P kits
  kit_of P [] [] told some = let less : some.0 < 0 = some.2 in absurd (omega (arith, less))
  kit_of P [] (m ∷ maps) told some = absurd (cc)
  kit_of P (z ∷ zs) maps told some =
      let h = halves store.members z.chain.stores (all_stores zs) maps told in
      elim (any_part P h.left h.right (subst (λ ms. Any P ms) h.whole some)) [
        | inl here ↦ record { at = 0; kit = z; inside = omega arith; is = refl; part = h.left; told = h.of_left; any = here }
        | inr later ↦ next_kit P z zs (kit_of P zs h.right h.of_right later)
      ]

  -- where not all tell one kit's stores don't
  pub record MuteKit (kits : List (Kit S V)) : Type 0 where
    pub at : ℕ
    pub kit : Kit S V
    pub inside : at < length kits
    pub is : slice_index_or kits at kit ≡ kit
    pub mute : maps_of store.members kit.chain.stores ≡ None

  next_mute : (z : Kit S V) (zs : List (Kit S V)) → MuteKit zs → MuteKit (z ∷ zs)
  next_mute z zs r = let less = r.inside in record { at = suc r.at; kit = r.kit; inside = omega (arith, less); is = r.is; mute = r.mute }

  pub mute_kit : (kits : List (Kit S V)) → maps_of store.members (all_stores kits) ≡ None → MuteKit kits
  mute_kit [] none = absurd (cc)
  mute_kit (z ∷ zs) none = elim (mute_half store.members z.chain.stores (all_stores zs) none) [
    | inl here ↦ record { at = 0; kit = z; inside = omega arith; is = refl; mute = here }
    | inr later ↦ next_mute z zs (mute_kit zs later)
  ]

  -- kits whose stores tell the same
  record WholeOf (kits : List (Kit S V)) (maps : List (Map (List ℕ))) : Type 0 where
    whole : List (Map (List ℕ))
    told : maps_of store.members (all_stores kits) ≡ Some whole
    any : (id b : List ℕ) → Any (λ m. m id ≡ Some b) whole → Any (λ m. m id ≡ Some b) maps

  whole_of : (kits : List (Kit S V)) (maps : List (Map (List ℕ))) → All (λ k. maps_of store.members k.chain.stores ≡ Some maps) kits → WholeOf kits maps
  whole_of [] maps all = record { whole = []; told = refl; any = λ id b some. let less : some.0 < 0 = some.2 in absurd (omega (arith, less)) }
  whole_of (z ∷ zs) maps all =
      let r = whole_of zs maps (λ k d less. all (suc k) d (omega (arith, less))) in
      let head : maps_of store.members z.chain.stores ≡ Some maps = all 0 z (omega arith) in
      record {
        whole = maps ++ r.whole;
        told = both_halves store.members z.chain.stores (all_stores zs) maps r.whole head r.told;
        any = λ id b some. elim (any_part (λ m. m id ≡ Some b) maps r.whole some) [
          | inl first ↦ first
          | inr later ↦ r.any id b later
        ];
      }

  pub holds_alike : (view : ViewWords V) (t : Task) (kits : List (Kit S V)) (q : Kit S V) → AreKitsAlike store view t kits → (id b : List ℕ) → SomeHolds store.members (all_stores kits) id b
      → SomeHolds store.members (slice_index_or kits 0 q).chain.stores id b
  holds_alike view t kits q alike id b held = λ maps told.
      let w = whole_of kits maps (λ k z less. ap (λ (p : Kit S V). maps_of store.members p.chain.stores) (get_or_default kits k z q less) ∙ ap told_together (alike k q less).1 ∙ told) in
      w.any id b (held w.whole w.told)

-- ---- what may be added

-- some map holds it, where the stores tell
held_by : {S : Type 0} (store : StoreWords S) (stores : List S) (id b : List ℕ) → IfSome (maps_of store.members stores) (Any (λ m. m id ≡ Some b)) → SomeHolds store.members stores id b
held_by store stores id b held = λ maps told. subst (λ o. IfSome o (Any (λ m. m id ≡ Some b))) told held

by_held : {S : Type 0} (store : StoreWords S) (stores : List S) (id b : List ℕ) → SomeHolds store.members stores id b → IfSome (maps_of store.members stores) (Any (λ m. m id ≡ Some b))
by_held store stores id b held = go (maps_of store.members stores) refl where
  go : (o : Option (List (Map (List ℕ)))) → maps_of store.members stores ≡ o → IfSome o (Any (λ m. m id ≡ Some b))
  go None is = tt
  go (Some maps) is = held maps is

module _ {S V : Type 0} (store : StoreWords S) (l : Listing) (kits : List (Kit S V)) where
  abbrev pub Adds : List ℕ → List ℕ → Type 0
  Adds = MayAdd (kind_of l) (Some (pairs_below l (count_of l))) (maps_of store.members (all_stores kits))

  -- what is added an index lists, and some kit's store holds it
  pub adds_listed : (q b : List ℕ) → Adds q b → TakesListed store l (all_stores kits) q b
  adds_listed q b may =
      let at = below_pair l (count_of l) q (length b) may.listed in (
        at.0,
        at.1,
        (
          sym at.2,
          record { named = may.named ∙ sym at.2; sized = sym at.3 },
          subst (λ (p : List ℕ). SomeHolds store.members (all_stores kits) p b) (sym at.2) (held_by store (all_stores kits) q b may.held),
        ),
      )

  -- and what the stores of one kit give for listed entries may be added
  pub listed_adds : (k : ℕ) (z : Kit S V) → k < length kits → (q b : List ℕ) → TakesListed store l (slice_index_or kits k z).chain.stores q b → Adds q b
  listed_adds k z less q b (i, inside, (is, chunk, held)) = record {
    named = chunk.named ∙ sym is;
    listed = subst (λ (p : List ℕ). IsPair p (length b) (pairs_below l (count_of l))) (sym is)
        (subst (λ (n : ℕ). IsPair (id_of l i) n (pairs_below l (count_of l))) (sym chunk.sized) (pair_below l (count_of l) i inside));
    held = by_held store (all_stores kits) q b (subst (λ (p : List ℕ). SomeHolds store.members (all_stores kits) p b) (sym is) (holds_all store kits k z less (id_of l i) b held));
  }

  -- it is the chunk, where no other one may stand in its place
  adds_chunk : (id : List ℕ) (size : ℕ) → ((n : ℕ) (b : List ℕ) → IsListedAs l id n → IsChunk (kind_of l) id n b → SomeHolds store.members (all_stores kits) id b → n ≡ size)
      → (b : List ℕ) → Adds id b → IsChunk (kind_of l) id size b
  adds_chunk id size one b may =
      let at = below_pair l (count_of l) id (length b) may.listed in
      record {
        named = may.named;
        sized = one (length b) b (at.0, at.1, at.2, at.3) (record { named = may.named; sized = refl }) (held_by store (all_stores kits) id b may.held);
      }

  module _ (first : Option (Map (List ℕ))) (c0 : Option Shelf) where
    -- the door of a worker, before it is used
    abbrev pub door : Option Shelf
    door = door_shelf (kind_of l) first (Some (pairs_below l (count_of l))) (maps_of store.members (all_stores kits)) 0 c0

    pub door_fresh : cache_faults door ≡ 0
    door_fresh = go c0 where
      go : (c : Option Shelf) → cache_faults (door_shelf (kind_of l) first (Some (pairs_below l (count_of l))) (maps_of store.members (all_stores kits)) 0 c) ≡ 0
      go None = refl
      go (Some s) = refl

    pub door_none : c0 ≡ None → door ≡ None
    door_none none = ap (door_shelf (kind_of l) first (Some (pairs_below l (count_of l))) (maps_of store.members (all_stores kits)) 0) none

    -- it shows what the cache held at first
    pub door_told : IfSome c0 (λ s. first ≡ s.files) → cached_in door ≡ cached_in c0
    door_told opens = go c0 opens where
      go : (c : Option Shelf) → IfSome c (λ s. first ≡ s.files) → cached_in (door_shelf (kind_of l) first (Some (pairs_below l (count_of l))) (maps_of store.members (all_stores kits)) 0 c) ≡ cached_in c
      go None opens = refl
      go (Some s) opens = ap (option_map (λ m. chunks m ∷ [])) opens

    pub door_some : IsSome door → IsSome c0
    door_some = go c0 where
      go : (c : Option Shelf) → IsSome (door_shelf (kind_of l) first (Some (pairs_below l (count_of l))) (maps_of store.members (all_stores kits)) 0 c) → IsSome c
      go None some = some
      go (Some s) some = refl

    pub door_kind : IfSome door (λ s. s.kind ≡ (kind_of l))
    door_kind = go c0 where
      go : (c : Option Shelf) → IfSome (door_shelf (kind_of l) first (Some (pairs_below l (count_of l))) (maps_of store.members (all_stores kits)) 0 c) (λ s. s.kind ≡ (kind_of l))
      go None = tt
      go (Some s) = refl

    pub door_adds : (k : ℕ) (z : Kit S V) → k < length kits → MayAddFrom store l (slice_index_or kits k z).chain.stores door
    door_adds k z less = go c0 where
      go : (c : Option Shelf) → MayAddFrom store l (slice_index_or kits k z).chain.stores (door_shelf (kind_of l) first (Some (pairs_below l (count_of l))) (maps_of store.members (all_stores kits)) 0 c)
      go None = tt
      go (Some s) = λ q b takes. listed_adds k z less q b takes

    -- nobody adds another chunk where no store gives one
    pub door_size : (id : List ℕ) (size : ℕ) → ((n : ℕ) (b : List ℕ) → IsListedAs l id n → IsChunk (kind_of l) id n b → SomeHolds store.members (all_stores kits) id b → n ≡ size) → AddsSize id size door
    door_size id size one = go c0 where
      go : (c : Option Shelf) → AddsSize id size (door_shelf (kind_of l) first (Some (pairs_below l (count_of l))) (maps_of store.members (all_stores kits)) 0 c)
      go None = tt
      go (Some s) = λ b may. (adds_chunk id size one b may).sized

    -- what the cache gives after the workers a worker may have found
    pub door_gave : IfSome c0 (λ s. first ≡ s.files) → (c1 : Option Shelf) → IfSome c1 (λ s. s.others ≡ None) → Stocked Adds c0 c1 → GivesNoMore (kind_of l) (given_maps door) c1
    door_gave opens c1 alone stocked = go c0 c1 opens alone stocked where
      added : (id : List ℕ) (n : ℕ) (ms : List (Map (List ℕ))) → maps_of store.members (all_stores kits) ≡ Some ms → (b : List ℕ) → Adds id b → IsChunk (kind_of l) id n b → SomeGives (kind_of l) id n ms
      added id n ms told b may chunk =
          let held = subst (λ o. IfSome o (Any (λ m. m id ≡ Some b))) told may.held in
          (held.0, held.1, held.2, held.3, (b, held.4, chunk))

      shared : (s t : Shelf) → first ≡ s.files → t.others ≡ None → Stocked Adds (Some s) (Some t) → (m : Map (List ℕ)) (ms maps : List (Map (List ℕ))) → first ≡ Some m
          → maps_of store.members (all_stores kits) ≡ Some ms → maps ≡ chunks m ∷ ms → (now : List (Map (List ℕ))) × (given_maps (Some t) ≡ Some now)
          × ((id : List ℕ) (n : ℕ) → SomeGives (kind_of l) id n now → SomeGives (kind_of l) id n maps)
      shared s t opens alone stocked m ms maps is told whole =
          let was : cached_in (Some s) ≡ Some (chunks m ∷ []) = ap (option_map (λ m. chunks m ∷ [])) (sym opens ∙ is) in
          let later = stocked_told Adds (Some s) (Some t) (chunks m ∷ []) stocked was in (
            later.0,
            alone_gives t alone ∙ later.1,
            λ id n gives. subst (SomeGives (kind_of l) id n) (sym whole) (elim (stocked_gave Adds (kind_of l) id n (Some s) (Some t) (chunks m ∷ []) later.0 stocked was later.1 gives) [
              | inl before ↦ gives_left (kind_of l) id n (chunks m ∷ []) ms before
              | inr (b, may, chunk) ↦ gives_right (kind_of l) id n (chunks m ∷ []) ms (added id n ms told b may chunk)
            ]),
          )
        where
          alone_gives : (t : Shelf) → t.others ≡ None → given_maps (Some t) ≡ cached_in (Some t)
          alone_gives t alone = ap (λ o. given_maps (Some (record { files = t.files; place = t.place; faults = t.faults; kind = t.kind; others = o }))) alone

      parts : (f : Option (Map (List ℕ))) (o : Option (List (Map (List ℕ)))) (maps : List (Map (List ℕ))) → shared_maps f o ≡ Some maps
          → (m : Map (List ℕ)) × (ms : List (Map (List ℕ))) × (f ≡ Some m) × (o ≡ Some ms) × (maps ≡ chunks m ∷ ms)
      parts None o maps told = absurd (none-some maps told)
      parts (Some m) None maps told = absurd (none-some maps told)
      parts (Some m) (Some ms) maps told = (m, ms, refl, refl, sym (same_Some (chunks m ∷ ms) maps told))

      go : (a b : Option Shelf) → IfSome a (λ s. first ≡ s.files) → IfSome b (λ s. s.others ≡ None) → Stocked Adds a b
          → GivesNoMore (kind_of l) (given_maps (door_shelf (kind_of l) first (Some (pairs_below l (count_of l))) (maps_of store.members (all_stores kits)) 0 a)) b
      go None None opens alone stocked maps told = ([], refl, λ id n gives. subst (SomeGives (kind_of l) id n) (same_Some [] maps told) gives)
      go None (Some t) opens alone stocked maps told = absurd stocked
      go (Some s) None opens alone stocked maps told = absurd stocked
      go (Some s) (Some t) opens alone stocked maps told =
          let p = parts first (maps_of store.members (all_stores kits)) maps told in
          shared s t opens alone stocked p.0 p.1 maps p.2 p.3 p.4

-- ---- what was added in the end

module _ {S V : Type 0} (store : StoreWords S) (view : ViewWords V) (l : Listing) (d : Deal) (x : Placed) (wants : AreWants l d.wants d.want_of) (kits : List (Kit S V)) where
  abbrev t : Task
  t = record { listing = l; plan = d; places = x }

  -- what is added for an entry is added for its want
  listed_want : (stores : List S) (q b : List ℕ) → TakesListed store l stores q b → TakesWants store l d (λ w. w < d.wants) stores q b
  listed_want stores q b (i, inside, (is, chunk, held)) =
      let w = want_at d i in
      let below : w < d.wants = wants.within i inside in
      let like = ids_same l d w i (first_of d w) wants (here t wants i inside) (first_among l d w wants below) in (
        w,
        below,
        (
          is ∙ like.0,
          subst (λ (n : ℕ). IsChunk (kind_of l) (want_id l d w) n b) like.1 (subst (λ (p : List ℕ). IsChunk (kind_of l) p (size_of l i) b) like.0 chunk),
          subst (λ (p : List ℕ). SomeHolds store.members stores p b) like.0 held,
        ),
      )

  -- what is added for a want is added for an entry, and stands in all stores where it does in the first kit's
  want_listed : (stores more : List S) → ((id b : List ℕ) → SomeHolds store.members stores id b → SomeHolds store.members more id b) → (q b : List ℕ)
      → TakesWants store l d (λ w. w < d.wants) stores q b → TakesListed store l more q b
  want_listed stores more wider q b (w, below, (is, chunk, held)) =
      let first = first_of d w in (first, listed_of l d w first wants (first_among l d w wants below), (is, chunk, wider (want_id l d w) b held))

  listed_wider : (stores more : List S) → ((id b : List ℕ) → SomeHolds store.members stores id b → SomeHolds store.members more id b) → (q b : List ℕ)
      → TakesListed store l stores q b → TakesListed store l more q b
  listed_wider stores more wider q b (i, inside, (is, chunk, held)) = (i, inside, (is, chunk, wider (id_of l i) b held))

  same_holds : (a b : Kit S V) → map store.members b.chain.stores ≡ map store.members a.chain.stores → (id c : List ℕ) → SomeHolds store.members b.chain.stores id c → SomeHolds store.members a.chain.stores id c
  same_holds a b same id c held = λ maps told. held maps (ap told_together same ∙ told)

  -- where all kits are alike others add through their doors what the stores of this one give too
  pub door_lists : AreKitsAlike store view t kits → (first : Option (Map (List ℕ))) (c0 : Option Shelf) (q : Kit S V) (k : ℕ) → k < length kits
      → OthersAddListed store l (slice_index_or kits k q).chain.stores (door store l kits first c0)
  door_lists alike first c0 q k less = go c0 where
    own : Kit S V
    own = slice_index_or kits k q

    go : (c : Option Shelf) → OthersAddListed store l own.chain.stores (door store l kits first c)
    go None = tt
    go (Some s) = λ p b may. listed_wider (all_stores kits) own.chain.stores
        (λ id c held. same_holds own (slice_index_or kits 0 q) (sym (alike k q less).1) id c (holds_alike store view t kits q alike id c held)) p b (adds_listed store l kits p b may)

  abbrev Wants : List S → List ℕ → List ℕ → Type 0
  Wants stores = TakesWants store l d (λ w. w < d.wants) stores

  module _ (c0 c1 : Option Shelf) (stocked : Stocked (Adds store l kits) c0 c1) where
    -- where all kits are alike the first one's stores hold what was added
    pub adds_own : AreKitsAlike store view t kits → (q : Kit S V) → Stocked (Wants (slice_index_or kits 0 q).chain.stores) c0 c1
    adds_own alike q = stocked_wider (Adds store l kits) (Wants (slice_index_or kits 0 q).chain.stores)
        (λ p b may. listed_want (slice_index_or kits 0 q).chain.stores p b
        (listed_wider (all_stores kits) (slice_index_or kits 0 q).chain.stores (λ id c held. holds_alike store view t kits q alike id c held) p b (adds_listed store l kits p b may)))
        c0 c1 stocked

    module _ (q b : Kit S V) (some : 0 < length kits) (same : map store.members b.chain.stores ≡ map store.members (slice_index_or kits 0 q).chain.stores) (e : Option Shelf)
        (later : Stocked (Wants b.chain.stores) c1 e) where
      first_all : (id c : List ℕ) → SomeHolds store.members b.chain.stores id c → SomeHolds store.members (all_stores kits) id c
      first_all id c held = holds_all store kits 0 q some id c (same_holds (slice_index_or kits 0 q) b same id c held)

      -- all of it some kit's stores hold
      pub stocked_all : Stocked (TakesListed store l (all_stores kits)) c0 e
      stocked_all = stocked_on (TakesListed store l (all_stores kits)) c0 c1 e
          (stocked_wider (Adds store l kits) (TakesListed store l (all_stores kits)) (adds_listed store l kits) c0 c1 stocked)
          (stocked_wider (Wants b.chain.stores) (TakesListed store l (all_stores kits)) (want_listed b.chain.stores (all_stores kits) first_all) c1 e later)

      pub stocked_alike : AreKitsAlike store view t kits → Stocked (TakesListed store l (slice_index_or kits 0 q).chain.stores) c0 e
      stocked_alike alike =
          let own = (slice_index_or kits 0 q).chain.stores in
          stocked_wider (TakesListed store l (all_stores kits)) (TakesListed store l own) (listed_wider (all_stores kits) own (λ id c held. holds_alike store view t kits q alike id c held)) c0 e stocked_all

      -- what the cache gave at first it gives to the second pass, if no other chunk may be added in its place
      pub gives_between : (id : List ℕ) (size : ℕ) → CacheGives store l (all_stores kits) id size c0 e → CacheGives store l b.chain.stores id size c1 e
      gives_between id size has = record {
        gives = still (cached_in c0) refl has.gives;
        sound = quiet_part (cache_faults c0) (cache_faults c1) (cache_faults e) (cache_faults e) (stocked_falls (Adds store l kits) c0 c1 stocked) (omega arith) has.sound;
        one_size = λ n c listed chunk held. has.one_size n c listed chunk (first_all id c held);
      } where
        still : (o : Option (List (Map (List ℕ)))) → cached_in c0 ≡ o → IsSomeAnd o (SomeGives (kind_of l) id size) → IsSomeAnd (cached_in c1) (SomeGives (kind_of l) id size)
        still None is gives = absurd gives
        still (Some was) is gives =
            let then = stocked_told (Adds store l kits) c0 c1 was stocked is in
            subst (λ (o : Option (List (Map (List ℕ)))). IsSomeAnd o (SomeGives (kind_of l) id size)) (sym then.1)
            (stocked_gives (Adds store l kits) (kind_of l) id size c0 c1 was then.0 stocked is then.1 (adds_chunk store l kits id size has.one_size) gives)

  -- what the cache gave at first it gives to a worker, none of whose calls on it has failed
  pub gives_first : (first : Option (Map (List ℕ))) (c0 e after : Option Shelf) → IfSome c0 (λ s. first ≡ s.files) → cache_faults after ≡ 0 → (k : ℕ) (z : Kit S V) → k < length kits → (id : List ℕ) (size : ℕ)
      → CacheGives store l (all_stores kits) id size c0 e → CacheGives store l (slice_index_or kits k z).chain.stores id size (door store l kits first c0) after
  gives_first first c0 e after opens none k z less id size has = record {
    gives = subst (λ (o : Option (List (Map (List ℕ)))). IsSomeAnd o (SomeGives (kind_of l) id size)) (sym (door_told store l kits first c0 opens)) has.gives;
    sound = let fresh = door_fresh store l kits first c0 in record { same = omega (arith, none, fresh); below = omega (arith, none) };
    one_size = λ n c listed chunk held. has.one_size n c listed chunk (holds_all store kits k z less id c held);
  }
