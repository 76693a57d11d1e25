-- What seeds give, over the files that their images are.
use Rattle.std.proofs.Common.{◌≡◌, ◌⊎◌, ℕ, zero, suc, ◌+◌, ◌-◌, ◌<◌, ◌≤◌, List, [], ◌∷◌, length, map, slice_index, slice_index_or, take, drop, Option, Some, None, IfSome, IsSome, IsSomeAnd, unwrap_or, refl, sym, ap, subst, ◌∙◌, inl, inr, arith}
use Rattle.std.proofs.lemmas.List.{get_or_default}
use Rattle.std.proofs.lemmas.List.Elements.{All-cons, All-nil}
use Rattle.std.specs.List.{AllZip, slice_get}
use Rattle.std.specs.Option.{option_map}
use Rattle.caibx_codec.specs.Listing.{Listing, end_of, size_of, slice_of, start_of}
use Rattle.chunk_sources.specs.Sources.{GivesAt, HeldAt, SeedsFailed, SeedsGive}
use Rattle.chunk_store.specs.Digests.{digest_of}
use Rattle.chunk_store.specs.declared.id.DigestKind.{DigestKind}
use Rattle.chunk_store.specs.declared.id.DigestKind.TheVariants as kinds
use Rattle.command_steps.specs.Seeds.{name_at}
use Rattle.command_steps.specs.InputFiles.{Holds}
use Rattle.command_steps.specs.Seeds.{IsViewed, SeedsKnown, label_in}
use Rattle.command_worlds.specs.Worlds.{FileRose}
use Rattle.extract_command.specs.Extract.{SeedHas, Seeds}
use Rattle.dsy_base.specs.Bytes.{Held}
use Rattle.dsy_base.specs.Counts.{Rose}
use Rattle.dsy_base.specs.Disk.{Disk}
use Rattle.dsy_base.specs.Maps.{Map}
use Rattle.extract_plan.specs.Places.{ArePlaces, IsPlace, nth_place, place}
use Rattle.extract_plan.specs.Seeds.{bytes_at, seed_held}
use Rattle.extract_plan.specs.declared.seed.Seed.{Seed}
use Rattle.extract_plan.specs.declared.seed.SeedPlace.{SeedPlace}

pub zipped_many : {A B : Type 0} (R : A → B → Type 0) (xs : List A) (ys : List B) → AllZip R xs ys → length xs ≡ length ys
zipped_many R [] [] h = refl
zipped_many R [] (y ∷ ys) h = absurd h
zipped_many R (x ∷ xs) [] h = absurd h
zipped_many R (x ∷ xs) (y ∷ ys) h = ap suc (zipped_many R xs ys h.1)

-- ---- the names of seeds

-- the name of a view, and the empty one where there is none
abbrev pub label_of : Option Held → List ℕ
label_of o = unwrap_or (option_map (λ h. h.name) o) []

label_is : {V : Type 0} (held : V → Held) (o : Option V) → unwrap_or (option_map (λ v. (held v).name) o) [] ≡ label_of (option_map held o)
label_is held None = refl
label_is held (Some v) = refl

pub labels_are : {V : Type 0} (held : V → Held) (xs : List (Seed V)) → map (label_in held) xs ≡ map label_of (map (seed_held held) xs)
labels_are held [] = refl
labels_are held (s ∷ xs) = cc (label_is held s.view, labels_are held xs)

-- seeds that hold what others hold have their names
pub same_labels : {V : Type 0} (held : V → Held) (xs ys : List (Seed V)) → map (seed_held held) ys ≡ map (seed_held held) xs → map (label_in held) ys ≡ map (label_in held) xs
same_labels held xs ys same = labels_are held ys ∙ ap (map label_of) same ∙ sym (labels_are held xs)

pub label_at : (views : List (Option Held)) (k : ℕ) (h : Held) → slice_index_or views k None ≡ Some h → name_at (map label_of views) k ≡ h.name
label_at [] k h is = absurd (cc)
label_at (o ∷ views) zero h is = ap label_of is
label_at (o ∷ views) (suc k) h is = label_at views k h is

known_view : {V : Type 0} (held : V → Held) (counts : Map ℕ) (o : Option V) → IfSome (option_map held o) (λ h. IsSome (counts h.name)) → IfSome o (λ v. IsSome (counts (held v).name))
known_view held counts None known = tt
known_view held counts (Some v) known = known

view_known : {V : Type 0} (held : V → Held) (counts : Map ℕ) (o : Option V) → IfSome o (λ v. IsSome (counts (held v).name)) → IfSome (option_map held o) (λ h. IsSome (counts h.name))
view_known held counts None known = tt
view_known held counts (Some v) known = known

known_same : {V : Type 0} (held : V → Held) (counts : Map ℕ) (x y : Seed V) → seed_held held y ≡ seed_held held x → IfSome x.view (λ v. IsSome (counts (held v).name)) → IfSome y.view (λ v. IsSome (counts (held v).name))
known_same held counts x y same known = known_view held counts y.view (subst (λ o. IfSome o (λ h. IsSome (counts h.name))) (sym same) (view_known held counts x.view known))

-- so their names are known
pub same_known : {V : Type 0} (held : V → Held) (counts : Map ℕ) (xs ys : List (Seed V)) → map (seed_held held) ys ≡ map (seed_held held) xs → SeedsKnown held counts xs → SeedsKnown held counts ys
same_known held counts xs [] same known = All-nil (λ s. IfSome s.view (λ v. IsSome (counts (held v).name)))
same_known held counts [] (y ∷ ys) same known = absurd (cc)
same_known held counts (x ∷ xs) (y ∷ ys) same known =
    let here : seed_held held y ≡ seed_held held x = cc in
    let rest : map (seed_held held) ys ≡ map (seed_held held) xs = cc in
    All-cons (λ s. IfSome s.view (λ v. IsSome (counts (held v).name))) y ys (known_same held counts x y here (known 0 x (omega arith)))
    (same_known held counts xs ys rest (λ j e less. known (suc j) e (omega (arith, less))))

-- ---- the views of seeds

module _ (d b : Disk) where
  -- each view has its image's name
  named_at : (images : List (List ℕ)) (views : List (Option Held)) (s : ℕ) (h : Held) → AllZip (IsViewed d b) images views → slice_index_or views s None ≡ Some h
      → (q : List ℕ) × (slice_get images s ≡ Some q) × IsViewed d b q (Some h)
  named_at images [] s h zip is = absurd (cc)
  named_at [] (o ∷ views) s h zip is = absurd zip
  named_at (q ∷ images) (o ∷ views) zero h zip is = (q, refl, subst (IsViewed d b q) is zip.0)
  named_at (q ∷ images) (o ∷ views) (suc s) h zip is = named_at images views s h zip.1 is

  viewed_at : (images : List (List ℕ)) (views : List (Option Held)) (s : ℕ) (q : List ℕ) → AllZip (IsViewed d b) images views → slice_get images s ≡ Some q → IsViewed d b q (slice_index_or views s None)
  viewed_at [] views s q zip is = absurd (cc)
  viewed_at (p ∷ images) [] s q zip is = absurd zip
  viewed_at (p ∷ images) (o ∷ views) zero q zip is = let same : p ≡ q = cc in subst (λ n. IsViewed d b n o) same zip.0
  viewed_at (p ∷ images) (o ∷ views) (suc s) q zip is = viewed_at images views s q zip.1 is

-- ---- what they give

-- a slice by its start and its size
slice_by_size : (l : Listing) (t : List ℕ) (i : ℕ) (p : SeedPlace) → p.start ≡ start_of l i → p.size ≡ size_of l i → bytes_at p t ≡ slice_of l t i
slice_by_size l t i p start size =
    let many : (p.start + p.size) - p.start ≡ end_of l i - start_of l i = omega (arith, start, size) in
    ap (λ (n : ℕ). take n (drop p.start t)) many ∙ ap (λ (n : ℕ). take (end_of l i - start_of l i) (drop n t)) start

module _ (d b : Disk) (m : Map (List ℕ)) (told : d.files ≡ Some m) (x : Seeds) (views : List (Option Held)) (zip : AllZip (IsViewed d b) x.images views)
    (kind : DigestKind) (id : List ℕ) (n : ℕ) (ps : List SeedPlace) (are : ArePlaces kind x.listings id n ps) where
  there : (q : List ℕ) (o : Option (List ℕ)) → Holds d q o → (t : List ℕ) × (m q ≡ Some t) × (o ≡ Some t)
  there q o holds = subst (λ f. IfSome f (λ m. (t : List ℕ) × (m q ≡ Some t) × (o ≡ Some t))) told holds

  -- one of the seeds that gives the id has it
  pub given_had : SeedsGive views ps id → (s : ℕ) × SeedHas kind m x id n s
  given_had (k, p, lt, at, gives) = (p.seed, go (slice_index_or views p.seed None) refl gives) where
    nth : nth_place ps k ≡ p
    nth = get_or_default ps k (place kinds.Sha512T256 0 0 0) p lt ∙ at

    is_place : IsPlace kind x.listings id n p
    is_place = subst (λ (r : SeedPlace). IsPlace kind x.listings id n r) nth (are.sound k lt)

    go : (o : Option Held) → slice_index_or views p.seed None ≡ o → GivesAt o p id → SeedHas kind m x id n p.seed
    go None is_none h = absurd h
    go (Some h) is_some gives =
        let is = is_place in
        let seed = named_at d b x.images views p.seed h zip is_some in
        let holds = there seed.0 h.bytes seed.2.0 in
        let t = holds.0 in
        let named : digest_of p.kind (bytes_at p t) ≡ id = subst (λ o. IsSomeAnd o (λ u. digest_of p.kind (bytes_at p u) ≡ id)) holds.2 gives.1 in
        let wanted : digest_of kind (bytes_at p t) ≡ id = subst (λ (k : DigestKind). digest_of k (bytes_at p t) ≡ id) is.kind_is named in
        let long : length t ≡ h.size = subst (λ o. IfSome o (λ u. length u ≡ h.size)) holds.2 seed.2.2 in
        let size : p.size ≡ size_of is.listing is.entry = is.size ∙ sym is.size_is in
        record {
          image = seed.0;
          named = seed.1;
          listing = is.listing;
          listed = is.seed;
          bytes = t;
          there = holds.1;
          entry = is.entry;
          inside = is.inside;
          id_is = is.id_is;
          size_is = is.size_is;
          fits = omega (arith, gives.0, long, is.start, is.size);
          right = ap (λ (u : List ℕ). digest_of kind u) (sym (slice_by_size is.listing t is.entry p is.start size)) ∙ wanted ∙ sym is.id_is;
        }

  -- a seed that has it was opened, or opening it failed
  pub had_at : (s : ℕ) (h : SeedHas kind m x id n s) → FileRose d b h.image
      ⊎ ((k : ℕ) × (k < length ps) × ((nth_place ps k).seed ≡ s) × HeldAt views (nth_place ps k) id × (v : Held) × (slice_index_or views s None ≡ Some v) × (v.name ≡ h.image))
  had_at s h = go (slice_index_or views s None) refl (viewed_at d b x.images views s h.image zip h.named) where
    listed : (k : ℕ) × (k < length ps) × (nth_place ps k ≡ place kind s (start_of h.listing h.entry) n)
    listed = are.complete s h.entry h.listing h.listed h.inside h.id_is h.size_is

    go : (o : Option Held) → slice_index_or views s None ≡ o → IsViewed d b h.image o → FileRose d b h.image
        ⊎ ((k : ℕ) × (k < length ps) × ((nth_place ps k).seed ≡ s) × HeldAt views (nth_place ps k) id × (v : Held) × (slice_index_or views s None ≡ Some v) × (v.name ≡ h.image))
    go None is (inl absent) =
        let none : m h.image ≡ None = subst (λ f. IfSome f (λ m. m h.image ≡ None)) told absent in
        let no : None ≡ Some h.bytes = sym none ∙ h.there in
        absurd (cc)
    go None is (inr rose) = inl rose
    go (Some v) is viewed =
        let k = listed.0 in
        let p = place kind s (start_of h.listing h.entry) n in
        let at : nth_place ps k ≡ p = listed.2 in
        let holds = there h.image v.bytes viewed.0 in
        let same : Some holds.0 ≡ Some h.bytes = sym holds.1 ∙ h.there in
        let bytes : v.bytes ≡ Some h.bytes = holds.2 ∙ same in
        let long : length h.bytes ≡ v.size = subst (λ o. IfSome o (λ u. length u ≡ v.size)) bytes viewed.2 in
        let right : digest_of kind (bytes_at p h.bytes) ≡ id = ap (λ (u : List ℕ). digest_of kind u) (slice_by_size h.listing h.bytes h.entry p refl (sym h.size_is)) ∙ h.right ∙ h.id_is in
        let inside : p.start + p.size ≤ v.size = omega (arith, h.fits, long) in
        let gives : GivesAt (Some v) p id = (inside, subst (λ o. IsSomeAnd o (λ u. digest_of p.kind (bytes_at p u) ≡ id)) (sym bytes) right) in
        let held : HeldAt views p id = subst (λ o. GivesAt o p id) (sym is) gives in
        inr (k, listed.1, ap (λ (r : SeedPlace). r.seed) at, subst (λ (r : SeedPlace). HeldAt views r id) (sym at) held, v, is, viewed.1)

  -- where opening it didn't fail, it gives the id
  pub had_given : ((q : List ℕ) → FileRose d b q → ⊥) → (s : ℕ) → SeedHas kind m x id n s → SeedsGive views ps id
  had_given none s h = elim (had_at s h) [
    | inl rose ↦ absurd (none h.image rose)
    | inr h ↦ (h.0, nth_place ps h.0, h.1, get_or_default ps h.0 (nth_place ps h.0) (place kinds.Sha512T256 0 0 0) h.1, h.3)
  ]

  -- where it didn't give it, it has failed
  pub had_failed : (e : Disk) → ((q : List ℕ) → FileRose d b q → FileRose d e q) → (old new : List ℕ) → ((k : ℕ) → Rose (slice_index old k) (slice_index new k) → FileRose d e (name_at (map label_of views) k))
      → SeedsFailed views ps id old new → (s : ℕ) (h : SeedHas kind m x id n s) → FileRose d e h.image
  had_failed e later old new rises failed s h = elim (had_at s h) [
    | inl rose ↦ later h.image rose
    | inr u ↦
        let rose = failed u.0 (place kinds.Sha512T256 0 0 0) u.1 u.3 in
        let here : FileRose d e (name_at (map label_of views) s) = subst (λ (j : ℕ). FileRose d e (name_at (map label_of views) j)) u.2 (rises (nth_place ps u.0).seed rose) in
        subst (λ (q : List ℕ). FileRose d e q) (label_at views s u.4 u.5 ∙ u.6) here
  ]

-- ---- what was counted

pub zeros : {V : Type 0} (held : V → Held) (xs : List (Seed V)) → map {B = ℕ} (λ y. 0) (map label_of (map (seed_held held) xs)) ≡ map {B = ℕ} (λ x. 0) xs
zeros held [] = refl
zeros held (x ∷ xs) = ap (λ l. 0 ∷ l) (zeros held xs)
