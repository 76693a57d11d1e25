-- Images of seeds that are opened in order.
use Rattle.std.proofs.Common.{◌≡◌, ℕ, List, [], ◌∷◌, ◌++◌, map, Option, Some, None, IfSome, IsSome, slice_index_or, refl, sym, ap, subst, ◌∙◌, inl, inr, arith}
use Rattle.std.proofs.lemmas.List.{append-nil, append_assoc, map-append}
use Rattle.std.specs.List.{AllZip}
use Rattle.std.specs.Map.{count_at}
use Rattle.std.specs.Option.{option_map}
use Rattle.command_steps.proofs.Numbers.{rose_later, rose_longer}
use Rattle.command_steps.proofs.Used.{all_more}
use Rattle.command_steps.specs.Seeds.{IsSeedAt, IsViewed, OpensSeeds, SeedsKnown}
use Rattle.dsy_base.specs.Maps.{Map}
use Rattle.command_worlds.specs.Worlds.{Reads}
use Rattle.dsy_base.specs.Bytes.{Held}
use Rattle.dsy_base.specs.Disk.{Disk}
use Rattle.extract_plan.specs.Seeds.{faults_in, seed_held}
use Rattle.extract_plan.specs.declared.seed.Seed.{Seed}

pub reads_then : (d b e : Disk) → Reads d b → Reads b e → Reads d e
reads_then d b e r s = record {
  files = s.files ∙ r.files;
  folders = s.folders ∙ r.folders;
  counts = λ q. omega (arith, r.counts q, s.counts q);
  folder_counts = λ q. omega (arith, r.folder_counts q, s.folder_counts q);
  known = λ q is. s.known q (r.known q is);
  folder_known = λ q is. s.folder_known q (r.folder_known q is);
}

reads_none : (d : Disk) → Reads d d
reads_none d = record { files = refl; folders = refl; counts = λ q. omega arith; folder_counts = λ q. omega arith; known = λ q is. is; folder_known = λ q is. is }

pub zeros : {A B : Type 0} (f : A → B) (xs : List A) → map {B = ℕ} (λ y. 0) (map f xs) ≡ map {B = ℕ} (λ x. 0) xs
zeros f [] = refl
zeros f (x ∷ xs) = ap (λ l. 0 ∷ l) (zeros f xs)

-- what was opened over a later disk, and before more was opened
viewed_within : (d b c e : Disk) → Reads d b → Reads c e → (q : List ℕ) (o : Option Held) → IsViewed b c q o → IsViewed d e q o
viewed_within d b c e r s q (Some h) v = (subst (λ f. IfSome f (λ m. (t : List ℕ) × (m q ≡ Some t) × (h.bytes ≡ Some t))) r.files v.0, v.1, v.2)
viewed_within d b c e r s q None (inl absent) = inl (subst (λ f. IfSome f (λ m. m q ≡ None)) r.files absent)
viewed_within d b c e r s q None (inr rose) =
    let first = rose_later (count_at d.file_counts q) (count_at b.file_counts q) (count_at c.file_counts q) (r.counts q) rose in
    inr (rose_longer (count_at d.file_counts q) (count_at c.file_counts q) (count_at e.file_counts q) (s.counts q) first)

module _ {V : Type 0} (held : V → Held) (faults : V → ℕ) where
  pub seed_within : (d b c e : Disk) → Reads d b → Reads c e → (q : List ℕ) (s : Seed V) → IsSeedAt held faults b c q s → IsSeedAt held faults d e q s
  seed_within d b c e r s q x h = record { viewed = viewed_within d b c e r s q (option_map held x.view) h.viewed; unfailed = h.unfailed }

  opens_later : (d b e : Disk) → Reads d b → (names : List (List ℕ)) (old new : List (Seed V)) → OpensSeeds held faults b e names old new → OpensSeeds held faults d e names old new
  opens_later d b e r [] old new h = h
  opens_later d b e r (q ∷ names) old new h = (h.0, seed_within d b e e r (reads_none e) q h.0 h.1, opens_later d b e r names (old ++ h.0 ∷ []) new h.2)

  -- one was opened and appended, and then the rest
  pub opens_more : (d b c e : Disk) → Reads d b → Reads b c → Reads c e → (q : List ℕ) (s : Seed V) (names : List (List ℕ)) (old mid new : List (Seed V)) → IsSeedAt held faults d b q s → mid ≡ old ++ s ∷ []
      → OpensSeeds held faults c e names mid new → OpensSeeds held faults d e (q ∷ names) old new
  opens_more d b c e r u v q s names old mid new is same h =
      (s, seed_within d d b e (reads_none d) (reads_then b c e u v) q s is, opens_later d c e (reads_then d b c r u) names (old ++ s ∷ []) new (subst (λ (l : List (Seed V)). OpensSeeds held faults c e names l new) same h))

  zip_add : {A B : Type 0} (P : A → B → Type 0) (xs us : List A) (ys ws : List B) → AllZip P xs ys → AllZip P us ws → AllZip P (xs ++ us) (ys ++ ws)
  zip_add P [] us [] ws h k = k
  zip_add P [] us (y ∷ ys) ws h k = absurd h
  zip_add P (x ∷ xs) us [] ws h k = absurd h
  zip_add P (x ∷ xs) us (y ∷ ys) ws h k = (h.0, zip_add P xs us ys ws h.1 k)

  viewed_in : (d e : Disk) (done names : List (List ℕ)) (old new : List (Seed V)) → AllZip (IsViewed d e) done (map (seed_held held) old) → OpensSeeds held faults d e names old new
      → AllZip (IsViewed d e) (done ++ names) (map (seed_held held) new)
  viewed_in d e done [] old new before h =
      let all : AllZip (IsViewed d e) done (map (seed_held held) new) = subst (λ (l : List (Seed V)). AllZip (IsViewed d e) done (map (seed_held held) l)) (sym h) before in
      subst (λ (l : List (List ℕ)). AllZip (IsViewed d e) l (map (seed_held held) new)) (sym (append-nil done)) all
  viewed_in d e done (q ∷ names) old new before h =
      let s = h.0 in
      let is = h.1 in
      let one : AllZip (IsViewed d e) (q ∷ []) (seed_held held s ∷ []) = (is.viewed, tt) in
      let both : AllZip (IsViewed d e) (done ++ q ∷ []) (map (seed_held held) (old ++ s ∷ [])) = subst (λ (l : List (Option Held)). AllZip (IsViewed d e) (done ++ q ∷ []) l) (sym (map-append (seed_held held) old (s ∷ [])))
      (zip_add (IsViewed d e) done (q ∷ []) (map (seed_held held) old) (seed_held held s ∷ []) before one) in
      subst (λ (l : List (List ℕ)). AllZip (IsViewed d e) l (map (seed_held held) new)) (append_assoc done (q ∷ []) names) (viewed_in d e (done ++ q ∷ []) names (old ++ s ∷ []) new both h.2)

  pub viewed_all : (d e : Disk) (names : List (List ℕ)) (old new : List (Seed V)) → old ≡ [] → OpensSeeds held faults d e names old new → AllZip (IsViewed d e) names (map (seed_held held) new)
  viewed_all d e names old new none h = viewed_in d e [] names [] new tt (subst (λ (l : List (Seed V)). OpensSeeds held faults d e names l new) none h)

  fresh_in : (d e : Disk) (names : List (List ℕ)) (old new : List (Seed V)) → map (faults_in faults) old ≡ map {B = ℕ} (λ s. 0) old → OpensSeeds held faults d e names old new → map (faults_in faults) new ≡ map {B = ℕ} (λ s. 0) new
  fresh_in d e [] old new before h = subst (λ (l : List (Seed V)). map (faults_in faults) l ≡ map {B = ℕ} (λ s. 0) l) (sym h) before
  fresh_in d e (q ∷ names) old new before h =
      let s = h.0 in
      let one : map (faults_in faults) (old ++ s ∷ []) ≡ map (faults_in faults) old ++ 0 ∷ [] = map-append (faults_in faults) old (s ∷ []) ∙ ap (λ (o : ℕ). map (faults_in faults) old ++ o ∷ []) h.1.unfailed in
      let both : map (faults_in faults) (old ++ s ∷ []) ≡ map {B = ℕ} (λ s. 0) (old ++ s ∷ []) = one ∙ ap (λ (l : List ℕ). l ++ 0 ∷ []) before ∙ sym (map-append (λ s. 0) old (s ∷ [])) in
      fresh_in d e names (old ++ s ∷ []) new both h.2

  pub fresh_all : (d e : Disk) (names : List (List ℕ)) (old new : List (Seed V)) → old ≡ [] → OpensSeeds held faults d e names old new → map (faults_in faults) new ≡ map {B = ℕ} (λ s. 0) new
  fresh_all d e names old new none h = fresh_in d e names [] new refl (subst (λ (l : List (Seed V)). OpensSeeds held faults d e names l new) none h)

-- ---- which have a number

-- over later numbers, which have what was known
pub one_known : {V : Type 0} (held : V → Held) (counts now : Map ℕ) → ((q : List ℕ) → IsSome (counts q) → IsSome (now q)) → (o : Option V) → IfSome o (λ v. IsSome (counts (held v).name)) → IfSome o (λ v. IsSome (now (held v).name))
one_known held counts now on None known = tt
one_known held counts now on (Some v) known = on (held v).name known

pub all_known_later : {V : Type 0} (held : V → Held) (counts now : Map ℕ) → ((q : List ℕ) → IsSome (counts q) → IsSome (now q)) → (xs : List (Seed V)) → SeedsKnown held counts xs → SeedsKnown held now xs
all_known_later held counts now on xs known = λ k d lt. one_known held counts now on (slice_index_or xs k d).view (known k d lt)

pub known_more : {V : Type 0} (held : V → Held) (counts : Map ℕ) (old new : List (Seed V)) (s : Seed V) → new ≡ old ++ s ∷ [] → SeedsKnown held counts old → IfSome s.view (λ v. IsSome (counts (held v).name)) → SeedsKnown held counts new
known_more held counts old new s is known one = all_more (λ s. IfSome s.view (λ v. IsSome (counts (held v).name))) old new s is known one
