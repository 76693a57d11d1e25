-- Groups that are all folders: where no number of a folder rose, no group has failed.
use Rattle.std.proofs.Common.{Bool, true, false, ◌&&◌, ◌≡◌, ◌∙◌, ◌+◌, ◌*◌, ◌≤◌, ℕ, zero, suc, List, [], ◌∷◌, map, slice_index, length, ◌<◌, Option, Some, None, refl, sym, ap, subst, inl, inr, arith}
use Rattle.std.proofs.Math.Nat.{mul-le-mul_right}
use Rattle.std.proofs.lemmas.Bool.{cases_lt}
use Rattle.std.proofs.lemmas.List.Elements.{All-cons, All-from_recursion, All-head, All-nil, All-tail}
use Rattle.std.proofs.lemmas.Option.{none-some}
use Rattle.std.specs.List.{All}
use Rattle.std.specs.Map.{count_at}
use Rattle.chunk_store.proofs.Members.{told_parts}
use Rattle.chunk_store.specs.Members.{maps_of, told_together}
use Rattle.chunk_store.specs.Said.{just_one}
use Rattle.command_groups.specs.Opened.{IsGroupGiven, told_files, told_members}
use Rattle.command_steps.proofs.Lent.{quiet_count}
use Rattle.command_steps.specs.AnyStores.{IsGiven, chunks_in, source_faults, source_files}
use Rattle.command_steps.specs.Sources.{Storage}
use Rattle.command_steps.specs.declared.any_store.AnyStore.{AnyStore}
use Rattle.command_steps.specs.declared.any_store.AnyStore.TheVariants as stores
use Rattle.dsy_base.specs.Counts.{AllQuiet, Quiet, raised}
use Rattle.dsy_base.specs.Links.{DialState}
use Rattle.dsy_base.specs.Maps.{Map}
use Rattle.store_chain.proofs.Pairs.{cons_head, cons_tail}
use Rattle.store_chain.specs.Faults.{EachQuiet}
use Rattle.store_group.specs.Groups.{Grouped, all_tell, told_or_all, seen_of, steady_of}

zeros_at : {X : Type 0} (xs : List X) (k : ℕ) → slice_index (map {B = ℕ} (λ x. 0) xs) k ≡ 0
zeros_at [] k = refl
zeros_at (x ∷ xs) zero = refl
zeros_at (x ∷ xs) (suc k) = zeros_at xs k

-- a group that has failed has stores that have
none_failed : (failed r faults : ℕ) → raised 0 (failed * (r + 1)) ≤ faults → Quiet 0 faults → Quiet 0 failed
none_failed failed r faults counted quiet = elim (cases_lt 0 failed) [
  | inl some ↦ (let once = mul-le-mul_right {m = 1} {n = failed} (r + 1) (omega (arith, some)) in absurd (omega (arith, once, counted, quiet.same)))
  | inr none ↦ record { same = omega (arith, none); below = omega (arith, none) }
]

-- lists that are told together, the first of them and the rest
members_first : (o : Option (List (Map (List ℕ)))) (os : List (Option (List (Map (List ℕ))))) (fs : List (Map (List ℕ))) → told_together (o ∷ os) ≡ Some fs
    → ((ms : List (Map (List ℕ))) × (o ≡ Some ms)) × ((ms : List (Map (List ℕ))) × (told_together os ≡ Some ms))
members_first None os fs told = absurd (none-some fs told)
members_first (Some ms) os fs told = let p = told_parts ms os fs told in ((ms, refl), (p.0, p.1))

module _ {L D K : Type 0} (sure : Bool) (files : L → Option (Map (List ℕ))) (place : L → List ℕ) (faults : L → ℕ) (state : D → DialState) (w v : Storage) where
  -- the first of them is a folder
  abbrev BeginWithFolder : List (AnyStore L D K) → Type 0
  BeginWithFolder (stores.Folder l ∷ xs) = Unit {0}
  BeginWithFolder xs = ⊥

  -- where the group tells
  told_begin : (b : Bool) (n : ℕ) (xs : List (AnyStore L D K)) (f : Map (List ℕ)) → seen_of (source_files files) xs (steady_of b n xs) ≡ Some f → BeginWithFolder xs
  told_begin false n [] f told = absurd (cc)
  told_begin true zero [] f told = absurd (cc)
  told_begin true (suc n) [] f told = absurd (cc)
  told_begin b n (stores.Folder l ∷ xs) f told = tt
  told_begin false n (stores.Http x ∷ []) f told = absurd (cc)
  told_begin false n (stores.Http x ∷ y ∷ xs) f told = absurd (cc)
  told_begin true zero (stores.Http x ∷ xs) f told = absurd (cc)
  told_begin true (suc n) (stores.Http x ∷ []) f told = absurd (cc)
  told_begin true (suc n) (stores.Http x ∷ y ∷ xs) f told = absurd (cc)

  -- and where all tell who answer for it
  members_begin : (b : Bool) (n : ℕ) (xs : List (AnyStore L D K)) (ms : List (Map (List ℕ))) → n < length xs
      → told_or_all (seen_of (chunks_in files) xs (steady_of b n xs)) (maps_of (λ s. just_one (chunks_in files s)) xs) ≡ Some ms → BeginWithFolder xs
  members_begin b n [] ms inside told = absurd (omega (arith, inside))
  members_begin b n (stores.Folder l ∷ xs) ms inside told = tt
  members_begin false n (stores.Http x ∷ []) ms inside told = absurd (cc)
  members_begin false n (stores.Http x ∷ y ∷ xs) ms inside told = absurd (cc)
  members_begin true zero (stores.Http x ∷ xs) ms inside told = absurd (cc)
  members_begin true (suc n) (stores.Http x ∷ []) ms inside told = absurd (cc)
  members_begin true (suc n) (stores.Http x ∷ y ∷ xs) ms inside told = absurd (cc)

  abbrev pub BeginWithFolders : List (Grouped (AnyStore L D K)) → Type 0
  BeginWithFolders gs = All (λ g. BeginWithFolder g.stores) gs

  pub told_all_begin : (fs : List (Map (List ℕ))) (gs : List (Grouped (AnyStore L D K))) → map (told_files sure files) gs ≡ map Some fs → BeginWithFolders gs
  told_all_begin fs [] told = All-nil (λ g. BeginWithFolder g.stores)
  told_all_begin [] (g ∷ gs) told = absurd (cc)
  told_all_begin (f ∷ fs) (g ∷ gs) told = All-cons (λ g. BeginWithFolder g.stores) g gs
      (told_begin (sure && all_tell (chunks_in files) g.stores) g.active g.stores f (cons_head (told_files sure files g) (Some f) (map (told_files sure files) gs) (map Some fs) told))
      (told_all_begin fs gs (cons_tail (told_files sure files g) (Some f) (map (told_files sure files) gs) (map Some fs) told))

  pub members_all_begin : (fs : List (Map (List ℕ))) (gs : List (Grouped (AnyStore L D K))) → maps_of (told_members sure files) gs ≡ Some fs → All (λ g. g.active < length g.stores) gs → BeginWithFolders gs
  members_all_begin fs [] told inside = All-nil (λ g. BeginWithFolder g.stores)
  members_all_begin fs (g ∷ gs) told inside =
      let In : Grouped (AnyStore L D K) → Type 0 = λ g. g.active < length g.stores in
      let p = members_first (told_members sure files g) (map (told_members sure files) gs) fs told in
      All-cons (λ g. BeginWithFolder g.stores) g gs
      (members_begin (sure && all_tell (chunks_in files) g.stores) g.active g.stores p.0.0 (All-head In g gs inside) p.0.1)
      (members_all_begin p.1.0 gs p.1.1 (All-tail In g gs inside))

  one_quiet : (failed r : ℕ) (xs : List (AnyStore L D K)) → BeginWithFolder xs → All (IsGiven place faults state w v) xs → All (λ s. raised 0 (failed * (r + 1)) ≤ source_faults faults state s) xs
      → AllQuiet w.disk.folder_counts v.disk.folder_counts → Quiet 0 failed
  one_quiet failed r [] begin given counts quiet = absurd begin
  one_quiet failed r (stores.Folder l ∷ xs) begin given counts quiet =
      let n = faults l in
      let q = place l in
      let none = quiet_count (count_at w.disk.folder_counts q) (count_at w.disk.folder_counts q) (count_at v.disk.folder_counts q) n (omega arith) (given 0 (stores.Folder l) (omega arith)) (quiet q) in
      none_failed failed r n (counts 0 (stores.Folder l) (omega arith)) none
  one_quiet failed r (stores.Http x ∷ xs) begin given counts quiet = absurd begin

  quiet_each : (after : List (Grouped (AnyStore L D K))) → BeginWithFolders after → All (IsGroupGiven place faults state w v) after → AllQuiet w.disk.folder_counts v.disk.folder_counts → (k : ℕ) → Quiet 0 (slice_index (map (λ g. g.failed) after) k)
  quiet_each [] begin given quiet k = record { same = omega arith; below = omega arith }
  quiet_each (g ∷ after) begin given quiet zero =
      let one = All-head (IsGroupGiven place faults state w v) g after given in
      one_quiet g.failed g.retries g.stores (All-head (λ g. BeginWithFolder g.stores) g after begin) one.stores
      (All-from_recursion (λ s. raised 0 (g.failed * (g.retries + 1)) ≤ source_faults faults state s) g.stores one.counts) quiet
  quiet_each (g ∷ after) begin given quiet (suc k) =
      quiet_each after (All-tail (λ g. BeginWithFolder g.stores) g after begin) (All-tail (IsGroupGiven place faults state w v) g after given) quiet k

  -- none has failed
  pub folders_quiet : {X : Type 0} (names : List X) (before after : List (Grouped (AnyStore L D K))) → map (λ g. g.failed) before ≡ map (λ q. 0) names → BeginWithFolders after
      → All (IsGroupGiven place faults state w v) after → AllQuiet w.disk.folder_counts v.disk.folder_counts → EachQuiet (map (λ g. g.failed) before) (map (λ g. g.failed) after)
  folders_quiet names before after fresh begin given quiet = λ k.
      subst (λ (m : ℕ). Quiet m (slice_index (map (λ g. g.failed) after) k)) (sym (ap (λ (l : List ℕ). slice_index l k) fresh ∙ zeros_at names k)) (quiet_each after begin given quiet k)

  -- so it is where they tell
  pub groups_quiet : {X : Type 0} (names : List X) (fs : List (Map (List ℕ))) (before after : List (Grouped (AnyStore L D K))) → map (λ g. g.failed) before ≡ map (λ q. 0) names → map (told_files sure files) after ≡ map Some fs
      → All (IsGroupGiven place faults state w v) after → AllQuiet w.disk.folder_counts v.disk.folder_counts → EachQuiet (map (λ g. g.failed) before) (map (λ g. g.failed) after)
  groups_quiet names fs before after fresh told = folders_quiet names before after fresh (told_all_begin fs after told)
