-- Entries that are dealt among workers: each is that of one, so together they ask for none twice.
use Rattle.std.proofs.Common.{◌≡◌, ◌≢◌, ◌&&◌, ℕ, zero, suc, ◌+◌, ◌<◌, ◌≤◌, Bool, true, false, eqb, List, [], ◌∷◌, length, slice_index_or, take, Option, Some, None, IfSome, refl, sym, subst, ap, ◌∙◌, inl, inr, arith}
use Rattle.std.specs.List.{AllZip, count_by}
use Rattle.std.specs.Str.{bytes_eq}
use Rattle.std.proofs.lemmas.Bool.{cases_lt, eq-eqb, eqb-true}
use Rattle.std.proofs.lemmas.List.Sums.{count_by_more_no, count_by_more_yes}
use Rattle.std.proofs.lemmas.Slice.Eq.{bytes_eq-Decides}
use Rattle.chunk_dealing.specs.Dealing.{AsksOwn, AsksInShares, ByNumber, all_calls, dealt_times, any_entry, lists_id, once_if, sum_to}
use Rattle.caibx_codec.specs.Listing.{Listing, count_of, id_of}
use Rattle.chunk_store.specs.Said.{AskedOnce}
use Rattle.image_chop.specs.Chopping.{times_listed}
use Rattle.image_store.proofs.Names.{equal_or_not}
use Rattle.store_chain.proofs.Pairs.{all_zip_same}
use Rattle.store_chain.specs.Chains.{AsksOnce, Chained}
use Rattle.verify_tool.proofs.Asked.{each_then, each_weaker}

-- ---- sums

pub sum_zero : (f : ℕ → ℕ) (m : ℕ) → ((k : ℕ) → f k ≡ 0) → sum_to f m ≡ 0
sum_zero f zero none = refl
sum_zero f (suc m) none = let before = sum_zero f m none in let here = none m in omega (arith, before, here)

pub sum_add : (f g : ℕ → ℕ) (m : ℕ) → sum_to (λ k. f k + g k) m ≡ sum_to f m + sum_to g m
sum_add f g zero = refl
sum_add f g (suc m) = let before = sum_add f g m in omega (arith, before)

-- ---- how many entries are a worker's

module _ (owner : ℕ → ℕ) (picks : ℕ → Bool) where
  -- how many are picked
  abbrev picked : ℕ → ℕ
  picked zero = 0
  picked (suc n) = picked n + once_if (picks n)

  one_few : (a b : Bool) → once_if (a && b) ≤ once_if b
  one_few true b = omega arith
  one_few false b = omega arith

  dealt_few : (k n : ℕ) → dealt_times owner picks k n ≤ picked n
  dealt_few k zero = omega arith
  dealt_few k (suc n) = let before = dealt_few k n in let here = one_few (eqb (owner n) k) (picks n) in omega (arith, before, here)

  pub dealt_rises : (k i j : ℕ) → i ≤ j → dealt_times owner picks k i ≤ dealt_times owner picks k j
  dealt_rises k i zero le =
      let none : i ≡ 0 = omega (arith, le) in
      subst (λ (n : ℕ). dealt_times owner picks k n ≤ dealt_times owner picks k zero) (sym none) (omega arith)
  dealt_rises k i (suc j) le = elim (cases_lt i (suc j)) [
    | inl less ↦ let before = dealt_rises k i j (omega (arith, less)) in omega (arith, before)
    | inr past ↦
        let same : i ≡ suc j = omega (arith, le, past) in
        subst (λ (n : ℕ). dealt_times owner picks k n ≤ dealt_times owner picks k (suc j)) (sym same) (omega arith)
  ]

  -- one entry is that of one worker
  abbrev here : ℕ → ℕ → ℕ
  here n k = once_if (eqb (owner n) k && picks n)

  other_none : (n k : ℕ) → owner n ≢ k → here n k ≡ 0
  other_none n k apart = go (eqb (owner n) k) refl where
    go : (b : Bool) → eqb (owner n) k ≡ b → once_if (b && picks n) ≡ 0
    go true is = absurd (apart (eqb-true (owner n) k is))
    go false is = refl

  none_before : (n m : ℕ) → m ≤ owner n → sum_to (here n) m ≡ 0
  none_before n zero le = refl
  none_before n (suc m) le =
      let before = none_before n m (omega (arith, le)) in
      let at = other_none n m (λ is. absurd (omega (arith, is, le))) in
      omega (arith, before, at)

  one_owner : (n m : ℕ) → sum_to (here n) m ≤ once_if (picks n)
  one_owner n zero = omega arith
  one_owner n (suc m) = elim (cases_lt (owner n) m) [
    | inl less ↦
        let before = one_owner n m in
        let at = other_none n m (λ is. absurd (omega (arith, is, less))) in
        omega (arith, before, at)
    | inr past ↦
        let before = none_before n m past in
        let at = one_few (eqb (owner n) m) (picks n) in
        omega (arith, before, at)
  ]

  sum_dealt : (n m : ℕ) → sum_to (λ k. dealt_times owner picks k n) m ≤ picked n
  sum_dealt zero m = let none = sum_zero (λ k. 0) m (λ k. refl) in omega (arith, none)
  sum_dealt (suc n) m =
      let both = sum_add (λ k. dealt_times owner picks k n) (here n) m in
      let before = sum_dealt n m in
      let at = one_owner n m in
      omega (arith, both, before, at)

  -- none of a worker's entries is picked
  pub dealt_none : (k n : ℕ) → ((i : ℕ) → i < n → owner i ≡ k → picks i ≡ false) → dealt_times owner picks k n ≡ 0
  dealt_none k zero none = refl
  dealt_none k (suc n) none =
      let before = dealt_none k n (λ i less. none i (omega (arith, less))) in
      let at = go (eqb (owner n) k) refl in
      omega (arith, before, at) where
        go : (b : Bool) → eqb (owner n) k ≡ b → once_if (b && picks n) ≡ 0
        go true is = ap once_if (none n (omega arith) (eqb-true (owner n) k is))
        go false is = refl

  -- entry n is this worker's, and picked
  pub dealt_here : (k n : ℕ) → owner n ≡ k → picks n ≡ true → dealt_times owner picks k (n + 1) ≡ dealt_times owner picks k n + 1
  dealt_here k n own is =
      let at : once_if (eqb (owner n) k && picks n) ≡ 1 = ap (λ (b : Bool). once_if (b && picks n)) (eq-eqb (owner n) k own) ∙ ap once_if is in
      let next : n + 1 ≡ suc n = omega arith in
      subst (λ (j : ℕ). dealt_times owner picks k j ≡ dealt_times owner picks k n + 1) (sym next) (omega (arith, at))

-- ---- among those that list an id

module _ (l : Listing) (q : List ℕ) where
  listed_more : (n : ℕ) → n < count_of l → times_listed l n q + once_if (bytes_eq (id_of l n) q) ≤ times_listed l (suc n) q
  listed_more n less = go (bytes_eq (id_of l n) q) refl where
    next : n + 1 ≡ suc n
    next = omega arith

    go : (b : Bool) → bytes_eq (id_of l n) q ≡ b → times_listed l n q + once_if (bytes_eq (id_of l n) q) ≤ times_listed l (suc n) q
    go true is =
        let more = count_by_more_yes (λ (e : ℕ × List ℕ). bytes_eq e.1 q) l.entries n (0, []) less is in
        let here : once_if (bytes_eq (id_of l n) q) ≡ 1 = ap once_if is in
        subst (λ (j : ℕ). times_listed l n q + once_if (bytes_eq (id_of l n) q) ≤ times_listed l j q) next (omega (arith, more, here))
    go false is =
        let same = count_by_more_no (λ (e : ℕ × List ℕ). bytes_eq e.1 q) l.entries n (0, []) less is in
        let here : once_if (bytes_eq (id_of l n) q) ≡ 0 = ap once_if is in
        subst (λ (j : ℕ). times_listed l n q + once_if (bytes_eq (id_of l n) q) ≤ times_listed l j q) next (omega (arith, same, here))

  picked_listed : (owner : ℕ → ℕ) (n : ℕ) → n ≤ count_of l → picked owner (lists_id l q) n ≤ times_listed l n q
  picked_listed owner zero le = omega arith
  picked_listed owner (suc n) le =
      let before = picked_listed owner n (omega (arith, le)) in
      let more = listed_more n (omega (arith, le)) in
      omega (arith, before, more)

  pub few_listed : (owner : ℕ → ℕ) (k n : ℕ) → n ≤ count_of l → dealt_times owner (lists_id l q) k n ≤ times_listed l n q
  few_listed owner k n le = let one = dealt_few owner (lists_id l q) k n in let all = picked_listed owner n le in omega (arith, one, all)

  -- all workers' together
  pub all_listed : (owner : ℕ → ℕ) (m : ℕ) → sum_to (λ k. dealt_times owner (lists_id l q) k (count_of l)) m ≤ times_listed l (count_of l) q
  all_listed owner m = let one = sum_dealt owner (lists_id l q) (count_of l) m in let all = picked_listed owner (count_of l) (omega arith) in omega (arith, one, all)

picked_any : (owner : ℕ → ℕ) (n : ℕ) → picked owner any_entry n ≡ n
picked_any owner zero = refl
picked_any owner (suc n) = let before = picked_any owner n in omega (arith, before)

pub few_calls : (owner : ℕ → ℕ) (k n : ℕ) → dealt_times owner any_entry k n ≤ n
few_calls owner k n = let one = dealt_few owner any_entry k n in let all = picked_any owner n in omega (arith, one, all)

all_few : (owner : ℕ → ℕ) (n m : ℕ) → sum_to (λ k. dealt_times owner any_entry k n) m ≤ n
all_few owner n m = let one = sum_dealt owner any_entry n m in let all = picked_any owner n in omega (arith, one, all)

-- ---- the stores of one worker

module _ {S : Type 0} (asked queried : S → List ℕ → ℕ) (l : Listing) (owner : ℕ → ℕ) where
  abbrev Few : ℕ → ℕ → S → S → Type 0
  Few k n a b = (q : List ℕ) → asked b q ≤ asked a q + dealt_times owner (lists_id l q) k n

  -- nothing was asked
  pub dealt_still : (k n : ℕ) (c : Chained S) → AsksOwn asked l owner k n c c
  dealt_still k n c = record {
    gets = all_zip_same (Few k n) (λ s q. omega arith) c.stores;
    calls = omega arith;
  }

  -- up to a later entry
  pub dealt_on : (k i j : ℕ) → i ≤ j → (c d : Chained S) → AsksOwn asked l owner k i c d → AsksOwn asked l owner k j c d
  dealt_on k i j le c d h = record {
    gets = each_weaker (Few k i) (Few k j) (λ a b few q. (let one = few q in let up = dealt_rises owner (lists_id l q) k i j le in omega (arith, one, up))) c.stores d.stores h.gets;
    calls = let up = dealt_rises owner any_entry k i j le in omega (arith, h.calls, up);
  }

  -- its entry i was asked for
  pub dealt_more : (k i : ℕ) → owner i ≡ k → (c d e : Chained S) → AsksOwn asked l owner k i c d → AsksOnce asked queried (id_of l i) d e → AsksOwn asked l owner k (i + 1) c e
  dealt_more k i own c d e h once = record {
    gets = each_then (Few k i) (λ a b. AskedOnce (asked a) (asked b) (id_of l i)) (Few k (i + 1)) more c.stores d.stores e.stores h.gets once.stores;
    calls = let here = dealt_here owner any_entry k i own refl in omega (arith, h.calls, once.calls, here);
  } where
    more : (a b x : S) → Few k i a b → AskedOnce (asked b) (asked x) (id_of l i) → Few k (i + 1) a x
    more a b x few one q = elim (equal_or_not q (id_of l i)) [
      | inl same ↦
          let q_is : bytes_eq (id_of l i) q ≡ true = (bytes_eq-Decides (id_of l i) q).1 (sym same) in
          let here = dealt_here owner (lists_id l q) k i own q_is in
          let was = few q in
          let this : asked x q ≤ asked b q + 1 = subst (λ (p : List ℕ). asked x p ≤ asked b p + 1) (sym same) one.this in
          omega (arith, was, here, this)
      | inr other ↦
          let up = dealt_rises owner (lists_id l q) k i (i + 1) (omega arith) in
          let was = few q in
          let still = one.others q other in
          omega (arith, was, up, still)
    ]

-- none of its entries were asked for, so it is with any owners
pub dealt_first : {S : Type 0} (asked queried : S → List ℕ → ℕ) (l : Listing) (owner other : ℕ → ℕ) (k n : ℕ) → n ≡ 0 → (c d : Chained S) → AsksOwn asked l owner k n c d → AsksOwn asked l other k n c d
dealt_first asked queried l owner other k n none c d h =
    let first : AsksOwn asked l owner k 0 c d = subst (λ (j : ℕ). AsksOwn asked l owner k j c d) none h in
    subst (λ (j : ℕ). AsksOwn asked l other k j c d) (sym none) (record { gets = first.gets; calls = first.calls })

-- ---- the stores of all

module _ {X : Type 0} where
  pub by_number : (R P : ℕ → X → X → Type 0) → ((k : ℕ) (x y : X) → R k x y → P k x y) → (m : ℕ) (xs ys : List X) → ByNumber R m xs ys → ByNumber P m xs ys
  by_number R P go m [] [] h = tt
  by_number R P go m [] (y ∷ ys) h = h
  by_number R P go m (x ∷ xs) [] h = h
  by_number R P go m (x ∷ xs) (y ∷ ys) h = (go m x y h.0, by_number R P go (suc m) xs ys h.1)

  pub all_numbered : (R : ℕ → X → X → Type 0) (P : X → X → Type 0) → ((k : ℕ) (x y : X) → 1 ≤ k → R k x y → P x y) → (m : ℕ) → 1 ≤ m → (xs ys : List X) → ByNumber R m xs ys → AllZip P xs ys
  all_numbered R P go m some [] [] h = tt
  all_numbered R P go m some [] (y ∷ ys) h = h
  all_numbered R P go m some (x ∷ xs) [] h = h
  all_numbered R P go m some (x ∷ xs) (y ∷ ys) h = (go m x y some h.0, all_numbered R P go (suc m) (omega arith) xs ys h.1)

  pub number_many : (R : ℕ → X → X → Type 0) (m : ℕ) (xs ys : List X) → ByNumber R m xs ys → length xs ≡ length ys
  number_many R m [] [] h = refl
  number_many R m [] (y ∷ ys) h = absurd h
  number_many R m (x ∷ xs) [] h = absurd h
  number_many R m (x ∷ xs) (y ∷ ys) h = let rest = number_many R (suc m) xs ys h.1 in omega (arith, rest)

  pub number_at : (R : ℕ → X → X → Type 0) (m : ℕ) (xs ys : List X) (i : ℕ) (d e : X) → ByNumber R m xs ys → i < length xs → R (m + i) (slice_index_or xs i d) (slice_index_or ys i e)
  number_at R m [] ys i d e h less = absurd (omega (arith, less))
  number_at R m (x ∷ xs) [] i d e h less = absurd h
  number_at R m (x ∷ xs) (y ∷ ys) zero d e h less = let at : m + 0 ≡ m = omega arith in subst (λ (n : ℕ). R n x y) (sym at) h.0
  number_at R m (x ∷ xs) (y ∷ ys) (suc i) d e h less =
      let at : m + suc i ≡ suc m + i = omega arith in
      subst (λ (n : ℕ). R n (slice_index_or xs i d) (slice_index_or ys i e)) (sym at) (number_at R (suc m) xs ys i d e h.1 (omega (arith, less)))

  pub number_then : (R P Q : ℕ → X → X → Type 0) → ((k : ℕ) (a b c : X) → R k a b → P k b c → Q k a c) → (m : ℕ) (xs ys zs : List X) → ByNumber R m xs ys → ByNumber P m ys zs → ByNumber Q m xs zs
  number_then R P Q go m [] [] [] h k = tt
  number_then R P Q go m [] [] (z ∷ zs) h k = absurd k
  number_then R P Q go m [] (y ∷ ys) zs h k = absurd h
  number_then R P Q go m (x ∷ xs) [] zs h k = absurd h
  number_then R P Q go m (x ∷ xs) (y ∷ ys) [] h k = absurd k
  number_then R P Q go m (x ∷ xs) (y ∷ ys) (z ∷ zs) h k = (go m x y z h.0 k.0, number_then R P Q go (suc m) xs ys zs h.1 k.1)

  pub number_same : (R : ℕ → X → X → Type 0) → ((k : ℕ) (x : X) → R k x x) → (m : ℕ) (xs : List X) → ByNumber R m xs xs
  number_same R same m [] = tt
  number_same R same m (x ∷ xs) = (same m x, number_same R same (suc m) xs)

module _ {S : Type 0} (asked : S → List ℕ → ℕ) (l : Listing) (owner : ℕ → ℕ) where
  pub in_shares : (cs ds : List (Chained S)) → ByNumber (λ k. AsksOwn asked l owner k (count_of l)) 0 cs ds → AsksInShares asked (times_listed l (count_of l)) cs ds
  in_shares cs ds h = record {
    shares = λ k q. dealt_times owner (lists_id l q) k (count_of l);
    together = λ q. all_listed l q owner (length cs);
    gets = by_number (λ k. AsksOwn asked l owner k (count_of l)) (λ k c d. AllZip (λ a b. (q : List ℕ) → asked b q ≤ asked a q + dealt_times owner (lists_id l q) k (count_of l)) c.stores d.stores) (λ k c d one. one.gets) 0 cs ds h;
  }

  calls_from : (n m : ℕ) (cs ds : List (Chained S)) → ByNumber (λ k. AsksOwn asked l owner k n) m cs ds
      → all_calls ds + sum_to (λ k. dealt_times owner any_entry k n) m ≤ all_calls cs + sum_to (λ k. dealt_times owner any_entry k n) (m + length cs)
  calls_from n m [] [] h =
      let same : m + 0 ≡ m = omega arith in
      subst (λ (j : ℕ). 0 + sum_to (λ k. dealt_times owner any_entry k n) m ≤ 0 + sum_to (λ k. dealt_times owner any_entry k n) j) (sym same) (omega arith)
  calls_from n m [] (d ∷ ds) h = absurd h
  calls_from n m (c ∷ cs) [] h = absurd h
  calls_from n m (c ∷ cs) (d ∷ ds) h =
      let rest = calls_from n (suc m) cs ds h.1 in
      let here = (h.0).calls in
      let next : m + suc (length cs) ≡ suc m + length cs = omega arith in
      subst (λ (j : ℕ). d.asks + all_calls ds + sum_to (λ k. dealt_times owner any_entry k n) m ≤ c.asks + all_calls cs + sum_to (λ k. dealt_times owner any_entry k n) j) (sym next) (omega (arith, rest, here))

  pub calls_together : (cs ds : List (Chained S)) → ByNumber (λ k. AsksOwn asked l owner k (count_of l)) 0 cs ds → all_calls ds ≤ all_calls cs + count_of l
  calls_together cs ds h =
      let all = calls_from (count_of l) 0 cs ds h in
      let few = all_few owner (count_of l) (0 + length cs) in
      omega (arith, all, few)
