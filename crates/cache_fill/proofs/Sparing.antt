-- Lists that mark what a cache lacks, entries that are dealt by them, and what their workers don't ask for.
use Rattle.std.proofs.Common.{◌≡◌, ℕ, ◌+◌, ◌<◌, ◌≤◌, List, [], ◌∷◌, ◌++◌, length, slice_index_or, Bool, true, false, Option, Some, None, IfSome, IsSome, refl, sym, ap, ◌∙◌, inl, inr, arith}
use Rattle.std.proofs.lemmas.Bool.{cases_order}
use Rattle.std.proofs.lemmas.List.{get_or_append_left, get_or_past, get_or_push, length_push}
use Rattle.std.proofs.lemmas.Slice.Eq.{bytes_eq-Decides}
use Rattle.std.specs.List.{AllZip}
use Rattle.std.specs.Str.{bytes_eq}
use Rattle.chunk_dealing.proofs.Owners.{all_numbered, by_number, calls_together, dealt_none, dealt_still, in_shares, number_same}
use Rattle.cache_fill.proofs.Fetched.{fetches_ahead, fetches_none}
use Rattle.chunk_dealing.specs.Dealing.{AsksOwn, AsksInShares, ByNumber, DealsLacking, all_calls, dealt_times, lists_id, owner_of}
use Rattle.cache_fill.specs.Fetching.{FetchesDealt, IsMarked, MarksLacking, SharesOut}
use Rattle.cache_fill.specs.Filling.{FetchesAhead, SparesHeld}
use Rattle.caibx_codec.specs.Listing.{Listing, count_of, id_of}
use Rattle.chunk_store.specs.declared.store.Store.{Ghosts as StoreWords}
use Rattle.dsy_base.specs.Maps.{Map}
use Rattle.image_chop.specs.Chopping.{AsksListed, times_listed}
use Rattle.store_chain.proofs.Pairs.{all_zip_same}
use Rattle.store_chain.specs.Chains.{Chained}

no_true : false ≡ true → ⊥
no_true e = cc

nothing_there : (x : Option (List ℕ)) → x ≡ None → IsSome x → ⊥
nothing_there None is some = cc
nothing_there (Some b) is some = cc

module _ (l : Listing) where
  pub none_marked : (held : Option (Map (List ℕ))) → MarksLacking l held []
  none_marked None = tt
  none_marked (Some m) = λ q is. absurd (no_true is.2)

  -- one mark more, where a true one says that nothing is held under the id of its entry
  module _ (marks : List Bool) (i : ℕ) (size : length marks ≡ i) (b : Bool) where
    at_end : (m : Map (List ℕ)) → ((q : List ℕ) → IsMarked l marks q → m q ≡ None) → (b ≡ true → m (id_of l i) ≡ None) → (q : List ℕ) → IsMarked l (marks ++ b ∷ []) q → m q ≡ None
    at_end m before here q (j, less, is, id) = elim (cases_order j i) [
      | inl same ↦
          let at : slice_index_or (marks ++ b ∷ []) j false ≡ b = get_or_push marks b false j (size ∙ sym same) in
          ap m (sym id) ∙ ap (λ (n : ℕ). m (id_of l n)) same ∙ here (sym at ∙ is)
      | inr other ↦ elim other [
        | inl early ↦ before q (j, less, sym (get_or_append_left marks (b ∷ []) false j (omega (arith, early, size))) ∙ is, id)
        | inr past ↦
            let long = length_push marks b in
            absurd (no_true (sym (get_or_past (marks ++ b ∷ []) j false (omega (arith, long, size, past))) ∙ is))
      ]
    ]

    pub marked_push : (held : Option (Map (List ℕ))) → MarksLacking l held marks → (b ≡ true → IfSome held (λ m. m (id_of l i) ≡ None)) → MarksLacking l held (marks ++ b ∷ [])
    marked_push None before here = tt
    marked_push (Some m) before here = at_end m before here

  -- what is dealt is marked, so the cache lacks it
  pub deals_lacking : (marks : List Bool) (owners : List ℕ) → ((i : ℕ) → 0 < owner_of owners i → slice_index_or marks i false ≡ true) → (held : Option (Map (List ℕ))) → MarksLacking l held marks → DealsLacking l held (owner_of owners)
  deals_lacking marks owners only None lacks = tt
  deals_lacking marks owners only (Some m) lacks = λ i less some. lacks (id_of l i) (i, less, only i some, refl)

  pub none_dealt_lacking : (held : Option (Map (List ℕ))) → DealsLacking l held (owner_of [])
  none_dealt_lacking None = tt
  none_dealt_lacking (Some m) = λ i less some. absurd (omega (arith, some))

  module _ {S : Type 0} (store : StoreWords S) (owner : ℕ → ℕ) where
    spares_held : (held : Option (Map (List ℕ))) → DealsLacking l held owner → (k : ℕ) (c d : Chained S) → 1 ≤ k → FetchesDealt store l owner k c d → SparesHeld store.asked held c d
    spares_held None lacks k c d some fetches = tt
    spares_held (Some m) lacks k c d some fetches = go c.stores d.stores ((fetches.ahead).asks).stores (fetches.dealt).gets where
      unpicked : (q : List ℕ) → IsSome (m q) → (i : ℕ) → i < count_of l → owner i ≡ k → lists_id l q i ≡ false
      unpicked q here i less own = cases (bytes_eq (id_of l i) q) refl where
        cases : (b : Bool) → bytes_eq (id_of l i) q ≡ b → b ≡ false
        cases false is = refl
        cases true is =
            let id : id_of l i ≡ q = (bytes_eq-Decides (id_of l i) q).0 is in
            absurd (nothing_there (m q) (ap m (sym id) ∙ lacks i less (omega (arith, own, some))) here)

      go : (xs ys : List S) → AllZip (λ x y. AsksListed l (count_of l) (store.asked x) (store.asked y)) xs ys → AllZip (λ x y. (q : List ℕ) → store.asked y q ≤ store.asked x q + dealt_times owner (lists_id l q) k (count_of l)) xs ys
          → AllZip (λ x y. (q : List ℕ) → IsSome (m q) → store.asked y q ≡ store.asked x q) xs ys
      go [] [] listed few = tt
      go [] (y ∷ ys) listed few = absurd few
      go (x ∷ xs) [] listed few = absurd few
      go (x ∷ xs) (y ∷ ys) listed few = (
        λ q here. (let none = dealt_none owner (lists_id l q) k (count_of l) (unpicked q here) in
            let most = few.0 q in
            let least = (listed.0).no_less q in
            omega (arith, none, most, least)),
        go xs ys listed.1 few.1,
      )

    -- what is held isn't asked for by further workers
    pub all_spare : (held : Option (Map (List ℕ))) → DealsLacking l held owner → (cs ds : List (Chained S)) → ByNumber (FetchesDealt store l owner) 1 cs ds → AllZip (SparesHeld store.asked held) cs ds
    all_spare held lacks cs ds all = all_numbered (FetchesDealt store l owner) (SparesHeld store.asked held) (λ k c d some h. spares_held held lacks k c d some h) 1 (omega arith) cs ds all

    pub all_ahead : (cs ds : List (Chained S)) → ByNumber (FetchesDealt store l owner) 1 cs ds → AllZip (FetchesAhead store l) cs ds
    all_ahead cs ds all = all_numbered (FetchesDealt store l owner) (FetchesAhead store l) (λ k c d some h. h.ahead) 1 (omega arith) cs ds all

    -- those who ask for nothing
    pub fetched_still : (m : ℕ) (cs : List (Chained S)) → ByNumber (FetchesDealt store l owner) m cs cs
    fetched_still m cs = number_same (FetchesDealt store l owner) (λ k c. fetches_ahead store l owner k 0 (omega arith) c c (fetches_none store l owner k 0 c)) m cs

    pub shares_still : (cs : List (Chained S)) → AsksInShares store.asked (times_listed l (count_of l)) cs cs
    shares_still cs = in_shares store.asked l owner cs cs (number_same (λ k. AsksOwn store.asked l owner k (count_of l)) (λ k c. dealt_still store.asked store.queried l owner k (count_of l) c) 0 cs)

  -- no further worker did anything
  pub shares_alone : {S : Type 0} (store : StoreWords S) (held : Option (Map (List ℕ))) (c0 c1 : Chained S) (fs : List (Chained S)) → SharesOut store l held c0 c1 [] [] → SharesOut store l held c0 c1 fs fs
  shares_alone store held c0 c1 fs out = record { owner = out.owner; lacking = out.lacking; first = out.first; further = fetched_still store out.owner 1 fs }

  module _ {S : Type 0} (store : StoreWords S) (held : Option (Map (List ℕ))) (c0 c1 : Chained S) (f0 f1 : List (Chained S)) (out : SharesOut store l held c0 c1 f0 f1) where
    all_dealt : ByNumber (λ k. AsksOwn store.asked l out.owner k (count_of l)) 0 (c0 ∷ f0) (c1 ∷ f1)
    all_dealt = (out.first, by_number (FetchesDealt store l out.owner) (λ k. AsksOwn store.asked l out.owner k (count_of l)) (λ k c d h. h.dealt) 1 f0 f1 out.further)

    pub shares_of : AsksInShares store.asked (times_listed l (count_of l)) (c0 ∷ f0) (c1 ∷ f1)
    shares_of = in_shares store.asked l out.owner (c0 ∷ f0) (c1 ∷ f1) all_dealt

    pub calls_of : all_calls (c1 ∷ f1) ≤ all_calls (c0 ∷ f0) + count_of l
    calls_of = calls_together store.asked l out.owner (c0 ∷ f0) (c1 ∷ f1) all_dealt

pub spared_none : {S : Type 0} (asked : S → List ℕ → ℕ) (held : Option (Map (List ℕ))) (cs : List (Chained S)) → AllZip (SparesHeld asked held) cs cs
spared_none {S} asked held cs = all_zip_same (SparesHeld asked held) (λ c. go held c) cs where
  go : (held : Option (Map (List ℕ))) (c : Chained S) → SparesHeld asked held c c
  go None c = tt
  go (Some m) c = all_zip_same (λ x y. (q : List ℕ) → IsSome (m q) → asked y q ≡ asked x q) (λ s q some. refl) c.stores
