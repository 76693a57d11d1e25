-- How the stores of all workers are asked while a cache is filled by indexes in order.
use Rattle.std.proofs.Common.{Bool, ◌≡◌, ℕ, suc, ◌+◌, ◌≤◌, List, [], ◌∷◌, All, ap, length, map, max, inl, inr, refl, sym, subst, ◌∙◌, arith}
use Rattle.std.proofs.lemmas.List.{length-map}
use Rattle.std.proofs.lemmas.List.Elements.{All-cons, All-head, All-nil, All-tail}
use Rattle.std.specs.List.{AllZip}
use Rattle.cache_command.specs.Caching.{FilledBetween, FrontSpelled, IsGetAmong, listed_times}
use Rattle.cache_command.specs.Filling.{AsksListings, HoldAlike}
use Rattle.chunk_dealing.proofs.Owners.{number_many, number_same, number_then, sum_add, sum_zero}
use Rattle.chunk_dealing.specs.Dealing.{AsksInShares, ByNumber, sum_to}
use Rattle.cache_fill.specs.Filling.{AsksEntries, FetchesAhead}
use Rattle.caibx_codec.specs.Asks.{IsListedGet}
use Rattle.caibx_codec.specs.Listing.{Listing, count_of}
use Rattle.chunk_store.specs.declared.store.Store.{Ghosts as StoreWords}
use Rattle.command_outcome.specs.declared.outcome.Outcome.{Outcome}
use Rattle.command_steps.proofs.Asking.{none_more}
use Rattle.command_indexes.proofs.Spelled.{IsPart, spells_wider}
use Rattle.command_steps.specs.Sources.{Storage}
use Rattle.command_words.specs.declared.command.Location.{Location}
use Rattle.image_chop.specs.Chopping.{AsksListed, times_listed}
use Rattle.std.specs.Prelude.{Result}
use Rattle.store_chain.proofs.Kept.{kept_on, kept_still, kept_weaker}
use Rattle.store_chain.proofs.Pairs.{all_zip_same}
use Rattle.store_chain.specs.Chains.{Chained, KeepsStores}
use Rattle.verify_tool.proofs.Asked.{each_then, each_weaker}

-- what the first operands spelled, over more of a command
pub front_wider : (w u x v : Storage) → IsPart w u x v → (indexes : List (List ℕ)) (ls : List Listing) → FrontSpelled u x indexes ls → FrontSpelled w v indexes ls
front_wider w u x v part indexes [] h = tt
front_wider w u x v part [] (l ∷ ls) h = absurd h
front_wider w u x v part (q ∷ indexes) (l ∷ ls) h = (spells_wider w u x v part q l h.0, front_wider w u x v part indexes ls h.1)

-- what holds of the one list holds of the other, where their elements agree
all_through : {X : Type 0} (P Q : X → Type 0) (R : X → X → Type 0) → ((a b : X) → R a b → P a → Q b) → (xs ys : List X) → AllZip R xs ys → All P xs → All Q ys
all_through P Q R on [] [] zip h = All-nil Q
all_through P Q R on [] (y ∷ ys) zip h = absurd zip
all_through P Q R on (x ∷ xs) [] zip h = absurd zip
all_through P Q R on (x ∷ xs) (y ∷ ys) zip h = All-cons Q y ys (on x y zip.0 (All-head P x xs h)) (all_through P Q R on xs ys zip.1 (All-tail P x xs h))

module _ {S : Type 0} (store : StoreWords S) where
  abbrev Few : List Listing → S → S → Type 0
  Few ls a b = (id : List ℕ) → store.asked b id ≤ store.asked a id + listed_times ls id

  abbrev Once : Listing → S → S → Type 0
  Once l a b = AsksListed l (count_of l) (store.asked a) (store.asked b)

  -- ---- by one index

  listed_by : (l : Listing) (c d : Chained S) → AsksEntries store.asked store.queried l (count_of l) c d → KeepsStores store (IsListedGet l) c.stores d.stores → AsksListings store (l ∷ []) c d
  listed_by l c d asks keeps = record {
    gets = each_weaker (Once l) (Few (l ∷ [])) (λ a b h id. let most = h.most id in omega (arith, most)) c.stores d.stores asks.stores;
    heads = asks.queries;
    keeps = kept_weaker store (IsListedGet l) (IsGetAmong (l ∷ [])) (λ a h. inl h) c.stores d.stores keeps;
  }

  -- the first worker's stores, and the further workers'
  pub all_listed : (l : Listing) (c d : Chained S) (cs ds : List (Chained S)) → AsksEntries store.asked store.queried l (count_of l) c d → KeepsStores store (IsListedGet l) c.stores d.stores → AllZip (FetchesAhead store l) cs ds
      → AllZip (AsksListings store (l ∷ [])) (c ∷ cs) (d ∷ ds)
  all_listed l c d cs ds asks keeps ahead = (listed_by l c d asks keeps, each_weaker (FetchesAhead store l) (AsksListings store (l ∷ [])) (λ a b h. listed_by l a b h.asks h.stores) cs ds ahead)

  -- what they hold they hold still
  pub alike_on : (l : Listing) (c d : Chained S) (cs ds : List (Chained S)) → map store.holds d.stores ≡ map store.holds c.stores → map store.members d.stores ≡ map store.members c.stores → AllZip (FetchesAhead store l) cs ds → HoldAlike store c cs → HoldAlike store d ds
  alike_on l c d cs ds held members ahead alike = record {
    held = all_through (λ a. map store.holds a.stores ≡ map store.holds c.stores) (λ b. map store.holds b.stores ≡ map store.holds d.stores) (FetchesAhead store l) (λ a b h is. h.stores.held ∙ is ∙ sym held) cs ds ahead alike.held;
    members = all_through (λ a. map store.members a.stores ≡ map store.members c.stores) (λ b. map store.members b.stores ≡ map store.members d.stores) (FetchesAhead store l) (λ a b h is. h.stores.members ∙ is ∙ sym members) cs ds ahead alike.members;
  }

  -- ---- by chains that were made anew, of the same stores

  abbrev StoresOf : List (Chained S) → List (List S)
  StoresOf cs = map (λ c. c.stores) cs

  pub remade_all : (P : List S → Type 0) (cs ds : List (Chained S)) → StoresOf ds ≡ StoresOf cs → All (λ c. P c.stores) cs → All (λ d. P d.stores) ds
  remade_all P cs [] same h = All-nil (λ d. P d.stores)
  remade_all P [] (d ∷ ds) same h = absurd (cc)
  remade_all P (c ∷ cs) (d ∷ ds) same h =
      let here : d.stores ≡ c.stores = cc in
      let rest : StoresOf ds ≡ StoresOf cs = cc in
      All-cons (λ x. P x.stores) d ds (subst P (sym here) (All-head (λ x. P x.stores) c cs h)) (remade_all P cs ds rest (All-tail (λ x. P x.stores) c cs h))

  pub remade_alike : (c d : Chained S) (cs ds : List (Chained S)) → d.stores ≡ c.stores → StoresOf ds ≡ StoresOf cs → HoldAlike store c cs → HoldAlike store d ds
  remade_alike c d cs ds first same alike = record {
    held = remade_all (λ xs. map store.holds xs ≡ map store.holds d.stores) cs ds same
        (subst (λ ys. All (λ x. map store.holds x.stores ≡ map store.holds ys) cs) (sym first) alike.held);
    members = remade_all (λ xs. map store.members xs ≡ map store.members d.stores) cs ds same
        (subst (λ ys. All (λ x. map store.members x.stores ≡ map store.members ys) cs) (sym first) alike.members);
  }

  remade_asks : (ls : List Listing) (c d e : Chained S) → d.stores ≡ c.stores → AsksListings store ls d e → AsksListings store ls c e
  remade_asks ls c d e same h = record {
    gets = subst (λ xs. AllZip (Few ls) xs e.stores) same h.gets;
    heads = h.heads ∙ ap (map store.queried) same;
    keeps = subst (λ xs. KeepsStores store (IsGetAmong ls) xs e.stores) same h.keeps;
  }

  pub remade_asked : (ls : List Listing) (cs ds es : List (Chained S)) → StoresOf ds ≡ StoresOf cs → AllZip (AsksListings store ls) ds es → AllZip (AsksListings store ls) cs es
  remade_asked ls [] [] es same h = h
  remade_asked ls [] (d ∷ ds) es same h = absurd (cc)
  remade_asked ls (c ∷ cs) [] es same h = absurd (cc)
  remade_asked ls (c ∷ cs) (d ∷ ds) [] same h = absurd h
  remade_asked ls (c ∷ cs) (d ∷ ds) (e ∷ es) same h =
      let here : d.stores ≡ c.stores = cc in
      let rest : StoresOf ds ≡ StoresOf cs = cc in
      (remade_asks ls c d e here h.0, remade_asked ls cs ds es rest h.1)

  -- ---- by one after the other

  none_listed : (c : Chained S) → AsksListings store [] c c
  none_listed c = record { gets = none_more store.asked c.stores c.stores refl; heads = refl; keeps = kept_still store (IsGetAmong []) c.stores }

  pub listed_none : (cs : List (Chained S)) → AllZip (AsksListings store []) cs cs
  listed_none cs = all_zip_same (AsksListings store []) none_listed cs

  listed_on : (l : Listing) (ls : List Listing) (a b c : Chained S) → AsksListings store (l ∷ []) a b → AsksListings store ls b c → AsksListings store (l ∷ ls) a c
  listed_on l ls a b c h k = record {
    gets = each_then (Few (l ∷ [])) (Few ls) (Few (l ∷ ls)) (λ x y z p q id. let first = p id in let next = q id in omega (arith, first, next)) a.stores b.stores c.stores h.gets k.gets;
    heads = k.heads ∙ h.heads;
    keeps = kept_on store (IsGetAmong (l ∷ ls)) a.stores b.stores c.stores
        (kept_weaker store (IsGetAmong (l ∷ [])) (IsGetAmong (l ∷ ls)) (λ x is. elim is [ inl here ↦ inl here | inr none ↦ absurd none ]) a.stores b.stores h.keeps)
        (kept_weaker store (IsGetAmong ls) (IsGetAmong (l ∷ ls)) (λ x is. inr is) b.stores c.stores k.keeps);
  }

  pub listed_then : (l : Listing) (ls : List Listing) (xs ys zs : List (Chained S)) → AllZip (AsksListings store (l ∷ [])) xs ys → AllZip (AsksListings store ls) ys zs → AllZip (AsksListings store (l ∷ ls)) xs zs
  listed_then l ls xs ys zs h k = each_then (AsksListings store (l ∷ [])) (AsksListings store ls) (AsksListings store (l ∷ ls)) (listed_on l ls) xs ys zs h k

  -- ---- all of them together

  abbrev Shares : (ℕ → List ℕ → ℕ) → ℕ → Chained S → Chained S → Type 0
  Shares shares k c d = AllZip (λ a b. (q : List ℕ) → store.asked b q ≤ store.asked a q + shares k q) c.stores d.stores

  pub shares_by : (l : Listing) (cs ds : List (Chained S)) → AsksInShares store.asked (times_listed l (count_of l)) cs ds → AsksInShares store.asked (listed_times (l ∷ [])) cs ds
  shares_by l cs ds h = record { shares = h.shares; together = λ q. (let all = h.together q in omega (arith, all)); gets = h.gets }

  remade_by : (shares : ℕ → List ℕ → ℕ) (m : ℕ) (cs ds es : List (Chained S)) → StoresOf ds ≡ StoresOf cs → ByNumber (Shares shares) m ds es → ByNumber (Shares shares) m cs es
  remade_by shares m [] [] es same h = h
  remade_by shares m [] (d ∷ ds) es same h = absurd (cc)
  remade_by shares m (c ∷ cs) [] es same h = absurd (cc)
  remade_by shares m (c ∷ cs) (d ∷ ds) [] same h = absurd h
  remade_by shares m (c ∷ cs) (d ∷ ds) (e ∷ es) same h =
      let here : d.stores ≡ c.stores = cc in
      let rest : StoresOf ds ≡ StoresOf cs = cc in
      (subst (λ xs. AllZip (λ a b. (q : List ℕ) → store.asked b q ≤ store.asked a q + shares m q) xs e.stores) here h.0, remade_by shares (suc m) cs ds es rest h.1)

  pub remade_shares : (times : List ℕ → ℕ) (cs ds es : List (Chained S)) → StoresOf ds ≡ StoresOf cs → AsksInShares store.asked times ds es → AsksInShares store.asked times cs es
  remade_shares times cs ds es same h = record {
    shares = h.shares;
    together = λ q. subst (λ (n : ℕ). sum_to (λ k. h.shares k q) n ≤ times q) (sym (length-map ds (λ c. c.stores)) ∙ ap length same ∙ length-map cs (λ c. c.stores)) (h.together q);
    gets = remade_by h.shares 0 cs ds es same h.gets;
  }

  pub shares_none : (cs : List (Chained S)) → AsksInShares store.asked (listed_times []) cs cs
  shares_none cs = record {
    shares = λ k q. 0;
    together = λ q. (let none = sum_zero (λ k. 0) (length cs) (λ k. refl) in omega (arith, none));
    gets = number_same (Shares (λ k q. 0)) (λ k c. all_zip_same (λ a b. (q : List ℕ) → store.asked b q ≤ store.asked a q + 0) (λ s q. omega arith) c.stores) 0 cs;
  }

  pub shares_then : (l : Listing) (ls : List Listing) (xs ys zs : List (Chained S)) → AsksInShares store.asked (listed_times (l ∷ [])) xs ys → AsksInShares store.asked (listed_times ls) ys zs → AsksInShares store.asked (listed_times (l ∷ ls)) xs zs
  shares_then l ls xs ys zs h k = record {
    shares = λ n q. h.shares n q + k.shares n q;
    together = λ q.
        (let many = number_many (Shares h.shares) 0 xs ys h.gets in
        let both = sum_add (λ n. h.shares n q) (λ n. k.shares n q) (length xs) in
        let one = h.together q in
        let two : sum_to (λ n. k.shares n q) (length xs) ≤ listed_times ls q = subst (λ (n : ℕ). sum_to (λ n. k.shares n q) n ≤ listed_times ls q) (sym many) (k.together q) in
        omega (arith, both, one, two));
    gets = number_then (Shares h.shares) (Shares k.shares) (Shares (λ n q. h.shares n q + k.shares n q))
        (λ n a b c p r. each_then (λ x y. (q : List ℕ) → store.asked y q ≤ store.asked x q + h.shares n q) (λ x y. (q : List ℕ) → store.asked y q ≤ store.asked x q + k.shares n q) (λ x y. (q : List ℕ) → store.asked y q ≤ store.asked x q + (h.shares n q + k.shares n q))
        (λ x y z f g q. (let first = f q in let next = g q in omega (arith, first, next))) a.stores b.stores c.stores p r) 0 xs ys zs h.gets k.gets;
  }

-- ---- by fewer workers than there may be

pub more_workers : (sure : Bool) (groups : List (List Location)) (again : ℕ) (cache : List ℕ) (few most : ℕ) (indexes : List (List ℕ)) (w v : Storage) (r : Result Unit Outcome) → max 1 few ≤ max 1 most → FilledBetween sure groups again cache few indexes w v r → FilledBetween sure groups again cache most indexes w v r
more_workers sure groups again cache few most indexes w v r less h = record {
  held = h.held;
  was = h.was;
  now = h.now;
  filled = h.filled;
  back = h.back;
  adds = h.adds;
  dials = h.dials;
  undialed = h.undialed;
  asks = record {
    listings = h.asks.listings;
    read = h.asks.read;
    ended = h.asks.ended;
    fetches = h.asks.fetches;
    workers = h.asks.workers;
    some = h.asks.some;
    few = omega (arith, h.asks.few, less);
    shares = h.asks.shares;
    together = h.asks.together;
    gets = h.asks.gets;
  };
}
