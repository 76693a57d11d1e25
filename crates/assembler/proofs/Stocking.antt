-- What is added to a cache as wants are settled, and what it gives then. A want's chunk is what some store holds.
use Rattle.std.proofs.Common.{◌≡◌, ◌⊎◌, ◌++◌, ℕ, ◌<◌, List, [], map, Option, Some, None, IsSome, true, is_some, refl, sym, ap, ◌∙◌, subst, inl, inr, arith}
use Rattle.std.proofs.lemmas.Bool.{cases_Bool, true≢false}
use Rattle.std.proofs.lemmas.Option.{same_Some}
use Rattle.std.specs.List.{Any}
use Rattle.assembler.proofs.Entries.{among_of, first_among, listed_of}
use Rattle.cache_store.specs.Giving.{SomeGives}
use Rattle.cache_store.specs.Shelves.{Shelf}
use Rattle.caibx_codec.specs.Listing.{Listing, kind_of, size_of}
use Rattle.chunk_sources.proofs.Cached.{gives_left, gives_part, gives_right, stocked_gave, stocked_gives, stocked_on, stocked_some, stocked_wider}
use Rattle.chunk_sources.proofs.Origins.{stores_decide}
use Rattle.chunk_sources.specs.Caches.{HaveOneSize, IsListedAs, Stocked, TakesListed, TakesWants, cached_in}
use Rattle.chunk_sources.specs.Economy.{stores_give}
use Rattle.chunk_store.specs.Giving.{GivesChunk, IsChunk}
use Rattle.chunk_store.specs.declared.store.Store.{Ghosts as StoreWords}
use Rattle.chunk_store.specs.Members.{maps_of, told_together}
use Rattle.dsy_base.specs.Maps.{Map}
use Rattle.extract_plan.specs.Deal.{AreWants, Deal, first_of, want_id}

any_map : {X : Type 0} (P Q : X → Type 0) → ((x : X) → P x → Q x) → (xs : List X) → Any P xs → Any Q xs
any_map P Q f xs (k, x, inside, at, p) = (k, x, inside, at, f x p)

-- a want is known by the id and size of its chunk
pub same_want : (l : Listing) (d : Deal) → AreWants l d.wants d.want_of → (v w : ℕ) → v < d.wants → w < d.wants → want_id l d v ≡ want_id l d w
    → size_of l (first_of d v) ≡ size_of l (first_of d w) → v ≡ w
same_want l d wants v w one other id size =
    let a = first_among l d v wants one in
    let b = first_among l d w wants other in
    let inside = listed_of l d v (first_of d v) wants a in
    let within = listed_of l d w (first_of d w) wants b in
    sym (among_of d v (first_of d v) a).1 ∙ (wants.alike (first_of d v) (first_of d w) inside within).1 (id, size) ∙ (among_of d w (first_of d w) b).1

module _ {S : Type 0} (store : StoreWords S) (l : Listing) (d : Deal) where
  abbrev Takes : (ℕ → Type 0) → List S → List ℕ → List ℕ → Type 0
  Takes Among stores = TakesWants store l d Among stores

  -- stores that hold the same, and more wants
  pub takes_more : (A B : ℕ → Type 0) → ((w : ℕ) → A w → B w) → (s0 s1 : List S) → map store.members s1 ≡ map store.members s0 → (q b : List ℕ) → Takes A s1 q b → Takes B s0 q b
  takes_more A B more s0 s1 same q b (w, among, (is, chunk, held)) = (w, more w among, (is, chunk, λ maps told. held maps (ap told_together same ∙ told)))

  pub stocking_wider : (A B : ℕ → Type 0) → ((w : ℕ) → A w → B w) → (s : List S) (e f : Option Shelf) → Stocked (Takes A s) e f → Stocked (Takes B s) e f
  stocking_wider A B more s e f stocked = stocked_wider (Takes A s) (Takes B s) (takes_more A B more s s refl) e f stocked

  -- one stretch and then another
  pub stocking_on : (A B C : ℕ → Type 0) → ((w : ℕ) → A w → C w) → ((w : ℕ) → B w → C w) → (s0 s1 : List S) → map store.members s1 ≡ map store.members s0
      → (e f g : Option Shelf) → Stocked (Takes A s0) e f → Stocked (Takes B s1) f g → Stocked (Takes C s0) e g
  stocking_on A B C a b s0 s1 same e f g first next =
      stocked_on (Takes C s0) e f g (stocked_wider (Takes A s0) (Takes C s0) (takes_more A C a s0 s0 refl) e f first)
      (stocked_wider (Takes B s1) (Takes C s0) (takes_more B C b s0 s1 same) f g next)

  -- what was added some store gives
  pub takes_give : (A : ℕ → Type 0) (stores : List S) (maps : List (Map (List ℕ))) (id b : List ℕ) (n : ℕ) → maps_of store.members stores ≡ Some maps
      → Takes A stores id b → IsChunk (kind_of l) id n b → SomeGives (kind_of l) id n maps
  takes_give A stores maps id b n told (w, among, (is, chunk, held)) right =
      any_map (λ (m : Map (List ℕ)). m id ≡ Some b) (λ (m : Map (List ℕ)). GivesChunk (kind_of l) id n (m id)) (λ m at. (b, at, right)) maps
      (subst (λ (q : List ℕ). Any (λ (m : Map (List ℕ)). m q ≡ Some b) maps) (sym is) (held maps told))

  -- where what a cache gives it gave before, or it was added, the cache and the stores together gave what they give
  pub gave_by : (A : ℕ → Type 0) (stores : List S) (was now maps : List (Map (List ℕ))) → maps_of store.members stores ≡ Some maps → (id : List ℕ) (n : ℕ)
      → (SomeGives (kind_of l) id n now → SomeGives (kind_of l) id n was ⊎ ((b : List ℕ) × Takes A stores id b × IsChunk (kind_of l) id n b))
      → SomeGives (kind_of l) id n (now ++ maps) → SomeGives (kind_of l) id n (was ++ maps)
  gave_by A stores was now maps held id n gave gives = elim (gives_part (kind_of l) id n now maps gives) [
    | inl cache ↦ elim (gave cache) [
      | inl before ↦ gives_left (kind_of l) id n was maps before
      | inr (b, takes, right) ↦ gives_right (kind_of l) id n was maps (takes_give A stores maps id b n held takes right)
    ]
    | inr store ↦ gives_right (kind_of l) id n was maps store
  ]

  module _ (A : ℕ → Type 0) (stores : List S) (e f : Option Shelf) (was now maps : List (Map (List ℕ))) (stocked : Stocked (Takes A stores) e f)
      (told : cached_in e ≡ Some was) (tells : cached_in f ≡ Some now) (held : maps_of store.members stores ≡ Some maps) where
    -- the cache and the stores together gave what they give
    gave_from : (id : List ℕ) (n : ℕ) → SomeGives (kind_of l) id n (now ++ maps) → SomeGives (kind_of l) id n (was ++ maps)
    gave_from id n gives = gave_by A stores was now maps held id n (stocked_gave (Takes A stores) (kind_of l) id n e f was now stocked told tells) gives

    pub one_size_on : HaveOneSize l e was maps → HaveOneSize l f now maps
    one_size_on one = λ some id n m listed other first second.
        one (stocked_some (Takes A stores) e f stocked some) id n m listed other (gave_from id n first) (gave_from id m second)

    -- what the cache gave of what is listed it gives
    module _ (wants : AreWants l d.wants d.want_of) (below : (w : ℕ) → A w → w < d.wants) (one : HaveOneSize l e was maps) where
      gives_some : IsSome e → (id : List ℕ) (n : ℕ) → IsListedAs l id n → SomeGives (kind_of l) id n was → SomeGives (kind_of l) id n now
      gives_some some id n listed gives =
          stocked_gives (Takes A stores) (kind_of l) id n e f was now stocked told tells
          (λ b takes.
          let w = takes.0 in
          let first = first_of d w in
          let inside = listed_of l d w first wants (first_among l d w wants (below w takes.1)) in
          let chunk : IsChunk (kind_of l) id (size_of l first) b = subst (λ (q : List ℕ). IsChunk (kind_of l) q (size_of l first) b) (sym takes.2.0) takes.2.1 in
          let same : size_of l first ≡ n = one some id (size_of l first) n (first, inside, sym takes.2.0, refl) listed
          (gives_right (kind_of l) id (size_of l first) was maps (takes_give A stores maps id b (size_of l first) held takes chunk)) (gives_left (kind_of l) id n was maps gives) in
          subst (λ (k : ℕ). IsChunk (kind_of l) id k b) same chunk)
          gives

      gives_any : (o : Option Shelf) → e ≡ o → (id : List ℕ) (n : ℕ) → IsListedAs l id n → SomeGives (kind_of l) id n was → SomeGives (kind_of l) id n now
      gives_any (Some s) is id n listed gives = gives_some (ap (λ (q : Option Shelf). is_some q) is) id n listed gives
      gives_any None is id n listed gives =
          let none : [] ≡ was = same_Some [] was (ap cached_in (sym is) ∙ told) in
          let bad = subst (SomeGives (kind_of l) id n) (sym none) gives in
          let less : bad.0 < 0 = bad.2 in
          absurd (omega (arith, less))

      pub gives_on : (id : List ℕ) (n : ℕ) → IsListedAs l id n → SomeGives (kind_of l) id n was → SomeGives (kind_of l) id n now
      gives_on id n listed gives = gives_any e refl id n listed gives

      -- a want for which nothing was added is given as before
      pub give_same : (w : ℕ) → w < d.wants → (A w → ⊥)
          → stores_give (kind_of l) (want_id l d w) (size_of l (first_of d w)) now ≡ stores_give (kind_of l) (want_id l d w) (size_of l (first_of d w)) was
      give_same w inside never =
          let id = want_id l d w in
          let n = size_of l (first_of d w) in
          let decides = stores_decide (kind_of l) id n in
          let first = first_among l d w wants inside in
          let listed : IsListedAs l id n = (first_of d w, listed_of l d w (first_of d w) wants first, refl, refl) in
          let back : SomeGives (kind_of l) id n now → SomeGives (kind_of l) id n was = λ gives.
          elim (stocked_gave (Takes A stores) (kind_of l) id n e f was now stocked told tells gives) [
            | inl before ↦ before
            | inr (b, takes, right) ↦
                let v = takes.0 in
                let sized : size_of l (first_of d v) ≡ n = sym takes.2.1.sized ∙ right.sized in
                let same : v ≡ w = same_want l d wants v w (below v takes.1) inside (sym takes.2.0) sized in
                absurd (never (subst A same takes.1))
          ] in
          elim (cases_Bool (stores_give (kind_of l) id n now)) [
            | inl is ↦ is ∙ sym ((decides was).1 (back ((decides now).0 is)))
            | inr isnt ↦ elim (cases_Bool (stores_give (kind_of l) id n was)) [
              | inl gave ↦ absurd (true≢false (sym ((decides now).1 (gives_on id n listed ((decides was).0 gave))) ∙ isnt))
              | inr never ↦ isnt ∙ sym never
            ]
          ]

      -- none gives it now that gave none
      pub give_before : (w : ℕ) → stores_give (kind_of l) (want_id l d w) (size_of l (first_of d w)) now ≡ true
          → (stores_give (kind_of l) (want_id l d w) (size_of l (first_of d w)) was ≡ true) ⊎ (stores_give (kind_of l) (want_id l d w) (size_of l (first_of d w)) maps ≡ true)
      give_before w is =
          let id = want_id l d w in
          let n = size_of l (first_of d w) in
          let decides = stores_decide (kind_of l) id n in
          elim (gives_part (kind_of l) id n was maps (gave_from id n (gives_left (kind_of l) id n now maps ((decides now).0 is)))) [
            | inl cache ↦ inl ((decides was).1 cache)
            | inr store ↦ inr ((decides maps).1 store)
          ]

-- what is added for wants is added for entries
pub listed_takes : {S : Type 0} (store : StoreWords S) (l : Listing) (d : Deal) (stores : List S) (e f : Option Shelf) → AreWants l d.wants d.want_of
    → Stocked (TakesWants store l d (λ w. w < d.wants) stores) e f → Stocked (TakesListed store l stores) e f
listed_takes store l d stores e f wants stocked =
    stocked_wider (TakesWants store l d (λ w. w < d.wants) stores) (TakesListed store l stores)
    (λ q b takes. (first_of d takes.0, listed_of l d takes.0 (first_of d takes.0) wants (first_among l d takes.0 wants takes.1), takes.2)) e f stocked
