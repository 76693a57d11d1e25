-- What one call for a chunk of an index does to a cache, and what the calls for the entries before it have come to.
use Rattle.std.proofs.Common.{◌≡◌, ◌⊎◌, ℕ, zero, suc, ◌+◌, ◌<◌, ◌≤◌, List, [], ◌∷◌, map, slice_index, true, false, Option, Some, None, IfSome, is_some, refl, sym, subst, ap, ◌∙◌, inl, inr, arith, below_more}
use Rattle.std.proofs.lemmas.List.Elements.{All-weaker}
use Rattle.std.proofs.lemmas.Option.{none-some, same_Some}
use Rattle.std.specs.List.{All, Any}
use Rattle.std.specs.Option.{option_map}
use Rattle.cache_store.specs.Giving.{GiveOneSize, SomeGives}
use Rattle.cache_store.specs.Shelves.{Shelf, Stocks, held_on}
use Rattle.caibx_codec.specs.Listing.{Listing, count_of, id_of, kind_of, size_of}
use Rattle.chunk_store.specs.Folders.{chunks}
use Rattle.chunk_store.proofs.Members.{told_alone}
use Rattle.chunk_store.specs.Giving.{GivesChunk, IsChunk}
use Rattle.chunk_store.specs.Members.{maps_of, told_together}
use Rattle.chunk_store.specs.declared.id.ChunkId.{ChunkId}
use Rattle.chunk_store.specs.declared.shows.Shows.{Shows}
use Rattle.chunk_store.specs.declared.shows.Shows.TheVariants as shows
use Rattle.chunk_store.specs.declared.store.Giver.{Giver}
use Rattle.chunk_store.specs.declared.store.Store.{Ghosts as StoreWords}
use Rattle.dsy_base.specs.Counts.{Quiet, Rose}
use Rattle.dsy_base.specs.Maps.{Map}
use Rattle.store_chain.specs.Faults.{EachQuiet, NoneFalls}
use Rattle.store_chain.specs.Giving.{Gives, HoldsElse, HoldsNone, LacksAll, SomeHolds}
use Rattle.store_chain.specs.Lists.{FirstAt}
use Rattle.store_chain.specs.Queries.{IsWanted, ShowsElse}
use Rattle.store_chain.specs.declared.refused.Refused.TheVariants as refused
use Rattle.cache_fill.specs.Filling.{EntryUnfound, GivesEntry, HoldsEntry, HoldsTo, IsGivenBy, ListsSize, MayFillCache, entry_want}

-- ---- counts

pub rose_never : (a b : ℕ) → Quiet a b → Rose a b → ⊥
rose_never a b quiet (inl up) = omega (arith, quiet.same, up)
rose_never a b quiet (inr top) = omega (arith, quiet.below, top)

pub quiet_within : (a b c e : ℕ) → a ≤ b → c ≤ e → Quiet a e → Quiet b c
quiet_within a b c e ab ce quiet = record { same = omega (arith, quiet.same); below = omega (arith, quiet.below) }

pub each_within : (a b c e : List ℕ) → NoneFalls a b → NoneFalls c e → EachQuiet a e → EachQuiet b c
each_within a b c e ab ce quiet k = quiet_within (slice_index a k) (slice_index b k) (slice_index c k) (slice_index e k) (ab k) (ce k) (quiet k)

-- ---- what is held

true_false : true ≡ false → ⊥
true_false e = cc

-- what is told of chunks before and after is told of each id
on_told : (P Q : Map (List ℕ) → Type 0) (R : Map (List ℕ) → Map (List ℕ) → Type 0) → ((m n : Map (List ℕ)) → R (chunks m) (chunks n) → P (chunks m) → Q (chunks n)) → (x y : Option (Map (List ℕ)))
    → is_some y ≡ is_some x → IfSome x (λ m. IfSome y (λ n. R (chunks m) (chunks n))) → IfSome (option_map chunks x) P → IfSome (option_map chunks y) Q
on_told P Q R f None None same r p = tt
on_told P Q R f None (Some n) same r p = absurd (true_false same)
on_told P Q R f (Some m) None same r p = tt
on_told P Q R f (Some m) (Some n) same r p = f m n r p

-- a cache that told what it holds tells it still
pub told_still : (s t : Shelf) (m : Map (List ℕ)) → held_on s ≡ Some m → is_some t.files ≡ is_some s.files → (n : Map (List ℕ)) × (held_on t ≡ Some n)
told_still s t m held same = go s.files t.files held same where
  go : (x y : Option (Map (List ℕ))) → option_map chunks x ≡ Some m → is_some y ≡ is_some x → (n : Map (List ℕ)) × (option_map chunks y ≡ Some n)
  go None y held same = absurd (none-some m held)
  go (Some a) None held same = absurd (true_false (sym same))
  go (Some a) (Some b) held same = (chunks b, refl)

module _ {S : Type 0} (members : S → Option (List (Map (List ℕ)))) (l : Listing) where
  holds_one : (stores : List S) (i : ℕ) (x y : Option (List ℕ)) → (y ≡ x) ⊎ ((b : List ℕ) × (y ≡ Some b) × MayFillCache members l stores (id_of l i) b) → HoldsEntry l i x → HoldsEntry l i y
  holds_one stores i x y (inl same) (b, held, named, sized) = (b, same ∙ held, named, sized)
  holds_one stores i x y (inr (b, held, ((n, (j, inside, id, size), is), some))) before = (b, held, is.named, λ one. is.sized ∙ sym size ∙ one j inside id)

  -- entries that are held are held still
  pub holds_still : (stores : List S) (k : ℕ) (s t : Shelf) → Stocks (MayFillCache members l stores) s t → HoldsTo l k s → HoldsTo l k t
  holds_still stores k s t h =
      on_told (λ m. (i : ℕ) → i < k → HoldsEntry l i (m (id_of l i))) (λ m. (i : ℕ) → i < k → HoldsEntry l i (m (id_of l i)))
      (λ m n. (q : List ℕ) → (n q ≡ m q) ⊎ ((b : List ℕ) × (n q ≡ Some b) × MayFillCache members l stores q b))
      (λ m n r p i less. holds_one stores i (chunks m (id_of l i)) (chunks n (id_of l i)) (r (id_of l i)) (p i less))
      s.files t.files h.told h.chunks

  pub takes_earlier : (c d : List S) → map members d ≡ map members c → (q b : List ℕ) → MayFillCache members l d q b → MayFillCache members l c q b
  takes_earlier c d same q b (listed, some) = (listed, λ maps told. some maps (ap told_together same ∙ told))

pub holds_none : (l : Listing) (s : Shelf) → HoldsTo l 0 s
holds_none l s = go (held_on s) where
  go : (o : Option (Map (List ℕ))) → IfSome o (λ m. (i : ℕ) → i < 0 → HoldsEntry l i (m (id_of l i)))
  go None = tt
  go (Some m) = λ i less. absurd (omega arith)

pub holds_more : (l : Listing) (i : ℕ) (s : Shelf) → IfSome (held_on s) (GivesEntry l i) → HoldsTo l i s → HoldsTo l (i + 1) s
holds_more l i s = go (held_on s) where
  go : (o : Option (Map (List ℕ))) → IfSome o (GivesEntry l i) → IfSome o (λ m. (j : ℕ) → j < i → HoldsEntry l j (m (id_of l j))) → IfSome o (λ m. (j : ℕ) → j < i + 1 → HoldsEntry l j (m (id_of l j)))
  go None gives before = tt
  go (Some m) (b, held, is) before = below_more _ _ before (b, held, is.named, λ one. is.sized)

-- ---- maps that give

any_head : {X : Type 0} (P : X → Type 0) (x : X) (xs : List X) → P x → Any P (x ∷ xs)
any_head P x xs p = (0, x, omega arith, refl, p)

any_tail : {X : Type 0} (P : X → Type 0) (x : X) (xs : List X) → Any P xs → Any P (x ∷ xs)
any_tail P x xs (k, y, inside, at, p) = (suc k, y, omega (arith, inside), at, p)

any_so : {X : Type 0} (P Q : X → Type 0) → ((x : X) → P x → Q x) → (xs : List X) → Any P xs → Any Q xs
any_so P Q f xs (k, y, inside, at, p) = (k, y, inside, at, f y p)

any_cons : {X : Type 0} (Q : X → Type 0) (x : X) (xs : List X) → Any Q (x ∷ xs) → Q x ⊎ Any Q xs
any_cons Q x xs (zero, y, inside, at, q) = inl (subst Q (sym at) q)
any_cons Q x xs (suc k, y, inside, at, q) = inr (k, y, omega (arith, inside), at, q)

pub any_at : {X : Type 0} (Q B A C : X → Type 0) → ((x : X) → A x → Q x) → (n : ℕ) (xs : List X) → FirstAt B A C n xs → Any Q xs
any_at Q B A C f n [] h = absurd h
any_at Q B A C f zero (x ∷ xs) h = any_head Q x xs (f x h.0)
any_at Q B A C f (suc n) (x ∷ xs) h = any_tail Q x xs (any_at Q B A C f n xs h.1)

none_all : {X : Type 0} (Q : X → Type 0) (xs : List X) → All (λ x. Q x → ⊥) xs → Any Q xs → ⊥
none_all Q xs none (k, x, inside, at, q) = none k x inside (subst Q (sym at) q)

none_first : {X : Type 0} (Q B A C : X → Type 0) → ((x : X) → B x → Q x → ⊥) → ((x : X) → A x → Q x → ⊥) → ((x : X) → C x → Q x → ⊥)
    → (n : ℕ) (xs : List X) → FirstAt B A C n xs → Any Q xs → ⊥
none_first Q B A C b a c n [] first any = absurd first
none_first Q B A C b a c zero (x ∷ xs) first any = elim (any_cons Q x xs any) [
  | inl q ↦ a x first.0 q
  | inr later ↦ none_all Q xs (All-weaker C (λ y. Q y → ⊥) c xs first.1) later
]
none_first Q B A C b a c (suc n) (x ∷ xs) first any = elim (any_cons Q x xs any) [
  | inl q ↦ b x first.0 q
  | inr later ↦ none_first Q B A C b a c n xs first.1 later
]

-- ---- what is wanted of an entry

module _ (l : Listing) (i : ℕ) (id : ChunkId) (is_id : id.0 ≡ id_of l i) where
  pub wanted_of : (m : Map (List ℕ)) → GivesEntry l i m → Gives (entry_want l i id) m
  wanted_of m (b, held, is) = (b, ap m is_id ∙ held, record { named = is.named ∙ sym is_id; sized = is.sized; fits = omega (arith, is.sized) })

  pub of_wanted : (b : List ℕ) → IsWanted (entry_want l i id) b → IsChunk (kind_of l) (id_of l i) (size_of l i) b
  of_wanted b is = record { named = is.named ∙ is_id; sized = is.sized }

  none_held : (m : Map (List ℕ)) → HoldsNone (entry_want l i id) m → GivesEntry l i m → ⊥
  none_held m none (b, held, is) = none-some b (sym none ∙ ap m is_id ∙ held)

  not_both : (b : List ℕ) (x : Shows) → ShowsElse (entry_want l i id) b x → IsWanted (entry_want l i id) b → ⊥
  not_both b shows.Longer more is = omega (arith, more, is.fits)
  not_both b (shows.Digest x) shown is = shown.2 (shown.1 ∙ is.named)
  not_both b (shows.Length n) shown is = shown.3 (shown.2 ∙ is.sized)

  else_held : (x : Shows) (m : Map (List ℕ)) → HoldsElse (entry_want l i id) x m → GivesEntry l i m → ⊥
  else_held x m (b, held, shown) gives =
      let wanted = wanted_of m gives in
      not_both b x shown (subst (IsWanted (entry_want l i id)) (same_Some wanted.0 b (sym wanted.1 ∙ held)) wanted.2)

  never_given : (m : Map (List ℕ)) → (Gives (entry_want l i id) m → ⊥) → GivesEntry l i m → ⊥
  never_given m never gives = never (wanted_of m gives)

  -- stores that lack the chunk don't give it
  pub missing_never : (maps : List (Map (List ℕ))) → LacksAll (entry_want l i id) maps refused.Missing → SomeGives (kind_of l) (id_of l i) (size_of l i) maps → ⊥
  missing_never maps lacks gives = none_all (GivesEntry l i) maps (All-weaker (HoldsNone (entry_want l i id)) (λ m. GivesEntry l i m → ⊥) none_held maps lacks) gives

  pub damaged_never : (s : Giver) (x : Shows) (maps : List (Map (List ℕ))) → LacksAll (entry_want l i id) maps (refused.Damaged s x) → SomeGives (kind_of l) (id_of l i) (size_of l i) maps → ⊥
  damaged_never s x maps lacks gives =
      none_first (GivesEntry l i) (HoldsNone (entry_want l i id)) (HoldsElse (entry_want l i id) x) (λ m. Gives (entry_want l i id) m → ⊥)
      none_held (else_held x) never_given s.number maps lacks.1 gives

-- ---- what the cache gives where nothing fails

-- each store that tells what it holds answers alone
abbrev pub TellAlone : {S : Type 0} → StoreWords S → Type 0
TellAlone {S} store = (s : S) → IfSome (store.holds s) (λ m. store.members s ≡ Some (m ∷ []))

-- those who answer for such stores hold what these tell
pub told_members : {S : Type 0} (store : StoreWords S) → TellAlone store → (stores : List S) (maps : List (Map (List ℕ))) → map store.holds stores ≡ map Some maps → maps_of store.members stores ≡ Some maps
told_members store alone stores maps told = told_alone store.holds store.members alone stores maps told

-- bytes that may be added are given by one of those who answer
pub given_by : {S : Type 0} (members : S → Option (List (Map (List ℕ)))) (l : Listing) (stores : List S) (maps : List (Map (List ℕ))) → maps_of members stores ≡ Some maps
    → (q b : List ℕ) (n : ℕ) → SomeHolds members stores q b → IsChunk (kind_of l) q n b → SomeGives (kind_of l) q n maps
given_by members l stores maps told q b n some is = any_so (λ (x : Map (List ℕ)). x q ≡ Some b) (λ x. GivesChunk (kind_of l) q n (x q)) (λ x held. (b, held, is)) maps (some maps told)

module _ {S : Type 0} (members : S → Option (List (Map (List ℕ)))) (l : Listing) (stores : List S) (m : Map (List ℕ)) (maps : List (Map (List ℕ))) (told : maps_of members stores ≡ Some maps) where
  gave_one : (i : ℕ) (x y : Option (List ℕ)) → m (id_of l i) ≡ x → (y ≡ x) ⊎ ((b : List ℕ) × (y ≡ Some b) × MayFillCache members l stores (id_of l i) b)
      → GivesChunk (kind_of l) (id_of l i) (size_of l i) y → IsGivenBy l m maps i
  gave_one i x y at (inl same) (b, held, is) = inl (b, at ∙ sym same ∙ held, is)
  gave_one i x y at (inr (b, new, (listed, some))) (c, held, is) =
      inr (given_by members l stores maps told (id_of l i) b (size_of l i) some (subst (IsChunk (kind_of l) (id_of l i) (size_of l i)) (same_Some c b (sym held ∙ new)) is))

  -- what the cache gives that began with m, either it gave then or a store gives
  pub gave_entry : (i : ℕ) (s t : Shelf) → held_on s ≡ Some m → Stocks (MayFillCache members l stores) s t → IfSome (held_on t) (λ n. GivesEntry l i n → IsGivenBy l m maps i)
  gave_entry i s t began h = go s.files t.files began h.told h.chunks where
    go : (x y : Option (Map (List ℕ))) → option_map chunks x ≡ Some m → is_some y ≡ is_some x → IfSome x (λ a. IfSome y (λ b. (q : List ℕ) → (chunks b q ≡ chunks a q) ⊎ ((z : List ℕ) × (chunks b q ≡ Some z) × MayFillCache members l stores q z)))
        → IfSome (option_map chunks y) (λ n. GivesEntry l i n → IsGivenBy l m maps i)
    go None y began same h = absurd (none-some m began)
    go (Some a) None began same h = tt
    go (Some a) (Some b) began same h = λ gives. gave_one i (chunks a (id_of l i)) (chunks b (id_of l i)) (ap (λ (n : Map (List ℕ)). n (id_of l i)) (sym (same_Some (chunks a) m began))) (h (id_of l i)) gives

  -- what it gave then it gives still, where the cache and the stores give one size for each id
  module _ (sizes : GiveOneSize (ListsSize l) (kind_of l) (m ∷ maps)) where
    still_one : (i : ℕ) (x y : Option (List ℕ)) → i < count_of l → m (id_of l i) ≡ x → (y ≡ x) ⊎ ((b : List ℕ) × (y ≡ Some b) × MayFillCache members l stores (id_of l i) b)
        → GivesEntry l i m → GivesChunk (kind_of l) (id_of l i) (size_of l i) y
    still_one i x y inside at (inl same) (b, held, is) = (b, same ∙ sym at ∙ held, is)
    still_one i x y inside at (inr (b, new, ((n, listed, is), some))) gives =
        let same : n ≡ size_of l i = sizes (id_of l i) n (size_of l i) listed (i, inside, refl, refl)
        (any_tail (λ x. GivesChunk (kind_of l) (id_of l i) n (x (id_of l i))) m maps (given_by members l stores maps told (id_of l i) b n some is))
        (any_head (λ x. GivesChunk (kind_of l) (id_of l i) (size_of l i) (x (id_of l i))) m maps gives) in
        (b, new, record { named = is.named; sized = is.sized ∙ same })

    pub still_gives : (i : ℕ) (s t : Shelf) → i < count_of l → held_on s ≡ Some m → Stocks (MayFillCache members l stores) s t → GivesEntry l i m
        → (n : Map (List ℕ)) × (held_on t ≡ Some n) × GivesEntry l i n
    still_gives i s t inside began h gives = go s.files t.files began h.told h.chunks where
      go : (x y : Option (Map (List ℕ))) → option_map chunks x ≡ Some m → is_some y ≡ is_some x → IfSome x (λ a. IfSome y (λ b. (q : List ℕ) → (chunks b q ≡ chunks a q) ⊎ ((z : List ℕ) × (chunks b q ≡ Some z) × MayFillCache members l stores q z)))
          → (n : Map (List ℕ)) × (option_map chunks y ≡ Some n) × GivesEntry l i n
      go None y began same h = absurd (none-some m began)
      go (Some a) None began same h = absurd (true_false (sym same))
      go (Some a) (Some b) began same h = (chunks b, refl, still_one i (chunks a (id_of l i)) (chunks b (id_of l i)) inside (ap (λ (n : Map (List ℕ)). n (id_of l i)) (sym (same_Some (chunks a) m began))) (h (id_of l i)) gives)

    -- so a cache that didn't give it then, and didn't fail, didn't give it at first
    pub not_at_first : (i : ℕ) (s t u : Shelf) → i < count_of l → held_on s ≡ Some m → Stocks (MayFillCache members l stores) s t → EntryUnfound l i t u → Quiet t.faults u.faults → GivesEntry l i m → ⊥
    not_at_first i s t u inside began h unfound quiet gives =
        let now = still_gives i s t inside began h gives in
        let P : Option (Map (List ℕ)) → Type 0 = λ o. IfSome o (λ n. GivesEntry l i n → Rose t.faults u.faults) in
        let rose : GivesEntry l i now.0 → Rose t.faults u.faults = subst P now.1 unfound in
        rose_never t.faults u.faults quiet (rose now.2)
