-- How a shelf changes to which chunks are added.
use Rattle.std.proofs.Common.{◌≡◌, ◌⊎◌, ℕ, List, Option, Some, None, IfSome, IsTrue, is_some, true, false, refl, sym, subst, ap, ◌∙◌, inl, inr, arith}
use Rattle.std.specs.Option.{option_map}
use Rattle.cache_store.specs.Shelves.{KeepsShelf, Shelf, Stocks, held_on}
use Rattle.chunk_store.specs.Folders.{chunks}
use Rattle.chunk_store.specs.Giving.{IsChunk, GivesChunk}
use Rattle.chunk_store.specs.declared.id.DigestKind.{DigestKind}
use Rattle.dir_store.specs.Names.{is_stranger}
use Rattle.dsy_base.specs.Maps.{Map}

some_of : {X : Type 0} (a b : X) → Some a ≡ Some b → a ≡ b
some_of a b e = cc

true_false : true ≡ false → ⊥
true_false e = cc

-- what is told of the files before and after
abbrev pub Told : (Map (List ℕ) → Map (List ℕ) → Type 0) → Option (Map (List ℕ)) → Option (Map (List ℕ)) → Type 0
Told P old new = IfSome old (λ m. IfSome new (λ n. P m n))

told_same : (P : Map (List ℕ) → Map (List ℕ) → Type 0) → ((m : Map (List ℕ)) → P m m) → (o : Option (Map (List ℕ))) → Told P o o
told_same P f None = tt
told_same P f (Some m) = f m

told_on : (P Q R : Map (List ℕ) → Map (List ℕ) → Type 0) → ((l m n : Map (List ℕ)) → P l m → Q m n → R l n) → (a b c : Option (Map (List ℕ)))
    → is_some b ≡ is_some a → Told P a b → Told Q b c → Told R a c
told_on P Q R f None b c e p q = tt
told_on P Q R f (Some l) b None e p q = tt
told_on P Q R f (Some l) None (Some n) e p q = absurd (true_false (sym e))
told_on P Q R f (Some l) (Some m) (Some n) e p q = f l m n p q

told_so : (P Q : Map (List ℕ) → Map (List ℕ) → Type 0) → ((m n : Map (List ℕ)) → P m n → Q m n) → (a b : Option (Map (List ℕ))) → Told P a b → Told Q a b
told_so P Q f None b h = tt
told_so P Q f (Some m) None h = tt
told_so P Q f (Some m) (Some n) h = f m n h

-- of each id what is held, or bytes that may stand there
abbrev pub Holds : (List ℕ → List ℕ → Type 0) → Map (List ℕ) → Map (List ℕ) → Type 0
Holds Takes m n = (q : List ℕ) → (chunks n q ≡ chunks m q) ⊎ ((b : List ℕ) × (chunks n q ≡ Some b) × Takes q b)

abbrev pub Strangers : Map (List ℕ) → Map (List ℕ) → Type 0
Strangers m n = (q : List ℕ) → IsTrue (is_stranger q) → n q ≡ m q

holds_same : (T : List ℕ → List ℕ → Type 0) (m : Map (List ℕ)) → Holds T m m
holds_same T m q = inl refl

holds_one : (T : List ℕ → List ℕ → Type 0) (x y z : Option (List ℕ)) (q : List ℕ) → (y ≡ x) ⊎ ((b : List ℕ) × (y ≡ Some b) × T q b)
    → (z ≡ y) ⊎ ((b : List ℕ) × (z ≡ Some b) × T q b) → (z ≡ x) ⊎ ((b : List ℕ) × (z ≡ Some b) × T q b)
holds_one T x y z q first (inr then) = inr then
holds_one T x y z q (inl first) (inl then) = inl (then ∙ first)
holds_one T x y z q (inr first) (inl then) = inr (first.0, then ∙ first.1, first.2)

holds_on : (T : List ℕ → List ℕ → Type 0) (l m n : Map (List ℕ)) → Holds T l m → Holds T m n → Holds T l n
holds_on T l m n first then q = holds_one T (chunks l q) (chunks m q) (chunks n q) q (first q) (then q)

weaker_one : (T U : List ℕ → List ℕ → Type 0) → ((q b : List ℕ) → T q b → U q b) → (x y : Option (List ℕ)) (q : List ℕ) → (y ≡ x) ⊎ ((b : List ℕ) × (y ≡ Some b) × T q b)
    → (y ≡ x) ⊎ ((b : List ℕ) × (y ≡ Some b) × U q b)
weaker_one T U f x y q (inl same) = inl same
weaker_one T U f x y q (inr new) = inr (new.0, new.1, f q new.0 new.2)

holds_so : (T U : List ℕ → List ℕ → Type 0) → ((q b : List ℕ) → T q b → U q b) → (m n : Map (List ℕ)) → Holds T m n → Holds U m n
holds_so T U f m n h q = weaker_one T U f (chunks m q) (chunks n q) q (h q)

strangers_on : (l m n : Map (List ℕ)) → Strangers l m → Strangers m n → Strangers l n
strangers_on l m n first then q s = then q s ∙ first q s

strangers_same : (m : Map (List ℕ)) → Strangers m m
strangers_same m q s = refl

module _ (Takes : List ℕ → List ℕ → Type 0) where
  -- a shelf to which nothing was added
  pub stocks_same : (s : Shelf) → Stocks Takes s s
  stocks_same s = record {
    told = refl;
    chunks = told_same (Holds Takes) (holds_same Takes) s.files;
    strangers = told_same Strangers strangers_same s.files;
    place = refl;
    kind = refl;
    never_falls = omega arith;
    others = refl;
  }

  -- a shelf to which something was added, and then more
  pub stocks_on : (a b c : Shelf) → Stocks Takes a b → Stocks Takes b c → Stocks Takes a c
  stocks_on a b c first then = record {
    told = then.told ∙ first.told;
    chunks = told_on (Holds Takes) (Holds Takes) (Holds Takes) (holds_on Takes) a.files b.files c.files first.told first.chunks then.chunks;
    strangers = told_on Strangers Strangers Strangers strangers_on a.files b.files c.files first.told first.strangers then.strangers;
    place = then.place ∙ first.place;
    kind = then.kind ∙ first.kind;
    never_falls = omega (arith, first.never_falls, then.never_falls);
    others = then.others ∙ first.others;
  }

  -- a shelf that was only looked at
  pub stocks_looked : (a b : Shelf) → KeepsShelf a b → Stocks Takes a b
  stocks_looked a b h = record {
    told = ap is_some h.files;
    chunks = subst (λ o. Told (Holds Takes) a.files o) (sym h.files) (told_same (Holds Takes) (holds_same Takes) a.files);
    strangers = subst (λ o. Told Strangers a.files o) (sym h.files) (told_same Strangers strangers_same a.files);
    place = h.place;
    kind = h.kind;
    never_falls = h.never_falls;
    others = h.others;
  }

  -- what may be added may be more
  pub stocks_weaker : (U : List ℕ → List ℕ → Type 0) → ((q b : List ℕ) → Takes q b → U q b) → (a b : Shelf) → Stocks Takes a b → Stocks U a b
  stocks_weaker U f a b h = record {
    told = h.told;
    chunks = told_so (Holds Takes) (Holds U) (holds_so Takes U f) a.files b.files h.chunks;
    strangers = h.strangers;
    place = h.place;
    kind = h.kind;
    never_falls = h.never_falls;
    others = h.others;
  }

  gives_before_one : (kind : DigestKind) (id : List ℕ) (size : ℕ) (x y : Option (List ℕ)) → (y ≡ x) ⊎ ((b : List ℕ) × (y ≡ Some b) × Takes id b) → GivesChunk kind id size y
      → GivesChunk kind id size x ⊎ ((b : List ℕ) × IsChunk kind id size b × Takes id b)
  gives_before_one kind id size x y (inl same) gives = inl (gives.0, sym same ∙ gives.1, gives.2)
  gives_before_one kind id size x y (inr new) gives =
      let P : List ℕ → Type 0 = λ b. IsChunk kind id size b in
      inr (new.0, subst P (some_of gives.0 new.0 (sym gives.1 ∙ new.1)) gives.2, new.2)

  -- what the shelf gives afterwards it gave before, or it is bytes that may be added
  pub gave_or_takes : (a b : Shelf) (kind : DigestKind) (id : List ℕ) (size : ℕ) → Stocks Takes a b → IfSome (held_on a) (λ m. IfSome (held_on b) (λ n. GivesChunk kind id size (n id)
      → GivesChunk kind id size (m id) ⊎ ((x : List ℕ) × IsChunk kind id size x × Takes id x)))
  gave_or_takes a b kind id size h = gave_by a.files b.files h.chunks where
    gave_by : (x y : Option (Map (List ℕ))) → IfSome x (λ m. IfSome y (λ n. (q : List ℕ) → (chunks n q ≡ chunks m q) ⊎ ((b : List ℕ) × (chunks n q ≡ Some b) × Takes q b)))
        → IfSome (option_map chunks x) (λ m. IfSome (option_map chunks y) (λ n. GivesChunk kind id size (n id) → GivesChunk kind id size (m id) ⊎ ((z : List ℕ) × IsChunk kind id size z × Takes id z)))
    gave_by None y g = tt
    gave_by (Some m) None g = tt
    gave_by (Some m) (Some n) g = λ gives. gives_before_one kind id size (chunks m id) (chunks n id) (g id) gives

  -- what it gave before it gives afterwards, where all bytes that may be added under the id are so
  pub gives_still : (a b : Shelf) (kind : DigestKind) (id : List ℕ) (size : ℕ) → Stocks Takes a b → ((x : List ℕ) → Takes id x → IsChunk kind id size x)
      → IfSome (held_on a) (λ m. IfSome (held_on b) (λ n. GivesChunk kind id size (m id) → GivesChunk kind id size (n id)))
  gives_still a b kind id size h takes = still a.files b.files h.chunks where
    one : (x y : Option (List ℕ)) → (y ≡ x) ⊎ ((z : List ℕ) × (y ≡ Some z) × Takes id z) → GivesChunk kind id size x → GivesChunk kind id size y
    one x y (inl same) gives = (gives.0, same ∙ gives.1, gives.2)
    one x y (inr new) gives = (new.0, new.1, takes new.0 new.2)

    still : (x y : Option (Map (List ℕ))) → IfSome x (λ m. IfSome y (λ n. (q : List ℕ) → (chunks n q ≡ chunks m q) ⊎ ((b : List ℕ) × (chunks n q ≡ Some b) × Takes q b)))
        → IfSome (option_map chunks x) (λ m. IfSome (option_map chunks y) (λ n. GivesChunk kind id size (m id) → GivesChunk kind id size (n id)))
    still None y g = tt
    still (Some m) None g = tt
    still (Some m) (Some n) g = λ gives. one (chunks m id) (chunks n id) (g id) gives
