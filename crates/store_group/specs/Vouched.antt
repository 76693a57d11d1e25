-- What a group says in the name of those who answer for it: it tells of all of them, and what it has said is so of one.
use Rattle.std.specs.Prelude.{◌≡◌, ℕ, zero, suc, ◌<◌, List, [], ◌∷◌, ◌++◌, length, map, slice_get}
use Rattle.std.specs.Prelude.{Bool, true, false, ◌&&◌, Option, Some, None, IfSome, refl}
use Rattle.std.proofs.Common.{inl, inr, subst, sym}
use Rattle.std.proofs.lemmas.Option.{none-some, same_Some}
use Rattle.std.specs.List.{Any}
use Rattle.std.specs.Option.{option_map}
use Rattle.chunk_store.proofs.Members.{any_left, any_right}
use Rattle.chunk_store.specs.Members.{maps_of, told_together}
use Rattle.chunk_store.specs.Said.{Said, SaysAmong, SaysMap, alone, vouched_alone}
use Rattle.dsy_base.specs.Maps.{Map}
use Rattle.store_group.specs.Groups.{Grouped, SomeStore, active_store, all_tell, group_holds, group_members, group_told}
use Rattle.store_group.specs.Groups.{if_some, no_chunks, of_store, said_of, said_of_store, said_steady, says_by}
use Rattle.store_group.specs.Groups.{steady_of, told_or_all}

-- ---- by whether the group tells what it holds

alone_of : (o : Option (Map (List ℕ))) (all : Option (List (Map (List ℕ))))
    → IfSome o (λ m. told_or_all o all ≡ Some (m ∷ []))
alone_of None all = tt
alone_of (Some m) all = refl

vouched_of : (o : Option (Map (List ℕ))) (all : Option (List (Map (List ℕ)))) (said : Said) → IfSome o (SaysMap said)
    → (o ≡ None → IfSome all (SaysAmong said)) → IfSome (told_or_all o all) (SaysAmong said)
vouched_of None all said says among = among refl
vouched_of (Some m) all said says among = vouched_alone (Some m) said says

-- ---- what holds of one of the told maps of one store, holds of one of those of all stores

module _ {X : Type 0} (P : X → Type 0) where
  before_all : (xs : List X) (all : Option (List X)) → Any P xs → IfSome (option_map (λ ys. xs ++ ys) all) (Any P)
  before_all xs None any = tt
  before_all xs (Some ys) any = any_left P xs ys any

  behind_all : (xs : List X) (all : Option (List X)) → IfSome all (Any P)
      → IfSome (option_map (λ ys. xs ++ ys) all) (Any P)
  behind_all xs None any = tt
  behind_all xs (Some ys) any = any_right P xs ys any

  among_first : (o : Option (List X)) (groups : List (Option (List X))) → IfSome o (Any P)
      → IfSome (told_together (o ∷ groups)) (Any P)
  among_first None groups any = tt
  among_first (Some xs) groups any = before_all xs (told_together groups) any

  among_rest : (o : Option (List X)) (groups : List (Option (List X))) → IfSome (told_together groups) (Any P)
      → IfSome (told_together (o ∷ groups)) (Any P)
  among_rest None groups any = tt
  among_rest (Some xs) groups any = behind_all xs (told_together groups) any

among_of : (said : Said) (o : Option (List (Map (List ℕ))))
    → ((id : List ℕ) → said.denied id → IfSome o (Any (λ m. m id ≡ None)))
    → ((id b : List ℕ) → said.shown id b → IfSome o (Any (λ m. m id ≡ Some b)))
    → ((id : List ℕ) (n : ℕ) → said.longer id n
    → IfSome o (Any (λ m. (b : List ℕ) × (m id ≡ Some b) × (n < length b))))
    → IfSome o (SaysAmong said)
among_of said None denied shown longer = tt
among_of said (Some maps) denied shown longer = record { denied = denied; shown = shown; longer = longer }

-- ---- what some store has said

-- the store of this number is as P says, so some store is
some_at : {S : Type 0} (P : S → Type 0) (k : ℕ) (stores : List S) (s : S) → slice_get stores k ≡ Some s → P s
    → SomeStore P stores
some_at P zero [] s is p = absurd (none-some s is)
some_at P (suc k) [] s is p = absurd (none-some s is)
some_at P zero (x ∷ stores) s is p = inl (subst P (sym (same_Some x s is)) p)
some_at P (suc k) (x ∷ stores) s is p = inr (some_at P k stores s is p)

-- what was said of an id, some store has said
record SaidIn {S : Type 0} (said : S → Said) (stores : List S) (d : Said) (q : List ℕ) : Type 0 where
  denied : d.denied q → SomeStore (λ x. (said x).denied q) stores
  shown : (b : List ℕ) → d.shown q b → SomeStore (λ x. (said x).shown q b) stores
  longer : (n : ℕ) → d.longer q n → SomeStore (λ x. (said x).longer q n) stores

-- so it is of what the store of this number has said
said_there : {S : Type 0} (said : S → Said) (k : ℕ) (stores : List S) (s : S) → slice_get stores k ≡ Some s
    → (q : List ℕ) → SaidIn said stores (alone (said s)) q
said_there said k stores s is q = record {
  denied = some_at (λ x. (said x).denied q) k stores s is;
  shown = λ b. some_at (λ x. (said x).shown q b) k stores s is;
  longer = λ n. some_at (λ x. (said x).longer q n) k stores s is;
}

module _ {S : Type 0} (said : S → Said) (members : S → Option (List (Map (List ℕ))))
    (vouched : (s : S) → IfSome (members s) (SaysAmong (said s))) where
  of_some : (P : S → Type 0) (Q : Map (List ℕ) → Type 0) → ((s : S) → P s → IfSome (members s) (Any Q))
      → (stores : List S) → SomeStore P stores → IfSome (maps_of members stores) (Any Q)
  of_some P Q f [] some = absurd some
  of_some P Q f (s ∷ stores) (inl p) = among_first Q (members s) (map members stores) (f s p)
  of_some P Q f (s ∷ stores) (inr some) = among_rest Q (members s) (map members stores) (of_some P Q f stores some)

  so_among : (Q : Map (List ℕ) → Type 0) (s : S) → ((maps : List (Map (List ℕ))) → SaysAmong (said s) maps → Any Q maps)
      → IfSome (members s) (Any Q)
  so_among Q s f = if_some (SaysAmong (said s)) (Any Q) f (members s) (vouched s)

  -- what some store has said is so of one of the told maps of all stores
  among_said : (d : Said) (stores : List S) → ((q : List ℕ) → SaidIn said stores d q)
      → IfSome (maps_of members stores) (SaysAmong d)
  among_said d stores keeps = among_of d (maps_of members stores)
      (λ id h. of_some (λ s. (said s).denied id) (λ m. m id ≡ None)
      (λ s p. so_among (λ m. m id ≡ None) s (λ maps says. says.denied id p)) stores ((keeps id).denied h))
      (λ id b h. of_some (λ s. (said s).shown id b) (λ m. m id ≡ Some b)
      (λ s p. so_among (λ m. m id ≡ Some b) s (λ maps says. says.shown id b p)) stores ((keeps id).shown b h))
      (λ id n h. of_some (λ s. (said s).longer id n) (λ m. (b : List ℕ) × (m id ≡ Some b) × (n < length b))
      (λ s p. so_among (λ m. (b : List ℕ) × (m id ≡ Some b) × (n < length b)) s
      (λ maps says. says.longer id n p)) stores ((keeps id).longer n h))

  among_all : (stores : List S) → IfSome (maps_of members stores) (SaysAmong (said_of said stores))
  among_all stores = among_said (said_of said stores) stores
      (λ q. record { denied = λ h. h; shown = λ b h. h; longer = λ n h. h })

-- ---- by whether the stores never fail, and whether those that tell never do

module _ {S : Type 0} (holds : S → Option (Map (List ℕ))) where
  -- a group that tells what it holds answers alone
  pub alone_by : (sure told : Bool) (members : S → Option (List (Map (List ℕ)))) (g : Grouped S)
      → IfSome (group_holds sure told holds g) (λ m. group_members sure told holds members g ≡ Some (m ∷ []))
  alone_by sure told members g = alone_of (group_holds sure told holds g) (maps_of members g.stores)

  module _ (said : S → Said) (members : S → Option (List (Map (List ℕ))))
      (vouched : (s : S) → IfSome (members s) (SaysAmong (said s))) where
    among_steady : (unfailing : Bool) (n : ℕ) (stores : List S)
        → IfSome (maps_of members stores) (SaysAmong (said_steady said stores (steady_of unfailing n stores)))
    among_steady false n stores = among_all said members vouched stores
    among_steady true (suc n) stores = among_all said members vouched stores
    among_steady true zero [] = among_all said members vouched []
    among_steady true zero (s ∷ stores) = among_said said members vouched (alone (said s)) (s ∷ stores)
        (said_there said zero (s ∷ stores) s refl)

    among_active : (k : ℕ) (stores : List S) (o : Option S) → slice_get stores k ≡ o
        → of_store (Some no_chunks) holds o ≡ None
        → IfSome (maps_of members stores) (SaysAmong (said_of_store said o))
    among_active k stores None is none = absurd (none-some no_chunks (sym none))
    among_active k stores (Some s) is none = among_said said members vouched (alone (said s)) stores
        (said_there said k stores s is)

    -- what it has said is so of one of the told maps of its members
    pub vouched_by : (sure told : Bool) → ((s : S) → IfSome (holds s) (SaysMap (said s))) → (g : Grouped S)
        → IfSome (group_members sure told holds members g) (SaysAmong (group_told sure told holds said g))
    vouched_by true told says g = vouched_of (group_holds true told holds g) (maps_of members g.stores)
        (group_told true told holds said g) (says_by holds true told said says g)
        (among_active g.active g.stores (active_store g) refl)
    vouched_by false told says g = vouched_of (group_holds false told holds g) (maps_of members g.stores)
        (group_told false told holds said g) (says_by holds false told said says g)
        (λ none. among_steady (told && all_tell holds g.stores) g.active g.stores)
