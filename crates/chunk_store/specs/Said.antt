-- What a store has said of its chunks.
use Rattle.std.specs.Prelude.{◌≡◌, ◌≢◌, ◌<◌, ◌≤◌, ◌+◌, ◌↔◌, ℕ, List, [], ◌∷◌, length, Option, Some, None, IfSome, refl}
use Rattle.std.proofs.Common.{arith}
use Rattle.std.specs.Option.{option_map}
use Rattle.std.specs.List.{Any}
use Rattle.dsy_base.specs.Maps.{Map}

pub record Said : Type 1 where
  -- it has denied this id
  pub denied : List ℕ → Type 0
  -- it has shown these bytes under this id
  pub shown : List ℕ → List ℕ → Type 0
  -- it has shown more than this many bytes under this id
  pub longer : List ℕ → ℕ → Type 0
  -- it has taken these bytes under this id
  pub taken : List ℕ → List ℕ → Type 0
  -- the store of this number in a group has shown these bytes under this id, or more than this many. A store that is no
  -- group has the number 0
  pub shown_by : ℕ → List ℕ → List ℕ → Type 0
  pub longer_by : ℕ → List ℕ → ℕ → Type 0

-- what was said of this id before is said still
pub record KeepsOf (old new : Said) (id : List ℕ) : Type 0 where
  pub denied : old.denied id → new.denied id
  pub shown : (b : List ℕ) → old.shown id b → new.shown id b
  pub longer : (n : ℕ) → old.longer id n → new.longer id n
  pub taken : (b : List ℕ) → old.taken id b → new.taken id b
  pub shown_by : (k : ℕ) (b : List ℕ) → old.shown_by k id b → new.shown_by k id b
  pub longer_by : (k n : ℕ) → old.longer_by k id n → new.longer_by k id n

-- what a store that is no group has said, from what it has said without a number
abbrev pub alone : Said → Said
alone s = record {
  denied = s.denied;
  shown = s.shown;
  longer = s.longer;
  taken = s.taken;
  shown_by = λ k id b. (k ≡ 0) × s.shown id b;
  longer_by = λ k id n. (k ≡ 0) × s.longer id n;
}

-- a map denies what it doesn't hold, and has shown and taken what it holds. It is the first of those that answer for it
pub record SaysMap (s : Said) (m : Map (List ℕ)) : Type 0 where
  pub denied : (id : List ℕ) → s.denied id ↔ (m id ≡ None)
  pub shown : (id b : List ℕ) → s.shown id b ↔ (m id ≡ Some b)
  pub longer : (id : List ℕ) (n : ℕ) → s.longer id n ↔ ((b : List ℕ) × (m id ≡ Some b) × (n < length b))
  pub taken : (id b : List ℕ) → s.taken id b ↔ (m id ≡ Some b)
  pub shown_by : (k : ℕ) (id b : List ℕ) → s.shown_by k id b → k ≡ 0
  pub longer_by : (k : ℕ) (id : List ℕ) (n : ℕ) → s.longer_by k id n → k ≡ 0

-- what was said is so of one of these maps: it doesn't hold what was denied, and holds what was shown
pub record SaysAmong (s : Said) (maps : List (Map (List ℕ))) : Type 0 where
  pub denied : (id : List ℕ) → s.denied id → Any (λ m. m id ≡ None) maps
  pub shown : (id b : List ℕ) → s.shown id b → Any (λ m. m id ≡ Some b) maps
  pub longer : (id : List ℕ) (n : ℕ) → s.longer id n
      → Any (λ m. (b : List ℕ) × (m id ≡ Some b) × (n < length b)) maps

-- the numbers of times asked, after one call for this id
pub record AskedOnce (old new : List ℕ → ℕ) (id : List ℕ) : Type 0 where
  pub this : new id ≤ old id + 1
  pub no_less : old id ≤ new id
  pub others : (q : List ℕ) → q ≢ id → new q ≡ old q

-- what a map says, where there is one. Without it nothing is known of what was said
abbrev pub said_by : Option (Map (List ℕ)) → Said
said_by holds = record {
  denied = λ id. IfSome holds (λ m. m id ≡ None);
  shown = λ id b. IfSome holds (λ m. m id ≡ Some b);
  longer = λ id n. IfSome holds (λ m. (b : List ℕ) × (m id ≡ Some b) × (n < length b));
  taken = λ id b. IfSome holds (λ m. m id ≡ Some b);
  shown_by = λ k id b. (k ≡ 0) × IfSome holds (λ m. m id ≡ Some b);
  longer_by = λ k id n. (k ≡ 0) × IfSome holds (λ m. (b : List ℕ) × (m id ≡ Some b) × (n < length b));
}

-- `said_by` says of a map exactly what it holds
pub says_map : (holds : Option (Map (List ℕ))) → IfSome holds (SaysMap (said_by holds))
says_map None = tt
says_map (Some m) = record {
  denied = λ id. (λ h. h, λ h. h);
  shown = λ id b. (λ h. h, λ h. h);
  longer = λ id n. (λ h. h, λ h. h);
  taken = λ id b. (λ h. h, λ h. h);
  shown_by = λ k id b h. h.0;
  longer_by = λ k id n h. h.0;
}

-- so it is of what a map says that is no group
pub says_alone : (s : Said) (m : Map (List ℕ)) → SaysMap s m → SaysMap (alone s) m
says_alone s m says = record {
  denied = says.denied;
  shown = says.shown;
  longer = says.longer;
  taken = says.taken;
  shown_by = λ k id b h. h.0;
  longer_by = λ k id n h. h.0;
}

-- ---- a store that tells what it holds, and answers alone

-- what a store holds, as a list of one map
abbrev pub just_one : Option (Map (List ℕ)) → Option (List (Map (List ℕ)))
just_one holds = option_map (λ m. m ∷ []) holds

-- it is the only one that answers in its name
pub answers_alone : (holds : Option (Map (List ℕ))) → IfSome holds (λ m. just_one holds ≡ Some (m ∷ []))
answers_alone None = tt
answers_alone (Some m) = refl

only_one : {X : Type 0} (P : X → Type 0) (x : X) → P x → Any P (x ∷ [])
only_one P x p = (0, x, omega arith, refl, p)

-- what it has said is so of its map
pub vouched_alone : (holds : Option (Map (List ℕ))) (said : Said) → IfSome holds (SaysMap said)
    → IfSome (just_one holds) (SaysAmong said)
vouched_alone None said says = tt
vouched_alone (Some m) said says = record {
  denied = λ id d. only_one (λ n. n id ≡ None) m ((says.denied id).0 d);
  shown = λ id b d. only_one (λ n. n id ≡ Some b) m ((says.shown id b).0 d);
  longer = λ id n d. only_one (λ x. (b : List ℕ) × (x id ≡ Some b) × (n < length b)) m ((says.longer id n).0 d);
}

-- what is said of a map is so of it
pub vouched_map : (holds : Option (Map (List ℕ))) → IfSome (just_one holds) (SaysAmong (said_by holds))
vouched_map holds = vouched_alone holds (said_by holds) (says_map holds)
