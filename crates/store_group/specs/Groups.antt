-- What contracts see of a group of stores, and what it says as one store. Where its stores never fail, by their type,
-- the active one stays so and answers alone, and the group tells what that one tells. So it is with the first store
-- while it is active, where all stores tell what they hold, and those of their type that tell never fail. Else a group
-- of one store tells what that store tells, and several tell nothing together, since any of them may answer. Its
-- members are its stores then, which tell what they hold if all of them do.
use Rattle.std.specs.Prelude.{◌≡◌, ◌≢◌, ◌⊎◌, ℕ, zero, suc, ◌+◌, ◌*◌, ◌/◌, ◌≤◌, List, [], ◌∷◌, ◌++◌, length, map, max}
use Rattle.std.specs.Prelude.{slice_get, is_some}
use Rattle.std.specs.Prelude.{Bool, true, false, ◌&&◌, IsTrue, IsSome, Option, Some, None, IfSome, refl}
use Rattle.std.proofs.Common.{inl, inr, ap, arith, ◌∙◌}
use Rattle.std.proofs.Math.Nat.{div-eq_of_lt}
use Rattle.std.proofs.lemmas.Bool.{false≢true}
use Rattle.std.specs.List.{AllByRecursion, AllZip}
use Rattle.chunk_store.specs.Asks.{Sent, no_requests}
use Rattle.chunk_store.specs.Folders.{chunks}
use Rattle.chunk_store.specs.Members.{maps_of}
use Rattle.chunk_store.specs.Said.{Said, SaysMap, alone, said_by, says_alone, says_map}
use Rattle.chunk_store.specs.declared.store.Store.{Ghosts as StoreWords}
use Rattle.dsy_base.specs.Counts.{Rose, raised}
use Rattle.dsy_base.specs.Maps.{Map}
use Rattle.store_group.specs.Answers.{AnswersRound, AskedUpTo, FailsAll, AnswerSays}
use Rattle.store_group.specs.declared.answer.Answer.{Answer}
use Rattle.store_group.specs.declared.answer.Answer.TheVariants as answer
use Rattle.store_group.specs.declared.answer.Question.{Question}

-- the stores in their order, the number of the one that is asked first, how often a call that fails is made again, and
-- how often all stores have failed
pub record Grouped (S : Type 0) : Type 0 where
  pub stores : List S
  pub active : ℕ
  pub retries : ℕ
  pub failed : ℕ

-- each store has failed at least as often as the calls of it that make one failure of the group
abbrev pub CountsFailures : {S : Type 0} → (S → ℕ) → Grouped S → Type 0
CountsFailures faults g = AllByRecursion (λ s. raised 0 (g.failed * (g.retries + 1)) ≤ faults s) g.stores

-- what one store tells
abbrev pub of_one : {S X : Type 0} → (S → Option X) → List S → Option X
of_one f [] = None
of_one f (s ∷ []) = f s
of_one f (s ∷ t ∷ stores) = None

-- some store is as P says
abbrev pub SomeStore : {S : Type 0} → (S → Type 0) → List S → Type 0
SomeStore P [] = ⊥
SomeStore P (s ∷ stores) = P s ⊎ SomeStore P stores

-- there is a store of this number, and it is as P says
abbrev pub AtStore : {S : Type 0} → (S → Type 0) → ℕ → List S → Type 0
AtStore P k [] = ⊥
AtStore P zero (s ∷ stores) = P s
AtStore P (suc k) (s ∷ stores) = AtStore P k stores

-- what some store has said, and the store of a number
abbrev pub said_of : {S : Type 0} → (S → Said) → List S → Said
said_of said stores = record {
  denied = λ id. SomeStore (λ s. (said s).denied id) stores;
  shown = λ id b. SomeStore (λ s. (said s).shown id b) stores;
  longer = λ id n. SomeStore (λ s. (said s).longer id n) stores;
  taken = λ id b. SomeStore (λ s. (said s).taken id b) stores;
  shown_by = λ k id b. AtStore (λ s. (said s).shown id b) k stores;
  longer_by = λ k id n. AtStore (λ s. (said s).longer id n) k stores;
}

-- what the store of a number has sent. Where there is none, nothing was
abbrev pub sent_of : {S : Type 0} → (S → Sent) → List S → Sent
sent_of sent [] n = no_requests
sent_of sent (s ∷ stores) zero = sent s 0
sent_of sent (s ∷ stores) (suc n) = sent_of sent stores n

-- the greatest of some numbers
abbrev pub most : {S : Type 0} → (S → ℕ) → List S → ℕ
most f [] = 0
most f (s ∷ stores) = max (f s) (most f stores)

-- how many questions it takes at least for this many calls, where each question makes r calls more while they fail
abbrev pub questions_of : ℕ → ℕ → ℕ
questions_of r calls = (calls + r) / (r + 1)

-- how many questions for an id it takes at least until a store has been asked for it so often
abbrev pub group_count : {S : Type 0} → (S → List ℕ → ℕ) → Grouped S → List ℕ → ℕ
group_count count g id = most (λ s. questions_of g.retries (count s id)) g.stores

-- the places of the stores, each behind its length
abbrev pub places_of : {S : Type 0} → (S → List ℕ) → List S → List ℕ
places_of place [] = []
places_of place (s ∷ stores) = length (place s) ∷ place s ++ places_of place stores

-- they stand behind the number of times that a call which fails is made again, which no call changes either
abbrev pub group_place : {S : Type 0} → (S → List ℕ) → Grouped S → List ℕ
group_place place g = g.retries ∷ places_of place g.stores

-- ---- a group whose stores never fail

-- the store that is asked first
abbrev pub active_store : {S : Type 0} → Grouped S → Option S
active_store g = slice_get g.stores g.active

-- what a store is seen as, and what is seen where there is none
abbrev pub of_store : {S X : Type 0} → X → (S → X) → Option S → X
of_store none f None = none
of_store none f (Some s) = f s

-- nothing is held
abbrev pub no_chunks : Map (List ℕ)
no_chunks id = None

-- what the store has said. No store says that nothing is held
abbrev pub said_of_store : {S : Type 0} → (S → Said) → Option S → Said
said_of_store said None = said_by (Some no_chunks)
said_of_store said (Some s) = alone (said s)

-- ---- a group whose stores tell, where those of their type that tell never fail

-- each of them tells something
abbrev pub all_tell : {S X : Type 0} → (S → Option X) → List S → Bool
all_tell f [] = true
all_tell f (s ∷ stores) = is_some (f s) && all_tell f stores

-- the first of these stores, where none of them fails and it is asked first
abbrev pub steady_of : {S : Type 0} → (unfailing : Bool) → (active : ℕ) → List S → Option S
steady_of false active stores = None
steady_of true (suc active) stores = None
steady_of true zero [] = None
steady_of true zero (s ∷ stores) = Some s

-- the store that answers alone, by whether those of the type that tell what they hold never fail
abbrev pub steady_store : {S X : Type 0} → Bool → (S → Option X) → Grouped S → Option S
steady_store told holds g = steady_of (told && all_tell holds g.stores) g.active g.stores

-- what is seen of that store, or else of a store that is a group by itself
abbrev pub seen_of : {S X : Type 0} → (S → Option X) → List S → Option S → Option X
seen_of f stores o = of_store (of_one f stores) f o

-- what that store has said, or else what some store has
abbrev pub said_steady : {S : Type 0} → (S → Said) → List S → Option S → Said
said_steady said stores None = said_of said stores
said_steady said stores (Some s) = alone (said s)

-- ---- the group as one store

-- the told maps of a group's members: just the one that it tells, or else those of all its stores
abbrev pub told_or_all : Option (Map (List ℕ)) → Option (List (Map (List ℕ))) → Option (List (Map (List ℕ)))
told_or_all (Some m) all = Some (m ∷ [])
told_or_all None all = all

module _ {S : Type 0} where
  -- what the group holds, by whether its stores never fail, and by whether those that tell never do
  abbrev pub group_holds : (sure told : Bool) → (S → Option (Map (List ℕ))) → Grouped S → Option (Map (List ℕ))
  group_holds true told holds g = of_store (Some no_chunks) holds (active_store g)
  group_holds false told holds g = seen_of holds g.stores (steady_store told holds g)

  -- those of the group
  abbrev pub group_members : (sure told : Bool) → (S → Option (Map (List ℕ))) → (S → Option (List (Map (List ℕ))))
      → Grouped S → Option (List (Map (List ℕ)))
  group_members sure told holds members g = told_or_all (group_holds sure told holds g) (maps_of members g.stores)

  -- which files its chunks lie in
  abbrev pub group_folder : (sure told : Bool) → (holds folder : S → Option (Map (List ℕ))) → Grouped S
      → Option (Map (List ℕ))
  group_folder true told holds folder g = of_store None folder (active_store g)
  group_folder false told holds folder g = seen_of folder g.stores (steady_store told holds g)

  -- what it has said
  abbrev pub group_told : (sure told : Bool) → (S → Option (Map (List ℕ))) → (S → Said) → Grouped S → Said
  group_told true told holds said g = said_of_store said (active_store g)
  group_told false told holds said g = said_steady said g.stores (steady_store told holds g)

  -- how often it was asked for an id
  abbrev pub group_times : Bool → (S → List ℕ → ℕ) → Grouped S → List ℕ → ℕ
  group_times true count g = of_store (λ id. 0) count (active_store g)
  group_times false count g = group_count count g

  -- and how often it has failed, which it has where all of its stores have
  abbrev pub group_faults : Bool → Grouped S → ℕ
  group_faults true g = 0
  group_faults false g = g.failed

-- the group as one store, by whether its stores never fail
abbrev pub as_store_by : {S : Type 0} → Bool → StoreWords S → StoreWords (Grouped S)
as_store_by sure store = record {
  holds = group_holds sure store.told_never_fail store.holds;
  members = group_members sure store.told_never_fail store.holds store.members;
  folder = group_folder sure store.told_never_fail store.holds store.folder;
  folders = λ g. map store.folder g.stores;
  giver = λ g. g.active;
  said = group_told sure store.told_never_fail store.holds store.said;
  sent = λ g. sent_of store.sent g.stores;
  asked = group_times sure store.asked;
  queried = group_times sure store.queried;
  faults = group_faults sure;
  place = λ g. group_place store.place g;
  tells = sure && store.tells;
  never_fails = sure;
  told_never_fail = false;
  may_lack_memory = store.may_lack_memory;
}

-- the same by what their type says of that
abbrev pub as_store : {S : Type 0} → StoreWords S → StoreWords (Grouped S)
as_store store = as_store_by store.never_fails store

-- how often the group has failed, by its answer: once more exactly where it answers so
pub record CountsByAnswer (a : Answer) (old new : ℕ) : Type 0 where
  pub rose : a ≡ answer.Failed → Rose old new
  pub stayed : a ≢ answer.Failed → new ≡ old

-- the group was asked the question for the id and answered so, where the buffer then holds `out`. One store was asked
-- after the other, from the active one on, round the group. The one that didn't fail is the active one then
pub record AsksGroup {S : Type 0} (store : StoreWords S) (q : Question) (id : List ℕ) (old new : Grouped S)
    (out : List ℕ) (a : Answer) : Type 0 where
  pub says : AnswerSays (as_store store) q id old new out a
  pub asked : AskedUpTo (as_store store) q 1 id old new
  pub turns : AllZip (AskedUpTo store q (old.retries + 1) id) old.stores new.stores
  pub answered : a ≢ answer.Failed → (new.failed ≡ old.failed)
      × AnswersRound store q old.retries id old.active new.active old.stores new.stores out a
  pub failed : a ≡ answer.Failed → (new.failed ≡ raised old.failed 1) × (new.active ≡ old.active)
      × AllZip (FailsAll store old.retries) old.stores new.stores
  pub retries : new.retries ≡ old.retries
  pub counts : CountsByAnswer a ((as_store store).faults old) ((as_store store).faults new)

-- ---- what each group keeps to

of_either : {A : Type 0} → A ⊎ ⊥ → A
of_either (inl a) = a
of_either (inr e) = absurd e

-- the only store is the first
first_of : {S : Type 0} (P : S → Type 0) (k : ℕ) (s : S) → AtStore P k (s ∷ []) → k ≡ 0
first_of P zero s at = refl
first_of P (suc k) s at = absurd at

says_same : {S : Type 0} (said : S → Said) (s : S) (m : Map (List ℕ)) → SaysMap (said s) m
    → SaysMap (said_of said (s ∷ [])) m
says_same said s m h = record {
  denied = λ id. (λ d. (h.denied id).0 (of_either d), λ e. inl ((h.denied id).1 e));
  shown = λ id b. (λ d. (h.shown id b).0 (of_either d), λ e. inl ((h.shown id b).1 e));
  longer = λ id n. (λ d. (h.longer id n).0 (of_either d), λ e. inl ((h.longer id n).1 e));
  taken = λ id b. (λ d. (h.taken id b).0 (of_either d), λ e. inl ((h.taken id b).1 e));
  shown_by = λ k id b. first_of (λ t. (said t).shown id b) k s;
  longer_by = λ k id n. first_of (λ t. (said t).longer id n) k s;
}

-- two that are both true
pub both_true : (a b : Bool) → IsTrue (a && b) → IsTrue a × IsTrue b
both_true true b t = (refl, t)
both_true false b t = absurd (false≢true t)

always : {X : Type 0} (P : X → Type 0) (o : Option X) → ((x : X) → P x) → IfSome o P
always P None h = tt
always P (Some x) h = h x

-- what follows where there is one
pub if_some : {X : Type 0} (P Q : X → Type 0) → ((x : X) → P x → Q x) → (o : Option X) → IfSome o P → IfSome o Q
if_some P Q f None h = tt
if_some P Q f (Some x) h = f x h

module _ {S : Type 0} (holds : S → Option (Map (List ℕ))) where
  -- a told map denies what it doesn't hold, and has shown and taken what it holds
  says_one : (said : S → Said) → ((s : S) → IfSome (holds s) (SaysMap (said s))) → (stores : List S)
      → IfSome (of_one holds stores) (SaysMap (said_of said stores))
  says_one said says [] = tt
  says_one said says (s ∷ []) =
      if_some (SaysMap (said s)) (SaysMap (said_of said (s ∷ []))) (says_same said s) (holds s) (says s)
  says_one said says (s ∷ t ∷ stores) = tt

  -- what lies in a told folder under the paths of chunks is what is held
  lies_one : (folder : S → Option (Map (List ℕ)))
      → ((s : S) → IfSome (folder s) (λ m. holds s ≡ Some (chunks m))) → (stores : List S)
      → IfSome (of_one folder stores) (λ m. of_one holds stores ≡ Some (chunks m))
  lies_one folder lies [] = tt
  lies_one folder lies (s ∷ []) = lies s
  lies_one folder lies (s ∷ t ∷ stores) = tt

  none_asked : (count : S → List ℕ → ℕ) (s : S) (r : ℕ) (q : List ℕ) → count s q ≡ 0
      → most (λ x. questions_of r (count x q)) (s ∷ []) ≡ 0
  none_asked count s r q none = ap (λ n. max (questions_of r n) 0) none ∙ ap (λ n. max n 0) (div-eq_of_lt (omega arith))

  unasked_at : (asked queried : S → List ℕ → ℕ)
      → ((s : S) → IfSome (holds s) (λ _. (q : List ℕ) → (asked s q ≡ 0) × (queried s q ≡ 0)))
      → (r : ℕ) (stores : List S)
      → IfSome (of_one holds stores) (λ _. (q : List ℕ) → (most (λ s. questions_of r (asked s q)) stores ≡ 0)
      × (most (λ s. questions_of r (queried s q)) stores ≡ 0))
  unasked_at asked queried unasked r [] = tt
  unasked_at asked queried unasked r (s ∷ []) = if_some (λ _. (q : List ℕ) → (asked s q ≡ 0) × (queried s q ≡ 0)) _
      (λ m none q. (none_asked asked s r q (none q).0, none_asked queried s r q (none q).1)) (holds s) (unasked s)
  unasked_at asked queried unasked r (s ∷ t ∷ stores) = tt

  -- a group that tells is asked for nothing that counts
  unasked_one : (asked queried : S → List ℕ → ℕ)
      → ((s : S) → IfSome (holds s) (λ _. (q : List ℕ) → (asked s q ≡ 0) × (queried s q ≡ 0))) → (g : Grouped S)
      → IfSome (of_one holds g.stores) (λ _. (q : List ℕ) → (group_count asked g q ≡ 0) × (group_count queried g q ≡ 0))
  unasked_one asked queried unasked g = unasked_at asked queried unasked g.retries g.stores

  -- ---- the same of the active store, which may be none

  says_some : (said : S → Said) → ((s : S) → IfSome (holds s) (SaysMap (said s))) → (o : Option S)
      → IfSome (of_store (Some no_chunks) holds o) (SaysMap (said_of_store said o))
  says_some said says None = says_map (Some no_chunks)
  says_some said says (Some s) =
      if_some (SaysMap (said s)) (SaysMap (alone (said s))) (says_alone (said s)) (holds s) (says s)

  lies_some : (folder : S → Option (Map (List ℕ))) → ((s : S) → IfSome (folder s) (λ m. holds s ≡ Some (chunks m)))
      → (o : Option S) → IfSome (of_store None folder o) (λ m. of_store (Some no_chunks) holds o ≡ Some (chunks m))
  lies_some folder lies None = tt
  lies_some folder lies (Some s) = lies s

  unasked_some : (asked queried : S → List ℕ → ℕ)
      → ((s : S) → IfSome (holds s) (λ _. (q : List ℕ) → (asked s q ≡ 0) × (queried s q ≡ 0))) → (o : Option S)
      → IfSome (of_store (Some no_chunks) holds o)
      (λ _. (q : List ℕ) → (of_store (λ id. 0) asked o q ≡ 0) × (of_store (λ id. 0) queried o q ≡ 0))
  unasked_some asked queried unasked None = λ q. (refl, refl)
  unasked_some asked queried unasked (Some s) = unasked s

  told_some : ((s : S) → IsSome (holds s)) → (o : Option S) → IsSome (of_store (Some no_chunks) holds o)
  told_some told None = refl
  told_some told (Some s) = told s

  -- ---- the same of a steady store, which may be none

  says_steady : (said : S → Said) → ((s : S) → IfSome (holds s) (SaysMap (said s))) → (stores : List S) (o : Option S)
      → IfSome (seen_of holds stores o) (SaysMap (said_steady said stores o))
  says_steady said says stores None = says_one said says stores
  says_steady said says stores (Some s) =
      if_some (SaysMap (said s)) (SaysMap (alone (said s))) (says_alone (said s)) (holds s) (says s)

  lies_steady : (folder : S → Option (Map (List ℕ))) → ((s : S) → IfSome (folder s) (λ m. holds s ≡ Some (chunks m)))
      → (stores : List S) (o : Option S) → IfSome (seen_of folder stores o)
      (λ m. seen_of holds stores o ≡ Some (chunks m))
  lies_steady folder lies stores None = lies_one folder lies stores
  lies_steady folder lies stores (Some s) = lies s

  of_told : (P : Map (List ℕ) → Type 0) (o : Option (Map (List ℕ))) → IsTrue (is_some o) → IfSome o P
      → (m : Map (List ℕ)) × P m
  of_told P None t h = absurd (false≢true t)
  of_told P (Some m) t h = (m, h)

  -- stores that all tell were asked for nothing that counts
  none_counted : (count : S → List ℕ → ℕ) → ((s : S) → IfSome (holds s) (λ _. (q : List ℕ) → count s q ≡ 0)) → (r : ℕ)
      (q : List ℕ) (stores : List S) → IsTrue (all_tell holds stores)
      → most (λ s. questions_of r (count s q)) stores ≡ 0
  none_counted count none r q [] t = refl
  none_counted count none r q (s ∷ stores) t =
      let both = both_true (is_some (holds s)) (all_tell holds stores) t in
      let first = (of_told (λ _. (q : List ℕ) → count s q ≡ 0) (holds s) both.0 (none s)).1 q in
      let one : questions_of r (count s q) ≡ 0 = ap (questions_of r) first ∙ div-eq_of_lt (omega arith) in
      let rest = none_counted count none r q stores both.1 in
      λ i. max (one i) (rest i)

  unasked_steady : (asked queried : S → List ℕ → ℕ)
      → ((s : S) → IfSome (holds s) (λ _. (q : List ℕ) → (asked s q ≡ 0) × (queried s q ≡ 0))) → (g : Grouped S)
      (unfailing : Bool) → (IsTrue unfailing → IsTrue (all_tell holds g.stores)) → (n : ℕ)
      (stores : List S) → IfSome (seen_of holds g.stores (steady_of unfailing n stores))
      (λ _. (q : List ℕ) → (group_count asked g q ≡ 0) × (group_count queried g q ≡ 0))
  unasked_steady asked queried unasked g false tell n stores = unasked_one asked queried unasked g
  unasked_steady asked queried unasked g true tell (suc n) stores = unasked_one asked queried unasked g
  unasked_steady asked queried unasked g true tell zero [] = unasked_one asked queried unasked g
  unasked_steady asked queried unasked g true tell zero (s ∷ stores) =
      let none : (q : List ℕ) → (group_count asked g q ≡ 0) × (group_count queried g q ≡ 0) = λ q. (
        none_counted asked (λ x. if_some (λ _. (q : List ℕ) → (asked x q ≡ 0) × (queried x q ≡ 0)) _
            (λ m h q. (h q).0) (holds x) (unasked x)) g.retries q g.stores (tell refl),
        none_counted queried (λ x. if_some (λ _. (q : List ℕ) → (asked x q ≡ 0) × (queried x q ≡ 0)) _
            (λ m h q. (h q).1) (holds x) (unasked x)) g.retries q g.stores (tell refl),
      ) in
      always (λ _. (q : List ℕ) → (group_count asked g q ≡ 0) × (group_count queried g q ≡ 0)) (holds s) (λ m. none)

  -- ---- by whether its stores never fail, and whether those that tell never do

  -- what it has said is exactly what it holds, if that is told
  pub says_by : (sure told : Bool) (said : S → Said) → ((s : S) → IfSome (holds s) (SaysMap (said s)))
      → (g : Grouped S) → IfSome (group_holds sure told holds g) (SaysMap (group_told sure told holds said g))
  says_by true told said says g = says_some said says (active_store g)
  says_by false told said says g = says_steady said says g.stores (steady_store told holds g)

  -- what it holds are the chunk files of its folder, if they are told
  pub lies_by : (sure told : Bool) (folder : S → Option (Map (List ℕ)))
      → ((s : S) → IfSome (folder s) (λ m. holds s ≡ Some (chunks m))) → (g : Grouped S)
      → IfSome (group_folder sure told holds folder g) (λ m. group_holds sure told holds g ≡ Some (chunks m))
  lies_by true told folder lies g = lies_some folder lies (active_store g)
  lies_by false told folder lies g = lies_steady folder lies g.stores (steady_store told holds g)

  -- a group that tells is asked for nothing that counts
  pub unasked_by : (sure told : Bool) (asked queried : S → List ℕ → ℕ)
      → ((s : S) → IfSome (holds s) (λ _. (q : List ℕ) → (asked s q ≡ 0) × (queried s q ≡ 0))) → (g : Grouped S)
      → IfSome (group_holds sure told holds g)
      (λ _. (q : List ℕ) → (group_times sure asked g q ≡ 0) × (group_times sure queried g q ≡ 0))
  unasked_by true told asked queried unasked g = unasked_some asked queried unasked (active_store g)
  unasked_by false told asked queried unasked g = unasked_steady asked queried unasked g
      (told && all_tell holds g.stores) (λ t. (both_true told (all_tell holds g.stores) t).1) g.active g.stores

  -- a group tells where its stores tell and never fail
  pub told_by : (sure told tells : Bool) → ((s : S) → IsTrue tells → IsSome (holds s)) → (g : Grouped S)
      → IsTrue (sure && tells) → IsSome (group_holds sure told holds g)
  told_by true told tells some g t = told_some (λ s. some s t) (active_store g)
  told_by false told tells some g t = absurd (false≢true t)

-- a group whose stores never fail counts no fault
pub sure_by : {S : Type 0} (sure : Bool) (g : Grouped S) → IsTrue sure → group_faults sure g ≡ 0
sure_by true g t = refl
sure_by false g t = absurd (false≢true t)
