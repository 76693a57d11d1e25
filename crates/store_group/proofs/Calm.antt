-- Groups of stores that never fail: the active store answers alone, and stays active.
use Rattle.std.proofs.Common.{◌≡◌, inl, inr, ℕ, zero, suc, ◌+◌, ◌≤◌, ◌<◌, List, [], ◌∷◌, length, Bool, true, false, ◌&&◌, Option, Some, None, IfSome, IsSome, IsTrue, is_some, take, drop, slice_get, refl, sym, ap, ◌∙◌, subst, arith, ◌⊎◌, ◌-◌, ◌^◌}
use Rattle.std.proofs.lemmas.Bool.{cases_lt, false≢true}
use Rattle.std.specs.List.{AllByRecursion, AllZip}
use Rattle.chunk_store.proofs.Said.{keeps_alone, keeps_itself}
use Rattle.chunk_store.specs.Said.{KeepsOf, Said, alone, said_by}
use Rattle.chunk_store.specs.declared.store.Store.{Ghosts as StoreWords}
use Rattle.dsy_base.specs.Counts.{Rose, raised}
use Rattle.dsy_base.specs.Maps.{Map}
use Rattle.store_group.proofs.Groups.{answers_unfailed, as_steady, each_kept, group_asked, group_place_kept, group_says, maps_kept, sent_kept}
use Rattle.store_group.specs.Answers.{AnswersAt, AnswersFirst, AnswersRound, AskedUpTo, FailsAll, AnswerSays, times_for}
use Rattle.store_group.specs.Groups.{CountsByAnswer, Grouped, active_store, all_tell, as_store_by, both_true, group_faults, told_or_all, no_chunks, of_one, of_store, said_of, said_of_store, said_steady, steady_of, steady_store}
use Rattle.store_group.specs.declared.answer.Answer.{Answer}
use Rattle.store_group.specs.declared.answer.Answer.TheVariants as answer
use Rattle.store_group.specs.declared.answer.Question.{Question}
use Rattle.store_group.specs.declared.answer.Question.TheVariants as question

-- ---- which store answers

module _ {S : Type 0} (store : StoreWords S) where
  -- none of them has failed
  abbrev pub AreQuiet : List S → Type 0
  AreQuiet = AllByRecursion (λ s. store.faults s ≡ 0)

  pub all_quiet : ((s : S) → store.faults s ≡ 0) → (xs : List S) → AreQuiet xs
  all_quiet sure [] = tt
  all_quiet sure (x ∷ xs) = (sure x, all_quiet sure xs)

  quiet_behind : (k : ℕ) (xs : List S) → AreQuiet xs → AreQuiet (drop k xs)
  quiet_behind zero xs quiet = quiet
  quiet_behind (suc k) [] quiet = quiet
  quiet_behind (suc k) (x ∷ xs) quiet = quiet_behind k xs quiet.1

  -- those that all tell haven't, where such stores never fail
  pub told_quiet : (told : Bool) → ((s : S) → IsTrue told → IsSome (store.holds s) → store.faults s ≡ 0) → (xs : List S) → IsTrue told → IsTrue (all_tell store.holds xs) → AreQuiet xs
  told_quiet told steady [] t tell = tt
  told_quiet told steady (x ∷ xs) t tell =
      let both = both_true (is_some (store.holds x)) (all_tell store.holds xs) tell in
      (steady x t both.0, told_quiet told steady xs t both.1)

  calm : (r : ℕ) (s t : S) → store.faults t ≡ 0 → FailsAll store r s t → ⊥
  calm r s t none fails = absurd (omega (arith, fails, none))

  none_behind : (r k : ℕ) (old : List S) → k < length old → AllZip (FailsAll store r) (drop k old) [] → ⊥
  none_behind r zero [] less h = absurd (omega (arith, less))
  none_behind r (suc k) [] less h = absurd (omega (arith, less))
  none_behind r zero (s ∷ old) less h = h
  none_behind r (suc k) (s ∷ old) less h = none_behind r k old (omega (arith, less)) h

  -- not all of the stores from the one of number k on failed
  pub none_fails : (r k : ℕ) (old xs : List S) → AreQuiet xs → k < length old → AllZip (FailsAll store r) (drop k old) (drop k xs) → ⊥
  none_fails r zero [] xs quiet less h = absurd (omega (arith, less))
  none_fails r (suc k) [] xs quiet less h = absurd (omega (arith, less))
  none_fails r zero (s ∷ old) [] quiet less h = h
  none_fails r zero (s ∷ old) (x ∷ xs) quiet less h = calm r s x quiet.0 h.0
  none_fails r (suc k) (s ∷ old) [] quiet less h = none_behind r k old (omega (arith, less)) h
  none_fails r (suc k) (s ∷ old) (x ∷ xs) quiet less h = none_fails r k old xs quiet.1 (omega (arith, less)) h

  module _ (q : Question) (r : ℕ) (id out : List ℕ) (a : Answer) where
    first_answers : (k : ℕ) (old xs : List S) → AreQuiet xs → AnswersFirst store q r id k old xs out a → k ≡ 0
    first_answers zero old xs quiet h = refl
    first_answers (suc k) [] xs quiet h = absurd h
    first_answers (suc k) (s ∷ old) [] quiet h = absurd h
    first_answers (suc k) (s ∷ old) (x ∷ xs) quiet h = absurd (calm r s x quiet.0 h.0)

    -- the active store answers
    pub active_answers : (active n : ℕ) (old xs : List S) → AreQuiet xs → active < length old → AnswersRound store q r id active n old xs out a → n ≡ active
    active_answers active n old xs quiet inside (inl h) = omega (arith, h.1, first_answers h.0 (drop active old) (drop active xs) (quiet_behind active xs quiet) h.3)
    active_answers active n old xs quiet inside (inr h) = absurd (none_fails r active old xs quiet inside h.0)

-- ---- what it says

module _ {S : Type 0} (store : StoreWords S) (q : Question) (id out : List ℕ) (a : Answer) where
  -- the store of this number, before and after it answered
  pub record AnsweredBy (k : ℕ) (old xs : List S) : Type 0 where
    pub before : S
    pub after : S
    pub was : slice_get old k ≡ Some before
    pub is : slice_get xs k ≡ Some after
    pub says : AnswerSays store q id before after out a

  answered_by : (k : ℕ) (old xs : List S) → AnswersAt store q id k old xs out a → AnsweredBy k old xs
  answered_by zero [] xs h = absurd h
  answered_by (suc k) [] xs h = absurd h
  answered_by zero (s ∷ old) [] h = absurd h
  answered_by (suc k) (s ∷ old) [] h = absurd h
  answered_by zero (s ∷ old) (x ∷ xs) h = record { before = s; after = x; was = refl; is = refl; says = h.0 }
  answered_by (suc k) (s ∷ old) (x ∷ xs) h =
      let rest = answered_by k old xs h in
      record { before = rest.before; after = rest.after; was = rest.was; is = rest.is; says = rest.says }

-- what one has said of an id, and by a number, another has said too, by a number of its own
pub record SaysToo (id : List ℕ) (a : Said) (j : ℕ) (b : Said) (k : ℕ) : Type 0 where
  pub denied : a.denied id → b.denied id
  pub shown : (x : List ℕ) → a.shown id x → b.shown id x
  pub longer : (n : ℕ) → a.longer id n → b.longer id n
  pub shown_by : (x : List ℕ) → a.shown id x → a.shown_by j id x → b.shown_by k id x
  pub longer_by : (n : ℕ) → a.longer id n → a.longer_by j id n → b.longer_by k id n

too_itself : (id : List ℕ) (a : Said) (j : ℕ) → SaysToo id a j a j
too_itself id a j = record { denied = λ h. h; shown = λ x h. h; longer = λ n h. h; shown_by = λ x h by. by; longer_by = λ n h by. by }

too_alone : (id : List ℕ) (a : Said) (j k : ℕ) → k ≡ 0 → SaysToo id a j (alone a) k
too_alone id a j k first = record { denied = λ h. h; shown = λ x h. h; longer = λ n h. h; shown_by = λ x h by. (first, h); longer_by = λ n h by. (first, h) }

alone_kept : (a b : Said) (x : List ℕ) → KeepsOf a b x → KeepsOf (alone a) (alone b) x
alone_kept a b x keeps = keeps_alone a b x keeps.denied keeps.shown keeps.longer keeps.taken

-- what one store says, another one does that holds the same and has said the same
module _ {S G : Type 0} (store : StoreWords S) (group : StoreWords G) (id out : List ℕ) (s t : S) (g h : G) (holds : store.holds s ≡ group.holds g) (said : SaysToo id (store.said t) (store.giver t) (group.said h) (group.giver h)) (memory : IsTrue store.may_lack_memory → IsTrue group.may_lack_memory) where
  held : (P : Map (List ℕ) → Type 0) → IfSome (store.holds s) P → IfSome (group.holds g) P
  held P x = subst (λ (o : Option (Map (List ℕ))). IfSome o P) holds x

  pub says_too : (q : Question) (a : Answer) → AnswerSays store q id s t out a → AnswerSays group q id g h out a
  says_too question.Get (answer.Given n) x = (x.0, said.shown (take n out) x.1, held (λ m. m id ≡ Some (take n out)) x.2, said.shown_by (take n out) x.1 x.3)
  says_too question.Get answer.Missing x = (said.denied x.0, held (λ m. m id ≡ None) x.1)
  says_too question.Get answer.Longer x = (said.longer (length out) x.0, held (λ m. (b : List ℕ) × (m id ≡ Some b) × (length out < length b)) x.1, said.longer_by (length out) x.0 x.2)
  says_too question.Get (answer.There has) x = x
  says_too question.Get answer.Failed x = tt
  says_too question.Get answer.Memory x = memory x
  says_too question.Has (answer.There has) x = (λ no. said.denied (x.0 no), held (λ m. has ≡ is_some (m id)) x.1)
  says_too question.Has (answer.Given n) x = x
  says_too question.Has answer.Missing x = x
  says_too question.Has answer.Longer x = x
  says_too question.Has answer.Failed x = tt
  says_too question.Has answer.Memory x = memory x

-- ---- how often it was asked

-- R holds of two stores, or there is neither
abbrev Both : {S : Type 0} → (S → S → Type 0) → Option S → Option S → Type 0
Both R None None = Unit {0}
Both R (Some s) (Some t) = R s t
Both R o p = ⊥

module _ {S : Type 0} (R : S → S → Type 0) where
  both_at : (k : ℕ) (old xs : List S) → AllZip R old xs → Both R (slice_get old k) (slice_get xs k)
  both_at k [] [] h = tt
  both_at k [] (x ∷ xs) h = absurd h
  both_at k (s ∷ old) [] h = absurd h
  both_at zero (s ∷ old) (x ∷ xs) h = h.0
  both_at (suc k) (s ∷ old) (x ∷ xs) h = both_at k old xs h.1

  both_steady : (unfailing : Bool) (n : ℕ) (old xs : List S) → AllZip R old xs → Both R (steady_of unfailing n old) (steady_of unfailing n xs)
  both_steady false n old xs h = tt
  both_steady true (suc n) old xs h = tt
  both_steady true zero [] [] h = tt
  both_steady true zero [] (x ∷ xs) h = absurd h
  both_steady true zero (s ∷ old) [] h = absurd h
  both_steady true zero (s ∷ old) (x ∷ xs) h = h.0

  -- what holds of both, where it holds of what is seen where there is none
  both_seen : {X : Type 0} (P : X → X → Type 0) (none then : X) (f : S → X) → P none then → ((s t : S) → R s t → P (f s) (f t)) → (o p : Option S) → Both R o p → P (of_store none f o) (of_store then f p)
  both_seen P none then f first keeps None None h = first
  both_seen P none then f first keeps None (Some t) h = absurd h
  both_seen P none then f first keeps (Some s) None h = absurd h
  both_seen P none then f first keeps (Some s) (Some t) h = keeps s t h

  pub both_said : (said : S → Said) (x : List ℕ) (old xs : List S) → KeepsOf (said_of said old) (said_of said xs) x → ((s t : S) → R s t → KeepsOf (said s) (said t) x) → (o p : Option S) → Both R o p → KeepsOf (said_steady said old o) (said_steady said xs p) x
  both_said said x old xs first keeps None None h = first
  both_said said x old xs first keeps None (Some t) h = absurd h
  both_said said x old xs first keeps (Some s) None h = absurd h
  both_said said x old xs first keeps (Some s) (Some t) h = alone_kept (said s) (said t) x (keeps s t h)

  -- they all tell as they did
  pub tell_still : {X : Type 0} (tells : S → Option X) → ((s t : S) → R s t → tells t ≡ tells s) → (old xs : List S) → AllZip R old xs → all_tell tells xs ≡ all_tell tells old
  tell_still tells keeps [] [] h = refl
  tell_still tells keeps [] (x ∷ xs) h = absurd h
  tell_still tells keeps (s ∷ old) [] h = absurd h
  tell_still tells keeps (s ∷ old) (x ∷ xs) h = λ i. is_some (keeps s x h.0 i) && tell_still tells keeps old xs h.1 i

  seen_kept : {X : Type 0} (none : X) (f : S → X) → ((s t : S) → R s t → f t ≡ f s) → (o p : Option S) → Both R o p → of_store none f p ≡ of_store none f o
  seen_kept none f keeps None None h = refl
  seen_kept none f keeps None (Some t) h = absurd h
  seen_kept none f keeps (Some s) None h = absurd h
  seen_kept none f keeps (Some s) (Some t) h = keeps s t h

  module _ (said : S → Said) (keeps : (s t : S) → R s t → (x : List ℕ) → KeepsOf (said s) (said t) x) where
    told_kept : (o p : Option S) → Both R o p → (x : List ℕ) → KeepsOf (said_of_store said o) (said_of_store said p) x
    told_kept None None h x = keeps_itself (said_by (Some no_chunks)) x
    told_kept None (Some t) h x = absurd h
    told_kept (Some s) None h x = absurd h
    told_kept (Some s) (Some t) h x = alone_kept (said s) (said t) x (keeps s t h x)

  module _ (count : S → List ℕ → ℕ) (x : List ℕ) where
    once_more : ((s t : S) → R s t → count t x ≤ count s x + 1) → (o p : Option S) → Both R o p → of_store (λ id. 0) count p x ≤ of_store (λ id. 0) count o x + 1
    once_more more None None h = omega arith
    once_more more None (Some t) h = absurd h
    once_more more (Some s) None h = absurd h
    once_more more (Some s) (Some t) h = more s t h

    no_fewer : ((s t : S) → R s t → count s x ≤ count t x) → (o p : Option S) → Both R o p → of_store (λ id. 0) count o x ≤ of_store (λ id. 0) count p x
    no_fewer less None None h = omega arith
    no_fewer less None (Some t) h = absurd h
    no_fewer less (Some s) None h = absurd h
    no_fewer less (Some s) (Some t) h = less s t h

    as_often : ((s t : S) → R s t → count t x ≡ count s x) → (o p : Option S) → Both R o p → of_store (λ id. 0) count p x ≡ of_store (λ id. 0) count o x
    as_often same None None h = refl
    as_often same None (Some t) h = absurd h
    as_often same (Some s) None h = absurd h
    as_often same (Some s) (Some t) h = same s t h

module _ {S : Type 0} (store : StoreWords S) (sure : (s : S) → store.faults s ≡ 0) (id : List ℕ) (g h : Grouped S) (same : h.retries ≡ g.retries) (stays : h.active ≡ g.active) where
  abbrev Turn : Question → S → S → Type 0
  Turn q = AskedUpTo store q (g.retries + 1) id

  -- a store that doesn't fail is asked once
  turn_once : (q : Question) (s t : S) → Turn q s t → times_for store q t id ≤ times_for store q s id + 1
  turn_once q s t turn = omega (arith, turn.paid, sure s, sure t)

  pub active_asked : (q : Question) → AllZip (AskedUpTo store q (g.retries + 1) id) g.stores h.stores → AskedUpTo (as_store_by true store) q 1 id g h
  active_asked question.Get turns =
      let o : Option S = active_store g in
      let p : Option S = active_store h in
      let both : Both (Turn question.Get) o p = subst (λ (n : ℕ). Both (Turn question.Get) o (slice_get h.stores n)) (sym stays) (both_at (Turn question.Get) g.active g.stores h.stores turns) in
      let once : of_store (λ x. 0) store.asked p id ≤ of_store (λ x. 0) store.asked o id + 1 = once_more (Turn question.Get) store.asked id (turn_once question.Get) o p both in
      record {
        holds = seen_kept (Turn question.Get) (Some no_chunks) store.holds (λ s t u. u.holds) o p both;
        members = λ i. told_or_all (seen_kept (Turn question.Get) (Some no_chunks) store.holds (λ s t u. u.holds) o p both i) (maps_kept (Turn question.Get) store.members (λ s t u. u.members) g.stores h.stores turns i);
        folder = seen_kept (Turn question.Get) None store.folder (λ s t u. u.folder) o p both;
        folders = each_kept (Turn question.Get) store.folder (λ s t u. u.folder) g.stores h.stores turns;
        place = group_place_kept store id g h same question.Get turns;
        said = told_kept (Turn question.Get) store.said (λ s t u. u.said) o p both;
        sends = sent_kept store question.Get (g.retries + 1) id g.stores h.stores turns;
        this = once;
        no_less = no_fewer (Turn question.Get) store.asked id (λ s t u. u.no_less) o p both;
        others = λ x apart. as_often (Turn question.Get) store.asked x (λ s t u. u.others x apart) o p both;
        stays = seen_kept (Turn question.Get) (λ x. 0) store.queried (λ s t u. u.stays) o p both;
        faults = omega arith;
        paid = omega (arith, once);
      }
  active_asked question.Has turns =
      let o : Option S = active_store g in
      let p : Option S = active_store h in
      let both : Both (Turn question.Has) o p = subst (λ (n : ℕ). Both (Turn question.Has) o (slice_get h.stores n)) (sym stays) (both_at (Turn question.Has) g.active g.stores h.stores turns) in
      let once : of_store (λ x. 0) store.queried p id ≤ of_store (λ x. 0) store.queried o id + 1 = once_more (Turn question.Has) store.queried id (turn_once question.Has) o p both in
      record {
        holds = seen_kept (Turn question.Has) (Some no_chunks) store.holds (λ s t u. u.holds) o p both;
        members = λ i. told_or_all (seen_kept (Turn question.Has) (Some no_chunks) store.holds (λ s t u. u.holds) o p both i) (maps_kept (Turn question.Has) store.members (λ s t u. u.members) g.stores h.stores turns i);
        folder = seen_kept (Turn question.Has) None store.folder (λ s t u. u.folder) o p both;
        folders = each_kept (Turn question.Has) store.folder (λ s t u. u.folder) g.stores h.stores turns;
        place = group_place_kept store id g h same question.Has turns;
        said = told_kept (Turn question.Has) store.said (λ s t u. u.said) o p both;
        sends = sent_kept store question.Has (g.retries + 1) id g.stores h.stores turns;
        this = once;
        no_less = no_fewer (Turn question.Has) store.queried id (λ s t u. u.no_less) o p both;
        others = λ x apart. as_often (Turn question.Has) store.queried x (λ s t u. u.others x apart) o p both;
        stays = seen_kept (Turn question.Has) (λ x. 0) store.asked (λ s t u. u.stays) o p both;
        faults = omega arith;
        paid = omega (arith, once);
      }

-- ---- where those that tell never fail

module _ {S : Type 0} (store : StoreWords S) (q : Question) (id out : List ℕ) (a : Answer) (retries failed tries count : ℕ) where
  abbrev was_so : ℕ → List S → Grouped S
  was_so active stores = record { stores = stores; active = active; retries = retries; failed = failed }

  abbrev is_so : ℕ → List S → Grouped S
  is_so active stores = record { stores = stores; active = active; retries = tries; failed = count }

  -- what the store says that answered, the group says, where the active store is the same if none fails
  says_of : (unfailing : Bool) (n k : ℕ) (old xs : List S) → (IsTrue unfailing → k ≡ n) → AnswersAt store q id k old xs out a → AnswerSays (as_steady unfailing store) q id (was_so n old) (is_so k xs) out a
  says_of false n k old xs stays at = group_says store id out (was_so n old) (is_so k xs) q a at
  says_of true (suc n) zero old xs stays at = absurd (omega (arith, stays refl))
  says_of true zero (suc k) old xs stays at = absurd (omega (arith, stays refl))
  says_of true (suc n) (suc k) old xs stays at =
      let was = was_so (suc n) old in
      let is = is_so (suc k) xs in
      says_too (as_steady false store) (as_steady true store) id out was is was is refl (too_itself id ((as_steady false store).said is) (suc k)) (λ t. t) q a (group_says store id out was is q a at)
  says_of true zero zero [] xs stays at = absurd at
  says_of true zero zero (s ∷ old) [] stays at = absurd at
  says_of true zero zero (s ∷ old) (x ∷ xs) stays at =
      says_too store (as_steady true store) id out s x (was_so zero (s ∷ old)) (is_so zero (x ∷ xs)) refl (too_alone id (store.said x) (store.giver x) 0 refl) (λ t. t) q a at.0

module _ {S : Type 0} (store : StoreWords S) (steady : (s : S) → IsTrue store.told_never_fail → IsSome (store.holds s) → store.faults s ≡ 0) (id : List ℕ) (g h : Grouped S) where
  abbrev Turning : Question → S → S → Type 0
  Turning q = AskedUpTo store q (g.retries + 1) id

  -- none of its stores fails
  abbrev IsSteady : Grouped S → Bool
  IsSteady x = store.told_never_fail && all_tell store.holds x.stores

  steady_still : (q : Question) → AllZip (Turning q) g.stores h.stores → IsSteady h ≡ IsSteady g
  steady_still q turns = ap (λ (b : Bool). store.told_never_fail && b) (tell_still (Turning q) store.holds (λ s t u. u.holds) g.stores h.stores turns)

  steady_quiet : (q : Question) → AllZip (Turning q) g.stores h.stores → IsTrue (IsSteady g) → AreQuiet store h.stores
  steady_quiet q turns t =
      let both = both_true store.told_never_fail (all_tell store.holds h.stores) (subst IsTrue (sym (steady_still q turns)) t) in
      told_quiet store store.told_never_fail steady h.stores both.0 both.1

  both_of : (q : Question) (turns : AllZip (Turning q) g.stores h.stores) → (IsTrue (IsSteady g) → h.active ≡ g.active) → (was is : Bool) → was ≡ IsSteady g → is ≡ was → Both (Turning q) (steady_of was g.active g.stores) (steady_of is h.active h.stores)
  both_of q turns stays false false at same = tt
  both_of q turns stays false true at same = absurd (cc)
  both_of q turns stays true false at same = absurd (cc)
  both_of q turns stays true true at same =
      subst (λ (n : ℕ). Both (Turning q) (steady_of true g.active g.stores) (steady_of true n h.stores)) (sym (stays (sym at))) (both_steady (Turning q) true g.active g.stores h.stores turns)

  -- what the group tells is kept, where what any of its stores tells is, and the active store is the same if none fails
  record Keeps : Type 0 where
    holds : (as_store_by false store).holds h ≡ (as_store_by false store).holds g
    members : (as_store_by false store).members h ≡ (as_store_by false store).members g
    folder : (as_store_by false store).folder h ≡ (as_store_by false store).folder g
    said : (x : List ℕ) → KeepsOf ((as_store_by false store).said g) ((as_store_by false store).said h) x

  steady_keeps : (q : Question) → AllZip (Turning q) g.stores h.stores → (IsTrue (IsSteady g) → h.active ≡ g.active) → AskedUpTo (as_steady false store) q 1 id g h → Keeps
  steady_keeps q turns stays plain =
      let o : Option S = steady_store store.told_never_fail store.holds g in
      let p : Option S = steady_store store.told_never_fail store.holds h in
      let both : Both (Turning q) o p = both_of q turns stays (IsSteady g) (IsSteady h) refl (steady_still q turns) in
      let held : (as_store_by false store).holds h ≡ (as_store_by false store).holds g = both_seen (Turning q) (λ x y. y ≡ x) (of_one store.holds g.stores) (of_one store.holds h.stores) store.holds plain.holds (λ s t u. u.holds) o p both in
      record {
        holds = held;
        members = λ i. told_or_all (held i) (maps_kept (Turning q) store.members (λ s t u. u.members) g.stores h.stores turns i);
        folder = both_seen (Turning q) (λ x y. y ≡ x) (of_one store.folder g.stores) (of_one store.folder h.stores) store.folder plain.folder (λ s t u. u.folder) o p both;
        said = λ x. both_said (Turning q) store.said x g.stores h.stores (plain.said x) (λ s t u. u.said x) o p both;
      }

  asked_so : (q : Question) → Keeps → AskedUpTo (as_steady false store) q 1 id g h → AskedUpTo (as_store_by false store) q 1 id g h
  asked_so question.Get k a = record { holds = k.holds; members = k.members; folder = k.folder; folders = a.folders; place = a.place; said = k.said; sends = a.sends; this = a.this; no_less = a.no_less; others = a.others; stays = a.stays; faults = a.faults; paid = a.paid }
  asked_so question.Has k a = record { holds = k.holds; members = k.members; folder = k.folder; folders = a.folders; place = a.place; said = k.said; sends = a.sends; this = a.this; no_less = a.no_less; others = a.others; stays = a.stays; faults = a.faults; paid = a.paid }

  -- the group was asked, where the active store is the same if none fails
  steady_asked : (same : h.retries ≡ g.retries) (counts : g.failed ≤ h.failed) (q : Question) → AllZip (Turning q) g.stores h.stores → (IsTrue (IsSteady g) → h.active ≡ g.active) → AskedUpTo (as_store_by false store) q 1 id g h
  steady_asked same counts q turns stays =
      let plain = group_asked store id g h same counts q turns in
      asked_so q (steady_keeps q turns stays plain) plain

  module _ (q : Question) (out : List ℕ) (a : Answer) (inside : g.active < length g.stores) (turns : AllZip (Turning q) g.stores h.stores) (round : AnswersRound store q g.retries id g.active h.active g.stores h.stores out a) where
    steady_stays : IsTrue (IsSteady g) → h.active ≡ g.active
    steady_stays t = active_answers store q g.retries id out a g.active h.active g.stores h.stores (steady_quiet q turns t) inside round

    steady_says : AnswersAt store q id h.active g.stores h.stores out a → AnswerSays (as_store_by false store) q id g h out a
    steady_says at =
        let said = ap (λ (b : Bool). said_steady store.said h.stores (steady_of b h.active h.stores)) (sym (steady_still q turns)) in
        let was : Said = (as_steady (IsSteady g) store).said h in
        says_too (as_steady (IsSteady g) store) (as_store_by false store) id out g h g h refl (subst (λ d. SaysToo id was h.active d h.active) said (too_itself id was h.active)) (λ t. t) q a
        (says_of store q id out a g.retries g.failed h.retries h.failed (IsSteady g) g.active h.active g.stores h.stores steady_stays at)

-- ---- by whether its stores never fail, or those that tell never do

module _ {S : Type 0} (store : StoreWords S) (q : Question) (id out : List ℕ) (g h : Grouped S) (inside : g.active < length g.stores) where
  abbrev Round : Answer → Type 0
  Round a = AnswersRound store q g.retries id g.active h.active g.stores h.stores out a

  abbrev At : Answer → Type 0
  At a = AnswersAt store q id h.active g.stores h.stores out a

  pub says_as : ((s : S) → IsTrue store.told_never_fail → IsSome (store.holds s) → store.faults s ≡ 0) → (b : Bool) → (IsTrue b → g.active ≡ 0) → ((s : S) → IsTrue b → store.faults s ≡ 0) → AllZip (AskedUpTo store q (g.retries + 1) id) g.stores h.stores → (a : Answer) → At a → Round a
      → AnswerSays (as_store_by b store) q id g h out a
  says_as steady false first sure turns a at round = steady_says store steady id g h q out a inside turns round at
  says_as steady true first sure turns a at round =
      let stays : h.active ≡ g.active = active_answers store q g.retries id out a g.active h.active g.stores h.stores (all_quiet store (λ s. sure s refl) h.stores) inside round in
      let by = answered_by store q id out a h.active g.stores h.stores at in
      let was : slice_get g.stores g.active ≡ Some by.before = subst (λ (n : ℕ). slice_get g.stores n ≡ Some by.before) stays by.was in
      says_too store (as_store_by true store) id out by.before by.after g h
      (ap (of_store (Some no_chunks) store.holds) (sym was)) (subst (λ d. SaysToo id (store.said by.after) (store.giver by.after) d h.active) (ap (said_of_store store.said) (sym by.is)) (too_alone id (store.said by.after) (store.giver by.after) h.active (stays ∙ first refl))) (λ t. t) q a by.says

  -- a group whose stores never fail stays at its first
  pub stays_first : (b : Bool) → (IsTrue b → g.active ≡ 0) → ((s : S) → IsTrue b → store.faults s ≡ 0) → (a : Answer) → Round a → IsTrue b → h.active ≡ 0
  stays_first false first sure a round t = absurd (false≢true t)
  stays_first true first sure a round t =
      active_answers store q g.retries id out a g.active h.active g.stores h.stores (all_quiet store (λ s. sure s refl) h.stores) inside round ∙ first refl

  -- the group was asked, and one of its stores answered
  pub asked_as : (same : h.retries ≡ g.retries) (counts : g.failed ≤ h.failed) → ((s : S) → IsTrue store.told_never_fail → IsSome (store.holds s) → store.faults s ≡ 0) → (b : Bool) → ((s : S) → IsTrue b → store.faults s ≡ 0)
      → AllZip (AskedUpTo store q (g.retries + 1) id) g.stores h.stores → (a : Answer) → Round a → AskedUpTo (as_store_by b store) q 1 id g h
  asked_as same counts steady false sure turns a round = steady_asked store steady id g h same counts q turns (steady_stays store steady id g h q out a inside turns round)
  asked_as same counts steady true sure turns a round =
      active_asked store (λ s. sure s refl) id g h same (active_answers store q g.retries id out a g.active h.active g.stores h.stores (all_quiet store (λ s. sure s refl) h.stores) inside round) q turns

  -- the group was asked, and the active store is the same
  pub asked_still : (same : h.retries ≡ g.retries) (counts : g.failed ≤ h.failed) → h.active ≡ g.active → ((s : S) → IsTrue store.told_never_fail → IsSome (store.holds s) → store.faults s ≡ 0) → (b : Bool) → ((s : S) → IsTrue b → store.faults s ≡ 0)
      → AllZip (AskedUpTo store q (g.retries + 1) id) g.stores h.stores → AskedUpTo (as_store_by b store) q 1 id g h
  asked_still same counts stays steady false sure turns = steady_asked store steady id g h same counts q turns (λ t. stays)
  asked_still same counts stays steady true sure turns = active_asked store (λ s. sure s refl) id g h same stays q turns

  faults_same : (b : Bool) → h.failed ≡ g.failed → group_faults b h ≡ group_faults b g
  faults_same false same = same
  faults_same true same = refl

  pub counts_answered : (b : Bool) (a : Answer) → h.failed ≡ g.failed → At a → CountsByAnswer a (group_faults b g) (group_faults b h)
  counts_answered b a same at = record {
    rose = λ failed. absurd (answers_unfailed store q id out a h.active g.stores h.stores at failed);
    stayed = λ not. faults_same b same;
  }

  rose_as : (b : Bool) → ((s : S) → IsTrue b → store.faults s ≡ 0) → AllZip (FailsAll store g.retries) g.stores h.stores → Rose g.failed h.failed → Rose (group_faults b g) (group_faults b h)
  rose_as false sure fails rose = rose
  rose_as true sure fails rose = absurd (none_fails store g.retries 0 g.stores h.stores (all_quiet store (λ s. sure s refl) h.stores) (omega (arith, inside)) fails)

  pub counts_failed : (b : Bool) → ((s : S) → IsTrue b → store.faults s ≡ 0) → AllZip (FailsAll store g.retries) g.stores h.stores → Rose g.failed h.failed → CountsByAnswer answer.Failed (group_faults b g) (group_faults b h)
  counts_failed b sure fails rose = record { rose = λ is. rose_as b sure fails rose; stayed = λ not. absurd (not refl) }

-- a count that was raised by one
pub rose_one : (a b : ℕ) → b ≡ raised a 1 → Rose a b
rose_one a b is = go (cases_lt a (2 ^ 64 - 1)) where
  go : (a < 2 ^ 64 - 1) ⊎ (2 ^ 64 - 1 ≤ a) → Rose a b
  go (inl less) = inl (omega (arith, is, less))
  go (inr more) = inr (omega (arith, is, more))
