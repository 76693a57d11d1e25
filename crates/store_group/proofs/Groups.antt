-- What a group keeps and counts as one store.
use Rattle.std.proofs.Common.{◌≡◌, ◌≢◌, inl, inr, ℕ, zero, suc, ◌+◌, ◌*◌, ◌/◌, ◌≤◌, ◌<◌, List, [], ◌∷◌, ◌++◌, length, map, max, Option, Some, None, IfSome, IsTrue, Bool, false, is_some, take, drop, refl, sym, subst, ap, ◌∙◌, arith}
use Rattle.std.specs.List.{AllByRecursion, AllZip}
use Rattle.std.proofs.Math.Nat.{add-div_right, add-mul, div-mul-le_self, mod-lt, mul-le-mul_right}
use Rattle.std.proofs.Math.Seq.{drop-append_seam, take-append_seam}
use Rattle.std.proofs.lemmas.Nat.{div-add-mod', le-div}
use Rattle.chunk_store.proofs.Sends.{sends_still}
use Rattle.chunk_store.specs.Asks.{Sends, sends_nothing}
use Rattle.chunk_store.specs.Members.{maps_of, told_together}
use Rattle.chunk_store.specs.Said.{AskedOnce, KeepsOf}
use Rattle.chunk_store.specs.declared.store.Store.{Ghosts as StoreWords}
use Rattle.dsy_base.specs.Counts.{raised}
use Rattle.dsy_base.specs.Maps.{Map}
use Rattle.store_group.specs.Answers.{AnswersAt, AnswersFirst, AnswersRound, AskedUpTo, FailsAll, AnswerSays, ask_for, times_for, times_other}
use Rattle.store_group.specs.Groups.{AtStore, Grouped, as_store_by, SomeStore, group_count, group_place, told_or_all, most, of_one, of_store, places_of, questions_of, said_of, said_steady, sent_of, steady_of}
use Rattle.store_group.specs.declared.answer.Answer.{Answer}
use Rattle.store_group.specs.declared.answer.Answer.TheVariants as answer
use Rattle.store_group.specs.declared.answer.Question.{Question}
use Rattle.store_group.specs.declared.answer.Question.TheVariants as question

-- ---- lists of stores in two parts

pub zip_append : {S : Type 0} (R : S → S → Type 0) (old bs xs ys : List S) → AllZip R old xs → AllZip R bs ys → AllZip R (old ++ bs) (xs ++ ys)
zip_append R [] bs [] ys first then = then
zip_append R [] bs (x ∷ xs) ys first then = absurd first
zip_append R (a ∷ old) bs [] ys first then = absurd first
zip_append R (a ∷ old) bs (x ∷ xs) ys first then = (first.0, zip_append R old bs xs ys first.1 then)

pub zip_parts : {S : Type 0} (R : S → S → Type 0) (whole old bs xs ys : List S) → whole ≡ old ++ bs → AllZip R old xs → AllZip R bs ys → AllZip R whole (xs ++ ys)
zip_parts {S} R whole old bs xs ys is first then = subst (λ (l : List S). AllZip R l (xs ++ ys)) (sym is) (zip_append R old bs xs ys first then)

module _ {S : Type 0} (store : StoreWords S) (q : Question) (id : List ℕ) (out : List ℕ) (a : Answer) where
  -- a store behind others answered
  pub answers_behind : (k n : ℕ) (old bs xs ys : List S) → length old ≡ length xs → n ≡ length old + k → AnswersAt store q id k bs ys out a
      → AnswersAt store q id n (old ++ bs) (xs ++ ys) out a
  answers_behind k n [] bs [] ys same is h = subst (λ m. AnswersAt store q id m bs ys out a) (omega (arith, is)) h
  answers_behind k n [] bs (x ∷ xs) ys same is h = absurd (omega (arith, same))
  answers_behind k n (s ∷ old) bs [] ys same is h = absurd (omega (arith, same))
  answers_behind k zero (s ∷ old) bs (x ∷ xs) ys same is h = absurd (omega (arith, is))
  answers_behind k (suc n) (s ∷ old) bs (x ∷ xs) ys same is h = answers_behind k n old bs xs ys (omega (arith, same)) (omega (arith, is)) h

  -- the same of a slice in two parts
  pub answers_second : (k n : ℕ) (whole old bs ys : List S) → whole ≡ old ++ bs → n ≡ length old + k → AnswersAt store q id k bs ys out a
      → AnswersAt store q id n whole (old ++ ys) out a
  answers_second k n whole old bs ys is number h = subst (λ (l : List S). AnswersAt store q id n l (old ++ ys) out a) (sym is) (answers_behind k n old bs old ys refl number h)

  -- a store that answered didn't fail
  pub answers_unfailed : (k : ℕ) (old xs : List S) → AnswersAt store q id k old xs out a → a ≢ answer.Failed
  answers_unfailed zero [] xs h = absurd h
  answers_unfailed (suc k) [] xs h = absurd h
  answers_unfailed zero (s ∷ old) [] h = absurd h
  answers_unfailed (suc k) (s ∷ old) [] h = absurd h
  answers_unfailed zero (s ∷ old) (x ∷ xs) h = h.1
  answers_unfailed (suc k) (s ∷ old) (x ∷ xs) h = answers_unfailed k old xs h

  -- what the store that answered is like, some store is like
  pub some_answers : (P : S → Type 0) → ((s t : S) → AnswerSays store q id s t out a → P t) → (k : ℕ) (old xs : List S) → AnswersAt store q id k old xs out a → SomeStore P xs
  some_answers P f zero [] xs h = absurd h
  some_answers P f (suc k) [] xs h = absurd h
  some_answers P f zero (s ∷ old) [] h = absurd h
  some_answers P f (suc k) (s ∷ old) [] h = absurd h
  some_answers P f zero (s ∷ old) (x ∷ xs) h = inl (f s x h.0)
  some_answers P f (suc k) (s ∷ old) (x ∷ xs) h = inr (some_answers P f k old xs h)

  -- what holds of the store that answered holds of the store of its number
  pub at_answers : (P : S → Type 0) → ((s t : S) → AnswerSays store q id s t out a → P t) → (k : ℕ) (old xs : List S) → AnswersAt store q id k old xs out a → AtStore P k xs
  at_answers P f zero [] xs h = absurd h
  at_answers P f (suc k) [] xs h = absurd h
  at_answers P f zero (s ∷ old) [] h = absurd h
  at_answers P f (suc k) (s ∷ old) [] h = absurd h
  at_answers P f zero (s ∷ old) (x ∷ xs) h = f s x h.0
  at_answers P f (suc k) (s ∷ old) (x ∷ xs) h = at_answers P f k old xs h

  -- what holds of what it tells holds of what the group tells
  pub one_answers : {X : Type 0} (tells : S → Option X) (P : X → Type 0) → ((s t : S) → AnswerSays store q id s t out a → IfSome (tells s) P)
      → (k : ℕ) (old xs : List S) → AnswersAt store q id k old xs out a → IfSome (of_one tells old) P
  one_answers tells P f k [] xs h = tt
  one_answers tells P f zero (s ∷ []) [] h = absurd h
  one_answers tells P f (suc k) (s ∷ []) [] h = absurd h
  one_answers tells P f zero (s ∷ []) (x ∷ xs) h = f s x h.0
  one_answers tells P f (suc zero) (s ∷ []) (x ∷ xs) h = absurd h
  one_answers tells P f (suc (suc k)) (s ∷ []) (x ∷ xs) h = absurd h
  one_answers tells P f k (s ∷ t ∷ old) xs h = tt

module _ {S : Type 0} (store : StoreWords S) (q : Question) (id : List ℕ) (out : List ℕ) where
  -- a store before others answered
  pub answers_before : (b : Answer) (k : ℕ) (old bs xs ys : List S) → AnswersAt store q id k old xs out b → AnswersAt store q id k (old ++ bs) (xs ++ ys) out b
  answers_before b zero [] bs xs ys h = absurd h
  answers_before b (suc k) [] bs xs ys h = absurd h
  answers_before b zero (s ∷ old) bs [] ys h = absurd h
  answers_before b (suc k) (s ∷ old) bs [] ys h = absurd h
  answers_before b zero (s ∷ old) bs (x ∷ xs) ys h = h
  answers_before b (suc k) (s ∷ old) bs (x ∷ xs) ys h = answers_before b k old bs xs ys h

  -- the same of what may not have been answered
  pub may_answer_before : (o : Option (ℕ × Answer)) (old bs xs ys : List S) → IfSome o (λ p. AnswersAt store q id p.0 old xs out p.1)
      → IfSome o (λ p. AnswersAt store q id p.0 (old ++ bs) (xs ++ ys) out p.1)
  may_answer_before None old bs xs ys h = tt
  may_answer_before (Some p) old bs xs ys h = answers_before p.1 p.0 old bs xs ys h

  pub answers_first : (o : Option (ℕ × Answer)) (whole old bs xs ys : List S) → whole ≡ old ++ bs
      → IfSome o (λ p. AnswersAt store q id p.0 old xs out p.1) → IfSome o (λ p. AnswersAt store q id p.0 whole (xs ++ ys) out p.1)
  answers_first o whole old bs xs ys is h =
      subst (λ (l : List S). IfSome o (λ p. AnswersAt store q id p.0 l (xs ++ ys) out p.1)) (sym is) (may_answer_before o old bs xs ys h)

  -- the first that didn't fail answered
  pub first_at : (r : ℕ) (a : Answer) (k : ℕ) (old xs : List S) → AnswersFirst store q r id k old xs out a → AnswersAt store q id k old xs out a
  first_at r a zero [] xs h = absurd h
  first_at r a (suc k) [] xs h = absurd h
  first_at r a zero (s ∷ old) [] h = absurd h
  first_at r a (suc k) (s ∷ old) [] h = absurd h
  first_at r a zero (s ∷ old) (x ∷ xs) h = (h.0, h.1)
  first_at r a (suc k) (s ∷ old) (x ∷ xs) h = first_at r a k old xs h.1

-- ---- a round, in two parts of a slice

module _ {S : Type 0} (store : StoreWords S) (q : Question) (r : ℕ) (id : List ℕ) (out : List ℕ) where
  take_front : (n : ℕ) (whole old bs : List S) → whole ≡ old ++ bs → length old ≡ n → take n whole ≡ old
  take_front n whole old bs is size = ap (λ (l : List S). take n l) is ∙ ap (λ (m : ℕ). take m (old ++ bs)) (sym size) ∙ take-append_seam old bs

  drop_front : (n : ℕ) (whole old bs : List S) → whole ≡ old ++ bs → length old ≡ n → drop n whole ≡ bs
  drop_front n whole old bs is size = ap (λ (l : List S). drop n l) is ∙ ap (λ (m : ℕ). drop m (old ++ bs)) (sym size) ∙ drop-append_seam old bs

  -- one of the second part answered
  pub round_second : (a : Answer) (active k n : ℕ) (whole old bs ys : List S) → whole ≡ old ++ bs → length old ≡ active → n ≡ active + k
      → AnswersFirst store q r id k bs ys out a → AnswersRound store q r id active n whole (old ++ ys) out a
  round_second a active k n whole old bs ys is size number first =
      inl (
        k,
        number,
        take_front active (old ++ ys) old ys refl size ∙ sym (take_front active whole old bs is size),
        subst (λ (l : List S). AnswersFirst store q r id k l (drop active (old ++ ys)) out a) (sym (drop_front active whole old bs is size))
            (subst (λ (l : List S). AnswersFirst store q r id k bs l out a) (sym (drop_front active (old ++ ys) old ys refl size)) first),
      )

  -- all of the second part failed, and one of the first part answered
  pub round_first : (active : ℕ) (o : Option (ℕ × Answer)) (whole old bs xs ys : List S) → whole ≡ old ++ bs → length old ≡ active → length xs ≡ active
      → AllZip (FailsAll store r) bs ys → IfSome o (λ p. AnswersFirst store q r id p.0 old xs out p.1)
      → IfSome o (λ p. AnswersRound store q r id active p.0 whole (xs ++ ys) out p.1)
  round_first active None whole old bs xs ys is size same failed h = tt
  round_first active (Some p) whole old bs xs ys is size same failed h =
      inr (
        subst (λ (l : List S). AllZip (FailsAll store r) l (drop active (xs ++ ys))) (sym (drop_front active whole old bs is size))
            (subst (λ (l : List S). AllZip (FailsAll store r) bs l) (sym (drop_front active (xs ++ ys) xs ys refl same)) failed),
        subst (λ (l : List S). AnswersFirst store q r id p.0 l (take active (xs ++ ys)) out p.1) (sym (take_front active whole old bs is size))
            (subst (λ (l : List S). AnswersFirst store q r id p.0 old l out p.1) (sym (take_front active (xs ++ ys) xs ys refl same)) h),
      )

  -- what the first that didn't fail answered
  pub may_first : (o : Option (ℕ × Answer)) (old xs : List S) → IfSome o (λ p. AnswersFirst store q r id p.0 old xs out p.1) → IfSome o (λ p. AnswersAt store q id p.0 old xs out p.1)
  may_first None old xs h = tt
  may_first (Some p) old xs h = first_at store q id out r p.1 p.0 old xs h

-- ---- what stays

pub one_kept : {S X : Type 0} (R : S → S → Type 0) (tells : S → Option X) → ((s t : S) → R s t → tells t ≡ tells s) → (old xs : List S) → AllZip R old xs → of_one tells xs ≡ of_one tells old
one_kept R tells f [] [] h = refl
one_kept R tells f [] (x ∷ xs) h = absurd h
one_kept R tells f (s ∷ old) [] h = absurd h
one_kept R tells f (s ∷ []) (x ∷ []) h = f s x h.0
one_kept R tells f (s ∷ []) (x ∷ y ∷ xs) h = absurd h.1
one_kept R tells f (s ∷ t ∷ old) (x ∷ []) h = absurd h.1
one_kept R tells f (s ∷ t ∷ old) (x ∷ y ∷ xs) h = refl

pub each_kept : {S X : Type 0} (R : S → S → Type 0) (tells : S → X) → ((s t : S) → R s t → tells t ≡ tells s) → (old xs : List S) → AllZip R old xs → map tells xs ≡ map tells old
each_kept R tells f [] [] h = refl
each_kept R tells f [] (x ∷ xs) h = absurd h
each_kept R tells f (s ∷ old) [] h = absurd h
each_kept R tells f (s ∷ old) (x ∷ xs) h = λ i. f s x h.0 i ∷ each_kept R tells f old xs h.1 i

pub maps_kept : {S : Type 0} (R : S → S → Type 0) (members : S → Option (List (Map (List ℕ)))) → ((s t : S) → R s t → members t ≡ members s) → (old xs : List S) → AllZip R old xs → maps_of members xs ≡ maps_of members old
maps_kept R members f old xs h = ap told_together (each_kept R members f old xs h)

pub place_kept : {S : Type 0} (R : S → S → Type 0) (place : S → List ℕ) → ((s t : S) → R s t → place t ≡ place s) → (old xs : List S) → AllZip R old xs → places_of place xs ≡ places_of place old
place_kept R place f [] [] h = refl
place_kept R place f [] (x ∷ xs) h = absurd h
place_kept R place f (s ∷ old) [] h = absurd h
place_kept R place f (s ∷ old) (x ∷ xs) h = λ i. length (f s x h.0 i) ∷ f s x h.0 i ++ place_kept R place f old xs h.1 i

-- what a store is like, the same store is like afterwards
some_kept : {S : Type 0} (R : S → S → Type 0) (P Q : S → Type 0) → ((s t : S) → R s t → P s → Q t) → (old xs : List S) → AllZip R old xs → SomeStore P old → SomeStore Q xs
some_kept R P Q f [] xs h some = absurd some
some_kept R P Q f (s ∷ old) [] h some = absurd h
some_kept R P Q f (s ∷ old) (x ∷ xs) h (inl p) = inl (f s x h.0 p)
some_kept R P Q f (s ∷ old) (x ∷ xs) h (inr some) = inr (some_kept R P Q f old xs h.1 some)

at_kept : {S : Type 0} (R : S → S → Type 0) (P Q : S → Type 0) → ((s t : S) → R s t → P s → Q t) → (k : ℕ) (old xs : List S) → AllZip R old xs → AtStore P k old → AtStore Q k xs
at_kept R P Q f k [] xs h at = absurd at
at_kept R P Q f k (s ∷ old) [] h at = absurd h
at_kept R P Q f zero (s ∷ old) (x ∷ xs) h at = f s x h.0 at
at_kept R P Q f (suc k) (s ∷ old) (x ∷ xs) h at = at_kept R P Q f k old xs h.1 at

module _ {S : Type 0} (store : StoreWords S) (q : Question) (n : ℕ) (id : List ℕ) where
  abbrev Asked : S → S → Type 0
  Asked = AskedUpTo store q n id

  pub said_kept : (old xs : List S) → AllZip Asked old xs → (x : List ℕ) → KeepsOf (said_of store.said old) (said_of store.said xs) x
  said_kept old xs h x = record {
    denied = some_kept Asked (λ s. (store.said s).denied x) (λ s. (store.said s).denied x) (λ s t r. (r.said x).denied) old xs h;
    shown = λ b. some_kept Asked (λ s. (store.said s).shown x b) (λ s. (store.said s).shown x b) (λ s t r. (r.said x).shown b) old xs h;
    longer = λ m. some_kept Asked (λ s. (store.said s).longer x m) (λ s. (store.said s).longer x m) (λ s t r. (r.said x).longer m) old xs h;
    taken = λ b. some_kept Asked (λ s. (store.said s).taken x b) (λ s. (store.said s).taken x b) (λ s t r. (r.said x).taken b) old xs h;
    shown_by = λ k b. at_kept Asked (λ s. (store.said s).shown x b) (λ s. (store.said s).shown x b) (λ s t r. (r.said x).shown b) k old xs h;
    longer_by = λ k m. at_kept Asked (λ s. (store.said s).longer x m) (λ s. (store.said s).longer x m) (λ s t r. (r.said x).longer m) k old xs h;
  }

  sent_next : (s x : S) (old xs : List S) → Sends (λ a. a ≡ ask_for q id) (store.sent s) (store.sent x) → Sends (λ a. a ≡ ask_for q id) (sent_of store.sent old) (sent_of store.sent xs)
      → Sends (λ a. a ≡ ask_for q id) (sent_of store.sent (s ∷ old)) (sent_of store.sent (x ∷ xs))
  sent_next s x old xs first rest zero = first zero
  sent_next s x old xs first rest (suc n) = rest n

  pub sent_kept : (old xs : List S) → AllZip Asked old xs → Sends (λ a. a ≡ ask_for q id) (sent_of store.sent old) (sent_of store.sent xs)
  sent_kept [] [] h = sends_still (λ a. a ≡ ask_for q id) sends_nothing
  sent_kept [] (x ∷ xs) h = absurd h
  sent_kept (s ∷ old) [] h = absurd h
  sent_kept (s ∷ old) (x ∷ xs) h = sent_next s x old xs h.0.sends (sent_kept old xs h.1)

-- ---- how often stores were asked

more_questions : (r x y : ℕ) → x ≤ y → questions_of r x ≤ questions_of r y
more_questions r x y more = let times = div-mul-le_self (x + r) (r + 1) in le-div (questions_of r x) (y + r) (r + 1) (omega arith) (omega (arith, more, times))

one_question : (r x y : ℕ) → y ≤ x + (r + 1) → questions_of r y ≤ questions_of r x + 1
one_question r x y few =
    let step : (x + r + (r + 1)) / (r + 1) ≡ (x + r) / (r + 1) + 1 = add-div_right (x + r) (omega arith) in
    let times = div-mul-le_self (y + r) (r + 1) in
    subst (λ n. questions_of r y ≤ n) step (le-div (questions_of r y) (x + r + (r + 1)) (r + 1) (omega arith) (omega (arith, few, times)))

most_more : {S : Type 0} (R : S → S → Type 0) (f : S → ℕ) (n : ℕ) → ((s t : S) → R s t → f t ≤ f s + n) → (old xs : List S) → AllZip R old xs → most f xs ≤ most f old + n
most_more R f n more [] [] h = omega arith
most_more R f n more [] (x ∷ xs) h = absurd h
most_more R f n more (s ∷ old) [] h = absurd h
most_more R f n more (s ∷ old) (x ∷ xs) h = let first = more s x h.0 in let rest = most_more R f n more old xs h.1 in omega (arith, first, rest)

most_less : {S : Type 0} (R : S → S → Type 0) (f : S → ℕ) → ((s t : S) → R s t → f s ≤ f t) → (old xs : List S) → AllZip R old xs → most f old ≤ most f xs
most_less R f less [] [] h = omega arith
most_less R f less [] (x ∷ xs) h = absurd h
most_less R f less (s ∷ old) [] h = absurd h
most_less R f less (s ∷ old) (x ∷ xs) h = let first = less s x h.0 in let rest = most_less R f less old xs h.1 in omega (arith, first, rest)

most_same : {S : Type 0} (R : S → S → Type 0) (f : S → ℕ) → ((s t : S) → R s t → f t ≡ f s) → (old xs : List S) → AllZip R old xs → most f xs ≡ most f old
most_same R f same [] [] h = refl
most_same R f same [] (x ∷ xs) h = absurd h
most_same R f same (s ∷ old) [] h = absurd h
most_same R f same (s ∷ old) (x ∷ xs) h = λ i. max (same s x h.0 i) (most_same R f same old xs h.1 i)

module _ {S : Type 0} (store : StoreWords S) (q : Question) (r : ℕ) (id : List ℕ) where
  abbrev Turn : S → S → Type 0
  Turn = AskedUpTo store q (r + 1) id

  abbrev Times : S → List ℕ → ℕ
  Times = times_for store q

  pub turns_once : (old xs : List S) → AllZip Turn old xs
      → AskedOnce (λ x. most (λ s. questions_of r (Times s x)) old) (λ x. most (λ s. questions_of r (Times s x)) xs) id
  turns_once old xs h = record {
    this = most_more Turn (λ s. questions_of r (Times s id)) 1 (λ s t turn. one_question r (Times s id) (Times t id) turn.this) old xs h;
    no_less = most_less Turn (λ s. questions_of r (Times s id)) (λ s t turn. more_questions r (Times s id) (Times t id) turn.no_less) old xs h;
    others = λ x apart. most_same Turn (λ s. questions_of r (Times s x)) (λ s t turn. ap (questions_of r) (turn.others x apart)) old xs h;
  }

  pub turns_else : (old xs : List S) → AllZip Turn old xs
      → ◌≡◌ {A = List ℕ → ℕ} (λ x. most (λ s. questions_of r (times_other store q s x)) xs) (λ x. most (λ s. questions_of r (times_other store q s x)) old)
  turns_else old xs h = λ i x. most_same Turn (λ s. questions_of r (times_other store q s x)) (λ s t turn. ap (λ f. questions_of r (f x)) turn.stays) old xs h i

  -- ---- how often they failed

  pub failures_still : (failed : ℕ) (old xs : List S) → AllZip Turn old xs
      → AllByRecursion (λ s. raised 0 (failed * (r + 1)) ≤ store.faults s) old → AllByRecursion (λ s. raised 0 (failed * (r + 1)) ≤ store.faults s) xs
  failures_still failed [] [] h all = tt
  failures_still failed [] (x ∷ xs) h all = absurd h
  failures_still failed (s ∷ old) [] h all = absurd h
  failures_still failed (s ∷ old) (x ∷ xs) h all = (omega (arith, all.0, h.0.faults), failures_still failed old xs h.1 all.1)

  one_failure : (failed old new : ℕ) → raised 0 (failed * (r + 1)) ≤ old → raised old (r + 1) ≤ new → raised 0 (raised failed 1 * (r + 1)) ≤ new
  one_failure failed old new counted rose =
      let few = mul-le-mul_right {m = raised failed 1} {n = failed + 1} (r + 1) (omega arith) in
      let next = add-mul failed 1 (r + 1) in
      omega (arith, counted, rose, few, next)

  pub failures_more : (failed : ℕ) (old xs : List S) → AllZip (FailsAll store r) old xs
      → AllByRecursion (λ s. raised 0 (failed * (r + 1)) ≤ store.faults s) old → AllByRecursion (λ s. raised 0 (raised failed 1 * (r + 1)) ≤ store.faults s) xs
  failures_more failed [] [] h all = tt
  failures_more failed [] (x ∷ xs) h all = absurd h
  failures_more failed (s ∷ old) [] h all = absurd h
  failures_more failed (s ∷ old) (x ∷ xs) h all = (one_failure failed (store.faults s) (store.faults x) all.0 h.0, failures_more failed old xs h.1 all.1)

-- ---- the group as one store

-- the group as one store, by whether its first store answers alone while it is active. Else any of them may answer
abbrev pub as_steady : {S : Type 0} → Bool → StoreWords S → StoreWords (Grouped S)
as_steady unfailing store = record (as_store_by false store) {
  holds = λ g. of_store (of_one store.holds g.stores) store.holds (steady_of unfailing g.active g.stores);
  members = λ g. told_or_all (of_store (of_one store.holds g.stores) store.holds (steady_of unfailing g.active g.stores)) (maps_of store.members g.stores);
  folder = λ g. of_store (of_one store.folder g.stores) store.folder (steady_of unfailing g.active g.stores);
  said = λ g. said_steady store.said g.stores (steady_of unfailing g.active g.stores);
}

of_all : {S : Type 0} {A : Type 0} (stores : List S) → SomeStore (λ s. A) stores → A
of_all [] h = absurd h
of_all (s ∷ stores) (inl a) = a
of_all (s ∷ stores) (inr h) = of_all stores h

module _ {S : Type 0} (store : StoreWords S) (id : List ℕ) (out : List ℕ) (g h : Grouped S) where
  -- what the store says that answered, the group says
  pub group_says : (q : Question) (a : Answer) → AnswersAt store q id h.active g.stores h.stores out a → AnswerSays (as_steady false store) q id g h out a
  group_says question.Get (answer.Given n) at = (
    of_all h.stores (some_answers store question.Get id out (answer.Given n) (λ t. n ≤ length out) (λ s t says. says.0) h.active g.stores h.stores at),
    some_answers store question.Get id out (answer.Given n) (λ t. (store.said t).shown id (take n out)) (λ s t says. says.1) h.active g.stores h.stores at,
    one_answers store question.Get id out (answer.Given n) store.holds (λ m. m id ≡ Some (take n out)) (λ s t says. says.2) h.active g.stores h.stores at,
    at_answers store question.Get id out (answer.Given n) (λ t. (store.said t).shown id (take n out)) (λ s t says. says.1) h.active g.stores h.stores at,
  )
  group_says question.Get answer.Missing at = (
    some_answers store question.Get id out answer.Missing (λ t. (store.said t).denied id) (λ s t says. says.0) h.active g.stores h.stores at,
    one_answers store question.Get id out answer.Missing store.holds (λ m. m id ≡ None) (λ s t says. says.1) h.active g.stores h.stores at,
  )
  group_says question.Get answer.Longer at = (
    some_answers store question.Get id out answer.Longer (λ t. (store.said t).longer id (length out)) (λ s t says. says.0) h.active g.stores h.stores at,
    one_answers store question.Get id out answer.Longer store.holds (λ m. (b : List ℕ) × (m id ≡ Some b) × (length out < length b)) (λ s t says. says.1) h.active g.stores h.stores at,
    at_answers store question.Get id out answer.Longer (λ t. (store.said t).longer id (length out)) (λ s t says. says.0) h.active g.stores h.stores at,
  )
  group_says question.Get (answer.There has) at = of_all h.stores (some_answers store question.Get id out (answer.There has) (λ t. ⊥) (λ s t says. says) h.active g.stores h.stores at)
  group_says question.Get answer.Failed at = tt
  group_says question.Get answer.Memory at = of_all h.stores (some_answers store question.Get id out answer.Memory (λ t. IsTrue store.may_lack_memory) (λ s t says. says) h.active g.stores h.stores at)
  group_says question.Has (answer.There has) at = (
    (λ no. some_answers store question.Has id out (answer.There has) (λ t. (store.said t).denied id) (λ s t says. says.0 no) h.active g.stores h.stores at),
    one_answers store question.Has id out (answer.There has) store.holds (λ m. has ≡ is_some (m id)) (λ s t says. says.1) h.active g.stores h.stores at,
  )
  group_says question.Has (answer.Given n) at = of_all h.stores (some_answers store question.Has id out (answer.Given n) (λ t. ⊥) (λ s t says. says) h.active g.stores h.stores at)
  group_says question.Has answer.Missing at = of_all h.stores (some_answers store question.Has id out answer.Missing (λ t. ⊥) (λ s t says. says) h.active g.stores h.stores at)
  group_says question.Has answer.Longer at = of_all h.stores (some_answers store question.Has id out answer.Longer (λ t. ⊥) (λ s t says. says) h.active g.stores h.stores at)
  group_says question.Has answer.Failed at = tt
  group_says question.Has answer.Memory at = of_all h.stores (some_answers store question.Has id out answer.Memory (λ t. IsTrue store.may_lack_memory) (λ s t says. says) h.active g.stores h.stores at)

module _ {S : Type 0} (store : StoreWords S) (id : List ℕ) (g h : Grouped S) (same : h.retries ≡ g.retries) where
  pub group_place_kept : (q : Question) → AllZip (AskedUpTo store q (g.retries + 1) id) g.stores h.stores → group_place store.place h ≡ group_place store.place g
  group_place_kept q turns =
      ap (λ (n : ℕ). n ∷ places_of store.place h.stores) same ∙ ap (λ (l : List ℕ). g.retries ∷ l) (place_kept (AskedUpTo store q (g.retries + 1) id) store.place (λ s t r. r.place) g.stores h.stores turns)

module _ {S : Type 0} (store : StoreWords S) (id : List ℕ) (g h : Grouped S) (same : h.retries ≡ g.retries) (counts : g.failed ≤ h.failed) where
  abbrev Turned : Question → S → S → Type 0
  Turned q = AskedUpTo store q (g.retries + 1) id

  -- how often its stores were asked, by the number of calls that a question makes
  again : (count : S → List ℕ → ℕ) → ◌≡◌ {A = List ℕ → ℕ} (λ x. most (λ s. questions_of g.retries (count s x)) h.stores) (group_count count h)
  again count = λ i x. most (λ s. questions_of (sym same i) (count s x)) h.stores

  once : (count : S → List ℕ → ℕ) → AskedOnce (group_count count g) (λ x. most (λ s. questions_of g.retries (count s x)) h.stores) id
      → AskedOnce (group_count count g) (group_count count h) id
  once count asked = subst (λ (f : List ℕ → ℕ). AskedOnce (group_count count g) f id) (again count) asked

  -- the group was asked once
  pub group_asked : (q : Question) → AllZip (AskedUpTo store q (g.retries + 1) id) g.stores h.stores → AskedUpTo (as_steady false store) q 1 id g h
  group_asked question.Get turns =
      let asked = once store.asked (turns_once store question.Get g.retries id g.stores h.stores turns) in
      record {
        holds = one_kept (Turned question.Get) store.holds (λ s t r. r.holds) g.stores h.stores turns;
        members = λ i. told_or_all (one_kept (Turned question.Get) store.holds (λ s t r. r.holds) g.stores h.stores turns i) (maps_kept (Turned question.Get) store.members (λ s t r. r.members) g.stores h.stores turns i);
        folder = one_kept (Turned question.Get) store.folder (λ s t r. r.folder) g.stores h.stores turns;
        folders = each_kept (Turned question.Get) store.folder (λ s t r. r.folder) g.stores h.stores turns;
        place = group_place_kept store id g h same question.Get turns;
        said = said_kept store question.Get (g.retries + 1) id g.stores h.stores turns;
        sends = sent_kept store question.Get (g.retries + 1) id g.stores h.stores turns;
        this = asked.this;
        no_less = asked.no_less;
        others = asked.others;
        stays = sym (again store.queried) ∙ turns_else store question.Get g.retries id g.stores h.stores turns;
        faults = counts;
        paid = omega (arith, counts, asked.this);
      }
  group_asked question.Has turns =
      let asked = once store.queried (turns_once store question.Has g.retries id g.stores h.stores turns) in
      record {
        holds = one_kept (Turned question.Has) store.holds (λ s t r. r.holds) g.stores h.stores turns;
        members = λ i. told_or_all (one_kept (Turned question.Has) store.holds (λ s t r. r.holds) g.stores h.stores turns i) (maps_kept (Turned question.Has) store.members (λ s t r. r.members) g.stores h.stores turns i);
        folder = one_kept (Turned question.Has) store.folder (λ s t r. r.folder) g.stores h.stores turns;
        folders = each_kept (Turned question.Has) store.folder (λ s t r. r.folder) g.stores h.stores turns;
        place = group_place_kept store id g h same question.Has turns;
        said = said_kept store question.Has (g.retries + 1) id g.stores h.stores turns;
        sends = sent_kept store question.Has (g.retries + 1) id g.stores h.stores turns;
        this = asked.this;
        no_less = asked.no_less;
        others = asked.others;
        stays = sym (again store.asked) ∙ turns_else store question.Has g.retries id g.stores h.stores turns;
        faults = counts;
        paid = omega (arith, counts, asked.this);
      }

-- ---- how often a store was called, by how often the group was asked

few_calls : (r calls n : ℕ) → questions_of r calls ≤ n → calls ≤ n * (r + 1)
few_calls r calls n few =
    let parts = div-add-mod' (calls + r) (r + 1) in
    let rest = mod-lt (calls + r) {m = r + 1} (omega arith) in
    let times = mul-le-mul_right {m = questions_of r calls} {n = n} (r + 1) few in
    omega (arith, parts, rest, times)

pub calls_bounded : {S : Type 0} (calls : S → ℕ) (r n : ℕ) (stores : List S) → most (λ s. questions_of r (calls s)) stores ≤ n → AllByRecursion (λ s. calls s ≤ n * (r + 1)) stores
calls_bounded calls r n [] few = tt
calls_bounded calls r n (s ∷ stores) few =
    (few_calls r (calls s) n (omega (arith, few)), calls_bounded calls r n stores (omega (arith, few)))
