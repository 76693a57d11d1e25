-- What a store answers to one question, which may be asked several times, and what that leaves of the store.
use Rattle.std.specs.Prelude.{◌≡◌, ◌≢◌, ◌⊎◌, ℕ, zero, suc, ◌+◌, ◌-◌, ◌<◌, ◌≤◌, List, ◌∷◌, length, take, drop, false}
use Rattle.std.specs.Prelude.{Some, None, IfSome, IsTrue, is_some, Bool, Result, Ok, Err}
use Rattle.std.specs.List.{AllZip}
use Rattle.chunk_store.specs.Asks.{Ask, Get, Has, Sends}
use Rattle.chunk_store.specs.Said.{KeepsOf}
use Rattle.chunk_store.specs.declared.store.GetFault.{GetFault}
use Rattle.chunk_store.specs.declared.store.GetFault.TheVariants as get
use Rattle.chunk_store.specs.declared.store.Store.{Ghosts as StoreWords}
use Rattle.dsy_base.specs.Counts.{raised}
use Rattle.dsy_base.specs.declared.fault.IoFault.{IoFault}
use Rattle.dsy_base.specs.declared.fault.IoFault.TheVariants as io
use Rattle.store_group.specs.declared.answer.Answer.{Answer}
use Rattle.store_group.specs.declared.answer.Answer.TheVariants as answer
use Rattle.store_group.specs.declared.answer.Question.{Question}
use Rattle.store_group.specs.declared.answer.Question.TheVariants as question

-- what `get` answers, as an answer to a question
abbrev pub answer_to_get : Result ℕ GetFault → Answer
answer_to_get (Ok n) = answer.Given n
answer_to_get (Err get.Missing) = answer.Missing
answer_to_get (Err get.Longer) = answer.Longer
answer_to_get (Err get.Failed) = answer.Failed
answer_to_get (Err get.Memory) = answer.Memory

-- and to the other question
abbrev pub answer_to_has : Result Bool IoFault → Answer
answer_to_has (Ok has) = answer.There has
answer_to_has (Err io.Failed) = answer.Failed
answer_to_has (Err io.Memory) = answer.Memory

-- the answer is one to this question
abbrev pub IsAbout : Answer → Question → Type 0
IsAbout (answer.There has) question.Get = ⊥
IsAbout (answer.Given n) question.Has = ⊥
IsAbout answer.Missing question.Has = ⊥
IsAbout answer.Longer question.Has = ⊥
IsAbout a q = Unit {0}

-- what is asked for an id
abbrev pub ask_for : Question → List ℕ → Ask
ask_for question.Get id = Get id
ask_for question.Has id = Has id

module _ {S : Type 0} (store : StoreWords S) where
  -- how often the store was asked this question for each id
  abbrev pub times_for : Question → S → List ℕ → ℕ
  times_for question.Get = store.asked
  times_for question.Has = store.queried

  -- and how often the other one
  abbrev pub times_other : Question → S → List ℕ → ℕ
  times_other question.Get = store.queried
  times_other question.Has = store.asked

  -- the store was asked the question for the id at most n times, and for nothing else
  pub record AskedUpTo (q : Question) (n : ℕ) (id : List ℕ) (s t : S) : Type 0 where
    pub holds : store.holds t ≡ store.holds s
    pub members : store.members t ≡ store.members s
    pub folder : store.folder t ≡ store.folder s
    pub folders : store.folders t ≡ store.folders s
    pub place : store.place t ≡ store.place s
    pub said : (x : List ℕ) → KeepsOf (store.said s) (store.said t) x
    pub sends : Sends (λ a. a ≡ ask_for q id) (store.sent s) (store.sent t)
    pub this : times_for q t id ≤ times_for q s id + n
    pub no_less : times_for q s id ≤ times_for q t id
    pub others : (x : List ℕ) → x ≢ id → times_for q t x ≡ times_for q s x
    pub stays : times_other q t ≡ times_other q s
    pub faults : store.faults s ≤ store.faults t
    -- each time but one comes after a failure
    pub paid : raised (store.faults s) (times_for q t id - (times_for q s id + 1)) ≤ store.faults t

  -- what the store's answer says of it, s before and t after it, where the buffer then holds `out`
  abbrev pub AnswerSays : Question → List ℕ → S → S → List ℕ → Answer → Type 0
  AnswerSays question.Get id s t out (answer.Given n) = (n ≤ length out) × (store.said t).shown id (take n out)
      × IfSome (store.holds s) (λ m. m id ≡ Some (take n out))
      × (store.said t).shown_by (store.giver t) id (take n out)
  AnswerSays question.Get id s t out answer.Missing = (store.said t).denied id
      × IfSome (store.holds s) (λ m. m id ≡ None)
  AnswerSays question.Get id s t out answer.Longer = (store.said t).longer id (length out)
      × IfSome (store.holds s) (λ m. (b : List ℕ) × (m id ≡ Some b) × (length out < length b))
      × (store.said t).longer_by (store.giver t) id (length out)
  AnswerSays question.Get id s t out (answer.There has) = ⊥
  AnswerSays question.Has id s t out (answer.There has) = (has ≡ false → (store.said t).denied id)
      × IfSome (store.holds s) (λ m. has ≡ is_some (m id))
  AnswerSays question.Has id s t out (answer.Given n) = ⊥
  AnswerSays question.Has id s t out answer.Missing = ⊥
  AnswerSays question.Has id s t out answer.Longer = ⊥
  AnswerSays q id s t out answer.Failed = Unit {0}
  AnswerSays q id s t out answer.Memory = IsTrue store.may_lack_memory

  -- the store failed in each of r + 1 calls
  abbrev pub FailsAll : ℕ → S → S → Type 0
  FailsAll r s t = raised (store.faults s) (r + 1) ≤ store.faults t

  -- the store of number k answered so, and didn't fail; each before it failed in r + 1 calls, and no other was asked
  abbrev pub AnswersFirst : Question → ℕ → List ℕ → ℕ → List S → List S → List ℕ → Answer → Type 0
  AnswersFirst q r id zero (s ∷ old) (t ∷ new) out a = AnswerSays q id s t out a × (a ≢ answer.Failed) × (new ≡ old)
  AnswersFirst q r id (suc k) (s ∷ old) (t ∷ new) out a = FailsAll r s t × AnswersFirst q r id k old new out a
  AnswersFirst q r id k old new out a = ⊥

  -- so it was with the stores from the one of number `active` on, and then, where all of these failed, with those
  -- before it: the one of number n answered
  abbrev pub AnswersRound : Question → ℕ → List ℕ → ℕ → ℕ → List S → List S → List ℕ → Answer → Type 0
  AnswersRound q r id active n old new out a =
      ((k : ℕ) × (n ≡ active + k) × (take active new ≡ take active old)
      × AnswersFirst q r id k (drop active old) (drop active new) out a)
      ⊎ (AllZip (FailsAll r) (drop active old) (drop active new)
      × AnswersFirst q r id n (take active old) (take active new) out a)

  -- the store of number k answered so, and didn't fail
  abbrev pub AnswersAt : Question → List ℕ → ℕ → List S → List S → List ℕ → Answer → Type 0
  AnswersAt q id zero (s ∷ old) (t ∷ new) out a = AnswerSays q id s t out a × (a ≢ answer.Failed)
  AnswersAt q id (suc k) (s ∷ old) (t ∷ new) out a = AnswersAt q id k old new out a
  AnswersAt q id k old new out a = ⊥
