-- The first word that is refused, and the roles of words from left to right.
use Rattle.std.proofs.Common.{◌≡◌, ◌<◌, ◌≤◌, ℕ, zero, suc, ◌+◌, Bool, true, false, List, [], ◌∷◌, ◌++◌, length, get_or, take, Option, Some, None, is_some, option_map, Ok, Err, refl, ap, ap₂, ◌∙◌, arith, inl, inr}
use Rattle.std.proofs.lemmas.Bool.{cond-true, cond-false, cases_eq}
use Rattle.std.proofs.lemmas.List.{take_more}
use Rattle.std.proofs.lemmas.List.Sums.{fold_push}
use Rattle.std.specs.List.{find, range_with_len}
use Rattle.command_line.specs.declared.judge.Refusal.{Refusal}
use Rattle.command_line.specs.declared.judge.Refusal.TheVariants as refusal
use Rattle.command_line.specs.Judging.{RefusesWords, AnswersBy, refusal_of, refusal_at, fault_by, first_word_fault, fault_at, judged, words_by_role}
use Rattle.command_words.specs.declared.option_table.CommandKind.{CommandKind}
use Rattle.command_words.specs.declared.roles.Role.{Role}
use Rattle.command_words.specs.declared.usage.UsageWhy.TheVariants as why
use Rattle.command_words.specs.declared.usage.WordsFault.TheVariants as fault
use Rattle.command_words.specs.Roles.{WordsByRole, awaited, role_of, roles_of}

-- ---- the first number that passes a test

pub find_none : (p : ℕ → Bool) (a n : ℕ) → ((j : ℕ) → j < a + n → p j ≡ false) → find p (range_with_len a n) ≡ None
find_none p a zero h = refl
find_none p a (suc n) h = cond-false _ _ _ (h a (omega arith)) ∙ find_none p (a + 1) n (λ j l. h j (omega (arith, l)))

pub find_first : (p : ℕ → Bool) (a n i : ℕ) → a ≤ i → i < a + n → p i ≡ true → ((j : ℕ) → j < i → p j ≡ false) → find p (range_with_len a n) ≡ Some i
find_first p a zero i lo hi is h = absurd (omega arith)
find_first p a (suc n) i lo hi is h = elim (cases_eq a i) [
  | inl here ↦ cond-true _ _ _ (ap p here ∙ is) ∙ ap Some here
  | inr other ↦ cond-false _ _ _ (h a (omega arith)) ∙ find_first p (a + 1) n i (omega arith) (omega arith) is h
]

-- ---- the words so far

-- the roles of one more word
pub roles_more : (k : CommandKind) (words : List (List ℕ)) (i : ℕ) → i < length words
    → roles_of k (take (i + 1) words) ≡ roles_of k (take i words) ++ role_of k (roles_of k (take i words)) (get_or words i []) ∷ []
roles_more k words i lt = ap (roles_of k) (take_more words i [] lt) ∙ fold_push (λ before w. before ++ role_of k before w ∷ []) [] (take i words) (get_or words i [])

-- what a word is judged by
pub judged_here : (k : CommandKind) (words : List (List ℕ)) (i : ℕ) (before : WordsByRole) (r : Role) (w : List ℕ)
    → before ≡ words_by_role k (take i words) → r ≡ role_of k before.roles w → w ≡ get_or words i [] → refusal_of k before r w ≡ refusal_at k words i
judged_here k words i before r w b e w' = ap (λ x. refusal_of k before x w) e ∙ ap₂ (λ b x. refusal_of k b (role_of k b.roles x) x) b w'

-- none of them is refused
abbrev pub Pass : CommandKind → List (List ℕ) → ℕ → Type 0
Pass k words i = (j : ℕ) → j < i → refusal_at k words j ≡ None

pub pass_more : (k : CommandKind) (words : List (List ℕ)) (i : ℕ) → Pass k words i → refusal_at k words i ≡ None → Pass k words (i + 1)
pass_more k words i before now j l = elim (cases_eq j i) [
  | inl here ↦ ap (refusal_at k words) here ∙ now
  | inr other ↦ before j (omega arith)
]

none_false : (r : Option Refusal) → r ≡ None → is_some r ≡ false
none_false r e = ap is_some e

-- ---- what they come to

pub at_first : (k : CommandKind) (words : List (List ℕ)) (i : ℕ) (r : Refusal) → i < length words → Pass k words i → refusal_at k words i ≡ Some r
    → first_word_fault k words ≡ Some (fault_at (i + 1) r)
at_first k words i r lt before e =
    ap (fault_by k words) (find_first (λ j. is_some (refusal_at k words j)) 0 (length words) i (omega arith) (omega (arith, lt)) (ap is_some e) (λ j l. none_false _ (before j l)))
    ∙ ap (option_map (fault_at (i + 1))) e

-- at the first word that is refused
pub refused_here : {T : Type 0} (view : T → List Role) (k : CommandKind) (words : List (List ℕ)) (i : ℕ) (r : Refusal) → i < length words → Pass k words i
    → RefusesWords (refusal_at k words i) (Err r) → AnswersBy view (judged k words) (Err (fault_at (i + 1) r))
refused_here view k words i (refusal.Why y) lt before e = ap (λ f. elim f [ Some x ↦ Err x | None ↦ Ok (roles_of k words) ]) (at_first k words i (refusal.Why y) lt before e)
refused_here view k words i refusal.Memory lt before e = tt

all_pass : (k : CommandKind) (words : List (List ℕ)) → Pass k words (length words) → first_word_fault k words ≡ fault_by k words None
all_pass k words before = ap (fault_by k words) (find_none (λ j. is_some (refusal_at k words j)) 0 (length words) (λ j l. none_false _ (before j (omega (arith, l)))))

-- where all have passed, the last one may lack its value
pub lacks_value : (k : CommandKind) (words : List (List ℕ)) → Pass k words (length words) → is_some (awaited (roles_of k words)) ≡ true
    → judged k words ≡ Err (fault.Usage (length words + 1) why.NoValue)
lacks_value k words before is = ap (λ f. elim f [ Some x ↦ Err x | None ↦ Ok (roles_of k words) ]) (all_pass k words before ∙ cond-true _ _ _ is)

pub has_all : (k : CommandKind) (words : List (List ℕ)) → Pass k words (length words) → is_some (awaited (roles_of k words)) ≡ false
    → judged k words ≡ Ok (roles_of k words)
has_all k words before is = ap (λ f. elim f [ Some x ↦ Err x | None ↦ Ok (roles_of k words) ]) (all_pass k words before ∙ cond-false _ _ _ is)
