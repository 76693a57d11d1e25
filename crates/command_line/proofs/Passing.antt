-- What passed of the words of each role, by their place among those of the role.
use Rattle.std.proofs.Common.{◌≡◌, ◌<◌, ◌≤◌, ℕ, ◌+◌, Bool, true, false, List, [], ◌∷◌, ◌++◌, length, get_or, nat_lt, sum_by, ◌==◌, if◌then◌else◌, Option, Some, None, refl, sym, ap, ap₂, subst, ◌∙◌, arith, inl, inr, eq-eqb, ne_eqb}
use Rattle.std.proofs.Math.Seq.{get_or-append_seam}
use Rattle.std.proofs.lemmas.Bool.{cond-true, cond-false, cases_eq, ltb-false, true≢false}
use Rattle.std.proofs.lemmas.Option.{none-some}
use Rattle.std.proofs.lemmas.List.{append-nil, get_or_append_left}
use Rattle.std.proofs.lemmas.List.Sums.{sum_by_push}
use Rattle.command_line.specs.declared.judge.Refusal.{Refusal}
use Rattle.command_line.specs.declared.judge.Refusal.TheVariants as refusal
use Rattle.command_line.specs.Judging.{group_refusal, operand_refusal, refusal_of, refusal_after, stores_named, value_refusal, words_by_role}
use Rattle.command_words.specs.declared.option_table.CommandKind.{CommandKind}
use Rattle.command_words.specs.declared.option_table.OptionKind.{OptionKind}
use Rattle.command_words.specs.declared.roles.Role.{Role}
use Rattle.command_words.specs.declared.roles.Role.TheVariants as role
use Rattle.command_words.specs.declared.option_table.OptionKind.TheVariants as option
use Rattle.command_words.specs.declared.usage.UsageWhy.TheVariants as why
use Rattle.command_words.specs.Locations.{parts_of}
use Rattle.command_words.specs.OptionTable.{takes_groups}
use Rattle.command_words.specs.Roles.{by_role, role_number, role_of, roles_of, times_of_role, words_as, word_as}
use Rattle.command_line.proofs.Counts.{along_all, operand_is, value_is}
use Rattle.command_line.proofs.Following.{roles_length}
use Rattle.command_line.proofs.Judged.{Pass}
use Rattle.command_line.proofs.Lists.{words_counted}

-- ---- one more word

kept_or_left : (w : List ℕ) (xs ys more : List (List ℕ)) (b : Bool) → ys ≡ xs ++ more → (if b then w ∷ ys else ys) ≡ (if b then w ∷ xs else xs) ++ more
kept_or_left w xs ys more true e = ap (λ l. w ∷ l) e
kept_or_left w xs ys more false e = e

-- the words of the role with one more word, which may be one of it
one_more : (r q : Role) (roles : List Role) (words : List (List ℕ)) (w : List ℕ) → length roles ≡ length words
    → words_as r (roles ++ q ∷ []) (words ++ w ∷ []) ≡ words_as r roles words ++ (if role_number q == role_number r then w ∷ [] else [])
one_more r q [] [] w e = refl
one_more r q [] (v ∷ words) w e = absurd (omega (arith, e))
one_more r q (p ∷ roles) [] w e = absurd (omega (arith, e))
one_more r q (p ∷ roles) (v ∷ words) w e = kept_or_left v _ _ _ (role_number p == role_number r) (one_more r q roles words w (omega (arith, e)))

-- what holds of each word of the role, by its place among them, holds with one more word
abbrev Hold : Role → (ℕ → List ℕ → Type 0) → List Role → List (List ℕ) → Type 0
Hold r P roles words = (i : ℕ) → i < times_of_role r roles → P i (word_as r i roles words)

pushed : (r q : Role) (P : ℕ → List ℕ → Type 0) (roles : List Role) (words : List (List ℕ)) (w : List ℕ) → length roles ≡ length words
    → Hold r P roles words → (role_number q ≡ role_number r → P (times_of_role r roles) w) → Hold r P (roles ++ q ∷ []) (words ++ w ∷ [])
pushed r q P roles words w e before now i lt =
    let old = words_as r roles words in
    let count : length old ≡ times_of_role r roles = words_counted r roles words e in
    let more = sum_by_push (λ p. if role_number p == role_number r then 1 else 0) roles q in
    elim (cases_eq (role_number q) (role_number r)) [
      | inl same ↦
          let is = one_more r q roles words w e ∙ ap (λ l. old ++ l) (cond-true _ _ _ (eq-eqb (role_number q) (role_number r) same)) in
          let lt : i < times_of_role r roles + 1 = omega (arith, lt, more, cond-true {A = ℕ} _ 1 0 (eq-eqb (role_number q) (role_number r) same)) in
          elim (cases_eq i (times_of_role r roles)) [
            | inl last ↦
                let at = ap₂ (λ l j. get_or l j []) is (last ∙ sym count) ∙ get_or-append_seam old w [] [] in
                subst (λ v. P i v) (sym at) (subst (λ j. P j w) (sym last) (now same))
            | inr other ↦
                let at = ap (λ l. get_or l i []) is ∙ get_or_append_left old (w ∷ []) [] i (omega (arith, lt, other, count)) in
                subst (λ v. P i v) (sym at) (before i (omega (arith, lt, other)))
          ]
      | inr other ↦
          let left = cond-false _ _ _ (ne_eqb (role_number q) (role_number r) other) in
          let is = one_more r q roles words w e ∙ ap (λ l. old ++ l) left ∙ append-nil old in
          let none = cond-false {A = ℕ} _ 1 0 (ne_eqb (role_number q) (role_number r) other) in
          subst (λ v. P i v) (sym (ap (λ l. get_or l i []) is)) (before i (omega (arith, lt, more, none)))
    ]

-- ---- along the words

-- what each word that passes as one of the role has, with its place among them
abbrev Gives : CommandKind → Role → (ℕ → List ℕ → Type 0) → Type 0
Gives k r P = (before : List (List ℕ)) (w : List ℕ) → let roles = roles_of k before in role_number (role_of k roles w) ≡ role_number r → refusal_after k before w ≡ None → P (times_of_role r roles) w

all_hold : (k : CommandKind) (words : List (List ℕ)) (r : Role) (P : ℕ → List ℕ → Type 0) → Gives k r P → Pass k words (length words) → Hold r P (roles_of k words) words
all_hold k words r P gives = along_all k words (λ p. Hold r P p.roles p.words) (λ i lt. absurd (omega (arith, lt)))
    (λ before w ok held. let roles = roles_of k before in pushed r (role_of k roles w) P roles before w (roles_length k before) held (λ same. gives before w same ok))

-- each operand passes as one that has this many before it
pub operands_pass : (k : CommandKind) (words : List (List ℕ)) → Pass k words (length words) → Hold role.Operand (λ i w. operand_refusal k i w ≡ None) (roles_of k words) words
operands_pass k words = all_hold k words role.Operand (λ i w. operand_refusal k i w ≡ None)
    (λ before w same ok. subst (λ q. refusal_of k (words_by_role k before) q w ≡ None) (operand_is (role_of k (roles_of k before) w) same) ok)

-- a word passes as a value of the option, after some number of stores
abbrev pub PassesAs : CommandKind → OptionKind → List ℕ → Type 0
PassesAs k o w = (n : ℕ) × (value_refusal k n o w ≡ None)

passed_as : (k : CommandKind) (o : OptionKind) (before : List (List ℕ)) (w : List ℕ) → role_number (role_of k (roles_of k before) w) ≡ role_number (role.Value o) → refusal_after k before w ≡ None
    → value_refusal k (stores_named (words_by_role k before)) o w ≡ None
passed_as k o before w same ok = subst (λ q. refusal_of k (words_by_role k before) q w ≡ None) (value_is (role_of k (roles_of k before) w) o same) ok

-- each value of an option passes as one
pub values_pass : (k : CommandKind) (words : List (List ℕ)) (o : OptionKind) → Pass k words (length words) → Hold (role.Value o) (λ i w. PassesAs k o w) (roles_of k words) words
values_pass k words o = all_hold k words (role.Value o) (λ i w. PassesAs k o w)
    (λ before w same ok. (stores_named (words_by_role k before), passed_as k o before w same ok))

-- ---- no more stores than may be named

few_by : (n : ℕ) (parts : List (List ℕ)) (many : Bool) (rest : Option Refusal) → nat_lt 16 (n + length parts) ≡ many → (if many then Some (refusal.Why why.TooMany) else rest) ≡ None → n + length parts ≤ 16
few_by n parts true rest is e = absurd (none-some _ (sym e))
few_by n parts false rest is e = omega (arith, ltb-false _ _ is)

few_in_groups : (k : CommandKind) (n : ℕ) (w : List ℕ) (groups : Bool) (rest : Option Refusal) → groups ≡ true → (if groups then group_refusal n (parts_of w) else rest) ≡ None → n + length (parts_of w) ≤ 16
few_in_groups k n w true rest is e = few_by n (parts_of w) (nat_lt 16 (n + length (parts_of w))) _ refl e
few_in_groups k n w false rest is e = absurd (true≢false (sym is))

-- one more value of -s
named_more : (q : Role) (roles : List Role) (words : List (List ℕ)) (w : List ℕ) → length roles ≡ length words
    → stores_named (by_role (roles ++ q ∷ []) (words ++ w ∷ [])) ≡ stores_named (by_role roles words) + (if role_number q == role_number (role.Value option.Store) then length (parts_of w) else 0)
named_more q roles words w e =
    let r = role.Value option.Store in
    let count = sum_by (λ v. length (parts_of v)) in
    ap count (one_more r q roles words w e) ∙ elim (cases_eq (role_number q) (role_number r)) [
      | inl same ↦
          let is = eq-eqb (role_number q) (role_number r) same in
          ap (λ l. count (words_as r roles words ++ l)) (cond-true _ _ _ is) ∙ sum_by_push (λ v. length (parts_of v)) (words_as r roles words) w
          ∙ ap (λ n. stores_named (by_role roles words) + n) (sym (cond-true _ _ _ is))
      | inr other ↦
          let not = ne_eqb (role_number q) (role_number r) other in
          ap (λ l. count (words_as r roles words ++ l)) (cond-false _ _ _ not) ∙ ap count (append-nil (words_as r roles words))
          ∙ sym (ap (λ n. stores_named (by_role roles words) + n) (cond-false _ _ _ not) ∙ omega arith)
    ]

few_more : (k : CommandKind) (before : List (List ℕ)) (w : List ℕ) → takes_groups k ≡ true → refusal_after k before w ≡ None → stores_named (words_by_role k before) ≤ 16
    → stores_named (by_role (roles_of k before ++ role_of k (roles_of k before) w ∷ []) (before ++ w ∷ [])) ≤ 16
few_more k before w groups ok le =
    let q = role_of k (roles_of k before) w in
    let more = named_more q (roles_of k before) before w (roles_length k before) in
    elim (cases_eq (role_number q) (role_number (role.Value option.Store))) [
      | inl same ↦
          let few = few_in_groups k (stores_named (words_by_role k before)) w (takes_groups k) _ groups (passed_as k option.Store before w same ok) in
          omega (arith, more, few, cond-true {A = ℕ} _ (length (parts_of w)) 0 (eq-eqb _ _ same))
      | inr other ↦ omega (arith, more, le, cond-false {A = ℕ} _ (length (parts_of w)) 0 (ne_eqb _ _ other))
    ]

-- a command that takes groups of stores names at most 16 of them
pub stores_few : (k : CommandKind) (words : List (List ℕ)) → takes_groups k ≡ true → Pass k words (length words) → stores_named (words_by_role k words) ≤ 16
stores_few k words groups = along_all k words (λ p. stores_named p ≤ 16) (omega arith) (λ before w ok le. few_more k before w groups ok le)
