-- How often each role stands among words that have passed.
use Rattle.std.proofs.Common.{◌≡◌, ◌<◌, ◌≤◌, ℕ, zero, suc, ◌+◌, Bool, true, false, List, [], ◌∷◌, ◌++◌, length, get_or, take, nat_lt, nat_eq, codes, ◌==◌, if◌then◌else◌, Option, Some, None, is_some, option_map, Ok, Err, refl, sym, ap, ap₂, subst, ◌∙◌, arith, inl, inr, add-one, eq-eqb, ne_eqb, Result}
use Rattle.std.proofs.lemmas.Bool.{cond-true, cond-false, cases_eq, ltb-true, true≢false}
use Rattle.std.proofs.lemmas.Option.{none-some}
use Rattle.std.proofs.lemmas.List.{take_all, take_more}
use Rattle.std.proofs.lemmas.List.Sums.{sum_by_push}
use Rattle.std.specs.List.{starts_with}
use Rattle.std.specs.Str.{bytes_eq}
use Rattle.command_line.specs.declared.judge.Refusal.{Refusal}
use Rattle.command_line.specs.declared.judge.Refusal.TheVariants as refusal
use Rattle.command_line.specs.Judging.{unless, name_operand_refusal, demo_operand_refusal, refusal_of, refusal_after, refusal_at, first_refused, fault_at, fault_by, judged, words_by_role}
use Rattle.command_words.specs.declared.option_table.CommandKind.{CommandKind}
use Rattle.command_words.specs.declared.option_table.OptionKind.{OptionKind}
use Rattle.command_words.specs.declared.option_table.OptionKind.TheVariants as option
use Rattle.command_words.specs.declared.option_table.Takes.{Takes}
use Rattle.command_words.specs.declared.roles.Role.{Role}
use Rattle.command_words.specs.declared.roles.Role.TheVariants as role
use Rattle.command_words.specs.declared.usage.UsageWhy.{UsageWhy}
use Rattle.command_words.specs.declared.usage.WordsFault.{WordsFault}
use Rattle.command_words.specs.OptionTable.{option_named, option_number, takes_value, times_of, takes_of}
use Rattle.command_words.specs.Roles.{WordsByRole, by_role, option_role, opens, awaited, times_of_role, role_number, spelled_role, role_of, roles_of}
use Rattle.command_line.proofs.Following.{awaited_after, found, missed, is_none, is_one}
use Rattle.command_line.proofs.Judged.{Pass, roles_more}

-- ---- a role is known by its number

option_at : ℕ → OptionKind
option_at n =
    if n == 0 then option.Store
    else (if n == 1 then option.ChunkSize
    else (if n == 2 then option.Concurrency
    else (if n == 3 then option.Cache
    else (if n == 4 then option.InPlace
    else (if n == 5 then option.Seed
    else (if n == 6 then option.Repair
    else (if n == 7 then option.Yes
    else (if n == 8 then option.Listen
    else (if n == 9 then option.Writable
    else (if n == 10 then option.Digest
    else (if n == 11 then option.Offset
    else (if n == 12 then option.Length
    else option.Retries))))))))))))

at_number : (o : OptionKind) → option_at (option_number o) ≡ o
unfolding option_at
at_number option.Store = refl
at_number option.ChunkSize = refl
at_number option.Concurrency = refl
at_number option.Cache = refl
at_number option.InPlace = refl
at_number option.Seed = refl
at_number option.Repair = refl
at_number option.Yes = refl
at_number option.Listen = refl
at_number option.Writable = refl
at_number option.Digest = refl
at_number option.Offset = refl
at_number option.Length = refl
at_number option.Retries = refl

same_option : (p o : OptionKind) → option_number p ≡ option_number o → p ≡ o
same_option p o e = sym (at_number p) ∙ ap option_at e ∙ at_number o

given_is : (r : Role) (o : OptionKind) → role_number r ≡ role_number (role.Given o) → r ≡ role.Given o
given_is role.Dashes o e = absurd (omega (arith, e))
given_is role.Unknown o e = absurd (omega (arith, e))
given_is role.Operand o e = absurd (omega (arith, e))
given_is (role.Given p) o e = ap role.Given (same_option p o (omega (arith, e)))
given_is (role.Value p) o e = absurd (omega (arith, e))

pub operand_is : (r : Role) → role_number r ≡ role_number role.Operand → r ≡ role.Operand
operand_is role.Dashes e = absurd (omega (arith, e))
operand_is role.Unknown e = absurd (omega (arith, e))
operand_is role.Operand e = refl
operand_is (role.Given p) e = absurd (omega (arith, e))
operand_is (role.Value p) e = absurd (omega (arith, e))

pub value_is : (r : Role) (o : OptionKind) → role_number r ≡ role_number (role.Value o) → r ≡ role.Value o
value_is role.Dashes o e = absurd (omega (arith, e))
value_is role.Unknown o e = absurd (omega (arith, e))
value_is role.Operand o e = absurd (omega (arith, e))
value_is (role.Given p) o e = absurd (omega (arith, e))
value_is (role.Value p) o e = ap role.Value (same_option p o (omega (arith, e)))

-- ---- one more role

one_more : (q r : Role) (roles : List Role) → role_number r ≡ role_number q → times_of_role q (roles ++ r ∷ []) ≡ times_of_role q roles + 1
one_more q r roles same = sum_by_push (λ p. if role_number p == role_number q then 1 else 0) roles r ∙ ap (λ n. times_of_role q roles + n) (cond-true _ _ _ (eq-eqb (role_number r) (role_number q) same))

none_more : (q r : Role) (roles : List Role) → (role_number r ≡ role_number q → ⊥) → times_of_role q (roles ++ r ∷ []) ≡ times_of_role q roles
none_more q r roles other =
    let e = sum_by_push (λ p. if role_number p == role_number q then 1 else 0) roles r ∙ ap (λ n. times_of_role q roles + n) (cond-false _ _ _ (ne_eqb (role_number r) (role_number q) other)) in
    omega (arith, e)

-- ---- along the words

-- what stays with each word that passes
abbrev pub Stays : CommandKind → (WordsByRole → Type 0) → Type 0
Stays k P = (before : List (List ℕ)) (w : List ℕ) → refusal_after k before w ≡ None → P (words_by_role k before)
    → P (by_role (roles_of k before ++ role_of k (roles_of k before) w ∷ []) (before ++ w ∷ []))

-- what holds of no words and stays with each that passes holds of all of them
along : (k : CommandKind) (words : List (List ℕ)) (P : WordsByRole → Type 0) → P (by_role [] []) → Stays k P
    → (n : ℕ) → n ≤ length words → Pass k words n → P (words_by_role k (take n words))
along k words P none more zero le pass = none
along k words P none more (suc n) le pass =
    let w = get_or words n [] in
    let before = roles_of k (take n words) in
    let roles : roles_of k (take (suc n) words) ≡ before ++ role_of k before w ∷ []
    = ap (λ i. roles_of k (take i words)) (sym (add-one n)) ∙ roles_more k words n (omega (arith, le)) in
    let taken : take (suc n) words ≡ take n words ++ w ∷ []
    = ap (λ i. take i words) (sym (add-one n)) ∙ take_more words n [] (omega (arith, le)) in
    subst P (ap₂ by_role (sym roles) (sym taken)) (more (take n words) w (pass n (omega arith)) (along k words P none more n (omega (arith, le)) (λ j l. pass j (omega (arith, l)))))

pub along_all : (k : CommandKind) (words : List (List ℕ)) (P : WordsByRole → Type 0) → P (by_role [] []) → Stays k P → Pass k words (length words) → P (words_by_role k words)
along_all k words P none more pass =
    subst P (ap (words_by_role k) (take_all (length words) words (omega arith))) (along k words P none more (length words) (omega arith) pass)

-- ---- no option and no operand stands more often than it may

pub is_right : (b : Bool) (y : UsageWhy) → unless b y ≡ None → b ≡ true
is_right true y e = refl
is_right false y e = absurd (none-some (refusal.Why y) (sym e))

-- a name that is an operand passes where it isn't empty, isn't too many, and passes as what it names
pub named_right : (empty few : Bool) (named : Option Refusal) (x y : Refusal) → (if empty then Some x else (if few then named else Some y)) ≡ None → (few ≡ true) × (named ≡ None)
named_right true few named x y e = absurd (none-some x (sym e))
named_right false true named x y e = (refl, e)
named_right false false named x y e = absurd (none-some y (sym e))

at_most : (q r : Role) (roles : List Role) (most : ℕ) → times_of_role q roles ≤ most → (role_number r ≡ role_number q → times_of_role q roles < most) → times_of_role q (roles ++ r ∷ []) ≤ most
at_most q r roles most le lt = elim (cases_eq (role_number r) (role_number q)) [
  | inl same ↦ omega (arith, one_more q r roles same, lt same)
  | inr other ↦ omega (arith, none_more q r roles other, le)
]

pub options_bounded : (k : CommandKind) (words : List (List ℕ)) (o : OptionKind) → Pass k words (length words) → times_of_role (role.Given o) (roles_of k words) ≤ (times_of k o).greatest
options_bounded k words o = along_all k words (λ p. times_of_role (role.Given o) p.roles ≤ (times_of k o).greatest) (omega arith)
    (λ before w ok le. let r = role_of k (roles_of k before) w in at_most (role.Given o) r (roles_of k before) (times_of k o).greatest le (λ same.
    let ok : refusal_of k (words_by_role k before) (role.Given o) w ≡ None = subst (λ q. refusal_of k (words_by_role k before) q w ≡ None) (given_is r o same) ok in
    ltb-true _ _ (is_right _ _ ok)))

few_operands : (takes : Takes) (n : ℕ) (w : List ℕ) (b : Bool) → b ≡ false → (if b then demo_operand_refusal n w else name_operand_refusal takes n w) ≡ None → n < takes.operands.greatest
few_operands takes n w true named e = absurd (true≢false named)
few_operands takes n w false named e = ltb-true _ _ (named_right _ _ _ _ _ e).0

pub operands_bounded : (k : CommandKind) (words : List (List ℕ)) → (takes_of k).takes_numbers ≡ false → Pass k words (length words) → times_of_role role.Operand (roles_of k words) ≤ (takes_of k).operands.greatest
operands_bounded k words names = along_all k words (λ p. times_of_role role.Operand p.roles ≤ (takes_of k).operands.greatest) (omega arith)
    (λ before w ok le. let r = role_of k (roles_of k before) w in at_most role.Operand r (roles_of k before) (takes_of k).operands.greatest le (λ same.
    let ok : refusal_of k (words_by_role k before) role.Operand w ≡ None = subst (λ q. refusal_of k (words_by_role k before) q w ≡ None) (operand_is r same) ok in
    few_operands (takes_of k) (times_of_role role.Operand (roles_of k before)) w (takes_of k).takes_numbers names ok))

-- ---- an option with a value has one

-- whether the option's value is to come
waits : OptionKind → Option OptionKind → ℕ
waits o None = 0
waits o (Some p) = if option_number p == option_number o then 1 else 0

-- each option has its value, but one that is to come
abbrev Paired : OptionKind → List Role → Type 0
Paired o roles = times_of_role (role.Value o) roles + waits o (awaited roles) ≡ times_of_role (role.Given o) roles

-- no value
abbrev IsSpelled : Role → Type 0
IsSpelled (role.Value o) = ⊥
IsSpelled other = Unit {0}

spelled_if : (b : Bool) (r q : Role) → IsSpelled r → IsSpelled q → IsSpelled (if b then r else q)
spelled_if true r q a b = a
spelled_if false r q a b = b

spelled_option : (x : Option OptionKind) → IsSpelled (option_role x)
spelled_option None = tt
spelled_option (Some o) = tt

spelled : (k : CommandKind) (w : List ℕ) → IsSpelled (spelled_role k w)
spelled k w =
    let named = option_role (option_named k w) in
    let dashed = starts_with nat_eq w (codes "-") in
    spelled_if (bytes_eq w (codes "--")) role.Dashes (if dashed then named else role.Operand) tt (spelled_if dashed named role.Operand (spelled_option (option_named k w)) tt)

waits_one : (o p : OptionKind) → option_number p ≡ option_number o → waits o (Some p) ≡ 1
unfolding waits
waits_one o p same = cond-true _ _ _ (eq-eqb (option_number p) (option_number o) same)

waits_none : (o p : OptionKind) → (option_number p ≡ option_number o → ⊥) → waits o (Some p) ≡ 0
unfolding waits
waits_none o p other = cond-false _ _ _ (ne_eqb (option_number p) (option_number o) other)

-- an option after which no value is to come
waits_other : (o p : OptionKind) (b : Bool) → (option_number p ≡ option_number o → ⊥) → waits o (if b then Some p else None) ≡ 0
unfolding waits
waits_other o p true other = waits_none o p other
waits_other o p false other = refl

waits_after : (o : OptionKind) (roles : List Role) (r : Role) → waits o (awaited (roles ++ r ∷ [])) ≡ waits o (opens r)
waits_after o roles r = ap (waits o) (awaited_after roles r)

-- a value that was to come
valued : (o p : OptionKind) (roles : List Role) → awaited roles ≡ Some p → Paired o roles → Paired o (roles ++ role.Value p ∷ [])
unfolding waits
valued o p roles is e =
    let before = ap (waits o) is in
    let after = waits_after o roles (role.Value p) in
    let given = none_more (role.Given o) (role.Value p) roles (λ same. omega (arith, same)) in
    elim (cases_eq (option_number p) (option_number o)) [
      | inl same ↦ omega (arith, e, before, after, given, waits_one o p same, one_more (role.Value o) (role.Value p) roles (omega (arith, same)))
      | inr other ↦ omega (arith, e, before, after, given, waits_none o p other, none_more (role.Value o) (role.Value p) roles (λ same. other (omega (arith, same))))
    ]

-- a word by itself
paired_spelled : (o : OptionKind) (roles : List Role) (r : Role) → takes_value o ≡ true → IsSpelled r → awaited roles ≡ None → Paired o roles → Paired o (roles ++ r ∷ [])
unfolding waits
paired_spelled o roles role.Dashes takes free is e = omega (arith, e, ap (waits o) is, waits_after o roles role.Dashes, none_more (role.Given o) role.Dashes roles (λ same. omega (arith, same)), none_more (role.Value o) role.Dashes roles (λ same. omega (arith, same)))
paired_spelled o roles role.Unknown takes free is e = omega (arith, e, ap (waits o) is, waits_after o roles role.Unknown, none_more (role.Given o) role.Unknown roles (λ same. omega (arith, same)), none_more (role.Value o) role.Unknown roles (λ same. omega (arith, same)))
paired_spelled o roles role.Operand takes free is e = omega (arith, e, ap (waits o) is, waits_after o roles role.Operand, none_more (role.Given o) role.Operand roles (λ same. omega (arith, same)), none_more (role.Value o) role.Operand roles (λ same. omega (arith, same)))
paired_spelled o roles (role.Value p) takes free is e = absurd free
paired_spelled o roles (role.Given p) takes free is e =
    let before = ap (waits o) is in
    let after = waits_after o roles (role.Given p) in
    let value = none_more (role.Value o) (role.Given p) roles (λ same. omega (arith, same)) in
    elim (cases_eq (option_number p) (option_number o)) [
      | inl same ↦
          let opened : opens (role.Given p) ≡ Some p = cond-true _ _ _ (ap takes_value (same_option p o same) ∙ takes) in
          omega (arith, e, before, after, value, ap (waits o) opened, waits_one o p same, one_more (role.Given o) (role.Given p) roles (omega (arith, same)))
      | inr other ↦ omega (arith, e, before, after, value, waits_other o p (takes_value p) other, none_more (role.Given o) (role.Given p) roles (λ same. other (omega (arith, same))))
    ]

paired_more : (k : CommandKind) (o : OptionKind) (roles : List Role) (w : List ℕ) (a : Option OptionKind) → takes_value o ≡ true → awaited roles ≡ a → Paired o roles
    → Paired o (roles ++ elim a [ Some p ↦ role.Value p | None ↦ if nat_lt 0 (times_of_role role.Dashes roles) then role.Operand else spelled_role k w ] ∷ [])
paired_more k o roles w (Some p) takes is e = valued o p roles is e
paired_more k o roles w None takes is e = paired_spelled o roles _ takes (spelled_if (nat_lt 0 (times_of_role role.Dashes roles)) role.Operand (spelled_role k w) tt (spelled k w)) is e

pub values_counted : (k : CommandKind) (words : List (List ℕ)) (o : OptionKind) → takes_value o ≡ true → Pass k words (length words) → awaited (roles_of k words) ≡ None
    → times_of_role (role.Value o) (roles_of k words) ≡ times_of_role (role.Given o) (roles_of k words)
unfolding waits
values_counted k words o takes pass ended =
    let e = along_all k words (λ p. Paired o p.roles) refl (λ before w ok e. paired_more k o (roles_of k before) w (awaited (roles_of k before)) takes refl e) pass in
    omega (arith, e, ap (waits o) ended)

-- ---- words that are judged right

pub record Passes (k : CommandKind) (words : List (List ℕ)) (roles : List Role) : Type 0 where
  pub roles_are : roles ≡ roles_of k words
  pub pass : Pass k words (length words)
  pub ended : awaited (roles_of k words) ≡ None

abbrev answer : CommandKind → List (List ℕ) → Option WordsFault → Result (List Role) WordsFault
answer k words f = elim f [ Some e ↦ Err e | None ↦ Ok (roles_of k words) ]

same_roles : (r : Result (List Role) WordsFault) (x y : List Role) → r ≡ Ok x → r ≡ Ok y → x ≡ y
same_roles r x y a b = cc

ended_by : (k : CommandKind) (words : List (List ℕ)) (roles : List Role) (a : Option OptionKind) (f : WordsFault) → answer k words (if is_some a then Some f else None) ≡ Ok roles → (a ≡ None) × (roles ≡ roles_of k words)
ended_by k words roles None f e = (refl, sym (same_roles _ _ _ refl e))
ended_by k words roles (Some o) f e = absurd cc

passed_by : (k : CommandKind) (words : List (List ℕ)) (roles : List Role) (i : Option ℕ) → first_refused k words ≡ i → answer k words (fault_by k words i) ≡ Ok roles → Passes k words roles
passed_by k words roles None none e =
    let h = ended_by k words roles (awaited (roles_of k words)) _ e in
    record {
      roles_are = h.1;
      pass = λ j l. is_none (refusal_at k words j) (missed (λ n. is_some (refusal_at k words n)) 0 (length words) none j (omega arith) (omega (arith, l)));
      ended = h.0;
    }
passed_by k words roles (Some i) some e =
    let f = found (λ j. is_some (refusal_at k words j)) 0 (length words) i some in
    let r = is_one (refusal_at k words i) f.1 in
    let no : Err (fault_at (i + 1) r.0) ≡ Ok roles = sym (ap (λ o. answer k words (option_map (fault_at (i + 1)) o)) r.1) ∙ e in
    absurd cc

pub judged_right : (k : CommandKind) (words : List (List ℕ)) (roles : List Role) → judged k words ≡ Ok roles → Passes k words roles
judged_right k words roles e = passed_by k words roles (first_refused k words) refl e
