-- What the words that follow leave of the roles and the fault of those before them.
use Rattle.std.proofs.Common.{◌≡◌, ◌<◌, ◌≤◌, ℕ, zero, suc, ◌+◌, Bool, true, false, List, [], ◌∷◌, ◌++◌, append_assoc, length, map, take, fold, nat_lt, ◌==◌, if◌then◌else◌, Option, Some, None, is_some, Ok, Err, refl, sym, ap, ap₂, ◌∙◌, arith, inl, inr}
use Rattle.std.proofs.Math.Seq.{take-append_seam, get_or-append_seam}
use Rattle.std.proofs.lemmas.Bool.{cond-true, cases_eq, lt-ltb, true≢false, false≢true}
use Rattle.std.proofs.lemmas.Option.{none-some}
use Rattle.std.proofs.lemmas.List.{append-nil, length-append, take-append-le, get_or_append_left, length_push}
use Rattle.std.proofs.lemmas.List.Sums.{fold-append, sum_by-append}
use Rattle.std.specs.List.{find, range_with_len, slice_get}
use Rattle.command_line.specs.declared.judge.Refusal.TheVariants as refusal
use Rattle.command_line.specs.CommandLine.{command_by, command_with}
use Rattle.command_line.specs.Judging.{refusal_after, refusal_at, first_refused, first_word_fault, fault_at}
use Rattle.command_words.specs.declared.option_table.CommandKind.{CommandKind}
use Rattle.command_words.specs.declared.option_table.OptionKind.{OptionKind}
use Rattle.command_words.specs.declared.roles.Role.{Role}
use Rattle.command_words.specs.declared.roles.Role.TheVariants as role
use Rattle.command_words.specs.declared.usage.UsageWhy.{UsageWhy}
use Rattle.command_words.specs.declared.usage.WordsFault.{WordsFault}
use Rattle.command_words.specs.declared.usage.WordsFault.TheVariants as fault
use Rattle.command_words.specs.OptionTable.{takes_value}
use Rattle.command_words.specs.Roles.{opens, awaited, times_of_role, role_number, spelled_role, role_of, roles_of}
use Rattle.command_line.proofs.Judged.{Pass, at_first}

-- ---- the roles of the words that follow

abbrev later : CommandKind → List Role → List (List ℕ) → List Role
later k before [] = []
later k before (w ∷ words) = role_of k before w ∷ later k (before ++ role_of k before w ∷ []) words

grows : (k : CommandKind) (before : List Role) (words : List (List ℕ)) → fold (λ b w. b ++ role_of k b w ∷ []) before words ≡ before ++ later k before words
grows k before [] = sym (append-nil before)
grows k before (w ∷ words) = grows k (before ++ role_of k before w ∷ []) words ∙ append_assoc before (role_of k before w ∷ []) (later k (before ++ role_of k before w ∷ []) words)

pub roles_then : (k : CommandKind) (words more : List (List ℕ)) → roles_of k (words ++ more) ≡ roles_of k words ++ later k (roles_of k words) more
roles_then k words more = fold-append (λ b w. b ++ role_of k b w ∷ []) [] words more ∙ grows k (roles_of k words) more

length_later : (k : CommandKind) (before : List Role) (words : List (List ℕ)) → length (later k before words) ≡ length words
length_later k before [] = refl
length_later k before (w ∷ words) = ap suc (length_later k (before ++ role_of k before w ∷ []) words)

pub roles_length : (k : CommandKind) (words : List (List ℕ)) → length (roles_of k words) ≡ length words
roles_length k words = ap length (grows k [] words) ∙ length_later k [] words

pub roles_stay : (k : CommandKind) (words more : List (List ℕ)) → take (length words) (roles_of k (words ++ more)) ≡ roles_of k words
roles_stay k words more = ap₂ take (sym (roles_length k words)) (roles_then k words more) ∙ take-append_seam (roles_of k words) (later k (roles_of k words) more)

-- ---- after an option with a value

last_is : (roles : List Role) (r : Role) → slice_get (roles ++ r ∷ []) (length roles) ≡ Some r
last_is [] r = refl
last_is (q ∷ roles) r = last_is roles r

pub awaited_after : (roles : List Role) (r : Role) → awaited (roles ++ r ∷ []) ≡ opens r
awaited_after roles r = ap (λ o. elim o [ None ↦ None | Some q ↦ opens q ])
    (ap (slice_get (roles ++ r ∷ [])) (omega (arith, length_push roles r)) ∙ last_is roles r)

value_is : (k : CommandKind) (roles : List Role) (v : List ℕ) (o : OptionKind) → takes_value o ≡ true → role_of k (roles ++ role.Given o ∷ []) v ≡ role.Value o
value_is k roles v o takes = ap (λ a. elim a [ Some p ↦ role.Value p | None ↦ if nat_lt 0 (times_of_role role.Dashes (roles ++ role.Given o ∷ [])) then role.Operand else spelled_role k v ])
    (awaited_after roles (role.Given o) ∙ cond-true _ _ _ takes)

pub value_follows : (k : CommandKind) (before : List (List ℕ)) (w v : List ℕ) (o : OptionKind) → role_of k (roles_of k before) w ≡ role.Given o → takes_value o ≡ true
    → roles_of k (before ++ w ∷ v ∷ []) ≡ roles_of k before ++ role.Given o ∷ role.Value o ∷ []
value_follows k before w v o given takes =
    roles_then k before (w ∷ v ∷ [])
    ∙ ap (λ r. roles_of k before ++ r ∷ role_of k (roles_of k before ++ r ∷ []) v ∷ []) given
    ∙ ap (λ r. roles_of k before ++ role.Given o ∷ r ∷ []) (value_is k (roles_of k before) v o takes)

-- ---- after `--`

operand_is : (k : CommandKind) (roles : List Role) (w : List ℕ) → awaited roles ≡ None → 0 < times_of_role role.Dashes roles → role_of k roles w ≡ role.Operand
operand_is k roles w none some =
    ap (λ a. elim a [ Some p ↦ role.Value p | None ↦ if nat_lt 0 (times_of_role role.Dashes roles) then role.Operand else spelled_role k w ]) none ∙ cond-true _ _ _ (lt-ltb _ _ some)

operands_later : (k : CommandKind) (roles : List Role) (words : List (List ℕ)) → awaited roles ≡ None → 0 < times_of_role role.Dashes roles → later k roles words ≡ map (λ v. role.Operand) words
operands_later k roles [] none some = refl
operands_later k roles (w ∷ words) none some =
    ap (λ r. r ∷ later k (roles ++ r ∷ []) words) (operand_is k roles w none some)
    ∙ ap (λ rs. role.Operand ∷ rs) (operands_later k (roles ++ role.Operand ∷ []) words (awaited_after roles role.Operand) (omega (arith, some, sum_by-append (λ q. if role_number q == 0 then 1 else 0) roles (role.Operand ∷ []))))

pub operands_follow : (k : CommandKind) (before after : List (List ℕ)) (w : List ℕ) → role_of k (roles_of k before) w ≡ role.Dashes
    → roles_of k (before ++ w ∷ after) ≡ roles_of k before ++ role.Dashes ∷ map (λ v. role.Operand) after
operands_follow k before after w dashes =
    roles_then k before (w ∷ after)
    ∙ ap (λ r. roles_of k before ++ r ∷ later k (roles_of k before ++ r ∷ []) after) dashes
    ∙ ap (λ rs. roles_of k before ++ role.Dashes ∷ rs) (operands_later k (roles_of k before ++ role.Dashes ∷ []) after (awaited_after (roles_of k before) role.Dashes) (omega (arith, sum_by-append (λ q. if role_number q == 0 then 1 else 0) (roles_of k before) (role.Dashes ∷ []))))

-- ---- the first word that is refused

abbrev IsFound : (ℕ → Bool) → ℕ → ℕ → ℕ → Type 0
IsFound p a n i = (i < a + n) × (p i ≡ true) × ((j : ℕ) → a ≤ j → j < i → p j ≡ false)

one_number : (a i : ℕ) → Some a ≡ Some i → a ≡ i
one_number a i e = cc

found_by : (p : ℕ → Bool) (a n i : ℕ) (b : Bool) → p a ≡ b → (find p (range_with_len (a + 1) n) ≡ Some i → IsFound p (a + 1) n i)
    → (if b then Some a else find p (range_with_len (a + 1) n)) ≡ Some i → IsFound p a (suc n) i
found_by p a n i true is rest e =
    let here : a ≡ i = one_number a i e in (omega (arith, here), ap p (sym here) ∙ is, λ j lo hi. absurd (omega (arith, here, lo, hi)))
found_by p a n i false is rest e =
    let r = rest e in
    (omega (arith, r.0), r.1, λ j lo hi. elim (cases_eq j a) [ inl here ↦ ap p here ∙ is | inr other ↦ r.2 j (omega (arith, lo, other)) hi ])

pub found : (p : ℕ → Bool) (a n i : ℕ) → find p (range_with_len a n) ≡ Some i → IsFound p a n i
found p a zero i e = absurd (none-some i e)
found p a (suc n) i e = found_by p a n i (p a) refl (found p (a + 1) n i) e

missed_by : (p : ℕ → Bool) (a n : ℕ) (b : Bool) → p a ≡ b → (find p (range_with_len (a + 1) n) ≡ None → (j : ℕ) → a + 1 ≤ j → j < a + 1 + n → p j ≡ false)
    → (if b then Some a else find p (range_with_len (a + 1) n)) ≡ None → (j : ℕ) → a ≤ j → j < a + suc n → p j ≡ false
missed_by p a n true is rest e = absurd (none-some a (sym e))
missed_by p a n false is rest e = λ j lo hi. elim (cases_eq j a) [ inl here ↦ ap p here ∙ is | inr other ↦ rest e j (omega (arith, lo, other)) (omega (arith, hi)) ]

pub missed : (p : ℕ → Bool) (a n : ℕ) → find p (range_with_len a n) ≡ None → (j : ℕ) → a ≤ j → j < a + n → p j ≡ false
missed p a zero e j lo hi = absurd (omega arith)
missed p a (suc n) e j lo hi = missed_by p a n (p a) refl (missed p (a + 1) n) e j lo hi

pub is_none : {X : Type 0} (o : Option X) → is_some o ≡ false → o ≡ None
is_none None e = refl
is_none (Some x) e = absurd (true≢false e)

pub is_one : {X : Type 0} (o : Option X) → is_some o ≡ true → (x : X) × (o ≡ Some x)
is_one None e = absurd (false≢true e)
is_one (Some x) e = (x, refl)

refusal_stays : (k : CommandKind) (words more : List (List ℕ)) (j : ℕ) → j < length words → refusal_at k (words ++ more) j ≡ refusal_at k words j
refusal_stays k words more j lt = ap₂ (refusal_after k) (take-append-le j words more (omega (arith, lt))) (get_or_append_left words more [] j lt)

decided : (k : CommandKind) (words : List (List ℕ)) (f : WordsFault) → first_word_fault k words ≡ Some f → command_with k words ≡ Err f
decided k words f e = ap (λ x. command_by k words (elim x [ Some y ↦ Err y | None ↦ Ok (roles_of k words) ])) e

-- a word that is refused stays the first one, for the same reason
pub fault_stays : (k : CommandKind) (words more : List (List ℕ)) (i : ℕ) → first_refused k words ≡ Some i → command_with k (words ++ more) ≡ command_with k words
fault_stays k words more i e =
    let f = found (λ j. is_some (refusal_at k words j)) 0 (length words) i e in
    let lt : i < length words = omega (arith, f.0) in
    let r = is_one (refusal_at k words i) f.1 in
    let passes : Pass k words i = λ j l. is_none (refusal_at k words j) (f.2 j (omega arith) l) in
    decided k (words ++ more) (fault_at (i + 1) r.0) (at_first k (words ++ more) i r.0 (omega (arith, lt, length-append words more)) (λ j l. refusal_stays k words more j (omega (arith, l, lt)) ∙ passes j l) (refusal_stays k words more i lt ∙ r.1))
    ∙ sym (decided k words (fault_at (i + 1) r.0) (at_first k words i r.0 lt passes r.1))

pub first_decides : (k : CommandKind) (before after : List (List ℕ)) (w : List ℕ) (y : UsageWhy) → first_refused k before ≡ None → refusal_after k before w ≡ Some (refusal.Why y)
    → command_with k (before ++ w ∷ after) ≡ Err (fault.Usage (length before + 1) y)
first_decides k before after w y none is =
    let all = before ++ w ∷ after in
    let passes : Pass k before (length before) = λ j l. is_none (refusal_at k before j) (missed (λ n. is_some (refusal_at k before n)) 0 (length before) none j (omega arith) (omega (arith, l))) in
    let here : refusal_at k all (length before) ≡ Some (refusal.Why y) = ap₂ (refusal_after k) (take-append_seam before (w ∷ after)) (get_or-append_seam before w after []) ∙ is in
    decided k all (fault.Usage (length before + 1) y) (at_first k all (length before) (refusal.Why y) (omega (arith, length-append before (w ∷ after))) (λ j l. refusal_stays k before (w ∷ after) j l ∙ passes j l) here)
