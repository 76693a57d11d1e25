-- Last components of names, and how those of temporary files begin.
use Rattle.std.proofs.Common.{◌≡◌, ◌≢◌, ℕ, zero, suc, ◌+◌, ◌-◌, ◌/◌, ◌%◌, ◌<◌, ◌≤◌, ◌==◌, List, [], ◌∷◌, ◌++◌, length, take, drop, get_or, slice_index, codes, Bool, true, false, not, ◌&&◌, nat_eq, refl, sym, ap, ◌∙◌, arith, inl, inr, length-append}
use Rattle.std.proofs.lemmas.Bool.{cases_lt}
use Rattle.std.proofs.lemmas.Bool.Decides.{nat_tests}
use Rattle.std.proofs.lemmas.List.{get_or_past, get_or_append_left, get_or-append_right, get_or-take, get_or-drop, length-take-le, length-drop}
use Rattle.std.proofs.lemmas.List.Folds.{list_all-append}
use Rattle.std.proofs.lemmas.List.Sums.{AllPass-from_list_all, suffix_len_is}
use Rattle.std.proofs.Math.Seq.{drop-append_seam}
use Rattle.std.specs.List.{after_last, list_all, starts_with, suffix_len}
use Rattle.chunk_store.specs.Paths.{path_of}
use Rattle.dsy_base.specs.Folders.{stem, temporary_of}
use Rattle.hex.specs.Hex.{encode_lower, encode_with, lower_digits}
use Rattle.dir_store.specs.Names.{is_temporary}

-- ---- where the last component begins

is_no_slash : (c : ℕ) → c ≢ 47 → not (c == 47) ≡ true
is_no_slash c h = grind (arith, nat_tests)

is_slash : (c : ℕ) → c ≡ 47 → not (c == 47) ≡ false
is_slash c h = grind (arith, nat_tests)

pub last_from : (bs : List ℕ) (n : ℕ) → n ≤ length bs → ((j : ℕ) → n ≤ j → j < length bs → get_or bs j 0 ≢ 47) → (0 < n → get_or bs (n - 1) 0 ≡ 47) → after_last (λ c. c == 47) bs ≡ drop n bs
last_from bs n inside after before =
    let rest = suffix_len_is (λ c. not (c == 47)) bs n 0 inside (λ j le lt. is_no_slash (get_or bs j 0) (after j le lt)) (λ more. is_slash (get_or bs (n - 1) 0) (before more)) in
    let at : length bs - suffix_len (λ c. not (c == 47)) bs ≡ n = omega (arith, rest) in
    ap (λ k. drop k bs) at

-- ---- the stem

stem_inside : (bs : List ℕ) → stem bs ≤ length bs
stem_inside [] = omega arith
stem_inside (c ∷ cs) = let e = stem_inside cs in grind (arith, nat_tests, e)

stem_slash : (bs : List ℕ) (k : ℕ) → stem bs ≡ suc k → get_or bs k 0 ≡ 47
stem_slash [] k h = absurd (omega arith)
stem_slash (c ∷ cs) zero h = grind (arith, nat_tests)
stem_slash (c ∷ cs) (suc k) h =
    let back : stem cs ≡ suc k = grind (arith, nat_tests) in
    stem_slash cs k back

stem_after : (bs : List ℕ) (k : ℕ) → stem bs ≤ k → k < length bs → get_or bs k 0 ≢ 47
stem_after [] k le lt = absurd (omega arith)
stem_after (c ∷ cs) zero le lt = grind (arith, nat_tests)
stem_after (c ∷ cs) (suc k) le lt =
    let below : stem cs ≤ k = grind (arith, nat_tests) in
    stem_after cs k below (omega arith)

-- ---- temporary files

mark_no_slash : (k : ℕ) → k < 10 → get_or (codes ".tmp-cacnk") k 0 ≢ 47
mark_no_slash k lt same =
    let passes = AllPass-from_list_all (λ c. not (c == 47)) (codes ".tmp-cacnk") refl k 0 lt in
    let both : false ≡ true = sym (is_slash (get_or (codes ".tmp-cacnk") k 0) same) ∙ passes in
    cc

module _ (q : List ℕ) where
  abbrev front : List ℕ
  front = take (stem q) q

  abbrev back : List ℕ
  back = drop (stem q) q

  front_long : length front ≡ stem q
  front_long = length-take-le (stem q) q (stem_inside q)

  behind : (j : ℕ) → stem q ≤ j → j < length (front ++ (codes ".tmp-cacnk" ++ back)) → get_or (front ++ (codes ".tmp-cacnk" ++ back)) j 0 ≢ 47
  behind j le lt same =
      let at = get_or-append_right front (codes ".tmp-cacnk" ++ back) (stem q) j 0 front_long le in
      elim (cases_lt (j - stem q) 10) [
        | inl mark ↦ mark_no_slash (j - stem q) mark (sym (get_or_append_left (codes ".tmp-cacnk") back 0 (j - stem q) mark) ∙ sym at ∙ same)
        | inr past ↦
            let there = get_or-append_right (codes ".tmp-cacnk") back 10 (j - stem q) 0 refl past in
            let own = get_or-drop (stem q) q (j - stem q - 10) 0 in
            let whole = length-append front (codes ".tmp-cacnk" ++ back) in
            let mark_long = length-append (codes ".tmp-cacnk") back in
            let ten : length (codes ".tmp-cacnk") ≡ 10 = refl in
            let rest = length-drop (stem q) q in
            let inside : stem q + (j - stem q - 10) < length q = omega (arith, front_long, stem_inside q) in
            stem_after q (stem q + (j - stem q - 10)) (omega arith) inside (sym own ∙ sym there ∙ sym at ∙ same)
      ]

  before : 0 < stem q → get_or (front ++ (codes ".tmp-cacnk" ++ back)) (stem q - 1) 0 ≡ 47
  before more =
      let at = get_or_append_left front (codes ".tmp-cacnk" ++ back) 0 (stem q - 1) (omega (arith, front_long)) in
      at ∙ get_or-take (stem q) q (stem q - 1) 0 (omega arith) ∙ stem_slash q (stem q - 1) (omega arith)

  last_of_temporary : after_last (λ c. c == 47) (front ++ (codes ".tmp-cacnk" ++ back)) ≡ codes ".tmp-cacnk" ++ back
  last_of_temporary =
      last_from (front ++ (codes ".tmp-cacnk" ++ back)) (stem q) (omega (arith, front_long, length-append front (codes ".tmp-cacnk" ++ back))) behind before
      ∙ ap (λ n. drop n (front ++ (codes ".tmp-cacnk" ++ back))) (sym front_long)
      ∙ drop-append_seam front (codes ".tmp-cacnk" ++ back)

  pub is_temporary-temporary_of : is_temporary (temporary_of q) ≡ true
  unfolding temporary_of
  is_temporary-temporary_of = ap (λ last. starts_with nat_eq last (codes ".tmp-cacnk")) last_of_temporary

-- ---- paths of ids

abbrev no_dots : List ℕ → Bool
no_dots bs = list_all (λ c. not (c == 46)) bs

digit_no_dot : (k : ℕ) → not (slice_index lower_digits k == 46) ≡ true
digit_no_dot k = elim (cases_lt k 16) [
  | inl below ↦ AllPass-from_list_all (λ c. not (c == 46)) lower_digits refl k 0 below
  | inr past ↦ rw (get_or_past lower_digits k 0 past) refl
]

no_dots-encode_lower : (bs : List ℕ) → no_dots (encode_lower bs) ≡ true
unfolding encode_with
no_dots-encode_lower [] = refl
no_dots-encode_lower (b ∷ rest) = rw (digit_no_dot (b / 16), digit_no_dot (b % 16)) (no_dots-encode_lower rest)

no_dots-path_of : (id : List ℕ) → no_dots (path_of id) ≡ true
unfolding path_of
no_dots-path_of id =
    list_all-append (λ c. not (c == 46)) (encode_lower (take 2 id)) (47 ∷ encode_lower id)
    ∙ rw (no_dots-encode_lower (take 2 id)) (no_dots-encode_lower id)

no_dots-drop : (n : ℕ) (bs : List ℕ) → no_dots bs ≡ true → no_dots (drop n bs) ≡ true
no_dots-drop zero bs h = h
no_dots-drop (suc n) [] h = refl
no_dots-drop (suc n) (b ∷ bs) h = no_dots-drop n bs (rest (not (b == 46)) (no_dots bs) h) where
  rest : (x y : Bool) → (x && y) ≡ true → y ≡ true
  rest true y h = h
  rest false y h = absurd (cc)

no_mark : (bs : List ℕ) → no_dots bs ≡ true → starts_with nat_eq bs (codes ".tmp-cacnk") ≡ false
no_mark [] h = refl
no_mark (b ∷ bs) h = first (not (b == 46)) (no_dots bs) h refl where
  first : (x y : Bool) → (x && y) ≡ true → x ≡ not (b == 46) → starts_with nat_eq (b ∷ bs) (codes ".tmp-cacnk") ≡ false
  first true y h e = let other : (46 == b) ≡ false = grind (arith, nat_tests) in rw other refl
  first false y h e = absurd (cc)

pub is_temporary-path_of : (id : List ℕ) → is_temporary (path_of id) ≡ false
is_temporary-path_of id = no_mark (after_last (λ c. c == 47) (path_of id)) (no_dots-drop (length (path_of id) - suffix_len (λ c. not (c == 47)) (path_of id)) (path_of id) (no_dots-path_of id))
