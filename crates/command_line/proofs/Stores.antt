-- The stores that words name, and the locations of a group, as far as they have been taken.
use Rattle.std.proofs.Common.{◌≡◌, ◌<◌, ◌≤◌, ℕ, ◌+◌, ◌-◌, ◌==◌, ◌||◌, nat_lt, Bor, List, [], length, get_or, map, take, drop, sum_by, Some, None, Err, true, false, sym, ap, ◌∙◌, arith}
use Rattle.std.proofs.lemmas.Bool.{cond-true, cond-false, lt-ltb, le-ltb}
use Rattle.std.proofs.lemmas.List.{drop_more, get_or-map, length-map, take_more}
use Rattle.std.proofs.lemmas.List.Splits.{length-slice_split}
use Rattle.std.proofs.lemmas.List.Sums.{sum_by_push}
use Rattle.std.specs.List.{list_any}
use Rattle.std.specs.Option.{option_or}
use Rattle.command_line.specs.declared.judge.Refusal.{Refusal}
use Rattle.command_line.specs.declared.judge.Refusal.TheVariants as refusal
use Rattle.command_line.specs.Judging.{RefusesWords, group_refusal, is_empty, parts_refusal, store_refusal}
use Rattle.command_words.specs.declared.usage.UsageWhy.TheVariants as why
use Rattle.command_words.specs.Locations.{location_of, parts_of}

-- the room that one more word with stores leaves
pub room_left : (ws : List (List ℕ)) (i n m : ℕ) → i < length ws → n ≡ 16 - sum_by (λ w. length (parts_of w)) (take i ws) → m ≡ n - length (parts_of (get_or ws i []))
    → m ≡ 16 - sum_by (λ w. length (parts_of w)) (take (i + 1) ws)
room_left ws i n m lt e h =
    let more = ap (sum_by (λ w. length (parts_of w))) (take_more ws i [] lt) ∙ sum_by_push (λ w. length (parts_of w)) (take i ws) (get_or ws i []) in
    omega (arith, e, h, more)

-- the part at a place and those after it
parts_from : (ws : List (List ℕ)) (i : ℕ) → i < length ws → parts_refusal (drop i ws) ≡ option_or (store_refusal false (location_of (get_or ws i []))) (parts_refusal (drop (i + 1) ws))
parts_from ws i lt = ap parts_refusal (drop_more ws i [] lt)

-- a part that passes leaves those after it to decide
pub part_passes : (ws : List (List ℕ)) (i : ℕ) (w : List ℕ) → i < length ws → w ≡ get_or ws i [] → store_refusal false (location_of w) ≡ None → parts_refusal (drop (i + 1) ws) ≡ parts_refusal (drop i ws)
part_passes ws i w lt is ok = sym (parts_from ws i lt ∙ ap (λ r. option_or r (parts_refusal (drop (i + 1) ws))) (ap (λ v. store_refusal false (location_of v)) (sym is) ∙ ok))

-- the first that doesn't pass decides
pub part_refused : (ws : List (List ℕ)) (i : ℕ) (w : List ℕ) (r : Refusal) → i < length ws → w ≡ get_or ws i [] → RefusesWords (store_refusal false (location_of w)) (Err r) → parts_refusal (drop i ws) ≡ parts_refusal ws
    → RefusesWords (parts_refusal ws) (Err r)
part_refused ws i w (refusal.Why y) lt is h all = sym all ∙ parts_from ws i lt ∙ ap (λ r. option_or r (parts_refusal (drop (i + 1) ws))) (ap (λ v. store_refusal false (location_of v)) (sym is) ∙ h)
part_refused ws i w refusal.Memory lt is h all = tt

-- ---- a group after n stores, and the room that these leave

group_few : (n room : ℕ) (w : List ℕ) → room ≡ 16 - n → length (parts_of w) ≤ room → nat_lt 16 (n + length (parts_of w)) ≡ false
group_few n room w e le = le-ltb 16 (n + length (parts_of w)) (omega (arith, e, le, length-slice_split (λ c. c == 124) w))

pub many_of : (n room : ℕ) (w : List ℕ) → room ≡ 16 - n → room < length (parts_of w) → group_refusal n (parts_of w) ≡ Some (refusal.Why why.TooMany)
many_of n room w e lt = cond-true _ _ _ (lt-ltb 16 (n + length (parts_of w)) (omega (arith, e, lt)))

pub empty_of : (n room : ℕ) (w : List ℕ) → room ≡ 16 - n → length (parts_of w) ≤ room → list_any is_empty (parts_of w) ≡ true → group_refusal n (parts_of w) ≡ Some (refusal.Why why.Empty)
empty_of n room w e le is = cond-false _ _ _ (group_few n room w e le) ∙ cond-true _ _ _ is

pub judges : (n room : ℕ) (w : List ℕ) → room ≡ 16 - n → length (parts_of w) ≤ room → list_any is_empty (parts_of w) ≡ false → group_refusal n (parts_of w) ≡ parts_refusal (parts_of w)
judges n room w e le is = cond-false _ _ _ (group_few n room w e le) ∙ cond-false _ _ _ is

-- a part and those after it, one of which may be empty
pub empty_from : (ps : List (Bor (List ℕ))) (i : ℕ) (d : Bor (List ℕ)) → i < length ps
    → list_any is_empty (drop i (map (λ p. p.now) ps)) ≡ is_empty (get_or ps i d).now || list_any is_empty (drop (i + 1) (map (λ p. p.now) ps))
empty_from ps i d lt =
    let words : List (List ℕ) = map (λ p. p.now) ps in
    ap (list_any is_empty) (drop_more words i [] (omega (arith, lt, length-map ps (λ p. p.now))))
    ∙ ap (λ w. is_empty w || list_any is_empty (drop (i + 1) words)) (get_or-map (λ p. p.now) ps i d [] lt)
