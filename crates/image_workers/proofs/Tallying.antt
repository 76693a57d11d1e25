-- How many of the first entries have a fate.
use Rattle.std.proofs.Common.{◌≡◌, ◌+◌, ◌%◌, ◌∙◌, ◌<◌, ℕ, zero, suc, List, [], All, get_or, length, map, true, refl, sym, ap, subst, arith}
use Rattle.std.proofs.lemmas.Bool.{true≢false}
use Rattle.std.proofs.lemmas.List.{get_or-map, get_or_default}
use Rattle.std.specs.Global.{Vec}
use Rattle.assembler.specs.Passes.{want_at}
use Rattle.chunk_sources.specs.Economy.{sum_below}
use Rattle.extract_plan.specs.Deal.{Deal}
use Rattle.range_survey.specs.Fates.{fate_at, is_settled}
use Rattle.range_survey.specs.Reports.{one_if}
use Rattle.range_survey.specs.declared.fate.Fate.{Fate}
use Rattle.range_survey.specs.declared.fate.Fate.TheVariants as fate
use Rattle.image_workers.specs.Reporting.{fate_told, known_at, reported_at}

-- how many of the first n have the fate f
abbrev pub with_fate : Fate → (ℕ → Fate) → ℕ → ℕ
with_fate f at n = sum_below (λ i. one_if f (at i)) n

one_of : (x : Fate) → one_if fate.Kept x + one_if fate.Copied x + one_if fate.Seeded x + one_if fate.Cached x + one_if fate.Fetched x + one_if fate.Open x ≡ 1
one_of fate.Open = refl
one_of fate.Kept = refl
one_of fate.Copied = refl
one_of fate.Seeded = refl
one_of fate.Cached = refl
one_of fate.Fetched = refl

-- each entry has one fate
pub each_one : (at : ℕ → Fate) (k : ℕ) → with_fate fate.Kept at k + with_fate fate.Copied at k + with_fate fate.Seeded at k + with_fate fate.Cached at k + with_fate fate.Fetched at k + with_fate fate.Open at k ≡ k
each_one at zero = refl
each_one at (suc k) =
    let rest = each_one at k in
    let here = one_of (at k) in
    omega (arith, rest, here)

settled_one : (x : Fate) → is_settled x ≡ true → one_if fate.Open x ≡ 0
settled_one fate.Open is = absurd (true≢false (sym is))
settled_one fate.Kept is = refl
settled_one fate.Copied is = refl
settled_one fate.Seeded is = refl
settled_one fate.Cached is = refl
settled_one fate.Fetched is = refl

pub all_settled : (at : ℕ → Fate) (k : ℕ) → ((i : ℕ) → i < k → is_settled (at i) ≡ true) → with_fate fate.Open at k ≡ 0
all_settled at zero all = refl
all_settled at (suc k) all =
    let rest = all_settled at k (λ i less. all i (omega arith)) in
    let here = settled_one (at k) (all k (omega arith)) in
    omega (arith, rest, here)

-- what the shards tell as settled is settled
pub told_settled : (x last : Fate) → is_settled last ≡ true → is_settled (fate_told x last) ≡ true
told_settled fate.Open fate.Open is = is
told_settled fate.Open fate.Kept is = refl
told_settled fate.Open fate.Copied is = refl
told_settled fate.Open fate.Seeded is = refl
told_settled fate.Open fate.Cached is = refl
told_settled fate.Open fate.Fetched is = refl
told_settled fate.Kept last is = refl
told_settled fate.Copied last is = refl
told_settled fate.Seeded last is = refl
told_settled fate.Cached last is = refl
told_settled fate.Fetched last is = refl

-- one entry more is counted
pub one_more : (f : Fate) (at : ℕ → Fate) (k n new : ℕ) (x : Fate) → x ≡ at k → n ≡ with_fate f at k → new ≡ n + one_if f x → new ≡ with_fate f at (k + 1)
one_more f at k n new x here so_far next =
    let last : suc k ≡ k + 1 = omega arith in
    subst (λ i. new ≡ with_fate f at i) last (next ∙ (ap (λ y. n + one_if f y) here ∙ ap (λ y. y + one_if f (at k)) so_far))

-- what is read of the list of the worker that is dealt an entry's want, and of the shards
pub read_at : (d : Deal) (vecs : List (Vec Fate)) (last : List Fate) (n k w : ℕ) (v : Vec Fate) (x y : Fate) → w ≡ want_at d k % d.workers → w < length vecs → v ≡ get_or vecs w v
    → All (λ (u : Vec Fate). length u.items ≡ n) vecs → k < n → x ≡ get_or v.items k x → y ≡ fate_at last k → fate_told x y ≡ reported_at d (map (λ (u : Vec Fate). u.items) vecs) last k
read_at d vecs last n k w v x y at less is size inside read told =
    let lists : List (List Fate) = map (λ (u : Vec Fate). u.items) vecs in
    let items : get_or lists w [] ≡ v.items = get_or-map (λ (u : Vec Fate). u.items) vecs w v [] less ∙ ap (λ (u : Vec Fate). u.items) (sym is) in
    let long : length v.items ≡ n = subst (λ (u : Vec Fate). length u.items ≡ n) (sym is) (size w v less) in
    let here : x ≡ fate_at v.items k = read ∙ get_or_default v.items k x fate.Open (omega (arith, inside, long)) in
    let known : x ≡ known_at lists (want_at d k % d.workers) k = here ∙ sym (ap (λ (m : List Fate). fate_at m k) items) ∙ ap (λ (i : ℕ). known_at lists i k) at in
    ap (λ (z : Fate). fate_told z y) known ∙ ap (λ (z : Fate). fate_told (known_at lists (want_at d k % d.workers) k) z) told
