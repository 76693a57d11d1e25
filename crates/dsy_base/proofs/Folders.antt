-- Where the last component of a name begins.
use Rattle.std.proofs.Common.{◌≡◌, ◌≢◌, ℕ, zero, suc, ◌+◌, ◌<◌, List, [], ◌∷◌, length, get_or, arith, refl}
use Rattle.std.proofs.lemmas.Bool.Decides.{nat_tests}
use Rattle.dsy_base.specs.Folders.{stem}

-- before the only component of a name with no `/` stands nothing
pub stem_none : (bs : List ℕ) → ((i : ℕ) → i < length bs → get_or bs i 0 ≢ 47) → stem bs ≡ 0
stem_none [] h = refl
stem_none (c ∷ cs) h =
    let e = stem_none cs (λ i l. h (suc i) (omega arith)) in
    let apart : c ≢ 47 = h 0 (omega arith) in
    grind (arith, nat_tests, e)

-- the last component begins behind the last `/`
pub stem_last : (bs : List ℕ) (k : ℕ) → k < length bs → get_or bs k 0 ≡ 47 → ((i : ℕ) → k < i → i < length bs → get_or bs i 0 ≢ 47) → stem bs ≡ k + 1
stem_last [] k below at after = absurd (omega arith)
stem_last (c ∷ cs) zero below at after =
    let e = stem_none cs (λ i l. after (suc i) (omega arith) (omega arith)) in
    let same : c ≡ 47 = at in
    grind (arith, nat_tests, e)
stem_last (c ∷ cs) (suc k) below at after =
    let e = stem_last cs k (omega arith) at (λ i above l. after (suc i) (omega arith) (omega arith)) in
    grind (arith, nat_tests, e)
