-- Where shards begin, and in which one an entry is.
use Rattle.std.proofs.Common.{◌≡◌, ℕ, ◌+◌, ◌-◌, ◌*◌, ◌/◌, ◌<◌, ◌≤◌, arith, sym, subst, ⊎_elim}
use Rattle.std.proofs.lemmas.Bool.{cases_lt}
use Rattle.std.proofs.Math.Nat.{div-le_of_le-mul, le-div_iff_mul-le, div-mul-le_self}

pub start_inside : (n s k : ℕ) → k ≤ s → k * n / s ≤ n
start_inside n s k h = let most : k * n ≤ s * n = grind arith in div-le_of_le-mul s most

pub start_above : (n s k : ℕ) → 0 < s → s ≤ n → 0 < k → 1 ≤ k * n / s
start_above n s k pos h some = let least : 1 * n ≤ k * n = grind arith in let enough : 1 * s ≤ k * n = omega arith in (le-div_iff_mul-le pos).1 enough

pub record IsIn (n s e r : ℕ) : Type 0 where
  pub from : r * n / s ≤ e
  pub to : e < (r + 1) * n / s
  pub is : r < s

pub shard_is : (n s e r : ℕ) → 0 < s → e < n → r ≡ ((e + 1) * s - 1) / n → IsIn n s e r
shard_is n s e r pos inside is =
    let some : 0 < n = omega arith in
    let y : ℕ = (e + 1) * s - 1 in
    let low : y / n * n ≤ y = div-mul-le_self y n in
    let high : (r + 1) * n ≤ y → r + 1 ≤ y / n = (le-div_iff_mul-le some).1 in
    let past : e + 1 ≤ r * n / s → (e + 1) * s ≤ r * n = (le-div_iff_mul-le pos).0 in
    let reach : (e + 1) * s ≤ (r + 1) * n → e + 1 ≤ (r + 1) * n / s = (le-div_iff_mul-le pos).1 in
    let whole : (e + 1) * s ≤ n * s = grind arith in
    let least : 1 * s ≤ (e + 1) * s = grind arith in
    let one : y + 1 ≡ (e + 1) * s = omega arith in
    let below : r * n ≤ y = subst (λ (x : ℕ). x * n ≤ y) (sym is) low in
    record {
      from = ⊎_elim
          (λ (above : e < r * n / s). let over : (e + 1) * s ≤ r * n = past (omega arith) in absurd (omega arith))
          (λ (h : r * n / s ≤ e). h)
          (cases_lt e (r * n / s));
      to = ⊎_elim
          (λ (h : y < (r + 1) * n). let reached : e + 1 ≤ (r + 1) * n / s = reach (omega arith) in omega arith)
          (λ (h : (r + 1) * n ≤ y). let more : r + 1 ≤ y / n = high h in absurd (omega arith))
          (cases_lt y ((r + 1) * n));
      is = ⊎_elim
          (λ (h : r < s). h)
          (λ (h : s ≤ r). let over : s * n ≤ r * n = grind arith in absurd (omega arith))
          (cases_lt r s);
    }

pub product_fits : (k n : ℕ) → k ≤ 128 → n ≤ 4194304 → k * n ≤ 128 * 4194304
product_fits k n a b = let low : k * n ≤ 128 * n = grind arith in omega arith
