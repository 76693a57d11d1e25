-- With m = 2 ^ 64 / d, rounded up, d divides a number n of 32 bits exactly where m * n wraps to less than m.
use Rattle.std.proofs.Common.{◌≡◌, ℕ, ◌+◌, ◌-◌, ◌*◌, ◌/◌, ◌%◌, ◌^◌, ◌<◌, ◌≤◌, ◌==◌, true, false, nat_lt, sym, ap, subst, ◌∙◌, arith, inl, inr}
use Rattle.std.proofs.lemmas.Bool.{cases_lt}
use Rattle.std.proofs.lemmas.Bool.Decides.{nat_tests}
use Rattle.std.proofs.lemmas.Nat.{mod-mul-add, div-add-mod', mod_below, mul-le}

-- what is above the whole turns is what is left
wraps : (q x n : ℕ) → x < 2 ^ 64 → n ≡ q * 2 ^ 64 + x → n % 2 ^ 64 ≡ x
wraps q x n fits is = ap (λ (y : ℕ). y % 2 ^ 64) is ∙ mod-mul-add q (2 ^ 64) x fits

module _ (q d m e : ℕ) (round : m * d ≡ 2 ^ 64 + e) (over : e < d) (small : q * e + e < m) (fits : m ≤ 2 ^ 64) where
  low : (s : ℕ) → s + 1 ≡ d → m * (q * d + s + 1) % 2 ^ 64 ≡ q * e + e
  low s last =
      let mq : q * (m * d) ≡ q * (2 ^ 64 + e) = ap (λ (y : ℕ). q * y) round in
      let ms : m * (s + 1) ≡ m * d = ap (λ (y : ℕ). m * y) last in
      wraps (q + 1) (q * e + e) (m * (q * d + s + 1)) (omega arith) (omega (arith, mq, ms, round))

  high : (s : ℕ) → s + 1 < d → m * (q * d + s + 1) % 2 ^ 64 ≡ q * e + m * (s + 1)
  high s more =
      let mq : q * (m * d) ≡ q * (2 ^ 64 + e) = ap (λ (y : ℕ). q * y) round in
      let ms : m * (s + 2) ≤ m * d = mul-le m (s + 2) m d (omega arith) (omega arith) in
      wraps q (q * e + m * (s + 1)) (m * (q * d + s + 1)) (omega (arith, ms, round, small)) (omega (arith, mq, round))

  above : (s : ℕ) → m ≤ q * e + m * (s + 1)
  above s = omega arith

  tested : (s : ℕ) → s < d → nat_lt (m * (q * d + s + 1) % 2 ^ 64) m ≡ (s == d - 1)
  tested s below = elim (cases_lt (s + 1) d) [
    | inl more ↦
        let no : nat_lt (m * (q * d + s + 1) % 2 ^ 64) m ≡ false = grind (arith, nat_tests, high s more, above s) in
        let apart : (s == d - 1) ≡ false = grind (arith, nat_tests) in
        no ∙ sym apart
    | inr last ↦
        let is : s + 1 ≡ d = omega arith in
        let yes : nat_lt (m * (q * d + s + 1) % 2 ^ 64) m ≡ true = grind (arith, nat_tests, low s is) in
        let same : (s == d - 1) ≡ true = grind (arith, nat_tests) in
        yes ∙ sym same
  ]

quotient_many : (d m e : ℕ) → d ≤ 2 ^ 31 → m * d ≡ 2 ^ 64 + e → 2 ^ 32 + 2 ^ 31 < m
quotient_many d m e few round = elim (cases_lt (2 ^ 32 + 2 ^ 31) m) [
  | inl many ↦ many
  | inr small ↦ absurd (omega (arith, round, mul-le m d (2 ^ 32 + 2 ^ 31) (2 ^ 31) small few))
]

quotient_fits : (d m e : ℕ) → 2 ≤ d → e < d → d ≤ 2 ^ 31 → m * d ≡ 2 ^ 64 + e → m ≤ 2 ^ 64
quotient_fits d m e many over few round = omega (arith, round, mul-le m 2 m d (omega arith) many)

rounded_up : (d : ℕ) → 0 < d → (e : ℕ) × (((2 ^ 64 - 1) / d + 1) * d ≡ 2 ^ 64 + e) × (e < d)
rounded_up d some =
    let below : (2 ^ 64 - 1) % d < d = mod_below (2 ^ 64 - 1) d some in
    let whole : (2 ^ 64 - 1) / d * d + (2 ^ 64 - 1) % d ≡ 2 ^ 64 - 1 = div-add-mod' (2 ^ 64 - 1) d in
    (d - 1 - (2 ^ 64 - 1) % d, omega arith, omega arith)

products_small : (q d m e h : ℕ) → q * d ≤ h → h < 2 ^ 32 → e < d → d ≤ 2 ^ 31 → 2 ^ 32 + 2 ^ 31 < m → q * e + e < m
products_small q d m e h inside fits over few many = omega (arith, mul-le q e q d (omega arith) (omega arith))

-- the rest is the greatest exactly where the product wraps to less than m
pub leaves_greatest : (h d m : ℕ) → 2 ≤ d → d ≤ 2 ^ 31 → h < 2 ^ 32 → m ≡ (2 ^ 64 - 1) / d + 1 → nat_lt (m * (h + 1) % 2 ^ 64) m ≡ (h % d == d - 1)
leaves_greatest h d m many few fits is =
    let some : 0 < d = omega arith in
    let up = rounded_up d some in
    let round : m * d ≡ 2 ^ 64 + up.0 = ap (λ (x : ℕ). x * d) is ∙ up.1 in
    let whole : h / d * d + h % d ≡ h = div-add-mod' h d in
    let large : 2 ^ 32 + 2 ^ 31 < m = quotient_many d m up.0 few round in
    let small : h / d * up.0 + up.0 < m = products_small (h / d) d m up.0 h (omega (arith, whole)) fits up.2 few large in
    let test = tested (h / d) d m up.0 round up.2 small (quotient_fits d m up.0 many up.2 few round) (h % d) (mod_below h d some) in
    subst (λ (x : ℕ). nat_lt (m * (x + 1) % 2 ^ 64) m ≡ (h % d == d - 1)) whole test
