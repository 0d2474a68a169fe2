-- One squaring in numbers: what holds of the rest m, in units of 1/B, holds of its square t. Here u
-- is 2^bits S^n and P is x^n, for a number x and a power n; after the step they are u u and P P.
use Rattle.std.proofs.Common.{◌≡◌, ◌<◌, ◌≤◌, ◌+◌, ◌*◌, ℕ, ap, arith}
use Rattle.std.proofs.Math.Nat.{mul-le-mul, mul-le-mul_left, mul-le-mul_right, le_of_mul-le-mul_left}

module _ (B m u P t : ℕ) (some : 0 < B) where
  -- rounded down: the square is at most what it stands for
  pub down-below : t * B ≤ m * m → m * u ≤ B * P → t * (u * u) ≤ B * (P * P)
  down-below round h =
      let squares : (m * u) * (m * u) ≤ (B * P) * (B * P) = mul-le-mul h h in
      let rounded = mul-le-mul_right (u * u) round in
      le_of_mul-le-mul_left {k = B} (omega (arith, squares, rounded)) some

  -- and what it stands for is above it by little, where the rest is so by d
  pub down-above : (d : ℕ) → m * m < (t + 1) * B → m ≤ 2 * B → d ≤ B → B * P ≤ (m + d) * u
      → B * (P * P) ≤ (t + 1 + 5 * d) * (u * u)
  down-above d round most few h =
      let squares : (B * P) * (B * P) ≤ ((m + d) * u) * ((m + d) * u) = mul-le-mul h h in
      let middle = mul-le-mul_right d most in
      let last = mul-le-mul_right d few in
      let whole : (m + d) * (m + d) ≤ B * (t + 1 + 5 * d) = omega (arith, round, middle, last) in
      let scaled = mul-le-mul_right (u * u) whole in
      le_of_mul-le-mul_left {k = B} (omega (arith, squares, scaled)) some

  -- rounded up: the square is at least what it stands for
  pub up-above : m * m ≤ t * B → B * P ≤ m * u → B * (P * P) ≤ t * (u * u)
  up-above round h =
      let squares : (B * P) * (B * P) ≤ (m * u) * (m * u) = mul-le-mul h h in
      let rounded = mul-le-mul_right (u * u) round in
      le_of_mul-le-mul_left {k = B} (omega (arith, squares, rounded)) some

  -- and above it by little, where the rest w + d is so by d
  pub up-below : (w d : ℕ) → w + d ≡ m → t * B ≤ m * m + B → m ≤ 2 * B → m * u ≤ B * P + d * u
      → t * (u * u) ≤ B * (P * P) + (4 * d + 1) * (u * u)
  up-below w d split round most h =
      let parts = ap (λ n. n * u) split in
      let less : w * u ≤ B * P = omega (arith, parts, h) in
      let squares : (w * u) * (w * u) ≤ (B * P) * (B * P) = mul-le-mul less less in
      let middle = mul-le-mul_left {m = m} {n = 2 * B} d most in
      let whole_square = ap (λ n. n * n) split in
      let whole_product = ap (λ n. d * n) split in
      let square : m * m ≤ w * w + 4 * d * B = omega (arith, middle, whole_square, whole_product) in
      let rounded = mul-le-mul_right {m = t * B} {n = w * w + 4 * d * B + B} (u * u) (omega (arith, square, round)) in
      le_of_mul-le-mul_left {k = B} (omega (arith, squares, rounded)) some
