-- Division by a reciprocal that was rounded down: the estimate is the quotient, or one less.
use Rattle.std.proofs.Common.{◌≡◌, ◌≤◌, ◌<◌, ℕ, ◌+◌, ◌*◌, ◌-◌, ◌/◌, ◌%◌, ap, arith, sym}
use Rattle.std.proofs.Math.Nat.{div-mul-le_self, lt-div-mul-add, mul-le-mul_left, mul-le-mul_right, div-eq_of_lt-le}

-- For r = floor(2^64 p / d), the estimate floor(a r / 2^64) times d is at most a p, and less than
-- two d below it.
estimate_at_most : (a p d r : ℕ) → r ≡ p * 18446744073709551616 / d → a * r / 18446744073709551616 * d ≤ a * p
estimate_at_most a p d r is =
    let reciprocal = div-mul-le_self (p * 18446744073709551616) d in
    let one : r * d ≤ p * 18446744073709551616 = omega (arith, ap (λ k. k * d) is, reciprocal) in
    let all = mul-le-mul_left a one in
    let down = mul-le-mul_right d (div-mul-le_self (a * r) 18446744073709551616) in
    omega (arith, all, down)

estimate_near : (a p d r : ℕ) → 0 < d → a ≤ 18446744073709551616 → r ≡ p * 18446744073709551616 / d
    → a * p < (a * r / 18446744073709551616 + 2) * d
estimate_near a p d r some small is =
    let reciprocal = lt-div-mul-add {a = p * 18446744073709551616} some in
    let over : p * 18446744073709551616 ≤ r * d + d = omega (arith, ap (λ k. k * d) is, reciprocal) in
    let all = mul-le-mul_left a over in
    let up : a * r + 1 ≤ a * r / 18446744073709551616 * 18446744073709551616 + 18446744073709551616 = omega arith in
    let wide = mul-le-mul_right d up in
    let rest = mul-le-mul_right d small in
    omega (arith, all, wide, rest, some)

-- what is left of m - n where both wrap round at 2^64
abbrev pub wrapped_difference : ℕ → ℕ → ℕ
wrapped_difference m n =
    (m % 18446744073709551616 + (18446744073709551616 - n % 18446744073709551616)) % 18446744073709551616

-- A difference that fits comes back.
difference_comes_back : (m n : ℕ) → n ≤ m → m - n < 18446744073709551616 → wrapped_difference m n ≡ m - n
difference_comes_back m n less fits = omega arith

module _ (a p d r : ℕ) (some : 0 < d) (narrow : 2 * d ≤ 18446744073709551616) (small : a ≤ 18446744073709551616)
    (is : r ≡ p * 18446744073709551616 / d) where
  abbrev pub estimate : ℕ
  estimate = a * r / 18446744073709551616

  remainder : wrapped_difference (a * p) (estimate * d) ≡ a * p - estimate * d
  remainder =
      let near = estimate_near a p d r some small is in
      difference_comes_back (a * p) (estimate * d) (estimate_at_most a p d r is) (omega (arith, near, narrow))

  -- The remainder tells which of the two the quotient is.
  pub quotient_is_estimate : wrapped_difference (a * p) (estimate * d) < d → estimate ≡ a * p / d
  quotient_is_estimate less =
      let low = estimate_at_most a p d r is in
      sym (div-eq_of_lt-le d low (omega (arith, remainder, less, low)))

  pub quotient_is_next : d ≤ wrapped_difference (a * p) (estimate * d) → estimate + 1 ≡ a * p / d
  quotient_is_next more =
      let near = estimate_near a p d r some small is in
      sym (div-eq_of_lt-le d (omega (arith, remainder, more)) (omega (arith, near)))
