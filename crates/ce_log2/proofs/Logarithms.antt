-- The bits that repeated squaring finds are logarithms, rounded down and up.
use Rattle.std.proofs.Common.{◌≡◌, ◌≢◌, ◌<◌, ◌≤◌, ◌+◌, ◌-◌, ◌*◌, ◌^◌, ◌==◌, ◌∙◌, ℕ, zero, suc, Bool, true, false}
use Rattle.std.proofs.Common.{refl, sym, ap, subst, arith}
use Rattle.std.proofs.lemmas.Bool.Decides.{nat_tests}
use Rattle.std.proofs.lemmas.Bool.{eqb-true}
use Rattle.std.proofs.lemmas.Nat.{pow-add, pow_pos}
use Rattle.std.proofs.Math.Nat.{mul-le-mul, lt_of_mul-lt-mul_left, mul-le-mul_right, le_of_mul-le-mul_left, pow-suc}
use Rattle.std.proofs.Math.Nat.{mul-one, one-mul, pow-zero}
use Rattle.ce_log2.specs.Logarithm.{IsAboveLogarithm, IsBelowLogarithm}
use Rattle.ce_log2.specs.Squaring.{bits_above_of, bits_below_of, rounded_up, steps_down, steps_up}
use Rattle.ce_log2.specs.declared.squared.Squared.{Squared}
use Rattle.ce_log2.proofs.Close.{unit_at, power_at, power-more, unit-more, IsCloseBelow, down-next}
use Rattle.ce_log2.proofs.CloseAbove.{IsCloseAbove, up-next}

-- a number from S to 2S, over 2^62
pub record IsBound (e x : ℕ) : Type 0 where
  pub exponent : e ≤ 62
  pub one : 2 ^ e ≤ x
  pub two : x ≤ 2 * 2 ^ e

scaled-one : (e : ℕ) → e ≤ 62 → 2 ^ (62 - e) * 2 ^ e ≡ 2 ^ 62
scaled-one e h = let all : 62 - e + e ≡ 62 = omega arith in sym (pow-add 2 (62 - e) e) ∙ ap (λ n. 2 ^ n) all

pub record IsScaled (e x m : ℕ) : Type 0 where
  pub same : m * 2 ^ e ≡ x * 2 ^ 62
  pub least : 2 ^ 62 ≤ m
  pub most : m ≤ 2 ^ 63

pub scaled : (e x : ℕ) → IsBound e x → IsScaled e x (x * 2 ^ (62 - e))
scaled e x h =
    let one = scaled-one e h.exponent in
    let low = mul-le-mul_right (2 ^ (62 - e)) h.one in
    let high = mul-le-mul_right (2 ^ (62 - e)) h.two in
    let whole = ap (λ n. x * n) one in
    record {
      same = omega (arith, whole);
      least = omega (arith, low, one);
      most = omega (arith, high, one);
    }

pub scaled-less : (e x : ℕ) → IsBound e x → x ≢ 2 * 2 ^ e → x * 2 ^ (62 - e) < 2 ^ 63
scaled-less e x h other =
    let one = scaled-one e h.exponent in
    let two = h.two in
    let less : x + 1 ≤ 2 * 2 ^ e = omega arith in
    let high = mul-le-mul_right (2 ^ (62 - e)) less in
    let some = pow_pos (62 - e) in
    omega (arith, high, one, some)

unit-zero : (e : ℕ) → unit_at e 0 0 ≡ 2 ^ e
unit-zero e = ap (λ n. 1 * 2 ^ n) (mul-one e) ∙ one-mul (2 ^ e)

power-zero : (x : ℕ) → power_at x 0 ≡ x
power-zero x = pow-suc x 0 ∙ ap (λ n. n * x) (pow-zero x) ∙ one-mul x

down-start : (e x m : ℕ) → IsScaled e x m → m < 2 ^ 63 → IsCloseBelow e x 0 (record { bits = 0; rest = m })
down-start e x m h less =
    let same = h.same in
    let some = pow_pos e in
    let unit = unit-zero e in
    let power = power-zero x in
    let low = ap (λ n. m * n) unit in
    let high = ap (λ n. 2 ^ 62 * n) power in
    let more = ap (λ n. (m + 6 ^ 0) * n) unit in
    record {
      few = omega arith;
      least = h.least;
      most = less;
      below = omega (arith, low, high, same);
      above = omega (arith, more, high, same);
    }

up-start : (e x m : ℕ) → IsScaled e x m → IsCloseAbove e x 0 (record { bits = 0; rest = m })
up-start e x m h =
    let same = h.same in
    let some = pow_pos e in
    let unit = unit-zero e in
    let power = power-zero x in
    let low = ap (λ n. m * n) unit in
    let high = ap (λ n. 2 ^ 62 * n) power in
    record {
      few = omega arith;
      least = h.least;
      most = h.most;
      above = omega (arith, low, high, same);
      below = omega (arith, low, high, same);
    }

pub close-below : (e x k m : ℕ) → k ≤ 16 → IsScaled e x m → m < 2 ^ 63 → IsCloseBelow e x k (steps_down k m)
unfolding steps_down
close-below e x zero m few h less = down-start e x m h less
close-below e x (suc k) m few h less =
    down-next e x k (steps_down k m) (omega arith) (close-below e x k m (omega arith) h less)

pub close-above : (e x k m : ℕ) → k ≤ 16 → IsScaled e x m → IsCloseAbove e x k (steps_up k m)
unfolding steps_up
close-above e x zero m few h = up-start e x m h
close-above e x (suc k) m few h = up-next e x k (steps_up k m) (omega arith) (close-above e x k m (omega arith) h)

-- The double of S has the logarithm 1, whatever the power.
double-power : (e k : ℕ) → power_at (2 * 2 ^ e) k ≡ unit_at e k (2 ^ k)
double-power e zero = power-zero (2 * 2 ^ e) ∙ ap (λ n. 2 * 2 ^ n) (sym (mul-one e))
double-power e (suc k) =
    let before = double-power e k in
    let bits : 2 ^ suc k ≡ 2 * 2 ^ k = pow-suc 2 k ∙ omega arith in
    power-more (2 * 2 ^ e) k ∙ ap (λ n. n * n) before ∙ sym (unit-more e k (2 ^ k))
    ∙ ap (λ n. unit_at e (suc k) n) (sym bits)

two_more : (a : ℕ) → 2 ^ (a + 2) ≡ 4 * 2 ^ a
two_more a = pow-add 2 a 2 ∙ omega arith

-- two units more are too many
too-many : (a Q P : ℕ) → 0 < Q → P < 4 * (2 ^ a * Q) → 2 ^ (a + 2) * Q ≤ P → ⊥
too-many a Q P some less h =
    let four = ap (λ n. n * Q) (two_more a) in
    omega (arith, four, less, h)

module _ (k e x : ℕ) (s : Squared) (h : IsCloseBelow e x k s) (small : 6 ^ k ≤ 2 ^ 62) where
  some_unit : 0 < unit_at e k s.bits
  some_unit =
      let one = pow_pos s.bits in
      let two = pow_pos (e * 2 ^ k) in
      let both = mul-le-mul {n₁ = 1} {m₁ = 1} {n₂ = 2 ^ s.bits} {m₂ = 2 ^ (e * 2 ^ k)} one two in
      omega (arith, both)

  below-end : unit_at e k s.bits ≤ power_at x k
  below-end =
      let least = mul-le-mul_right (unit_at e k s.bits) h.least in
      le_of_mul-le-mul_left {k = 2 ^ 62} (omega (arith, least, h.below)) (omega arith)

  below-near : power_at x k < 4 * unit_at e k s.bits
  below-near =
      let most = h.most in
      let room : s.rest + 6 ^ k + 1 ≤ 4 * 2 ^ 62 = omega (arith, small, most) in
      let roomed = mul-le-mul_right (unit_at e k s.bits) room in
      let some = some_unit in
      lt_of_mul-lt-mul_left (2 ^ 62) (omega (arith, roomed, h.above, some))

-- what is proved of an answer from below: it is below, and two more is not
pub record IsNearBelow (e x a : ℕ) : Type 0 where
  pub below : IsBelowLogarithm e x a
  pub near : IsBelowLogarithm e x (a + 2) → ⊥

near_below : (k e x : ℕ) (s : Squared) → IsCloseBelow e x k s → 6 ^ k ≤ 2 ^ 62
    → (unit_at e k s.bits ≤ power_at x k) × (2 ^ (s.bits + 2) * 2 ^ (e * 2 ^ k) ≤ power_at x k → ⊥)
near_below k e x s h small = (
  below-end k e x s h small,
  too-many s.bits (2 ^ (e * 2 ^ k)) (power_at x k) (pow_pos (e * 2 ^ k)) (below-near k e x s h small),
)

below_by : (t : Bool) (e x : ℕ) → IsBound e x → (x == 2 * 2 ^ e) ≡ t → IsNearBelow e x (bits_below_of e x)
below_by true e x h test =
    let two : x ≡ 2 * 2 ^ e = eqb-true x (2 * 2 ^ e) test in
    let power : power_at x 16 ≡ unit_at e 16 (2 ^ 16) = ap (λ n. power_at n 16) two ∙ double-power e 16 in
    let some = pow_pos (e * 2 ^ 16) in
    rw test (record {
      below = subst (λ n. unit_at e 16 (2 ^ 16) ≤ n) (sym power) (le_refl (unit_at e 16 (2 ^ 16)));
      near = too-many (2 ^ 16) (2 ^ (e * 2 ^ 16)) (power_at x 16) some
          (subst (λ n. n < 4 * unit_at e 16 (2 ^ 16)) (sym power)
          (less_than_four (unit_at e 16 (2 ^ 16)) (mul_pos (2 ^ (2 ^ 16)) (2 ^ (e * 2 ^ 16)) (pow_pos (2 ^ 16)) some)));
    })
  where
    le_refl : (n : ℕ) → n ≤ n
    le_refl n = omega arith

    less_than_four : (n : ℕ) → 0 < n → n < 4 * n
    less_than_four n some = omega arith

    mul_pos : (m n : ℕ) → 0 < m → 0 < n → 0 < m * n
    mul_pos m n one two = let both = mul-le-mul {n₁ = 1} {m₁ = 1} {n₂ = m} {m₂ = n} one two in omega (arith, both)
below_by false e x h test =
    let other : x ≢ 2 * 2 ^ e = λ same. differ x (2 * 2 ^ e) test same in
    let m = x * 2 ^ (62 - e) in
    let close = close-below e x 16 m (omega arith) (scaled e x h) (scaled-less e x h other) in
    let ends = near_below 16 e x (steps_down 16 m) close (omega arith) in
    rw test (record { below = ends.0; near = ends.1 })
  where
    differ : (a b : ℕ) → (a == b) ≡ false → a ≢ b
    differ a b test same = grind (arith, nat_tests)

pub bits_below_are : (e x : ℕ) → IsBound e x → IsNearBelow e x (bits_below_of e x)
bits_below_are e x h = below_by (x == 2 * 2 ^ e) e x h refl

-- what is proved of an answer from above: it is above, and two less is not
pub record IsNearAbove (e x a : ℕ) : Type 0 where
  pub above : IsAboveLogarithm e x a
  pub near : 2 ≤ a → IsAboveLogarithm e x (a - 2) → ⊥

module _ (k e x : ℕ) (s : Squared) (h : IsCloseAbove e x k s) (small : 4 * 6 ^ k < 2 ^ 62) where
  -- twice or four times what two units less stand for
  less-unit : (a c v : ℕ) → 2 ≤ a → v ≡ 2 ^ (a - 2) * 2 ^ (e * 2 ^ k) → 2 ^ a * 2 ^ (e * 2 ^ k) ≡ 4 * v
  less-unit a c v two same =
      let split : a - 2 + 2 ≡ a = omega arith in
      let four = ap (λ n. 2 ^ n * 2 ^ (e * 2 ^ k)) (sym split) ∙ ap (λ n. n * 2 ^ (e * 2 ^ k)) (two_more (a - 2)) in
      omega (arith, four, same)

  some_less : (a : ℕ) → 0 < 2 ^ a * 2 ^ (e * 2 ^ k)
  some_less a =
      let both = mul-le-mul {n₁ = 1} {m₁ = 1} {n₂ = 2 ^ a} {m₂ = 2 ^ (e * 2 ^ k)} (pow_pos a) (pow_pos (e * 2 ^ k)) in
      omega (arith, both)

  -- c times v is too much where c is 2 or 4
  too-few : (c v : ℕ) → 2 ≤ c → 0 < v → unit_at e k s.bits ≡ c * v → power_at x k ≤ v → ⊥
  too-few c v two some unit less =
      let least = mul-le-mul_right (unit_at e k s.bits) h.least in
      let whole = ap (λ n. 2 ^ 62 * n) unit in
      let error = ap (λ n. 6 ^ k * n) unit in
      let tight = mul-le-mul_right (c * v) small in
      let more = mul-le-mul_right v two in
      omega (arith, least, h.below, whole, error, less, tight, more)

  above-one : s.rest ≡ 2 ^ 62 → power_at x k ≤ unit_at e k s.bits
  above-one same =
      let rest = ap (λ n. n * unit_at e k s.bits) same in
      le_of_mul-le-mul_left {k = 2 ^ 62} (omega (arith, h.above, rest)) (omega arith)

  unit-next : unit_at e k (s.bits + 1) ≡ 2 * unit_at e k s.bits
  unit-next = let one = ap (λ n. n * 2 ^ (e * 2 ^ k)) (pow-add 2 s.bits 1) in omega (arith, one)

  above-two : power_at x k ≤ unit_at e k (s.bits + 1)
  above-two =
      let most = mul-le-mul_right (unit_at e k s.bits) h.most in
      let next = unit-next in
      le_of_mul-le-mul_left {k = 2 ^ 62} (omega (arith, h.above, most, next)) (omega arith)

  near-one : 2 ≤ s.bits → power_at x k ≤ unit_at e k (s.bits - 2) → ⊥
  near-one two =
      too-few 4 (unit_at e k (s.bits - 2)) (omega arith) (some_less (s.bits - 2))
      (less-unit s.bits 4 (unit_at e k (s.bits - 2)) two refl)

  near-two : 2 ≤ s.bits + 1 → power_at x k ≤ unit_at e k (s.bits + 1 - 2) → ⊥
  near-two two =
      let v = unit_at e k (s.bits + 1 - 2) in
      let four = less-unit (s.bits + 1) 4 v two refl in
      let next = unit-next in
      too-few 2 v (omega arith) (some_less (s.bits + 1 - 2)) (omega (arith, four, next))

  end_by : (t : Bool) → (s.rest == 2 ^ 62) ≡ t
      → (power_at x k ≤ unit_at e k (rounded_up s))
      × (2 ≤ rounded_up s → power_at x k ≤ unit_at e k (rounded_up s - 2) → ⊥)
  end_by true test = rw test (above-one (eqb-true s.rest (2 ^ 62) test), near-one)
  end_by false test = rw test (above-two, near-two)

pub bits_above_are : (e x : ℕ) → IsBound e x → IsNearAbove e x (bits_above_of e x)
bits_above_are e x h =
    let m = x * 2 ^ (62 - e) in
    let s = steps_up 16 m in
    let close = close-above e x 16 m (omega arith) (scaled e x h) in
    let ends = end_by 16 e x s close (omega arith) (s.rest == 2 ^ 62) refl in
    record { above = ends.0; near = ends.1 }
