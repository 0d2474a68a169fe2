-- After k squarings, bits and rest are close to the number's power.
use Rattle.std.proofs.Common.{◌≡◌, ◌<◌, ◌≤◌, ◌+◌, ◌-◌, ◌*◌, ◌/◌, ◌^◌, ◌∙◌, ℕ, suc, Bool, true, false, refl, ap, arith}
use Rattle.std.specs.Prelude.{nat_le}
use Rattle.std.proofs.lemmas.Bool.Decides.{nat_tests}
use Rattle.std.proofs.lemmas.Nat.{pow-add}
use Rattle.std.proofs.Math.Nat.{mul-le-mul, mul-le-mul_right, div-mul-le_self, lt-div-mul-add, pow-suc}
use Rattle.std.proofs.Math.Nat.{pow-le-pow_right, one-le-pow}
use Rattle.ce_log2.specs.Squaring.{square_down, step_down}
use Rattle.ce_log2.specs.declared.squared.Squared.{Squared}
use Rattle.ce_log2.proofs.Steps.{down-below, down-above}

-- 2^bits (2^e)^n for n = 2^k, and x^n
abbrev pub unit_at : ℕ → ℕ → ℕ → ℕ
unit_at e k bits = 2 ^ bits * 2 ^ (e * 2 ^ k)

abbrev pub power_at : ℕ → ℕ → ℕ
power_at x k = x ^ (2 ^ k)

pub twice-power : (k : ℕ) → 2 ^ suc k ≡ 2 ^ k + 2 ^ k
twice-power k = pow-suc 2 k ∙ omega arith

pub power-more : (x k : ℕ) → power_at x (suc k) ≡ power_at x k * power_at x k
power-more x k = ap (λ n. x ^ n) (twice-power k) ∙ pow-add x (2 ^ k) (2 ^ k)

pub unit-more : (e k bits : ℕ) → unit_at e (suc k) (2 * bits) ≡ unit_at e k bits * unit_at e k bits
unit-more e k bits =
    let two : 2 * bits ≡ bits + bits = omega arith in
    let exponent : e * 2 ^ suc k ≡ e * 2 ^ k + e * 2 ^ k = ap (λ n. e * n) (twice-power k) ∙ omega arith in
    let left = ap (λ n. 2 ^ n) two ∙ pow-add 2 bits bits in
    let right = ap (λ n. 2 ^ n) exponent ∙ pow-add 2 (e * 2 ^ k) (e * 2 ^ k) in
    rw (left, right) (omega arith)

pub unit-one : (e k bits : ℕ) → unit_at e (suc k) (2 * bits + 1) ≡ 2 * (unit_at e k bits * unit_at e k bits)
unit-one e k bits =
    let one = pow-add 2 (2 * bits) 1 in
    let rest = unit-more e k bits in
    rw one (omega (arith, rest))

pub one-power : (k : ℕ) → 1 ≤ 6 ^ k
one-power k = one-le-pow k 6 (omega arith)

pub few-power : (k : ℕ) → k < 16 → 6 ^ k ≤ 2 ^ 62
few-power k h = let less = pow-le-pow_right {n = 6} (omega arith) {i = k} {j = 16} (omega arith) in omega (arith, less)

-- what is known of bits and rest after k steps, rounded down
pub record IsCloseBelow (e x k : ℕ) (s : Squared) : Type 0 where
  pub few : s.bits < 2 ^ k
  pub least : 2 ^ 62 ≤ s.rest
  pub most : s.rest < 2 ^ 63
  pub below : s.rest * unit_at e k s.bits ≤ 2 ^ 62 * power_at x k
  pub above : 2 ^ 62 * power_at x k ≤ (s.rest + 6 ^ k) * unit_at e k s.bits

-- the square is from 1 to 4
pub record IsSquare (m t : ℕ) : Type 0 where
  pub low : t * 2 ^ 62 ≤ m * m
  pub high : m * m < (t + 1) * 2 ^ 62
  pub least : 2 ^ 62 ≤ t
  pub most : t < 2 ^ 64

square-down : (m : ℕ) → 2 ^ 62 ≤ m → m < 2 ^ 63 → IsSquare m (m * m / 2 ^ 62)
square-down m least most =
    let low = div-mul-le_self (m * m) (2 ^ 62) in
    let high = lt-div-mul-add {a = m * m} {b = 2 ^ 62} (omega arith) in
    let from : 2 ^ 62 * 2 ^ 62 ≤ m * m = mul-le-mul least least in
    let bound : m ≤ 2 ^ 63 - 1 = omega arith in
    let to : m * m ≤ (2 ^ 63 - 1) * (2 ^ 63 - 1) = mul-le-mul bound bound in
    record { low = low; high = omega arith; least = omega arith; most = omega arith }

down_by : (t : Bool) (e x k square : ℕ) (s : Squared) → k < 16 → IsCloseBelow e x k s → IsSquare s.rest square
    → nat_le (2 ^ 63) square ≡ t → IsCloseBelow e x (suc k) (step_down s.bits square)
down_by true e x k square s less h q test =
    let two : 2 ^ 63 ≤ square = grind (arith, nat_tests) in
    let u = unit_at e k s.bits in
    let P = power_at x k in
    let one = one-power k in
    let six = pow-suc 6 k in
    let twice = twice-power k in
    let few = h.few in
    let most = q.most in
    let below = down-below (2 ^ 62) s.rest u P square (omega arith) q.low h.below in
    let above =
    down-above (2 ^ 62) s.rest u P square (omega arith) (6 ^ k) q.high (let m =
    h.most in omega arith) (few-power k less) h.above in
    let half : 2 * (square / 2) ≤ square = omega arith in
    let halved = mul-le-mul_right (u * u) half in
    let back : square + 1 + 5 * 6 ^ k ≤ 2 * (square / 2 + 6 ^ suc k) = omega (arith, one, six) in
    let backed = mul-le-mul_right (u * u) back in
    rw test (record {
      few = omega (arith, twice, few);
      least = omega arith;
      most = omega arith;
      below = rw (unit-one e k s.bits, power-more x k) (omega (arith, below, halved));
      above = rw (unit-one e k s.bits, power-more x k) (omega (arith, above, backed));
    })
down_by false e x k square s less h q test =
    let two : square < 2 ^ 63 = grind (arith, nat_tests) in
    let u = unit_at e k s.bits in
    let P = power_at x k in
    let one = one-power k in
    let six = pow-suc 6 k in
    let twice = twice-power k in
    let few = h.few in
    let below = down-below (2 ^ 62) s.rest u P square (omega arith) q.low h.below in
    let above =
    down-above (2 ^ 62) s.rest u P square (omega arith) (6 ^ k) q.high (let m =
    h.most in omega arith) (few-power k less) h.above in
    let back : square + 1 + 5 * 6 ^ k ≤ square + 6 ^ suc k = omega (arith, one, six) in
    let backed = mul-le-mul_right (u * u) back in
    rw test (record {
      few = omega (arith, twice, few);
      least = q.least;
      most = two;
      below = rw (unit-more e k s.bits, power-more x k) (omega (arith, below));
      above = rw (unit-more e k s.bits, power-more x k) (omega (arith, above, backed));
    })

pub down-next : (e x k : ℕ) (s : Squared) → k < 16 → IsCloseBelow e x k s → IsCloseBelow e x (suc k) (square_down s)
down-next e x k s less h =
    down_by (nat_le (2 ^ 63) (s.rest * s.rest / 2 ^ 62)) e x k (s.rest * s.rest / 2 ^ 62) s less h
    (square-down s.rest h.least h.most) refl
