-- After k squarings that are rounded up, bits and rest are close to the number's power.
use Rattle.std.proofs.Common.{◌≡◌, ◌<◌, ◌≤◌, ◌+◌, ◌-◌, ◌*◌, ◌/◌, ◌^◌, ℕ, suc, Bool, true, false, refl, arith}
use Rattle.std.specs.Prelude.{nat_lt}
use Rattle.std.proofs.lemmas.Bool.Decides.{nat_tests}
use Rattle.std.proofs.Math.Nat.{mul-le-mul, mul-le-mul_right, div-mul-le_self, lt-div-mul-add, pow-suc}
use Rattle.ce_log2.specs.Squaring.{square_up, step_up}
use Rattle.ce_log2.specs.declared.squared.Squared.{Squared}
use Rattle.ce_log2.proofs.Steps.{up-above, up-below}
use Rattle.ce_log2.proofs.Close.{unit_at, power_at, twice-power, power-more, unit-more, unit-one, one-power, few-power}

-- what is known of bits and rest after k steps, rounded up
pub record IsCloseAbove (e x k : ℕ) (s : Squared) : Type 0 where
  pub few : s.bits < 2 ^ k
  pub least : 2 ^ 62 ≤ s.rest
  pub most : s.rest ≤ 2 ^ 63
  pub above : 2 ^ 62 * power_at x k ≤ s.rest * unit_at e k s.bits
  pub below : s.rest * unit_at e k s.bits ≤ 2 ^ 62 * power_at x k + 6 ^ k * unit_at e k s.bits

-- the square is from 1 to 4
record IsSquare (m t : ℕ) : Type 0 where
  low : t * 2 ^ 62 ≤ m * m + 2 ^ 62
  high : m * m ≤ t * 2 ^ 62
  least : 2 ^ 62 ≤ t
  most : t ≤ 2 ^ 64

square-up : (m : ℕ) → 2 ^ 62 ≤ m → m ≤ 2 ^ 63 → IsSquare m ((m * m + (2 ^ 62 - 1)) / 2 ^ 62)
square-up m least most =
    let low = div-mul-le_self (m * m + (2 ^ 62 - 1)) (2 ^ 62) in
    let high = lt-div-mul-add {a = m * m + (2 ^ 62 - 1)} {b = 2 ^ 62} (omega arith) in
    let from : 2 ^ 62 * 2 ^ 62 ≤ m * m = mul-le-mul least least in
    let to : m * m ≤ 2 ^ 63 * 2 ^ 63 = mul-le-mul most most in
    record { low = omega arith; high = omega arith; least = omega arith; most = omega arith }

up_by : (t : Bool) (e x k square : ℕ) (s : Squared) → k < 16 → IsCloseAbove e x k s → IsSquare s.rest square
    → nat_lt (2 ^ 63) square ≡ t → IsCloseAbove e x (suc k) (step_up s.bits square)
up_by true e x k square s less h q test =
    let two : 2 ^ 63 < square = grind (arith, nat_tests) in
    let u = unit_at e k s.bits in
    let P = power_at x k in
    let one = one-power k in
    let six = pow-suc 6 k in
    let twice = twice-power k in
    let few = h.few in
    let least = h.least in
    let most = q.most in
    let small = few-power k less in
    let above = up-above (2 ^ 62) s.rest u P square (omega arith) q.high h.above in
    let below =
    up-below (2 ^ 62) s.rest u P square (omega arith) (s.rest - 6 ^ k) (6 ^ k) (omega arith) q.low (let m =
    h.most in omega arith) h.below in
    let half : square ≤ 2 * ((square + 1) / 2) = omega arith in
    let halved = mul-le-mul_right (u * u) half in
    let back : 2 * ((square + 1) / 2) ≤ square + 1 = omega arith in
    let backed = mul-le-mul_right (u * u) back in
    let room : 4 * 6 ^ k + 2 ≤ 2 * 6 ^ suc k = omega (arith, one, six) in
    let roomed = mul-le-mul_right (u * u) room in
    rw test (record {
      few = omega (arith, twice, few);
      least = omega arith;
      most = omega arith;
      above = rw (unit-one e k s.bits, power-more x k) (omega (arith, above, halved));
      below = rw (unit-one e k s.bits, power-more x k) (omega (arith, below, backed, roomed));
    })
up_by false e x k square s less h q test =
    let two : square ≤ 2 ^ 63 = grind (arith, nat_tests) in
    let u = unit_at e k s.bits in
    let P = power_at x k in
    let one = one-power k in
    let six = pow-suc 6 k in
    let twice = twice-power k in
    let few = h.few in
    let least = h.least in
    let small = few-power k less in
    let above = up-above (2 ^ 62) s.rest u P square (omega arith) q.high h.above in
    let below =
    up-below (2 ^ 62) s.rest u P square (omega arith) (s.rest - 6 ^ k) (6 ^ k) (omega arith) q.low (let m =
    h.most in omega arith) h.below in
    let room : 4 * 6 ^ k + 1 ≤ 6 ^ suc k = omega (arith, one, six) in
    let roomed = mul-le-mul_right (u * u) room in
    rw test (record {
      few = omega (arith, twice, few);
      least = q.least;
      most = two;
      above = rw (unit-more e k s.bits, power-more x k) (omega (arith, above));
      below = rw (unit-more e k s.bits, power-more x k) (omega (arith, below, roomed));
    })

pub up-next : (e x k : ℕ) (s : Squared) → k < 16 → IsCloseAbove e x k s → IsCloseAbove e x (suc k) (square_up s)
up-next e x k s less h =
    up_by (nat_lt (2 ^ 63) ((s.rest * s.rest + (2 ^ 62 - 1)) / 2 ^ 62)) e x k
    ((s.rest * s.rest + (2 ^ 62 - 1)) / 2 ^ 62) s less h (square-up s.rest h.least h.most) refl
