-- Neighbours in a Farey sequence: what the recurrence keeps, in numbers. Source: [HardyWright],
-- chapter III. A fraction is a pair of numbers here: a/b and c/d are neighbours, and n/m any other.
use Rattle.std.proofs.Common.{◌≡◌, ◌<◌, ◌≤◌, ◌+◌, ◌-◌, ◌*◌, ◌/◌, inl, inr, ℕ, zero, suc, ap, subst, arith}
use Rattle.std.specs.Int.{IsGcd, ◌∣◌}
use Rattle.std.proofs.lemmas.Bool.{cases_lt}
use Rattle.std.proofs.Math.Nat.{mul-le-mul_left, mul-le-mul_right, le_of_mul-le-mul_left, lt_of_mul-lt-mul_right}
use Rattle.std.proofs.Math.Nat.{div-mul-le_self, lt-div-mul-add, dvd-mul_right, dvd-add_iff_right, one-dvd}
use Rattle.std.proofs.lemmas.Nat.Gcd.{dvd_trans}

-- A fraction with a neighbour is in lowest terms.
pub lowest_from_unit : (a b c d : ℕ) → b * c ≡ a * d + 1 → IsGcd a b 1
lowest_from_unit a b c d unit = (
  one-dvd a,
  one-dvd b,
  λ e left right.
      let num : e ∣ a * d = dvd_trans e left (dvd-mul_right a d) in
      let den : e ∣ b * c = dvd_trans e right (dvd-mul_right b c) in
      (dvd-add_iff_right e num).1 (subst (λ n. e ∣ n) unit den),
)

-- The second one is at most 1.
pub second_within : (a b c d : ℕ) → b * c ≡ a * d + 1 → 0 < d → a < b → c ≤ d
second_within a b c d unit some below = elim (cases_lt d c) [
  | inr fine ↦ fine
  | inl more ↦
      let above = mul-le-mul_left {m = d + 1} {n = c} b (omega arith) in
      let under = mul-le-mul_right {m = a + 1} {n = b} d (omega arith) in
      absurd (omega (arith, above, under))
]

-- what is known of the next fraction x/y, where x + a = k c and y + b = k d
pub record IsNext (order a b c d x y : ℕ) : Type 0 where
  pub some : 0 < y
  pub small : y ≤ order
  pub unit : d * x ≡ c * y + 1
  pub far : order < d + y

next-unit : (a b c d k x y : ℕ) → b * c ≡ a * d + 1 → x + a ≡ k * c → y + b ≡ k * d → d * x ≡ c * y + 1
next-unit a b c d k x y unit num den =
    let left = ap (λ n. d * n) num in
    let right = ap (λ n. c * n) den in
    omega (arith, left, right, unit)

num-fits : (a b c d k : ℕ) → b * c ≡ a * d + 1 → 0 < b → b ≤ k * d → a ≤ k * c
num-fits a b c d k unit some den =
    let more = ap (λ n. k * n) unit in
    let above = mul-le-mul_left {m = b} {n = k * d} a den in
    le_of_mul-le-mul_left {k = b} (omega (arith, more, above)) some

module _ (order a b c d : ℕ) (unit : b * c ≡ a * d + 1) (some : 0 < b) (other : 0 < d) (small : d ≤ order) where
  count-low : (order + b) / d * d ≤ order + b
  count-low = div-mul-le_self (order + b) d

  count-high : order + b < (order + b) / d * d + d
  count-high = lt-div-mul-add other

  den-fits : b < (order + b) / d * d
  den-fits = let high = count-high in omega arith

  pub num_fits : a ≤ (order + b) / d * c
  num_fits = num-fits a b c d ((order + b) / d) unit some (let fits = den-fits in omega arith)

  pub next_is : IsNext order a b c d ((order + b) / d * c - a) ((order + b) / d * d - b)
  next_is =
      let low = count-low in
      let high = count-high in
      let fits = den-fits in
      let num = num_fits in
      record {
        some = omega arith;
        small = omega arith;
        unit = next-unit a b c d ((order + b) / d) _ _ unit (omega arith) (omega arith);
        far = omega arith;
      }

-- No fraction with a denominator up to the order lies between two neighbours.
mediant : (a b c d n m x y : ℕ) → b * c ≡ a * d + 1 → x + a * m ≡ n * b → y + n * d ≡ c * m → d * x + b * y ≡ m
mediant a b c d n m x y unit low high =
    let first = ap (λ k. d * k) low in
    let second = ap (λ k. b * k) high in
    let whole = ap (λ k. k * m) unit in
    omega (arith, first, second, whole)

pub none_between : (order a b c d n m : ℕ) → b * c ≡ a * d + 1 → order < b + d → m ≤ order → a * m < n * b
    → c * m ≤ n * d
none_between order a b c d n m unit far small above = elim (cases_lt (n * d) (c * m)) [
  | inr fine ↦ fine
  | inl below ↦
      let whole = mediant a b c d n m (n * b - a * m) (c * m - n * d) unit (omega arith) (omega arith) in
      let first = mul-le-mul_left {m = 1} {n = n * b - a * m} d (omega arith) in
      let second = mul-le-mul_left {m = 1} {n = c * m - n * d} b (omega arith) in
      absurd (omega (arith, whole, first, second))
]

-- what is at least the second neighbour is above the first
pub above_first : (a b c d n m : ℕ) → b * c ≡ a * d + 1 → 0 < m → c * m ≤ n * d → a * m < n * b
above_first a b c d n m unit some least =
    let whole = ap (λ k. k * m) unit in
    let more = mul-le-mul_left {m = c * m} {n = n * d} b least in
    lt_of_mul-lt-mul_right d {m = a * m} {n = n * b} (omega (arith, whole, more))

-- So many steps suffice from a/b to 1, since neighbours are at least 1/order^2 apart.
abbrev pub SufficeFrom : ℕ → ℕ → ℕ → ℕ → Type 0
SufficeFrom order steps a b = order * order * b ≤ steps * b + order * order * a

pub suffice-next : (order steps a b c d : ℕ) → b * c ≡ a * d + 1 → 0 < b → b ≤ order → d ≤ order
    → SufficeFrom order (suc steps) a b → SufficeFrom order steps c d
suffice-next order steps a b c d unit some first second enough =
    let room = mul-le-mul_left {m = d} {n = order} b second in
    let square = mul-le-mul_right {m = b} {n = order} order first in
    let whole = ap (λ k. order * order * k) unit in
    let scaled = mul-le-mul_right {m = order * order * b} {n = suc steps * b + order * order * a} d enough in
    let one : suc steps * b ≡ steps * b + b = omega arith in
    let all = ap (λ k. k * d) one in
    le_of_mul-le-mul_left {k = b} (omega (arith, room, square, whole, scaled, all)) some

pub suffice-square : (order a b : ℕ) → SufficeFrom order (order * order) a b
suffice-square order a b = omega arith

-- where no step is left, a/b is at least 1
pub none-left : (order a b : ℕ) → 0 < order → SufficeFrom order zero a b → b ≤ a
none-left order a b some enough =
    let square = mul-le-mul_left {m = 1} {n = order} order (omega arith) in
    le_of_mul-le-mul_left {k = order * order} (omega (arith, enough)) (omega (arith, square))

-- The next fraction's numerator is at most one more than its denominator.
pub next-small : (c d x y : ℕ) → 0 < d → c ≤ d → d * x ≡ c * y + 1 → x ≤ y + 1
next-small c d x y some within unit =
    let more = mul-le-mul_right {m = c} {n = d} y within in
    le_of_mul-le-mul_left {k = d} (omega (arith, more, unit)) some
