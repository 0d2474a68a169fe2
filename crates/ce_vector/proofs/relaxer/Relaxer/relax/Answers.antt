use Rattle.std.proofs.Common.{◌≡◌, ◌≤◌, ◌*◌, ◌^◌, ℕ, ◌+◌, ◌<◌, ◌/◌, ap, ◌∙◌, arith, inl, inr}
use Rattle.ce_rows.specs.Scale.{IsExponent}
use Rattle.ce_vector.specs.Relaxation.{Between, relaxed, middle}
use Rattle.ce_vector.proofs.Reciprocal.{wrapped_difference, quotient_is_estimate, quotient_is_next}
use Rattle.ce_vector.proofs.relaxer.Relaxer.relax.Goals as goal
use Rattle.ce_vector.proofs.relaxer.Relaxer.relax.Goals.{then-rest-self, else-rest-self}

one_small : (e : ℕ) → IsExponent e → (1 ≤ 2 ^ e) × (2 ^ e ≤ 2 ^ 48)
one_small e (inl is) = let s = ap (λ k. 2 ^ k) is in (omega (arith, s), omega (arith, s))
one_small e (inr is) = let s = ap (λ k. 2 ^ k) is in (omega (arith, s), omega (arith, s))

pub returns-clause-value : goal.returns-clause-value
returns-clause-value c =
    let r = c.self.inside in let k = c.self.invariant in let p = 2 ^ r.exponent in let a = c.args.x + c.args.s in
    let one = one_small r.exponent k.scale in
    let sum : c.from.result ≡ a = c.from.ensures in
    let d : ℕ = r.divisor in
    let some : 0 < d = omega (arith, k.divisor, one.0) in
    let narrow : 2 * d ≤ 18446744073709551616 = omega (arith, k.divisor, one.1, k.low_most, k.high_most) in
    let small : a ≤ 18446744073709551616 = omega (arith, c.requires.entry, c.requires.sum) in
    let estimate : c.from.result * c.from-2.result / 18446744073709551616 ≡ a * r.reciprocal / 18446744073709551616 =
    λ i. c.from.ensures i * c.from-2.ensures i / 18446744073709551616 in
    let rest : wrapped_difference (a * p) (c.from.result * c.from-2.result / 18446744073709551616 * d)
    ≡ wrapped_difference (a * p) (a * r.reciprocal / 18446744073709551616 * d) =
    ap (λ e. wrapped_difference (a * p) (e * d)) estimate in
    let quotient : c.if-rest-self.quotient ≡ a * p / d =
    elim c.if-rest-self.branch [
      | then-rest-self w ↦ w.quotient-is
          ∙ (estimate
          ∙ quotient_is_estimate a p d r.reciprocal some narrow small k.reciprocal
          (omega (arith, w.if-rest-self.true, rest)))
      | else-rest-self w ↦ w.quotient-is
          ∙ (ap (λ e. e + 1) estimate
          ∙ quotient_is_next a p d r.reciprocal some narrow small k.reciprocal
          (omega (arith, w.if-rest-self.false, rest)))
    ] in
    let by : a * p / d ≡ a * p / (p + middle r.low r.high) = ap (λ e. a * p / e) k.divisor in
    let is : c.max.result ≡ relaxed r.exponent c.args.x c.args.s r.low r.high =
    omega (arith, c.max.ensures, c.min.ensures, quotient, by) in
    is ∙ ap (λ (b : Between). relaxed b.exponent c.args.x c.args.s b.low b.high) c.self.view_is
