use Rattle.std.proofs.Common.{◌≡◌, ◌<◌, ◌∙◌, ◌+◌, ◌*◌, Some, drop, length, arith, sym, ap, refl}
use Rattle.ce_map.specs.DigitsInside.{digits_front, in_range}
use Rattle.ce_map.proofs.Scanning.{scan_more, scan_end, within_range, few_more, few_small, few_fit, found_along}
use Rattle.ce_map.proofs.digits.number_after.Goals as goal

pub loop-i-init : goal.loop-i-init
loop-i-init c = record { read = refl; small = omega (arith, c.requires.first) }

pub returns-then-digit-radix : goal.returns-then-digit-radix
returns-then-digit-radix c =
    let digit = c.digit_of-digit.ensures.value in
    let within : c.loop-i.i < length c.args.text.now = omega (arith, c.requires.some, c.loop-i-test.true) in
    let small = few_small c.loop-i.value c.loop-i.i c.loop-i-test.true c.loop-i.invariant.small in
    ap in_range (c.loop-i.invariant.read
    ∙ scan_end c.args.radix c.loop-i.value c.args.text.now c.loop-i.i within (omega (arith, digit)))
    ∙ within_range c.loop-i.value (drop c.loop-i.i c.args.text.now) (omega (arith, small))
    ∙ ap (λ l. Some (c.loop-i.value, l)) (sym c.rest_of.ensures)

pub loop-i-preserved : goal.loop-i-preserved
loop-i-preserved c =
    let digit = c.digit_of-digit.ensures.value in
    let within : c.loop-i.i < length c.args.text.now = omega (arith, c.requires.some, c.loop-i-test.true) in
    record {
      read = c.loop-i.invariant.read
          ∙ scan_more c.args.radix c.loop-i.value c.args.text.now c.loop-i.i within (omega (arith, digit))
          ∙ ap (λ d. digits_front c.args.radix (c.loop-i.value * c.args.radix + d)
          (drop (c.loop-i.i + 1) c.args.text.now)) (sym digit);
      small = few_more c.loop-i.value c.digit_of-digit.result c.args.radix c.loop-i.i c.loop-i.invariant.small
          c.requires.high (omega arith);
    }

pub returns : goal.returns
returns c =
    let all : c.loop-i.i ≡ 4 = omega (arith, c.loop-i-test.false) in
    found_along (λ r. (r.0, r.1.now)) c.number_on.result
    (in_range (digits_front c.args.radix c.loop-i.value c.rest_of-2.result.now)) _
    (ap in_range (c.loop-i.invariant.read
    ∙ ap (λ j. digits_front c.args.radix c.loop-i.value (drop j c.args.text.now)) all
    ∙ ap (digits_front c.args.radix c.loop-i.value) (sym c.rest_of-2.ensures))) c.number_on.ensures

pub overflow_mul-value : goal.overflow_mul-value
overflow_mul-value c =
    omega (
      arith,
      few_fit c.loop-i.value c.args.radix c.loop-i.i c.loop-i-test.true c.loop-i.invariant.small c.requires.high,
    )

pub overflow_add-value : goal.overflow_add-value
overflow_add-value c =
    omega (
      arith,
      few_fit c.loop-i.value c.args.radix c.loop-i.i c.loop-i-test.true c.loop-i.invariant.small c.requires.high,
    )
