use Rattle.std.proofs.Common.{◌∙◌, ◌+◌, ◌*◌, drop, arith, sym, ap}
use Rattle.ce_map.specs.DigitsInside.{digits_front, in_range}
use Rattle.ce_map.proofs.Scanning.{scan_more, scan_end, scan_over, scan_all, found_along}
use Rattle.ce_map.proofs.digits.number_on.Goals as goal

pub returns-then-value-ge-MOST_BEFORE_DIGIT : goal.returns-then-value-ge-MOST_BEFORE_DIGIT
returns-then-value-ge-MOST_BEFORE_DIGIT c =
    let digit = c.digit_of-digit.ensures.value in
    ap in_range c.loop-i.invariant
    ∙ scan_over c.args.radix c.loop-i.value c.args.text.now c.loop-i.i c.loop-i-test.true c.requires.low
    c.requires.high (omega (arith, digit)) (omega arith)

pub returns-then-digit-radix : goal.returns-then-digit-radix
returns-then-digit-radix c =
    let digit = c.digit_of-digit.ensures.value in
    let rest = c.rest_of.ensures in
    found_along (λ r. (r.0, r.1.now)) c.within.result (in_range (c.loop-i.value, c.rest_of.result.now)) _
    (ap in_range (c.loop-i.invariant
    ∙ scan_end c.args.radix c.loop-i.value c.args.text.now c.loop-i.i c.loop-i-test.true (omega (arith, digit))
    ∙ ap (λ l. (c.loop-i.value, l)) (sym rest))) c.within.ensures

pub loop-i-preserved : goal.loop-i-preserved
loop-i-preserved c =
    let digit = c.digit_of-digit.ensures.value in
    c.loop-i.invariant ∙ scan_more c.args.radix c.loop-i.value c.args.text.now c.loop-i.i c.loop-i-test.true
    (omega (arith, digit))
    ∙ ap (λ d. digits_front c.args.radix (c.loop-i.value * c.args.radix + d)
    (drop (c.loop-i.i + 1) c.args.text.now)) (sym digit)

pub returns : goal.returns
returns c =
    let rest = c.rest_of-2.ensures in
    found_along (λ r. (r.0, r.1.now)) c.within-2.result (in_range (c.loop-i.value, c.rest_of-2.result.now)) _
    (ap in_range (c.loop-i.invariant
    ∙ scan_all c.args.radix c.loop-i.value c.args.text.now c.loop-i.i c.loop-i-test.false (omega arith)
    ∙ ap (λ l. (c.loop-i.value, l)) (sym rest))) c.within-2.ensures
