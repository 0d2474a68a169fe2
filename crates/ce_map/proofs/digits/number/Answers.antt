use Rattle.std.proofs.Common.{◌<◌, ◌∙◌, Some, length, get_or, drop, false, arith, sym, refl, ap}
use Rattle.ce_map.specs.DigitsInside.{digits_front, in_range}
use Rattle.ce_map.proofs.Scanning.{head_no_digit, head_positive, head_zero, one_digit, zero_byte, other_byte}
use Rattle.ce_map.proofs.Scanning.{found_along}
use Rattle.ce_map.proofs.digits.number.Goals as goal

pub returns-then-first-radix : goal.returns-then-first-radix
returns-then-first-radix c =
    let some : 0 < length c.args.text.now = omega arith in
    head_no_digit c.args.radix (get_or c.args.text.now 0 0) (drop 1 c.args.text.now) c.args.text.now some refl refl
    (omega (arith, c.digit_of-first.ensures.value))

pub returns-then-begins_plain : goal.returns-then-begins_plain
returns-then-begins_plain c =
    let text = c.args.text.now in
    let rest = c.rest_of-rest.result.now in
    let some : 0 < length text = omega arith in
    let first = c.digit_of-first.ensures.value in
    one_digit c.args.radix (get_or text 0 0) rest text some refl c.rest_of-rest.ensures c.requires.low c.requires.high
    (omega (arith, first)) (sym c.begins_plain.ensures ∙ c.if-begins_plain.true) ∙ ap (λ d. Some (d, rest)) (sym first)

pub returns-then-first-eq0 : goal.returns-then-first-eq0
returns-then-first-eq0 c =
    let text = c.args.text.now in
    let some : 0 < length text = omega arith in
    let first = c.digit_of-first.ensures.value in
    head_zero c.args.radix (get_or text 0 0) c.rest_of-rest.result.now text some refl c.rest_of-rest.ensures false
    (omega (arith, first)) (zero_byte (get_or text 0 0) (sym first ∙ c.if-first-eq0.true))
    (sym c.begins_plain.ensures ∙ c.if-begins_plain.false)

pub returns : goal.returns
returns c =
    let text = c.args.text.now in
    let byte = get_or text 0 0 in
    let some : 0 < length text = omega arith in
    let first = c.digit_of-first.ensures.value in
    let rest = c.rest_of-rest.ensures in
    found_along (λ r. (r.0, r.1.now)) c.number_after.result
    (in_range (digits_front c.args.radix c.digit_of-first.result c.rest_of-rest.result.now)) _
    (head_positive c.args.radix byte (drop 1 text) text some refl refl (omega (arith, first))
    (other_byte byte (λ z. c.if-first-eq0.false (first ∙ z)))
    ∙ ap (λ d. in_range (digits_front c.args.radix d (drop 1 text))) (sym first)
    ∙ ap (λ l. in_range (digits_front c.args.radix c.digit_of-first.result l)) (sym rest))
    c.number_after.ensures
