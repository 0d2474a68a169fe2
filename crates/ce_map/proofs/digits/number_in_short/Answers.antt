use Rattle.std.proofs.Common.{◌<◌, ◌∙◌, length, get_or, drop, true, false, arith, sym, refl, ap}
use Rattle.std.proofs.lemmas.Bool.Decides.{nat_tests}
use Rattle.ce_map.specs.DigitsInside.{digits_front, in_range}
use Rattle.ce_map.proofs.Scanning.{empty_front, head_no_digit, head_positive, head_zero, found_along}
use Rattle.ce_map.proofs.digits.number_in_short.Goals as goal

pub returns-then-is_empty : goal.returns-then-is_empty
returns-then-is_empty c =
    let test = c.is_empty.ensures in
    empty_front c.args.radix c.args.text.now (grind (arith, nat_tests))

pub returns-then-first-radix : goal.returns-then-first-radix
returns-then-first-radix c =
    let test = c.is_empty.ensures in
    let some : 0 < length c.args.text.now = grind (arith, nat_tests) in
    head_no_digit c.args.radix (get_or c.args.text.now 0 0) (drop 1 c.args.text.now) c.args.text.now some refl refl
    (omega (arith, c.digit_of-first.ensures.value))

pub returns-then-byte-ne48 : goal.returns-then-byte-ne48
returns-then-byte-ne48 c =
    let test = c.is_empty.ensures in
    let some : 0 < length c.args.text.now = grind (arith, nat_tests) in
    let text = c.args.text.now in
    let byte = get_or text 0 0 in
    let first = c.digit_of-first.ensures.value in
    let rest = c.rest_of-rest.ensures in
    found_along (λ r. (r.0, r.1.now)) c.number_on.result
    (in_range (digits_front c.args.radix c.digit_of-first.result c.rest_of-rest.result.now)) _
    (head_positive c.args.radix byte (drop 1 text) text some refl refl
    (omega (arith, first)) c.if-byte-ne48.true
    ∙ ap (λ d. in_range (digits_front c.args.radix d (drop 1 text))) (sym first)
    ∙ ap (λ l. in_range (digits_front c.args.radix c.digit_of-first.result l)) (sym rest))
    c.number_on.ensures

pub returns-then-begins_plain : goal.returns-then-begins_plain
returns-then-begins_plain c =
    let test = c.is_empty.ensures in
    let some : 0 < length c.args.text.now = grind (arith, nat_tests) in
    let text = c.args.text.now in
    let byte = get_or text 0 0 in
    let first = c.digit_of-first.ensures.value in
    let rest = c.rest_of-rest.ensures in
    let plain = c.begins_plain.ensures in
    head_zero c.args.radix byte c.rest_of-rest.result.now text some refl rest true
    (omega (arith, first)) c.if-byte-ne48.false (cc)

pub returns-else-begins_plain : goal.returns-else-begins_plain
returns-else-begins_plain c =
    let test = c.is_empty.ensures in
    let some : 0 < length c.args.text.now = grind (arith, nat_tests) in
    let text = c.args.text.now in
    let byte = get_or text 0 0 in
    let first = c.digit_of-first.ensures.value in
    let rest = c.rest_of-rest.ensures in
    let plain = c.begins_plain.ensures in
    head_zero c.args.radix byte c.rest_of-rest.result.now text some refl rest false
    (omega (arith, first)) c.if-byte-ne48.false (cc)
