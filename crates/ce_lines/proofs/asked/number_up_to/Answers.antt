use Rattle.std.proofs.Common.{sym, arith}
use Rattle.ce_lines.proofs.Digits.{digit_at, value_more}
use Rattle.ce_lines.proofs.asked.number_up_to.Goals as goal

pub loop-byte-preserved : goal.loop-byte-preserved
loop-byte-preserved c =
    let text = c.args.text.now in
    let i = c.loop-byte.byte-index in
    let number = sym c.if-not-is_number.ensures in
    let digit = digit_at text i c.loop-byte-test.true number in
    let more = value_more text i c.loop-byte-test.true number in
    record {
      value = omega (
        arith,
        digit.low,
        more,
        c.loop-byte.invariant.value,
        c.from.ensures,
        c.from-in-loop-byte.ensures,
        c.min-value.ensures,
      );
    }
