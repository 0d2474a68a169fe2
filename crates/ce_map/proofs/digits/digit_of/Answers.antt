use Rattle.std.proofs.Common.{◌∙◌, arith}
use Rattle.ce_map.proofs.Scanning.{looked_up, digit_small}
use Rattle.ce_map.proofs.digits.digit_of.Goals as goal

pub returns-clause-value : goal.returns-clause-value
returns-clause-value c = c.from.ensures ∙ looked_up c.args.byte (omega (arith, c.ranges.byte.fits))

pub returns-clause-small : goal.returns-clause-small
returns-clause-small c =
    digit_small c.args.byte c.from.result (c.from.ensures ∙ looked_up c.args.byte (omega (arith, c.ranges.byte.fits)))
