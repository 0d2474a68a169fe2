use Rattle.std.proofs.Common.{[]}
use Rattle.ce_command.specs.ReadingInside.{given_by}
use Rattle.ce_command.specs.declared.options.NumberOption.{NumberOption}
use Rattle.ce_command.specs.declared.options.Numbers.TheVariants.{Between}
use Rattle.ce_command.proofs.Making.{bad_option, good_option}
use Rattle.ce_command.proofs.parsing.has_numbers.Goals as goal

pub returns-then-is_none : goal.returns-then-is_none
returns-then-is_none c =
    let d : NumberOption =
    record { name = record { ref_ptr = (0, 0); now = [] }; default = 0; numbers = Between 0 0 } in
    bad_option (given_by c.args.matches.now) c.args.options.now c.loop-option.option-index d c.number_of.result
    c.is_none.result c.loop-option-test.true c.number_of.ensures c.is_none.ensures c.if-is_none.true

pub loop-option-preserved : goal.loop-option-preserved
loop-option-preserved c =
    let d : NumberOption =
    record { name = record { ref_ptr = (0, 0); now = [] }; default = 0; numbers = Between 0 0 } in
    good_option (given_by c.args.matches.now) c.args.options.now c.loop-option.option-index d c.number_of.result
    c.is_none.result c.loop-option-test.true c.number_of.ensures c.is_none.ensures c.if-is_none.false
    c.loop-option.invariant
