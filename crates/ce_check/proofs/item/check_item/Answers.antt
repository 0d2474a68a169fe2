use Rattle.ce_check.proofs.ItemVerdicts.{fraction, angle_shown, certified, flawed, no_orbit}
use Rattle.ce_check.proofs.item.check_item.Goals as goal

pub returns-in_default : goal.returns-in_default
returns-in_default c = λ version shown is.
    no_orbit shown (fraction c.args.item.now.num c.args.item.now.den) (angle_shown version shown c.args.item.now is)
    c.in_default.ensures.none

pub returns-in-Some-flaw_of : goal.returns-in-Some-flaw_of
returns-in-Some-flaw_of c = λ version shown is.
    flawed c.args.scale shown (fraction c.args.item.now.num c.args.item.now.den)
    (angle_shown version shown c.args.item.now is) c.in-Some.orbit c.in-Some.ensures.some c.in_ok-rows_of.field-0
    c.with_scale-rows.result c.in_ok-rows_of.ensures.rows c.with_scale-rows.ensures c.in-Some-flaw_of.flaw
    (c.in-Some-flaw_of.ensures version shown is)

pub returns : goal.returns
returns c = λ version shown is.
    certified c.args.scale shown (fraction c.args.item.now.num c.args.item.now.den)
    (angle_shown version shown c.args.item.now is) c.in-Some.orbit c.in-Some.ensures.some c.in_ok-rows_of.field-0
    c.with_scale-rows.result c.in_ok-rows_of.ensures.rows c.with_scale-rows.ensures
    (c.in-None.ensures version shown is)
