use Rattle.std.proofs.Common.{◌≤◌, ◌+◌, ◌-◌, ◌*◌, ◌/◌, arith}
use Rattle.ce_angle.proofs.FareySteps.{num_fits, next_is, next-small, second_within}
use Rattle.ce_angle.proofs.farey.following.Goals as goal

pub overflow_sub-num : goal.overflow_sub-num
overflow_sub-num c =
    let n = c.requires.neighbours in
    let first = c.args.first in
    let second = c.args.second in
    rw (c.from.ensures, c.from-2.ensures, c.from-3.ensures, c.from-4.ensures, c.from-5.ensures)
    (num_fits c.args.order first.0 first.1 second.0 second.1 n.unit n.some_first n.some_second n.small_second)

pub overflow_cast-result : goal.overflow_cast-result
overflow_cast-result c =
    let n = c.requires.neighbours in
    let first = c.args.first in
    let second = c.args.second in
    let next = next_is c.args.order first.0 first.1 second.0 second.1 n.unit n.some_first n.some_second
    n.small_second in
    let within = second_within first.0 first.1 second.0 second.1 n.unit n.some_second c.requires.below in
    let small : (c.args.order + first.1) / second.1 * second.0 - first.0 ≤ c.args.order + 1 =
    omega (arith, next.small, next-small second.0 second.1 _ _ n.some_second within next.unit) in
    rw (c.from.ensures, c.from-2.ensures, c.from-3.ensures, c.from-4.ensures, c.from-5.ensures)
    (omega (arith, small, c.requires.few))
