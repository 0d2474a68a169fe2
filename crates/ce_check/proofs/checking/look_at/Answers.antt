use Rattle.std.proofs.Common.{◌∙◌}
use Rattle.ce_check.proofs.CheckLaws.{short_orbit, same_fraction}
use Rattle.ce_check.proofs.ItemVerdicts.{angle_shown}
use Rattle.ce_check.proofs.checking.look_at.Goals as goal

pub unreachable-requires : goal.unreachable-requires
unreachable-requires c =
    let s = c.requires.shown in
    let view = c.args.item.now in
    let up = rw c.in-Some.is at c.requires.next in
    let same =
    same_fraction c.in-Some.angle view.num view.den c.from.result c.from-else-from-item.result c.num.result
    c.den.result c.if-from-item.false c.from.ensures c.num.ensures.value c.if-from-item-2.false
    c.from-else-from-item.ensures c.den.ensures.value in
    let orbit =
    short_orbit c.args.order c.in-Some.angle s.item.angle c.requires.few up (same
    ∙ angle_shown s.version s.item view s.shows) in
    let said = c.in_ok-check_item.ensures s.version s.item s.shows in
    let none = rw (c.in-Some-Angle.is, c.in-Some-Angle.field-0-is) at said in
    none orbit.0 orbit.1
