use Rattle.std.proofs.Common.{sym}
use Rattle.std.specs.Prelude.{codes}
use Rattle.ce_map.proofs.Appended.{ok_then, angle_pieces}
use Rattle.ce_map.proofs.append.put_angle_line.Goals as goal

pub returns-clause-ok : goal.returns-clause-ok
returns-clause-ok c = λ item num den low high.
    ok_then c.put.result _ _ (angle_pieces c.args.text.now.items c.put_field.new.text.items c.put_field-2.new.text.items
    c.put_field-3.new.text.items c.put_field-4.new.text.items c.put.new.text.items (codes "angle ") (codes "/")
    (codes " low ") (codes " high ") (codes "\n") c.args.num c.args.den c.args.low c.args.high item.angle.num
    item.angle.den item.evidence.low item.evidence.high (sym num) (sym den) (sym low)
    (sym high) c.in_ok-put_field.ensures.ok c.in_ok-put_field-2.ensures.ok
    c.in_ok-put_field-3.ensures.ok c.in_ok-put_field-4.ensures.ok) c.put.ensures.ok
