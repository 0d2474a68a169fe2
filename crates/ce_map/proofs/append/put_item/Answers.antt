use Rattle.std.proofs.Common.{◌∙◌, refl, sym}
use Rattle.ce_map.specs.Grammar.{Item, angle_line, ranks_line, low_line, high_line}
use Rattle.ce_cert.specs.Evidence.{evidence_of}
use Rattle.ce_map.proofs.Appended.{ok_then, item_pieces}
use Rattle.ce_map.proofs.append.put_item.Goals as goal

pub returns-clause-ok : goal.returns-clause-ok
returns-clause-ok c =
    let item : Item = record { angle = c.args.angle; evidence = evidence_of c.args.cert.now } in
    let first =
    c.in_ok-put_angle_line.ensures.ok item (sym (c.from-num.ensures ∙ c.num.ensures.value))
    (sym (c.from-den.ensures ∙ c.den.ensures.value)) refl refl in
    ok_then c.put_high_line.result _ _
    (item_pieces c.args.text.now.items c.put_angle_line.new.text.items c.put_ranks_line.new.text.items
    c.put_low_line.new.text.items c.put_high_line.new.text.items (angle_line item) (ranks_line item)
    (low_line 2 item) (high_line 2 item) first c.in_ok-put_ranks_line.ensures.ok
    c.in_ok-put_low_line.ensures.ok) c.put_high_line.ensures.ok
