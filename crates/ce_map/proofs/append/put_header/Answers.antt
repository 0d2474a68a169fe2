use Rattle.std.proofs.Common.{◌∙◌}
use Rattle.std.specs.Prelude.{codes}
use Rattle.ce_map.proofs.Appended.{ok_then, header_pieces}
use Rattle.ce_map.proofs.append.put_header.Goals as goal

pub returns-clause-ok : goal.returns-clause-ok
returns-clause-ok c =
    ok_then c.put.result _ _
    (header_pieces c.args.text.now.items c.put_field.new.text.items c.put_field-2.new.text.items
    c.put_field-3.new.text.items c.put.new.text.items (codes "core-entropy-map ") (codes " order ")
    (codes " scale ") (codes "\n") 2 c.from.result c.from-2.result c.args.order c.args.scale c.from.ensures
    (c.from-2.ensures ∙ c.exponent.ensures.value) c.in_ok-put_field.ensures.ok
    c.in_ok-put_field-2.ensures.ok c.in_ok-put_field-3.ensures.ok) c.put.ensures.ok
