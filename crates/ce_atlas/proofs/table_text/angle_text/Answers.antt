use Rattle.std.proofs.Common.{◌≡◌, rules, string_bytes, sym, subst}
use Rattle.ce_angle.specs.Spelled.{fraction_text}
use Rattle.ce_atlas.specs.WritingInside.{IsPlain}
use Rattle.ce_atlas.proofs.Plain.{angle_plain}
use Rattle.ce_atlas.proofs.table_text.angle_text.Goals as goal

pub returns-in-Ok-clause-plain : goal.returns-in-Ok-clause-plain
returns-in-Ok-clause-plain c =
    let value : string_bytes c.in-Ok.text ≡ fraction_text c.args.angle = search rules in
    subst IsPlain (sym value) (angle_plain c.args.angle c.num-num.ensures.angle)
