use Rattle.std.proofs.Common.{◌∙◌, sym}
use Rattle.ce_sweep.specs.Classes.{IsKeyOfAngle}
use Rattle.ce_sweep.proofs.ClassesOfKeys.{same_by_keys}
use Rattle.ce_orbit.proofs.SameKeys.{keys_decide}
use Rattle.ce_atlas.proofs.relating.have_same_kneading.Goals as goal

pub returns : goal.returns
returns c =
    let first : IsKeyOfAngle c.args.a c.key.result = record {
      orbit = c.in-Ok.first;
      of_angle = c.in-Ok.ensures.angle;
      is_orbit = c.in-Ok.ensures.places;
      is_key = c.key.ensures.key;
    } in
    let second : IsKeyOfAngle c.args.b c.key-2.result = record {
      orbit = c.in-Ok-of.second;
      of_angle = c.in-Ok-of.ensures.angle;
      is_orbit = c.in-Ok-of.ensures.places;
      is_key = c.key-2.ensures.key;
    } in
    let both = same_by_keys c.args.a c.args.b c.key.result c.key-2.result first second in
    let eq = keys_decide c.key.result c.key-2.result in
    let is = c.eq.ensures in
    (λ t. both.0 (eq.0 (sym is ∙ t)), λ s. is ∙ eq.1 (both.1 s))
