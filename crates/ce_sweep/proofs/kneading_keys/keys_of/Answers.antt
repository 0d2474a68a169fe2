use Rattle.std.proofs.Common.{◌≡◌, [], ◌∷◌, ◌++◌, subst, arith}
use Rattle.std.proofs.lemmas.Grind.{common_steps}
use Rattle.ce_sweep.specs.Classes.{IsKeyOfAngle}
use Rattle.ce_sweep.proofs.Zipped.{zip_more}
use Rattle.ce_sweep.proofs.kneading_keys.keys_of.Goals as goal

pub loop-angle-preserved : goal.loop-angle-preserved
loop-angle-preserved c =
    let key = c.in-Ok-key_of.key in
    let items : c.push.new.self.items ≡ c.loop-angle.keys.items ++ key ∷ [] =
    grind (arith, common_steps, c.push.ensures.items) in
    let is_key = subst (λ angle. IsKeyOfAngle angle key) c.angle-item.is c.in-Ok-key_of.ensures.key in
    rw items (zip_more IsKeyOfAngle c.args.angles.now c.loop-angle.keys.items c.loop-angle.angle-index
    c.angle-item.result key c.loop-angle-test.true c.loop-angle.invariant is_key)
