use Rattle.std.proofs.Common.{◌≡◌, ◌∙◌, ◌++◌, [], ◌∷◌, sym, ap, arith}
use Rattle.std.proofs.lemmas.Grind.{common_steps}
use Rattle.std.proofs.lemmas.List.Elements.{All-push}
use Rattle.std.proofs.lemmas.List.FromFn.{map-range_with_len_more}
use Rattle.ce_angle.specs.Farey.{IsAngleUpTo}
use Rattle.ce_sweep.specs.Probe.{probe_angle_of, probe_angles_of}
use Rattle.ce_sweep.proofs.probe_list.probe_angles.Goals as goal

pub loop-k-preserved : goal.loop-k-preserved
loop-k-preserved c =
    let angle = c.probe_angle.result in
    let old = c.loop-k.angles.items in
    let items : c.push.new.self.items ≡ old ++ angle ∷ [] = grind (arith, common_steps, c.push.ensures.items) in
    let more = map-range_with_len_more (probe_angle_of c.args.start) 0 c.loop-k.k c.loop-k.k (omega arith) in
    rw items (record {
      angles = ap (λ xs. xs ++ angle ∷ []) c.loop-k.invariant.angles ∙ ap
          (λ a. probe_angles_of c.args.start c.loop-k.k ++ a ∷ []) c.probe_angle.ensures.value ∙ sym more;
      small = All-push (IsAngleUpTo 64) old angle c.loop-k.invariant.small c.probe_angle.ensures.small;
    })
