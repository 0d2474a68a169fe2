use Rattle.std.proofs.Common.{◌-◌, ◌∙◌, List, ap, arith, drop, inl, refl, take}
use Rattle.ce_angle.specs.Fraction.{Fraction}
use Rattle.core_entropy.proofs.PartTask.{at_places, beyond_list}
use Rattle.core_entropy.proofs.commands.part.angles_at.Goals as goal
use Rattle.core_entropy.proofs.commands.part.angles_at.Goals.{else-from-to-via-then-from-to+else-to-len}
use Rattle.core_entropy.proofs.commands.part.angles_at.Goals.{else-from-to-via-else-from-to}

pub returns-then-to-len-clause-at : goal.returns-then-to-len-clause-at
returns-then-to-len-clause-at c =
    let list = c.in_ok-angles.angles.items in
    let cut = c.in_ok-from_slice.ensures.items
    ∙ ap (λ (l : List Fraction). take (c.args.to - c.args.from) (drop c.args.from l)) c.deref.ensures.value in
    at_places c.args.order c.args.from c.args.to list c.in_ok-angles.ensures.angles (omega (arith, c.if-from-to.true))
    (omega (arith, c.if-to-len.true, c.len.ensures)) c.in_ok-from_slice.field-0.items cut

pub returns-clause-refused : goal.returns-clause-refused
returns-clause-refused c =
    let list = c.in_ok-angles.angles.items in
    let beyond = beyond_list c.args.order c.args.from c.args.to list c.in_ok-angles.ensures.angles in
    elim c.else-from-to.branch [
      | else-from-to-via-then-from-to+else-to-len w ↦
          inl (beyond (λ h. omega (arith, h.1, w.if-to-len.false, w.len.ensures)), refl)
      | else-from-to-via-else-from-to w ↦ inl (beyond (λ h. omega (arith, h.0, w.if-from-to.false)), refl)
    ]
