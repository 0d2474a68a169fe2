use Rattle.std.proofs.Common.{◌∙◌, ap}
use Rattle.ce_angle.specs.Fraction.{Fraction}
use Rattle.ce_angle.proofs.Unique.{lowest_terms_unique}
use Rattle.ce_check.proofs.item.angle_of.Goals as goal
use Rattle.ce_check.proofs.item.angle_of.Goals.{then-from-num-via-then-from-num}
use Rattle.ce_check.proofs.item.angle_of.Goals.{then-from-num-via-else-from-num+then-from-den}

pub returns-then-from-num-clause-none : goal.returns-then-from-num-clause-none
returns-then-from-num-clause-none c = λ is.
    let given : Fraction = record { num = c.args.num; den = c.args.den } in
    let same = lowest_terms_unique c.in-Ok.angle given c.in-Ok.ensures.lowest is c.in-Ok.ensures.same in
    elim c.then-from-num.branch [
      | then-from-num-via-then-from-num w ↦ w.if-from-num.true (c.from.ensures ∙ c.num.ensures.value
          ∙ ap (λ f. f.num) same)
      | then-from-num-via-else-from-num+then-from-den w ↦ w.if-from-den.true (w.from-else-from-num.ensures
          ∙ w.den.ensures.value ∙ ap (λ f. f.den) same)
    ]
