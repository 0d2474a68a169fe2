use Rattle.std.proofs.Common.{sym, ◌∙◌}
use Rattle.ce_angle.specs.FareyInside.{first_of, second_of}
use Rattle.ce_angle.proofs.FareyList.{left-more, left-end, first_angle, neighbours-next}
use Rattle.ce_angle.proofs.farey.Farey.next.Goals as goal

pub returns-then-self-clause-none : goal.returns-then-self-clause-none
returns-then-self-clause-none c =
    sym c.self.view_is ∙ left-end c.self.inside.order (first_of c.self.inside) (second_of c.self.inside) c.if-self.true

pub returns-then-self-clause-ended : goal.returns-then-self-clause-ended
returns-then-self-clause-ended c =
    sym c.self.view_is ∙ left-end c.self.inside.order (first_of c.self.inside) (second_of c.self.inside) c.if-self.true

pub of_parts-angle-requires : goal.of_parts-angle-requires
of_parts-angle-requires c =
    let inside = c.self.inside in
    (first_angle inside.order (first_of inside)
    (second_of inside) c.self.invariant.neighbours c.if-self.false c.self.invariant.few).angle

pub invariant_of-self : goal.invariant_of-self
invariant_of-self c =
    let inside = c.self.inside in
    rw (c.following-num.ensures.num, c.following-num.ensures.den) (record {
      neighbours = neighbours-next inside.order (first_of inside)
          (second_of inside) c.self.invariant.neighbours c.if-self.false;
      few = c.self.invariant.few;
    })

pub returns-clause-some : goal.returns-clause-some
returns-clause-some c =
    let inside = c.self.inside in
    sym c.self.view_is ∙ rw (c.of_parts-angle.ensures, c.following-num.ensures.num, c.following-num.ensures.den)
    (left-more inside.order (first_of inside) (second_of inside) c.self.invariant.neighbours c.if-self.false)
