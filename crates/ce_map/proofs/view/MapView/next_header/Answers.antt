use Rattle.std.proofs.Common.{sym, arith, ◌∙◌}
use Rattle.ce_map.specs.Grammar.{header_line}
use Rattle.ce_map.specs.HeadersInside.{header_in}
use Rattle.ce_map.specs.declared.view.Stage.TheVariants.{Failed}
use Rattle.ce_map.proofs.Fronts.{header_is_at}
use Rattle.ce_map.proofs.WalkLaws.{header_step, header_lacks, stopped_is, past, header_long}
use Rattle.ce_map.proofs.view.MapView.next_header.Goals as goal

pub returns-in_default : goal.returns-in_default
returns-in_default c =
    let i = c.self.inside in (
      header_lacks c.args.self.now i.bytes.now i.at i.line i.stage (sym c.self.view_is) c.self.invariant.within
          c.rest_of.result.now c.requires c.rest_of.ensures c.in_default.ensures,
      stopped_is c.args.self.now i.bytes.now i.at i.line i.stage (sym c.self.view_is) c.self.invariant.within
          (Failed i.line),
    )

pub overflow_sub-self : goal.overflow_sub-self
overflow_sub-self c =
    let i = c.self.inside in
    let front = header_is_at c.rest_of.result.now (header_in c.in-Some.header) c.in-Some.rest.now c.in-Some.ensures in
    (past i.bytes.now i.at (header_line (header_in c.in-Some.header)) c.in-Some.rest.now c.self.invariant.within
    (sym c.rest_of.ensures ∙ front.spelled)).few

pub invariant_of-self-2 : goal.invariant_of-self-2
invariant_of-self-2 c =
    let i = c.self.inside in
    let front = header_is_at c.rest_of.result.now (header_in c.in-Some.header) c.in-Some.rest.now c.in-Some.ensures in
    let after =
    past i.bytes.now i.at (header_line (header_in c.in-Some.header)) c.in-Some.rest.now c.self.invariant.within
    (sym c.rest_of.ensures ∙ front.spelled) in
    record {
      within = omega arith;
      few = omega (arith, after.place, header_long (header_in c.in-Some.header), c.self.invariant.few);
      version = front.header.version;
    }

pub returns : goal.returns
returns c =
    let i = c.self.inside in
    header_step c.args.self.now i.bytes.now i.at i.line i.stage (sym c.self.view_is) c.self.invariant.within
    c.rest_of.result.now (header_in c.in-Some.header) c.in-Some.rest.now c.requires c.rest_of.ensures
    c.in-Some.ensures
