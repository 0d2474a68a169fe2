use Rattle.std.proofs.Common.{sym, arith, ◌∙◌, ◌+◌}
use Rattle.ce_map.specs.Grammar.{end_line}
use Rattle.ce_map.specs.declared.view.Stage.TheVariants.{Failed}
use Rattle.ce_map.proofs.Fronts.{end_taken, end_lines}
use Rattle.ce_map.proofs.WalkLaws.{end_step, item_step, part_lacks, stopped_is, past, end_long}
use Rattle.ce_map.proofs.view.MapView.next_part.Goals as goal

pub overflow_sub-self : goal.overflow_sub-self
overflow_sub-self c =
    let i = c.self.inside in
    let front = end_taken c.rest_of-text.result.now c.in-Some.count c.in-Some.rest.now c.in-Some.ensures in
    (past i.bytes.now i.at (end_line c.in-Some.count) c.in-Some.rest.now c.self.invariant.within
    (sym c.rest_of-text.ensures ∙ front.spelled ∙ sym (end_lines c.in-Some.count c.in-Some.rest.now))).few

pub invariant_of-self : goal.invariant_of-self
invariant_of-self c =
    let i = c.self.inside in
    let front = end_taken c.rest_of-text.result.now c.in-Some.count c.in-Some.rest.now c.in-Some.ensures in
    let after =
    past i.bytes.now i.at (end_line c.in-Some.count) c.in-Some.rest.now c.self.invariant.within
    (sym c.rest_of-text.ensures ∙ front.spelled ∙ sym (end_lines c.in-Some.count c.in-Some.rest.now)) in
    record {
      within = omega arith;
      few = omega (arith, after.place, end_long c.in-Some.count, c.self.invariant.few);
      version = tt;
    }

pub returns-in-Some : goal.returns-in-Some
returns-in-Some c =
    let i = c.self.inside in
    end_step c.args.self.now i.bytes.now i.at i.line i.stage (sym c.self.view_is) c.self.invariant.within c.args.version
    c.rest_of-text.result.now c.in-Some.count c.in-Some.rest.now c.requires c.rest_of-text.ensures c.in-Some.ensures

pub returns-in-Ok : goal.returns-in-Ok
returns-in-Ok c =
    let i = c.self.inside in
    item_step c.args.self.now i.bytes.now i.at i.line i.stage (sym c.self.view_is) c.self.invariant.within
    c.args.version c.rest_of-text.result.now c.in-Ok.item c.in-Ok.rest.now c.requires c.rest_of-text.ensures
    c.in-Ok.ensures.found

pub returns-in-Err : goal.returns-in-Err
returns-in-Err c =
    let i = c.self.inside in (
      part_lacks c.args.self.now i.bytes.now i.at i.line i.stage (sym c.self.view_is) c.self.invariant.within
          c.args.version c.rest_of-text.result.now c.in-Err.lines c.requires c.rest_of-text.ensures c.in_default.ensures
          c.in-Err.ensures.none,
      stopped_is c.args.self.now i.bytes.now i.at i.line i.stage
          (sym c.self.view_is) c.self.invariant.within (Failed (i.line + c.in-Err.lines)),
    )
