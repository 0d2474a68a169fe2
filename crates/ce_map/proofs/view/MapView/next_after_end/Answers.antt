use Rattle.std.proofs.Common.{sym}
use Rattle.ce_map.specs.declared.view.Stage.TheVariants.{Trailing}
use Rattle.ce_map.proofs.WalkLaws.{tail_line, stopped_is}
use Rattle.ce_map.proofs.view.MapView.next_after_end.Goals as goal

pub returns-then-self : goal.returns-then-self
returns-then-self c =
    let i = c.self.inside in (
      tail_line c.args.self.now i.bytes.now i.at i.line i.stage (sym c.self.view_is) c.self.invariant.within c.requires
          c.if-self.true,
      stopped_is c.args.self.now i.bytes.now i.at i.line i.stage
          (sym c.self.view_is) c.self.invariant.within (Trailing i.line),
    )
