use Rattle.std.proofs.Common.{◌∙◌, sym}
use Rattle.std.proofs.lemmas.Result.{on_ok_weaker}
use Rattle.ce_comp.proofs.AddedEdges.{one_added, two_added}
use Rattle.ce_comp.proofs.edges.Edges.add_row.Goals as goal

pub returns-in-One : goal.returns-in-One
returns-in-One c =
    let after = c.add.new.self in
    let row = sym c.row.ensures.value ∙ c.in-One.is in
    on_ok_weaker c.add.result (one_added _ _ _ _ after.sources.items after.targets.items c.args.vertex c.in-One.x
    c.requires.edges c.requires.vertex row) c.add.ensures

pub returns-in_ok-add-in-Two : goal.returns-in_ok-add-in-Two
returns-in_ok-add-in-Two c =
    let between = c.add-in-Two.new.self in
    let after = c.add-in-Two-2.new.self in
    let row = sym c.row.ensures.value ∙ c.in-Two.is in
    on_ok_weaker c.add-in-Two-2.result (two_added _ _ _ _ between.sources.items between.targets.items
    after.sources.items after.targets.items c.args.vertex c.in-Two.x c.in-Two.y c.requires.edges c.requires.vertex row
    c.in_ok-add-in-Two.ensures) c.add-in-Two-2.ensures
