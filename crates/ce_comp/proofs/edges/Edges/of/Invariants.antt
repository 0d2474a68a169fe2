use Rattle.ce_comp.specs.SettlingInside.{AreEdges}
use Rattle.ce_comp.proofs.edges.Edges.of.Given as goal

abbrev pub invariant-loop-vertex : goal.invariant-loop-vertex
invariant-loop-vertex l = AreEdges l.rows.list l.of_vertex l.edges.sources.items l.edges.targets.items l.vertex
