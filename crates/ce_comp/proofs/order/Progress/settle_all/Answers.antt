use Rattle.std.proofs.Common.{◌≡◌, ◌<◌, ◌≤◌, ◌∙◌, arith, length, get_or, subst, sym}
use Rattle.std.proofs.lemmas.List.{get_or_default}
use Rattle.ce_comp.specs.SettlingInside.{standing}
use Rattle.ce_comp.proofs.Settling.{left_some, next_edge, settled_all, source_open}
use Rattle.ce_comp.proofs.order.Progress.settle_all.Goals as goal

pub settle-requires-clause-some : goal.settle-requires-clause-some
settle-requires-clause-some c =
    let sources = c.args.edges.now.sources.items in
    let e = c.loop-edge.edge in
    let less : e < length sources =
    omega (arith, c.args.edges.now.sources.ok.0, c.len.ensures, c.loop-edge-test.true) in
    let same : c.index.result.now ≡ get_or sources e 0 = c.index.ensures
    ∙ get_or_default sources e c.index.result.now 0 less in
    subst (λ m. 0 < get_or c.loop-edge.self.left.items m 0) (sym same)
    (left_some c.args.first.now sources c.args.edges.now.targets.items (standing c.loop-edge.self) c.args.component
    e c.loop-edge.invariant.settling less (c.loop-edge.invariant.into less) (c.requires.sources e 0 less))

pub settle-requires-clause-open_yet : goal.settle-requires-clause-open_yet
settle-requires-clause-open_yet c =
    let sources = c.args.edges.now.sources.items in
    let e = c.loop-edge.edge in
    let less : e < length sources =
    omega (arith, c.args.edges.now.sources.ok.0, c.len.ensures, c.loop-edge-test.true) in
    let same : c.index.result.now ≡ get_or sources e 0 = c.index.ensures
    ∙ get_or_default sources e c.index.result.now 0 less in
    subst (λ m. length c.args.first.now ≤ get_or c.loop-edge.self.numbers.items m 0) (sym same)
    (source_open c.args.first.now sources c.args.edges.now.targets.items (standing c.loop-edge.self)
    c.args.component e c.loop-edge.invariant.settling less (c.loop-edge.invariant.into less)
    (c.requires.sources e 0 less))

pub loop-edge-preserved : goal.loop-edge-preserved
loop-edge-preserved c =
    let sources = c.args.edges.now.sources.items in
    let e = c.loop-edge.edge in
    let less : e < length sources =
    omega (arith, c.args.edges.now.sources.ok.0, c.len.ensures, c.loop-edge-test.true) in
    let done = c.in_ok-settle.ensures in
    let numbered = subst (λ ns. get_or ns c.args.component 0 < length c.args.first.now)
    (sym c.loop-edge.invariant.numbers) c.requires.numbered in
    let next = next_edge c.args.first.now sources c.args.edges.now.targets.items (standing c.loop-edge.self)
    c.args.component e c.loop-edge.invariant.settling less (c.loop-edge.invariant.into less)
    (c.requires.sources e 0 less) c.args.incoming.now.first.items c.args.incoming.now.next.items
    (standing c.settle.new.self) c.index.result.now c.index-edge-in-loop-edge.result.now c.requires.incoming
    c.requires.each numbered c.index.ensures c.index-edge-in-loop-edge.ensures done.numbers done.left done.ready in
    record { numbers = done.numbers ∙ c.loop-edge.invariant.numbers; into = next.into_too; settling = next.settling }

pub returns-clause-settled : goal.returns-clause-settled
returns-clause-settled c = settled_all c.args.first.now c.args.edges.now.sources.items c.args.edges.now.targets.items
    (standing c.loop-edge.self) c.args.component c.loop-edge.edge c.loop-edge.invariant.settling
    (omega (arith, c.args.edges.now.sources.ok.0, c.len.ensures, c.loop-edge-test.false))
