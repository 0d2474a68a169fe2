use Rattle.std.proofs.Common.{◌<◌, arith, get_or, length}
use Rattle.std.proofs.lemmas.List.{take_more}
use Rattle.ce_map.specs.Grammar.{item_text}
use Rattle.core_entropy.specs.MapInside.{no_item}
use Rattle.core_entropy.proofs.Ended.{on_err}
use Rattle.core_entropy.proofs.MapTask.{class_is_item, class_spelled}
use Rattle.core_entropy.proofs.Rows.{all_done, item_more, part_stays, part_turned}
use Rattle.core_entropy.proofs.commands.map.write_solved.Goals as goal

pub append_item-requires : goal.append_item-requires
append_item-requires g c =
    let s = c.args.solutions.now in
    class_is_item c.args.settings.now c.args.angles.now s.classes.of.items s.classes.first.items s.solved.items
    c.requires.solved c.loop-k.k c.index-angles-k.result c.index.result.now c.index-in-loop-k.result.now _
    c.loop-k-test.true c.index-angles-k.is c.index.ensures c.index-in-loop-k.ensures c.view.ensures c.requires.small

pub returns-in_err-append_item-clause-part : goal.returns-in_err-append_item-clause-part
returns-in_err-append_item-clause-part g c = λ items are.
    on_err _ c.from_residual.result
    (part_stays (item_text 2) items c.args.page.now.items (g.O.Sink.taken c.args.out.now)
    (g.O.Sink.taken c.loop-k.out) c.loop-k.page.items c.loop-k.k (c.loop-k.invariant.grew items are))

pub returns-in_err-turn_bytes-clause-part : goal.returns-in_err-turn_bytes-clause-part
returns-in_err-turn_bytes-clause-part g c = λ items are.
    let s = c.args.solutions.now in
    let k = c.loop-k.k in
    let within : k < length items = omega (arith, c.loop-k-test.true, are.each) in
    let spelled = class_spelled c.args.settings.now c.args.angles.now s.classes.of.items s.classes.first.items
    s.solved.items c.requires.solved k c.index-angles-k.result c.index.result.now c.index-in-loop-k.result.now _
    c.loop-k-test.true c.index-angles-k.is c.index.ensures c.index-in-loop-k.ensures c.view.ensures items are in
    on_err _ c.from_residual-in_err-turn_bytes.result
    (part_turned (item_text 2) items c.args.page.now.items (g.O.Sink.taken c.args.out.now)
    (g.O.Sink.taken c.loop-k.out) (g.O.Sink.taken c.turn_bytes.new.out) c.loop-k.page.items
    c.append_item.new.text.items c.turn_bytes.new.page.items _ k (get_or items k no_item) within
    (c.loop-k.invariant.grew items are) (take_more items k no_item within) spelled c.in_ok-append_item.ensures.ok
    c.in_err-turn_bytes.ensures.part)

pub loop-k-preserved : goal.loop-k-preserved
loop-k-preserved g c = record {
  grew = λ items are.
      let s = c.args.solutions.now in
      let k = c.loop-k.k in
      let within : k < length items = omega (arith, c.loop-k-test.true, are.each) in
      let spelled = class_spelled c.args.settings.now c.args.angles.now s.classes.of.items s.classes.first.items
      s.solved.items c.requires.solved k c.index-angles-k.result c.index.result.now c.index-in-loop-k.result.now _
      c.loop-k-test.true c.index-angles-k.is c.index.ensures c.index-in-loop-k.ensures c.view.ensures items are in
      item_more (item_text 2) items c.args.page.now.items (g.O.Sink.taken c.args.out.now) (g.O.Sink.taken c.loop-k.out)
      (g.O.Sink.taken c.turn_bytes.new.out) c.loop-k.page.items c.append_item.new.text.items
      c.turn_bytes.new.page.items _ k (get_or items k no_item) within (c.loop-k.invariant.grew items are)
      (take_more items k no_item within) spelled c.in_ok-append_item.ensures.ok c.in_ok-turn_bytes.ensures.turned;
  counted = omega (arith, c.loop-k.invariant.counted, c.turn_bytes.ensures.counted);
}

pub returns-clause-done : goal.returns-clause-done
returns-clause-done g c = λ items are.
    all_done (item_text 2) items c.args.page.now.items (g.O.Sink.taken c.args.out.now) (g.O.Sink.taken c.loop-k.out)
    c.loop-k.page.items c.loop-k.k (omega (arith, are.each, c.loop-k-test.false))
    (c.loop-k.invariant.grew items are)
