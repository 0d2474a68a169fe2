use Rattle.std.proofs.Common.{◌<◌, ◌+◌, arith, drop, get_or, length, refl}
use Rattle.std.proofs.lemmas.List.{take_more}
use Rattle.ce_map.specs.Grammar.{item_text}
use Rattle.core_entropy.proofs.Ended.{on_err}
use Rattle.core_entropy.proofs.Rows.{all_done, item_more, part_stays, part_turned}
use Rattle.core_entropy.specs.MapInside.{no_item}
use Rattle.core_entropy.proofs.UpgradeTask.{first_left}
use Rattle.core_entropy.proofs.commands.upgrade.write_items.Goals as goal

pub next_item-item-requires : goal.next_item-item-requires
next_item-item-requires g c =
    let r = c.requires in
    let within : c.loop-i.i < length r.items = omega (arith, c.loop-i-test.true, r.counted) in
    record {
      version = r.version;
      item = get_or r.items c.loop-i.i no_item;
      items = drop (c.loop-i.i + 1) r.items;
      are_left =
          first_left r.version r.items c.loop-i.i within c.loop-i.view
          (c.loop-i.invariant.walk r.version r.items r.are_left r.counted);
    }

pub append_view-requires : goal.append_view-requires
append_view-requires g c =
    let r = c.requires in
    let within : c.loop-i.i < length r.items = omega (arith, c.loop-i-test.true, r.counted) in
    let left =
    first_left r.version r.items c.loop-i.i within c.loop-i.view
    (c.loop-i.invariant.walk r.version r.items r.are_left r.counted) in
    record {
      version = r.version;
      item = get_or r.items c.loop-i.i no_item;
      shows = c.next_item-item.ensures.shows r.version (get_or r.items c.loop-i.i no_item)
          (drop (c.loop-i.i + 1) r.items) left;
    }

pub returns-in_err-append_view-clause-part : goal.returns-in_err-append_view-clause-part
returns-in_err-append_view-clause-part g c = λ version items are long.
    on_err _ c.from_residual.result
    (part_stays (item_text 2) items c.args.page.now.items (g.O.Sink.taken c.args.out.now)
    (g.O.Sink.taken c.loop-i.out) c.loop-i.page.items c.loop-i.i (c.loop-i.invariant.grew version items are long))

pub returns-in_err-turn_bytes-clause-part : goal.returns-in_err-turn_bytes-clause-part
returns-in_err-turn_bytes-clause-part g c = λ version items are long.
    let i = c.loop-i.i in
    let within : i < length items = omega (arith, c.loop-i-test.true, long) in
    let x = get_or items i no_item in
    let left = first_left version items i within c.loop-i.view (c.loop-i.invariant.walk version items are long) in
    let put = c.in_ok-append_view.ensures.ok version x
    (c.next_item-item.ensures.shows version x (drop (i + 1) items) left) in
    on_err _ c.from_residual-in_err-turn_bytes.result
    (part_turned (item_text 2) items c.args.page.now.items (g.O.Sink.taken c.args.out.now)
    (g.O.Sink.taken c.loop-i.out) (g.O.Sink.taken c.turn_bytes.new.out) c.loop-i.page.items
    c.append_view.new.text.items c.turn_bytes.new.page.items (item_text 2 x) i x within
    (c.loop-i.invariant.grew version items are long) (take_more items i no_item within) refl put
    c.in_err-turn_bytes.ensures.part)

pub loop-i-preserved : goal.loop-i-preserved
loop-i-preserved g c = record {
  walk = λ version items are long.
      let i = c.loop-i.i in
      let within : i < length items = omega (arith, c.loop-i-test.true, long) in
      c.next_item-item.ensures.left version (get_or items i no_item) (drop (i + 1) items)
      (first_left version items i within c.loop-i.view (c.loop-i.invariant.walk version items are long));
  grew = λ version items are long.
      let i = c.loop-i.i in
      let within : i < length items = omega (arith, c.loop-i-test.true, long) in
      let x = get_or items i no_item in
      let left = first_left version items i within c.loop-i.view (c.loop-i.invariant.walk version items are long) in
      let put = c.in_ok-append_view.ensures.ok version x
      (c.next_item-item.ensures.shows version x (drop (i + 1) items) left) in
      item_more (item_text 2) items c.args.page.now.items (g.O.Sink.taken c.args.out.now) (g.O.Sink.taken c.loop-i.out)
      (g.O.Sink.taken c.turn_bytes.new.out) c.loop-i.page.items c.append_view.new.text.items
      c.turn_bytes.new.page.items (item_text 2 x) i x within (c.loop-i.invariant.grew version items are long)
      (take_more items i no_item within) refl put c.in_ok-turn_bytes.ensures.turned;
  counted = omega (arith, c.loop-i.invariant.counted, c.turn_bytes.ensures.counted);
}

pub returns-clause-done : goal.returns-clause-done
returns-clause-done g c = λ version items are long.
    all_done (item_text 2) items c.args.page.now.items (g.O.Sink.taken c.args.out.now) (g.O.Sink.taken c.loop-i.out)
    c.loop-i.page.items c.loop-i.i (omega (arith, long, c.loop-i-test.false))
    (c.loop-i.invariant.grew version items are long)
