use Rattle.std.proofs.Common.{ap, length, string_bytes, sym, arith}
use Rattle.ce_thurston.specs.Indices.{pairs_below}
use Rattle.core_entropy.specs.Show.{pair_line, row_line}
use Rattle.core_entropy.proofs.Ended.{on_err}
use Rattle.core_entropy.proofs.Rows.{all_done, item_more, part_stays, part_turned}
use Rattle.core_entropy.proofs.ShowPlaces.{below_item, below_long, below_within, row_within}
use Rattle.core_entropy.proofs.ShowTask.{row_spelled}
use Rattle.core_entropy.proofs.commands.show.write_column.Goals as goal

pub row-requires : goal.row-requires
row-requires g c =
    row_within c.args.orbit.now c.loop-i.i c.args.j c.pair_index-k.result _ c.requires.other c.loop-i-test.true
    c.requires.place c.pair_index-k.ensures.value (ap length c.requires.rows)

pub returns-in_err-append_row-clause-part : goal.returns-in_err-append_row-clause-part
returns-in_err-append_row-clause-part g c =
    let o = c.args.orbit.now in
    on_err _ c.from_residual.result
    (part_stays (pair_line o) (pairs_below c.args.j) (string_bytes c.args.page.now) (g.O.Sink.taken c.args.out.now)
    (g.O.Sink.taken c.loop-i.out) (string_bytes c.loop-i.page) c.loop-i.i c.loop-i.invariant.grew)

pub returns-in_err-turn_page-clause-part : goal.returns-in_err-turn_page-clause-part
returns-in_err-turn_page-clause-part g c =
    let o = c.args.orbit.now in
    let j = c.args.j in
    let i = c.loop-i.i in
    let less = c.loop-i-test.true in
    on_err _ c.from_residual-in_err-turn_page.result
    (part_turned (pair_line o) (pairs_below j) (string_bytes c.args.page.now) (g.O.Sink.taken c.args.out.now)
    (g.O.Sink.taken c.loop-i.out) (g.O.Sink.taken c.turn_page.new.out) (string_bytes c.loop-i.page)
    (string_bytes c.append_row.new.text) (string_bytes c.turn_page.new.page)
    (row_line c.pair_index-k.result (i, j) c.row.result) i (i, j) (below_within j i less) c.loop-i.invariant.grew
    (below_item j i less)
    (row_spelled o c.pair_index-k.result (i, j) c.args.rows.now.list c.row.result (sym c.pair_index-k.ensures.value)
    c.requires.rows c.row.ensures.value) c.in_ok-append_row.ensures c.in_err-turn_page.ensures.part)

pub loop-i-preserved : goal.loop-i-preserved
loop-i-preserved g c =
    let o = c.args.orbit.now in
    let j = c.args.j in
    let i = c.loop-i.i in
    let less = c.loop-i-test.true in
    record {
      grew = item_more (pair_line o) (pairs_below j) (string_bytes c.args.page.now) (g.O.Sink.taken c.args.out.now)
          (g.O.Sink.taken c.loop-i.out) (g.O.Sink.taken c.turn_page.new.out) (string_bytes c.loop-i.page)
          (string_bytes c.append_row.new.text) (string_bytes c.turn_page.new.page)
          (row_line c.pair_index-k.result (i, j) c.row.result) i (i, j) (below_within j i less) c.loop-i.invariant.grew
          (below_item j i less)
          (row_spelled o c.pair_index-k.result (i, j) c.args.rows.now.list c.row.result
          (sym c.pair_index-k.ensures.value) c.requires.rows c.row.ensures.value) c.in_ok-append_row.ensures
          c.in_ok-turn_page.ensures.turned;
      counted = omega (arith, c.loop-i.invariant.counted, c.turn_page.ensures.counted);
    }

pub returns-clause-done : goal.returns-clause-done
returns-clause-done g c =
    let long = below_long c.args.j in
    all_done (pair_line c.args.orbit.now) (pairs_below c.args.j) (string_bytes c.args.page.now)
    (g.O.Sink.taken c.args.out.now) (g.O.Sink.taken c.loop-i.out) (string_bytes c.loop-i.page) c.loop-i.i
    (omega (arith, long, c.loop-i-test.false)) c.loop-i.invariant.grew
