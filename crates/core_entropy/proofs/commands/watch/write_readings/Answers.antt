use Rattle.std.proofs.Common.{arith, get_or, refl, string_bytes}
use Rattle.std.proofs.lemmas.List.{take_more}
use Rattle.ce_live.specs.declared.reading.Reading.{Reading}
use Rattle.core_entropy.specs.Watch.{reading_line}
use Rattle.core_entropy.proofs.Ended.{on_err}
use Rattle.core_entropy.proofs.Rows.{all_done, item_more, part_stays, part_turned}
use Rattle.core_entropy.proofs.commands.watch.write_readings.Goals as goal

pub returns-in_err-append_reading-clause-part : goal.returns-in_err-append_reading-clause-part
returns-in_err-append_reading-clause-part g c =
    on_err _ c.from_residual.result
    (part_stays reading_line c.args.readings.now (string_bytes c.args.page.now) (g.O.Sink.taken c.args.out.now)
    (g.O.Sink.taken c.loop-k.out) (string_bytes c.loop-k.page) c.loop-k.k c.loop-k.invariant.grew)

pub returns-in_err-turn_page-clause-part : goal.returns-in_err-turn_page-clause-part
returns-in_err-turn_page-clause-part g c =
    let none : Reading = record { session = 0; number = 0; interval = record { low = 0; high = 0 } } in
    let x = get_or c.args.readings.now c.loop-k.k none in
    on_err _ c.from_residual-in_err-turn_page.result
    (part_turned reading_line c.args.readings.now (string_bytes c.args.page.now) (g.O.Sink.taken c.args.out.now)
    (g.O.Sink.taken c.loop-k.out) (g.O.Sink.taken c.turn_page.new.out) (string_bytes c.loop-k.page)
    (string_bytes c.append_reading.new.text) (string_bytes c.turn_page.new.page) (reading_line x) c.loop-k.k x
    c.loop-k-test.true c.loop-k.invariant.grew (take_more c.args.readings.now c.loop-k.k none c.loop-k-test.true)
    refl c.in_ok-append_reading.ensures c.in_err-turn_page.ensures.part)

pub loop-k-preserved : goal.loop-k-preserved
loop-k-preserved g c =
    let none : Reading = record { session = 0; number = 0; interval = record { low = 0; high = 0 } } in
    let x = get_or c.args.readings.now c.loop-k.k none in
    record {
      grew = item_more reading_line c.args.readings.now (string_bytes c.args.page.now) (g.O.Sink.taken c.args.out.now)
          (g.O.Sink.taken c.loop-k.out) (g.O.Sink.taken c.turn_page.new.out) (string_bytes c.loop-k.page)
          (string_bytes c.append_reading.new.text) (string_bytes c.turn_page.new.page) (reading_line x) c.loop-k.k x
          c.loop-k-test.true c.loop-k.invariant.grew (take_more c.args.readings.now c.loop-k.k none c.loop-k-test.true)
          refl c.in_ok-append_reading.ensures c.in_ok-turn_page.ensures.turned;
      counted = omega (arith, c.loop-k.invariant.counted, c.turn_page.ensures.counted);
    }

pub returns-clause-done : goal.returns-clause-done
returns-clause-done g c =
    all_done reading_line c.args.readings.now (string_bytes c.args.page.now) (g.O.Sink.taken c.args.out.now)
    (g.O.Sink.taken c.loop-k.out) (string_bytes c.loop-k.page) c.loop-k.k (omega (arith, c.loop-k-test.false))
    c.loop-k.invariant.grew
