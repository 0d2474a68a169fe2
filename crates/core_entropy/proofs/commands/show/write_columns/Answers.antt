use Rattle.std.proofs.Common.{string_bytes, arith}
use Rattle.core_entropy.proofs.Ended.{on_err}
use Rattle.core_entropy.proofs.ShowPlaces.{columns_more, columns_part}
use Rattle.core_entropy.proofs.commands.show.write_columns.Goals as goal

pub loop-j-preserved : goal.loop-j-preserved
loop-j-preserved g c = record {
  grew = columns_more c.args.orbit.now (string_bytes c.args.page.now) (g.O.Sink.taken c.args.out.now)
      (g.O.Sink.taken c.loop-j.out) (g.O.Sink.taken c.write_column.new.out) (string_bytes c.loop-j.page)
      (string_bytes c.write_column.new.page) c.loop-j.j c.loop-j.invariant.grew c.in_ok-write_column.ensures.done;
  counted = omega (arith, c.loop-j.invariant.counted, c.write_column.ensures.counted);
}

pub returns-in_err-write_column-clause-part : goal.returns-in_err-write_column-clause-part
returns-in_err-write_column-clause-part g c =
    on_err _ c.from_residual.result
    (columns_part c.args.orbit.now (string_bytes c.args.page.now) (g.O.Sink.taken c.args.out.now)
    (g.O.Sink.taken c.loop-j.out) (g.O.Sink.taken c.write_column.new.out) (string_bytes c.loop-j.page)
    (string_bytes c.write_column.new.page) c.loop-j.j c.loop-j.invariant.grew c.requires.other
    (omega (arith, c.loop-j-test.true, c.len-j-end.ensures.value)) c.in_err-write_column.ensures.part)
