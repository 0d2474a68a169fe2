use Rattle.std.proofs.Common.{string_bytes, arith}
use Rattle.core_entropy.proofs.Ended.{on_err}
use Rattle.core_entropy.proofs.ReplayWritten.{line_more, line_stays, line_turned}
use Rattle.core_entropy.proofs.commands.replay.write_entries.Goals as goal

pub returns-in_err-append_entry-clause-part : goal.returns-in_err-append_entry-clause-part
returns-in_err-append_entry-clause-part g c =
    on_err _ c.from_residual-in_err-append_entry.result
    (line_stays (string_bytes c.args.page.now) c.args.core.now.machine.shared.entries
    (g.O.Sink.taken c.args.out.now) (g.O.Sink.taken c.loop-i.out) (string_bytes c.loop-i.page)
    c.loop-i.i c.loop-i.invariant.grew)

pub returns-in_err-turn_page-clause-part : goal.returns-in_err-turn_page-clause-part
returns-in_err-turn_page-clause-part g c =
    on_err _ c.from_residual-in_err-turn_page.result
    (line_turned (string_bytes c.args.page.now) c.args.core.now.machine.shared.entries
    (g.O.Sink.taken c.args.out.now) (g.O.Sink.taken c.loop-i.out) (g.O.Sink.taken c.turn_page.new.out)
    (string_bytes c.loop-i.page) (string_bytes c.append_entry.new.text) (string_bytes c.turn_page.new.page)
    c.loop-i.i (omega (arith, c.requires.entries, c.loop-i-test.true)) c.loop-i.invariant.grew
    (rw (← c.entry.ensures.value) c.in_ok-append_entry.ensures) c.in_err-turn_page.ensures.part)

pub loop-i-preserved : goal.loop-i-preserved
loop-i-preserved g c = record {
  grew = line_more (string_bytes c.args.page.now) c.args.core.now.machine.shared.entries (g.O.Sink.taken c.args.out.now)
      (g.O.Sink.taken c.loop-i.out) (g.O.Sink.taken c.turn_page.new.out) (string_bytes c.loop-i.page)
      (string_bytes c.append_entry.new.text) (string_bytes c.turn_page.new.page) c.loop-i.i
      (omega (arith, c.requires.entries, c.loop-i-test.true)) c.loop-i.invariant.grew
      (rw (← c.entry.ensures.value) c.in_ok-append_entry.ensures) c.in_ok-turn_page.ensures.turned;
  counted = omega (arith, c.loop-i.invariant.counted, c.turn_page.ensures.counted);
}

pub returns-in_err-push_str-2-clause-part : goal.returns-in_err-push_str-2-clause-part
returns-in_err-push_str-2-clause-part g c =
    on_err _ c.from_residual-in_err-push_str-2.result
    (line_stays (string_bytes c.args.page.now) c.args.core.now.machine.shared.entries
    (g.O.Sink.taken c.args.out.now) (g.O.Sink.taken c.loop-i.out) (string_bytes c.loop-i.page)
    c.loop-i.i c.loop-i.invariant.grew)
