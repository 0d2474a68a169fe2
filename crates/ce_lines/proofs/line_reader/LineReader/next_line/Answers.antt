use Rattle.std.proofs.Common.{subst, [], ◌∷◌, arith}
use Rattle.std.specs.Io.KnownBytes.{Consumes}
use Rattle.ce_lines.specs.Bytes.{unread}
use Rattle.ce_lines.proofs.Collecting.{collects_more, long_line, given_more}
use Rattle.ce_lines.proofs.line_reader.LineReader.next_line.Goals as goal

pub returns-in-Ok-eq10-2-clause-formless : goal.returns-in-Ok-eq10-2-clause-formless
returns-in-Ok-eq10-2-clause-formless g c = λ _.
    let step = c.in-Ok-eq10.ensures in
    let feed = subst (λ x. Consumes (unread g.S.Source.left c.loop-byte.self.bytes)
    (unread g.S.Source.left c.next.new.self) (x ∷ [])) c.in-Ok-eq10.field-0-test step.byte in
    long_line _ _ _ _ _ c.loop-byte.invariant.collects feed c.if-len-le-MOST.false

pub loop-byte-preserved : goal.loop-byte-preserved
loop-byte-preserved g c =
    let step = c.in-Ok.ensures in
    let before = c.loop-byte.invariant in
    let put = c.put-len.ensures in
    record {
      reader = step.reader;
      collects = collects_more _ _ _ c.loop-byte.len c.loop-byte.self.line before.collects c.in-Ok.byte
          c.put-len.result c.put-len.new.line (search) c.in-Ok.byte-test.1 step.byte put.count put.short;
      most = omega (arith, put.count);
      room = omega (arith, put.count, before.room, step.less);
      gave = given_more g.S.Source.left c.args.self.now.bytes c.loop-byte.self.bytes c.next.new.self
          before.gave c.next.ensures.gave;
      counted = omega (arith, before.counted, step.counted);
    }

pub returns-in-Ok-eq10-clause-gave : goal.returns-in-Ok-eq10-clause-gave
returns-in-Ok-eq10-clause-gave g c =
    given_more g.S.Source.left c.args.self.now.bytes c.loop-byte.self.bytes c.next.new.self
    c.loop-byte.invariant.gave c.next.ensures.gave

pub returns-in-Ok-eq10-2-clause-gave : goal.returns-in-Ok-eq10-2-clause-gave
returns-in-Ok-eq10-2-clause-gave g c =
    given_more g.S.Source.left c.args.self.now.bytes c.loop-byte.self.bytes c.next.new.self
    c.loop-byte.invariant.gave c.next.ensures.gave

pub returns-in-Err-End-clause-gave : goal.returns-in-Err-End-clause-gave
returns-in-Err-End-clause-gave g c =
    given_more g.S.Source.left c.args.self.now.bytes c.loop-byte.self.bytes c.next.new.self
    c.loop-byte.invariant.gave c.next.ensures.gave

pub returns-in-Err-clause-gave : goal.returns-in-Err-clause-gave
returns-in-Err-clause-gave g c =
    given_more g.S.Source.left c.args.self.now.bytes c.loop-byte.self.bytes c.next.new.self
    c.loop-byte.invariant.gave c.next.ensures.gave
