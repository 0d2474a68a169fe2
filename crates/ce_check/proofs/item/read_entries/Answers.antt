use Rattle.std.proofs.Common.{refl, arith}
use Rattle.ce_check.proofs.ReadLaws.{never_none, read_more}
use Rattle.ce_check.proofs.item.read_entries.Goals as goal

pub returns-in_default-clause-list : goal.returns-in_default-clause-list
returns-in_default-clause-list c = λ base list is long.
    absurd (never_none (λ n. n) c.args.numbers c.loop-i.left c.args.count c.loop-i.room.items c.loop-i.i
    c.loop-i.invariant.read c.loop-i-test.true c.next.result c.next.ensures.some c.in_default.is base list is long)

pub loop-i-preserved : goal.loop-i-preserved
loop-i-preserved c = record {
  long = c.loop-i.invariant.long;
  read = read_more (λ n. n) c.args.numbers c.loop-i.left c.args.count c.loop-i.room.items c.loop-i.i
      c.loop-i.invariant.read c.loop-i-test.true c.in-Some.entry c.in-Some.entry c.next.new.self
      (omega (arith, c.loop-i.room.ok.0, c.requires, c.loop-i.invariant.long)) refl c.in-Some.ensures.some
      c.next.ensures.rest;
}
