use Rattle.std.proofs.Common.{arith}
use Rattle.ce_check.specs.ItemsInside.{cut}
use Rattle.ce_check.proofs.ReadLaws.{never_none, read_more}
use Rattle.ce_check.proofs.item.read_ranks.Goals as goal

pub returns-in_default-clause-list : goal.returns-in_default-clause-list
returns-in_default-clause-list c = λ base list is long.
    absurd (never_none cut c.args.numbers c.loop-i.left c.args.count c.loop-i.room.items c.loop-i.i
    c.loop-i.invariant.read c.loop-i-test.true c.next.result c.next.ensures.some c.in_default.is base list is long)

pub loop-i-preserved : goal.loop-i-preserved
loop-i-preserved c = record {
  long = c.loop-i.invariant.long;
  read = read_more cut c.args.numbers c.loop-i.left c.args.count c.loop-i.room.items c.loop-i.i c.loop-i.invariant.read
      c.loop-i-test.true c.in-Some.rank c.cut_rank.result c.next.new.self
      (omega (arith, c.loop-i.room.ok.0, c.requires, c.loop-i.invariant.long)) c.cut_rank.ensures
      c.in-Some.ensures.some c.next.ensures.rest;
}
