use Rattle.std.proofs.Common.{[], append-nil, arith, sym}
use Rattle.ce_map.proofs.PutLaws.{extends_after, never_none, put_all, put_more}
use Rattle.ce_map.proofs.append_read.put_all_ranks.Goals as goal

pub loop-i-init : goal.loop-i-init
loop-i-init c = record {
  extends = ([], sym (append-nil c.args.text.now.items));
  put = λ base list is. record { rest = is; put = sym (append-nil c.args.text.now.items) };
}

pub returns-in_default-clause-ok : goal.returns-in_default-clause-ok
returns-in_default-clause-ok c = λ base list is.
    absurd (never_none 10 (omega arith) (omega arith) c.args.numbers c.loop-i.left c.args.text.now.items
    c.loop-i.text.items c.loop-i.i c.count-count.result c.loop-i.invariant.put c.count-count.ensures
    c.loop-i-test.true c.next.result c.next.ensures.some c.in_default.is base list is)

pub returns-in_err-put_rank-clause-extends : goal.returns-in_err-put_rank-clause-extends
returns-in_err-put_rank-clause-extends c =
    extends_after c.args.text.now.items c.loop-i.text.items c.put_rank.new.text.items c.loop-i.invariant.extends
    c.put_rank.ensures.extends

pub loop-i-preserved : goal.loop-i-preserved
loop-i-preserved c = record {
  extends =
      extends_after c.args.text.now.items c.loop-i.text.items c.put_rank.new.text.items c.loop-i.invariant.extends
      c.put_rank.ensures.extends;
  put = put_more 10 (omega arith) (omega arith) c.args.numbers c.loop-i.left c.args.text.now.items c.loop-i.text.items
      c.loop-i.i c.count-count.result c.loop-i.invariant.put c.count-count.ensures c.loop-i-test.true c.in-Some.rank
      c.in-Some.ensures.some c.next.new.self c.put_rank.new.text.items c.next.ensures.rest
      c.in_ok-put_rank.ensures.ok;
}

pub returns-clause-ok : goal.returns-clause-ok
returns-clause-ok c =
    put_all 10 (omega arith) (omega arith) c.args.numbers c.loop-i.left c.args.text.now.items c.loop-i.text.items
    c.loop-i.i c.count-count.result c.loop-i.invariant.put c.count-count.ensures c.loop-i-test.false
