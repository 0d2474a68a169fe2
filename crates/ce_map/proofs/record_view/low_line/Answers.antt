use Rattle.std.specs.Prelude.{codes}
use Rattle.ce_map.specs.BaseInside.{radix_of}
use Rattle.ce_map.proofs.ItemLaws.{no_word, no_rank, rank_cut, low_is_at}
use Rattle.ce_map.proofs.record_view.low_line.Goals as goal

pub returns-in_err-rest-clause-none : goal.returns-in_err-rest-clause-none
returns-in_err-rest-clause-none c =
    rw c.from_residual.ensures
    (λ rank numbers rest small is. no_word (codes "low ") c.args.text.now c.in_err-rest.ensures _)

pub returns-in_err-low_rank-clause-none : goal.returns-in_err-low_rank-clause-none
returns-in_err-low_rank-clause-none c =
    rw c.from_residual-in_err-low_rank.ensures (λ rank numbers rest small is. no_rank (radix_of c.args.base)
    (codes "low ") c.args.text.now c.in_ok-rest.rest.now c.in_ok-rest.ensures c.in_err-low_rank.ensures rank numbers
    rest small)

pub returns-in_err-numbers-clause-none : goal.returns-in_err-numbers-clause-none
returns-in_err-numbers-clause-none c =
    rw c.from_residual-in_err-numbers.ensures
    (λ rank numbers rest small is same. c.in_err-numbers.ensures.none numbers rest is
    (rank_cut (radix_of c.args.base) (codes "low ") c.args.text.now c.in_ok-rest.rest.now
    c.in_ok-low_rank.low_rank c.in_ok-low_rank.rest.now c.in_ok-rest.ensures c.in_ok-low_rank.ensures rank
    numbers rest small same))

pub returns-clause-found : goal.returns-clause-found
returns-clause-found c =
    low_is_at (codes "low ") (radix_of c.args.base) c.args.text.now c.in_ok-rest.rest.now c.in_ok-low_rank.low_rank
    c.in_ok-low_rank.rest.now c.in_ok-numbers.numbers c.in_ok-numbers.rest.now c.in_ok-rest.ensures
    c.in_ok-low_rank.ensures c.in_ok-numbers.ensures.found
