use Rattle.std.proofs.Common.{arith}
use Rattle.ce_cert.proofs.BoundsOf.{shown, below, low_is, low_rank_is, low_small, high_is, high_vector, above}
use Rattle.ce_cert.proofs.BoundsOf.{certificate}
use Rattle.ce_cert.proofs.collatz_wielandt.bounds.Goals as goal

pub best_rank-low_rank-requires-clause-some : goal.best_rank-low_rank-requires-clause-some
best_rank-low_rank-requires-clause-some c =
    omega (arith, c.quotients-high.ensures.rows.rows.some, c.requires.ranking.each)

pub returns-clause-low : goal.returns-clause-low
returns-clause-low c =
    low_is c.args.rows.now c.quotients-high.ensures.rows c.args.ranks.now c.args.v.now c.requires.ranking
    c.requires.vector c.quotients-high.new.least c.quotients-high.ensures.least c.best_rank-low_rank.result.0
    c.best_rank-low_rank.result.1 c.best_rank-low_rank.ensures

pub returns-clause-low_rank : goal.returns-clause-low_rank
returns-clause-low_rank c =
    low_rank_is c.args.rows.now c.quotients-high.ensures.rows c.args.ranks.now c.args.v.now c.requires.ranking
    c.requires.vector c.quotients-high.new.least c.quotients-high.ensures.least c.best_rank-low_rank.result.0
    c.best_rank-low_rank.result.1 c.best_rank-low_rank.ensures

pub returns-clause-high : goal.returns-clause-high
returns-clause-high c =
    high_is c.args.rows.now c.quotients-high.ensures.rows c.args.ranks.now c.args.v.now c.requires.ranking
    c.requires.vector c.quotients-high.result c.quotients-high.ensures.greatest c.quotients-high.ensures.cut

pub returns-clause-below : goal.returns-clause-below
returns-clause-below c =
    below c.args.rows.now c.quotients-high.ensures.rows c.args.ranks.now c.args.v.now c.requires.ranking
    c.requires.vector c.quotients-high.new.least c.quotients-high.ensures.least c.best_rank-low_rank.result.0
    c.best_rank-low_rank.result.1 c.best_rank-low_rank.ensures

pub returns-clause-above : goal.returns-clause-above
returns-clause-above c =
    above c.args.rows.now c.quotients-high.ensures.rows c.args.ranks.now c.args.v.now c.requires.ranking
    c.requires.vector c.quotients-high.result c.quotients-high.ensures.greatest c.quotients-high.ensures.cut

pub returns-clause-shown : goal.returns-clause-shown
returns-clause-shown c =
    shown c.args.rows.now c.quotients-high.ensures.rows c.args.ranks.now c.args.v.now c.requires.ranking
    c.requires.vector c.quotients-high.new.least c.quotients-high.ensures.least c.best_rank-low_rank.result.0
    c.best_rank-low_rank.result.1 c.best_rank-low_rank.ensures

pub returns-clause-certificate : goal.returns-clause-certificate
returns-clause-certificate c =
    let small =
    low_small c.args.rows.now c.quotients-high.ensures.rows c.args.ranks.now c.args.v.now c.requires.ranking
    c.requires.vector c.quotients-high.new.least c.quotients-high.ensures.least c.best_rank-low_rank.result.0
    c.best_rank-low_rank.result.1 c.best_rank-low_rank.ensures in
    let high =
    high_vector c.args.rows.now c.quotients-high.ensures.rows c.args.ranks.now c.args.v.now c.requires.ranking
    c.requires.vector c.quotients-high.result c.quotients-high.ensures.greatest c.quotients-high.ensures.cut in
    certificate c.args.rows.now c.quotients-high.ensures.rows c.args.ranks.now c.args.v.now c.requires.ranking
    c.requires.vector c.best_rank-low_rank.result.0 c.best_rank-low_rank.result.1 c.quotients-high.result
    c.best_rank-low_rank.ensures.occurs (returns-clause-shown c) small high
