use Rattle.std.proofs.Common.{◌<◌, ◌+◌, ℕ, length, get_or, refl, arith}
use Rattle.std.proofs.lemmas.List.Elements.{All-get_or}
use Rattle.std.proofs.lemmas.List.FromFn.{fill_by_all}
use Rattle.ce_rows.specs.Blocks.{block_sum_of}
use Rattle.ce_vector.proofs.Growing.{written_each, written_first, round_entry}
use Rattle.ce_vector.proofs.Powers.{round_fits}
use Rattle.ce_vector.proofs.iteration.round_of_growing.Goals as goal

pub overflow_add-to : goal.overflow_add-to
overflow_add-to c =
    let fits = round_fits c.args.rows.now.list c.args.ranks.now c.args.from.now
    (get_or c.args.growing.now c.loop-vertex.vertex-index 0) c.requires.small in
    omega (arith, fits, c.block_sum.ensures.value)

pub loop-vertex-preserved : goal.loop-vertex-preserved
loop-vertex-preserved c =
    let from = c.args.from.now in
    let new : ℕ → ℕ = λ i. get_or from i 0 + block_sum_of c.args.rows.now.list c.args.ranks.now from i in
    let places = c.args.growing.now in
    let k = c.loop-vertex.vertex-index in
    let i = get_or places k 0 in
    let below : i < length c.args.rows.now.list =
    All-get_or (λ i. i < length c.args.rows.now.list) places k 0 c.loop-vertex-test.true c.requires.growing.below in
    let within : i < length c.loop-vertex.to = omega (arith, below, c.requires.to, c.loop-vertex.auto.to) in
    rw c.block_sum.ensures.value (record {
      each = written_each new c.loop-vertex.to i within c.args.to.now c.loop-vertex.invariant.each;
      first = written_first new c.loop-vertex.to i within places k refl c.loop-vertex.invariant.first;
    })

pub returns-clause-value : goal.returns-clause-value
returns-clause-value c =
    fill_by_all _ c.loop-vertex.to _ 0 (omega arith) (round_entry c.args.rows.now.list c.args.ranks.now
    c.args.growing.now c.args.from.now c.args.to.now c.loop-vertex.to c.requires.growing c.requires.rest
    c.loop-vertex.invariant.each (λ k less. c.loop-vertex.invariant.first k (omega arith)))
