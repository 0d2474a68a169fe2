use Rattle.std.proofs.Common.{◌≡◌, ◌<◌, arith, length, slice_index}
use Rattle.std.proofs.lemmas.List.{get_or_default}
use Rattle.ce_comp.proofs.Counting.{count_few}
use Rattle.ce_comp.proofs.order.counted.Goals as goal

pub overflow_add-index_mut : goal.overflow_add-index_mut
overflow_add-index_mut c =
    let i = c.loop-source.source-index in
    let x = slice_index c.args.sources.now i in
    let left = c.loop-source.left.items in
    let test = c.loop-source-test.true in
    let end = c.loop-source.auto.source-index-end in
    let inside : i < length c.args.sources.now = omega arith in
    let below : x < c.args.count = c.requires.below i 0 inside in
    let few = count_few (λ k. slice_index c.args.sources.now k ≡ x) i (slice_index left x)
    (c.loop-source.invariant.counts x below) in
    let each = c.loop-source.invariant.each in
    let most = c.requires.few in
    let value = c.index_mut.ensures.value in
    let same = get_or_default left x c.index_mut.result.now 0 (omega arith) in
    omega arith
