use Rattle.std.proofs.Common.{◌≡◌, ◌∙◌, sym, ap, take, map, length}
use Rattle.ce_map.specs.Grammar.{base_of}
use Rattle.ce_check.specs.ItemsInside.{cut}
use Rattle.ce_check.proofs.FlawLaws.{flaw_of_cut, same_evidence}
use Rattle.ce_check.proofs.item.flaw_of.Goals as goal

pub returns : goal.returns
returns c = λ version shown is.
    let e = shown.evidence in
    let len = c.len-len.result in
    let base = base_of version in
    let ranks_long : length e.ranks ≡ len = sym (c.count.ensures 10 e.ranks is.ranks) ∙ c.if-count-len.false in
    let low_long : length e.low_vector ≡ len = sym (c.count-else-count-len.ensures base e.low_vector is.low_vector)
    ∙ c.if-count-len-2.false in
    let high_long : length e.high_vector ≡ len =
    sym (c.count-else-count-len-2.ensures base e.high_vector is.high_vector) ∙ c.if-count-len-3.false in
    let ranks : take len c.deref.result.now ≡ map cut e.ranks =
    ap (take len) c.deref.ensures.value ∙ c.read_ranks.ensures.list 10 e.ranks is.ranks ranks_long in
    let low : take len c.deref-2.result.now ≡ e.low_vector =
    ap (take len) c.deref-2.ensures.value ∙ c.read_entries.ensures.list base e.low_vector is.low_vector low_long in
    let high : take len c.deref-3.result.now ≡ e.high_vector =
    ap (take len) c.deref-3.ensures.value
    ∙ c.read_entries-2.ensures.list base e.high_vector is.high_vector high_long in
    let same =
    same_evidence e (take len c.deref.result.now) (take len c.deref-2.result.now)
    (take len c.deref-3.result.now) c.cut_rank.result c.args.item.now.low c.args.item.now.high ranks
    (c.cut_rank.ensures ∙ ap cut is.low_rank) low high is.low is.high in
    flaw_of_cut c.args.rows.now c.len-len.ensures.rows e _ c.check.result same c.check.ensures.holds
    c.check.ensures.flaw
