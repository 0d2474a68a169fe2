use Rattle.std.proofs.Common.{◌≡◌, ◌∙◌, IfOk, ap, subst}
use Rattle.std.specs.List.{AllZip}
use Rattle.rayon.proofs.ToStd.{slice-AllZip}
use Rattle.ce_sweep.specs.AnswersInside.{MaySolveKey, SolvesKey}
use Rattle.ce_sweep.proofs.Collected.{collected_ok}
use Rattle.ce_sweep.proofs.answers.solve_keys.Goals as goal

pub returns-in-Ok : goal.returns-in-Ok
returns-in-Ok g c =
    let keys = c.args.keys.now in
    let settings = c.map.result.f.2.now in
    let same : settings ≡ c.args.settings = ap (λ f. f.2.now) c.map.ensures.f in
    let slice = ap (λ it. it.base.slice.now) c.map.ensures.base ∙ ap (λ it. it.slice.now) c.with_min_len.ensures.base
    ∙ c.par_iter.ensures in
    let h = c.in-Ok.ensures in
    let chain = h.1 in
    let each = slice-AllZip chain.0 keys (chain.1 ∙ slice) (MaySolveKey settings) h.0 chain.2 in
    subst (λ s. IfOk c.in-Ok.solved (λ v. AllZip (SolvesKey s) keys v.items)) same
    (collected_ok (MaySolveKey settings) (λ v. v.items) keys h.0 c.in-Ok.solved each h.2)
