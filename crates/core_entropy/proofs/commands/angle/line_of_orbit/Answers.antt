use Rattle.std.proofs.Common.{◌≡◌, ◌≤◌, ◌∙◌, ℕ, ap, subst}
use Rattle.ce_solve.specs.SolvedRows.{closing_in}
use Rattle.ce_rows.specs.Rows.{ScaledRows}
use Rattle.ce_thurston.specs.Indices.{rows_at}
use Rattle.core_entropy.proofs.AngleTask.{line_if_spelled}
use Rattle.core_entropy.proofs.commands.angle.line_of_orbit.Goals as goal

pub returns : goal.returns
returns g c =
    let o = c.args.orbit.now in
    let s = c.args.settings in
    let rows = c.with_scale-rows.result in
    let same : rows ≡ rows_at o s.scale =
    c.with_scale-rows.ensures ∙ ap (λ (r : ScaledRows). record r { exponent = s.scale }) c.in_ok-rows_of.ensures.rows in
    line_if_spelled o s.scale s.rounds s.turns s.workers rows (closing_in c.in_ok-solved.solved) c.angle.result
    c.line_of_interval.result c.angle.ensures.orbit
    (subst (λ (n : ℕ). n ≤ 128) c.len-len.ensures.value c.len-len.ensures.few) c.angle.ensures.value same
    c.in_ok-solved.ensures.solved c.line_of_interval.ensures
