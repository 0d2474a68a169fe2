use Rattle.std.proofs.Common.{◌≡◌, ◌≤◌, ◌∙◌, ℕ, ap, subst}
use Rattle.ce_rows.specs.Rows.{ScaledRows}
use Rattle.ce_solve.specs.SolvedRows.{closing_in}
use Rattle.core_entropy.specs.Degree.{degree_rows_at}
use Rattle.core_entropy.proofs.DegreeTask.{degree_if_spelled}
use Rattle.core_entropy.proofs.commands.degree.line_of_orbit.Goals as goal

pub returns : goal.returns
returns g c =
    let o = c.args.orbit.now in
    let s = c.args.settings in
    let rows = c.with_scale-rows.result in
    let same : rows ≡ degree_rows_at o s.scale =
    c.with_scale-rows.ensures
    ∙ ap (λ (r : ScaledRows). record r { exponent = s.scale }) c.in_ok-degree_rows.ensures.rows in
    let few = subst (λ (n : ℕ). n ≤ 128) c.len-len.ensures.value c.len-len.ensures.few in
    degree_if_spelled o c.args.degree s.scale s.rounds s.turns s.workers c.args.angle rows
    (closing_in c.in_ok-solved.solved) c.line_of_interval.result c.len-len.ensures.orbit few c.requires.degree
    c.requires.angle same c.in_ok-solved.ensures.solved c.line_of_interval.ensures
