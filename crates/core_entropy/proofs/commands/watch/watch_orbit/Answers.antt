use Rattle.std.proofs.Common.{◌≡◌, ◌≤◌, ◌∙◌, ℕ, List, ap, subst}
use Rattle.ce_live.specs.declared.reading.Reading.{Reading}
use Rattle.ce_rows.specs.Rows.{ScaledRows}
use Rattle.ce_solve.specs.SolvedRows.{closing_in}
use Rattle.ce_thurston.specs.Indices.{rows_at}
use Rattle.core_entropy.specs.Angle.{interval_of}
use Rattle.core_entropy.specs.Status.{ended_with}
use Rattle.core_entropy.specs.Watch.{watch_text}
use Rattle.core_entropy.proofs.Ended.{wrote_weaker}
use Rattle.core_entropy.proofs.WatchTask.{watched}
use Rattle.core_entropy.proofs.commands.watch.watch_orbit.Goals as goal

pub returns-clause-wrote : goal.returns-clause-wrote
returns-clause-wrote g c =
    let o = c.args.orbit.now in
    let s = c.args.settings in
    let rows = c.with_scale-rows.result in
    let same : rows ≡ rows_at o s.scale =
    c.with_scale-rows.ensures ∙ ap (λ (r : ScaledRows). record r { exponent = s.scale }) c.in_ok-rows_of.ensures.rows in
    let e = closing_in c.in_ok-solved.solved in
    wrote_weaker g.O.Sink.taken g.O.Sink.faults c.args.out.now c.write_watched.new.out _ _ (λ text spelled.
    watched o s.scale s.rounds s.turns s.workers s.sessions s.reads rows e c.angle.result c.angle.ensures.orbit
    (subst (λ (n : ℕ). n ≤ 128) c.len-len.ensures.value c.len-len.ensures.few) c.angle.ensures.value same
    c.in_ok-solved.ensures.solved c.in_ok-solved.ensures.readings text
    (spelled ∙ ap (λ (rs : List Reading). watch_text c.angle.result s.scale rs (interval_of e)) c.deref.ensures.value))
    (ended_with c.write_watched.result) c.write_watched.ensures.wrote
