use Rattle.std.proofs.Common.{◌≡◌, ℕ, List, length, sym, ap, ◌∙◌, subst, arith}
use Rattle.std.proofs.lemmas.List.{with_items_is}
use Rattle.std.specs.Vec.{with_items}
use Rattle.ce_rows.specs.Rows.{ScaledRows}
use Rattle.ce_words.specs.Logs.{Each}
use Rattle.ce_words.specs.Steps.{LiesInside}
use Rattle.ce_live.specs.declared.reading.Reading.{Reading}
use Rattle.ce_words.specs.Seats.{board_run}
use Rattle.ce_solve.specs.Actors.{worker_places}
use Rattle.ce_solve.specs.ActorsInside.{ArePartsFrom, sessions_in}
use Rattle.ce_solve.specs.SolvedRows.{AreReadingsFrom}
use Rattle.ce_solve.specs.ChaoticRun.{HasKnownEnds}
use Rattle.ce_solve.proofs.After.{are_done, parts_from_zero, length_parts}
use Rattle.ce_solve.proofs.solving.run_and_collect.Goals as goal

pub collect-requires-clause-over : goal.collect-requires-clause-over
collect-requires-clause-over g c =
    let a = c.as_mut_slice.ensures in let news = c.run_crew.new.actors in let h = c.requires.hired in
    let is = with_items_is c.args.actors news (c.run_crew.auto.actors ∙ a.len) in
    (are_done c.args.board c.args.initial.low_vector.items h.0 h.1 c.args.actors.items c.as_mut_slice.result.now news
    _ a.value c.run_crew.auto.actors is h.2 c.run_crew.ensures).over

pub collect-requires-clause-parts : goal.collect-requires-clause-parts
collect-requires-clause-parts g c =
    let a = c.as_mut_slice.ensures in let news = c.run_crew.new.actors in let h = c.requires.hired in
    let is = with_items_is c.args.actors news (c.run_crew.auto.actors ∙ a.len) in
    let d = are_done c.args.board c.args.initial.low_vector.items h.0 h.1 c.args.actors.items c.as_mut_slice.result.now
    news _ a.value c.run_crew.auto.actors is h.2 c.run_crew.ensures in
    let n : length c.args.rows.now.list ≡ length (board_run c.args.board).rows =
    sym (ap (λ (r : ScaledRows). length r.list) c.requires.opened.rows_are) in
    parts_from_zero (length (board_run c.args.board).rows) (worker_places c.args.actors.items) _ d.places
    (subst (λ (m : ℕ). ArePartsFrom m (length (worker_places c.args.actors.items)) 0
    (worker_places c.args.actors.items)) n c.requires.parts)

pub collect-requires-clause-room : goal.collect-requires-clause-room
collect-requires-clause-room g c =
    let a = c.as_mut_slice.ensures in let news = c.run_crew.new.actors in let h = c.requires.hired in
    let is = with_items_is c.args.actors news (c.run_crew.auto.actors ∙ a.len) in
    let d = are_done c.args.board c.args.initial.low_vector.items h.0 h.1 c.args.actors.items c.as_mut_slice.result.now
    news _ a.value c.run_crew.auto.actors is h.2 c.run_crew.ensures in
    omega (arith, d.readings, h.3)

pub returns-clause-closing : goal.returns-clause-closing
returns-clause-closing g c = λ t r hired.
    let a = c.as_mut_slice.ensures in let news = c.run_crew.new.actors in let e = c.collect.ensures in
    let is = with_items_is c.args.actors news (c.run_crew.auto.actors ∙ a.len) in
    let d = are_done c.args.board c.args.initial.low_vector.items t r c.args.actors.items c.as_mut_slice.result.now news
    _ a.value c.run_crew.auto.actors is hired c.run_crew.ensures in
    record {
      places = worker_places (with_items c.args.actors news).items;
      all_workers = length_parts (worker_places c.args.actors.items)
          (worker_places (with_items c.args.actors news).items) d.places;
      is_run = e.run t d.turns;
      certificate = e.certificate;
      ranks = e.ranks;
      low_rank = e.low_rank;
      low_vector = e.low_vector;
      high_vector = e.high_vector;
      contain = subst (λ (rs : List Reading). Each
          (λ (q : Reading). LiesInside q.interval.low q.interval.high c.collect.result.certificate.low
          c.collect.result.certificate.high) rs) (sym e.readings) e.contain;
      inside_initial = subst (λ (rs : List Reading). Each
          (λ (q : Reading). LiesInside (board_run c.args.board).initial.low (board_run c.args.board).initial.high
          q.interval.low q.interval.high) rs) (sym e.readings) e.inside_initial;
      ends = subst (λ (rs : List Reading). Each
          (λ (q : Reading). HasKnownEnds (board_run c.args.board)
          (worker_places (with_items c.args.actors news).items) q.interval.low q.interval.high) rs)
          (sym e.readings) e.ends;
    }

pub returns-clause-readings : goal.returns-clause-readings
returns-clause-readings g c = λ t r hired numbered.
    let a = c.as_mut_slice.ensures in let news = c.run_crew.new.actors in let e = c.collect.ensures in
    let is = with_items_is c.args.actors news (c.run_crew.auto.actors ∙ a.len) in
    let d = are_done c.args.board c.args.initial.low_vector.items t r c.args.actors.items c.as_mut_slice.result.now news
    _ a.value c.run_crew.auto.actors is hired c.run_crew.ensures in
    subst (λ (rs : List Reading). AreReadingsFrom 0 (sessions_in c.args.actors.items) r rs) (sym e.readings)
    (d.sessions numbered e.told)
