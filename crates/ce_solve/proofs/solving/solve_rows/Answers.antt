use Rattle.std.proofs.Common.{◌*◌, ℕ, List, length, All, sym, ap, subst, arith}
use Rattle.ce_words.specs.Seats.{board_run}
use Rattle.ce_solve.specs.Actors.{worker_places}
use Rattle.ce_solve.specs.ActorsInside.{IsHired, ArePartsFrom}
use Rattle.ce_solve.specs.SolvedRows.{AreReadingsFrom}
use Rattle.ce_solve.proofs.SolvedRuns.{initial_is, solved_is}
use Rattle.ce_solve.proofs.solving.solve_rows.Goals as goal

pub run_and_collect-requires-clause-hired : goal.run_and_collect-requires-clause-hired
run_and_collect-requires-clause-hired g c t lives =
    let e = c.in_ok-actors.ensures in
    let b = c.in_ok-board.board in
    let s = c.args.settings in
    let xs = c.in_ok-actors.actors.items in
    let all = ap (λ (k : ℕ). s.reads * k) e.all in
    let count = ap (λ (k : ℕ). s.reads * k) e.count in
    let room = c.in_ok-readings.ensures.capacity in (
      s.turns,
      s.reads,
      subst (λ (u : List ℕ). All (IsHired b u s.turns s.reads) xs)
          (sym c.in_ok-initial.ensures.low_vector) e.hired,
      omega (arith, all, count, room),
    )

pub run_and_collect-requires-clause-parts : goal.run_and_collect-requires-clause-parts
run_and_collect-requires-clause-parts g c t lives =
    let e = c.in_ok-actors.ensures in let ps = worker_places c.in_ok-actors.actors.items in
    subst (λ (n : ℕ). ArePartsFrom n (length ps) 0 ps) c.len.ensures.value
    (subst (λ (w : ℕ). ArePartsFrom c.len.result w 0 ps) (sym e.count) e.parts)

pub run_and_collect-requires-clause-initial : goal.run_and_collect-requires-clause-initial
run_and_collect-requires-clause-initial g c t lives =
    let f = c.in_ok-initial.ensures in
    initial_is c.args.rows.now c.args.settings.rounds c.in_ok-prepared.prepared (board_run c.in_ok-board.board)
    c.in_ok-initial.initial c.in_ok-prepared.ensures.prepared c.in_ok-prepared.ensures.begins
    c.in_ok-board.ensures.run f.ranks
    f.low f.low_rank f.high f.low_vector f.high_vector

pub returns-clause-solved : goal.returns-clause-solved
returns-clause-solved g c =
    let e = c.in_ok-actors.ensures in
    let b = c.in_ok-board.board in
    let s = c.args.settings in
    let xs = c.in_ok-actors.actors.items in
    let f = c.in_ok-initial.ensures in
    let hired = subst (λ (u : List ℕ). All (IsHired b u s.turns s.reads) xs) (sym f.low_vector) e.hired in
    solved_is c.args.rows.now s.rounds s.turns s.workers (length (worker_places xs)) c.in_ok-prepared.prepared
    (board_run b) c.in_ok-initial.initial.low_vector.items c.run_and_collect.result
    c.in_ok-prepared.ensures.prepared c.in_ok-board.ensures.run f.low_vector e.count
    (c.run_and_collect.ensures.closing s.turns s.reads hired)

pub returns-clause-readings : goal.returns-clause-readings
returns-clause-readings g c =
    let e = c.in_ok-actors.ensures in
    let b = c.in_ok-board.board in
    let s = c.args.settings in
    let xs = c.in_ok-actors.actors.items in
    let f = c.in_ok-initial.ensures in
    let hired = subst (λ (u : List ℕ). All (IsHired b u s.turns s.reads) xs) (sym f.low_vector) e.hired in
    subst (λ (n : ℕ). AreReadingsFrom 0 n s.reads c.run_and_collect.result.readings.items) e.many
    (c.run_and_collect.ensures.readings s.turns s.reads hired e.sessions)
