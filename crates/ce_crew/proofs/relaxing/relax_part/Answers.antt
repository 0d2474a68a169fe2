use Rattle.std.proofs.Common.{◌≡◌, ℕ, ◌+◌, max, List, subst, ◌∙◌, arith}
use Rattle.std.specs.List.{flat_map}
use Rattle.ce_words.specs.Seats.{board_run}
use Rattle.ce_words.specs.Views.{view}
use Rattle.ce_crew.specs.Gains.{Gains}
use Rattle.ce_crew.specs.Turn.{relaxing_acts, entries_between}
use Rattle.ce_crew.proofs.Gained.{gains_more}
use Rattle.ce_crew.proofs.Sweeps.{seen_stays, part_stays, range_done, relaxing_on_entries}
use Rattle.ce_crew.proofs.relaxing.relax_part.Goals as goal

pub loop-i-preserved : goal.loop-i-preserved
loop-i-preserved c =
    let at = c.loop-i in let s = c.relax_entry-value in let run = board_run c.args.board.now in
    let v = view at.seat in let w = view s.new.seat in let work = at.invariant.work in
    let sees = seen_stays run v w (relaxing_acts run at.i) s.result at.copy s.new.copy work.sits.run
    c.requires.start work.vector.each (relaxing_on_entries run at.i) s.ensures.gains in
    let all = gains_more (relaxing_acts run) c.args.part.from at.i at.greatest s.result (view c.args.seat.now) v w
    c.args.copy.now at.copy s.new.copy at.auto.i at.invariant.gains s.ensures.gains in
    let best : max at.greatest s.result ≡ c.max-greatest.result = omega (arith, c.max-greatest.ensures) in
    record {
      work = s.ensures.work;
      gains = subst (λ (g : ℕ). Gains (flat_map (relaxing_acts run) (entries_between c.args.part.from (at.i + 1))) g
          (view c.args.seat.now) w c.args.copy.now s.new.copy) best all;
      part = part_stays v w (relaxing_acts run at.i) s.result at.copy s.new.copy s.ensures.gains ∙ at.invariant.part;
      low = sees.low ∙ at.invariant.low;
      high = sees.high ∙ at.invariant.high;
    }

pub returns-clause-gains : goal.returns-clause-gains
returns-clause-gains c =
    let at = c.loop-i in let run = board_run c.args.board.now in
    subst (λ (js : List ℕ). Gains (flat_map (relaxing_acts run) js) at.greatest (view c.args.seat.now)
    (view at.seat) c.args.copy.now at.copy)
    (range_done c.args.part.from c.args.part.to at.i c.requires.ordered at.auto.i at.auto.i-end c.loop-i-test.false)
    at.invariant.gains
