use Rattle.std.proofs.Common.{ℕ, List, [], ◌∷◌, map, subst, ◌∙◌}
use Rattle.ce_rows.specs.declared.act.Act.TheVariants.{Shrinks}
use Rattle.ce_words.specs.Seats.{board_run}
use Rattle.ce_words.specs.Views.{view}
use Rattle.ce_crew.specs.Gains.{Gains}
use Rattle.ce_crew.proofs.Gained.{gains_map_more}
use Rattle.ce_crew.proofs.Sweeps.{part_stays, range_done, still_loaded}
use Rattle.ce_crew.proofs.rescaling.rescale_part.Goals as goal

pub loop-i-preserved : goal.loop-i-preserved
loop-i-preserved c =
    let at = c.loop-i in let s = c.rescale_entry in let run = board_run c.args.board.now in
    let v = view at.seat in let w = view s.new.seat in let work = at.invariant.work in
    record {
      work = s.ensures.work;
      gains = gains_map_more (λ j. Shrinks j) c.args.part.from at.i (view c.args.seat.now) v w c.args.copy.now
          at.copy s.new.copy at.auto.i at.invariant.gains s.ensures.gains;
      part = part_stays v w (Shrinks at.i ∷ []) 0 at.copy s.new.copy s.ensures.gains ∙ at.invariant.part;
      loaded = still_loaded run v w (Shrinks at.i ∷ []) 0 at.copy s.new.copy c.args.part work.sits.run
          c.requires.start work.vector.each s.ensures.gains at.invariant.loaded;
    }

pub returns-clause-gains : goal.returns-clause-gains
returns-clause-gains c =
    let at = c.loop-i in
    subst (λ (js : List ℕ). Gains (map (λ j. Shrinks j) js) 0 (view c.args.seat.now) (view at.seat) c.args.copy.now
    at.copy)
    (range_done c.args.part.from c.args.part.to at.i c.requires.ordered at.auto.i at.auto.i-end c.loop-i-test.false)
    at.invariant.gains
