use Rattle.std.proofs.Common.{arith}
use Rattle.ce_rows.specs.declared.act.Act.TheVariants.{Loads}
use Rattle.ce_words.specs.Views.{view}
use Rattle.ce_crew.proofs.Gained.{gains_map_start, gains_map_more}
use Rattle.ce_crew.proofs.loading.load_all.Goals as goal

pub loop-i-init : goal.loop-i-init
loop-i-init c =
    record { work = c.requires.work; gains = gains_map_start (λ j. Loads j) 0 (view c.args.seat.now) c.args.copy.now }

pub loop-i-preserved : goal.loop-i-preserved
loop-i-preserved c =
    let at = c.loop-i in let s = c.load_one in record {
      work = s.ensures.work;
      gains = gains_map_more (λ j. Loads j) 0 at.i (view c.args.seat.now) (view at.seat) (view s.new.seat)
          c.args.copy.now at.copy s.new.copy (omega arith) at.invariant.gains s.ensures.gains;
    }
