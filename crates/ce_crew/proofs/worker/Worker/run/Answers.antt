use Rattle.std.proofs.Common.{inl, inr, ap, sym, ◌∙◌, arith}
use Rattle.std.proofs.lemmas.Bool.{false≢true}
use Rattle.ce_words.specs.Seats.{board_run}
use Rattle.ce_crew.specs.declared.worker.Worker.{Worker}
use Rattle.ce_crew.proofs.Runs.{keeps_then, less_left}
use Rattle.ce_crew.proofs.worker.Worker.run.Goals as goal

pub loop-self-smaller : goal.loop-self-smaller
loop-self-smaller g c =
    let s = c.turn in
    less_left (board_run c.args.board.now) s.result c.loop-self.self s.new.self s.ensures.made s.ensures.keeps.turns
    c.loop-self-test.true c.if-not-self.true

pub loop-self-preserved : goal.loop-self-preserved
loop-self-preserved g c =
    let s = c.turn in let at = c.loop-self in
    record {
      worker = s.ensures.worker;
      keeps = keeps_then (board_run c.args.board.now) c.args.self.now at.self s.new.self at.invariant.keeps
          s.ensures.keeps;
      rests = λ rest.
          let same = at.invariant.rests rest in
          elim rest [
            | inl halted ↦ absurd (false≢true (sym c.if-not-self.true ∙ (ap (λ (w : Worker). w.halted) same ∙ halted)))
            | inr all ↦ let left =
                c.loop-self-test.true in let d =
                ap (λ (w : Worker). w.done) same in let t =
                ap (λ (w : Worker). w.turns) same in absurd (omega arith)
          ];
    }
