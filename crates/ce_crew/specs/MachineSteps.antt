-- The steps of one actor of a run, as its log tells them. Sources: [ChazanMiranker1969] for the
-- asynchronous iteration; the words and the steps are this project's choice.
use Rattle.std.specs.Prelude.{◌≡◌, List, [], ◌∷◌, map}
use Rattle.ce_rows.specs.Actors.{ActorState, after_answer}
use Rattle.ce_rows.specs.Events.{Shared, answer_of}
use Rattle.ce_rows.specs.declared.act.Act.{Act}
use Rattle.ce_rows.specs.declared.act.LogEntry.{LogEntry}
use Rattle.ce_core.specs.Machine.{carried}
use Rattle.ce_words.specs.Views.{rows_of}
use Rattle.ce_words.specs.declared.view.Run.{Run}

-- what the steps of a log do
abbrev pub acts_of : List LogEntry → List Act
acts_of steps = map (λ (step : LogEntry). step.act) steps

-- A step of an actor is the pure machine's: it carries the number that the machine computes from
-- what the actor keeps, and some shared state answers it so.
pub record IsMachineStep (run : Run) (own : ActorState) (step : LogEntry) : Type 0 where
  pub carries : step.carried ≡ carried (rows_of run) run.ranks own step.act
  pub found : Shared
  pub answers : step.answer ≡ answer_of found step.act step.carried

-- One after another, all are the machine's.
abbrev pub AreMachineSteps : Run → ActorState → List LogEntry → Type 0
AreMachineSteps run own [] = Unit {0}
AreMachineSteps run own (step ∷ steps) =
    IsMachineStep run own step × AreMachineSteps run (after_answer own step.act step.answer) steps
