-- Turns of a worker, one after another.
use Rattle.std.proofs.Common.{◌≡◌, ℕ, ◌+◌, ◌-◌, ◌*◌, ◌<◌, Bool, false, List, ◌++◌, ◌∙◌, ap}
use Rattle.std.proofs.Common.{append_assoc, arith}
use Rattle.std.specs.Prelude.{if◌then◌else◌}
use Rattle.ce_rows.specs.declared.act.LogEntry.{LogEntry}
use Rattle.ce_words.specs.declared.view.Run.{Run}
use Rattle.ce_crew.specs.Workers.{KeepsIts, Made, log_of}
use Rattle.ce_crew.specs.declared.worker.Worker.{Worker}
use Rattle.ce_crew.specs.declared.worker.TurnEnd.{TurnEnd}
use Rattle.ce_crew.specs.declared.worker.TurnEnd.TheVariants.{Turned, Halted}
use Rattle.ce_crew.proofs.WorkerTurns.{keeps_best_then}

pub keeps_then : (run : Run) (u v w : Worker) → KeepsIts run u v → KeepsIts run v w → KeepsIts run u w
keeps_then run u v w one two = record {
  number = two.number ∙ one.number;
  turns = two.turns ∙ one.turns;
  its_part = two.its_part ∙ one.its_part;
  role = two.role ∙ one.role;
  joined = two.joined ∙ one.joined;
  grows = (
    one.grows.0 ++ two.grows.0,
    two.grows.1 ∙ (ap (λ (l : List LogEntry). l ++ two.grows.0) one.grows.1
        ∙ append_assoc (log_of u) one.grows.0 two.grows.0),
  );
  best = keeps_best_then run (log_of u) (log_of v) (log_of w) u.room v.room w.room one.best two.best;
}

-- what is left to do: turns, and one halt
abbrev pub work_left : ℕ → ℕ → Bool → ℕ
work_left turns done halted = 2 * (turns - done) + (if halted then 0 else 1)

pub less_left : (run : Run) (end : TurnEnd) (v w : Worker) → Made end run v w → w.turns ≡ v.turns → v.done < v.turns
    → v.halted ≡ false → work_left w.turns w.done w.halted < work_left v.turns v.done v.halted
less_left run Turned v w made same left going =
    let a = ap (λ (b : Bool). work_left v.turns v.done b) going in
    let b = ap (λ (h : Bool). work_left w.turns w.done h) made.halted in
    let d = made.done in omega arith
less_left run Halted v w made same left going =
    let a = ap (λ (b : Bool). work_left v.turns v.done b) going in
    let b = ap (λ (h : Bool). work_left w.turns w.done h) made.halted in
    let d = made.done in omega arith
