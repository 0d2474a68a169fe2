-- Settings within the limits of a run. Source: this project's choice.
use Rattle.std.specs.Prelude.{◌≤◌}
use Rattle.ce_rows.specs.Limits.{most_rounds, most_turns, most_workers, most_sessions, most_reads}
use Rattle.ce_solve.specs.declared.settings.Settings.{Settings}

-- Settings are within the limits of a run.
pub record AreWithinLimits (s : Settings) : Type 0 where
  pub few_rounds : s.rounds ≤ most_rounds
  pub few_turns : s.turns ≤ most_turns
  pub some_worker : 1 ≤ s.workers
  pub few_workers : s.workers ≤ most_workers
  pub few_sessions : s.sessions ≤ most_sessions
  pub few_reads : s.reads ≤ most_reads
