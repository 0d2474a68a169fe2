-- What a whole run for an angle came to, and why there is none. Source: this project's choice.
--
-- MaySolve, MayAnswer    a run on the rows of the angle's orbit, at the settings' scale, may end so
-- IsCause                why there is no answer
use Rattle.std.specs.Prelude.{◌≡◌, ⊤, ◌≤◌, length}
use Rattle.ce_angle.specs.Fraction.{Fraction}
use Rattle.ce_orbit.specs.Orbit.{ForwardOrbit, IsForwardOrbit, HasOrbitAbove}
use Rattle.ce_thurston.specs.Indices.{rows_at}
use Rattle.ce_solve.specs.SolvedRows.{AreReadingsFrom, Closing, IsSolved, closing_in}
use Rattle.ce_solve.specs.declared.angle.Answer.{Answer}
use Rattle.ce_solve.specs.declared.angle.SolveError.{SolveError}
use Rattle.ce_solve.specs.declared.angle.SolveError.TheVariants.{OrbitTooLong, NoMemory}
use Rattle.ce_solve.specs.declared.settings.Settings.{Settings}
use Rattle.ce_orbit.specs.Iterates.{most_places}

-- A run on the rows of an orbit, at the scale of the settings, may end like this.
abbrev pub IsSolutionFor : Settings → ForwardOrbit → Closing → Type 0
IsSolutionFor settings o closing =
    IsSolved (rows_at o settings.scale) settings.rounds settings.turns settings.workers closing

-- A closing has the readings of all sessions that the settings tell.
abbrev pub HasReadingsOf : Settings → Closing → Type 0
HasReadingsOf settings closing = AreReadingsFrom 0 settings.sessions settings.reads closing.readings

-- A run on the rows of an angle's orbit, which has at most 128 angles, may end like this.
pub record MaySolve (settings : Settings) (angle : Fraction) (closing : Closing) : Type 0 where
  pub orbit : ForwardOrbit
  pub of_angle : orbit.angle ≡ angle
  pub is_orbit : IsForwardOrbit orbit
  pub few : length orbit.places ≤ most_places
  pub solution : IsSolutionFor settings orbit closing
  pub readings : HasReadingsOf settings closing

-- An answer is the angle's.
pub record MayAnswer (settings : Settings) (asked : Fraction) (answer : Answer) : Type 0 where
  pub angle : answer.angle ≡ asked
  pub solved : MaySolve settings asked (closing_in answer.solved)

-- An orbit above 128 angles is the one cause but memory.
abbrev pub IsCause : Fraction → SolveError → Type 0
IsCause angle OrbitTooLong = HasOrbitAbove most_places angle
IsCause angle NoMemory = ⊤
