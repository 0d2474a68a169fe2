-- Answers for the angles of a list. Source: this project's choice.
--
-- AreSolvedBy    classes of angles with one solution for each class, which serves each of its angles
-- AreAlike       answers whose angles have one kneading sequence have the same closing
-- AreSweptBy     answers of all angles up to an order, in rising order
use Rattle.std.specs.Prelude.{◌≡◌, ◌<◌, ℕ, List, length, slice_index, slice_index_or}
use Rattle.std.specs.List.{AllZip}
use Rattle.ce_angle.specs.Farey.{AreAnglesUpTo}
use Rattle.ce_angle.specs.Fraction.{Fraction}
use Rattle.ce_solve.specs.SolvedAngle.{MayAnswer, MaySolve}
use Rattle.ce_solve.specs.SolvedRows.{closing_in}
use Rattle.ce_solve.specs.declared.angle.Answer.{Answer}
use Rattle.ce_solve.specs.declared.settings.Settings.{Settings}
use Rattle.ce_solve.specs.declared.collecting.Solved.{Solved}
use Rattle.ce_sweep.specs.Classes.{AreClasses, HaveSameKneading}

-- Classes of angles stand beside a solution for each class, which serves each of its angles.
pub record AreSolvedBy (settings : Settings) (angles : List Fraction) (of first : List ℕ)
    (solutions : List Solved) : Type 0 where
  pub classes : AreClasses angles of first
  pub each : length solutions ≡ length first
  pub solves : (i : ℕ) (d : Fraction) (e : Solved) → i < length angles
      → MaySolve settings (slice_index_or angles i d)
      (closing_in (slice_index_or solutions (slice_index of i) e))

-- Answers whose angles have one kneading sequence have the same closing.
abbrev pub AreAlike : List Answer → Type 0
AreAlike answers = (i j : ℕ) (d : Answer) → i < length answers → j < length answers
    → HaveSameKneading (slice_index_or answers i d).angle (slice_index_or answers j d).angle
    → closing_in (slice_index_or answers i d).solved ≡ closing_in (slice_index_or answers j d).solved

-- Answers are those of all angles up to an order, in rising order.
pub record AreSweptBy (settings : Settings) (order : ℕ) (answers : List Answer) : Type 0 where
  pub angles : List Fraction
  pub are_all : AreAnglesUpTo order angles
  pub answered : AllZip (MayAnswer settings) angles answers
