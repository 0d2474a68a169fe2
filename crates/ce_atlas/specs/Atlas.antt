-- The atlas: what is known of each class of external angles up to an order. Source: this project's
-- choice.
--
-- IsRowOf          a row tells of a class by its first angle
-- IsAtlas          rows are the atlas of an order (`atlas`, clause `rows`)
-- EnclosesClass    a row's interval encloses the growth rate of each angle of the class (`enclose`)
use Rattle.std.specs.Prelude.{◌≡◌, ◌<◌, ◌==◌, ℕ, List, length, slice_index, slice_index_or}
use Rattle.std.specs.List.{count_by}
use Rattle.ce_angle.specs.Farey.{AreAnglesUpTo}
use Rattle.ce_angle.specs.Fraction.{Fraction}
use Rattle.ce_orbit.specs.Orbit.{ForwardOrbit, IsForwardOrbit, period_of}
use Rattle.ce_rows.specs.Growth.{Encloses}
use Rattle.ce_solve.specs.declared.collecting.Solved.{Solved}
use Rattle.ce_solve.specs.declared.settings.Settings.{Settings}
use Rattle.ce_sweep.specs.Answers.{AreSolvedBy}
use Rattle.ce_sweep.specs.Classes.{HaveSameKneading}
use Rattle.ce_thurston.specs.Pairs.{pair_walks}
use Rattle.ce_atlas.specs.Above.{count_of_lesser, highs_of}
use Rattle.ce_atlas.specs.InternalAddress.{IsInternalAddress, symbol_number}
use Rattle.ce_atlas.specs.declared.row.ClassRow.{ClassRow}

-- A row tells of a class by its first angle: how many angles it has, how their orbits go, their
-- address, the interval of the class's solution, and how many high ends of solutions lie below it.
pub record IsRowOf (angle : Fraction) (size : ℕ) (solved : Solved) (highs : List ℕ) (row : ClassRow) : Type 0 where
  pub first : row.first ≡ angle
  pub size_is : row.angles ≡ size
  pub preperiod : (o : ForwardOrbit) → IsForwardOrbit o → o.angle ≡ angle → row.preperiod ≡ o.preperiod
  pub period : (o : ForwardOrbit) → IsForwardOrbit o → o.angle ≡ angle → row.period ≡ period_of o
  pub address : IsInternalAddress (symbol_number angle) row.address
  pub low : row.interval.low ≡ solved.certificate.low
  pub high : row.interval.high ≡ solved.certificate.high
  pub above : row.above ≡ count_of_lesser highs solved.certificate.low

-- how many angles have the number of a class
abbrev pub size_of : List ℕ → ℕ → ℕ
size_of of class = count_by (λ k. k == class) of

-- There is a row for each class, in the order of their numbers.
pub record AreRowsOf (angles : List Fraction) (of first : List ℕ) (solutions : List Solved)
    (rows : List ClassRow) : Type 0 where
  pub each : length rows ≡ length first
  pub rows_are : (c : ℕ) (d : Fraction) (e : Solved) (r : ClassRow) → c < length first
      → IsRowOf (slice_index_or angles (slice_index first c) d) (size_of of c)
      (slice_index_or solutions c e) (highs_of solutions) (slice_index_or rows c r)

-- Rows are the atlas of an order: one for each class of the angles up to the order.
pub record IsAtlas (settings : Settings) (order : ℕ) (rows : List ClassRow) : Type 0 where
  pub angles : List Fraction
  pub are_all : AreAnglesUpTo order angles
  pub of : List ℕ
  pub first : List ℕ
  pub solutions : List Solved
  pub solved : AreSolvedBy settings angles of first solutions
  pub rows_are : AreRowsOf angles of first solutions rows

-- A row's interval encloses the growth rate of each angle with the kneading sequence of the row's
-- first angle.
abbrev pub EnclosesClass : ℕ → ClassRow → Type 0
EnclosesClass exponent row = (o : ForwardOrbit) → IsForwardOrbit o → HaveSameKneading row.first o.angle
    → Encloses exponent (pair_walks o) row.interval.low row.interval.high
