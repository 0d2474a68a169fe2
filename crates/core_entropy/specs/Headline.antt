-- The headline. Sources: [Gao2020]; [HornJohnson], chapter 8; [Collatz1942], [Wielandt1950].
use Rattle.std.specs.Prelude.{◌≡◌, ◌≤◌, ◌⊎◌, ℕ, List, [], Option, All, IfSome}
use Rattle.ce_degree.specs.DegreeOrbit.{OrbitOfDegree, IsOrbitOfDegree, portrait_of}
use Rattle.ce_port.specs.Sink.{GrewBy}
use Rattle.ce_port.specs.WriteAll.{GrewByPrefix}
use Rattle.ce_rows.specs.Growth.{Encloses}
use Rattle.ce_rows.specs.Rows.{ScaledRows}
use Rattle.ce_rows.specs.declared.interval.Interval.{Interval}
use Rattle.ce_thurston.specs.Portrait.{walks_on}
use Rattle.core_entropy.specs.Calls.{IsInput}
use Rattle.core_entropy.specs.Degree.{degree_rows_at}
use Rattle.core_entropy.specs.InitialEnclosure.{IsInitialEnclosure}
use Rattle.core_entropy.specs.Task.{Claim, Task}

-- An interval lies inside the initial enclosure of rows after so many rounds.
pub record IsInsideInitial (rows : ScaledRows) (interval : Interval) (rounds : ℕ) : Type 0 where
  pub initial : Interval
  pub is_initial : IsInitialEnclosure rows rounds initial
  pub from : initial.low ≤ interval.low
  pub to : interval.high ≤ initial.high

-- A claim is true: its interval encloses the growth rate of the walks on the pairs of its angle's
-- orbit in its degree, and where the program solved it, it lies inside the initial enclosure of its
-- rounds. Degree 2 is angle doubling.
pub record IsTrueClaim (claim : Claim) : Type 0 where
  pub orbit : OrbitOfDegree
  pub is_orbit : IsOrbitOfDegree orbit
  pub of_degree : orbit.degree ≡ claim.degree
  pub of_angle : orbit.angle ≡ claim.angle
  pub encloses : Encloses claim.exponent (walks_on (portrait_of orbit)) claim.interval.low claim.interval.high
  pub inside : IfSome claim.rounds (IsInsideInitial (degree_rows_at orbit claim.exponent) claim.interval)

-- A text of a task claims intervals, each of which is true.
abbrev pub ClaimsTruly : Task → List ℕ → List ℕ → Type 0
ClaimsTruly task input text = (claims : List Claim) × task.Claims input text claims × All IsTrueClaim claims

-- The headline: whatever the input and the end, nothing was written, or some of a text in which each
-- interval is true.
abbrev pub Headline : Task → Option (List ℕ) → Option (List ℕ) → Option (List ℕ) → Type 0
Headline task left old now =
    GrewBy old now [] ⊎ ((input text : List ℕ) × IsInput task.limit left input
    × ClaimsTruly task input text × GrewByPrefix old now text)
