-- Claims of degree 2 are those on the forward orbit under angle doubling.
use Rattle.std.proofs.Common.{◌≡◌, ◌∙◌, ℕ, List, Option, refl, sym, subst, arith}
use Rattle.std.specs.Prelude.{IfSome}
use Rattle.ce_degree.specs.DegreeOrbit.{OrbitOfDegree, IsOrbitOfDegree, portrait_of}
use Rattle.ce_degree.proofs.DoublingRows.{rows_of_two, walks_of_two}
use Rattle.ce_orbit.specs.Orbit.{ForwardOrbit, IsForwardOrbit}
use Rattle.ce_rows.specs.Growth.{Encloses}
use Rattle.ce_rows.specs.declared.interval.Interval.{Interval}
use Rattle.ce_rows.specs.declared.row.Row.{Row}
use Rattle.ce_thurston.specs.Indices.{rows_at, rows_of_orbit}
use Rattle.ce_thurston.specs.Pairs.{pair_walks}
use Rattle.ce_thurston.specs.Portrait.{walks_on}
use Rattle.ce_thurston.specs.PortraitRows.{rows_on}
use Rattle.core_entropy.specs.Headline.{IsInsideInitial, IsTrueClaim}
use Rattle.core_entropy.specs.Task.{Claim}
use Rattle.core_entropy.proofs.Enclosed.{same_growth}

-- A forward orbit under angle doubling, as the orbit in degree 2.
abbrev doubling : ForwardOrbit → OrbitOfDegree
doubling o = record { degree = 2; angle = o.angle; places = o.places; preperiod = o.preperiod }

doubling_is : (o : ForwardOrbit) → IsForwardOrbit o → IsOrbitOfDegree (doubling o)
doubling_is o is = record {
  degree = record { at_least = omega arith; at_most = omega arith };
  angle = is.angle;
  orbit = is.orbit;
}

-- What lies inside an initial enclosure of rows does so of the same rows.
same_inside : (exponent : ℕ) (rows other : List Row) (interval : Interval) (rounds : Option ℕ)
    → rows ≡ other
    → IfSome rounds (IsInsideInitial (record { list = rows; exponent = exponent }) interval)
    → IfSome rounds (IsInsideInitial (record { list = other; exponent = exponent }) interval)
same_inside exponent rows other interval rounds same =
    subst (λ list. IfSome rounds (IsInsideInitial (record { list = list; exponent = exponent }) interval)) same

-- A claim of degree 2 is true where it is true of the forward orbit.
pub doubling_true : (o : ForwardOrbit) (claim : Claim) → IsForwardOrbit o → 2 ≡ claim.degree → o.angle ≡ claim.angle
    → Encloses claim.exponent (pair_walks o) claim.interval.low claim.interval.high
    → IfSome claim.rounds (IsInsideInitial (rows_at o claim.exponent) claim.interval)
    → IsTrueClaim claim
doubling_true o claim is two of_angle encloses inside =
    let d = doubling o in
    let is_d = doubling_is o is in
    let i = claim.interval in
    let walks : (n : ℕ) → pair_walks o n ≡ walks_on (portrait_of d) n =
    λ n. sym (walks_of_two d is_d refl o n is refl) in
    let rows = rows_of_two d is_d refl o is refl in
    record {
      orbit = d;
      is_orbit = is_d;
      of_degree = two;
      of_angle = of_angle;
      encloses = same_growth claim.exponent (pair_walks o) (walks_on (portrait_of d)) i.low i.high walks encloses;
      inside = same_inside claim.exponent (rows_of_orbit o) (rows_on (portrait_of d)) i claim.rounds (sym rows) inside;
    }

-- And the other way round, for each forward orbit of the angle.
module _ (claim : Claim) (o : ForwardOrbit) (true : IsTrueClaim claim) (two : claim.degree ≡ 2) (is : IsForwardOrbit o)
    (of_angle : o.angle ≡ claim.angle) where
  same_angle : true.orbit.angle ≡ o.angle
  same_angle = true.of_angle ∙ sym of_angle

  pub two_encloses : Encloses claim.exponent (pair_walks o) claim.interval.low claim.interval.high
  two_encloses =
      let d = true.orbit in
      let walks : (n : ℕ) → walks_on (portrait_of d) n ≡ pair_walks o n =
      λ n. walks_of_two d true.is_orbit (true.of_degree ∙ two) o n is same_angle in
      same_growth claim.exponent (walks_on (portrait_of d)) (pair_walks o) claim.interval.low
      claim.interval.high walks true.encloses

  pub two_inside : IfSome claim.rounds (IsInsideInitial (rows_at o claim.exponent) claim.interval)
  two_inside =
      let d = true.orbit in
      let rows = rows_of_two d true.is_orbit (true.of_degree ∙ two) o is same_angle in
      same_inside claim.exponent (rows_on (portrait_of d)) (rows_of_orbit o) claim.interval
      claim.rounds rows true.inside
