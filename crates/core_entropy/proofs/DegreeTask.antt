-- The task of the command `degree`.
use Rattle.std.proofs.Common.{length, ◌≡◌, ◌≤◌, ◌∙◌, ℕ, List, []}
use Rattle.std.proofs.Common.{◌∷◌, refl, sym, subst, Result, String, Global, string_bytes}
use Rattle.std.specs.Prelude.{IfOk}
use Rattle.std.proofs.lemmas.Result.{IfOk-weaker}
use Rattle.std.proofs.lemmas.List.Elements.{All-nil, All-cons}
use Rattle.ce_angle.specs.Fraction.{Fraction}
use Rattle.ce_cert.proofs.Enclose.{certificate_encloses}
use Rattle.ce_degree.specs.DegreeOrbit.{OrbitOfDegree, IsOrbitOfDegree, HasOrbitAbove, portrait_of}
use Rattle.ce_degree.proofs.DegreePortrait.{portrait_is}
use Rattle.ce_orbit.specs.Orbit.{multiplied}
use Rattle.ce_orbit.proofs.Exists.{distinct_or_not}
use Rattle.ce_rows.specs.Growth.{Encloses}
use Rattle.ce_rows.specs.Rows.{AreScaledRows, EnclosesRows, ScaledRows, all_walks}
use Rattle.ce_rows.specs.Scale.{IsExponent}
use Rattle.ce_rows.specs.declared.no_memory.NoMemory.{NoMemory}
use Rattle.ce_solve.specs.SolvedRows.{Closing, IsSolved}
use Rattle.ce_thurston.specs.Portrait.{walks_on}
use Rattle.ce_thurston.specs.PortraitRows.{rows_on}
use Rattle.ce_thurston.proofs.InRange as in_range
use Rattle.ce_thurston.proofs.PortraitWalks.{rows_total}
use Rattle.core_entropy.specs.Angle.{interval_of}
use Rattle.core_entropy.specs.Degree.{IsDegreeText, degree_line, degree_rows_at, degree_task}
use Rattle.core_entropy.specs.Headline.{ClaimsTruly, IsTrueClaim}
use Rattle.core_entropy.specs.Status.{IsCalledFor}
use Rattle.core_entropy.specs.Task.{solved_in}
use Rattle.core_entropy.specs.declared.status.Status.{Status}
use Rattle.core_entropy.specs.declared.status.Status.TheVariants.{Done, OrbitTooLong}
use Rattle.core_entropy.proofs.AngleTask.{inside_initial}
use Rattle.core_entropy.proofs.Enclosed.{same_growth}
use Rattle.core_entropy.proofs.Stages.{IsLawful, unless_one, unless_some, unless_called}

-- What encloses the rows of an orbit encloses the walks on its pairs.
degree_enclosed : (o : OrbitOfDegree) (exponent low high : ℕ) → IsOrbitOfDegree o
    → EnclosesRows (degree_rows_at o exponent) low high → Encloses exponent (walks_on (portrait_of o)) low high
degree_enclosed o exponent low high is h =
    let p = portrait_of o in
    same_growth exponent (all_walks (rows_on p)) (walks_on p) low high (rows_total p (portrait_is o is)) h

module _ (degree : ℕ) (angle : Fraction) (rounds turns workers exponent : ℕ) (known : IsExponent exponent) where
  abbrev Next : Status → Type 0
  Next s = s ≡ Done

  degree_true : (input text : List ℕ) → IsDegreeText degree angle rounds turns workers exponent text
      → ClaimsTruly (degree_task degree rounds turns workers exponent angle) input text
  degree_true input text h =
      let rows = degree_rows_at h.orbit exponent in
      let range = in_range.rows_in_range (portrait_of h.orbit) (portrait_is h.orbit h.is_orbit) h.few in
      let are : AreScaledRows rows = record { rows = range; scale = known } in
      let encloses = certificate_encloses rows h.closing.evidence are h.solution.certificate in
      let interval = interval_of h.closing in
      let claim = solved_in degree angle rounds exponent interval in
      let is : IsTrueClaim claim = record {
        orbit = h.orbit;
        is_orbit = h.is_orbit;
        of_degree = h.of_degree;
        of_angle = h.of_angle;
        encloses = degree_enclosed h.orbit exponent interval.low interval.high h.is_orbit encloses;
        inside = inside_initial rows rounds turns workers h.closing are h.solution;
      } in
      (claim ∷ [], (interval, h.spelled, refl), All-cons IsTrueClaim claim [] is (All-nil IsTrueClaim))

  pub degree_lawful : IsLawful (degree_task degree rounds turns workers exponent angle)
  degree_lawful =
      let Long = HasOrbitAbove 128 degree angle in
      record {
        some = λ input. unless_some Long OrbitTooLong Next (distinct_or_not (multiplied degree angle) angle.num 129)
            (λ none. (Done, refl));
        one = λ input. unless_one Long OrbitTooLong Next (λ s t h k. h ∙ sym k);
        called = λ input. unless_called Long OrbitTooLong Next tt (λ s h. subst IsCalledFor (sym h) tt);
        true = degree_true;
      }

pub degree_if_spelled : (o : OrbitOfDegree) (degree exponent rounds turns workers : ℕ)
    (angle : Fraction) (rows : ScaledRows)
    (e : Closing) (r : Result (String Global) NoMemory) → IsOrbitOfDegree o → length o.places ≤ 128
    → o.degree ≡ degree → o.angle ≡ angle → rows ≡ degree_rows_at o exponent → IsSolved rows rounds turns workers e
    → IfOk r (λ line. string_bytes line ≡ degree_line degree angle exponent (interval_of e))
    → IfOk r (λ line. IsDegreeText degree angle rounds turns workers exponent (string_bytes line))
degree_if_spelled o degree exponent rounds turns workers angle rows e r is few of_degree of_angle same closing =
    IfOk-weaker r (λ line. string_bytes line ≡ degree_line degree angle exponent (interval_of e))
    (λ line. IsDegreeText degree angle rounds turns workers exponent (string_bytes line)) (λ line spelled. record {
      orbit = o;
      is_orbit = is;
      of_degree = of_degree;
      of_angle = of_angle;
      few = few;
      closing = e;
      solution = subst (λ r. IsSolved r rounds turns workers e) same closing;
      spelled = spelled;
    })
