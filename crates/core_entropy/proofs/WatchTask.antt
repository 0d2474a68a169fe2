-- The task of the command `watch`.
use Rattle.std.proofs.Common.{◌≡◌, ◌≤◌, ◌∷◌, ◌∙◌, inr, ℕ, List, [], Option, length}
use Rattle.std.proofs.Common.{map, refl, ap, subst}
use Rattle.std.specs.Prelude.{All}
use Rattle.std.proofs.lemmas.List.Elements.{All-append, All-cons, All-nil}
use Rattle.ce_angle.specs.Fraction.{Fraction, IsAngle}
use Rattle.ce_cert.proofs.Enclose.{certificate_encloses}
use Rattle.ce_live.specs.declared.reading.Reading.{Reading}
use Rattle.ce_orbit.specs.Orbit.{ForwardOrbit, HasOrbitWithin, IsForwardOrbit}
use Rattle.ce_rows.specs.Rows.{AreScaledRows, EnclosesRows, ScaledRows, all_walks}
use Rattle.ce_rows.specs.Scale.{IsExponent}
use Rattle.ce_solve.specs.SolvedRows.{AreReadingsFrom, Closing, IsRunOf, IsSolved}
use Rattle.ce_thurston.specs.Indices.{rows_at}
use Rattle.ce_thurston.proofs.OrbitRows.{rows_in_range}
use Rattle.ce_words.specs.Logs.{Each}
use Rattle.ce_words.specs.Steps.{LiesInside}
use Rattle.ce_words.specs.declared.view.Run.{Run}
use Rattle.core_entropy.specs.Angle.{interval_of}
use Rattle.core_entropy.specs.Calls.{CallsFor}
use Rattle.core_entropy.specs.Headline.{ClaimsTruly, IsTrueClaim}
use Rattle.core_entropy.specs.Output.{HasEnded, Wrote}
use Rattle.core_entropy.specs.Status.{IsEndOfAnswer}
use Rattle.core_entropy.specs.Watch.{IsWatchText, reading_claim, watch_task, watch_text}
use Rattle.core_entropy.specs.declared.status.Status.{Status}
use Rattle.core_entropy.specs.declared.status.Status.TheVariants.{Done}
use Rattle.core_entropy.proofs.AngleTask.{claim_true, inside_initial, inside_of_run, one_true, orbit_called}
use Rattle.core_entropy.proofs.AngleTask.{orbit_one, orbit_some, short_done}
use Rattle.ce_solve.proofs.Enclosing.{widened}
use Rattle.core_entropy.proofs.Ended.{answered}
use Rattle.core_entropy.proofs.Stages.{IsLawful}

module _ (angle : Fraction) (rounds exponent : ℕ) (o : ForwardOrbit) (is_orbit : IsForwardOrbit o)
    (of_angle : o.angle ≡ angle) (are : AreScaledRows (rows_at o exponent)) (run : Run)
    (run_of : IsRunOf (rows_at o exponent) rounds run)
    (low high : ℕ) (encloses : EnclosesRows (rows_at o exponent) low high) where
  reading_true : (r : Reading) → LiesInside r.interval.low r.interval.high low high
      → LiesInside run.initial.low run.initial.high r.interval.low r.interval.high
      → IsTrueClaim (reading_claim angle rounds exponent r)
  reading_true r contains inside =
      let wide = widened exponent (all_walks (rows_at o exponent).list) low high r.interval.low r.interval.high
      contains.from contains.to encloses in
      claim_true o angle rounds exponent r.interval is_orbit of_angle wide
      (inside_of_run (rows_at o exponent) rounds run r.interval are run_of inside)

  readings_true : (readings : List Reading)
      → Each (λ (r : Reading). LiesInside r.interval.low r.interval.high low high) readings
      → Each (λ (r : Reading). LiesInside run.initial.low run.initial.high r.interval.low r.interval.high) readings
      → All IsTrueClaim (map (reading_claim angle rounds exponent) readings)
  readings_true [] contain inside = All-nil IsTrueClaim
  readings_true (r ∷ rest) contain inside =
      All-cons IsTrueClaim (reading_claim angle rounds exponent r) (map (reading_claim angle rounds exponent) rest)
      (reading_true r contain.0 inside.0) (readings_true rest contain.1 inside.1)

module _ (angle : Fraction) (rounds turns workers sessions reads exponent : ℕ) (known : IsExponent exponent) where
  watch_true : (input text : List ℕ) → IsWatchText angle rounds turns workers sessions reads exponent text
      → ClaimsTruly (watch_task rounds turns workers sessions reads exponent angle) input text
  watch_true input text h =
      let rows = rows_at h.orbit exponent in
      let are : AreScaledRows rows = record { rows = rows_in_range h.orbit h.is_orbit h.few; scale = known } in
      let encloses = certificate_encloses rows h.closing.evidence are h.solution.certificate in
      let interval = interval_of h.closing in
      let last = one_true h.orbit angle rounds exponent interval h.is_orbit h.of_angle encloses
      (inside_initial rows rounds turns workers h.closing are h.solution) in
      let first = readings_true angle rounds exponent h.orbit h.is_orbit h.of_angle are h.solution.run
      h.solution.run_of interval.low interval.high encloses h.closing.readings h.solution.contain
      h.solution.inside_initial in
      (_, (h.closing.readings, interval, h.spelled, refl), All-append IsTrueClaim _ _ first last)

  pub watch_lawful : IsAngle angle → IsLawful (watch_task rounds turns workers sessions reads exponent angle)
  watch_lawful is = record {
    some = λ input. orbit_some angle is;
    one = λ input. orbit_one angle;
    called = λ input. orbit_called angle;
    true = watch_true;
  }

  -- How the task ended.
  pub watch_ended : {O : Type 0} (taken : O → Option (List ℕ)) (faults : O → ℕ) (old now : O) → HasOrbitWithin 128 angle
      → (s : Status) → IsEndOfAnswer Done s
      → Wrote taken faults (IsWatchText angle rounds turns workers sessions reads exponent) s old now
      → HasEnded taken faults (watch_task rounds turns workers sessions reads exponent angle) [] s old now
  watch_ended taken faults old now short s end wrote =
      let task = watch_task rounds turns workers sessions reads exponent angle in
      let calls : CallsFor task [] Done = inr (λ none. none, short_done angle short) in
      answered taken faults task [] Done old now (λ none. none) calls s end wrote

-- A text of an orbit's readings and line.
pub watched : (o : ForwardOrbit) (exponent rounds turns workers sessions reads : ℕ) (rows : ScaledRows) (e : Closing)
    (angle : Fraction) → IsForwardOrbit o → length o.places ≤ 128 → angle ≡ o.angle → rows ≡ rows_at o exponent
    → IsSolved rows rounds turns workers e → AreReadingsFrom 0 sessions reads e.readings → (text : List ℕ)
    → text ≡ watch_text angle exponent e.readings (interval_of e)
    → IsWatchText o.angle rounds turns workers sessions reads exponent text
watched o exponent rounds turns workers sessions reads rows e angle is_orbit few of_angle same solution
    readings text spelled = record {
      orbit = o;
      is_orbit = is_orbit;
      of_angle = refl;
      few = few;
      closing = e;
      solution = subst (λ r. IsSolved r rounds turns workers e) same solution;
      readings = readings;
      spelled = spelled ∙ ap (λ a. watch_text a exponent e.readings (interval_of e)) of_angle;
    }
