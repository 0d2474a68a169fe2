-- The task of the command `angle`, and what those for one angle have in common.
use Rattle.std.proofs.Common.{length, ◌≡◌, ◌≤◌, ◌⊎◌, ◌∙◌, inl, inr, ℕ, List, [], ◌∷◌, refl, sym, ap, subst}
use Rattle.std.proofs.Common.{arith, Result, String, Global, string_bytes}
use Rattle.std.specs.Prelude.{All, IfOk}
use Rattle.std.proofs.lemmas.Result.{IfOk-weaker}
use Rattle.std.proofs.lemmas.List.Elements.{All-nil, All-cons}
use Rattle.ce_angle.specs.Fraction.{Fraction, IsAngle}
use Rattle.ce_orbit.specs.Orbit.{ForwardOrbit, IsForwardOrbit, HasOrbitAbove, HasOrbitWithin}
use Rattle.ce_orbit.proofs.Unique.{longer_is}
use Rattle.ce_orbit.proofs.Exists.{within_or_above}
use Rattle.ce_cert.proofs.Enclose.{certificate_encloses}
use Rattle.ce_rows.specs.Rows.{AreScaledRows, EnclosesRows, ScaledRows}
use Rattle.ce_rows.specs.Scale.{IsExponent}
use Rattle.ce_rows.specs.declared.no_memory.NoMemory.{NoMemory}
use Rattle.ce_rows.specs.declared.interval.Interval.{Interval}
use Rattle.ce_words.specs.Steps.{LiesInside}
use Rattle.ce_words.specs.declared.view.Run.{Run}
use Rattle.ce_solve.specs.SolvedRows.{IsRunOf, Closing, IsSolved}
use Rattle.ce_thurston.proofs.OrbitRows.{rows_in_range}
use Rattle.core_entropy.specs.Angle.{IsAngleText, angle_task, interval_of, line_of}
use Rattle.ce_thurston.specs.Indices.{rows_at}
use Rattle.core_entropy.specs.Headline.{IsTrueClaim, ClaimsTruly, IsInsideInitial}
use Rattle.core_entropy.specs.Status.{IsCalledFor}
use Rattle.core_entropy.specs.Task.{Unless, solved}
use Rattle.core_entropy.specs.declared.status.Status.{Status}
use Rattle.core_entropy.specs.declared.status.Status.TheVariants.{Done, OrbitTooLong}
use Rattle.core_entropy.proofs.DegreeClaims.{doubling_true}
use Rattle.core_entropy.proofs.Enclosed.{pairs_enclosed}
use Rattle.core_entropy.proofs.Stages.{IsLawful, unless_one, unless_some, unless_called}

-- an angle has no long orbit and a short one
pub not_long : (angle : Fraction) → HasOrbitWithin 128 angle → ¬ (HasOrbitAbove 128 angle)
not_long angle short long =
    let above =
    (longer_is short.orbit 128 short.is_orbit).0 (subst (λ a. HasOrbitAbove 128 a) (sym short.of_angle) long) in
    let few = short.few in
    omega arith

pub long_or_not : (angle : Fraction) → IsAngle angle → HasOrbitAbove 128 angle ⊎ (¬ (HasOrbitAbove 128 angle))
long_or_not angle is = elim (within_or_above angle 128 is) [
  | inl short ↦ inr (not_long angle short)
  | inr long ↦ inl long
]

-- an orbit that is not long is short
pub short_if : (angle : Fraction) → IsAngle angle → ¬ (HasOrbitAbove 128 angle) → HasOrbitWithin 128 angle
short_if angle is none = elim (within_or_above angle 128 is) [
  | inl short ↦ short
  | inr long ↦ absurd (none long)
]

-- where the orbit alone decides
abbrev pub EndsByOrbit : Fraction → Status → Type 0
EndsByOrbit angle = Unless (HasOrbitAbove 128 angle) OrbitTooLong (λ s. s ≡ Done)

pub orbit_some : (angle : Fraction) → IsAngle angle → (s : Status) × EndsByOrbit angle s
orbit_some angle is = unless_some (HasOrbitAbove 128 angle) OrbitTooLong (λ s. s ≡ Done)
    (long_or_not angle is) (λ none. (Done, refl))

pub orbit_one : (angle : Fraction) (s t : Status) → EndsByOrbit angle s → EndsByOrbit angle t → s ≡ t
orbit_one angle = unless_one (HasOrbitAbove 128 angle) OrbitTooLong (λ s. s ≡ Done) (λ s t h k. h ∙ sym k)

pub orbit_called : (angle : Fraction) (s : Status) → EndsByOrbit angle s → IsCalledFor s
orbit_called angle = unless_called (HasOrbitAbove 128 angle) OrbitTooLong (λ s. s ≡ Done) tt
    (λ s h. subst IsCalledFor (sym h) tt)

-- A claim on an orbit's angle is true where it encloses the rows and lies inside the initial enclosure.
pub claim_true : (o : ForwardOrbit) (angle : Fraction) (rounds exponent : ℕ) (interval : Interval) → IsForwardOrbit o
    → o.angle ≡ angle → EnclosesRows (rows_at o exponent) interval.low interval.high
    → IsInsideInitial (rows_at o exponent) interval rounds → IsTrueClaim (solved angle rounds exponent interval)
claim_true o angle rounds exponent interval is_orbit of_angle encloses inside =
    doubling_true o (solved angle rounds exponent interval) is_orbit refl of_angle
    (pairs_enclosed o exponent interval.low interval.high is_orbit encloses) inside

pub one_true : (o : ForwardOrbit) (angle : Fraction) (rounds exponent : ℕ) (interval : Interval) → IsForwardOrbit o
    → o.angle ≡ angle → EnclosesRows (rows_at o exponent) interval.low interval.high
    → IsInsideInitial (rows_at o exponent) interval rounds
    → All IsTrueClaim (solved angle rounds exponent interval ∷ [])
one_true o angle rounds exponent interval is_orbit of_angle encloses inside =
    All-cons IsTrueClaim (solved angle rounds exponent interval) []
    (claim_true o angle rounds exponent interval is_orbit of_angle encloses inside) (All-nil IsTrueClaim)

-- What a run begins with is the initial enclosure.
pub inside_of_run : (rows : ScaledRows) (rounds : ℕ) (run : Run) (interval : Interval) → AreScaledRows rows
    → IsRunOf rows rounds run → LiesInside run.initial.low run.initial.high interval.low interval.high
    → IsInsideInitial rows interval rounds
inside_of_run rows rounds run interval are of inside = record {
  initial = run.initial;
  is_initial = record {
    are_rows = are;
    ranks = run.ranks;
    numbering = of.numbering;
    bounds = of.bounds;
  };
  from = inside.from;
  to = inside.to;
}

-- The closing interval of a run lies inside the initial enclosure.
pub inside_initial : (rows : ScaledRows) (rounds turns workers : ℕ) (e : Closing) → AreScaledRows rows
    → IsSolved rows rounds turns workers e → IsInsideInitial rows (interval_of e) rounds
inside_initial rows rounds turns workers e are h =
    inside_of_run rows rounds h.run (interval_of e) are h.run_of
    (record { from = h.is_run.greatest.from; to = h.is_run.least.from })

module _ (angle : Fraction) (rounds turns workers exponent : ℕ) (known : IsExponent exponent) where
  angle_true : (input text : List ℕ) → IsAngleText angle rounds turns workers exponent text
      → ClaimsTruly (angle_task rounds turns workers exponent angle) input text
  angle_true input text h =
      let rows = rows_at h.orbit exponent in
      let are : AreScaledRows rows = record { rows = rows_in_range h.orbit h.is_orbit h.few; scale = known } in
      let encloses = certificate_encloses rows h.closing.evidence are h.solution.certificate in
      let interval = interval_of h.closing in (
        solved angle rounds exponent interval ∷ [],
        (interval, h.spelled, refl),
        one_true h.orbit angle rounds exponent
            interval h.is_orbit h.of_angle encloses (inside_initial rows rounds turns workers h.closing are h.solution),
      )

  pub angle_lawful : IsAngle angle → IsLawful (angle_task rounds turns workers exponent angle)
  angle_lawful is = record {
    some = λ input. orbit_some angle is;
    one = λ input. orbit_one angle;
    called = λ input. orbit_called angle;
    true = angle_true;
  }

pub line_if_spelled : (o : ForwardOrbit) (exponent rounds turns workers : ℕ) (rows : ScaledRows) (e : Closing)
    (angle : Fraction) (r : Result (String Global) NoMemory) → IsForwardOrbit o → length o.places ≤ 128
    → angle ≡ o.angle → rows ≡ rows_at o exponent → IsSolved rows rounds turns workers e
    → IfOk r (λ line. string_bytes line ≡ line_of angle exponent (interval_of e))
    → IfOk r (λ line. IsAngleText o.angle rounds turns workers exponent (string_bytes line))
line_if_spelled o exponent rounds turns workers rows e angle r is_orbit few of_angle same closing =
    IfOk-weaker r (λ line. string_bytes line ≡ line_of angle exponent (interval_of e))
    (λ line. IsAngleText o.angle rounds turns workers exponent (string_bytes line)) (λ line spelled. record {
      orbit = o;
      is_orbit = is_orbit;
      of_angle = refl;
      few = few;
      closing = e;
      solution = subst (λ r. IsSolved r rounds turns workers e) same closing;
      spelled = spelled ∙ ap (λ a. line_of a exponent (interval_of e)) of_angle;
    })

-- a short orbit is done
pub short_done : (angle : Fraction) → HasOrbitWithin 128 angle → EndsByOrbit angle Done
short_done angle short = inr (not_long angle short, refl)
