-- The command `probe`: the initial enclosures of many generated angles, in five lines. Source: this
-- project's choice.
use Rattle.std.specs.Prelude.{◌≡◌, ◌-◌, ◌==◌, ℕ, List, [], ◌++◌, None, codes, if◌then◌else◌, map, sum_by}
use Rattle.std.specs.Fmt.{decimal}
use Rattle.std.specs.List.{AllZip}
use Rattle.ce_angle.specs.Fraction.{Fraction}
use Rattle.ce_cert.specs.Quotients.{greatest, least}
use Rattle.ce_log2.specs.Squaring.{bits_above_of, bits_below_of}
use Rattle.ce_orbit.specs.Orbit.{ForwardOrbit, IsForwardOrbit}
use Rattle.ce_rows.specs.declared.interval.Interval.{Interval}
use Rattle.ce_sweep.specs.Probe.{probe_angles_of}
use Rattle.ce_thurston.specs.Indices.{rows_at}
use Rattle.core_entropy.specs.InitialEnclosure.{IsInitialEnclosure}
use Rattle.core_entropy.specs.Task.{Task}
use Rattle.ce_angle.specs.Spelled.{ended}
use Rattle.core_entropy.specs.declared.commands.probe.Summary.{Summary}
use Rattle.core_entropy.specs.declared.status.Status.TheVariants.{Done}

-- An interval is the initial enclosure of an angle.
pub record IsInitialOf (rounds exponent : ℕ) (angle : Fraction) (interval : Interval) : Type 0 where
  pub orbit : ForwardOrbit
  pub is_orbit : IsForwardOrbit orbit
  pub of_angle : orbit.angle ≡ angle
  pub initial : IsInitialEnclosure (rows_at orbit exponent) rounds interval

abbrev pub lows : List Interval → List ℕ
lows intervals = map (λ i. i.low) intervals

abbrev pub highs : List Interval → List ℕ
highs intervals = map (λ i. i.high) intervals

abbrev pub widths : List Interval → List ℕ
widths intervals = map (λ i. i.high - i.low) intervals

abbrev pub summary_of : ℕ → List Interval → Summary
summary_of exponent intervals = record {
  low_least = least (lows intervals);
  low_greatest = greatest (lows intervals);
  high_least = least (highs intervals);
  high_greatest = greatest (highs intervals);
  widest = greatest (widths intervals);
  bits_below = sum_by (bits_below_of exponent) (lows intervals);
  bits_above = sum_by (bits_above_of exponent) (highs intervals);
}

-- `probe N count COUNT rounds R`, and at another scale than 2^32 `probe N count COUNT rounds R scale E`
abbrev pub probe_heading : ℕ → ℕ → ℕ → ℕ → List ℕ
probe_heading start count rounds exponent =
    if exponent == 32
    then ended
    (codes "probe " ++ decimal start ++ codes " count " ++ decimal count ++ codes " rounds " ++ decimal rounds)
    else ended
    (codes "probe " ++ decimal start ++ codes " count " ++ decimal count ++ codes " rounds " ++ decimal rounds
    ++ codes " scale " ++ decimal exponent)

abbrev pub low_line : Summary → List ℕ
low_line s = ended (codes "low least " ++ decimal s.low_least ++ codes " greatest " ++ decimal s.low_greatest)

abbrev pub high_line : Summary → List ℕ
high_line s = ended (codes "high least " ++ decimal s.high_least ++ codes " greatest " ++ decimal s.high_greatest)

abbrev pub widest_line : Summary → List ℕ
widest_line s = ended (codes "widest " ++ decimal s.widest)

abbrev pub bits_line : Summary → List ℕ
bits_line s = ended (codes "bits below " ++ decimal s.bits_below ++ codes " above " ++ decimal s.bits_above)

abbrev pub probe_text : ℕ → ℕ → ℕ → ℕ → Summary → List ℕ
probe_text start count rounds exponent s =
    probe_heading start count rounds exponent ++ low_line s ++ high_line s ++ widest_line s ++ bits_line s

-- A text sums up the initial enclosures of the angles of a probe, at the scale with an exponent.
pub record IsProbeText (start count rounds exponent : ℕ) (text : List ℕ) : Type 0 where
  pub intervals : List Interval
  pub each : AllZip (IsInitialOf rounds exponent) (probe_angles_of start count) intervals
  pub spelled : text ≡ probe_text start count rounds exponent (summary_of exponent intervals)

abbrev pub probe_task : ℕ → ℕ → ℕ → ℕ → Task
probe_task start count rounds exponent = record {
  limit = None;
  Ends = λ input s. s ≡ Done;
  Writes = λ input text. IsProbeText start count rounds exponent text;
  Claims = λ input text claims. claims ≡ [];
}
