-- How two solved angles stand to each other. Source: this project's choice.
--
-- IsCertified, AreCertified    certificates that hold for the rows of the angles, at one exponent
-- AreAlike, AreEqual           one kneading sequence, or intervals that are one number
-- GrowsSlower                  what Below says of the growth of walks (`relate`, clause `slower`)
use Rattle.std.specs.Prelude.{◌≡◌, ◌<◌, ◌≤◌, ◌+◌, ◌*◌, ◌^◌, ◌⊎◌, ℕ, length}
use Rattle.ce_angle.specs.Fraction.{Fraction}
use Rattle.ce_cert.specs.Certificate.{IsCertificate}
use Rattle.ce_cert.specs.Evidence.{evidence_in}
use Rattle.ce_orbit.specs.Orbit.{ForwardOrbit, IsForwardOrbit}
use Rattle.ce_rows.specs.Scale.{IsExponent}
use Rattle.ce_rows.specs.declared.interval.Interval.{Interval}
use Rattle.ce_solve.specs.declared.angle.Answer.{Answer}
use Rattle.ce_sweep.specs.Classes.{HaveSameKneading}
use Rattle.ce_thurston.specs.Indices.{rows_at}
use Rattle.ce_orbit.specs.Iterates.{most_places}

-- the ends of an answer's interval, and the interval
abbrev pub low_of_answer : Answer → ℕ
low_of_answer a = a.solved.certificate.low

abbrev pub high_of_answer : Answer → ℕ
high_of_answer a = a.solved.certificate.high

abbrev pub interval_of_answer : Answer → Interval
interval_of_answer a = record { low = low_of_answer a; high = high_of_answer a }

-- An answer's certificate holds for the rows of its angle's orbit, which has at most 128 angles.
pub record IsCertified (exponent : ℕ) (a : Answer) : Type 0 where
  pub orbit : ForwardOrbit
  pub of_angle : orbit.angle ≡ a.angle
  pub is_orbit : IsForwardOrbit orbit
  pub few : length orbit.places ≤ most_places
  pub certificate : IsCertificate (rows_at orbit exponent) (evidence_in a.solved.certificate)

-- Two answers have certificates that hold, at one exponent.
pub record AreCertified (a b : Answer) : Type 0 where
  pub exponent : ℕ
  pub scale : IsExponent exponent
  pub first : IsCertified exponent a
  pub second : IsCertified exponent b

-- Two intervals are one number.
pub record AreOneNumber (i j : Interval) : Type 0 where
  pub first : i.low ≡ i.high
  pub second : j.low ≡ j.high
  pub same : i.high ≡ j.low

-- Two angles have one kneading sequence, or their intervals are one number.
abbrev pub AreAlike : Fraction → Fraction → Interval → Interval → Type 0
AreAlike a b i j = HaveSameKneading a b ⊎ AreOneNumber i j

-- The angles of two answers are alike.
abbrev pub AreEqual : Answer → Answer → Type 0
AreEqual a b = AreAlike a.angle b.angle (interval_of_answer a) (interval_of_answer b)

-- Counts grow more slowly than others: with h below l, some k and m have
-- l^n first(n) ≤ k (n + 1)^m h^n second(n) for each n.
pub record GrowsSlower (first : ℕ → ℕ) (high : ℕ) (second : ℕ → ℕ) (low : ℕ) : Type 0 where
  pub less : high < low
  pub factor : ℕ
  pub power : ℕ
  pub slower : (n : ℕ) → low ^ n * first n ≤ factor * (n + 1) ^ power * high ^ n * second n
