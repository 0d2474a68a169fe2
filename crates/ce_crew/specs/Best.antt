-- The best vectors of a log: the copies with which its best bounds were certified first. Source: this
-- project's choice.
use Rattle.std.specs.Prelude.{◌≡◌, ℕ, ◌<◌, ◌≤◌, ◌⊎◌, List, ◌∷◌, ◌++◌}
use Rattle.ce_rows.specs.declared.act.Act.TheVariants.{Raises, Lowers}
use Rattle.ce_rows.specs.declared.act.LogEntry.{LogEntry}
use Rattle.ce_words.specs.Logs.{is_raise, is_lower, times}
use Rattle.ce_words.specs.Views.{kept, logged}
use Rattle.ce_words.specs.declared.view.Run.{Run}

-- A log certified the low bound, or the high bound.
abbrev pub CertifiesLow : ℕ → List LogEntry → Type 0
CertifiesLow low log = 0 < times is_raise low log

abbrev pub CertifiesHigh : ℕ → List LogEntry → Type 0
CertifiesHigh high log = 0 < times is_lower high log

-- The vector is the log's copy where the log first certified this low bound, and no better one was
-- certified before.
pub record IsFirstLow (run : Run) (log : List LogEntry) (low : ℕ) (vector : List ℕ) : Type 0 where
  pub before : List LogEntry
  pub answer : ℕ
  pub after : List LogEntry
  pub log_is : log ≡ before ++ logged Raises low answer ∷ after
  pub less : (c : ℕ) → CertifiesLow c before → c < low
  pub vector_is : vector ≡ (kept run before).copy

pub record IsFirstHigh (run : Run) (log : List LogEntry) (high : ℕ) (vector : List ℕ) : Type 0 where
  pub before : List LogEntry
  pub answer : ℕ
  pub after : List LogEntry
  pub log_is : log ≡ before ++ logged Lowers high answer ∷ after
  pub more : (c : ℕ) → CertifiesHigh c before → high < c
  pub vector_is : vector ≡ (kept run before).copy

-- The best low bound that a log certified, if it is above an initial one, with the copy that certified
-- it first; or else the initial bound with the initial vector.
pub record IsBestLow (run : Run) (initial : ℕ) (beginning : List ℕ) (log : List LogEntry) (low : ℕ)
    (vector : List ℕ) : Type 0 where
  pub least : initial ≤ low
  pub greatest : (c : ℕ) → CertifiesLow c log → c ≤ low
  pub source : ((low ≡ initial) × (vector ≡ beginning)) ⊎ ((initial < low) × IsFirstLow run log low vector)

pub record IsBestHigh (run : Run) (initial : ℕ) (beginning : List ℕ) (log : List LogEntry) (high : ℕ)
    (vector : List ℕ) : Type 0 where
  pub most : high ≤ initial
  pub least : (c : ℕ) → CertifiesHigh c log → high ≤ c
  pub source : ((high ≡ initial) × (vector ≡ beginning)) ⊎ ((high < initial) × IsFirstHigh run log high vector)
