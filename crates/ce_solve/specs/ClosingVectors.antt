-- The vectors that show the closing bounds of a run: each is the copy with which a worker certified
-- the bound, the first one of the first worker that did. Where no worker certified a better bound than
-- the initial one, it is the initial vector. Source: this project's choice.
use Rattle.std.specs.Prelude.{◌≡◌, ℕ, ◌<◌, ◌≤◌, ◌⊎◌, List, ◌∷◌, ◌++◌}
use Rattle.ce_words.specs.Logs.{Each}
use Rattle.ce_words.specs.declared.view.Run.{Run}
use Rattle.ce_words.specs.declared.view.Place.{Place}
use Rattle.ce_crew.specs.Best.{CertifiesLow, CertifiesHigh, IsFirstLow, IsFirstHigh}

-- The vector is the copy with which the first of the logs that certified this low bound did so first.
pub record IsFirstLowAmong (run : Run) (places : List Place) (low : ℕ) (vector : List ℕ) : Type 0 where
  pub before : List Place
  pub place : Place
  pub after : List Place
  pub places_are : places ≡ before ++ place ∷ after
  pub less : Each (λ (p : Place). (c : ℕ) → CertifiesLow c p.log → c < low) before
  pub first : IsFirstLow run place.log low vector

pub record IsFirstHighAmong (run : Run) (places : List Place) (high : ℕ) (vector : List ℕ) : Type 0 where
  pub before : List Place
  pub place : Place
  pub after : List Place
  pub places_are : places ≡ before ++ place ∷ after
  pub more : Each (λ (p : Place). (c : ℕ) → CertifiesHigh c p.log → high < c) before
  pub first : IsFirstHigh run place.log high vector

-- The best low bound of logs with its vector: the initial one, where no log certified one above it.
pub record IsClosingLow (run : Run) (initial : ℕ) (beginning : List ℕ) (places : List Place) (low : ℕ)
    (vector : List ℕ) : Type 0 where
  pub least : initial ≤ low
  pub greatest : Each (λ (p : Place). (c : ℕ) → CertifiesLow c p.log → c ≤ low) places
  pub source : ((low ≡ initial) × (vector ≡ beginning)) ⊎ ((initial < low) × IsFirstLowAmong run places low vector)

pub record IsClosingHigh (run : Run) (initial : ℕ) (beginning : List ℕ) (places : List Place) (high : ℕ)
    (vector : List ℕ) : Type 0 where
  pub most : high ≤ initial
  pub least : Each (λ (p : Place). (c : ℕ) → CertifiesHigh c p.log → high ≤ c) places
  pub source : ((high ≡ initial) × (vector ≡ beginning)) ⊎ ((high < initial) × IsFirstHighAmong run places high vector)
