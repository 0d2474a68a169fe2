-- How one item is looked at.
use Rattle.std.specs.Prelude.{◌≡◌, ℕ, ◌^◌, ◌-◌, min, List, length, take, drop, map, Option, None, Some}
use Rattle.ce_cert.specs.Certificate.{Evidence, IsCertificate}
use Rattle.ce_cert.specs.Evidence.{IsFirstFlaw}
use Rattle.ce_cert.specs.declared.certificate.Flaw.{Flaw}
use Rattle.ce_map.specs.Lists.{IsListOf}
use Rattle.ce_map.specs.declared.numbers.Numbers.{Numbers}
use Rattle.ce_rows.specs.Rows.{ScaledRows}

-- a rank as a number of 32 bits
abbrev pub cut : ℕ → ℕ
cut rank = min rank (2 ^ 32 - 1)

-- what is found of a certificate
abbrev pub IsFlawOfItem : ScaledRows → Evidence → Option Flaw → Type 0
IsFlawOfItem rows e None = IsCertificate rows e
IsFlawOfItem rows e (Some f) = IsFirstFlaw rows e f

-- A list and what is left of it.
pub record IsReadList (change : ℕ → ℕ) (base : ℕ) (list : List ℕ) (left : Numbers) (room : List ℕ)
    (i : ℕ) : Type 0 where
  pub rest : IsListOf base (drop i list) left
  pub front : take i room ≡ take i (map change list)

-- So many numbers of whatever list of a length the numbers are were changed and put into room.
abbrev pub IsReadTo : (ℕ → ℕ) → Numbers → ℕ → Numbers → List ℕ → ℕ → Type 0
IsReadTo change numbers count left room i =
    (base : ℕ) (list : List ℕ) → IsListOf base list numbers → length list ≡ count
    → IsReadList change base list left room i
