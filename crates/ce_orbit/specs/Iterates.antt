-- The forward orbit of a number under a map, up to its first repeat. Source: [Gao2020]; the map is
-- multiplication by the degree on the circle.
use Rattle.std.specs.Prelude.{◌≡◌, ◌≢◌, ℕ, zero, suc, ◌+◌, ◌<◌, ◌≤◌, List, length, slice_index, if◌then◌else◌, nat_lt}

-- the number after so many steps of a map
abbrev pub iterate : (ℕ → ℕ) → ℕ → ℕ → ℕ
iterate f x zero = x
iterate f x (suc k) = f (iterate f x k)

-- The first numbers, so many of them, are all different.
abbrev pub AreDistinctIterates : (ℕ → ℕ) → ℕ → ℕ → Type 0
AreDistinctIterates f x count = (i j : ℕ) → i < j → j < count → iterate f x i ≢ iterate f x j

-- The places are the numbers up to the first repeat, which comes back to a place.
pub record IsOrbitOf (f : ℕ → ℕ) (x : ℕ) (places : List ℕ) (preperiod : ℕ) : Type 0 where
  pub numerators : (k : ℕ) → k < length places → slice_index places k ≡ iterate f x k
  pub distinct : AreDistinctIterates f x (length places)
  pub comes_back : preperiod < length places
  pub repeats : iterate f x (length places) ≡ iterate f x preperiod

-- the most places that orbits may have here
abbrev pub most_places : ℕ
most_places = 128

-- The numbers come back to one of them within so many.
pub record HasOrbitOf (f : ℕ → ℕ) (x count : ℕ) : Type 0 where
  pub places : List ℕ
  pub preperiod : ℕ
  pub is_orbit : IsOrbitOf f x places preperiod
  pub few : length places ≤ count

-- the place after a place; after the last one it is the one that the repeat comes back to
abbrev pub place_after_in : List ℕ → ℕ → ℕ → ℕ
place_after_in places preperiod i = if nat_lt (i + 1) (length places) then i + 1 else preperiod
