-- The rows of an orbit under any map: the images of each pair by their indices. Source: this
-- project's choice of the indices.
use Rattle.std.specs.Prelude.{◌≡◌, ◌<◌, ℕ, zero, suc, ◌+◌, ◌-◌, ◌*◌, ◌/◌, List, [], ◌∷◌, ◌++◌, length, map}
use Rattle.std.specs.Prelude.{slice_index, if◌then◌else◌, ◌==◌, nat_lt}
use Rattle.std.specs.List.{range_with_len}
use Rattle.ce_rows.specs.declared.row.Row.{Row}
use Rattle.ce_rows.specs.declared.row.Row.TheVariants.{One, Two}
use Rattle.ce_orbit.specs.Iterates.{place_after_in}
use Rattle.ce_thurston.specs.Portrait.{PortraitOrbit}

-- the index of the pair of the places i and j, where i is the lower one
abbrev pub index_of : ℕ → ℕ → ℕ
index_of i j = j * (j - 1) / 2 + i

-- the same, where either may be the lower one
abbrev pub index_between : ℕ → ℕ → ℕ
index_between i j = if nat_lt i j then index_of i j else index_of j i

-- the place after a place
abbrev pub next_on : PortraitOrbit → ℕ → ℕ
next_on o i = place_after_in o.places o.preperiod i

-- A pair of numbers has an index.
pub record HasIndexOn (o : PortraitOrbit) (index : ℕ) (pair : ℕ × ℕ) : Type 0 where
  pub first : ℕ
  pub second : ℕ
  pub first_within : first < length o.places
  pub second_within : second < length o.places
  pub first_place : slice_index o.places first ≡ pair.0
  pub second_place : slice_index o.places second ≡ pair.1
  pub apart : first ≡ second → length o.places ≡ 1
  pub is_index : index ≡ index_between first second

-- the row of the pair of the places i and j: the indices of its images
abbrev pub row_on : PortraitOrbit → ℕ → ℕ → Row
row_on o i j =
    if o.separated (slice_index o.places i) (slice_index o.places j)
    then Two (index_between (next_on o i) 0) (index_between 0 (next_on o j))
    else One (index_between (next_on o i) (next_on o j))

-- the pairs of a place with each lower one, which comes first
abbrev pub pairs_below : ℕ → List (ℕ × ℕ)
pairs_below j = map (λ i. (i, j)) (range_with_len 0 j)

-- the pairs of the first places, in the order of their indices
abbrev pub place_pairs : ℕ → List (ℕ × ℕ)
place_pairs zero = []
place_pairs (suc j) = place_pairs j ++ pairs_below j

-- the places of each pair of an orbit in the order of the indices; an orbit of one place has that
-- place twice
abbrev pub pair_places_on : PortraitOrbit → List (ℕ × ℕ)
pair_places_on o = if length o.places == 1 then (0, 0) ∷ [] else place_pairs (length o.places)

-- the rows of an orbit; the one pair of an orbit of one place is its own image
abbrev pub rows_on : PortraitOrbit → List Row
rows_on o =
    if length o.places == 1 then One 0 ∷ []
    else map (λ pair. row_on o pair.0 pair.1) (place_pairs (length o.places))
