-- The text of the atlas: comma-separated values, a line of names and a line for each class. Source:
-- this project's choice.
use Rattle.std.specs.Prelude.{◌++◌, ◌∷◌, ℕ, suc, List, [], codes, decimal}
use Rattle.std.specs.List.{flat_map, join_with_byte}
use Rattle.ce_angle.specs.Spelled.{ended, fraction_text}
use Rattle.ce_atlas.specs.InternalAddress.{entries_of}
use Rattle.ce_atlas.specs.declared.row.ClassRow.{ClassRow}

-- numbers, each after a space
abbrev pub after_spaces : List ℕ → List ℕ
after_spaces = flat_map (λ n. 32 ∷ decimal n)

-- numbers with a space between
abbrev pub spaced : List ℕ → List ℕ
spaced [] = []
spaced (n ∷ ns) = decimal n ++ after_spaces ns

-- fields joined by commas, with a line feed at the end
abbrev pub line_of : List (List ℕ) → List ℕ
line_of fields = ended (join_with_byte 44 fields)

abbrev pub fields_of_row : ℕ → ClassRow → List (List ℕ)
fields_of_row number r =
    decimal number ∷ fraction_text r.first ∷ decimal r.angles ∷ decimal r.preperiod ∷ decimal r.period
    ∷ spaced (entries_of r.address) ∷ decimal r.interval.low ∷ decimal r.interval.high ∷ decimal r.above ∷ []

abbrev pub names : List (List ℕ)
names =
    codes "class" ∷ codes "first" ∷ codes "angles" ∷ codes "preperiod" ∷ codes "period" ∷ codes "address"
    ∷ codes "low" ∷ codes "high" ∷ codes "above" ∷ []

-- a line for each row, numbered on from a number
abbrev pub rows_text : ℕ → List ClassRow → List ℕ
rows_text number [] = []
rows_text number (r ∷ rows) = line_of (fields_of_row number r) ++ rows_text (suc number) rows

abbrev pub table_text : List ClassRow → List ℕ
table_text rows = line_of names ++ rows_text 0 rows
