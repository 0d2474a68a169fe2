-- How the header of a part is read from the front of a text.
use Rattle.std.specs.Prelude.{ℕ, List, codes, Option}
use Rattle.ce_map.specs.FieldsInside.{◌>>=◌, word_front}
use Rattle.ce_map.specs.Grammar.{Header}
use Rattle.ce_map.specs.LinesInside.{second_version}

unfoldable pub part_front_by : List ℕ → List ℕ → List ℕ → List ℕ → Option (Header × List ℕ)
part_front_by word a b text = do
  first ← word_front word text
  second_version a b first

unfoldable pub part_front : List ℕ → Option (Header × List ℕ)
part_front text = part_front_by (codes "core-entropy-part 2 order ") (codes " scale ") (codes "\n") text
