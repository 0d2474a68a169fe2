-- The shared state of a run as a list of words, each changed by one step at a time: the low bound,
-- the high bound, the greatest number of rescalings that was asked for, the stop word, and then the
-- entries. Source: this project's choice.
use Rattle.std.specs.Prelude.{ℕ, ◌+◌, max, min, List, slice_index, drop}
use Rattle.ce_rows.specs.Events.{Shared}
use Rattle.ce_rows.specs.declared.act.Act.{Act}
use Rattle.ce_rows.specs.declared.act.Act.TheVariants.{Loads, Relaxes, Shrinks, LoadsLow, LoadsHigh, Raises, Lowers}
use Rattle.ce_rows.specs.declared.act.Act.TheVariants.{LoadsShift, Asks, LoadsStop, Stops}

-- the shared state that words hold
abbrev pub shared_in : List ℕ → Shared
shared_in words = record {
  entries = drop 4 words;
  low = slice_index words 0;
  high = slice_index words 1;
  shift = slice_index words 2;
  stop = slice_index words 3;
}

-- the index of the word that an act is on
abbrev pub word_of : Act → ℕ
word_of (Loads i) = 4 + i
word_of (Relaxes i) = 4 + i
word_of (Shrinks i) = 4 + i
word_of LoadsLow = 0
word_of Raises = 0
word_of LoadsHigh = 1
word_of Lowers = 1
word_of LoadsShift = 2
word_of Asks = 2
word_of LoadsStop = 3
word_of Stops = 3

-- what an act that carries a number leaves in its word, where it finds x; this is its answer too
abbrev pub left_by : Act → ℕ → ℕ → ℕ
left_by (Relaxes i) number x = number
left_by (Shrinks i) number x = number
left_by Raises number x = max x number
left_by Lowers number x = min x number
left_by Asks number x = max x number
left_by Stops number x = max x number
left_by _ number x = x
