-- One turn of a worker: one sweep of the asynchronous iteration over the worker's part of the
-- vector, and the bounds of what it then finds in the whole vector. Sources: [ChazanMiranker1969] for
-- the iteration, [Collatz1942] and [Wielandt1950] for the bounds; the order of the steps and the
-- rescaling are this project's choice.
use Rattle.std.specs.Prelude.{◌≡◌, ◌≢◌, ℕ, ◌+◌, ◌-◌, ◌^◌, ◌<◌, ◌≤◌, ◌⊎◌, max, nat_lt, if◌then◌else◌, List, [], ◌∷◌}
use Rattle.std.specs.Prelude.{◌++◌, length, map}
use Rattle.std.specs.List.{range_with_len, flat_map}
use Rattle.ce_rows.specs.Actors.{ActorState}
use Rattle.ce_rows.specs.Blocks.{block_images}
use Rattle.ce_rows.specs.declared.act.Act.{Act}
use Rattle.ce_rows.specs.declared.act.Act.TheVariants.{Loads, Relaxes, Shrinks, LoadsLow, LoadsHigh, Raises, Lowers}
use Rattle.ce_rows.specs.declared.act.Act.TheVariants.{LoadsShift, Asks, LoadsStop, Stops}
use Rattle.ce_rows.specs.declared.act.LogEntry.{LogEntry}
use Rattle.ce_words.specs.Views.{logged}
use Rattle.ce_words.specs.declared.view.Part.{Part}
use Rattle.ce_words.specs.declared.view.Run.{Run}
use Rattle.ce_crew.specs.MachineSteps.{acts_of, AreMachineSteps}

-- the entries from one up to but without another, in ascending order
abbrev pub entries_between : ℕ → ℕ → List ℕ
entries_between from to = range_with_len from (to - from)

-- loads of entries
abbrev pub loads_of : List ℕ → List Act
loads_of entries = map (λ j. Loads j) entries

-- A turn begins with a look at the stop word, which is not set, at both bounds, and at the count of
-- rescalings that were asked for.
abbrev pub opening_of : ℕ → ℕ → ℕ → List LogEntry
opening_of low high asked =
    logged LoadsStop 0 0 ∷ logged LoadsLow 0 low ∷ logged LoadsHigh 0 high ∷ logged LoadsShift 0 asked ∷ []

-- a stored relaxed value; of other steps 0
abbrev pub relaxed_by : Act → ℕ → ℕ
relaxed_by (Relaxes _) answer = answer
relaxed_by _ _ = 0

-- the greatest relaxed value of some steps
abbrev pub greatest_relaxed : List LogEntry → ℕ
greatest_relaxed [] = 0
greatest_relaxed (step ∷ steps) = max (relaxed_by step.act step.answer) (greatest_relaxed steps)

-- how many rescalings of its part a worker has made after a turn, of which so many were made before
-- the turn, and so many had been asked for
abbrev pub rescalings_after : ℕ → ℕ → ℕ
rescalings_after made asked = if nat_lt made asked then made + 1 else made

-- a value from which on a rescaling is asked for
abbrev pub great_entry : ℕ
great_entry = 2 ^ 59

-- The part is rescaled, where more rescalings were asked for than were made; otherwise one is asked
-- for, where a value that was just stored is a great one; otherwise nothing is done.
pub record IsRescaling (p : Part) (made asked greatest : ℕ) (acts : List Act) : Type 0 where
  pub rescales : made < asked → acts ≡ map (λ j. Shrinks j) (entries_between p.from p.to)
  pub asks : asked ≤ made → great_entry ≤ greatest → acts ≡ Asks ∷ []
  pub rests : asked ≤ made → greatest < great_entry → acts ≡ []

module _ (run : Run) where
  -- An entry is relaxed: it is loaded, its images in its block are loaded, each once, and then its
  -- relaxed value is stored.
  abbrev pub relaxing_acts : ℕ → List Act
  relaxing_acts i = Loads i ∷ (loads_of (block_images run.rows run.ranks i) ++ Relaxes i ∷ [])

  -- the whole vector is loaded, and then its bounds are offered
  abbrev pub closing_acts : List Act
  closing_acts = loads_of (entries_between 0 (length run.rows)) ++ Raises ∷ Lowers ∷ []

  -- One turn of the owner of a part, who keeps `own` and has made so many rescalings.
  pub record IsTurn (p : Part) (made : ℕ) (own : ActorState) (turn : List LogEntry) : Type 0 where
    pub low : ℕ
    pub high : ℕ
    pub asked : ℕ
    pub relaxing : List LogEntry
    pub rescaling : List LogEntry
    pub closing : List LogEntry
    pub parts : turn ≡ opening_of low high asked ++ (relaxing ++ (rescaling ++ closing))
    pub apart : low ≢ high
    pub relaxes : acts_of relaxing ≡ flat_map relaxing_acts (entries_between p.from p.to)
    pub rescales : IsRescaling p made asked (greatest_relaxed relaxing) (acts_of rescaling)
    pub closes : acts_of closing ≡ closing_acts
    pub steps : AreMachineSteps run own turn

-- A halt: the stop word is set, or the bounds are equal, and then the stop word is set.
abbrev pub IsHalt : List LogEntry → Type 0
IsHalt halt =
    (halt ≡ logged LoadsStop 0 1 ∷ [])
    ⊎ ((bound : ℕ) × (halt ≡ logged LoadsStop 0 0 ∷ logged LoadsLow 0 bound ∷ logged LoadsHigh 0 bound ∷ logged
    Stops 1 1 ∷ []))
