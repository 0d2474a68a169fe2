-- What logs say, and which answers are possible in them. Sums over logs count: a number was offered
-- where its sum is positive. `IsPossibleLog` says of the log of a place that each of its answers is
-- possible among the logs over which a sum goes. Sources: [ChazanMiranker1969] for the asynchronous
-- iteration; the words are this project's choice.
use Rattle.std.specs.Prelude.{◌≡◌, ℕ, ◌+◌, ◌*◌, ◌<◌, ◌≤◌, ◌⊎◌, ⊤, Bool, true, false, if◌then◌else◌, ◌==◌, nat_lt, List}
use Rattle.std.specs.Prelude.{[], ◌∷◌, ◌++◌, slice_index}
use Rattle.ce_rows.specs.declared.act.Act.{Act}
use Rattle.ce_rows.specs.declared.act.Act.TheVariants.{Loads, Relaxes, Shrinks, LoadsLow, LoadsHigh, Raises, Lowers}
use Rattle.ce_rows.specs.declared.act.Act.TheVariants.{LoadsShift, Asks, LoadsStop, Stops}
use Rattle.ce_rows.specs.declared.act.LogEntry.{LogEntry}
use Rattle.ce_words.specs.Views.{kept}
use Rattle.ce_words.specs.declared.view.Run.{Run}
use Rattle.ce_words.specs.declared.view.Part.{Part}
use Rattle.ce_words.specs.declared.view.Place.{Place}
use Rattle.ce_words.specs.declared.view.View.{View}

-- acts that offer a low bound, a high bound, a count of rescalings, or a set stop word
abbrev pub is_raise : Act → Bool
is_raise Raises = true
is_raise _ = false

abbrev pub is_lower : Act → Bool
is_lower Lowers = true
is_lower _ = false

abbrev pub is_ask : Act → Bool
is_ask Asks = true
is_ask _ = false

abbrev pub is_stop : Act → Bool
is_stop Stops = true
is_stop _ = false

-- whether an act stores to the entry e
abbrev pub stores_to : ℕ → Act → Bool
stores_to e (Relaxes i) = i == e
stores_to e (Shrinks i) = i == e
stores_to e _ = false

-- the sum of f over a list
abbrev pub total : {A : Type 0} → (A → ℕ) → List A → ℕ
total f [] = 0
total f (x ∷ xs) = f x + total f xs

-- 1 where a step of a kind carries the number c
abbrev pub offer : (Act → Bool) → ℕ → LogEntry → ℕ
offer is c n = if is n.act then (if n.carried == c then 1 else 0) else 0

-- how often the steps of a kind in a log carried the number c
abbrev pub times : (Act → Bool) → ℕ → List LogEntry → ℕ
times is c log = total (offer is c) log

-- looks at the stop word; 1 where a step found it set; how often a log did
abbrev pub is_look : Act → Bool
is_look LoadsStop = true
is_look _ = false

abbrev pub halt : LogEntry → ℕ
halt n = if is_look n.act then n.answer else 0

abbrev pub halts : List LogEntry → ℕ
halts log = total halt log

-- the count of rescalings that a log was last answered, where it was s before
abbrev pub count_by : Act → ℕ → ℕ → ℕ
count_by LoadsShift answer s = answer
count_by Asks answer s = answer
count_by _ answer s = s

abbrev pub last_count : ℕ → List LogEntry → ℕ
last_count s [] = s
last_count s (n ∷ ns) = last_count (count_by n.act n.answer s) ns

-- the value of the entry e after the stores of a log, where it was x before
abbrev pub last_value : ℕ → ℕ → List LogEntry → ℕ
last_value e x [] = x
last_value e x (n ∷ ns) = last_value e (if stores_to e n.act then n.answer else x) ns

-- 1 where a step stores the value x to the entry e; how often a log did
abbrev pub store_mark : ℕ → ℕ → LogEntry → ℕ
store_mark e x n = if stores_to e n.act then (if n.answer == x then 1 else 0) else 0

abbrev pub stores : ℕ → ℕ → List LogEntry → ℕ
stores e x log = total (store_mark e x) log

-- 1 where a part has the entry e
abbrev pub in_part : ℕ → Part → ℕ
in_part e p = if nat_lt e p.from then 0 else (if nat_lt e p.to then 1 else 0)

-- The sum over the places of a view, and of all views.
abbrev pub by_place : (Place → ℕ) → View → ℕ
by_place g v = g v.place + total g v.joined

abbrev pub weigh : (Place → ℕ) → List View → ℕ
weigh g views = total (by_place g) views

-- Something holds of each.
abbrev pub Each : {A : Type 0} → (A → Type 0) → List A → Type 0
Each P [] = ⊤
Each P (x ∷ xs) = P x × Each P xs

-- Each step fits the log before it.
abbrev pub EachFits : (List LogEntry → LogEntry → Type 0) → List LogEntry → List LogEntry → Type 0
EachFits P before [] = ⊤
EachFits P before (n ∷ ns) = P before n × EachFits P (before ++ n ∷ []) ns

-- An answer of a word that only rises: it is at least the word's start, what was last seen there
-- and all that the log itself offered so far, and it is one of the start, these numbers and those
-- that others offer.
pub record AnswersUp (start seen : ℕ) (mine theirs : ℕ → Type 0) (answer : ℕ) : Type 0 where
  pub from : start ≤ answer
  pub after : seen ≤ answer
  pub own : (c : ℕ) → mine c → c ≤ answer
  pub source : (answer ≡ start) ⊎ (mine answer ⊎ theirs answer)

-- An answer of a word that only falls.
pub record AnswersDown (start seen : ℕ) (mine theirs : ℕ → Type 0) (answer : ℕ) : Type 0 where
  pub from : answer ≤ start
  pub after : answer ≤ seen
  pub own : (c : ℕ) → mine c → answer ≤ c
  pub source : (answer ≡ start) ⊎ (mine answer ⊎ theirs answer)

module _ (run : Run) where
  -- how often the owner's entry e had the value x, its start counted
  abbrev pub had : ℕ → ℕ → Place → ℕ
  had e x p = in_part e p.part * ((if slice_index run.start e == x then 1 else 0) + stores e x p.log)

  -- The answer of an act fits the log before it. The first three say what other logs offer for the
  -- low bound, the high bound and the count of rescalings, and the fourth which values an entry
  -- had; `upto` is the log with this step.
  abbrev pub AnswerFits : (ℕ → Type 0) → (ℕ → Type 0) → (ℕ → Type 0) → (ℕ → ℕ → Type 0) → Part → List LogEntry → Act
      → ℕ → List LogEntry → Type 0
  AnswerFits low high count value p before LoadsLow a upto = AnswersUp run.initial.low (kept run before).low
      (λ c. 0 < times is_raise c upto) low a
  AnswerFits low high count value p before Raises a upto = AnswersUp run.initial.low (kept run before).low
      (λ c. 0 < times is_raise c upto) low a
  AnswerFits low high count value p before LoadsHigh a upto = AnswersDown run.initial.high (kept run before).high
      (λ c. 0 < times is_lower c upto) high a
  AnswerFits low high count value p before Lowers a upto = AnswersDown run.initial.high (kept run before).high
      (λ c. 0 < times is_lower c upto) high a
  AnswerFits low high count value p before LoadsShift a upto = AnswersUp 0 (last_count 0 before)
      (λ c. 0 < times is_ask c upto) count a
  AnswerFits low high count value p before Asks a upto = AnswersUp 0 (last_count 0 before)
      (λ c. 0 < times is_ask c upto) count a
  AnswerFits low high count value p before (Loads e) a upto = value e a ×
      (in_part e p ≡ 1 → a ≡ last_value e (slice_index run.start e) before)
  AnswerFits low high count value p before _ a upto = ⊤

  -- All answers in the log of a place are possible among places over which `sum` sums.
  abbrev pub IsPossibleLog : ((Place → ℕ) → ℕ) → Place → Type 0
  IsPossibleLog sum p = EachFits (λ before n. AnswerFits
      (λ c. times is_raise c p.log < sum (λ q. times is_raise c q.log))
      (λ c. times is_lower c p.log < sum (λ q. times is_lower c q.log))
      (λ c. times is_ask c p.log < sum (λ q. times is_ask c q.log)) (λ e x. 0 < sum (had e x)) p.part before n.act
      n.answer (before ++ n ∷ [])) [] p.log
