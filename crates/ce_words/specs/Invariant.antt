-- What holds between any two steps on the shared state, whatever the schedule, point by point: of
-- the shared state and the views of all seats. `BoardInvariant` lists the points; that each step,
-- each split and each join keeps them is the law `steps_keep_the_invariant`, and what a seat knows
-- by them is `Permits` of specs/Steps.antt, by the law `steps_tell`. Source: this project's choice.
use Rattle.std.specs.Prelude.{◌≡◌, ℕ, ◌+◌, ◌<◌, ◌≤◌, ◌⊎◌, List, ◌∷◌, length, slice_index}
use mathlib.Core.Option.{some}
use lib.ListN.{get_elem?}
use Rattle.atomic_table.specs.Table.{State}
use Rattle.ce_cert.specs.Vectors.{IsVectorOf}
use Rattle.ce_rows.specs.Actors.{HasSeen}
use Rattle.ce_rows.specs.Events.{Shared}
use Rattle.ce_rows.specs.Rows.{EnclosesRows}
use Rattle.ce_rows.specs.SharedWords.{shared_in}
use Rattle.ce_words.specs.Logs.{total, is_raise, is_lower, is_ask, is_stop, times, halts, last_count, last_value}
use Rattle.ce_words.specs.Logs.{in_part}
use Rattle.ce_words.specs.Logs.{weigh, Each, IsPossibleLog}
use Rattle.ce_words.specs.Views.{rows_of, spent, kept, part}
use Rattle.ce_words.specs.declared.view.Run.{Run}
use Rattle.ce_words.specs.declared.view.Place.{Place}
use Rattle.ce_words.specs.declared.view.Role.{Role}
use Rattle.ce_words.specs.declared.view.Role.TheVariants.{First, Other, Spent}
use Rattle.ce_words.specs.declared.view.View.{View}

-- Something holds of each place of each view.
abbrev pub ForPlaces : (Place → Type 0) → List View → Type 0
ForPlaces P views = (j : ℕ) (v : View) → get_elem? views j ≡ some v → Each P (v.place ∷ v.joined)

-- A number is the greatest, or the least, of a start and of all that were offered.
pub record IsGreatest (start : ℕ) (offered : ℕ → Type 0) (a : ℕ) : Type 0 where
  pub from : start ≤ a
  pub all : (c : ℕ) → offered c → c ≤ a
  pub source : (a ≡ start) ⊎ offered a

pub record IsLeast (start : ℕ) (offered : ℕ → Type 0) (a : ℕ) : Type 0 where
  pub from : a ≤ start
  pub all : (c : ℕ) → offered c → a ≤ c
  pub source : (a ≡ start) ⊎ offered a

-- 1 for the first seat; 1 for a seat that is not spent
abbrev pub is_first : Role → ℕ
is_first First = 1
is_first _ = 0

abbrev pub is_live : Role → ℕ
is_live Spent = 0
is_live _ = 1

-- There is one first seat, and it has all other seats that are not spent out.
pub record HaveOneFirst (views : List View) : Type 0 where
  pub one : total (λ v. is_first v.role) views ≡ 1
  pub out : (j : ℕ) (v : View) → get_elem? views j ≡ some v → v.role ≡ First
      → total (λ v. is_live v.role) views ≡ v.out + 1

-- the greatest number of rescalings that may be asked for in a run
abbrev pub most_rescalings : ℕ
most_rescalings = 100000

-- The count of rescalings is the greatest of 0 and of all that were asked for.
pub record CountsAsked (s : Shared) (views : List View) : Type 0 where
  pub most : s.shift ≤ most_rescalings
  pub greatest : IsGreatest 0 (λ c. 0 < weigh (λ p. times is_ask c p.log) views) s.shift

-- The stop word is 0, or 1 where a log set it. Where a log found it set, it is 1; and where it is 1,
-- the bounds are equal.
pub record StopsEqual (s : Shared) (views : List View) : Type 0 where
  pub bit : s.stop ≤ 1
  pub best : IsGreatest 0 (λ c. 0 < weigh (λ p. times is_stop c p.log) views) s.stop
  pub found : 0 < weigh (λ p. halts p.log) views → s.stop ≡ 1
  pub equal : s.stop ≡ 1 → s.low ≡ s.high

module _ (run : Run) where
  -- All live views have the run, and the others are spent.
  abbrev pub Belongs : Role → View → Type 0
  Belongs First v = v.run ≡ run
  Belongs Other v = v.run ≡ run
  Belongs Spent v = v ≡ spent

  abbrev pub HaveOneRun : List View → Type 0
  HaveOneRun views = (j : ℕ) (v : View) → get_elem? views j ≡ some v → Belongs v.role v

  -- The bounds are the best of the initial enclosure and of all that logs certified.
  pub record AreBest (s : Shared) (views : List View) : Type 0 where
    pub low : IsGreatest run.initial.low (λ c. 0 < weigh (λ p. times is_raise c p.log) views) s.low
    pub high : IsLeast run.initial.high (λ c. 0 < weigh (λ p. times is_lower c p.log) views) s.high

  -- The shared state has not gone back behind what a log saw.
  pub record IsBehind (s : Shared) (p : Place) : Type 0 where
    pub bounds : HasSeen s (kept run p.log)
    pub count : last_count 0 p.log ≤ s.shift

  -- Each entry of the place's part holds the last value that the place's log stored there.
  abbrev pub HoldsLast : Shared → Place → Type 0
  HoldsLast s p = (e : ℕ) → in_part e p.part ≡ 1
      → slice_index s.entries e ≡ last_value e (slice_index run.start e) p.log

  -- Each entry has one owner, and holds the last of its owner's values, from 1 to 2^60.
  pub record HaveOwners (s : Shared) (views : List View) : Type 0 where
    pub owner : (e : ℕ) → weigh (λ p. in_part e p.part) views ≡ in_part e (part 0 (length run.rows))
    pub last : ForPlaces (HoldsLast s) views
    pub vector : IsVectorOf (rows_of run) s.entries

  pub record BoardInvariant (s : Shared) (views : List View) : Type 0 where
    -- one problem: rows, ranks, start and initial enclosure are the same for all seats
    pub same_graph : HaveOneRun views
    -- the two bounds enclose the growth rate of the rows
    pub bounds_enclose : EnclosesRows (rows_of run) s.low s.high
    -- they are the best of the initial enclosure and of all that was certified
    pub bounds_are_best : AreBest s views
    -- no word went back behind what a log saw there
    pub answers_are_behind : ForPlaces (IsBehind s) views
    -- each answer in a log is one that its word may have given there
    pub logs_are_possible : ForPlaces (IsPossibleLog run (λ g. weigh g views)) views
    -- each entry has one owner, and is what its owner stored last
    pub entries_have_owners : HaveOwners s views
    -- the count of rescalings is the greatest that was asked for
    pub rescale_count : CountsAsked s views
    -- the stop word is set by a log, and only where the bounds are equal
    pub stop_means_equal : StopsEqual s views
    -- one first seat, which counts the others
    pub one_first_seat : HaveOneFirst views

  -- The words of a table hold a shared state with the invariant.
  pub record HoldsInvariant (t : State (Unit {0}) View) : Type 0 where
    pub wide : length t.words ≡ 4 + length run.rows
    pub holds : BoardInvariant (shared_in t.words) t.views
