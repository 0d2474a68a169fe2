-- What one step does, and what it tells its caller: `MayStep` is what a seat owes for a step,
-- `Permits` what its view says of the shared state, and `IsStep` what the step did, the clause `step`
-- of the calls of the board. `IsSettled` is what remains once all seats are joined. Source: this
-- project's choice.
use Rattle.std.specs.Prelude.{◌≡◌, ⊤, ℕ, ◌<◌, ◌≤◌, ◌∷◌, length}
use Rattle.atomic_table.specs.Table.{Me, Step}
use Rattle.ce_cert.specs.Vectors.{IsVectorOf}
use Rattle.ce_rows.specs.Events.{Shared, after_act, answer_of}
use Rattle.ce_rows.specs.Rows.{EnclosesRows, IsLowerBoundOf, IsUpperBoundOf}
use Rattle.ce_rows.specs.SharedWords.{left_by}
use Rattle.ce_rows.specs.declared.act.Act.{Act}
use Rattle.ce_rows.specs.declared.act.Act.TheVariants.{Loads, Relaxes, Shrinks, Raises, Lowers, Asks, Stops}
use Rattle.ce_words.specs.Invariant.{IsGreatest, IsLeast, IsBehind, HoldsLast, most_rescalings}
use Rattle.ce_words.specs.Logs.{is_raise, is_lower, is_ask, is_stop, times, halts, in_part, by_place, Each}
use Rattle.ce_words.specs.Logs.{IsPossibleLog}
use Rattle.ce_words.specs.Views.{rows_of, kept, logged, noted, seen_low, seen_high}
use Rattle.ce_words.specs.declared.view.Role.TheVariants.{First}
use Rattle.ce_words.specs.declared.view.View.{View}
use Rattle.ce_rows.specs.Limits.{entry_limit}

-- Every seat that was split off was joined.
pub record IsWhole (v : View) : Type 0 where
  pub first : v.role ≡ First
  pub out : v.out ≡ 0

-- What the bounds are to a view to which every seat was joined: the best of the initial enclosure
-- and of all that any seat certified.
pub record IsSettled (v : View) (low high : ℕ) : Type 0 where
  pub greatest : IsGreatest v.run.initial.low (λ c. 0 < by_place (λ p. times is_raise c p.log) v) low
  pub least : IsLeast v.run.initial.high (λ c. 0 < by_place (λ p. times is_lower c p.log) v) high
  pub order : low ≤ high
  -- a log that found the stop word set stopped at equal bounds
  pub halted : 0 < by_place (λ p. halts p.log) v → low ≡ high
  pub low_seen : Each (λ p. (kept v.run p.log).low ≤ low) (v.place ∷ v.joined)
  pub high_seen : Each (λ p. high ≤ (kept v.run p.log).high) (v.place ∷ v.joined)
  pub logs : Each (IsPossibleLog v.run (λ g. by_place g v)) (v.place ∷ v.joined)

-- Where a log of a view found the stop word set, a log of the view set it.
abbrev pub WasSet : View → Type 0
WasSet v = 0 < by_place (λ p. halts p.log) v → 0 < by_place (λ p. times is_stop 1 p.log) v

-- What a view says of the shared state beside it.
pub record Permits (v : View) (s : Shared) : Type 0 where
  pub encloses : EnclosesRows (rows_of v.run) s.low s.high
  pub from : v.run.initial.low ≤ s.low
  pub to : s.high ≤ v.run.initial.high
  pub seen : Each (IsBehind v.run s) (v.place ∷ v.joined)
  pub raised : (c : ℕ) → 0 < by_place (λ p. times is_raise c p.log) v → c ≤ s.low
  pub lowered : (c : ℕ) → 0 < by_place (λ p. times is_lower c p.log) v → s.high ≤ c
  pub asked : (c : ℕ) → 0 < by_place (λ p. times is_ask c p.log) v → c ≤ s.shift
  pub few : s.shift ≤ most_rescalings
  pub vector : IsVectorOf (rows_of v.run) s.entries
  pub owned : Each (HoldsLast v.run s) (v.place ∷ v.joined)
  pub bit : s.stop ≤ 1
  pub set : 0 < by_place (λ p. times is_stop 1 p.log) v → s.stop ≡ 1
  pub equal : s.stop ≡ 1 → s.low ≡ s.high
  pub told : 0 < by_place (λ p. halts p.log) v → s.low ≡ s.high
  pub settled : IsWhole v → IsSettled v s.low s.high
  pub were_set : IsWhole v → WasSet v

-- A step of a seat with the view v: the shared state before it, which the view permits, answers as
-- the act of an event does and changes as it does, to one that the new view permits.
pub record IsStep (v : View) (act : Act) (carried answer : ℕ) : Type 0 where
  pub before : Shared
  pub permitted : Permits v before
  pub answers : answer ≡ answer_of before act carried
  pub permitted_after : Permits (noted v (logged act carried answer)) (after_act before act carried)

-- One interval lies inside another.
pub record LiesInside (low high inner_low inner_high : ℕ) : Type 0 where
  pub from : low ≤ inner_low
  pub to : inner_high ≤ high

-- A seat with the view v asked for so many rescalings, and has the view w now.
pub record HasAsked (v : View) (count : ℕ) (w : View) : Type 0 where
  pub answer : ℕ
  pub enough : count ≤ answer
  pub view_is : w ≡ noted v (logged Asks count answer)
  pub step : IsStep v Asks count answer

-- A seat may take a step: what it owes for it.
abbrev pub MayStep : View → Act → ℕ → Type 0
MayStep v (Loads i) carried = i < length v.run.rows
MayStep v (Relaxes i) carried = (in_part i v.place.part ≡ 1) × (1 ≤ carried) × (carried ≤ entry_limit)
MayStep v (Shrinks i) carried = (in_part i v.place.part ≡ 1) × (1 ≤ carried) × (carried ≤ entry_limit)
MayStep v Raises carried = IsLowerBoundOf (rows_of v.run) carried
MayStep v Lowers carried = IsUpperBoundOf (rows_of v.run) carried
MayStep v Asks carried = carried ≤ most_rescalings
MayStep v Stops carried = (carried ≡ 1) × (seen_low v ≡ seen_high v)
MayStep v _ carried = ⊤

-- a seat's view and its slots, of which it has none
abbrev pub Sat : Type 0
Sat = Me (Unit {0}) View

-- what a step tells its caller: of the step, the seat before, the number found and the seat after
abbrev pub Tells : Type 1
Tells = Step (Unit {0}) → Sat → ℕ → Sat → Type 0

abbrev pub told : Act → Tells
told act st m r w =
    let answer = left_by act st.first r in (w ≡ (noted m.0 (logged act st.first answer), m.1)) × IsStep m.0 act
    st.first answer
