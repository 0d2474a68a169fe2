-- How a log of one place halts.
use Rattle.std.proofs.Common.{◌≡◌, ℕ, zero, suc, ◌+◌, ◌<◌, inl, inr, List, [], ◌∷◌, ◌++◌, length, refl, sym, ap, ◌∙◌}
use Rattle.std.proofs.Common.{subst, arith}
use Rattle.ce_rows.specs.Actors.{ActorState}
use Rattle.ce_rows.specs.declared.act.Act.{Act}
use Rattle.ce_rows.specs.declared.act.Act.TheVariants.{Raises, Lowers, LoadsLow, LoadsHigh, LoadsStop, Stops}
use Rattle.ce_rows.specs.declared.act.LogEntry.{LogEntry}
use Rattle.ce_words.specs.Invariant.{IsGreatest}
use Rattle.ce_words.specs.Logs.{is_raise, is_stop, times, halts, EachFits}
use Rattle.ce_words.specs.Views.{kept, logged}
use Rattle.ce_words.specs.declared.view.Part.{Part}
use Rattle.ce_words.specs.declared.view.Place.{Place}
use Rattle.ce_words.specs.declared.view.Run.{Run}
use Rattle.ce_words.proofs.Logs.{times-snoc, halts-snoc}
use Rattle.ce_words.proofs.Seats.{greatest_as}
use Rattle.ce_crew.specs.MachineSteps.{acts_of}
use Rattle.ce_crew.specs.Turn.{IsHalt, IsTurn, entries_between, loads_of, opening_of, greatest_relaxed}
use Rattle.ce_crew.specs.WorkerLogs.{IsTurns}
use Rattle.ce_crew.proofs.BestVectors.{NoneIs, times-append, times_none}
use Rattle.ce_crew.proofs.Turns.{CertifiesNothing, none-append, none_in_loads, none_in_sweep, none_in_rescaling}
use Rattle.ce_crew.proofs.LoneSteps.{EachFits-split, IsOffered, FitsAlone, one_greatest, only_greatest}

-- the acts of a turn but its offers set no stop word
sets_nothing : CertifiesNothing is_stop
sets_nothing = record { loads = λ j. refl; relaxes = λ j. refl; shrinks = λ j. refl; asks = refl }

none_set : (steps : List LogEntry) (acts : List Act) → acts_of steps ≡ acts → NoneIs is_stop acts
    → times is_stop 1 steps ≡ 0
none_set steps acts are none = times_none is_stop 1 steps (subst (NoneIs is_stop) (sym are) none)

module _ (run : Run) (p : Part) where
  turn_sets_nothing : (made : ℕ) (own : ActorState) (turn : List LogEntry) → IsTurn run p made own turn
      → times is_stop 1 turn ≡ 0
  turn_sets_nothing made own turn t =
      let opening = opening_of t.low t.high t.asked in
      let entries = entries_between 0 (length run.rows) in
      let offers = none-append is_stop (loads_of entries) (Raises ∷ Lowers ∷ [])
      (none_in_loads is_stop sets_nothing entries) (refl, (refl, tt)) in
      let a = times_none is_stop 1 opening (refl, (refl, (refl, (refl, tt)))) in
      let b = none_set t.relaxing _ t.relaxes
      (none_in_sweep is_stop sets_nothing run (entries_between p.from p.to)) in
      let c = none_set t.rescaling _ refl (none_in_rescaling is_stop sets_nothing p made t.asked
      (greatest_relaxed t.relaxing) (acts_of t.rescaling) t.rescales) in
      let d = none_set t.closing _ t.closes offers in
      let whole = ap (times is_stop 1) t.parts in
      omega (
        arith,
        whole,
        a,
        b,
        c,
        d,
        times-append is_stop 1 opening (t.relaxing ++ (t.rescaling ++ t.closing)),
        times-append is_stop 1 t.relaxing (t.rescaling ++ t.closing),
        times-append is_stop 1 t.rescaling t.closing,
      )

  turns_set_nothing : (turns : ℕ) (log : List LogEntry) (made : ℕ) → IsTurns run p turns log made
      → times is_stop 1 log ≡ 0
  turns_set_nothing zero log made h = ap (times is_stop 1) h.0
  turns_set_nothing (suc turns) log made h =
      let rest = turns_set_nothing turns h.before h.made_before h.turns in
      let here = turn_sets_nothing h.made_before (kept run h.before) h.turn h.is_turn in
      let whole = ap (times is_stop 1) h.log_is in
      omega (arith, whole, rest, here, times-append is_stop 1 h.before h.turn)

-- the halt of a log that saw equal bounds, and set the stop word
abbrev pub own_halt : ℕ → List LogEntry
own_halt bound =
    logged LoadsStop 0 0 ∷ logged LoadsLow 0 bound ∷ logged LoadsHigh 0 bound ∷ logged Stops 1 1 ∷ []

-- A log with nobody else halts in one way: no step before its halt set the stop word, so it saw equal
-- bounds, and these are the closing ones.
pub lone_halt : (run : Run) (q : Place) (p : Part) (done made low : ℕ) (before halt : List LogEntry)
    → IsTurns run p done before made → q.log ≡ before ++ halt → EachFits (FitsAlone run q) [] q.log
    → IsGreatest run.initial.low (λ c. 0 < times is_raise c before) low
    → (0 < halts q.log → 0 < times is_stop 1 q.log) → IsHalt halt → halt ≡ own_halt low
lone_halt run q p done made low before halt turned log fits best set (inl one) =
    let found = logged LoadsStop 0 1 in
    let whole = log ∙ ap (λ (l : List LogEntry). before ++ l) one in
    let many : halts q.log ≡ halts before + 1 = ap halts whole ∙ halts-snoc before found in
    let none : times is_stop 1 q.log ≡ times is_stop 1 before + 0 =
    ap (times is_stop 1) whole ∙ times-snoc is_stop 1 before found in
    let was = set (omega (arith, many)) in
    absurd (omega (arith, was, none, turns_set_nothing run p done before made turned))
lone_halt run q p done made low before halt turned log fits best set (inr two) =
    let look = logged LoadsStop 0 0 in
    let whole = log ∙ ap (λ (l : List LogEntry). before ++ l) two.1 in
    let ends = (EachFits-split (FitsAlone run q) [] before (own_halt two.0)
    (subst (λ (l : List LogEntry). EachFits (FitsAlone run q) [] l) whole fits)).1 in
    let same : (c : ℕ) → times is_raise c (before ++ look ∷ []) ≡ times is_raise c before =
    λ c. omega (arith, times-snoc is_raise c before look) in
    let seen = greatest_as run.initial.low (IsOffered is_raise (before ++ look ∷ []) LoadsLow 0)
    (λ c. 0 < times is_raise c before) two.0 (λ c l. omega (arith, l, same c)) (λ c l. omega (arith, l, same c))
    (only_greatest run q (before ++ look ∷ []) is_raise LoadsLow run.initial.low
    (kept run (before ++ look ∷ [])).low 0 two.0 ends.1.0) in
    two.1 ∙ ap own_halt (one_greatest run.initial.low two.0 low (λ c. 0 < times is_raise c before) seen best)
