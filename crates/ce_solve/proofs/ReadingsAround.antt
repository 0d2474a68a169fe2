-- Readings contain the closing interval, since they never widen.
use Rattle.std.proofs.Common.{ℕ, ◌≤◌, List, [], ◌∷◌, subst, arith}
use Rattle.ce_rows.specs.Actors.{ActorState, after_answer, actor_after, actor_at_start}
use Rattle.ce_rows.specs.declared.act.Act.TheVariants.{LoadsLow, LoadsHigh}
use Rattle.ce_rows.specs.declared.act.LogEntry.{LogEntry}
use Rattle.ce_words.specs.Logs.{Each}
use Rattle.ce_words.specs.Steps.{LiesInside}
use Rattle.ce_words.specs.Views.{kept}
use Rattle.ce_words.specs.declared.view.Place.{Place}
use Rattle.ce_words.specs.declared.view.Run.{Run}
use Rattle.ce_words.proofs.Sums.{Each-append}
use Rattle.ce_live.specs.Sessions.{read_log, NeverWiden}
use Rattle.ce_live.specs.declared.reading.Reading.{Reading}
use Rattle.ce_solve.specs.Actors.{IsTold, places_of, readings_of}
use Rattle.ce_solve.specs.declared.crew.Actor.{Actor}
use Rattle.ce_solve.specs.declared.crew.Actor.TheVariants.{Worker as AWorker, Session as ASession}

-- what is left after a reading
abbrev pub after_reading : ActorState → Reading → ActorState
after_reading own r = after_answer (after_answer own LoadsLow r.interval.low) LoadsHigh r.interval.high

last_inside : (x y : ℕ) (own : ActorState) (rs : List Reading) → x ≤ own.low → own.high ≤ y
    → Each (λ q. LiesInside x y q.interval.low q.interval.high) rs
    → (x ≤ (actor_after own (read_log rs)).low) × ((actor_after own (read_log rs)).high ≤ y)
last_inside x y own [] low high each = (low, high)
last_inside x y own (r ∷ rs) low high each = last_inside x y (after_reading own r) rs each.0.from each.0.to each.1

around : (own : ActorState) (l h : ℕ) (rs : List Reading) → NeverWiden rs → (actor_after own (read_log rs)).low ≤ l
    → h ≤ (actor_after own (read_log rs)).high → Each (λ q. LiesInside q.interval.low q.interval.high l h) rs
around own l h [] n low high = tt
around own l h (r ∷ rs) n low high =
    let last = last_inside r.interval.low r.interval.high (after_reading own r) rs (omega arith) (omega arith) n.0 in (
      record { from = let a = last.0 in omega arith; to = let a = last.1 in omega arith },
      around
          (after_reading own r) l h rs n.1 low high,
    )

pub readings_around : (run : Run) (l h : ℕ) (actors : List Actor) → Each IsTold actors
    → Each (λ (p : Place). (kept run p.log).low ≤ l) (places_of actors)
    → Each (λ (p : Place). h ≤ (kept run p.log).high) (places_of actors)
    → Each (λ q. LiesInside q.interval.low q.interval.high l h) (readings_of actors)
readings_around run l h [] told low high = tt
readings_around run l h (AWorker w ∷ actors) told low high = readings_around run l h actors told.1 low.1 high.1
readings_around run l h (ASession s ∷ actors) told low high =
    let log = told.0.log in
    let a : (actor_after (actor_at_start run.start run.initial.low run.initial.high)
    (read_log s.room.readings)).low ≤ l = subst (λ (x : List LogEntry). (kept run x).low ≤ l) log low.0 in
    let b : h ≤ (actor_after (actor_at_start run.start run.initial.low run.initial.high)
    (read_log s.room.readings)).high = subst (λ (x : List LogEntry). h ≤ (kept run x).high) log high.0 in
    Each-append (λ (q : Reading). LiesInside q.interval.low q.interval.high l h) s.room.readings (readings_of actors)
    (around (actor_at_start run.start run.initial.low run.initial.high) l h s.room.readings told.0.never_widen a b)
    (readings_around run l h actors told.1 low.1 high.1)
