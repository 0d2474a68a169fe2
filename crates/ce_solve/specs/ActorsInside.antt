-- What hiring actors, joining them and closing a run keep: what stands for one worker's end, for the
-- best ends so far, and for a list of actors before, while and after they run.
use Rattle.std.specs.Prelude.{◌≡◌, ℕ, ◌+◌, ◌<◌, ◌≤◌, ⊤, List, [], ◌∷◌, length}
use mathlib.Core.Option.{some}
use lib.ListN.{get_elem?}
use Rattle.ce_cert.specs.Certificate.{IsCertificate}
use Rattle.ce_cert.specs.Evidence.{evidence_in}
use Rattle.ce_cert.specs.Quotients.{low_rank_of}
use Rattle.ce_cert.specs.Vectors.{IsVectorOf}
use Rattle.ce_words.specs.Logs.{Each}
use Rattle.ce_words.specs.Steps.{LiesInside}
use Rattle.ce_words.specs.Views.{rows_of}
use Rattle.ce_words.specs.declared.board.Board.{Board}
use Rattle.ce_words.specs.declared.view.Place.{Place}
use Rattle.ce_words.specs.declared.view.Run.{Run}
use Rattle.ce_live.specs.Sessions.{SessionState}
use Rattle.ce_live.specs.declared.reading.Reading.{Reading}
use Rattle.ce_crew.specs.Rooms.{AreBoundsOf}
use Rattle.ce_crew.specs.declared.room.WorkEnd.{WorkEnd}
use Rattle.ce_solve.specs.Actors.{HasRun, IsHiredWorker, IsOverSession}
use Rattle.ce_solve.specs.ChaoticRun.{HasKnownEnds, IsRun, part_of}
use Rattle.ce_solve.specs.ClosingVectors.{IsClosingLow, IsClosingHigh}
use Rattle.ce_solve.specs.declared.collecting.Solved.{Solved}
use Rattle.ce_solve.specs.declared.crew.Actor.{Actor}
use Rattle.ce_solve.specs.declared.crew.Actor.TheVariants.{Worker as AWorker, Session as ASession}

-- The best ends so far: vectors of the run, and the bounds of each.
pub record AreEndsOf (run : Run) (e : WorkEnd) : Type 0 where
  pub low_vector : IsVectorOf (rows_of run) e.low_vector.items
  pub low : AreBoundsOf run e.low_vector.items e.low
  pub high_vector : IsVectorOf (rows_of run) e.high_vector.items
  pub high : AreBoundsOf run e.high_vector.items e.high

-- One end is what another one is, where a bound is strictly better, and what it was elsewhere.
pub record IsBetterOf (best other e : WorkEnd) : Type 0 where
  pub low_new : best.low.low < other.low.low → (e.low ≡ other.low) × (e.low_vector.items ≡ other.low_vector.items)
  pub low_same : other.low.low ≤ best.low.low → (e.low ≡ best.low) × (e.low_vector.items ≡ best.low_vector.items)
  pub high_new : other.high.high < best.high.high
      → (e.high ≡ other.high) × (e.high_vector.items ≡ other.high_vector.items)
  pub high_same : best.high.high ≤ other.high.high
      → (e.high ≡ best.high) × (e.high_vector.items ≡ best.high_vector.items)

-- The best ends of logs.
pub record AreClosingEnds (run : Run) (beginning : List ℕ) (places : List Place) (e : WorkEnd) : Type 0 where
  pub ends : AreEndsOf run e
  pub low : IsClosingLow run run.initial.low beginning places e.low.low e.low_vector.items
  pub high : IsClosingHigh run run.initial.high beginning places e.high.high e.high_vector.items

-- The best ends, once an actor was joined.
abbrev pub IsBestWith : Actor → WorkEnd → WorkEnd → Type 0
IsBestWith (AWorker w) best e = (other : WorkEnd) × IsBetterOf best other e
    × (other.low ≡ w.room.low) × (other.low_vector.items ≡ w.room.low_vector.items)
    × (other.high ≡ w.room.high) × (other.high_vector.items ≡ w.room.high_vector.items)
IsBestWith (ASession s) best e = e ≡ best

-- A session before its first reading.
pub record IsSeatedSession (b : Board) (r : ℕ) (s : SessionState) : Type 0 where
  pub over : IsOverSession b s
  pub reads : s.room.reads ≡ r
  pub none : s.room.readings ≡ []

abbrev pub IsHired : Board → List ℕ → ℕ → ℕ → Actor → Type 0
IsHired b beginning turns reads (AWorker w) = IsHiredWorker b beginning turns w
IsHired b beginning turns reads (ASession s) = IsSeatedSession b reads s

-- The last workers of so many, from one on, by their numbers.
abbrev pub ArePartsFrom : ℕ → ℕ → ℕ → List Place → Type 0
ArePartsFrom entries workers first places =
    (k : ℕ) (p : Place) → get_elem? places k ≡ some p → p.part ≡ part_of entries workers (first + k)

-- Two lists of actors, before and after their runs.
abbrev pub HaveRun : Board → List Actor → List Actor → Type 0
HaveRun b [] [] = ⊤
HaveRun b (x ∷ xs) (y ∷ ys) = HasRun b x y × HaveRun b xs ys
HaveRun b _ _ = ⊥

-- how many sessions are among actors
abbrev pub sessions_in : List Actor → ℕ
sessions_in [] = 0
sessions_in (AWorker w ∷ actors) = sessions_in actors
sessions_in (ASession s ∷ actors) = sessions_in actors + 1

-- The sessions among actors are numbered from a number on, as they come.
abbrev pub AreSessionsFrom : ℕ → List Actor → Type 0
AreSessionsFrom first [] = ⊤
AreSessionsFrom first (AWorker w ∷ actors) = AreSessionsFrom first actors
AreSessionsFrom first (ASession s ∷ actors) = (s.session ≡ first) × AreSessionsFrom (first + 1) actors

-- What was solved is the closing of a run, whose initial enclosure has a vector.
pub record IsClosingOf (run : Run) (turns workers : ℕ) (beginning : List ℕ) (s : Solved) : Type 0 where
  pub places : List Place
  pub all_workers : length places ≡ workers
  pub is_run : IsRun run turns places s.certificate.low s.certificate.high
  pub certificate : IsCertificate (rows_of run) (evidence_in s.certificate)
  pub ranks : s.certificate.ranks.items ≡ run.ranks
  pub low_rank : s.certificate.low_rank ≡ low_rank_of (rows_of run) run.ranks s.certificate.low_vector.items
  pub low_vector : IsClosingLow run run.initial.low beginning places s.certificate.low s.certificate.low_vector.items
  pub high_vector : IsClosingHigh run run.initial.high beginning places s.certificate.high
      s.certificate.high_vector.items
  pub contain : Each
      (λ (r : Reading). LiesInside r.interval.low r.interval.high s.certificate.low s.certificate.high) s.readings.items
  pub inside_initial : Each
      (λ (r : Reading). LiesInside run.initial.low run.initial.high r.interval.low r.interval.high) s.readings.items
  pub ends : Each (λ (r : Reading). HasKnownEnds run places r.interval.low r.interval.high) s.readings.items
