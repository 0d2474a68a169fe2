-- Actors of a run: workers and sessions on one board. Source: this project's choice.
--
-- CanRun, HasRun          what an actor is before and after its run
-- worker_places           the parts and logs of the workers, in their order
-- readings_of             the readings of the sessions, by session
-- IsHiredWorker           a worker before its first turn
-- IsFirstBelow            the first seat, while it hands out parts from the upper end
-- IsFirstSeat, IsOver     what is joined at the end: the first seat, and actors whose run is over
-- IsTold                  a session's log is its readings, which are numbered and never widen
-- IsInitialCertificate    the certificate of the initial enclosure
use Rattle.std.specs.Prelude.{◌≡◌, ℕ, ◌-◌, ◌⊎◌, ⊤, true, List, [], ◌∷◌, ◌++◌, length, map}
use Rattle.ce_cert.specs.declared.certificate.Certificate.{Certificate}
use Rattle.ce_cert.specs.Vectors.{IsVectorOf}
use Rattle.atomic_table.specs.declared.shared.Seat.{Seat}
use Rattle.ce_words.specs.Seats.{Sits, board_run}
use Rattle.ce_words.specs.Views.{view, viewed, rows_of}
use Rattle.ce_words.specs.declared.view.Run.{Run}
use Rattle.ce_words.specs.declared.board.Board.{Board}
use Rattle.ce_words.specs.declared.view.Place.{Place}
use Rattle.ce_words.specs.declared.view.View.{View}
use Rattle.ce_words.specs.declared.view.Role.TheVariants.{First, Other}
use Rattle.ce_live.specs.Sessions.{SessionState, read_log, AreNumbered, NeverWiden}
use Rattle.ce_live.specs.declared.reading.Reading.{Reading}
use Rattle.ce_crew.specs.Best.{IsBestLow, IsBestHigh}
use Rattle.ce_crew.specs.Rooms.{AreBoundsOf}
use Rattle.ce_crew.specs.Workers.{IsWorker, KeepsIts, Ran}
use Rattle.ce_crew.specs.declared.worker.Worker.{Worker}
use Rattle.ce_solve.specs.declared.crew.Actor.{Actor}
use Rattle.ce_solve.specs.declared.crew.Actor.TheVariants.{Worker as AWorker, Session as ASession}

-- An actor is ready to run on a board.
abbrev pub CanRun : Board → Actor → Type 0
CanRun b (AWorker w) = IsWorker b w
CanRun b (ASession s) = Sits b s.seat

-- What a worker, and a session, are after their run.
pub record HasRunWorker (b : Board) (w w' : Worker) : Type 0 where
  pub worker : IsWorker b w'
  pub ran : Ran w w'
  pub keeps : KeepsIts (board_run b) w w'

pub record HasRunSession (b : Board) (s s' : SessionState) : Type 0 where
  pub sits : Sits b s'.seat
  pub all : length s'.room.readings ≡ s.room.reads
  pub later : (more : List Reading) × (s'.room.readings ≡ s.room.readings ++ more)
  pub session : s'.session ≡ s.session
  pub role : (view s'.seat).role ≡ (view s.seat).role
  pub its_part : (view s'.seat).place.part ≡ (view s.seat).place.part
  pub joined : (view s'.seat).joined ≡ (view s.seat).joined

-- An actor ran.
abbrev pub HasRun : Board → Actor → Actor → Type 0
HasRun b (AWorker w) a = (w' : Worker) × (a ≡ AWorker w') × HasRunWorker b w w'
HasRun b (ASession s) a = (s' : SessionState) × (a ≡ ASession s') × HasRunSession b s s'

-- the place of an actor's seat
abbrev pub place_of : Actor → Place
place_of (AWorker w) = (view w.seat).place
place_of (ASession s) = (view s.seat).place

abbrev pub places_of : List Actor → List Place
places_of actors = map place_of actors

-- the places of the workers among actors
abbrev pub worker_places : List Actor → List Place
worker_places [] = []
worker_places (AWorker w ∷ actors) = (view w.seat).place ∷ worker_places actors
worker_places (ASession s ∷ actors) = worker_places actors

-- the readings of the sessions among actors, by session
abbrev pub readings_of : List Actor → List Reading
readings_of [] = []
readings_of (AWorker w ∷ actors) = readings_of actors
readings_of (ASession s ∷ actors) = s.room.readings ++ readings_of actors

-- the first seat's view, once seats with these places were joined
abbrev pub joined_all : View → List Place → View
joined_all v places = viewed v.run v.role v.place (v.joined ++ places) (v.out - length places)

-- A worker whose run is over: it has made all its turns or is halted, and has the best vectors of its
-- log, which began as one vector.
pub record IsOverWorker (b : Board) (beginning : List ℕ) (w : Worker) : Type 0 where
  pub worker : IsWorker b w
  pub role : (view w.seat).role ≡ Other
  pub joined : (view w.seat).joined ≡ []
  pub ends : (w.done ≡ w.turns) ⊎ (w.halted ≡ true)
  pub low : IsBestLow (board_run b) (board_run b).initial.low beginning
      (view w.seat).place.log w.room.low.low w.room.low_vector.items
  pub high : IsBestHigh (board_run b) (board_run b).initial.high beginning
      (view w.seat).place.log w.room.high.high w.room.high_vector.items

-- A session, which owns no entry.
pub record IsOverSession (b : Board) (s : SessionState) : Type 0 where
  pub sits : Sits b s.seat
  pub role : (view s.seat).role ≡ Other
  pub joined : (view s.seat).joined ≡ []
  pub empty : (view s.seat).place.part.from ≡ (view s.seat).place.part.to

abbrev pub IsOver : Board → List ℕ → Actor → Type 0
IsOver b beginning (AWorker w) = IsOverWorker b beginning w
IsOver b beginning (ASession s) = IsOverSession b s

-- All workers among actors were told so many turns.
abbrev pub HasTurns : ℕ → Actor → Type 0
HasTurns turns (AWorker w) = w.turns ≡ turns
HasTurns turns (ASession s) = ⊤

-- What a session told when it ended: its log is its readings, which are numbered and never widen.
pub record IsToldSession (s : SessionState) : Type 0 where
  pub log : (view s.seat).place.log ≡ read_log s.room.readings
  pub numbered : AreNumbered s.session 0 s.room.readings
  pub never_widen : NeverWiden s.room.readings

abbrev pub IsTold : Actor → Type 0
IsTold (AWorker w) = ⊤
IsTold (ASession s) = IsToldSession s

-- The first seat, from which so many seats were split off, and which owns no entry any more.
pub record IsFirstSeat (v : View) (count : ℕ) : Type 0 where
  pub role : v.role ≡ First
  pub log : v.place.log ≡ []
  pub joined : v.joined ≡ []
  pub out : v.out ≡ count
  pub empty : v.place.part.from ≡ v.place.part.to

-- The certificate of the initial enclosure of a run, with one vector for both ends.
pub record IsInitialCertificate (run : Run) (c : Certificate) : Type 0 where
  pub ranks : c.ranks.items ≡ run.ranks
  pub low : c.low ≡ run.initial.low
  pub high : c.high ≡ run.initial.high
  pub one_vector : c.high_vector.items ≡ c.low_vector.items
  pub vector : IsVectorOf (rows_of run) c.low_vector.items
  pub bounds : AreBoundsOf run c.low_vector.items (record { low = c.low; low_rank = c.low_rank; high = c.high })

-- A worker before its first turn.
pub record IsHiredWorker (b : Board) (beginning : List ℕ) (t : ℕ) (w : Worker) : Type 0 where
  pub worker : IsWorker b w
  pub role : (view w.seat).role ≡ Other
  pub joined : (view w.seat).joined ≡ []
  pub turns : w.turns ≡ t
  pub low : IsBestLow (board_run b) (board_run b).initial.low beginning
      (view w.seat).place.log w.room.low.low w.room.low_vector.items
  pub high : IsBestHigh (board_run b) (board_run b).initial.high beginning
      (view w.seat).place.log w.room.high.high w.room.high_vector.items

-- The first seat while so many parts are split off, upper ends first: it owns the entries below one.
pub record IsFirstBelow (b : Board) (s : Seat (Unit {0}) View) (top count : ℕ) : Type 0 where
  pub sits : Sits b s
  pub role : (view s).role ≡ First
  pub log : (view s).place.log ≡ []
  pub joined : (view s).joined ≡ []
  pub out : (view s).out ≡ count
  pub from : (view s).place.part.from ≡ 0
  pub to : (view s).place.part.to ≡ top
