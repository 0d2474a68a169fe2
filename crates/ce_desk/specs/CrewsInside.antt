-- Which actor of a crew owns which workers. Source: this project's choice.
use Rattle.std.specs.Prelude.{◌≡◌, ◌≢◌, ℕ, ◌%◌, ◌<◌, All, List, length, slice_index_or, Option}
use Rattle.std.specs.Prelude.{None, Some}
use Rattle.ce_crew.specs.declared.worker.Worker.{Worker}
use Rattle.ce_desk.specs.CasesInside.{IsHiredFor, IsDoneFor, IsCase}
use Rattle.ce_desk.specs.Desk.{Slot}
use Rattle.ce_desk.specs.declared.actor.Actor.{Actor}
use Rattle.ce_desk.specs.declared.actor.Actor.TheVariants.{Crew as ACrew}
use Rattle.ce_desk.specs.declared.case.Case.{Case}
use Rattle.ce_desk.specs.declared.crew.Crew.{Crew}

-- An actor is one of the crew with room for so many slots.
abbrev pub IsCrewOf : {S O : Type 0} → ℕ → Actor S O → Type 0
IsCrewOf count actor = (c : Crew) × (actor ≡ ACrew c) × (length c.workers.items ≡ count)

abbrev pub AreCrewsOf : {S O : Type 0} → ℕ → List (Actor S O) → Type 0
AreCrewsOf count crews = All (IsCrewOf count) crews

-- An actor of the crew owns a worker by its slot.
abbrev pub HasWorker : {S O : Type 0} → ℕ → Option Worker → Actor S O → Type 0
HasWorker slot worker actor = (c : Crew) × (actor ≡ ACrew c) × (slot < length c.workers.items)
    × ((d : Option Worker) → slice_index_or c.workers.items slot d ≡ worker)

-- The actor that runs a slot owns its worker, and no other actor owns one of the slot.
pub record Owns {S O : Type 0} (crews : List (Actor S O)) (slot : ℕ) (worker : Worker) : Type 0 where
  pub own : (d : Actor S O) → HasWorker slot (Some worker) (slice_index_or crews (slot % length crews) d)
  pub others : (k : ℕ) (d : Actor S O) → k < length crews → k ≢ slot % length crews
      → HasWorker slot None (slice_index_or crews k d)

-- No actor owns a worker of a slot.
abbrev pub HaveNone : {S O : Type 0} → List (Actor S O) → ℕ → Type 0
HaveNone crews slot = All (HasWorker slot None) crews

-- The actors of a crew, so many, without a worker.
pub record AreIdle {S O : Type 0} (slots count : ℕ) (crews : List (Actor S O)) : Type 0 where
  pub count_is : length crews ≡ count
  pub crews_are : AreCrewsOf slots crews
  pub none : (slot : ℕ) → slot < slots → HaveNone crews slot

-- The slots other than one are as they were.
abbrev pub KeepsOthers : {S O : Type 0} → ℕ → List (Actor S O) → List (Actor S O) → Type 0
KeepsOthers {S} {O} slot old new = (other k : ℕ) (worker : Option Worker) (d : Actor S O)
    → other ≢ slot → k < length old
    → HasWorker other worker (slice_index_or old k d) → HasWorker other worker (slice_index_or new k d)

-- A worker was handed to the actor that runs its slot.
pub record HasHandedOut {S O : Type 0} (slot : ℕ) (worker : Worker) (old new : List (Actor S O)) : Type 0 where
  pub count : length new ≡ length old
  pub crews : (slots : ℕ) → AreCrewsOf slots old → AreCrewsOf slots new
  pub owns : HaveNone old slot → Owns new slot worker
  pub others : KeepsOthers slot old new

-- A worker was taken back.
pub record HasTakenBack {S O : Type 0} (slot : ℕ) (old new : List (Actor S O)) : Type 0 where
  pub count : length new ≡ length old
  pub others : KeepsOthers slot old new

-- All workers were handed out.
pub record HaveDealt {S O : Type 0} (workers : List Worker) (crews : List (Actor S O)) : Type 0 where
  pub crews_are : AreCrewsOf (length workers) crews
  pub owns : (slot : ℕ) (w : Worker) → slot < length workers → Owns crews slot (slice_index_or workers slot w)

-- The actors of a crew own the worker of each slot, before its run.
pub record AreHired {S O : Type 0} (cases : List Case) (slots : List Slot) (crews : List (Actor S O)) : Type 0 where
  pub crews_are : AreCrewsOf (length cases) crews
  pub count : length slots ≡ length cases
  pub graphs : All IsCase cases
  pub each : (slot : ℕ) (c : Case) (x : Slot) → slot < length cases
      → (worker : Worker) × Owns crews slot worker
      × IsHiredFor (slice_index_or cases slot c).board (slice_index_or slots slot x) worker

-- The same after the runs.
pub record AreDone {S O : Type 0} (cases : List Case) (slots : List Slot) (crews : List (Actor S O)) : Type 0 where
  pub crews_are : AreCrewsOf (length cases) crews
  pub count : length slots ≡ length cases
  pub each : (slot : ℕ) (c : Case) (x : Slot) → slot < length cases
      → (worker : Worker) × Owns crews slot worker
      × IsDoneFor (slice_index_or cases slot c).board (slice_index_or slots slot x) worker
