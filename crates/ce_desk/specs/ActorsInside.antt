-- Session and crew: what each needs and does. Source: this project's choice.
use Rattle.std.specs.Prelude.{◌≡◌, ℕ, ◌<◌, List, length, slice_index_or, Option, Ok, Err}
use Rattle.ce_crew.specs.declared.worker.Worker.{Worker}
use Rattle.ce_desk.specs.CasesInside.{AreFirsts, KeepsTurns, CanRunSlot, HasRunSlot}
use Rattle.ce_desk.specs.Desk.{Slot, Desk}
use Rattle.ce_desk.specs.TalksInside.{Streams, streams, IsTalk, IsNext}
use Rattle.ce_desk.specs.declared.actor.Actor.{Actor}
use Rattle.ce_desk.specs.declared.actor.Actor.TheVariants.{Session as ASession, Crew as ACrew}
use Rattle.ce_desk.specs.declared.case.Case.{Case}
use Rattle.ce_desk.specs.declared.crew.Crew.{Crew}
use Rattle.ce_desk.specs.declared.session.Session.{Session}
use Rattle.ce_desk.specs.declared.talk.TalkEnd.{TalkEnd}

-- A session has the first seats, and the slot that is to be read next is open.
pub record IsSession {S O : Type 0} (cases : List Case) (s : Session S O) : Type 0 where
  pub talk : IsTalk s.talk
  pub slots : List Slot
  pub firsts : AreFirsts cases slots s.firsts.items
  pub next : (slot : ℕ) → s.next ≡ Ok slot → slot < length cases

-- The talk came to its end, for whatever it began with.
pub record SessionRan {S O : Type 0} (left : S → Option (List ℕ)) (read_faults : S → ℕ) (taken : O → Option (List ℕ))
    (write_faults : O → ℕ) (cases : List Case) (s s' : Session S O) (rounds exponent : ℕ) (start : Streams)
    (desk : Desk) : Type 0 where
  pub after : Desk
  pub end : TalkEnd
  pub next : s'.next ≡ Err end
  pub talk : IsTalk s'.talk
  pub ended : IsNext rounds exponent start s'.next after s'.talk.count
      (streams left read_faults taken write_faults s'.talk)
  pub firsts : AreFirsts cases after.slots s'.firsts.items
  pub turns : KeepsTurns desk.slots after.slots

abbrev pub HasRunSession : {S O : Type 0} → (S → Option (List ℕ)) → (S → ℕ) → (O → Option (List ℕ)) → (O → ℕ)
    → List Case → Session S O → Session S O → Type 0
HasRunSession left read_faults taken write_faults cases s s' = (rounds exponent : ℕ) (start : Streams) (desk : Desk)
    → AreFirsts cases desk.slots s.firsts.items
    → IsNext rounds exponent start s.next desk s.talk.count (streams left read_faults taken write_faults s.talk)
    → SessionRan left read_faults taken write_faults cases s s' rounds exponent start desk

-- The workers of a crew can run, and ran, each on the case of its slot.
pub record CanRunCrew (cases : List Case) (workers : List (Option Worker)) : Type 0 where
  pub count : length workers ≡ length cases
  pub each : (i : ℕ) (c : Case) (w : Option Worker) → i < length cases
      → CanRunSlot (slice_index_or cases i c) (slice_index_or workers i w)

pub record HasRunCrew (cases : List Case) (workers after : List (Option Worker)) : Type 0 where
  pub count : length after ≡ length workers
  pub each : (i : ℕ) (c : Case) (w v : Option Worker) → i < length cases
      → HasRunSlot (slice_index_or cases i c) (slice_index_or workers i w) (slice_index_or after i v)

abbrev pub CanRun : {S O : Type 0} → List Case → Actor S O → Type 0
CanRun cases (ASession s) = IsSession cases s
CanRun cases (ACrew c) = CanRunCrew cases c.workers.items

abbrev pub HasRun : {S O : Type 0} → (S → Option (List ℕ)) → (S → ℕ) → (O → Option (List ℕ)) → (O → ℕ) → List Case
    → Actor S O → Actor S O → Type 0
HasRun {S} {O} left read_faults taken write_faults cases (ASession s) a =
    (s' : Session S O) × (a ≡ ASession s') × HasRunSession left read_faults taken write_faults cases s s'
HasRun left read_faults taken write_faults cases (ACrew c) a =
    (c' : Crew) × (a ≡ ACrew c') × HasRunCrew cases c.workers.items c'.workers.items

-- The actors of a crew before and after their runs.
pub record HaveRunCrews {S O : Type 0} (cases : List Case) (crews after : List (Actor S O)) : Type 0 where
  pub count : length after ≡ length crews
  pub each : (k : ℕ) (d e : Actor S O) (c : Crew) → k < length crews → slice_index_or crews k d ≡ ACrew c
      → (c' : Crew) × (slice_index_or after k e ≡ ACrew c') × HasRunCrew cases c.workers.items c'.workers.items
