-- What stands behind open slots, as session and crew need it.
use Rattle.std.proofs.Common.{◌≡◌, ◌<◌, ℕ, List, [], ◌∷◌, ◌++◌, length, take, drop, slice_index_or, refl, sym, ap, ◌∙◌}
use Rattle.std.proofs.Common.{subst, arith}
use Rattle.std.specs.Prelude.{Result, Ok, IfOk}
use Rattle.ce_crew.specs.declared.worker.Worker.{Worker}
use Rattle.ce_desk.proofs.Dealing.{any_of}
use Rattle.ce_desk.specs.CasesInside.{AreOpenSlots, AreFirsts}
use Rattle.ce_desk.specs.CrewsInside.{AreCrewsOf, HaveDealt, AreHired}
use Rattle.ce_desk.specs.Desk.{Slot}
use Rattle.ce_desk.specs.declared.actor.Actor.{Actor}
use Rattle.ce_desk.specs.declared.case.Case.{Case}
use Rattle.ce_desk.specs.declared.case.SlotSeat.{SlotSeat}
use Rattle.ce_desk.specs.declared.talk.TalkEnd.{TalkEnd}

-- A slice that was written back into its vector, whole.
front : {X : Type 0} (new rest : List X) → take (length new) (new ++ rest) ≡ new
front [] rest = refl
front (x ∷ xs) rest = ap (λ l. x ∷ l) (front xs rest)

pub written_back : {X : Type 0} (n : ℕ) (new old : List X) → length new ≡ n
    → take n (new ++ drop (length new) old) ≡ new
written_back n new old long =
    ap (λ (m : ℕ). take m (new ++ drop (length new) old)) (sym long) ∙ front new (drop (length new) old)

pub none_open : (cases : List Case) (firsts : List SlotSeat) (workers : List Worker) → cases ≡ []
    → firsts ≡ [] → workers ≡ []
    → AreOpenSlots cases firsts workers []
none_open cases firsts workers no_cases no_firsts no_workers =
    let none = ap (λ (l : List Case). length l) no_cases in
    let no_first = ap (λ (l : List SlotSeat). length l) no_firsts in
    let no_worker = ap (λ (l : List Worker). length l) no_workers in
    record {
      firsts_count = omega (arith, none, no_first);
      workers_count = omega (arith, none, no_worker);
      slots_count = omega (arith, none);
      each = λ i c f w x within. absurd (omega (arith, none, within));
    }

-- The slot that is read first is open.
pub next_within : (count : ℕ) (next : Result ℕ TalkEnd) → IfOk next (λ slot. slot < count) → (slot : ℕ)
    → next ≡ Ok slot → slot < count
next_within count next there slot is = subst (λ (r : Result ℕ TalkEnd). IfOk r (λ s. s < count)) is there

module _ (cases : List Case) (firsts : List SlotSeat) (workers : List Worker) (slots : List Slot)
    (h : AreOpenSlots cases firsts workers slots) where
  a_worker : (i : ℕ) → i < length cases → Worker
  a_worker i within = any_of workers i (let n = h.workers_count in omega (arith, n, within))

  pub firsts_open : AreFirsts cases slots firsts
  firsts_open = record {
    firsts_count = h.firsts_count;
    slots_count = h.slots_count;
    each = λ i c x f within. (h.each i c f (a_worker i within) x within).seat;
  }

  -- All workers were handed to the actors of a crew.
  pub hired_open : {S O : Type 0} (crews : List (Actor S O)) → HaveDealt workers crews → AreHired cases slots crews
  hired_open {S} {O} crews dealt = record {
    crews_are = subst (λ (n : ℕ). AreCrewsOf {S = S} {O = O} n crews) h.workers_count dealt.crews_are;
    count = h.slots_count;
    graphs = λ i c within.
        let f = any_of firsts i (let n = h.firsts_count in omega (arith, n, within)) in
        let x = any_of slots i (let n = h.slots_count in omega (arith, n, within)) in
        (h.each i c f (a_worker i within) x within).graph;
    each = λ i c x within.
        let f = any_of firsts i (let n = h.firsts_count in omega (arith, n, within)) in
        let w = a_worker i within in (
          slice_index_or workers i w,
          dealt.owns i w (let n = h.workers_count in omega (arith, n, within)),
          (h.each i c f w x within).hired,
        );
  }
