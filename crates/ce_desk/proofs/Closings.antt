-- Slots that were closed so far.
use Rattle.std.proofs.Common.{◌≡◌, ◌<◌, ◌≤◌, ◌+◌, ℕ, List, [], ◌∷◌, ◌++◌, length, slice_index_or}
use Rattle.std.proofs.Common.{slice_set, inl, inr, refl, sym, ap, ◌∙◌, subst, arith}
use Rattle.std.proofs.lemmas.List.{get_or-set_other, get_or_push, get_or_append_left}
use Rattle.ce_crew.specs.declared.worker.Worker.{Worker}
use Rattle.ce_desk.proofs.Dealing.{owns_still}
use Rattle.ce_desk.proofs.Slots.{at_or_below}
use Rattle.ce_desk.specs.CasesInside.{AreFirsts, IsFirstOf, IsDoneFor}
use Rattle.ce_desk.specs.CrewsInside.{Owns, AreDone, HasTakenBack}
use Rattle.ce_desk.specs.Desk.{Slot}
use Rattle.ce_desk.specs.DeskText.{Closes, AllClose}
use Rattle.ce_desk.specs.declared.actor.Actor.{Actor}
use Rattle.ce_desk.specs.declared.case.Case.{Case}
use Rattle.ce_desk.specs.declared.case.SlotSeat.{SlotSeat}
use Rattle.ce_desk.specs.declared.closing.Closing.{Closing}

-- The slots below one were closed; behind the others all is as it was.
pub record ClosedBelow {S O : Type 0} (cases : List Case) (slots : List Slot) (firsts : List SlotSeat)
    (crews : List (Actor S O))
    (closings : List Closing) (n : ℕ) : Type 0 where
  pub closed : (i : ℕ) (x : Slot) (c : Closing) → i < n
      → Closes (slice_index_or slots i x) (slice_index_or closings i c)
  pub first : (i : ℕ) (c : Case) (x : Slot) (f : SlotSeat) → n ≤ i → i < length cases
      → IsFirstOf (slice_index_or cases i c).board (slice_index_or slots i x) (slice_index_or firsts i f).seat
  pub done : (i : ℕ) (c : Case) (x : Slot) → n ≤ i → i < length cases
      → (worker : Worker) × Owns crews i worker
      × IsDoneFor (slice_index_or cases i c).board (slice_index_or slots i x) worker

pub none_closed : {S O : Type 0} (cases : List Case) (slots : List Slot) (firsts : List SlotSeat)
    (crews : List (Actor S O)) (closings : List Closing)
    → AreFirsts cases slots firsts → AreDone cases slots crews → ClosedBelow cases slots firsts crews closings 0
none_closed cases slots firsts crews closings f d = record {
  closed = λ i x c below. absurd (omega (arith, below));
  first = λ i c x g above within. f.each i c x g within;
  done = λ i c x above within. d.each i c x within;
}

pub closed_more : {S O : Type 0} (cases : List Case) (slots : List Slot) (firsts : List SlotSeat)
    (crews after : List (Actor S O)) (closings : List Closing) (n : ℕ)
    (f : SlotSeat) (closing : Closing) → ClosedBelow cases slots firsts crews closings n
    → length closings ≡ n → 0 < length crews
    → HasTakenBack n crews after → ((x : Slot) → Closes (slice_index_or slots n x) closing)
    → ClosedBelow cases slots (slice_set firsts n f) after (closings ++ closing ∷ []) (n + 1)
closed_more cases slots firsts crews after closings n f closing k count some back closes = record {
  closed = λ i x c below. elim (at_or_below i n below) [
    | inl same ↦
        subst (Closes (slice_index_or slots i x))
        (sym (ap (λ (m : ℕ). slice_index_or (closings ++ closing ∷ []) m c) (same ∙ sym count)
        ∙ get_or_push closings closing c (length closings) refl))
        (subst (λ (m : ℕ). Closes (slice_index_or slots m x) closing) (sym same) (closes x))
    | inr less ↦
        subst (Closes (slice_index_or slots i x))
        (sym (get_or_append_left closings (closing ∷ []) c i (omega (arith, less, count)))) (k.closed i x c less)
  ];
  first = λ i c x g above within.
      subst (λ (s : SlotSeat). IsFirstOf (slice_index_or cases i c).board (slice_index_or slots i x) s.seat)
      (sym (get_or-set_other firsts n i f g (λ same. omega (arith, same, above))))
      (k.first i c x g (omega (arith, above)) within);
  done = λ i c x above within.
      let d = k.done i c x (omega (arith, above)) within in
      (d.0, owns_still i n crews after d.0 (λ same. omega (arith, same, above)) back.count back.others some d.1, d.2);
}

pub all_closed : {S O : Type 0} (cases : List Case) (slots : List Slot) (firsts : List SlotSeat)
    (crews : List (Actor S O)) (closings : List Closing) (n : ℕ)
    → ClosedBelow cases slots firsts crews closings n → length closings ≡ n → length slots ≡ length cases
    → n ≡ length cases → AllClose slots closings
all_closed cases slots firsts crews closings n k count slots_count all = record {
  count = omega (arith, count, slots_count, all);
  each = λ i x c below. k.closed i x c (omega (arith, below, slots_count, all));
}
