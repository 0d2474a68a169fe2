-- One slot more is opened, or the first cause why not.
use Rattle.std.proofs.Common.{◌≡◌, ◌≤◌, ℕ, List, [], ◌∷◌, ◌++◌, length, slice_index_or, Option}
use Rattle.std.proofs.Common.{None, Some, Ok, inl, inr, refl, sym, ap, ◌∙◌, subst, length-append, arith}
use Rattle.std.specs.Prelude.{Result}
use Rattle.std.proofs.lemmas.List.{get_or_append_left}
use Rattle.std.proofs.Math.Seq.{get_or-append_seam}
use Rattle.ce_angle.specs.Fraction.{Fraction}
use Rattle.ce_angle.specs.Typed.{angle_of_text}
use Rattle.ce_angle.specs.declared.angle.AngleError.{AngleError}
use Rattle.ce_crew.specs.declared.worker.Worker.{Worker}
use Rattle.ce_lines.specs.Asks.{IsAsked}
use Rattle.ce_lines.specs.declared.asked.Asked.TheVariants.{Open, Read, Quit}
use Rattle.ce_lines.specs.declared.asked.Asked.{Asked}
use Rattle.ce_orbit.specs.Orbit.{ForwardOrbit, IsForwardOrbit}
use Rattle.ce_rows.specs.declared.interval.Interval.{Interval}
use Rattle.ce_thurston.specs.Indices.{rows_at}
use Rattle.ce_words.specs.Seats.{board_run}
use Rattle.ce_desk.proofs.Slots.{at_or_below}
use Rattle.ce_desk.specs.CasesInside.{IsOpenSlot, IsOpenCase, AreOpenSlots}
use Rattle.ce_desk.specs.Desk.{Slot, early_desk, IsOpenCause, IsFirstCause, IsLateIfOpen, OpensInTime}
use Rattle.ce_desk.specs.DeskText.{IsReply, opened_text}
use Rattle.ce_desk.specs.OpeningInside.{HasOpened, HasRoom}
use Rattle.ce_desk.specs.declared.case.Case.{Case}
use Rattle.ce_desk.specs.declared.case.Opened.{Opened}
use Rattle.ce_desk.specs.declared.case.SlotSeat.{SlotSeat}
use Rattle.ce_desk.specs.declared.cause.Cause.{Cause}
use Rattle.ce_desk.specs.declared.cause.Cause.TheVariants as cause
use Rattle.ce_desk.specs.declared.opening.Slots.{Slots}
use Rattle.ce_desk.specs.declared.settings.DeskSettings.{DeskSettings}

at_end : {X : Type 0} (xs : List X) (y : X) (i : ℕ) (d : X) → i ≡ length xs → slice_index_or (xs ++ y ∷ []) i d ≡ y
at_end xs y i d is = ap (λ (k : ℕ). slice_index_or (xs ++ y ∷ []) k d) is ∙ get_or-append_seam xs y [] d

slots_more : (cases : List Case) (firsts : List SlotSeat) (workers : List Worker) (slots : List Slot) (c : Case)
    (f : SlotSeat) (w : Worker) (x : Slot)
    → AreOpenSlots cases firsts workers slots → IsOpenSlot c f.seat w x
    → AreOpenSlots (cases ++ c ∷ []) (firsts ++ f ∷ []) (workers ++ w ∷ []) (slots ++ x ∷ [])
slots_more cases firsts workers slots c f w x h one = record {
  firsts_count = (let n = h.firsts_count in
      omega (arith, n, length-append firsts (f ∷ []), length-append cases (c ∷ [])));
  workers_count =
      (let n = h.workers_count in omega (arith, n, length-append workers (w ∷ []), length-append cases (c ∷ [])));
  slots_count = (let n = h.slots_count in omega (arith, n, length-append slots (x ∷ []), length-append cases (c ∷ [])));
  each = λ i a b d e within. elim (at_or_below i (length cases) (omega (arith, within, length-append cases (c ∷ [])))) [
    | inl same ↦
        let cs = at_end cases c i a same in
        let fs = at_end firsts f i b (let n = h.firsts_count in omega (arith, same, n)) in
        let ws = at_end workers w i d (let n = h.workers_count in omega (arith, same, n)) in
        let xs = at_end slots x i e (let n = h.slots_count in omega (arith, same, n)) in
        subst (λ (z : Case). IsOpenSlot z (slice_index_or (firsts ++ f ∷ []) i b).seat
        (slice_index_or (workers ++ w ∷ []) i d) (slice_index_or (slots ++ x ∷ []) i e)) (sym cs)
        (subst (λ (z : SlotSeat). IsOpenSlot c z.seat (slice_index_or (workers ++ w ∷ []) i d)
        (slice_index_or (slots ++ x ∷ []) i e)) (sym fs)
        (subst (λ (z : Worker). IsOpenSlot c f.seat z (slice_index_or (slots ++ x ∷ []) i e)) (sym ws)
        (subst (λ (z : Slot). IsOpenSlot c f.seat w z) (sym xs) one)))
    | inr less ↦
        let cs = get_or_append_left cases (c ∷ []) a i less in
        let fs = get_or_append_left firsts (f ∷ []) b i (let n = h.firsts_count in omega (arith, less, n)) in
        let ws = get_or_append_left workers (w ∷ []) d i (let n = h.workers_count in omega (arith, less, n)) in
        let xs = get_or_append_left slots (x ∷ []) e i (let n = h.slots_count in omega (arith, less, n)) in
        subst (λ (z : Case). IsOpenSlot z (slice_index_or (firsts ++ f ∷ []) i b).seat
        (slice_index_or (workers ++ w ∷ []) i d) (slice_index_or (slots ++ x ∷ []) i e)) (sym cs)
        (subst (λ (z : SlotSeat). IsOpenSlot (slice_index_or cases i a) z.seat
        (slice_index_or (workers ++ w ∷ []) i d) (slice_index_or (slots ++ x ∷ []) i e)) (sym fs)
        (subst (λ (z : Worker). IsOpenSlot (slice_index_or cases i a) (slice_index_or firsts i b).seat z
        (slice_index_or (slots ++ x ∷ []) i e)) (sym ws)
        (subst (λ (z : Slot). IsOpenSlot (slice_index_or cases i a) (slice_index_or firsts i b).seat
        (slice_index_or workers i d) z) (sym xs)
        (h.each i a b d e less))))
  ];
}

pub has_opened : (settings : DeskSettings) (typed : Result Fraction AngleError) (turns number : ℕ) (old new : Slots)
    (angle : Fraction) (orbit : ForwardOrbit) (o : Opened)
    → typed ≡ Ok angle → orbit.angle ≡ angle → IsForwardOrbit orbit → length orbit.places ≤ 128
    → IsOpenCase (rows_at orbit settings.scale) settings.rounds turns o
    → new.cases.items ≡ old.cases.items ++ o.case ∷ []
    → new.firsts.items ≡ old.firsts.items ++ record { slot = number; seat = o.first } ∷ []
    → new.workers.items ≡ old.workers.items ++ o.worker ∷ [] → HasOpened settings typed turns old new (angle, o.initial)
has_opened settings typed turns number old new angle orbit o is of places few case cs fs ws =
    let run = board_run o.case.board in
    let slot : Slot = record { angle = angle; turns = turns; run = run; told = [] } in
    record {
      slot = slot;
      typed_is = is;
      short = record { orbit = orbit; of_angle = of; is_orbit = places; few = few };
      opened = record {
        angle = sym of;
        granted = refl;
        run_of = case.run_of;
        told = refl;
      };
      angle = refl;
      initial = case.initial;
      count = ap (λ (l : List Case). length l) cs ∙ length-append old.cases.items (o.case ∷ []);
      behind = λ slots h.
          subst (λ (l : List Case). AreOpenSlots l new.firsts.items new.workers.items (slots ++ slot ∷ [])) (sym cs)
          (subst (λ (l : List SlotSeat). AreOpenSlots (old.cases.items ++ o.case ∷ []) l new.workers.items
          (slots ++ slot ∷ [])) (sym fs)
          (subst (λ (l : List Worker). AreOpenSlots (old.cases.items ++ o.case ∷ [])
          (old.firsts.items ++ record { slot = number; seat = o.first } ∷ []) l (slots ++ slot ∷ []))
          (sym ws)
          (slots_more old.cases.items old.firsts.items old.workers.items slots o.case
          (record { slot = number; seat = o.first }) o.worker slot h
          (case.behind slot refl refl refl))));
    }

pub opens_reply : (settings : DeskSettings) (typed : Result Fraction AngleError) (turns count : ℕ) (old new : Slots)
    (told : Fraction × Interval) (slots : List Slot)
    (h : HasOpened settings typed turns old new told) → length slots ≡ length old.cases.items → HasRoom new
    → (line : Option (List ℕ)) → IsAsked line (Some (Open typed turns))
    → IsReply settings.rounds settings.scale count (early_desk slots) line (early_desk (slots ++ h.slot ∷ []))
    (opened_text (length slots) h.slot.angle h.slot.run.initial)
opens_reply settings typed turns count old new told slots h same room None asks = absurd asks
opens_reply settings typed turns count old new told slots h same room (Some text) asks = inl (record {
  slot = h.slot;
  word = asks.0;
  turns = turns;
  in_time = record { text = text; line_is = refl; asks = asks.1; early = refl };
  typed = sym asks.2 ∙ h.typed_is;
  short = h.short;
  room = (let n = h.count in let m = room.most in omega (arith, same, n, m));
  opened = h.opened;
  after_is = refl;
  spelled = refl;
})

first_cause : (slots : List Slot) (line : Option (List ℕ)) (word : List ℕ) (turns : ℕ) (c : Cause)
    → OpensInTime (early_desk slots) line word turns
    → IsOpenCause (length slots) (angle_of_text word) c → IsFirstCause (early_desk slots) line c
first_cause slots line word turns cause.Form t h = absurd h
first_cause slots line word turns cause.Late t h = absurd h
first_cause slots line word turns (cause.Angle e) t h = (word, turns, t, h)
first_cause slots line word turns cause.OrbitTooLong t h = (word, turns, t, h)
first_cause slots line word turns cause.Full t h = (word, turns, t, h)
first_cause slots line word turns cause.NoSlot t h = absurd h
first_cause slots line word turns cause.NoMemory t h = (word, turns, t, h)

pub open_cause : (typed : Result Fraction AngleError) (turns opened : ℕ) (slots : List Slot) (c : Cause)
    → IsOpenCause opened typed c → length slots ≡ opened
    → (line : Option (List ℕ)) → IsAsked line (Some (Open typed turns)) → IsFirstCause (early_desk slots) line c
open_cause typed turns opened slots c h same None asks = absurd asks
open_cause typed turns opened slots c h same (Some text) asks =
    first_cause slots (Some text) asks.0 turns c (record { text = text; line_is = refl; asks = asks.1; early = refl })
    (subst (λ (n : ℕ). IsOpenCause n (angle_of_text asks.0) c) (sym same)
    (subst (λ (t : Result Fraction AngleError). IsOpenCause opened t c) asks.2 h))

-- what does not open an angle is not late
pub not_open : (asked : Option Asked) (slots : List Slot) → IsLateIfOpen asked (early_desk [])
    → IsLateIfOpen asked (early_desk slots)
not_open None slots h = tt
not_open (Some (Open angle turns)) slots h = h
not_open (Some (Read slot)) slots h = tt
not_open (Some Quit) slots h = tt

pub turns_few : (line : Option (List ℕ)) (typed : Result Fraction AngleError) (turns : ℕ)
    → IsAsked line (Some (Open typed turns)) → turns ≤ 100000
turns_few None typed turns asks = absurd asks
turns_few (Some text) typed turns asks = asks.1.is_grant.few
