-- One interval more is read of a slot.
use Rattle.std.proofs.Common.{◌≡◌, ◌<◌, ◌≤◌, ◌+◌, ◌-◌, ◌^◌, ℕ, true, List, [], ◌∷◌, ◌++◌}
use Rattle.std.proofs.Common.{length, slice_index_or, slice_set, Option, None, Some, inl, inr, refl, sym, ap, ◌∙◌}
use Rattle.std.proofs.Common.{subst, arith}
use Rattle.std.proofs.lemmas.List.{get_or_default, length-set, get_or-set_same, get_or-set_other}
use Rattle.atomic_table.specs.declared.shared.Seat.{Seat}
use Rattle.ce_lines.specs.Asks.{IsAsked}
use Rattle.ce_lines.specs.declared.asked.Asked.TheVariants.{Read as AskedRead}
use Rattle.ce_live.specs.Sessions.{reading, AreNumbered}
use Rattle.ce_live.specs.declared.reading.Reading.{Reading}
use Rattle.ce_live.proofs.Readings.{facts_more}
use Rattle.ce_rows.specs.Rows.{EnclosesRows}
use Rattle.ce_rows.specs.declared.act.Act.TheVariants.{LoadsLow, LoadsHigh}
use Rattle.ce_rows.specs.declared.interval.Interval.{Interval}
use Rattle.ce_words.proofs.Sums.{Each-more}
use Rattle.ce_words.specs.Logs.{Each}
use Rattle.ce_words.specs.Seats.{Sits, board_run}
use Rattle.ce_words.specs.Steps.{LiesInside}
use Rattle.ce_words.specs.Views.{view, logged, noted, spent, seen_low, seen_high, rows_of}
use Rattle.ce_words.specs.declared.board.Board.{Board}
use Rattle.ce_words.specs.declared.view.Part.{Part}
use Rattle.ce_words.specs.declared.view.Run.{Run}
use Rattle.ce_words.specs.declared.view.View.{View}
use Rattle.ce_desk.proofs.Slots.{eq_or_not}
use Rattle.ce_desk.specs.CasesInside.{readings_from, IsFirstOf, AreFirsts, KeepsTurns}
use Rattle.ce_desk.specs.Desk.{Slot, Desk}
use Rattle.ce_desk.specs.DeskText.{IsReply, read_text}
use Rattle.ce_desk.specs.declared.case.Case.{Case}
use Rattle.ce_desk.specs.declared.case.SlotSeat.{SlotSeat}

readings_more : (n : ℕ) (told : List Interval) (i : Interval)
    → readings_from n (told ++ i ∷ []) ≡ readings_from n told ++ reading 0 (n + length told) i ∷ []
readings_more n [] i = ap (λ (k : ℕ). reading 0 k i ∷ []) (omega arith)
readings_more n (x ∷ xs) i =
    ap (λ (l : List Reading). reading 0 n x ∷ l)
    (readings_more (n + 1) xs i ∙ ap (λ (k : ℕ). readings_from (n + 1) xs ++ reading 0 k i ∷ []) (omega arith))

pub readings_count : (n : ℕ) (told : List Interval) → length (readings_from n told) ≡ length told
readings_count n [] = refl
readings_count n (x ∷ xs) = let rest = readings_count (n + 1) xs in omega (arith, rest)

pub readings_numbered : (n : ℕ) (told : List Interval) → AreNumbered 0 n (readings_from n told)
readings_numbered n [] = tt
readings_numbered n (x ∷ xs) = (refl, refl, readings_numbered (n + 1) xs)

pub each_told : (P : Interval → Type 0) (n : ℕ) (told : List Interval)
    → Each (λ (r : Reading). P r.interval) (readings_from n told) → Each P told
each_told P n [] h = tt
each_told P n (x ∷ xs) h = (h.0, each_told P (n + 1) xs h.1)

-- the slot, of which one interval more was read
abbrev pub told_more : Slot → Interval → Slot
told_more slot i = record slot { told = slot.told ++ i ∷ [] }

module _ (b : Board) (slot : Slot) (first after : Seat (Unit {0}) View) (i : Interval)
    (h : IsFirstOf b slot first) where
  pub inside_told : LiesInside (seen_low (view first)) (seen_high (view first)) i.low i.high
      → Each (λ (told : Interval). LiesInside told.low told.high i.low i.high) slot.told
  inside_told inside = each_told (λ (told : Interval). LiesInside told.low told.high i.low i.high) 0 slot.told
      (Each-more (λ (r : Reading). LiesInside r.interval.low r.interval.high
      (seen_low (view first)) (seen_high (view first)))
      (λ (r : Reading). LiesInside r.interval.low r.interval.high i.low i.high)
      (λ r k. record { from = omega (arith, k.from, inside.from); to = omega (arith, k.to, inside.to) })
      (readings_from 0 slot.told) h.around)

  pub still_first : Sits b after
      → view after ≡ noted (noted (view first) (logged LoadsLow 0 i.low)) (logged LoadsHigh 0 i.high)
      → LiesInside (seen_low (view first)) (seen_high (view first)) i.low i.high → IsFirstOf b (told_more slot i) after
  still_first sits is inside =
      let count : length slot.told ≡ length (readings_from 0 slot.told) = sym (readings_count 0 slot.told) in
      let all : readings_from 0 (slot.told ++ i ∷ []) ≡ readings_from 0 slot.told ++ reading
      0 (length slot.told) i ∷ [] =
      readings_more 0 slot.told i ∙ ap (λ (k : ℕ). readings_from 0 slot.told ++ reading 0 k i ∷ []) (omega arith) in
      let facts = facts_more (view first) 0 (length slot.told) (readings_from 0 slot.told) i
      (record {
        log = h.log;
        numbered = readings_numbered 0 slot.told;
        never_widen =
            h.never_widen;
        around = h.around;
      })
      count inside (view after) is (readings_from 0 (slot.told ++ i ∷ [])) all in
      let place : (view after).place.part ≡ (view first).place.part = ap (λ (v : View). v.place.part) is in
      record {
        run = h.run;
        sits = sits;
        role = ap (λ (v : View). v.role) is ∙ h.role;
        joined = ap (λ (v : View). v.joined) is ∙ h.joined;
        out = ap (λ (v : View). v.out) is ∙ h.out;
        empty = ap (λ (p : Part). p.from) place ∙ h.empty ∙ sym (ap (λ (p : Part). p.to) place);
        log = facts.log;
        never_widen = facts.never_widen;
        around = facts.around;
      }

-- A slot for the places where there is none.
pub no_slot : Slot
no_slot = record { angle = record { num = 0; den = 1 }; turns = 0; run = spent.run; told = [] }

module _ (cases : List Case) (slots : List Slot) (firsts : List SlotSeat) (h : AreFirsts cases slots firsts) (j : ℕ)
    (within : j < length cases) (after : Slot) where
  pub firsts_more : (f : SlotSeat) → ((c : Case) → IsFirstOf (slice_index_or cases j c).board after f.seat)
      → AreFirsts cases (slice_set slots j after) (slice_set firsts j f)
  firsts_more f one = record {
    firsts_count = length-set firsts j f ∙ h.firsts_count;
    slots_count = length-set slots j after ∙ h.slots_count;
    each = λ i c x g below. elim (eq_or_not i j) [
      | inl same ↦
          subst (λ (k : ℕ). IsFirstOf (slice_index_or cases k c).board (slice_index_or (slice_set slots j after) k x)
          (slice_index_or (slice_set firsts j f) k g).seat) (sym same)
          (subst (λ (y : Slot). IsFirstOf (slice_index_or cases j c).board y
          (slice_index_or (slice_set firsts j f) j g).seat)
          (sym (get_or-set_same slots j after x (let n = h.slots_count in omega (arith, within, n))))
          (subst (λ (y : SlotSeat). IsFirstOf (slice_index_or cases j c).board after y.seat)
          (sym (get_or-set_same firsts j f g (let n = h.firsts_count in omega (arith, within, n)))) (one c)))
      | inr other ↦
          subst (λ (y : Slot). IsFirstOf (slice_index_or cases i c).board y
          (slice_index_or (slice_set firsts j f) i g).seat)
          (sym (get_or-set_other slots j i after x other))
          (subst (λ (y : SlotSeat). IsFirstOf (slice_index_or cases i c).board (slice_index_or slots i x) y.seat)
          (sym (get_or-set_other firsts j i f g other)) (h.each i c x g below))
    ];
  }

  pub turns_kept : ((x : Slot) → after.turns ≡ (slice_index_or slots j x).turns)
      → KeepsTurns slots (slice_set slots j after)
  turns_kept same_turns = record {
    count = length-set slots j after;
    each = λ i x y below. elim (eq_or_not i j) [
      | inl same ↦
          ap (λ (k : ℕ). (slice_index_or (slice_set slots j after) k y).turns) same
          ∙ ap (λ (z : Slot). z.turns)
          (get_or-set_same slots j after y (let n = h.slots_count in omega (arith, within, n)))
          ∙ same_turns x ∙ ap (λ (k : ℕ). (slice_index_or slots k x).turns) (sym same)
      | inr other ↦
          ap (λ (z : Slot). z.turns) (get_or-set_other slots j i after y other ∙ get_or_default slots i y x below)
    ];
  }

-- the desk, once an interval was read of a slot
abbrev pub desk_read : Desk → ℕ → Slot → Interval → Desk
desk_read desk j slot i = record { slots = slice_set desk.slots j (told_more slot i); late = true }

pub reads_slot : (rounds exponent count : ℕ) (desk : Desk) (j : ℕ) (slot : Slot) (i : Interval)
    → j < length desk.slots → j < 2 ^ 32 - 1
    → ((x : Slot) → slice_index_or desk.slots j x ≡ slot) → EnclosesRows (rows_of slot.run) i.low i.high
    → LiesInside slot.run.initial.low slot.run.initial.high i.low i.high
    → Each (λ (told : Interval). LiesInside told.low told.high i.low i.high) slot.told
    → (line : Option (List ℕ)) → IsAsked line (Some (AskedRead j))
    → IsReply rounds exponent count desk line (desk_read desk j slot i) (read_text j i)
reads_slot rounds exponent count desk j slot i there small is encloses initial inside None asks = absurd asks
reads_slot rounds exponent count desk j slot i there small is encloses initial inside (Some text) asks =
    let number : asks.0 ≡ j = (let least = asks.2 in omega (arith, least, small)) in
    inr (inl (record {
      asked = text;
      line_is = refl;
      number = asks.0;
      asks = asks.1;
      there = omega (arith, there, number);
      slot = slot;
      slot_is = λ x. ap (λ (k : ℕ). slice_index_or desk.slots k x) number ∙ is x;
      interval = i;
      encloses = encloses;
      inside_initial = initial;
      inside = inside;
      after_is = ap (λ (k : ℕ). desk_read desk k slot i) (sym number);
      spelled = ap (λ (k : ℕ). read_text k i) (sym number);
    }))

-- An open slot was read: its first seat loaded the bounds.
module _ (cases : List Case) (desk : Desk) (firsts : List SlotSeat) (j : ℕ) (c : Case) (f : SlotSeat) (i : Interval)
    (after : Seat (Unit {0}) View)
    (h : AreFirsts cases desk.slots firsts) (within : j < length cases) where
  abbrev b : Board
  b = (slice_index_or cases j c).board

  abbrev slot : Slot
  slot = slice_index_or desk.slots j no_slot

  abbrev first : Seat (Unit {0}) View
  first = (slice_index_or firsts j f).seat

  abbrev is_first : IsFirstOf b slot first
  is_first = h.each j c no_slot f within

  abbrev pub desk_after : Desk
  desk_after = desk_read desk j slot i

  pub firsts_after : Sits b after
      → view after ≡ noted (noted (view first) (logged LoadsLow 0 i.low)) (logged LoadsHigh 0 i.high)
      → LiesInside (seen_low (view first)) (seen_high (view first)) i.low i.high
      → AreFirsts cases desk_after.slots
      (slice_set firsts j (record { slot = (slice_index_or firsts j f).slot; seat = after }))
  firsts_after sits is inside =
      firsts_more cases desk.slots firsts h j within (told_more slot i)
      (record { slot = (slice_index_or firsts j f).slot; seat = after })
      (λ d. subst (λ (x : Case). IsFirstOf x.board (told_more slot i) after) (get_or_default cases j c d within)
      (still_first b slot first after i is_first sits is inside))

  pub turns_after : KeepsTurns desk.slots desk_after.slots
  turns_after = turns_kept cases desk.slots firsts h j within (told_more slot i)
      (λ x. ap (λ (y : Slot). y.turns)
      (get_or_default desk.slots j no_slot x (let n = h.slots_count in omega (arith, within, n))))

  pub reply_after : (rounds exponent count : ℕ) → length cases ≤ 16 → EnclosesRows (rows_of (board_run b)) i.low i.high
      → LiesInside (board_run b).initial.low (board_run b).initial.high i.low i.high
      → LiesInside (seen_low (view first)) (seen_high (view first)) i.low i.high
      → (line : Option (List ℕ)) → IsAsked line (Some (AskedRead j))
      → IsReply rounds exponent count desk line desk_after (read_text j i)
  reply_after rounds exponent count few encloses initial inside =
      reads_slot rounds exponent count desk j slot i (let n = h.slots_count in omega (arith, within, n))
      (omega (arith, within, few))
      (λ x. get_or_default desk.slots j x no_slot (let n = h.slots_count in omega (arith, within, n)))
      (subst (λ (r : Run). EnclosesRows (rows_of r) i.low i.high) (sym is_first.run) encloses)
      (subst (λ (r : Run). LiesInside r.initial.low r.initial.high i.low i.high) (sym is_first.run) initial)
      (inside_told b slot first after i is_first inside)
