-- What a desk served whose closing lines were written, cut off, or never came.
use Rattle.std.proofs.Common.{◌≡◌, ◌+◌, ◌^◌, ℕ, zero, suc, false, List, [], ◌∷◌, length, take, drop}
use Rattle.std.proofs.Common.{Option, None, Some}
use Rattle.std.proofs.Common.{inl, inr, refl, sym, ap, ◌∙◌, subst, arith}
use Rattle.std.specs.Prelude.{Result, Err}
use Rattle.std.specs.Io.KnownBytes.{Consumes, prepend_known}
use Rattle.std.proofs.KnownBytes.{Consumes-nil}
use Rattle.ce_lines.specs.Bytes.{ahead, unread, IsNew}
use Rattle.ce_port.specs.Sink.{GrewBy}
use Rattle.ce_port.specs.WriteAll.{GrewByPrefix}
use Rattle.ce_port.proofs.Paging.{GrewBy-none, whole-prefix}
use Rattle.ce_desk.proofs.BrokenOff.{fault_some, next_some, closing_rest, opening_rest}
use Rattle.ce_desk.proofs.Concluded.{good_or_fault, starved_served, fault_served, next_later}
use Rattle.ce_desk.proofs.Ended.{quit_all, silence_all, part_all}
use Rattle.ce_desk.specs.Desk.{Desk, empty_desk}
use Rattle.ce_desk.specs.DeskText.{AllClose, closing_text}
use Rattle.ce_desk.specs.Served.{ServedAll, ServedSome, stop_of}
use Rattle.ce_desk.specs.ServedInside.{at_start, StopsBy, HasBegun, IsUnderWay}
use Rattle.ce_desk.specs.Served.{HasServed}
use Rattle.ce_desk.specs.TalksInside.{Streams, streams, HasEnded, IsGood, quits_at}
use Rattle.ce_desk.specs.declared.closing.Closing.{Closing}
use Rattle.ce_desk.specs.declared.serving.DeskEnd.{DeskEnd}
use Rattle.ce_desk.specs.declared.talk.Fault.{Fault}
use Rattle.ce_desk.specs.declared.talk.Fault.TheVariants.{NoMemory}
use Rattle.ce_desk.specs.declared.talk.Talk.{Talk}
use Rattle.ce_desk.specs.declared.talk.TalkEnd.{TalkEnd}
use Rattle.ce_desk.specs.declared.talk.TalkEnd.TheVariants.{Quit, Silence, Fault as Failed}

-- what is ahead of a reader that took all that it was given
none_ahead : (n : ℕ) (xs : List ℕ) → drop n (take n xs) ≡ []
none_ahead zero xs = refl
none_ahead (suc n) [] = refl
none_ahead (suc n) (x ∷ xs) = none_ahead n xs

known_alone : (known : Option (List ℕ)) → prepend_known [] known ≡ known
known_alone None = refl
known_alone (Some xs) = refl

module _ {S O : Type 0} (left : S → Option (List ℕ)) (read_faults : S → ℕ)
    (taken : O → Option (List ℕ)) (write_faults : O → ℕ)
    (rounds exponent : ℕ) (source : S) (out : O) (t : Talk S O) where
  abbrev start : Streams
  start = at_start left read_faults taken write_faults source out

  abbrev now : Streams
  now = streams left read_faults taken write_faults t

  -- A talk that is new has begun.
  pub has_begun : IsNew source t.lines.bytes → t.out ≡ out → t.count ≡ 0
      → HasBegun left read_faults taken write_faults rounds exponent source out t
  has_begun new same none =
      let r = t.lines.bytes in
      let empty : ahead r ≡ [] = ap (λ (n : ℕ). drop n (take r.to r.buffer)) new.empty ∙ none_ahead r.to r.buffer in
      let unread_is : unread left r ≡ left source =
      ap (λ (bytes : List ℕ). prepend_known bytes (left r.source)) empty
      ∙ known_alone (left r.source) ∙ ap left new.of in
      record {
        lines = [];
        text = [];
        took = subst (λ (o : Option (List ℕ)). Consumes (left source) o []) (sym unread_is)
            (Consumes-nil (left source));
        replies = (refl, refl);
        grew = subst (λ (o : O). GrewBy (taken out) (taken o) []) (sym same) (GrewBy-none (taken out));
        counted = none;
        later = record {
          more = 0;
          gave = (
            [],
            refl,
            subst (λ (s : S). Consumes (left source) (left s) []) (sym new.of)
                (Consumes-nil (left source)),
          );
          given = (let n = new.none in omega (arith, n));
          read = (let is = ap read_faults new.of in omega (arith, is));
          wrote = (let is = ap write_faults same in omega (arith, is));
        };
      }

  -- After any lines a talk may be broken off for want of memory.
  pub begun_next : HasBegun left read_faults taken write_faults rounds exponent source out t
      → IsUnderWay left read_faults taken write_faults rounds exponent source out t (Err (Failed NoMemory)) empty_desk
  begun_next talked = record {
    lines = talked.lines;
    text = talked.text;
    took = talked.took;
    replies = talked.replies;
    grew = whole-prefix start.taken now.taken talked.text talked.grew;
    later = talked.later;
  }

  module _ (desk : Desk) (closings : List Closing) (close : AllClose desk.slots closings) where
    -- The closing lines were written.
    pub closed_all : (end : TalkEnd) → IsGood end → HasEnded rounds exponent start end desk now
        → (after : Option (List ℕ))
        → GrewBy now.taken after (closing_text closings (quits_at end))
        → ServedAll rounds exponent (left source) now.left (taken out) after
    closed_all Quit good h after said =
        quit_all left read_faults taken write_faults rounds exponent source out t desk closings close after h said
    closed_all Silence good h after said =
        silence_all left read_faults taken write_faults rounds exponent source out t desk closings close after h said
    closed_all (Failed fault) good h after said = absurd good

    -- Not all closing lines were written, or none since the talk was cut off.
    pub closed_some : (end : TalkEnd) → HasEnded rounds exponent start end desk now → (after : Option (List ℕ))
        → (IsGood end → GrewByPrefix now.taken after (closing_text closings (quits_at end)))
        → ((IsGood end → ⊥) → after ≡ now.taken)
        → ServedSome rounds exponent (left source) now.left (taken out) after
    closed_some end h after part same = elim (good_or_fault end) [
      | inl good ↦
          part_all left read_faults taken write_faults rounds exponent source out t desk closings
          close after end good h (part good)
      | inr bad ↦
          subst (λ (y : Option (List ℕ)). ServedSome rounds exponent (left source) now.left (taken out) y)
          (sym (same bad.2))
          (fault_some left read_faults taken write_faults rounds exponent source out t desk
          (closing_text closings false)
          (closing_rest rounds exponent desk closings close) bad.0
          (subst (λ (x : TalkEnd). HasEnded rounds exponent start x desk now) bad.1 h))
    ]

  -- A desk stopped before its actors began.
  module _ (desk : Desk) (early : desk.late ≡ false) (next : Result ℕ TalkEnd)
      (h : IsUnderWay left read_faults taken write_faults rounds exponent source out t next desk)
      (one : t.lines.bytes.given ≡ 2 ^ 20 + 1 → length (ahead t.lines.bytes) ≡ 1)
      (e : DeskEnd S O) (source_is : e.source ≡ t.lines.bytes.source) (out_is : e.out ≡ t.out) where
    early_some : ServedSome rounds exponent (left source) now.left (taken out) now.taken
    early_some = next_some left read_faults taken write_faults rounds exponent source out t desk []
        (opening_rest rounds exponent desk early) next t.count h

    pub stopped_served : (fault : Fault) → e.stop ≡ stop_of fault → StopsBy fault next
        → HasServed left read_faults taken write_faults rounds exponent source out e
    stopped_served fault stop (inl is) =
        fault_served left read_faults taken write_faults rounds exponent source out t desk
        (next_later rounds exponent start next desk t.count now h) t refl (omega arith) e source_is out_is
        (Failed fault) (subst
        (λ (n : Result ℕ TalkEnd). IsUnderWay left read_faults taken write_faults rounds
        exponent source out t n desk) is h)
        fault stop (λ good. absurd good) (λ bad. (refl, refl)) one early_some
    stopped_served fault stop (inr is) =
        starved_served left read_faults taken write_faults rounds exponent source out t desk
        (next_later rounds exponent start next desk t.count now h) t refl (omega arith) e source_is out_is
        (stop ∙ ap stop_of is) early_some
