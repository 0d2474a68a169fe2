-- How a desk ended, by how its talk ended and what became of the closing lines.
use Rattle.std.proofs.Common.{◌≡◌, ◌≤◌, ◌+◌, ◌^◌, ◌⊎◌, ℕ, List, [], ◌∷◌, length, take, Option, inl, inr}
use Rattle.std.proofs.Common.{refl, sym, ap}
use Rattle.std.proofs.Common.{◌∙◌, subst, arith}
use Rattle.std.specs.Io.KnownBytes.{Consumes}
use Rattle.std.specs.Prelude.{Result, Ok, Err}
use Rattle.std.proofs.lemmas.List.{length-take, length-drop}
use Rattle.ce_lines.specs.Bytes.{ahead, IsReader}
use Rattle.ce_lines.specs.declared.byte_reader.ByteReader.{ByteReader}
use Rattle.ce_lines.specs.declared.line_reader.LineReader.{LineReader}
use Rattle.ce_port.specs.ReadAll.{Gave}
use Rattle.ce_port.specs.Sink.{Rose}
use Rattle.ce_desk.proofs.Answered.{answered_long, answered_fault}
use Rattle.ce_desk.proofs.Ended.{consumed_known}
use Rattle.ce_desk.proofs.NoQuit.{no_quit_answered}
use Rattle.ce_desk.proofs.OneMore.{rose_since}
use Rattle.ce_desk.specs.Desk.{Desk}
use Rattle.ce_desk.specs.Served.{ServedAll, ServedSome, IsTooLong, AnsweredEach, stop_of}
use Rattle.ce_desk.specs.ServedInside.{at_start}
use Rattle.ce_desk.specs.Served.{HasServed}
use Rattle.ce_desk.specs.TalksInside.{Streams, streams, IsLater, HasEnded, IsNext, IsGood, IsSpeechEnd}
use Rattle.ce_desk.specs.declared.serving.DeskEnd.{DeskEnd}
use Rattle.ce_desk.specs.declared.serving.DeskStop.{DeskStop}
use Rattle.ce_desk.specs.declared.serving.DeskStop.TheVariants.{Done, InputTooLong as StopTooLong}
use Rattle.ce_desk.specs.declared.serving.DeskStop.TheVariants.{ReadFault as StopRead}
use Rattle.ce_desk.specs.declared.serving.DeskStop.TheVariants.{WriteFault as StopWrite, NoMemory as StopNoMemory}
use Rattle.ce_desk.specs.declared.talk.Fault.{Fault}
use Rattle.ce_desk.specs.declared.talk.Fault.TheVariants.{InputTooLong, Read as ReadFault, Write as WriteFault}
use Rattle.ce_desk.specs.declared.talk.Fault.TheVariants.{NoMemory}
use Rattle.ce_desk.specs.declared.talk.Talk.{Talk}
use Rattle.ce_desk.specs.declared.talk.TalkEnd.{TalkEnd}
use Rattle.ce_desk.specs.declared.talk.TalkEnd.TheVariants.{Quit, Silence, Fault as Failed}

-- A list of one item.
one_item : (bytes : List ℕ) → length bytes ≡ 1 → (last : ℕ) × (bytes ≡ last ∷ [])
one_item [] one = absurd (omega (arith, one))
one_item (b ∷ []) one = (b, refl)
one_item (b ∷ (x ∷ xs)) one = absurd (omega (arith, one))

pub good_or_fault : (end : TalkEnd) → IsGood end ⊎ ((fault : Fault) × (end ≡ Failed fault) × (IsGood end → ⊥))
good_or_fault Quit = inl tt
good_or_fault Silence = inl tt
good_or_fault (Failed fault) = inr (fault, refl, λ good. good)

pub ended_later : (rounds exponent : ℕ) (start : Streams) (end : TalkEnd) (desk : Desk) (now : Streams)
    → HasEnded rounds exponent start end desk now
    → IsLater start now
ended_later rounds exponent start Quit desk now (count, h) = h.heard.later
ended_later rounds exponent start Silence desk now (count, h, within) = h.later
ended_later rounds exponent start (Failed InputTooLong) desk now (count, h, given) = h.later
ended_later rounds exponent start (Failed ReadFault) desk now (count, h, rose, drained) = h.later
ended_later rounds exponent start (Failed WriteFault) desk now (w, rose) = w.later
ended_later rounds exponent start (Failed NoMemory) desk now w = w.later

pub next_later : (rounds exponent : ℕ) (start : Streams) (next : Result ℕ TalkEnd)
    (desk : Desk) (count : ℕ) (now : Streams)
    → IsNext rounds exponent start next desk count now → IsLater start now
next_later rounds exponent start (Ok slot) desk count now h = h.heard.later
next_later rounds exponent start (Err end) desk count now h = ended_later rounds exponent start end desk now h

stop_not_done : (fault : Fault) → stop_of fault ≡ Done → ⊥
stop_not_done InputTooLong same = absurd (cc)
stop_not_done ReadFault same = absurd (cc)
stop_not_done WriteFault same = absurd (cc)
stop_not_done NoMemory same = absurd (cc)

is_too_long : (fault : Fault) → stop_of fault ≡ StopTooLong → fault ≡ InputTooLong
is_too_long InputTooLong same = refl
is_too_long ReadFault same = absurd (cc)
is_too_long WriteFault same = absurd (cc)
is_too_long NoMemory same = absurd (cc)

is_read : (fault : Fault) → stop_of fault ≡ StopRead → fault ≡ ReadFault
is_read InputTooLong same = absurd (cc)
is_read ReadFault same = refl
is_read WriteFault same = absurd (cc)
is_read NoMemory same = absurd (cc)

is_write : (fault : Fault) → stop_of fault ≡ StopWrite → fault ≡ WriteFault
is_write InputTooLong same = absurd (cc)
is_write ReadFault same = absurd (cc)
is_write WriteFault same = refl
is_write NoMemory same = absurd (cc)

starved_not_long : StopNoMemory ≡ StopTooLong → ⊥
starved_not_long same = absurd (cc)

starved_not_read : StopNoMemory ≡ StopRead → ⊥
starved_not_read same = absurd (cc)

starved_not_write : StopNoMemory ≡ StopWrite → ⊥
starved_not_write same = absurd (cc)

done_not_long : (d : DeskStop) → d ≡ Done → d ≡ StopTooLong → ⊥
done_not_long d done other = absurd (cc)

done_not_read : (d : DeskStop) → d ≡ Done → d ≡ StopRead → ⊥
done_not_read d done other = absurd (cc)

done_not_write : (d : DeskStop) → d ≡ Done → d ≡ StopWrite → ⊥
done_not_write d done other = absurd (cc)

speech_is_fault : (before after : ℕ) (cut : TalkEnd) → IsSpeechEnd before after cut
    → ((fault : Fault) → cut ≡ Failed fault → ⊥) → ⊥
speech_is_fault before after Quit speech none = absurd speech
speech_is_fault before after Silence speech none = absurd speech
speech_is_fault before after (Failed fault) speech none = none fault refl

-- Closing lines that were not all written end by a fault, as the talk before them does that has none.
pub cut_is_fault : {O : Type 0} (before after : ℕ) (old new : O) (cut end : TalkEnd)
    → (IsGood end → IsSpeechEnd before after cut)
    → ((IsGood end → ⊥) → (cut ≡ end) × (new ≡ old)) → ((fault : Fault) → cut ≡ Failed fault → ⊥) → ⊥
cut_is_fault before after old new cut end speech same none = elim (good_or_fault end) [
  | inl good ↦ speech_is_fault before after cut (speech good) none
  | inr bad ↦ none bad.0 ((same bad.2).0 ∙ bad.1)
]

-- Where a reader was given one byte too many, that byte is ahead.
pub one_ahead : {S : Type 0} (r : ByteReader S) → IsReader r → length r.buffer ≡ 512
    → r.given ≡ 2 ^ 20 + 1 → length (ahead r) ≡ 1
one_ahead r reader long full =
    let last = reader.last full in
    let within = reader.within in
    let taken = length-take r.to r.buffer in
    let dropped = length-drop r.from (take r.to r.buffer) in
    omega (arith, last, within, taken, dropped, long)

module _ {S O : Type 0} (left : S → Option (List ℕ)) (read_faults : S → ℕ)
    (taken : O → Option (List ℕ)) (write_faults : O → ℕ)
    (rounds exponent : ℕ) (source : S) (out : O) (t : Talk S O) (desk : Desk) where
  abbrev start : Streams
  start = at_start left read_faults taken write_faults source out

  abbrev now : Streams
  now = streams left read_faults taken write_faults t

  -- The input was too long: one byte is ahead, which nobody took.
  too_long : length (ahead t.lines.bytes) ≡ 1 → HasEnded rounds exponent start (Failed InputTooLong) desk now
      → IsTooLong (left source) now.left
  too_long one (count, h, given) =
      let last = one_item (ahead t.lines.bytes) one in
      record {
        lines = h.talked.lines;
        no_quit = no_quit_answered rounds exponent 1 _ h.talked.lines desk h.talked.text h.talked.replies;
        between = h.between.ahead;
        took = h.talked.took;
        after = now.ahead;
        rest = h.took;
        last = last.0;
        one_more = subst (λ (bytes : List ℕ). Consumes now.ahead now.left bytes) last.1
            (consumed_known (ahead t.lines.bytes) now.left);
        gave = subst (λ (n : ℕ). Gave n (left source) now.left)
            (let g = h.later.given in omega (arith, g, given)) h.later.gave;
      }

  -- The streams that a desk hands back are those of its talk, to which something more may have been said.
  module _ (later : IsLater start now) (u : Talk S O) (lines : u.lines ≡ t.lines)
      (counted : write_faults t.out ≤ write_faults u.out)
      (e : DeskEnd S O) (source_is : e.source ≡ u.lines.bytes.source) (out_is : e.out ≡ u.out) where
    same_source : e.source ≡ t.lines.bytes.source
    same_source = source_is ∙ ap (λ (l : LineReader S). l.bytes.source) lines

    read_on : read_faults source ≤ read_faults e.source
    read_on = (let r = later.read in let same = ap read_faults same_source in omega (arith, r, same))

    wrote_on : write_faults out ≤ write_faults e.out
    wrote_on = (let w = later.wrote in let same = ap write_faults out_is in omega (arith, w, counted, same))

    pub done_served : e.stop ≡ Done → ServedAll rounds exponent (left source) now.left (taken out) (taken u.out)
        → HasServed left read_faults taken write_faults rounds exponent source out e
    done_served stop all = record {
      done = λ s. subst (λ (x : S). ServedAll rounds exponent (left source) (left x) (taken out) (taken e.out))
          (sym same_source)
          (subst (λ (y : O). ServedAll rounds exponent (left source) now.left (taken out) (taken y)) (sym out_is) all);
      part = λ differs. absurd (differs stop);
      too_long = λ s. absurd (done_not_long e.stop stop s);
      answered = λ s. absurd (done_not_long e.stop stop s);
      answered_all = λ s. absurd (done_not_read e.stop stop s);
      read_fault = λ s. absurd (done_not_read e.stop stop s);
      write_fault = λ s. absurd (done_not_write e.stop stop s);
      read = read_on;
      wrote = wrote_on;
    }

    some_served : ServedSome rounds exponent (left source) now.left (taken out) (taken u.out)
        → ServedSome rounds exponent (left source) (left e.source) (taken out) (taken e.out)
    some_served some =
        subst (λ (x : S). ServedSome rounds exponent (left source) (left x) (taken out) (taken e.out)) (sym same_source)
        (subst (λ (y : O). ServedSome rounds exponent (left source) now.left (taken out) (taken y))
        (sym out_is) some)

    -- It stopped for want of memory.
    pub starved_served : e.stop ≡ StopNoMemory
        → ServedSome rounds exponent (left source) now.left (taken out) (taken u.out)
        → HasServed left read_faults taken write_faults rounds exponent source out e
    starved_served stop some = record {
      done = λ s. absurd (stop_not_done NoMemory (sym stop ∙ s));
      part = λ differs. some_served some;
      too_long = λ s. absurd (starved_not_long (sym stop ∙ s));
      answered = λ s. absurd (starved_not_long (sym stop ∙ s));
      answered_all = λ s. absurd (starved_not_read (sym stop ∙ s));
      read_fault = λ s. absurd (starved_not_read (sym stop ∙ s));
      write_fault = λ s. absurd (starved_not_write (sym stop ∙ s));
      read = read_on;
      wrote = wrote_on;
    }

    -- the talk ended so, or what followed was cut off so
    abbrev EndedSo : Fault → Type 0
    EndedSo f = IsSpeechEnd (write_faults t.out) (write_faults u.out) (Failed f)
        ⊎ (HasEnded rounds exponent start (Failed f) desk now × (u.out ≡ t.out))

    ended_so : (end : TalkEnd) → HasEnded rounds exponent start end desk now → (fault : Fault)
        → (IsGood end → IsSpeechEnd (write_faults t.out) (write_faults u.out) (Failed fault))
        → ((IsGood end → ⊥) → (Failed fault ≡ end) × (u.out ≡ t.out))
        → (f : Fault) → fault ≡ f → EndedSo f
    ended_so end h fault cut same f is = elim (good_or_fault end) [
      | inl good ↦ inl
          (subst (λ (x : Fault). IsSpeechEnd (write_faults t.out) (write_faults u.out) (Failed x)) is (cut good))
      | inr bad ↦
          inr (
            subst (λ (x : Fault). HasEnded rounds exponent start (Failed x) desk now) is
                (subst (λ (x : TalkEnd). HasEnded rounds exponent start x desk now) (sym (same bad.2).0) h),
            (same bad.2).1,
          )
    ]

    so_too_long : (t.lines.bytes.given ≡ 2 ^ 20 + 1 → length (ahead t.lines.bytes) ≡ 1) → EndedSo InputTooLong
        → IsTooLong (left source) (left e.source)
    so_too_long one (inl speech) = absurd speech
    so_too_long one (inr ended) =
        subst (λ (x : S). IsTooLong (left source) (left x)) (sym same_source) (too_long (one ended.0.2) ended.0)

    -- nothing was written since the talk ended
    same_streams : u.out ≡ t.out → (P : Option (List ℕ) → Option (List ℕ) → Type 0) → P now.left now.taken
        → P (left e.source) (taken e.out)
    same_streams same P p =
        subst (λ (x : S). P (left x) (taken e.out)) (sym same_source)
        (subst (λ (y : O). P now.left (taken y)) (sym (out_is ∙ same)) p)

    so_answered : (t.lines.bytes.given ≡ 2 ^ 20 + 1 → length (ahead t.lines.bytes) ≡ 1) → EndedSo InputTooLong
        → AnsweredEach rounds exponent 1 (left source) (left e.source) (taken out) (taken e.out)
    so_answered one (inl speech) = absurd speech
    so_answered one (inr ended) =
        same_streams ended.1
        (λ (l o : Option (List ℕ)). AnsweredEach rounds exponent 1 (left source) l (taken out) o)
        (answered_long left read_faults taken write_faults rounds exponent source out t desk (one ended.0.2) ended.0)

    so_answered_all : EndedSo ReadFault
        → AnsweredEach rounds exponent 0 (left source) (left e.source) (taken out) (taken e.out)
    so_answered_all (inl speech) = absurd speech
    so_answered_all (inr ended) =
        same_streams ended.1
        (λ (l o : Option (List ℕ)). AnsweredEach rounds exponent 0 (left source) l (taken out) o)
        (answered_fault left read_faults taken write_faults rounds exponent source out t desk ended.0)

    so_read : EndedSo ReadFault → Rose (read_faults source) (read_faults e.source)
    so_read (inl speech) = absurd speech
    so_read (inr ended) = subst (λ (x : S). Rose (read_faults source) (read_faults x)) (sym same_source) ended.0.2

    written_so : EndedSo WriteFault → Rose (write_faults out) (write_faults u.out)
    written_so (inl speech) = rose_since (write_faults out) (write_faults t.out) (write_faults u.out) later.wrote speech
    written_so (inr ended) = subst (λ (y : O). Rose (write_faults out) (write_faults y)) (sym ended.1) ended.0.1

    so_write : EndedSo WriteFault → Rose (write_faults out) (write_faults e.out)
    so_write so = subst (λ (y : O). Rose (write_faults out) (write_faults y)) (sym out_is) (written_so so)

    -- It stopped by a fault: the talk ended so, or what followed was cut off so.
    pub fault_served : (end : TalkEnd) → HasEnded rounds exponent start end desk now
        → (fault : Fault) → e.stop ≡ stop_of fault
        → (IsGood end → IsSpeechEnd (write_faults t.out) (write_faults u.out) (Failed fault))
        → ((IsGood end → ⊥) → (Failed fault ≡ end) × (u.out ≡ t.out))
        → (t.lines.bytes.given ≡ 2 ^ 20 + 1 → length (ahead t.lines.bytes) ≡ 1)
        → ServedSome rounds exponent (left source) now.left (taken out) (taken u.out)
        → HasServed left read_faults taken write_faults rounds exponent source out e
    fault_served end h fault stop cut same one some =
        let so = ended_so end h fault cut same in
        record {
          done = λ s. absurd (stop_not_done fault (sym stop ∙ s));
          part = λ differs. some_served some;
          too_long = λ s. so_too_long one (so InputTooLong (is_too_long fault (sym stop ∙ s)));
          answered = λ s. so_answered one (so InputTooLong (is_too_long fault (sym stop ∙ s)));
          answered_all = λ s. so_answered_all (so ReadFault (is_read fault (sym stop ∙ s)));
          read_fault = λ s. so_read (so ReadFault (is_read fault (sym stop ∙ s)));
          write_fault = λ s. so_write (so WriteFault (is_write fault (sym stop ∙ s)));
          read = read_on;
          wrote = wrote_on;
        }
