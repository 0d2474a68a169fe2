-- What a talk comes to that broke off before all was said.
use Rattle.std.proofs.Common.{◌≡◌, ◌⊎◌, ℕ, Bool, false, List, [], ◌++◌, Option, inl, inr, refl, sym, subst, append-nil}
use Rattle.std.specs.Io.KnownBytes.{Consumes}
use Rattle.std.specs.Prelude.{Result, Ok, Err}
use Rattle.std.proofs.KnownBytes.{Consumes-trans}
use Rattle.ce_lines.specs.Bytes.{ahead}
use Rattle.ce_lines.specs.Lines.{TookPart}
use Rattle.ce_port.specs.Sink.{GrewBy}
use Rattle.ce_port.proofs.Paging.{prefix-more, whole-prefix}
use Rattle.ce_desk.proofs.Ended.{consumed_known, one_bytes}
use Rattle.ce_desk.specs.Desk.{Desk, empty_desk}
use Rattle.ce_desk.specs.DeskText.{AreReplies, AllClose, IsDeskText, IsOpeningText, closing_text}
use Rattle.ce_desk.specs.Served.{ServedSome}
use Rattle.ce_desk.specs.ServedInside.{at_start}
use Rattle.ce_desk.specs.TalksInside.{Streams, streams, HasTalkedTo, WasCutOff, HasEnded, IsNext}
use Rattle.ce_desk.specs.declared.closing.Closing.{Closing}
use Rattle.ce_desk.specs.declared.talk.Fault.{Fault}
use Rattle.ce_desk.specs.declared.talk.Fault.TheVariants.{InputTooLong, Read as ReadFault, Write as WriteFault}
use Rattle.ce_desk.specs.declared.talk.Fault.TheVariants.{NoMemory}
use Rattle.ce_desk.specs.declared.talk.Talk.{Talk}
use Rattle.ce_desk.specs.declared.talk.TalkEnd.{TalkEnd}
use Rattle.ce_desk.specs.declared.talk.TalkEnd.TheVariants.{Quit, Silence, Fault as Failed}

-- A prefix of a text was written: the replies to the lines that were taken, and a rest that did not come.
module _ {S O : Type 0} (left : S → Option (List ℕ)) (read_faults : S → ℕ)
    (taken : O → Option (List ℕ)) (write_faults : O → ℕ)
    (rounds exponent : ℕ) (source : S) (out : O) (t : Talk S O) (desk : Desk) (rest : List ℕ)
    (is_text : (lines : List (Option (List ℕ))) (text : List ℕ)
    → AreReplies rounds exponent 1 empty_desk lines desk text
    → ((quits : Bool) × IsDeskText rounds exponent lines quits (text ++ rest))
    ⊎ IsOpeningText rounds exponent lines (text ++ rest)) where
  abbrev start : Streams
  start = at_start left read_faults taken write_faults source out

  abbrev now : Streams
  now = streams left read_faults taken write_faults t

  abbrev beyond : List ℕ
  beyond = ahead t.lines.bytes

  cut_some : WasCutOff rounds exponent start desk now
      → ServedSome rounds exponent (left source) now.left (taken out) now.taken
  cut_some w = (
    w.lines,
    w.text ++ rest,
    record {
      between = now.ahead;
      took = w.took;
      ahead = beyond;
      more = consumed_known beyond now.left;
    },
    is_text w.lines w.text w.replies,
    prefix-more start.taken now.taken w.text rest w.grew,
  )

  to_some : {Took : Option (List ℕ) → Option (List ℕ) → Type 0} (count : ℕ)
      → HasTalkedTo rounds exponent start Took desk count now
      → ((a b : Option (List ℕ)) → Took a b → (bytes : List ℕ) × Consumes a b bytes)
      → ServedSome rounds exponent (left source) now.left (taken out) now.taken
  to_some count h bytes =
      let took = bytes h.between.ahead now.ahead h.took in
      let grew = subst (λ (o : Option (List ℕ)). GrewBy start.taken o h.talked.text) (sym h.silent) h.talked.grew in (
        h.talked.lines,
        h.talked.text ++ rest,
        record {
          between = h.between.ahead;
          took = h.talked.took;
          ahead = took.0 ++ beyond;
          more = Consumes-trans h.between.ahead now.ahead now.left took.0 beyond took.1
              (consumed_known beyond now.left);
        },
        is_text h.talked.lines h.talked.text h.talked.replies,
        prefix-more start.taken now.taken h.talked.text rest (whole-prefix start.taken now.taken h.talked.text grew),
      )

  part_bytes : (a b : Option (List ℕ)) → TookPart a b → (bytes : List ℕ) × Consumes a b bytes
  part_bytes a b (text, one, took) = (text, took)

  pub fault_some : (fault : Fault) → HasEnded rounds exponent start (Failed fault) desk now
      → ServedSome rounds exponent (left source) now.left (taken out) now.taken
  fault_some InputTooLong (count, h, given) = to_some count h part_bytes
  fault_some ReadFault (count, h, rose, drained) = to_some count h part_bytes
  fault_some WriteFault (w, rose) = cut_some w
  fault_some NoMemory w = cut_some w

  pub next_some : (next : Result ℕ TalkEnd) (count : ℕ) → IsNext rounds exponent start next desk count now
      → ServedSome rounds exponent (left source) now.left (taken out) now.taken
  next_some (Ok slot) count h = to_some h.before h.heard (one_bytes h.line)
  next_some (Err Quit) count (n, h) = to_some h.before h.heard (one_bytes h.line)
  next_some (Err Silence) count (n, h, within) = to_some n h (λ a b took. ([], took.0))
  next_some (Err (Failed fault)) count h = fault_some fault h

-- The rest is the closing lines.
pub closing_rest : (rounds exponent : ℕ) (desk : Desk) (closings : List Closing) → AllClose desk.slots closings
    → (lines : List (Option (List ℕ))) (text : List ℕ) → AreReplies rounds exponent 1 empty_desk lines desk text
    → ((quits : Bool) × IsDeskText rounds exponent lines quits (text ++ closing_text closings false))
    ⊎ IsOpeningText rounds exponent lines (text ++ closing_text closings false)
closing_rest rounds exponent desk closings close lines text replies =
    inl (
      false,
      record {
        desk = desk;
        replies = text;
        are_replies = replies;
        closings =
            closings;
        close = close;
        spelled = refl;
      },
    )

-- There is no rest: no line read a slot.
pub opening_rest : (rounds exponent : ℕ) (desk : Desk) → desk.late ≡ false
    → (lines : List (Option (List ℕ))) (text : List ℕ) → AreReplies rounds exponent 1 empty_desk lines desk text
    → ((quits : Bool) × IsDeskText rounds exponent lines quits (text ++ []))
    ⊎ IsOpeningText rounds exponent lines (text ++ [])
opening_rest rounds exponent desk early lines text replies = inr (record {
  desk = desk;
  early = early;
  are_replies = subst (AreReplies rounds exponent 1 empty_desk lines desk) (sym (append-nil text)) replies;
})
