-- Where reads came to no good end, each line that was taken was answered whole.
use Rattle.std.proofs.Common.{◌≡◌, ℕ, List, [], length, Option, refl, sym, subst}
use Rattle.std.proofs.KnownBytes.{Consumes-nil}
use Rattle.std.specs.Io.KnownBytes.{Consumes}
use Rattle.ce_lines.specs.Bytes.{ahead}
use Rattle.ce_lines.specs.Lines.{TookPart}
use Rattle.ce_port.specs.ReadAll.{Gave}
use Rattle.ce_port.specs.Sink.{GrewBy}
use Rattle.ce_desk.proofs.Ended.{consumed_known}
use Rattle.ce_desk.specs.Desk.{Desk}
use Rattle.ce_desk.specs.Served.{AnsweredEach}
use Rattle.ce_desk.specs.ServedInside.{at_start}
use Rattle.ce_desk.specs.TalksInside.{Streams, streams, HasTalkedTo, HasEnded}
use Rattle.ce_desk.specs.declared.talk.Fault.TheVariants.{InputTooLong, Read as ReadFault}
use Rattle.ce_desk.specs.declared.talk.Talk.{Talk}
use Rattle.ce_desk.specs.declared.talk.TalkEnd.TheVariants.{Fault as Failed}

module _ {S O : Type 0} (left : S → Option (List ℕ)) (read_faults : S → ℕ)
    (taken : O → Option (List ℕ)) (write_faults : O → ℕ)
    (rounds exponent : ℕ) (source : S) (out : O) (t : Talk S O) (desk : Desk) where
  abbrev start : Streams
  start = at_start left read_faults taken write_faults source out

  abbrev now : Streams
  now = streams left read_faults taken write_faults t

  -- The replies stand whole, and so many bytes were given beyond the part of a line that was taken.
  answered_each : (count beyond : ℕ) → HasTalkedTo rounds exponent start TookPart desk count now
      → Gave beyond now.ahead now.left
      → AnsweredEach rounds exponent beyond (left source) now.left (taken out) now.taken
  answered_each count beyond h more = record {
    lines = h.talked.lines;
    between = h.between.ahead;
    took = h.talked.took;
    after = now.ahead;
    rest = h.took;
    more = more;
    desk = desk;
    text = h.talked.text;
    replies = h.talked.replies;
    grew = subst (λ (o : Option (List ℕ)). GrewBy start.taken o h.talked.text) (sym h.silent) h.talked.grew;
  }

  -- The input was too long: one byte is ahead.
  pub answered_long : length (ahead t.lines.bytes) ≡ 1 → HasEnded rounds exponent start (Failed InputTooLong) desk now
      → AnsweredEach rounds exponent 1 (left source) now.left (taken out) now.taken
  answered_long one (count, h, given) =
      answered_each count 1 h (ahead t.lines.bytes, one, consumed_known (ahead t.lines.bytes) now.left)

  -- A read failed: nothing is ahead.
  pub answered_fault : HasEnded rounds exponent start (Failed ReadFault) desk now
      → AnsweredEach rounds exponent 0 (left source) now.left (taken out) now.taken
  answered_fault (count, h, rose, drained) =
      answered_each count 0 h
      ([], refl, subst (λ (x : Option (List ℕ)). Consumes x now.left []) (sym drained) (Consumes-nil now.left))
