-- A talk grows by a line and its reply.
use Rattle.std.proofs.Common.{◌≡◌, ◌≤◌, ◌+◌, ℕ, List, [], ◌∷◌, ◌++◌, true, Option, None, Some, Ok, Err}
use Rattle.std.proofs.Common.{inr, refl, sym, ap, ◌∙◌, subst, length-append, arith}
use Rattle.std.specs.Prelude.{Result}
use Rattle.std.specs.Prelude.{IfOk}
use Rattle.std.specs.Result.{IfErr, IsErr, IsErrAnd}
use Rattle.std.proofs.KnownBytes.{Consumes-nil}
use Rattle.ce_lines.specs.Asks.{IsAsked}
use Rattle.ce_lines.specs.Bytes.{WasGiven}
use Rattle.ce_lines.specs.Lines.{TookOne, TookLines}
use Rattle.ce_lines.specs.declared.asked.Asked.{Asked}
use Rattle.ce_port.specs.Sink.{GrewBy}
use Rattle.ce_port.specs.WriteAll.{GrewByPrefix}
use Rattle.ce_port.proofs.Grown.{GrewBy-trans}
use Rattle.ce_port.proofs.Paging.{prefix-after, none-prefix}
use Rattle.ce_desk.proofs.OneMore.{one_line_more, one_reply_more, later_more, rose_since}
use Rattle.ce_desk.specs.Desk.{Desk, empty_desk, IsFirstCause, IsLateIfOpen}
use Rattle.ce_desk.specs.declared.cause.Cause.{Cause}
use Rattle.ce_lines.specs.declared.asked.Asked.TheVariants.{Open, Read, Quit as AskedQuit}
use Rattle.ce_desk.specs.DeskText.{IsReply, AreReplies, refused_text}
use Rattle.ce_desk.specs.TalksInside.{Streams, streams, HearsLine, HearsEnd, IsSpeechEnd, IsLater, HasTalked}
use Rattle.ce_desk.specs.TalksInside.{HasTalkedTo}
use Rattle.ce_desk.specs.TalksInside.{HasHeard, WasCutOff, HasEnded, IsNext, IsAfterLine}
use Rattle.ce_desk.specs.declared.talk.Fault.TheVariants.{InputTooLong, Read as ReadFault, Write as WriteFault}
use Rattle.ce_desk.specs.declared.talk.Fault.TheVariants.{NoMemory}
use Rattle.ce_desk.specs.declared.talk.Talk.{Talk}
use Rattle.ce_desk.specs.declared.talk.TalkEnd.{TalkEnd}
use Rattle.ce_desk.specs.declared.talk.TalkEnd.TheVariants.{Quit, Silence, Fault as Failed}

module _ {S O : Type 0} (left : S → Option (List ℕ)) (read_faults : S → ℕ) (taken : O → Option (List ℕ))
    (write_faults : O → ℕ) where
  abbrev now : Talk S O → Streams
  now = streams left read_faults taken write_faults

  module _ (t u : Talk S O) where
    heard_later : WasGiven left t.lines.bytes u.lines.bytes
        → read_faults t.lines.bytes.source ≤ read_faults u.lines.bytes.source → u.out ≡ t.out
        → IsLater (now t) (now u)
    heard_later given counted same = record {
      more = given.more;
      gave = given.gave;
      given = given.given;
      read = counted;
      wrote = (let w = ap write_faults same in omega (arith, w));
    }

    said_later : u.lines ≡ t.lines → write_faults t.out ≤ write_faults u.out → IsLater (now t) (now u)
    said_later same counted = subst (λ l. IsLater (now t) (now (record u { lines = l }))) (sym same) (record {
      more = 0;
      gave = ([], refl, Consumes-nil (left t.lines.bytes.source));
      given = omega arith;
      read = omega arith;
      wrote = counted;
    })

    module _ (rounds exponent : ℕ) (start : Streams) (desk : Desk) (count : ℕ)
        (talked : HasTalked rounds exponent start desk count (now t)) where
      -- a line that was heard after all lines before it were answered
      module _ (given : WasGiven left t.lines.bytes u.lines.bytes)
          (counted : read_faults t.lines.bytes.source ≤ read_faults u.lines.bytes.source) (same : u.out ≡ t.out) where
        to : (Took : Option (List ℕ) → Option (List ℕ) → Type 0) → Took (now t).ahead (now u).ahead
            → HasTalkedTo rounds exponent start Took desk count (now u)
        to Took took = record {
          between = now t;
          talked = talked;
          took = took;
          silent = ap taken same;
          later = later_more start (now t) (now u) talked.later (heard_later given counted same);
        }

        pub hears_line : (asked : Option Asked) → t.count ≡ count → HearsLine left t u asked
            → HasHeard rounds exponent start asked desk u.count (now u)
        hears_line asked is h = record {
          before = count;
          counted = h.count ∙ ap (λ (n : ℕ). n + 1) is;
          line = h.line;
          asks = h.asks;
          heard = to (λ old new. TookOne old new h.line) h.took;
          within = h.within;
        }

        pub hears_end : (end : TalkEnd) → HearsEnd left read_faults t u end
            → HasEnded rounds exponent start end desk (now u)
        hears_end Quit h = absurd h
        hears_end Silence h = (count, to _ (h.0, h.1), h.2)
        hears_end (Failed InputTooLong) h = (count, to _ h.0, h.1)
        hears_end (Failed ReadFault) h = (
          count,
          to _ h.0,
          rose_since start.read_faults (now t).read_faults
              (now u).read_faults talked.later.read h.1,
          h.2,
        )
        hears_end (Failed WriteFault) h = absurd h
        hears_end (Failed NoMemory) h = absurd h

    module _ (rounds exponent : ℕ) (start : Streams) (desk after : Desk) (asked : Option Asked) (reply : List ℕ)
        (heard : HasHeard rounds exponent start asked desk t.count (now t))
        (answer : (line : Option (List ℕ)) → IsAsked line asked → IsReply rounds exponent t.count desk line after reply)
        (same : u.lines ≡ t.lines) (counted : write_faults t.out ≤ write_faults u.out) where
      abbrev talked : HasTalked rounds exponent start desk heard.before heard.heard.between
      talked = heard.heard.talked

      abbrev lines : List (Option (List ℕ))
      lines = talked.lines ++ heard.line ∷ []

      took : TookLines start.ahead (now u).ahead lines
      took = subst (λ l. TookLines start.ahead (now (record u { lines = l })).ahead lines) (sym same)
          (one_line_more start.ahead heard.heard.between.ahead (now t).ahead talked.lines heard.line
          talked.took heard.heard.took)

      replies : AreReplies rounds exponent 1 empty_desk lines after (talked.text ++ reply)
      replies = one_reply_more rounds exponent 1 empty_desk desk after talked.lines heard.line
          talked.text reply talked.replies
          (subst (λ (n : ℕ). IsReply rounds exponent n desk heard.line after reply)
          (omega (arith, heard.counted, talked.counted)) (answer heard.line heard.asks))

      grew : GrewBy start.taken (now t).taken talked.text
      grew = subst (λ (b : Option (List ℕ)). GrewBy start.taken b talked.text) (sym heard.heard.silent) talked.grew

      later : IsLater start (now u)
      later = later_more start (now t) (now u) heard.heard.later (said_later same counted)

      pub said_reply : u.count ≡ t.count → GrewBy (taken t.out) (taken u.out) reply
          → HasTalked rounds exponent start after u.count (now u)
      said_reply is said = record {
        lines = lines;
        text = talked.text ++ reply;
        took = took;
        replies = replies;
        grew = GrewBy-trans start.taken (now t).taken (now u).taken talked.text reply grew said;
        counted = (let long = length-append talked.lines (heard.line ∷ []) in
            omega (arith, is, heard.counted, talked.counted, long));
        later = later;
      }

      cut_off : GrewByPrefix (taken t.out) (taken u.out) reply → WasCutOff rounds exponent start after (now u)
      cut_off part = record {
        lines = lines;
        text = talked.text ++ reply;
        took = took;
        replies = replies;
        grew = prefix-after start.taken (now t).taken (now u).taken talked.text reply grew part;
        later = later;
      }

      pub said_part : (end : TalkEnd) → IsSpeechEnd (write_faults t.out) (write_faults u.out) end
          → GrewByPrefix (taken t.out) (taken u.out) reply
          → HasEnded rounds exponent start end after (now u)
      said_part Quit cut part = absurd cut
      said_part Silence cut part = absurd cut
      said_part (Failed InputTooLong) cut part = absurd cut
      said_part (Failed ReadFault) cut part = absurd cut
      said_part (Failed WriteFault) cut part = (
        cut_off part,
        rose_since start.write_faults (write_faults t.out) (write_faults u.out)
            heard.heard.later.wrote cut,
      )
      said_part (Failed NoMemory) cut part = cut_off part

-- a refusal of a line by its first cause
pub refuses : (asked : Option Asked) (desk : Desk) (count rounds exponent : ℕ) (cause : Cause)
    → ((line : Option (List ℕ)) → IsAsked line asked → IsFirstCause desk line cause)
    → (line : Option (List ℕ)) → IsAsked line asked
    → IsReply rounds exponent count desk line desk (refused_text count cause)
refuses asked desk count rounds exponent cause first line asks =
    inr (inr (record { cause = cause; first = first line asks; after_is = refl; spelled = refl }))

pub late_if_open : (asked : Option Asked) (desk : Desk) → desk.late ≡ true → IsLateIfOpen asked desk
late_if_open None desk late = tt
late_if_open (Some (Open angle turns)) desk late = late
late_if_open (Some (Read slot)) desk late = tt
late_if_open (Some AskedQuit) desk late = tt

-- an error that `?` hands on
pub err_is : {A E : Type 0} (r : Result A E) (e : E) → IsErr r × IsErrAnd r (λ x. x ≡ e) → r ≡ Err e
err_is {E = E} (Ok a) e h = absurd h.1
err_is {E = E} (Err x) e h = ap (λ (y : E). Err y) h.1

pub after_end : (rounds exponent : ℕ) (start : Streams) (desk : Desk) (count : ℕ) (s : Streams)
    (r : Result (Option ℕ) TalkEnd) (end : TalkEnd) → r ≡ Err end
    → HasEnded rounds exponent start end desk s → IsAfterLine rounds exponent start r desk count s
after_end rounds exponent start desk count s r end is ended =
    subst (λ (x : Result (Option ℕ) TalkEnd). IsAfterLine rounds exponent start x desk count s) (sym is) ended

pub next_end : (rounds exponent : ℕ) (start : Streams) (desk : Desk) (count : ℕ) (s : Streams) (r : Result ℕ TalkEnd)
    (end : TalkEnd) → r ≡ Err end
    → HasEnded rounds exponent start end desk s → IsNext rounds exponent start r desk count s
next_end rounds exponent start desk count s r end is ended =
    subst (λ (x : Result ℕ TalkEnd). IsNext rounds exponent start x desk count s) (sym is) ended

module _ {S O : Type 0} (left : S → Option (List ℕ)) (read_faults : S → ℕ) (taken : O → Option (List ℕ))
    (write_faults : O → ℕ) (t u : Talk S O)
    (rounds exponent : ℕ) (start : Streams) (desk after : Desk) (asked : Option Asked) (reply : List ℕ)
    (heard : HasHeard rounds exponent start asked desk t.count (streams left read_faults taken write_faults t))
    (answer : (line : Option (List ℕ)) → IsAsked line asked
    → IsReply rounds exponent t.count desk line after reply) where
  -- a reply was said, or some of it
  pub said_any : u.lines ≡ t.lines → write_faults t.out ≤ write_faults u.out → u.count ≡ t.count
      → (r : Result (Unit {0}) TalkEnd)
      → IfOk r (λ _. GrewBy (taken t.out) (taken u.out) reply)
      → IfErr r (λ _. GrewByPrefix (taken t.out) (taken u.out) reply)
      → IfErr r (IsSpeechEnd (write_faults t.out) (write_faults u.out))
      → IfOk r (λ _. HasTalked rounds exponent start after u.count (streams left read_faults taken write_faults u))
      × IfErr r (λ end. HasEnded rounds exponent start end after (streams left read_faults taken write_faults u))
  said_any same counted is (Ok a) said part cut = (
    said_reply left read_faults taken write_faults t u rounds exponent start desk after asked reply heard
        answer same counted is said,
    tt,
  )
  said_any same counted is (Err end) said part cut = (
    tt,
    said_part left read_faults taken write_faults t u rounds exponent start desk after asked reply heard
        answer same counted end cut part,
  )

  -- for want of memory nothing was said
  pub said_none : (r : Result (Unit {0}) TalkEnd) → r ≡ Err (Failed NoMemory)
      → IfOk r (λ _. HasTalked rounds exponent start after t.count (streams left read_faults taken write_faults t))
      × IfErr r (λ end. HasEnded rounds exponent start end after (streams left read_faults taken write_faults t))
  said_none r is =
      subst (λ (x : Result (Unit {0}) TalkEnd).
      IfOk x (λ _. HasTalked rounds exponent start after t.count (streams left read_faults taken write_faults t))
      × IfErr x (λ end. HasEnded rounds exponent start end after (streams left read_faults taken write_faults t)))
      (sym is) (
        tt,
        said_part left read_faults taken write_faults t t rounds exponent start desk after asked reply heard answer
            refl (omega arith) (Failed NoMemory) tt
            (none-prefix (taken t.out) reply),
      )
