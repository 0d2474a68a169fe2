-- What a talk that ended comes to, with the closing lines.
use Rattle.std.proofs.Common.{◌≡◌, ℕ, Bool, true, false, List, [], ◌∷◌, ◌++◌, Option, None, Some, inl}
use Rattle.std.proofs.Common.{inr, refl}
use Rattle.std.proofs.Common.{sym, ap, subst, arith}
use Rattle.std.specs.Prelude.{codes}
use Rattle.std.specs.Io.KnownBytes.{Consumes, IsAtEnd, prepend_known}
use Rattle.std.proofs.KnownBytes.{Consumes-trans}
use Rattle.ce_lines.specs.Asks.{IsAsked}
use Rattle.ce_lines.specs.Bytes.{ahead}
use Rattle.ce_lines.specs.Lines.{TookOne}
use Rattle.ce_lines.specs.declared.asked.Asked.TheVariants.{Quit as AskedQuit}
use Rattle.ce_port.specs.Sink.{GrewBy}
use Rattle.ce_port.specs.WriteAll.{GrewByPrefix}
use Rattle.ce_port.proofs.Grown.{GrewBy-trans}
use Rattle.ce_port.proofs.Paging.{prefix-after}
use Rattle.ce_desk.specs.Desk.{Desk}
use Rattle.ce_desk.specs.DeskText.{AllClose, IsDeskText, closing_text}
use Rattle.ce_desk.specs.Served.{ServedAll, ServedSome}
use Rattle.ce_desk.specs.ServedInside.{at_start}
use Rattle.ce_desk.specs.TalksInside.{Streams, streams, HasTalked, HasTalkedTo, HasEnded, IsGood, quits_at}
use Rattle.ce_desk.specs.declared.closing.Closing.{Closing}
use Rattle.ce_desk.specs.declared.talk.Talk.{Talk}
use Rattle.ce_desk.specs.declared.talk.TalkEnd.{TalkEnd}
use Rattle.ce_desk.specs.declared.talk.TalkEnd.TheVariants.{Quit, Silence, Fault as Failed}

-- what was read ahead is what is known beyond what the source has left
pub consumed_known : (bytes : List ℕ) (known : Option (List ℕ)) → Consumes (prepend_known bytes known) known bytes
consumed_known bytes None = tt
consumed_known bytes (Some xs) = refl

end_known : (bytes : List ℕ) (known between : Option (List ℕ)) → IsAtEnd (prepend_known bytes known)
    → Consumes between (prepend_known bytes known) []
    → Consumes between known [] × IsAtEnd known
end_known bytes None between end took = (took, end)
end_known [] (Some xs) between end took = (took, end)
end_known (b ∷ bs) (Some xs) between end took = absurd (cc)

is_quit : (line : Option (List ℕ)) → IsAsked line (Some AskedQuit) → line ≡ Some (codes "quit")
is_quit None h = absurd h
is_quit (Some text) h = ap (λ (t : List ℕ). Some t) h

pub one_bytes : (line : Option (List ℕ)) (a b : Option (List ℕ)) → TookOne a b line
    → (bytes : List ℕ) × Consumes a b bytes
one_bytes (Some text) a b took = (text ++ 10 ∷ [], took.1.took)
one_bytes None a b (text, inl long) = (text ++ 10 ∷ [], long.1.took)
one_bytes None a b (text, inr rest) = (text, rest.took)

module _ {S O : Type 0} (left : S → Option (List ℕ)) (read_faults : S → ℕ) (taken : O → Option (List ℕ))
    (write_faults : O → ℕ) (rounds exponent : ℕ)
    (source : S) (out : O) (t : Talk S O) (desk : Desk) (closings : List Closing)
    (close : AllClose desk.slots closings) where
  abbrev start : Streams
  start = at_start left read_faults taken write_faults source out

  abbrev now : Streams
  now = streams left read_faults taken write_faults t

  abbrev beyond : List ℕ
  beyond = ahead t.lines.bytes

  whole_text : (count : ℕ) (s : Streams) (k : HasTalked rounds exponent start desk count s) (quits : Bool)
      → IsDeskText rounds exponent k.lines quits (k.text ++ closing_text closings quits)
  whole_text count s k quits =
      record {
        desk = desk;
        replies = k.text;
        are_replies = k.replies;
        closings =
            closings;
        close = close;
        spelled = refl;
      }

  -- the replies stand whole before the closing lines
  replies_stand : {Took : Option (List ℕ) → Option (List ℕ) → Type 0} (count : ℕ)
      (k : HasTalkedTo rounds exponent start Took desk count now)
      → GrewBy start.taken now.taken k.talked.text
  replies_stand count k =
      subst (λ (o : Option (List ℕ)). GrewBy start.taken o k.talked.text) (sym k.silent) k.talked.grew

  module _ (after : Option (List ℕ)) where
    pub quit_all : HasEnded rounds exponent start Quit desk now → GrewBy now.taken after (closing_text closings true)
        → ServedAll rounds exponent (left source) now.left (taken out) after
    quit_all (count, h) said =
        let k = h.heard.talked in
        let quits = subst (λ (l : Option (List ℕ)). TookOne h.heard.between.ahead now.ahead l)
        (is_quit h.line h.asks) h.heard.took in (
          k.lines,
          true,
          k.text ++ closing_text closings true,
          record {
            between = h.heard.between.ahead;
            took = k.took;
            ends = (now.ahead, beyond, quits.1, consumed_known beyond now.left);
            count = h.heard.later.more;
            within = (let g = h.heard.later.given in let m = h.within in omega (arith, g, m));
            gave = h.heard.later.gave;
          },
          whole_text h.before h.heard.between k true,
          GrewBy-trans start.taken now.taken after k.text
              (closing_text closings true) (replies_stand h.before h.heard) said,
        )

    pub silence_all : HasEnded rounds exponent start Silence desk now
        → GrewBy now.taken after (closing_text closings false)
        → ServedAll rounds exponent (left source) now.left (taken out) after
    silence_all (count, h, within) said =
        let k = h.talked in
        let end = end_known beyond now.left h.between.ahead h.took.1 h.took.0 in (
          k.lines,
          false,
          k.text ++ closing_text closings false,
          record {
            between = h.between.ahead;
            took = k.took;
            ends = end;
            count = h.later.more;
            within = (let g = h.later.given in omega (arith, g, within));
            gave = h.later.gave;
          },
          whole_text count h.between k false,
          GrewBy-trans start.taken now.taken after k.text
              (closing_text closings false) (replies_stand count h) said,
        )

    -- the closing lines were cut off
    part_to : {Took : Option (List ℕ) → Option (List ℕ) → Type 0} (count : ℕ)
        (k : HasTalkedTo rounds exponent start Took desk count now)
        → ((a b : Option (List ℕ)) → Took a b → (bytes : List ℕ) × Consumes a b bytes) → (quits : Bool)
        → GrewByPrefix now.taken after (closing_text closings quits)
        → ServedSome rounds exponent (left source) now.left (taken out) after
    part_to count k bytes quits part =
        let took = bytes k.between.ahead now.ahead k.took in (
          k.talked.lines,
          k.talked.text ++ closing_text closings quits,
          record {
            between = k.between.ahead;
            took = k.talked.took;
            ahead = took.0 ++ beyond;
            more = Consumes-trans k.between.ahead now.ahead now.left took.0 beyond took.1
                (consumed_known beyond now.left);
          },
          inl (quits, whole_text count k.between k.talked quits),
          prefix-after start.taken now.taken after k.talked.text (closing_text closings quits)
              (replies_stand count k) part,
        )

  pub part_all : (after : Option (List ℕ)) (end : TalkEnd) → IsGood end → HasEnded rounds exponent start end desk now
      → GrewByPrefix now.taken after (closing_text closings (quits_at end))
      → ServedSome rounds exponent (left source) now.left (taken out) after
  part_all after Quit good (count, h) part = part_to after h.before h.heard (one_bytes h.line) true part
  part_all after Silence good (count, h, within) part = part_to after count h (λ a b took. ([], took.0)) false part
  part_all after (Failed fault) good h part = absurd good
