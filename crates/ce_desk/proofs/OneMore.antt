-- One line more, one reply more, and streams that are later still.
use Rattle.std.proofs.Common.{◌≤◌, ◌+◌, ℕ, List, [], ◌∷◌, ◌++◌, length, Option, None, Some, inl, inr, refl, sym}
use Rattle.std.proofs.Common.{ap, ◌∙◌, subst, append_assoc, append-nil, length-append, arith}
use Rattle.std.specs.Io.KnownBytes.{Consumes}
use Rattle.std.proofs.KnownBytes.{Consumes-trans, Consumes-nil}
use Rattle.ce_lines.specs.Lines.{TookOne, TookLines}
use Rattle.ce_port.specs.Sink.{Rose}
use Rattle.ce_desk.specs.Desk.{Desk}
use Rattle.ce_desk.specs.DeskText.{IsReply, AreReplies}
use Rattle.ce_desk.specs.TalksInside.{Streams, IsLater}

-- what is taken after nothing is taken at once
took_after_none : (a b c : Option (List ℕ)) (line : Option (List ℕ)) → Consumes a b []
    → TookOne b c line → TookOne a c line
took_after_none a b c (Some text) none took = (
  took.0,
  record {
    one = took.1.one;
    took = Consumes-trans a b c [] (text ++ 10 ∷ []) none took.1.took;
  },
)
took_after_none a b c None none (text, inl long) = (
  text,
  inl (
    long.0,
    record {
      one = long.1.one;
      took = Consumes-trans a b c [] (text ++ 10 ∷ []) none long.1.took;
    },
  ),
)
took_after_none a b c None none (text, inr rest) = (
  text,
  inr (record {
    some = rest.some;
    one = rest.one;
    took = Consumes-trans a b c [] text none rest.took;
    end = rest.end;
  }),
)

pub one_line_more : (a b c : Option (List ℕ)) (lines : List (Option (List ℕ))) (line : Option (List ℕ))
    → TookLines a b lines → TookOne b c line
    → TookLines a c (lines ++ line ∷ [])
one_line_more a b c [] line took one = (c, took_after_none a b c line took one, Consumes-nil c)
one_line_more a b c (x ∷ xs) line took one = (took.0, took.1, one_line_more took.0 b c xs line took.2 one)

pub one_reply_more : (rounds exponent k : ℕ) (desk between after : Desk) (lines : List (Option (List ℕ)))
    (line : Option (List ℕ)) (text reply : List ℕ)
    → AreReplies rounds exponent k desk lines between text
    → IsReply rounds exponent (k + length lines) between line after reply
    → AreReplies rounds exponent k desk (lines ++ line ∷ []) after (text ++ reply)
one_reply_more rounds exponent k desk between after [] line text reply replies one =
    let here : IsReply rounds exponent k desk line after reply =
    subst (λ (d : Desk). IsReply rounds exponent k d line after reply) replies.0
    (subst (λ (n : ℕ). IsReply rounds exponent n between line after reply) (omega arith) one) in
    (after, reply, [], here, (refl, refl), ap (λ (t : List ℕ). t ++ reply) replies.1 ∙ sym (append-nil reply))
one_reply_more rounds exponent k desk between after (x ∷ xs) line text reply
    (next, first, rest, is, more, spelled) one =
    let last : IsReply rounds exponent ((k + 1) + length xs) between line after reply =
    subst (λ (n : ℕ). IsReply rounds exponent n between line after reply) (omega arith) one in (
      next,
      first,
      rest ++ reply,
      is,
      one_reply_more rounds exponent (k + 1) next between after
          xs line rest reply more last,
      ap (λ (t : List ℕ). t ++ reply) spelled ∙ append_assoc first rest reply,
    )

pub later_more : (a b c : Streams) → IsLater a b → IsLater b c → IsLater a c
later_more a b c first next = record {
  more = first.more + next.more;
  gave = (
    first.gave.0 ++ next.gave.0,
    (let long = length-append first.gave.0 next.gave.0 in let x = first.gave.1 in let y =
        next.gave.1 in omega (arith, long, x, y)),
    Consumes-trans a.left b.left c.left first.gave.0 next.gave.0 first.gave.2 next.gave.2,
  );
  given = omega (arith, first.given, next.given);
  read = omega (arith, first.read, next.read);
  wrote = omega (arith, first.wrote, next.wrote);
}

pub rose_since : (a b c : ℕ) → a ≤ b → Rose b c → Rose a c
rose_since a b c first rose = omega (arith, first, rose)
