-- A line that was answered is not `quit`.
use Rattle.std.proofs.Common.{◌≡◌, ◌≢◌, ◌+◌, ℕ, All, List, [], ◌∷◌, get_or, Option, None, Some, inl, inr, sym, ap, ◌∙◌}
use Rattle.std.proofs.Common.{arith}
use Rattle.std.specs.Prelude.{codes}
use Rattle.std.proofs.lemmas.List.Elements.{All-nil, All-cons}
use Rattle.ce_lines.specs.Asks.{AsksOpen, AsksRead, IsAsked}
use Rattle.ce_desk.specs.Desk.{Desk, IsFirstCause}
use Rattle.ce_desk.specs.DeskText.{IsReply, AreReplies}
use Rattle.ce_desk.specs.declared.cause.Cause.{Cause}
use Rattle.ce_desk.specs.declared.cause.Cause.TheVariants as cause

-- It opens or reads, or it is refused, and `quit` is none of these.
opens_no_quit : (text word : List ℕ) (turns : ℕ) → AsksOpen text word turns → text ≡ codes "quit" → ⊥
opens_no_quit text word turns asks quit =
    let first : 111 ≡ 113 = ap (λ (l : List ℕ). get_or l 0 0) (sym asks.spelled ∙ quit) in
    absurd (omega (arith, first))

reads_no_quit : (text : List ℕ) (slot : ℕ) → AsksRead text slot → text ≡ codes "quit" → ⊥
reads_no_quit text slot asks quit =
    let first : 114 ≡ 113 = ap (λ (l : List ℕ). get_or l 0 0) (sym asks.spelled ∙ quit) in
    absurd (omega (arith, first))

same_text : (a b : List ℕ) → ◌≡◌ {A = Option (List ℕ)} (Some a) (Some b) → a ≡ b
same_text a b same = cc

formless_no_quit : (line : Option (List ℕ)) → IsAsked line None → line ≡ Some (codes "quit") → ⊥
formless_no_quit None formless quit = absurd (cc)
formless_no_quit (Some text) formless quit = formless.no_quit (same_text text (codes "quit") quit)

in_time_no_quit : (line : Option (List ℕ)) (text word : List ℕ) (turns : ℕ)
    → line ≡ Some text → AsksOpen text word turns
    → line ≡ Some (codes "quit") → ⊥
in_time_no_quit line text word turns is asks quit =
    opens_no_quit text word turns asks (same_text text (codes "quit") (sym is ∙ quit))

refused_no_quit : (desk : Desk) (line : Option (List ℕ)) (c : Cause) → IsFirstCause desk line c
    → line ≡ Some (codes "quit") → ⊥
refused_no_quit desk line cause.Form first quit = formless_no_quit line first quit
refused_no_quit desk line cause.Late first quit =
    in_time_no_quit line first.text first.word first.turns first.line_is first.asks quit
refused_no_quit desk line cause.NoSlot first quit =
    reads_no_quit first.text first.slot first.asks (same_text first.text (codes "quit") (sym first.line_is ∙ quit))
refused_no_quit desk line (cause.Angle error) (word, turns, o, free) quit =
    in_time_no_quit line o.text word turns o.line_is o.asks quit
refused_no_quit desk line cause.OrbitTooLong (word, turns, o, free) quit =
    in_time_no_quit line o.text word turns o.line_is o.asks quit
refused_no_quit desk line cause.Full (word, turns, o, free) quit =
    in_time_no_quit line o.text word turns o.line_is o.asks quit
refused_no_quit desk line cause.NoMemory (word, turns, o, free) quit =
    in_time_no_quit line o.text word turns o.line_is o.asks quit

answered_no_quit : (rounds exponent k : ℕ) (desk : Desk) (line : Option (List ℕ)) (after : Desk) (text : List ℕ)
    → IsReply rounds exponent k desk line after text → line ≢ Some (codes "quit")
answered_no_quit rounds exponent k desk line after text (inl o) quit =
    in_time_no_quit line o.in_time.text o.word o.turns o.in_time.line_is o.in_time.asks quit
answered_no_quit rounds exponent k desk line after text (inr (inl r)) quit =
    reads_no_quit r.asked r.number r.asks (same_text r.asked (codes "quit") (sym r.line_is ∙ quit))
answered_no_quit rounds exponent k desk line after text (inr (inr r)) quit =
    refused_no_quit desk line r.cause r.first quit

pub no_quit_answered : (rounds exponent k : ℕ) (desk : Desk) (lines : List (Option (List ℕ)))
    (after : Desk) (text : List ℕ)
    → AreReplies rounds exponent k desk lines after text
    → All (λ (line : Option (List ℕ)). line ≢ Some (codes "quit")) lines
no_quit_answered rounds exponent k desk [] after text replies =
    All-nil (λ (line : Option (List ℕ)). line ≢ Some (codes "quit"))
no_quit_answered rounds exponent k desk (line ∷ lines) after text (next, reply, rest, is, more, spelled) =
    All-cons (λ (l : Option (List ℕ)). l ≢ Some (codes "quit")) line lines
    (answered_no_quit rounds exponent k desk line next reply is)
    (no_quit_answered rounds exponent (k + 1) next lines after rest more)
