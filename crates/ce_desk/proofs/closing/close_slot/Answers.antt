use Rattle.std.proofs.Common.{◌≡◌, ℕ, sym, subst, ◌∙◌, ap}
use Rattle.atomic_table.specs.declared.shared.Seat.{Seat}
use Rattle.ce_words.specs.Steps.{IsSettled, WasSet}
use Rattle.ce_words.specs.Views.{view, both_of}
use Rattle.ce_words.specs.declared.view.View.{View}
use Rattle.ce_desk.specs.DeskText.{Closes}
use Rattle.ce_desk.proofs.Closed.{closes}
use Rattle.ce_desk.proofs.closing.close_slot.Goals as goal

pub returns : goal.returns
returns c = λ slot first done.
    let low = c.settled-interval.result.low in
    let high = c.settled-interval.result.high in
    let joined : view c.join.new.first ≡ both_of (view c.args.first.now) (view c.args.worker.seat) =
    c.join.ensures.view
    ∙ ap (λ (s : Seat (Unit {0}) View). both_of (view c.args.first.now) (view s)) c.pause-room.ensures.1 in
    let s = subst (λ (v : View). IsSettled v low high) joined c.settled-interval.ensures.settled in
    subst (λ (n : ℕ). Closes slot (record { interval = record { low = low; high = high }; turns = n }))
    (sym c.done-turns.ensures)
    (closes c.args.board.now slot c.args.first.now c.args.worker first done low high s
    (subst WasSet joined c.settled-interval.ensures.set))
