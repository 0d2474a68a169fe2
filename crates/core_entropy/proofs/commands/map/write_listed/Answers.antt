use Rattle.std.proofs.Common.{◌≡◌, ◌++◌, ℕ, List, inr, length, refl, subst}
use Rattle.std.specs.List.{flat_map}
use Rattle.ce_map.specs.Grammar.{end_line, item_text}
use Rattle.ce_port.specs.Sink.{GrewBy}
use Rattle.ce_port.specs.WriteAll.{GrewByPrefix}
use Rattle.core_entropy.specs.declared.status.Status.TheVariants.{NoMemory, WriteFault}
use Rattle.ce_desk.proofs.OneMore.{rose_since}
use Rattle.core_entropy.proofs.Ended.{wrote_by, wrote_stopped}
use Rattle.core_entropy.proofs.Paged.{paged_part, paged_rest, paged_stays, paged_whole}
use Rattle.core_entropy.proofs.commands.map.write_listed.Goals as goal

pub returns-in_err-write_solved-clause-wrote : goal.returns-in_err-write_solved-clause-wrote
returns-in_err-write_solved-clause-wrote g c = λ items are.
    let start = c.args.page.items in
    let list = flat_map (item_text 2) items in
    let end = end_line (length c.args.angles.now) in
    let e = c.in_err-write_solved in
    let part = paged_part (λ text. text ≡ (start ++ list) ++ end) start list end refl (g.O.Sink.taken c.args.out.now)
    (g.O.Sink.taken c.write_solved.new.out) (e.ensures.part items are) in
    wrote_by g.O.Sink.taken g.O.Sink.faults c.args.out.now c.write_solved.new.out _ c.from_residual.result
    e.field-0.0 c.from_residual.ensures.1
    (wrote_stopped g.O.Sink.taken g.O.Sink.faults c.args.out.now c.write_solved.new.out _
    e.field-0.0 e.ensures.stopped part)

pub returns-in_err-append_end-clause-wrote : goal.returns-in_err-append_end-clause-wrote
returns-in_err-append_end-clause-wrote g c = λ items are.
    let start = c.args.page.items in
    let list = flat_map (item_text 2) items in
    let end = end_line (length c.args.angles.now) in
    let part = paged_stays (λ text. text ≡ (start ++ list) ++ end) start list end refl (g.O.Sink.taken c.args.out.now)
    (g.O.Sink.taken c.write_solved.new.out) c.write_solved.new.page.items
    (c.in_ok-write_solved.ensures.done items are) in
    wrote_by g.O.Sink.taken g.O.Sink.faults c.args.out.now c.write_solved.new.out _
    c.from_residual-in_err-append_end.result NoMemory c.from_residual-in_err-append_end.ensures.1 (inr part)

pub returns-in_err-write_piece-clause-wrote : goal.returns-in_err-write_piece-clause-wrote
returns-in_err-write_piece-clause-wrote g c = λ items are.
    let start = c.args.page.items in
    let list = flat_map (item_text 2) items in
    let end = end_line (length c.args.angles.now) in
    let written =
    subst (λ (t : List ℕ). GrewByPrefix (g.O.Sink.taken c.write_solved.new.out)
    (g.O.Sink.taken c.write_piece.new.out) t) c.deref.ensures.value c.in_err-write_piece.ensures.part in
    let part = paged_rest (λ text. text ≡ (start ++ list) ++ end) start list end refl (g.O.Sink.taken c.args.out.now)
    (g.O.Sink.taken c.write_solved.new.out) c.write_solved.new.page.items
    (c.in_ok-write_solved.ensures.done items are) (g.O.Sink.taken c.write_piece.new.out) c.append_end.new.text.items
    c.in_ok-append_end.ensures.ok written in
    wrote_by g.O.Sink.taken g.O.Sink.faults c.args.out.now c.write_piece.new.out _
    c.from_residual-in_err-write_piece.result WriteFault c.from_residual-in_err-write_piece.ensures.1
    (part, rose_since _ _ _ c.in_ok-write_solved.ensures.counted c.in_err-write_piece.ensures.fault)

pub returns-clause-wrote : goal.returns-clause-wrote
returns-clause-wrote g c = λ items are.
    let start = c.args.page.items in
    let list = flat_map (item_text 2) items in
    let end = end_line (length c.args.angles.now) in
    let written =
    subst (λ (t : List ℕ). GrewBy (g.O.Sink.taken c.write_solved.new.out) (g.O.Sink.taken c.write_piece.new.out) t)
    c.deref.ensures.value c.in_ok-write_piece.ensures.whole in
    paged_whole (λ text. text ≡ (start ++ list) ++ end) start list end refl (g.O.Sink.taken c.args.out.now)
    (g.O.Sink.taken c.write_solved.new.out) c.write_solved.new.page.items
    (c.in_ok-write_solved.ensures.done items are) (g.O.Sink.taken c.write_piece.new.out) c.append_end.new.text.items
    c.in_ok-append_end.ensures.ok written
