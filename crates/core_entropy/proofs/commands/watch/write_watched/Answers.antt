use Rattle.std.proofs.Common.{◌≡◌, ◌++◌, List, ℕ, ap, inr, string_bytes, subst}
use Rattle.std.specs.List.{flat_map}
use Rattle.ce_port.specs.Sink.{GrewBy}
use Rattle.ce_port.specs.WriteAll.{GrewByPrefix}
use Rattle.core_entropy.specs.Angle.{line_of}
use Rattle.core_entropy.specs.Watch.{reading_line, watch_text}
use Rattle.core_entropy.specs.declared.status.Status.TheVariants.{NoMemory, WriteFault}
use Rattle.ce_desk.proofs.OneMore.{rose_since}
use Rattle.core_entropy.proofs.Ended.{wrote_by, wrote_stopped}
use Rattle.core_entropy.proofs.Paged.{paged_part, paged_rest, paged_stays, paged_whole}
use Rattle.core_entropy.proofs.commands.watch.write_watched.Goals as goal

pub returns-in_err-write_readings-clause-wrote : goal.returns-in_err-write_readings-clause-wrote
returns-in_err-write_readings-clause-wrote g c =
    let start = string_bytes c.new-page.result in
    let lines = flat_map reading_line c.args.readings.now in
    let end = line_of c.args.angle c.args.scale c.args.interval in
    let Text : List ℕ → Type 0 =
    λ text. text ≡ watch_text c.args.angle c.args.scale c.args.readings.now c.args.interval in
    let is : Text ((start ++ lines) ++ end) = ap (λ (s : List ℕ). (s ++ lines) ++ end) c.new-page.ensures.bytes in
    let e = c.in_err-write_readings in
    let part = paged_part Text start lines end is (g.O.Sink.taken c.args.out.now)
    (g.O.Sink.taken c.write_readings.new.out) e.ensures.part in
    wrote_by g.O.Sink.taken g.O.Sink.faults c.args.out.now c.write_readings.new.out _ c.from_residual.result
    e.field-0.0 c.from_residual.ensures.1
    (wrote_stopped g.O.Sink.taken g.O.Sink.faults c.args.out.now c.write_readings.new.out _
    e.field-0.0 e.ensures.stopped part)

pub returns-in_err-append_line-clause-wrote : goal.returns-in_err-append_line-clause-wrote
returns-in_err-append_line-clause-wrote g c =
    let start = string_bytes c.new-page.result in
    let lines = flat_map reading_line c.args.readings.now in
    let end = line_of c.args.angle c.args.scale c.args.interval in
    let Text : List ℕ → Type 0 =
    λ text. text ≡ watch_text c.args.angle c.args.scale c.args.readings.now c.args.interval in
    let is : Text ((start ++ lines) ++ end) = ap (λ (s : List ℕ). (s ++ lines) ++ end) c.new-page.ensures.bytes in
    let part = paged_stays Text start lines end is (g.O.Sink.taken c.args.out.now)
    (g.O.Sink.taken c.write_readings.new.out) (string_bytes c.write_readings.new.page)
    c.in_ok-write_readings.ensures.done in
    wrote_by g.O.Sink.taken g.O.Sink.faults c.args.out.now c.write_readings.new.out _
    c.from_residual-in_err-append_line.result NoMemory c.from_residual-in_err-append_line.ensures.1 (inr part)

pub returns-in_err-write_piece-clause-wrote : goal.returns-in_err-write_piece-clause-wrote
returns-in_err-write_piece-clause-wrote g c =
    let start = string_bytes c.new-page.result in
    let lines = flat_map reading_line c.args.readings.now in
    let end = line_of c.args.angle c.args.scale c.args.interval in
    let Text : List ℕ → Type 0 =
    λ text. text ≡ watch_text c.args.angle c.args.scale c.args.readings.now c.args.interval in
    let is : Text ((start ++ lines) ++ end) = ap (λ (s : List ℕ). (s ++ lines) ++ end) c.new-page.ensures.bytes in
    let written =
    subst (λ (t : List ℕ). GrewByPrefix (g.O.Sink.taken c.write_readings.new.out)
    (g.O.Sink.taken c.write_piece.new.out) t) c.as_bytes.ensures.value c.in_err-write_piece.ensures.part in
    let part = paged_rest Text start lines end is (g.O.Sink.taken c.args.out.now)
    (g.O.Sink.taken c.write_readings.new.out) (string_bytes c.write_readings.new.page)
    c.in_ok-write_readings.ensures.done (g.O.Sink.taken c.write_piece.new.out) (string_bytes c.append_line.new.text)
    c.in_ok-append_line.ensures written in
    wrote_by g.O.Sink.taken g.O.Sink.faults c.args.out.now c.write_piece.new.out _
    c.from_residual-in_err-write_piece.result WriteFault c.from_residual-in_err-write_piece.ensures.1
    (part, rose_since _ _ _ c.in_ok-write_readings.ensures.counted c.in_err-write_piece.ensures.fault)

pub returns-clause-wrote : goal.returns-clause-wrote
returns-clause-wrote g c =
    let start = string_bytes c.new-page.result in
    let lines = flat_map reading_line c.args.readings.now in
    let end = line_of c.args.angle c.args.scale c.args.interval in
    let Text : List ℕ → Type 0 =
    λ text. text ≡ watch_text c.args.angle c.args.scale c.args.readings.now c.args.interval in
    let is : Text ((start ++ lines) ++ end) = ap (λ (s : List ℕ). (s ++ lines) ++ end) c.new-page.ensures.bytes in
    let written =
    subst (λ (t : List ℕ). GrewBy (g.O.Sink.taken c.write_readings.new.out) (g.O.Sink.taken c.write_piece.new.out)
    t) c.as_bytes.ensures.value c.in_ok-write_piece.ensures.whole in
    paged_whole Text start lines end is (g.O.Sink.taken c.args.out.now) (g.O.Sink.taken c.write_readings.new.out)
    (string_bytes c.write_readings.new.page) c.in_ok-write_readings.ensures.done
    (g.O.Sink.taken c.write_piece.new.out) (string_bytes c.append_line.new.text) c.in_ok-append_line.ensures written
