use Rattle.std.proofs.Common.{◌≡◌, ◌≤◌, ◌^◌, length, ℕ, ap, sym, ◌∙◌, arith}
use Rattle.std.specs.List.{flat_map}
use Rattle.ce_rows.specs.Rows.{ScaledRows}
use Rattle.ce_rows.proofs.Rates.{low_at_most_high_of_rows}
use Rattle.ce_words.specs.Seats.{board_run}
use Rattle.ce_words.specs.Views.{view, rows_of, kept}
use Rattle.ce_words.specs.declared.view.Run.{Run}
use Rattle.ce_crew.specs.Turn.{relaxing_acts, entries_between}
use Rattle.ce_crew.proofs.Grown.{on_entries-flat_map}
use Rattle.ce_crew.proofs.Sweeps.{seen_stays, part_loaded, relaxing_on_entries}
use Rattle.ce_crew.proofs.Turns.{turn_goes_on, all_loaded, offers_at_end}
use Rattle.ce_crew.proofs.turning.sweep.Goals as goal

pub between-relaxer-requires-clause-low_most : goal.between-relaxer-requires-clause-low_most
between-relaxer-requires-clause-low_most c =
    let run = board_run c.args.board.now in let q = c.requires in
    let one : 2 ^ c.scale.result ≡ 2 ^ run.exponent = ap (λ (e : ℕ). 2 ^ e)
    (c.scale.ensures.value ∙ ap (λ (r : ScaledRows). r.exponent) q.graph.rows_are) in
    let order = low_at_most_high_of_rows (rows_of run) c.args.sight.bounds.low c.args.sight.bounds.high
    q.encloses.below q.encloses.above in
    omega (arith, one, order, q.inside.to, q.start.to)

pub between-relaxer-requires-clause-high : goal.between-relaxer-requires-clause-high
between-relaxer-requires-clause-high c =
    let run = board_run c.args.board.now in let q = c.requires in
    let one : 2 ^ c.scale.result ≡ 2 ^ run.exponent = ap (λ (e : ℕ). 2 ^ e)
    (c.scale.ensures.value ∙ ap (λ (r : ScaledRows). r.exponent) q.graph.rows_are) in
    let order = low_at_most_high_of_rows (rows_of run) c.args.sight.bounds.low c.args.sight.bounds.high
    q.encloses.below q.encloses.above in
    omega (arith, one, order, q.inside.from, q.start.from)

pub rescale_or_ask-made-requires-clause-loaded : goal.rescale_or_ask-made-requires-clause-loaded
rescale_or_ask-made-requires-clause-loaded c =
    let run = board_run c.args.board.now in let q = c.requires in let s = c.relax_part-greatest in
    let within : c.args.part.to ≤ length run.rows = omega (
      arith,
      q.within,
      ap (λ (r : ScaledRows). length r.list)
          q.graph.rows_are,
    ) in
    part_loaded run (view c.args.seat.now) (view s.new.seat) s.result c.args.copy.now s.new.copy c.args.part
    q.seat.run q.start q.copy.each within s.ensures.gains

pub rescale_or_ask-made-requires-clause-asked : goal.rescale_or_ask-made-requires-clause-asked
rescale_or_ask-made-requires-clause-asked c =
    let run = board_run c.args.board.now in let q = c.requires in let s = c.relax_part-greatest in
    let w = view s.new.seat in
    let acts = flat_map (relaxing_acts run) (entries_between c.args.part.from c.args.part.to) in
    let sees = seen_stays run (view c.args.seat.now) w acts s.result c.args.copy.now s.new.copy q.seat.run q.start
    q.copy.each
    (on_entries-flat_map (relaxing_acts run) (relaxing_on_entries run)
    (entries_between c.args.part.from c.args.part.to)) s.ensures.gains in
    q.asked ∙ (sym sees.shift ∙ ap (λ (r : Run). (kept r w.place.log).shift) s.ensures.work.sits.run)

pub certify-bounds-requires-clause-loaded : goal.certify-bounds-requires-clause-loaded
certify-bounds-requires-clause-loaded c =
    let run = board_run c.args.board.now in let q = c.requires in let r = c.rescale_or_ask-made in let s = c.load_all in
    let all : c.len.result ≡ length run.rows = c.len.ensures.value ∙ ap (λ (x : ScaledRows). length x.list)
    q.graph.rows_are in
    all_loaded run (view r.new.seat) (view s.new.seat) c.len.result r.new.copy s.new.copy r.ensures.work.sits.run
    q.start r.ensures.work.vector.each all s.ensures.gains

pub returns-clause-finishes : goal.returns-clause-finishes
returns-clause-finishes c =
    let run = board_run c.args.board.now in let q = c.requires in
    let one = c.relax_part-greatest in let two = c.rescale_or_ask-made in let three = c.load_all in
    let four = c.certify-bounds in
    let all : c.len.result ≡ length run.rows = c.len.ensures.value ∙ ap (λ (x : ScaledRows). length x.list)
    q.graph.rows_are in
    turn_goes_on run c.args.part c.args.made c.args.sight.asked one.result c.len.result (view c.args.seat.now)
    (view one.new.seat) (view two.new.seat) (view three.new.seat) (view four.new.seat)
    c.args.copy.now one.new.copy two.new.copy three.new.copy one.ensures.gains two.ensures.rescaling
    three.ensures.gains all four.ensures.gains

pub returns-clause-offers : goal.returns-clause-offers
returns-clause-offers c =
    let run = board_run c.args.board.now in let q = c.requires in
    let one = c.relax_part-greatest in let two = c.rescale_or_ask-made in let three = c.load_all in
    let four = c.certify-bounds in
    let all : c.len.result ≡ length run.rows = c.len.ensures.value ∙ ap (λ (x : ScaledRows). length x.list)
    q.graph.rows_are in
    let copy = all_loaded run (view two.new.seat) (view three.new.seat) c.len.result two.new.copy three.new.copy
    two.ensures.work.sits.run q.start two.ensures.work.vector.each all three.ensures.gains in
    offers_at_end run four.result c.args.part c.args.made c.args.sight.asked one.result c.len.result
    (view c.args.seat.now) (view one.new.seat) (view two.new.seat) (view three.new.seat) (view four.new.seat)
    c.args.copy.now one.new.copy two.new.copy three.new.copy one.ensures.gains two.ensures.rescaling
    three.ensures.gains four.ensures.offers copy
