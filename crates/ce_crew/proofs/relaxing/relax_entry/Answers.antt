use Rattle.std.proofs.Common.{◌≡◌, ◌<◌, ℕ, max, List, [], ◌∷◌, length, slice_index, subst, ap, ◌∙◌, arith}
use Rattle.ce_rows.specs.Blocks.{block_sum_of, block_images}
use Rattle.ce_rows.specs.Rows.{ScaledRows}
use Rattle.ce_rows.specs.declared.act.Act.TheVariants.{Loads, Relaxes}
use Rattle.ce_vector.specs.Relaxation.{relaxed, Between}
use Rattle.ce_words.specs.Seats.{board_run}
use Rattle.ce_words.specs.Views.{view, seen_low, seen_high}
use Rattle.ce_words.specs.declared.view.Run.{Run}
use Rattle.ce_words.specs.declared.view.View.{View}
use Rattle.ce_crew.specs.Gains.{Gains, IsGraphOf}
use Rattle.ce_crew.specs.Turn.{loads_of, relaxing_acts}
use Rattle.ce_crew.proofs.Gained.{gains_then, loads_then}
use Rattle.ce_crew.proofs.Sweeps.{stores_relaxed}
use Rattle.ce_crew.proofs.relaxing.relax_entry.Goals as goal

-- the loads of the entry and of its images, together
loads : (run : Run) (rows : ScaledRows) (ranks : List ℕ) (i : ℕ) (u v w : View) (xs ys zs : List ℕ)
    → IsGraphOf run rows ranks → Gains (Loads i ∷ []) 0 u v xs ys
    → Gains (loads_of (block_images rows.list ranks i)) 0 v w ys zs
    → Gains (Loads i ∷ loads_of (block_images run.rows run.ranks i)) 0 u w xs zs
loads run rows ranks i u v w xs ys zs g one two =
    let images : Gains (loads_of (block_images run.rows run.ranks i)) 0 v w ys zs =
    subst (λ (rs : List ℕ). Gains (loads_of (block_images run.rows rs i)) 0 v w ys zs) g.ranks_are
    (subst (λ (r : ScaledRows). Gains (loads_of (block_images r.list ranks i)) 0 v w ys zs) g.rows_are two) in
    loads_then (Loads i ∷ []) (loads_of (block_images run.rows run.ranks i)) u v w xs ys zs one images

pub store_relaxed-requires-clause-value : goal.store_relaxed-requires-clause-value
store_relaxed-requires-clause-value c =
    let run = board_run c.args.board.now in let i = c.args.i in let v = view c.args.seat.now in
    let one = c.load_one in let two = c.load_images-sum in let w = view two.new.seat in let g = c.requires.graph in
    let ys = two.new.copy in
    let both = loads run c.args.rows.now c.args.ranks.now i v (view one.new.seat) w c.args.copy.now one.new.copy ys
    g one.ensures.gains two.ensures.gains in
    let inside : i < length run.rows = subst (λ (rows : ScaledRows). i < length rows.list) g.rows_are
    c.requires.entry in
    let is = stores_relaxed run v w c.args.copy.now ys i c.requires.work.sits.run c.requires.start
    c.requires.work.vector.each inside both in
    let sum : two.result ≡ block_sum_of run.rows run.ranks ys i =
    two.ensures.sum ∙ (λ k. block_sum_of (g.rows_are k).list (g.ranks_are k) ys i) in
    let between = ap (λ (b : Between). relaxed b.exponent (slice_index ys i) two.result b.low b.high)
    c.requires.between in
    c.relax-value.ensures.value ∙ (between
    ∙ ((λ k. relaxed (g.rows_are k).exponent (slice_index ys i) (sum k) (seen_low v) (seen_high v)) ∙ is))

pub returns-clause-gains : goal.returns-clause-gains
returns-clause-gains c =
    let run = board_run c.args.board.now in let i = c.args.i in let v = view c.args.seat.now in
    let one = c.load_one in let two = c.load_images-sum in let w = view two.new.seat in let last = c.store_relaxed in
    let value = c.relax-value.result in
    let both = loads run c.args.rows.now c.args.ranks.now i v (view one.new.seat) w c.args.copy.now one.new.copy
    two.new.copy c.requires.graph one.ensures.gains two.ensures.gains in
    let all = gains_then (Loads i ∷ loads_of (block_images run.rows run.ranks i)) (Relaxes i ∷ []) 0 value v w
    (view last.new.seat) c.args.copy.now two.new.copy last.new.copy both last.ensures.gains in
    let zero : max 0 value ≡ value = omega arith in
    subst (λ (g : ℕ). Gains (relaxing_acts run i) g v (view last.new.seat) c.args.copy.now last.new.copy) zero all
