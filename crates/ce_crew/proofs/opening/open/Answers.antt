use Rattle.std.proofs.Common.{◌≡◌, Bool, [], ◌∷◌, refl, ap, ◌∙◌}
use Rattle.std.specs.Prelude.{if◌then◌else◌}
use Rattle.ce_rows.specs.Events.{Shared}
use Rattle.ce_rows.specs.declared.act.Act.TheVariants.{LoadsStop, LoadsLow, LoadsHigh, LoadsShift}
use Rattle.ce_rows.specs.declared.act.LogEntry.{LogEntry}
use Rattle.ce_words.specs.Views.{view, noted, logged}
use Rattle.ce_words.specs.declared.view.View.{View}
use Rattle.ce_crew.specs.Gains.{grown}
use Rattle.ce_crew.proofs.Gained.{noted_grown}
use Rattle.ce_crew.proofs.opening.open.Goals as goal

four : (v : View) (s l h a : LogEntry) → noted (noted (noted (noted v s) l) h) a ≡ grown v (s ∷ l ∷ h ∷ a ∷ [])
four v s l h a =
    ap (λ (x : View). noted (noted x h) a) (noted_grown v (s ∷ []) l)
    ∙ (ap (λ (x : View). noted x a) (noted_grown v (s ∷ l ∷ []) h) ∙ noted_grown v (s ∷ l ∷ h ∷ []) a)

pub returns-clause-opens : goal.returns-clause-opens
returns-clause-opens c =
    let v = view c.args.seat.now in let low = c.load_bounds-bounds.result.low in
    let high = c.load_bounds-bounds.result.high in let asked = c.load_shift-asked.result in
    let found : Shared = record { entries = []; low = low; high = high; shift = asked; stop = 0 } in
    let one : view c.load_stop.new.seat ≡ noted v (logged LoadsStop 0 0) =
    c.load_stop.ensures.view ∙ ap (λ (b : Bool). noted v (logged LoadsStop 0 (if b then 1 else 0)))
    c.if-load_stop.false in
    record {
      view_is = c.load_shift-asked.ensures.view
          ∙ (ap (λ (x : View). noted x (logged LoadsShift 0 asked)) (c.load_bounds-bounds.ensures.view ∙ ap
          (λ (x : View). noted (noted x (logged LoadsLow 0 low)) (logged LoadsHigh 0 high)) one)
          ∙ four v (logged LoadsStop 0 0) (logged LoadsLow 0 low) (logged LoadsHigh 0 high)
          (logged LoadsShift 0 asked));
      apart = c.if-bounds.false;
      machine = (
        record { carries = refl; found = found; answers = refl },
        (
          record { carries = refl; found = found; answers = refl },
          (
            record { carries = refl; found = found; answers = refl },
            (record { carries = refl; found = found; answers = refl }, tt),
          ),
        ),
      );
    }
