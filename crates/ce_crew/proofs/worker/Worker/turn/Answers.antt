use Rattle.std.proofs.Common.{◌≡◌, ◌+◌, ℕ, Bool, false, List, ◌++◌, length, refl, sym, ap, ◌∙◌, subst}
use Rattle.std.proofs.Common.{arith}
use Rattle.std.proofs.lemmas.List.{with_items_is}
use Rattle.std.proofs.lemmas.Bool.{false≢true}
use Rattle.ce_rows.specs.declared.act.LogEntry.{LogEntry}
use Rattle.ce_words.specs.Logs.{is_raise, is_lower}
use Rattle.ce_words.specs.Seats.{board_run}
use Rattle.ce_cert.specs.Vectors.{IsVectorOf}
use Rattle.ce_words.specs.Views.{view, rows_of}
use Rattle.ce_words.specs.declared.view.View.{View}
use Rattle.ce_crew.specs.Rooms.{AreBoundsOf, KeepsBest}
use Rattle.ce_crew.specs.Turn.{opening_of, rescalings_after}
use Rattle.ce_crew.specs.Workers.{HasLog}
use Rattle.ce_crew.proofs.Turns.{turn_is}
use Rattle.ce_crew.proofs.WorkerTurns.{turn_more, one_more_at_most, keeps_best_silent, keeps_best_then}
use Rattle.ce_crew.proofs.WorkerTurns.{keeps_best_offered, halt_silent}
use Rattle.ce_crew.proofs.worker.Worker.turn.Goals as goal

pub returns-in_default-clause-keeps : goal.returns-in_default-clause-keeps
returns-in_default-clause-keeps g c =
    let run = board_run c.args.board.now in let w = c.args.self.now in let h = c.in_default.ensures.opens in
    let log_is : (view c.open.new.seat).place.log ≡ (view w.seat).place.log ++ h.halt =
    ap (λ (u : View). u.place.log) h.view_is in
    record {
      number = refl;
      turns = refl;
      its_part = refl;
      role = ap (λ (u : View). u.role) h.view_is;
      joined = ap (λ (u : View). u.joined) h.view_is;
      grows = (h.halt, log_is);
      best = subst (λ (log : List LogEntry). KeepsBest run (view w.seat).place.log w.room log w.room) (sym log_is)
          (keeps_best_silent run (view w.seat).place.log h.halt w.room
          (halt_silent is_raise refl refl refl refl h.halt h.is_halt)
          (halt_silent is_lower refl refl refl refl h.halt h.is_halt));
    }

pub returns-clause-made : goal.returns-clause-made
returns-clause-made g c =
    let run = board_run c.args.board.now in let w = c.args.self.now in let sight = c.in-Some.sight in
    let s = c.sweep-found in
    let t = turn_is run w.part w.made sight.bounds.low sight.bounds.high sight.asked (view w.seat)
    (view c.open.new.seat) (view s.new.seat) c.requires.worker.sits.run c.in-Some.ensures.opens
    s.ensures.finishes in
    record {
      turn = t.0;
      is_turn = t.2.0;
      log_is = ap (λ (u : View). u.place.log) t.1;
      done = refl;
      made = s.ensures.made ∙ ap (rescalings_after w.made) (sym t.2.1);
      halted = c.requires.open;
    }

pub returns-clause-worker : goal.returns-clause-worker
returns-clause-worker g c =
    let run = board_run c.args.board.now in let w = c.args.self.now in let sight = c.in-Some.sight in
    let s = c.sweep-found in let q = c.requires.worker in
    let t = turn_is run w.part w.made sight.bounds.low sight.bounds.high sight.asked (view w.seat)
    (view c.open.new.seat) (view s.new.seat) q.sits.run c.in-Some.ensures.opens s.ensures.finishes in
    let made : s.result.made ≡ rescalings_after w.made t.2.0.asked =
    s.ensures.made ∙ ap (rescalings_after w.made) (sym t.2.1) in
    let before : HasLog run w.part false w.done w.made (view w.seat).place.log =
    subst (λ (b : Bool). HasLog run w.part b w.done w.made (view w.seat).place.log) c.requires.open q.log in
    let after : HasLog run w.part false (w.done + 1) s.result.made (view s.new.seat).place.log =
    turn_more run w.part w.done w.made s.result.made (view w.seat).place.log (view s.new.seat).place.log t.0 before
    t.2.0 (ap (λ (u : View). u.place.log) t.1) made in
    let copy = with_items_is w.room.copy s.new.copy (s.auto.copy ∙ c.deref_mut.ensures.len) in
    let scratch = with_items_is w.room.scratch s.new.scratch (s.auto.scratch ∙ c.deref_mut-2.ensures.len) in
    record {
      start = q.start;
      sits = s.ensures.seat;
      room = c.keep.ensures.room run record {
        copy = subst (λ (v : List ℕ). IsVectorOf (rows_of run) v) (sym copy) s.ensures.copy;
        scratch = ap (λ (v : List ℕ). length v) scratch ∙ (s.auto.scratch
            ∙ (ap (λ (v : List ℕ). length v) c.deref_mut-2.ensures.value ∙ q.room.scratch));
        low_vector = q.room.low_vector;
        low = q.room.low;
        high_vector = q.room.high_vector;
        high = q.room.high;
      } (subst (λ (v : List ℕ). AreBoundsOf run v s.result.bounds) (sym copy) s.ensures.bounds);
      its_part = q.its_part ∙ sym (ap (λ (u : View). u.place.part) t.1);
      ordered = q.ordered;
      within = q.within;
      few = q.few;
      some = omega (arith, made, one_more_at_most w.made t.2.0.asked, q.some);
      most = let l = c.requires.left in omega arith;
      left = λ halted. absurd (false≢true (sym c.requires.open ∙ halted));
      log = subst (λ (b : Bool). HasLog run w.part b (w.done + 1) s.result.made (view s.new.seat).place.log)
          (sym c.requires.open) after;
    }

pub returns-clause-keeps : goal.returns-clause-keeps
returns-clause-keeps g c =
    let run = board_run c.args.board.now in let w = c.args.self.now in let sight = c.in-Some.sight in
    let s = c.sweep-found in let q = c.requires.worker in
    let t = turn_is run w.part w.made sight.bounds.low sight.bounds.high sight.asked (view w.seat)
    (view c.open.new.seat) (view s.new.seat) q.sits.run c.in-Some.ensures.opens s.ensures.finishes in
    let opening = opening_of sight.bounds.low sight.bounds.high sight.asked in
    let opened : (view c.open.new.seat).place.log ≡ (view w.seat).place.log ++ opening =
    ap (λ (u : View). u.place.log) c.in-Some.ensures.opens.view_is in
    let copy = with_items_is w.room.copy s.new.copy (s.auto.copy ∙ c.deref_mut.ensures.len) in
    let one : KeepsBest run (view w.seat).place.log w.room (view c.open.new.seat).place.log w.room =
    subst (λ (log : List LogEntry). KeepsBest run (view w.seat).place.log w.room log w.room) (sym opened)
    (keeps_best_silent run (view w.seat).place.log opening w.room (λ n. refl) (λ n. refl)) in
    record {
      number = refl;
      turns = refl;
      its_part = refl;
      role = ap (λ (u : View). u.role) t.1;
      joined = ap (λ (u : View). u.joined) t.1;
      grows = (t.0, ap (λ (u : View). u.place.log) t.1);
      best = keeps_best_then run (view w.seat).place.log (view c.open.new.seat).place.log
          (view s.new.seat).place.log w.room w.room c.keep.new.self one
          (keeps_best_offered run (view c.open.new.seat).place.log (view s.new.seat).place.log s.result.bounds
          s.new.copy w.room c.keep.new.self s.ensures.offers record {
            low_new = λ h. let k = c.keep.ensures.low_new h in (k.0, k.1 ∙ copy);
            low_same = c.keep.ensures.low_same;
            high_new = λ h. let k = c.keep.ensures.high_new h in (k.0, k.1 ∙ copy);
            high_same = c.keep.ensures.high_same;
          });
    }
