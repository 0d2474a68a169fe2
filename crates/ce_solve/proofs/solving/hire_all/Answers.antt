use Rattle.std.proofs.Common.{◌≡◌, ◌+◌, ◌-◌, ◌*◌, ◌/◌, ◌≤◌, ℕ, List, ◌∷◌, length, All, sym, ap, ◌∙◌, subst, arith}
use Rattle.std.proofs.Common.{Bool, false, List, insert}
use Rattle.std.specs.Prelude.{Result, Ok, Err, if◌then◌else◌}
use Rattle.std.specs.Result.{is_ok, is_err}
use Rattle.std.specs.declared.alloc.AllocFailed.{AllocFailed}
use Rattle.std.proofs.lemmas.Bool.{false≢true}
use Rattle.ce_words.specs.Views.{view}
use Rattle.ce_words.specs.declared.view.View.{View}
use Rattle.ce_solve.specs.Actors.{worker_places}
use Rattle.ce_solve.specs.ActorsInside.{IsHired, ArePartsFrom, AreSessionsFrom, sessions_in}
use Rattle.ce_solve.specs.ChaoticRun.{part_of}
use Rattle.ce_solve.specs.declared.crew.Actor.{Actor}
use Rattle.ce_solve.specs.declared.crew.Actor.TheVariants.{Worker as AWorker}
use Rattle.ce_words.specs.declared.view.Part.{Part}
use Rattle.ce_solve.proofs.Assembling.{part_within, part_ordered, left_below, parts_more, all_cons}
use Rattle.ce_solve.proofs.solving.hire_all.Goals as goal

pub hire-requires-clause-within : goal.hire-requires-clause-within
hire-requires-clause-within c =
    let w = c.args.settings.now.workers in let n = c.args.entries in
    let to = ap (λ (p : Part). p.to) c.part_for-part.ensures in
    omega (arith, to, part_within n w (w - 1 - c.loop-i.i) (omega arith), c.requires.entries)

inserted : (r : Result (Unit {0}) (AllocFailed Actor)) (new old : List Actor) (x : Actor) (b : Bool) → b ≡ is_err r
    → b ≡ false → new ≡ (if is_ok r then insert old 0 x else old) → new ≡ x ∷ old
inserted (Ok u) new old x b same not is = is
inserted (Err e) new old x b same not is = absurd (false≢true (sym not ∙ same))

pub loop-i-preserved : goal.loop-i-preserved
loop-i-preserved c =
    let at = c.loop-i in
    let f = at.invariant.first in
    let w = c.args.settings.now.workers in
    let n = c.args.entries in
    let k = w - 1 - at.i in
    let left = c.loop-i-test.true in
    let p = c.part_for-part.result in let is : p ≡ part_of n w k = c.part_for-part.ensures in
    let x : Actor = AWorker c.in_ok-worker.worker in let e = c.in_ok-worker.ensures in let b = c.args.board.now in
    let items : c.insert.new.self.items ≡ x ∷ at.actors.items =
    inserted c.insert.result c.insert.new.self.items at.actors.items x c.is_err.result c.is_err.ensures.value
    c.if-is_err.false c.insert.ensures.items in
    let u = c.args.prepared.now.vector.items in
    let t = c.args.settings.now.turns in
    let r = c.args.settings.now.reads in
    let v = view at.first in let v' = view c.hire.new.first in
    let number : w - (at.i + 1) ≡ k = omega arith in
    let next : w - at.i ≡ k + 1 = omega arith in
    let to : p.to ≡ (w - at.i) * n / w = ap (λ (q : Part). q.to) is ∙ ap (λ (m : ℕ). m * n / w) (sym next) in
    let from : p.from ≡ (w - (at.i + 1)) * n / w =
    ap (λ (q : Part). q.from) is ∙ ap (λ (m : ℕ). m * n / w) (sym number) in
    let top : v.place.part.to ≡ p.to = f.to ∙ sym to in
    let order : p.from ≤ p.to = let a = ap (λ (q : Part). q.from) is in
    let d = ap (λ (q : Part). q.to) is in
    omega (arith, a, d, part_ordered n w k (omega arith)) in
    record {
      first = record {
        sits = e.sits;
        role = ap (λ (q : View). q.role) e.left ∙ f.role;
        log = ap (λ (q : View). q.place.log) e.left ∙ f.log;
        joined = ap (λ (q : View). q.joined) e.left ∙ f.joined;
        out = ap (λ (q : View). q.out) e.left ∙ (let long = ap (λ (xs : List Actor). length xs) items in let o =
            f.out in omega arith);
        from = ap (λ (q : View). q.place.part.from) e.left ∙ f.from;
        to = ap (λ (q : View). q.place.part.to) e.left
            ∙ (left_below p.from p.to v.place.part.to (sym top) order ∙ from);
      };
      hired = subst (λ (xs : List Actor). All (IsHired b u t r) xs) (sym items)
          (all_cons (IsHired b u t r) x at.actors.items e.hired at.invariant.hired);
      parts = subst (λ (xs : List Actor). ArePartsFrom n w (w - (at.i + 1)) (worker_places xs)) (sym items)
          (parts_more n w (w - (at.i + 1)) (view c.in_ok-worker.worker.seat).place (worker_places at.actors.items)
          (e.part ∙ (is ∙ ap (part_of n w) (sym number)))
          (subst (λ (m : ℕ). ArePartsFrom n w m (worker_places at.actors.items))
          (let shift : w - at.i ≡ w - (at.i + 1) + 1 = omega arith in shift) at.invariant.parts));
      count = ap (λ (xs : List Actor). length (worker_places xs)) items ∙ (let m = at.invariant.count in omega arith);
      all = let long = ap (λ (xs : List Actor). length xs) items in let m = at.invariant.all in omega arith;
      none = ap sessions_in items ∙ at.invariant.none;
      sessions = subst (AreSessionsFrom 0) (sym items) at.invariant.sessions;
    }
