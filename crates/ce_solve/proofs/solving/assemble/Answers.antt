use Rattle.std.proofs.Common.{◌≡◌, Bool, false, List, [], ◌∷◌, ◌++◌, length, All, sym, ap, ◌∙◌, subst, append-nil}
use Rattle.std.proofs.Common.{length-append, arith}
use Rattle.std.specs.Prelude.{Result, Ok, Err, if◌then◌else◌}
use Rattle.std.specs.Result.{is_ok, is_err}
use Rattle.std.specs.declared.alloc.AllocFailed.{AllocFailed}
use Rattle.std.proofs.lemmas.Bool.{false≢true}
use Rattle.std.proofs.lemmas.List.Elements.{All-append}
use Rattle.ce_words.specs.declared.view.Place.{Place}
use Rattle.ce_words.specs.declared.view.View.{View}
use Rattle.ce_solve.specs.Actors.{worker_places}
use Rattle.ce_solve.specs.ActorsInside.{IsHired, ArePartsFrom, AreSessionsFrom, sessions_in}
use Rattle.ce_solve.specs.declared.crew.Actor.{Actor}
use Rattle.ce_solve.specs.declared.crew.Actor.TheVariants.{Session as ASession}
use Rattle.ce_solve.proofs.Assembling.{all_cons, numbered_more, sessions_more}
use Rattle.ce_solve.proofs.Joins.{worker_places-append}
use Rattle.ce_solve.proofs.solving.assemble.Goals as goal

appended : (r : Result (Unit {0}) (AllocFailed Actor)) (new old : List Actor) (x : Actor) (b : Bool) → b ≡ is_err r
    → b ≡ false → new ≡ (if is_ok r then old ++ x ∷ [] else old) → new ≡ old ++ x ∷ []
appended (Ok u) new old x b same not is = is
appended (Err e) new old x b same not is = absurd (false≢true (sym not ∙ same))

pub loop-s-preserved : goal.loop-s-preserved
loop-s-preserved c =
    let at = c.loop-s in let f = at.invariant.first in let e = c.in_ok-session.ensures in
    let x : Actor = ASession c.in_ok-session.session in let b = c.args.board.now in
    let items : c.push.new.self.items ≡ at.actors.items ++ x ∷ [] =
    appended c.push.result c.push.new.self.items at.actors.items x c.is_err.result c.is_err.ensures.value
    c.if-is_err.false c.push.ensures.items in
    let u = c.args.prepared.now.vector.items in
    let t = c.args.settings.now.turns in
    let r = c.args.settings.now.reads in
    let places : worker_places c.push.new.self.items ≡ worker_places at.actors.items = ap worker_places items
    ∙ (worker_places-append at.actors.items (x ∷ []) ∙ append-nil (worker_places at.actors.items)) in
    let long = ap (λ (xs : List Actor). length xs) items in
    let more = length-append at.actors.items (x ∷ []) in
    let o = f.out in
    let all = at.invariant.all in
    record {
      first = record {
        sits = e.sits;
        role = ap (λ (q : View). q.role) e.left ∙ f.role;
        log = ap (λ (q : View). q.place.log) e.left ∙ f.log;
        joined = ap (λ (q : View). q.joined) e.left ∙ f.joined;
        out = ap (λ (q : View). q.out) e.left ∙ (omega arith);
        from = ap (λ (q : View). q.place.part.from) e.left ∙ f.from;
        to = ap (λ (q : View). q.place.part.to) e.left ∙ f.to;
      };
      hired = subst (λ (xs : List Actor). All (IsHired b u t r) xs) (sym items)
          (All-append (IsHired b u t r) at.actors.items (x ∷ []) at.invariant.hired
          (all_cons (IsHired b u t r) x [] e.seated (λ k d l. absurd (omega arith))));
      parts = subst (λ (ps : List Place). ArePartsFrom c.args.entries c.args.settings.now.workers 0 ps)
          (sym places) at.invariant.parts;
      count = ap (λ (ps : List Place). length ps) places ∙ at.invariant.count;
      all = omega arith;
      many = ap sessions_in items ∙ sessions_more at.actors.items c.in_ok-session.session
          ∙ (let m = at.invariant.many in omega (arith, m));
      sessions = subst (AreSessionsFrom 0) (sym items)
          (numbered_more 0 at.actors.items c.in_ok-session.session at.invariant.sessions
          (e.number ∙ (let m = at.invariant.many in omega (arith, m))));
    }
