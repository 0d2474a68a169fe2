use Rattle.std.proofs.Common.{◌≡◌, ◌≤◌, List, [], ◌∷◌, ◌++◌, All, length, sym, ap, ◌∙◌, subst, append_assoc}
use Rattle.std.proofs.Common.{vec_capacity, rules, arith}
use Rattle.std.proofs.lemmas.List.{map-append}
use Rattle.std.specs.Vec.Iter.{into_iter_items}
use Rattle.ce_words.proofs.Sums.{Each-append}
use Rattle.ce_words.specs.Views.{view}
use Rattle.ce_words.specs.declared.view.View.{View}
use Rattle.ce_live.specs.declared.reading.Reading.{Reading}
use Rattle.ce_solve.specs.Actors.{IsOver, IsTold, places_of, place_of, readings_of, joined_all}
use Rattle.ce_solve.specs.declared.crew.Actor.{Actor}
use Rattle.ce_solve.proofs.Joins.{readings_of-append, joined_all-append, all_head, all_tail, room_left, closing_step}
use Rattle.ce_solve.proofs.collecting.join_all.Goals as goal

pub join_actor-best-requires-clause-room : goal.join_actor-best-requires-clause-room
join_actor-best-requires-clause-room c =
    let at = c.loop-actor in let x = c.in-Some.actor in
    let steps : into_iter_items at.actor-iterator ≡ x ∷ into_iter_items c.next.new.self = c.in-Some.ensures.steps.0 in
    let gives : into_iter_items c.into_iter-actor-iterator.result ≡ c.args.actors.items = search rules in
    let whole : length (readings_of (into_iter_items c.into_iter-actor-iterator.result)) ≤ vec_capacity
    c.args.readings.now =
    subst (λ (xs : List Actor). length (readings_of xs) ≤ vec_capacity c.args.readings.now)
    (sym gives) c.requires.room in
    let split = ap (λ (xs : List Actor). at.yielded ++ xs) (sym steps) ∙ at.invariant.split in
    room_left at.yielded (into_iter_items c.next.new.self) x
    (into_iter_items c.into_iter-actor-iterator.result) at.readings.items (vec_capacity c.args.readings.now)
    (vec_capacity at.readings) split whole at.invariant.room at.invariant.all

pub loop-actor-preserved : goal.loop-actor-preserved
loop-actor-preserved c =
    let at = c.loop-actor in
    let x = c.in-Some.actor in
    let s = c.join_actor-best in
    let b = c.args.board.now in
    let u = c.args.best.low_vector.items in
    let steps : into_iter_items at.actor-iterator ≡ x ∷ into_iter_items c.next.new.self = c.in-Some.ensures.steps.0 in
    let over : All (IsOver b u) (x ∷ into_iter_items c.next.new.self) =
    subst (λ (l : List Actor). All (IsOver b u) l) steps at.invariant.over in
    let was = at.invariant.len in
    let less = c.in-Some.ensures.steps.1 in
    let short = ap (λ (l : List Actor). length l) steps in
    let view_is = s.ensures.view ∙ (ap (λ (v : View). joined_all v (places_of (x ∷ []))) at.invariant.view
    ∙ (joined_all-append (view c.args.first.now) (places_of at.yielded) (places_of (x ∷ []))
    ∙ ap (joined_all (view c.args.first.now)) (sym (map-append place_of at.yielded (x ∷ []))))) in
    record {
      split = append_assoc at.yielded (x ∷ []) (into_iter_items c.next.new.self)
          ∙ (ap (λ (xs : List Actor). at.yielded ++ xs) (sym steps) ∙ at.invariant.split);
      len = omega arith;
      first = s.ensures.first;
      role = ap (λ (v : View). v.role) s.ensures.view ∙ at.invariant.role;
      view = view_is;
      over = all_tail (IsOver b u) x (into_iter_items c.next.new.self) over;
      best = closing_step b u at.yielded x at.best s.result
          (all_head (IsOver b u) x (into_iter_items c.next.new.self) over) at.invariant.best s.ensures.best;
      told = Each-append IsTold at.yielded (x ∷ []) at.invariant.told (s.ensures.told, tt);
      all = s.ensures.all ∙ (ap (λ (rs : List Reading). rs ++ readings_of (x ∷ [])) at.invariant.all ∙ sym
          (readings_of-append at.yielded (x ∷ [])));
      room = let r = at.invariant.room in let q = s.ensures.room in omega arith;
    }
