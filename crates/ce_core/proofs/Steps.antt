-- The code's step on its fields is one event of the machine.
use Rattle.std.proofs.Common.{◌≡◌, ◌<◌, ◌+◌, ◌*◌, ◌^◌, ◌∙◌, ℕ, List, [], length, get_or, set, map, replicate, take}
use Rattle.std.proofs.Common.{sym, ap, subst, arith}
use Rattle.std.specs.Prelude.{slice_index_or}
use Rattle.std.proofs.lemmas.List.Sums.{fold_more}
use Rattle.std.proofs.lemmas.List.{get_or-map, map-set}
use Rattle.std.proofs.lemmas.List.Elements.{All-get_or}
use Rattle.ce_rows.specs.Events.{Shared, actor_of, act_of, after_act, answer_of}
use Rattle.ce_rows.specs.Rows.{ScaledRows}
use Rattle.ce_rows.specs.declared.act.Act.{Act}
use Rattle.ce_rows.specs.declared.event.Event.{Event}
use Rattle.ce_rows.proofs.Rates.{low_at_most_high_of_rows}
use Rattle.ce_core.specs.FieldsInside.{shared_of, kept_of, HasBoundsInRange}
use Rattle.ce_core.specs.Inside.{state_of}
use Rattle.ce_core.specs.Runs.{after_events}
use Rattle.ce_core.specs.State.{CoreState}
use Rattle.ce_rows.specs.Actors.{ActorState, actor_at_start, after_answer}
use Rattle.ce_core.specs.Machine.{Machine, kept_by, carried, answer_to, after_event, machine_at_start}
use Rattle.ce_core.specs.Sound.{IsSoundActor, IsSound}
use Rattle.ce_core.specs.declared.actor.Actor.{Actor}
use Rattle.ce_core.specs.declared.core_machine.Core.TheInside.{Inside}
use Rattle.ce_core.specs.declared.shared.Shared.{Shared as SharedFields}

-- a machine by its parts
abbrev pub machine_of : Shared → List ActorState → Machine
machine_of s actors = record { shared = s; actors = actors }

-- what stands at an actor's place
pub kept_at : (s : SharedFields) (actors : List Actor) (k : ℕ) (actor : Actor) → k < length actors
    → actor ≡ get_or actors k actor → kept_by (machine_of (shared_of s) (map kept_of actors)) k ≡ kept_of actor
kept_at s actors k actor there is =
    get_or-map kept_of actors k actor (actor_at_start [] 0 0) there ∙ ap kept_of (sym is)

-- The bounds that an actor saw are from S to 2 S.
pub bounds_in_range : (rows : ScaledRows) (m : Machine) (k : ℕ) (actor : Actor)
    → IsSound rows (2 ^ rows.exponent) (2 * 2 ^ rows.exponent) m → k < length m.actors → kept_by m k ≡ kept_of actor
    → HasBoundsInRange rows.exponent actor
bounds_in_range rows m k actor sound there is =
    let none : ActorState = actor_at_start [] 0 0 in
    let seen =
    All-get_or (IsSoundActor rows (2 ^ rows.exponent) (2 * 2 ^ rows.exponent) m.shared) m.actors k none there
    sound.actors in
    let own : IsSoundActor rows (2 ^ rows.exponent) (2 * 2 ^ rows.exponent) m.shared (kept_of actor) =
    subst (IsSoundActor rows (2 ^ rows.exponent) (2 * 2 ^ rows.exponent) m.shared) is seen in
    let order = low_at_most_high_of_rows rows m.shared.low m.shared.high sound.encloses.below sound.encloses.above in
    record {
      low = own.from;
      low_top = omega (arith, own.seen.low, order, sound.to);
      high = omega (arith, own.seen.high, order, sound.from);
      high_top = own.to;
    }

module _ (rows : ScaledRows) (ranks : List ℕ) (m : Machine) (event : Event) (own : ActorState)
    (is : kept_by m (actor_of event) ≡ own) where
  pub answered : (number answer : ℕ) → number ≡ carried rows ranks own (act_of event)
      → answer ≡ answer_of m.shared (act_of event) number → answer ≡ answer_to rows ranks m event
  unfolding answer_to
  answered number answer carries gives =
      gives ∙ ap (answer_of m.shared (act_of event)) carries
      ∙ ap (λ k. answer_of m.shared (act_of event) (carried rows ranks k (act_of event))) (sym is)

  pub stepped : (number answer : ℕ) (s : Shared) (kept : ActorState) → number ≡ carried rows ranks own (act_of event)
      → s ≡ after_act m.shared (act_of event) number → answer ≡ answer_of m.shared (act_of event) number
      → kept ≡ after_answer own (act_of event) answer
      → machine_of s (set m.actors (actor_of event) kept) ≡ after_event rows ranks m event
  unfolding after_event
  stepped number answer s kept carries shared gives keeps =
      let act = act_of event in
      let number_is : number ≡ carried rows ranks (kept_by m (actor_of event)) act =
      carries ∙ ap (λ k. carried rows ranks k act) (sym is) in
      let shared_is : s ≡ after_act m.shared act (carried rows ranks (kept_by m (actor_of event)) act) =
      shared ∙ ap (after_act m.shared act) number_is in
      let kept_is : kept ≡ after_answer (kept_by m (actor_of event)) act (answer_to rows ranks m event) =
      keeps ∙ ap (after_answer own act) (answered number answer carries gives)
      ∙ ap (λ k. after_answer k act (answer_to rows ranks m event)) (sym is) in
      ap (λ x. machine_of x (set m.actors (actor_of event) kept)) shared_is
      ∙ ap (λ k. machine_of (after_act m.shared act (carried rows ranks (kept_by m (actor_of event)) act))
      (set m.actors (actor_of event) k)) kept_is

-- what the code leaves and answers is one event of the machine
pub record IsOneEvent (f : Inside) (event : Event) (s : SharedFields) (k : ℕ) (actor : Actor)
    (answer : ℕ) : Type 0 where
  pub machine : machine_of (shared_of s) (map kept_of (set f.actors.items k actor))
      ≡ after_event f.rows.now f.ranks.now (state_of f).machine event
  pub answer_is : answer ≡ answer_to f.rows.now f.ranks.now (state_of f).machine event

module _ (f : Inside) (event : Event) (s : SharedFields) (k : ℕ) (actor new_actor : Actor) (number answer : ℕ) where
  pub one_event : k ≡ actor_of event → k < length f.actors.items → actor ≡ get_or f.actors.items k actor
      → number ≡ carried f.rows.now f.ranks.now (kept_of actor) (act_of event)
      → shared_of s ≡ after_act (shared_of f.shared) (act_of event) number
      → answer ≡ answer_of (shared_of f.shared) (act_of event) number
      → kept_of new_actor ≡ after_answer (kept_of actor) (act_of event) answer
      → IsOneEvent f event s k new_actor answer
  one_event here there is carries shared gives keeps =
      let actors = f.actors.items in
      let m = machine_of (shared_of f.shared) (map kept_of actors) in
      let own : kept_by m (actor_of event) ≡ kept_of actor = rw (← here) (kept_at f.shared actors k actor there is) in
      let set_is : map kept_of (set actors k new_actor)
      ≡ set (map kept_of actors) (actor_of event) (kept_of new_actor) =
      map-set kept_of actors k new_actor ∙ ap (λ i. set (map kept_of actors) i (kept_of new_actor)) here in
      record {
        machine =
            ap (machine_of (shared_of s)) set_is
            ∙ stepped f.rows.now f.ranks.now m event (kept_of actor) own number answer (shared_of s)
            (kept_of new_actor) carries shared gives keeps;
        answer_is = answered f.rows.now f.ranks.now m event (kept_of actor) own number answer carries gives;
      }

-- the same, where the code has the event's act
pub one_act : (f : Inside) (event : Event) (s : SharedFields) (k : ℕ) (actor new_actor : Actor)
    (number answer : ℕ) (act : Act) → act ≡ act_of event → k ≡ actor_of event → k < length f.actors.items
    → actor ≡ get_or f.actors.items k actor → number ≡ carried f.rows.now f.ranks.now (kept_of actor) act
    → shared_of s ≡ after_act (shared_of f.shared) act number → answer ≡ answer_of (shared_of f.shared) act number
    → kept_of new_actor ≡ after_answer (kept_of actor) act answer → IsOneEvent f event s k new_actor answer
one_act f event s k actor new_actor number answer act same here there is carries shared gives keeps =
    one_event f event s k actor new_actor number answer here there is
    (subst (λ (a : Act). number ≡ carried f.rows.now f.ranks.now (kept_of actor) a) same carries)
    (subst (λ (a : Act). shared_of s ≡ after_act (shared_of f.shared) a number) same shared)
    (subst (λ (a : Act). answer ≡ answer_of (shared_of f.shared) a number) same gives)
    (subst (λ (a : Act). kept_of new_actor ≡ after_answer (kept_of actor) a answer) same keeps)

-- the fields at the start
pub made : (count : ℕ) (entries start : List ℕ) (low high : ℕ) (actors : List ActorState) → entries ≡ start
    → actors ≡ replicate count (actor_at_start start low high)
    → machine_of (record { entries = entries; low = low; high = high; shift = 0; stop = 0 }) actors
    ≡ machine_at_start count start low high
unfolding machine_at_start
made count entries start low high actors entries_are actors_are =
    ap (λ v. machine_of (record { entries = v; low = low; high = high; shift = 0; stop = 0 }) actors) entries_are
    ∙ ap (machine_of (record { entries = start; low = low; high = high; shift = 0; stop = 0 })) actors_are

-- Played are the events so far, and then one more.
pub played_more : (s t u : CoreState) (events : List Event) (i : ℕ) (d : Event) → i < length events
    → t ≡ record s { machine = after_events s.rows s.ranks s.machine (take i events) }
    → u ≡ record t { machine = after_event t.rows t.ranks t.machine (slice_index_or events i d) }
    → u ≡ record s { machine = after_events s.rows s.ranks s.machine (take (i + 1) events) }
played_more s t u events i d within so_far step =
    step
    ∙ ap (λ (c : CoreState). record c { machine = after_event c.rows c.ranks c.machine (slice_index_or events i d) })
    so_far
    ∙ ap (λ (m : Machine). record s { machine = m })
    (sym (fold_more (after_event s.rows s.ranks) s.machine events i d within))
