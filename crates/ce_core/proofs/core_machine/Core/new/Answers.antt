use Rattle.std.proofs.Common.{◌∙◌, ◌*◌, ◌^◌, length, map, sym, ap, subst}
use Rattle.std.proofs.lemmas.List.{length-map, length-replicate}
use Rattle.ce_core.specs.FieldsInside.{kept_of}
use Rattle.ce_rows.specs.Actors.{ActorState, actor_at_start}
use Rattle.ce_core.specs.Machine.{Machine, actor_count}
use Rattle.ce_core.specs.Sound.{IsSound}
use Rattle.ce_core.specs.State.{CoreState}
use Rattle.ce_core.specs.Runs.{HasAskedAtMost}
use Rattle.ce_core.proofs.Asked.{asked_at_start}
use Rattle.ce_core.proofs.Runs.{start_sound}
use Rattle.ce_core.proofs.Steps.{made}
use Rattle.ce_core.proofs.core_machine.Core.new.Goals as goal

pub invariant_of-result : goal.invariant_of-result
invariant_of-result c =
    let rows = c.args.rows.now in
    let initial = c.args.initial in
    let new =
    made actor_count c.in_ok-entries.entries.items c.args.start.now initial.low initial.high
    (map kept_of c.in_ok-actors_at_start.field-0.items) c.in_ok-entries.ensures.items
    c.in_ok-actors_at_start.ensures in
    let sound =
    start_sound rows c.args.start.now initial.low initial.high (2 ^ rows.exponent) (2 * 2 ^ rows.exponent) actor_count
    c.requires.start.vector c.requires.start.encloses c.requires.start.from c.requires.start.to in
    record {
      rows = c.len-len.ensures.rows;
      ranking = c.requires.start.ranking;
      actors = sym (length-map c.in_ok-actors_at_start.field-0.items kept_of)
          ∙ ap length c.in_ok-actors_at_start.ensures
          ∙ length-replicate {A = ActorState} actor_count (actor_at_start c.args.start.now initial.low initial.high);
      scratch = c.in_ok-from_slice.ensures.len ∙ c.requires.start.vector.each;
      sound = subst (IsSound rows (2 ^ rows.exponent) (2 * 2 ^ rows.exponent)) (sym new) sound;
    }

pub returns-clause-machine : goal.returns-clause-machine
returns-clause-machine c =
    let initial = c.args.initial in
    let new =
    made actor_count c.in_ok-entries.entries.items c.args.start.now initial.low initial.high
    (map kept_of c.in_ok-actors_at_start.field-0.items) c.in_ok-entries.ensures.items
    c.in_ok-actors_at_start.ensures in
    let state : Machine → CoreState = λ n. record { rows = c.args.rows.now; ranks = c.args.ranks.now; machine = n } in
    ap state new

pub returns-clause-asked : goal.returns-clause-asked
returns-clause-asked c =
    let initial = c.args.initial in
    let new =
    made actor_count c.in_ok-entries.entries.items c.args.start.now initial.low initial.high
    (map kept_of c.in_ok-actors_at_start.field-0.items) c.in_ok-entries.ensures.items
    c.in_ok-actors_at_start.ensures in
    subst (HasAskedAtMost 0) (sym new) (asked_at_start actor_count c.args.start.now initial.low initial.high)
