-- Events that were played, and scripts for the rows of an orbit.
use Rattle.std.proofs.Common.{◌≡◌, ◌<◌, ◌≤◌, ◌∙◌, ℕ, List, length, refl, ap, subst}
use Rattle.std.specs.Prelude.{All}
use Rattle.std.proofs.lemmas.List.Elements.{All-weaker}
use Rattle.ce_cert.specs.Start.{IsStart}
use Rattle.ce_cert.specs.Vectors.{IsVectorOf}
use Rattle.ce_comp.proofs.Rankings.{numbering_is_ranking}
use Rattle.ce_core.specs.Machine.{machine_at_start}
use Rattle.ce_core.specs.Runs.{after_events, shared_after}
use Rattle.ce_core.specs.Script.{IsEventBelow, IsFirstBad, IsScriptOf}
use Rattle.ce_core.specs.Sound.{IsSound}
use Rattle.ce_core.specs.State.{CoreState}
use Rattle.ce_core.proofs.Runs.{sound_after}
use Rattle.ce_orbit.specs.Orbit.{ForwardOrbit, IsForwardOrbit, HasOrbitWithin}
use Rattle.ce_rows.specs.Events.{actor_of}
use Rattle.ce_rows.specs.Rows.{ScaledRows}
use Rattle.ce_rows.specs.declared.event.Event.{Event}
use Rattle.ce_rows.specs.declared.row.Row.{Row}
use Rattle.ce_rows.specs.declared.interval.Interval.{Interval}
use Rattle.ce_thurston.specs.Indices.{rows_of_orbit}
use Rattle.ce_vector.specs.PowerIteration.{power_vector}
use Rattle.ce_vector.specs.Start.{scaled_up, start_of}
use Rattle.ce_vector.proofs.Powers.{length-power_vector, power_vector-some, power_vector-small}
use Rattle.ce_solve.proofs.Beginnings.{scaled_is_vector}
use Rattle.ce_solve.proofs.FloorEnds.{floor_low, floor_high}
use Rattle.core_entropy.proofs.Enclosed.{initial_encloses}
use Rattle.core_entropy.specs.InitialEnclosure.{IsInitialEnclosure}
use Rattle.ce_thurston.specs.Indices.{rows_at}
use Rattle.core_entropy.specs.Replay.{HasBadLine, HasScript, replayed}

start_is_vector : (rows : ScaledRows) (ranks : List ℕ) (rounds : ℕ) → rounds ≤ 36
    → IsVectorOf rows (start_of rows.list ranks rounds)
start_is_vector rows ranks rounds few =
    scaled_is_vector rows (power_vector rows.list ranks rounds) (length-power_vector rows.list ranks rounds)
    (power_vector-some rows.list ranks rounds) (power_vector-small rows.list ranks rounds few)

-- What holds after events from the initial enclosure.
pub replay_sound : (rows : ScaledRows) (rounds : ℕ) (initial : Interval) (events : List Event) → rounds ≤ 36
    → (is_initial : IsInitialEnclosure rows rounds initial)
    → All (IsEventBelow (length rows.list)) events
    → IsSound rows initial.low initial.high
    (after_events rows is_initial.ranks
    (machine_at_start 16 (start_of rows.list is_initial.ranks rounds) initial.low initial.high)
    events)
replay_sound rows rounds initial events few is_initial below =
    let start : IsStart rows is_initial.ranks (start_of rows.list is_initial.ranks rounds) initial.low initial.high =
    record {
      scaled = is_initial.are_rows;
      ranking = numbering_is_ranking rows.list is_initial.ranks is_initial.numbering;
      vector = start_is_vector rows is_initial.ranks rounds few;
      encloses = initial_encloses rows rounds initial is_initial;
      from = rw is_initial.bounds.low
          (floor_low rows is_initial.are_rows is_initial.ranks
          (numbering_is_ranking rows.list is_initial.ranks is_initial.numbering) rounds);
      to = rw is_initial.bounds.high
          (floor_high rows is_initial.are_rows is_initial.ranks
          (numbering_is_ranking rows.list is_initial.ranks is_initial.numbering) rounds);
    } in
    sound_after rows is_initial.ranks (start_of rows.list is_initial.ranks rounds)
    initial.low initial.high 16 start events
    (All-weaker (IsEventBelow (length rows.list)) (λ e. actor_of e < 16) (λ e h. h.actor) events below)

-- What actors share after events that were played from the start of so many rounds.
pub shared_is : (rows : ScaledRows) (ranks slice vector : List ℕ) (rounds : ℕ)
    (initial : Interval) (events : List Event)
    (core new : CoreState) → slice ≡ ranks → vector ≡ power_vector rows.list ranks rounds
    → core ≡ record {
      rows = rows;
      ranks = slice;
      machine = machine_at_start 16 (scaled_up vector) initial.low
          initial.high;
    } → new ≡ record core { machine = after_events core.rows core.ranks core.machine events }
    → new.machine.shared ≡ replayed rows ranks rounds initial events
shared_is rows ranks slice vector rounds initial events core new same iterated start played =
    ap (λ (c : CoreState). c.machine.shared) played
    ∙ ap (λ (c : CoreState). (after_events c.rows c.ranks c.machine events).shared) start
    ∙ ap (λ (r : List ℕ). shared_after rows r 16 (scaled_up vector) initial.low initial.high events) same
    ∙ ap (λ (v : List ℕ). shared_after rows ranks 16 (scaled_up v) initial.low initial.high events) iterated

-- A script for the rows of an orbit is one for its angle, and so is a bad line of one.
module _ (o : ForwardOrbit) (exponent places entries : ℕ) (made rows : ScaledRows) (script : List ℕ)
    (is_orbit : IsForwardOrbit o) (count : places ≡ length o.places) (few : places ≤ 128)
    (scaled : rows ≡ record made { exponent = exponent }) (of_orbit : made ≡ rows_at o 32)
    (all : entries ≡ length rows.list) where
  abbrev within : HasOrbitWithin 128 o.angle
  within = record {
    orbit = o;
    of_angle = refl;
    is_orbit = is_orbit;
    few = subst (λ n. n ≤ 128) count few;
  }

  same_list : rows.list ≡ rows_of_orbit o
  same_list = ap (λ (r : ScaledRows). r.list) scaled ∙ ap (λ (r : ScaledRows). r.list) of_orbit

  all_here : entries ≡ length (rows_of_orbit o)
  all_here = all ∙ ap (λ (list : List Row). length list) same_list

  pub has_script : (events : List Event) → IsScriptOf entries script events → HasScript o.angle script
  has_script events read = record {
    short = within;
    events = events;
    read = subst (λ n. IsScriptOf n script events) all_here read;
  }

  pub has_bad_line : (line : ℕ) → IsFirstBad entries script line → HasBadLine o.angle script line
  has_bad_line line bad = record {
    short = within;
    bad = subst (λ n. IsFirstBad n script line) all_here bad;
  }
