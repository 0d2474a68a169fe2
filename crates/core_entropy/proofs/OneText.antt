-- Texts that are determined.
use Rattle.std.proofs.Common.{◌≡◌, ◌∙◌, ℕ, List, length, sym, ap, subst, arith}
use Rattle.ce_angle.specs.Fraction.{Fraction}
use Rattle.ce_cert.specs.Certificate.{Evidence}
use Rattle.ce_comp.proofs.Unique.{numbering_unique}
use Rattle.ce_core.specs.Script.{IsScriptOf}
use Rattle.ce_core.proofs.Scripts.{one_list}
use Rattle.ce_orbit.specs.Orbit.{ForwardOrbit}
use Rattle.ce_orbit.proofs.Unique.{one_orbit}
use Rattle.ce_rows.specs.Events.{Shared}
use Rattle.ce_rows.specs.Rows.{AreScaledRows, ScaledRows}
use Rattle.ce_rows.specs.Scale.{IsExponent}
use Rattle.ce_solve.specs.SolvedRows.{Closing, IsSolved}
use Rattle.ce_solve.proofs.LoneClosing.{one_bounds, one_closing}
use Rattle.ce_solve.proofs.NoTurns.{low_stays, high_stays}
use Rattle.ce_thurston.proofs.OrbitRows.{rows_in_range}
use Rattle.ce_rows.specs.declared.event.Event.{Event}
use Rattle.ce_rows.specs.declared.interval.Interval.{Interval}
use Rattle.ce_thurston.specs.Indices.{rows_of_orbit}
use Rattle.core_entropy.specs.Angle.{IsAngleText, interval_of, line_of}
use Rattle.core_entropy.specs.InitialEnclosure.{IsInitialEnclosure}
use Rattle.ce_thurston.specs.Indices.{rows_at}
use Rattle.core_entropy.specs.Replay.{IsReplayText, replay_text, replayed}
use Rattle.core_entropy.specs.Show.{IsShowText, show_text}

pub one_enclosure : (rows : ScaledRows) (rounds : ℕ) (i j : Interval) → IsInitialEnclosure rows rounds i
    → IsInitialEnclosure rows rounds j → i ≡ j
one_enclosure rows rounds i j h k =
    let ranks = numbering_unique rows.list h.are_rows.rows h.ranks k.ranks h.numbering k.numbering in
    one_bounds rows rounds h.ranks k.ranks i j ranks h.bounds k.bounds

-- With no turns a run ends at the initial enclosure.
pub closing_is_initial : (rows : ScaledRows) (rounds workers : ℕ) (e : Closing) → AreScaledRows rows
    → IsSolved rows rounds 0 workers e → IsInitialEnclosure rows rounds (interval_of e)
closing_is_initial rows rounds workers e are h = record {
  are_rows = are;
  ranks = h.run.ranks;
  numbering = h.run_of.numbering;
  bounds = record {
    low = low_stays h.run e.evidence.low e.evidence.high h.places h.is_run ∙ h.run_of.bounds.low;
    high = high_stays h.run e.evidence.low e.evidence.high h.places h.is_run ∙ h.run_of.bounds.high;
  };
}

pub one_line : (angle : Fraction) (rounds workers exponent : ℕ) (line other : List ℕ) → IsExponent exponent
    → IsAngleText angle rounds 0 workers exponent line
    → IsAngleText angle rounds 0 workers exponent other → line ≡ other
one_line angle rounds workers exponent line other known h k =
    let orbit = one_orbit h.orbit k.orbit h.is_orbit k.is_orbit (h.of_angle ∙ sym k.of_angle) in
    let rows = rows_at h.orbit exponent in
    let are : AreScaledRows rows = record { rows = rows_in_range h.orbit h.is_orbit h.few; scale = known } in
    let closing = subst (λ o. IsSolved (rows_at o exponent) rounds 0 workers k.closing) (sym orbit) k.solution in
    let interval = one_enclosure rows rounds (interval_of h.closing) (interval_of k.closing)
    (closing_is_initial rows rounds workers h.closing are h.solution)
    (closing_is_initial rows rounds workers k.closing are closing) in
    h.spelled ∙ ap (λ i. line_of angle exponent i) interval ∙ sym k.spelled

-- The line of one worker, whatever the number of turns.
pub one_line_of_one : (angle : Fraction) (rounds turns exponent : ℕ) (line other : List ℕ) → IsExponent exponent
    → IsAngleText angle rounds turns 1 exponent line → IsAngleText angle rounds turns 1 exponent other → line ≡ other
one_line_of_one angle rounds turns exponent line other known h k =
    let orbit = one_orbit h.orbit k.orbit h.is_orbit k.is_orbit (h.of_angle ∙ sym k.of_angle) in
    let rows = rows_at h.orbit exponent in
    let are : AreScaledRows rows = record { rows = rows_in_range h.orbit h.is_orbit h.few; scale = known } in
    let solved = subst (λ o. IsSolved (rows_at o exponent) rounds turns 1 k.closing) (sym orbit) k.solution in
    let evidence = one_closing rows rounds turns h.closing k.closing are h.solution solved in
    let spelled : Evidence → List ℕ = λ e. line_of angle exponent (record { low = e.low; high = e.high }) in
    h.spelled ∙ (ap spelled evidence ∙ sym k.spelled)

pub one_show : (angle : Fraction) (text other : List ℕ) → IsShowText angle text → IsShowText angle other → text ≡ other
one_show angle text other h k =
    let orbit = one_orbit h.orbit k.orbit h.is_orbit k.is_orbit (h.of_angle ∙ sym k.of_angle) in
    h.spelled ∙ ap (λ o. show_text o) orbit ∙ sym k.spelled

-- What is shared after a script is replayed for an orbit.
record IsReplayAt (o : ForwardOrbit) (rounds exponent : ℕ) (script : List ℕ) (shared : Shared) : Type 0 where
  initial : Interval
  is_initial : IsInitialEnclosure (rows_at o exponent) rounds initial
  events : List Event
  read : IsScriptOf (length (rows_of_orbit o)) script events
  after : shared ≡ replayed (rows_at o exponent) is_initial.ranks rounds initial events

at_orbit : (angle : Fraction) (rounds exponent : ℕ) (script text : List ℕ)
    → (h : IsReplayText angle rounds exponent script text) → IsReplayAt h.orbit rounds exponent script h.shared
at_orbit angle rounds exponent script text h =
    record { initial = h.initial; is_initial = h.is_initial; events = h.events; read = h.read; after = h.after }

two_at : (o : ForwardOrbit) (rounds exponent : ℕ) (script : List ℕ) (s t : Shared)
    → IsReplayAt o rounds exponent script s → IsReplayAt o rounds exponent script t → s ≡ t
two_at o rounds exponent script s t a b =
    let rows = rows_at o exponent in
    let few = a.is_initial.are_rows.rows.few in
    let initials = one_enclosure rows rounds a.initial b.initial a.is_initial b.is_initial in
    let ranks = numbering_unique rows.list a.is_initial.are_rows.rows a.is_initial.ranks b.is_initial.ranks
    a.is_initial.numbering b.is_initial.numbering in
    let events = one_list (length (rows_of_orbit o)) (omega arith) script a.events b.events a.read b.read in
    a.after ∙ ap (λ r. replayed rows r rounds a.initial a.events) ranks
    ∙ ap (λ f. replayed rows b.is_initial.ranks rounds f a.events) initials
    ∙ ap (λ es. replayed rows b.is_initial.ranks rounds b.initial es) events ∙ sym b.after

pub one_replay : (angle : Fraction) (rounds exponent : ℕ) (script text other : List ℕ)
    → IsReplayText angle rounds exponent script text → IsReplayText angle rounds exponent script other → text ≡ other
one_replay angle rounds exponent script text other h k =
    let orbit = one_orbit h.orbit k.orbit h.is_orbit k.is_orbit (h.of_angle ∙ sym k.of_angle) in
    let shared = two_at h.orbit rounds exponent script h.shared k.shared (at_orbit angle rounds exponent script text h)
    (subst (λ o. IsReplayAt o rounds exponent script k.shared) (sym orbit)
    (at_orbit angle rounds exponent script other k)) in
    h.spelled ∙ ap (λ s. replay_text angle exponent s) shared ∙ sym k.spelled
