-- The task of the command `replay`.
use Rattle.std.proofs.Common.{◌≡◌, ◌≢◌, ◌<◌, ◌≤◌, ◌^◌, ◌==◌, ◌∙◌, inl, inr, Bool, true, false, ℕ, List, [], ◌∷◌}
use Rattle.std.proofs.Common.{Option, Some, Result, Ok, Err, length, refl, sym, ap, subst, arith}
use Rattle.std.specs.Prelude.{IfErr}
use Rattle.std.proofs.lemmas.Bool.Decides.{nat_tests}
use Rattle.ce_angle.specs.Fraction.{Fraction, IsAngle}
use Rattle.ce_core.specs.Script.{IsScriptOf, IsFirstBad}
use Rattle.ce_core.proofs.Scripts.{one_line, no_line}
use Rattle.ce_orbit.specs.Orbit.{ForwardOrbit, IsForwardOrbit, HasOrbitAbove, HasOrbitWithin}
use Rattle.ce_orbit.proofs.Unique.{one_orbit}
use Rattle.ce_rows.specs.Events.{Shared}
use Rattle.ce_rows.specs.Rows.{EnclosesRows, ScaledRows}
use Rattle.ce_rows.specs.declared.event.Event.{Event}
use Rattle.ce_rows.specs.declared.interval.Interval.{Interval}
use Rattle.ce_thurston.specs.Indices.{rows_of_orbit}
use Rattle.ce_thurston.specs.Pairs.{portrait_of}
use Rattle.ce_thurston.proofs.Indexed.{length-rows}
use Rattle.ce_thurston.proofs.Triangle.{few_pairs}
use Rattle.core_entropy.specs.Calls.{CallsFor, IsAbove}
use Rattle.core_entropy.specs.InitialEnclosure.{IsInitialEnclosure}
use Rattle.ce_thurston.specs.Indices.{rows_at}
use Rattle.core_entropy.specs.Headline.{ClaimsTruly, IsInsideInitial}
use Rattle.core_entropy.specs.Replay.{HasScript, HasBadLine, EndsByScript, IsReplayText, replay_task, replay_text}
use Rattle.core_entropy.specs.Replay.{replayed, script_limit, shared_interval}
use Rattle.core_entropy.specs.Output.{HasEnded, Wrote}
use Rattle.core_entropy.specs.Status.{IsCalledFor, IsOfWriting, ended_with, of_script}
use Rattle.core_entropy.specs.Task.{solved}
use Rattle.core_entropy.specs.declared.status.Status.{Status}
use Rattle.core_entropy.specs.declared.status.Status.TheVariants.{Done, OrbitTooLong, BadEvent}
use Rattle.ce_core.specs.declared.script.ScriptError.{ScriptError}
use Rattle.ce_core.specs.declared.script.ScriptError.TheVariants as script_error
use Rattle.core_entropy.proofs.AngleTask.{long_or_not, not_long, one_true, short_if}
use Rattle.core_entropy.proofs.Ended.{answered}
use Rattle.core_entropy.proofs.Played.{replay_sound}
use Rattle.ce_core.proofs.ScriptEnds.{script_ends}
use Rattle.core_entropy.proofs.Stages.{IsLawful, unless_one, unless_some, unless_called}

few_rows : (o : ForwardOrbit) → length o.places ≤ 128 → length (rows_of_orbit o) < 2 ^ 32
few_rows o few = go (length o.places == 1) refl
  where
    go : (b : Bool) → (length o.places == 1) ≡ b → length (rows_of_orbit o) < 2 ^ 32
    go true e = rw e (omega arith)
    go false e =
        let other : length o.places ≢ 1 = grind (arith, nat_tests) in
        omega (arith, few_pairs (length o.places) few, length-rows (portrait_of o) other)

-- the bad line and the script of one angle
module _ (angle : Fraction) (input : List ℕ) where
  same_orbit : (a b : HasOrbitWithin 128 angle) → a.orbit ≡ b.orbit
  same_orbit a b = one_orbit a.orbit b.orbit a.is_orbit b.is_orbit (a.of_angle ∙ sym b.of_angle)

  bad_or_script : (line : ℕ) → HasBadLine angle input line → HasScript angle input → ⊥
  bad_or_script line h k =
      let read = subst (λ o. IsScriptOf (length (rows_of_orbit o)) input k.events)
      (sym (same_orbit h.short k.short)) k.read in
      no_line (length (rows_of_orbit h.short.orbit)) (few_rows h.short.orbit h.short.few) line input k.events read h.bad

  same_line : (m n : ℕ) → HasBadLine angle input m → HasBadLine angle input n → m ≡ n
  same_line m n h k =
      let bad = subst (λ o. IsFirstBad (length (rows_of_orbit o)) input n) (sym (same_orbit h.short k.short)) k.bad in
      one_line (length (rows_of_orbit h.short.orbit)) (few_rows h.short.orbit h.short.few) input m n h.bad bad

  script_one : (s t : Status) → EndsByScript angle input s → EndsByScript angle input t → s ≡ t
  script_one s t (inl (m, h, is)) (inl (n, k, js)) = is ∙ ap (λ l. BadEvent l) (same_line m n h k) ∙ sym js
  script_one s t (inl (m, h, is)) (inr (k, js)) = absurd (bad_or_script m h k)
  script_one s t (inr (h, is)) (inl (n, k, js)) = absurd (bad_or_script n k h)
  script_one s t (inr (h, is)) (inr (k, js)) = is ∙ sym js

  script_called : (s : Status) → EndsByScript angle input s → IsCalledFor s
  script_called s (inl (m, h, is)) = subst IsCalledFor (sym is) tt
  script_called s (inr (h, is)) = subst IsCalledFor (sym is) tt

  script_some : HasOrbitWithin 128 angle → (s : Status) × EndsByScript angle input s
  script_some short = elim (script_ends (length (rows_of_orbit short.orbit)) input) [
    | inl (events, read) ↦ (Done, inr (record { short = short; events = events; read = read }, refl))
    | inr (line, bad) ↦ (BadEvent line, inl (line, record { short = short; bad = bad }, refl))
  ]

module _ (angle : Fraction) (rounds exponent : ℕ) (few : rounds ≤ 36) where
  replay_true : (script text : List ℕ) → IsReplayText angle rounds exponent script text
      → ClaimsTruly (replay_task rounds exponent angle) script text
  replay_true script text h =
      let rows = rows_at h.orbit exponent in
      let sound =
      replay_sound rows rounds h.initial h.events few h.is_initial h.read.below in
      let encloses = subst (λ (s : Shared). EnclosesRows rows s.low s.high) (sym h.after) sound.encloses in
      let inside : IsInsideInitial rows (shared_interval h.shared) rounds = record {
        initial = h.initial;
        is_initial = h.is_initial;
        from = subst (λ (s : Shared). h.initial.low ≤ s.low) (sym h.after) sound.from;
        to = subst (λ (s : Shared). s.high ≤ h.initial.high) (sym h.after) sound.to;
      } in (
        solved angle rounds exponent (shared_interval h.shared) ∷ [],
        (h.shared, h.spelled, refl),
        one_true h.orbit angle rounds exponent (shared_interval h.shared) h.is_orbit h.of_angle encloses inside,
      )

  pub replay_lawful : IsAngle angle → IsLawful (replay_task rounds exponent angle)
  replay_lawful is = record {
    some = λ script. unless_some (HasOrbitAbove 128 angle) OrbitTooLong (EndsByScript angle script)
        (long_or_not angle is) (λ none. script_some angle script (short_if angle is none));
    one = λ script. unless_one (HasOrbitAbove 128 angle) OrbitTooLong (EndsByScript angle script)
        (script_one angle script);
    called = λ script. unless_called (HasOrbitAbove 128 angle) OrbitTooLong (EndsByScript angle script)
        tt (script_called angle script);
    true = replay_true;
  }

-- A text is that of each script which spells its events.
abbrev Replays : ForwardOrbit → ℕ → ℕ → ScaledRows → Type 0
Replays o exponent rounds rows =
    (initial : Interval) (events : List Event) (shared : Shared)
    → (is_initial : IsInitialEnclosure rows rounds initial)
    → shared ≡ replayed rows is_initial.ranks rounds initial events
    → (text : List ℕ) → text ≡ replay_text o.angle exponent shared
    → (script : List ℕ) → IsScriptOf (length rows.list) script events
    → IsReplayText o.angle rounds exponent script text

replays_here : (o : ForwardOrbit) (exponent rounds : ℕ) → IsForwardOrbit o
    → Replays o exponent rounds (rows_at o exponent)
replays_here o exponent rounds is_orbit initial events shared is_initial after text spelled script read = record {
  orbit = o;
  is_orbit = is_orbit;
  of_angle = refl;
  initial = initial;
  is_initial = is_initial;
  events = events;
  read = read;
  shared = shared;
  after = after;
  spelled = spelled;
}

pub replays : (o : ForwardOrbit) (exponent rounds : ℕ) (rows : ScaledRows) → IsForwardOrbit o
    → rows ≡ rows_at o exponent → Replays o exponent rounds rows
replays o exponent rounds rows is_orbit same =
    subst (λ (r : ScaledRows). Replays o exponent rounds r) (sym same) (replays_here o exponent rounds is_orbit)

-- How a replay ended.
module _ (angle : Fraction) (rounds exponent : ℕ) (script : List ℕ) (fits : length script ≤ script_limit) where
  not_above : ¬ (IsAbove (Some script_limit) script)
  not_above above = omega (arith, fits, above)

  pub bad_called : (line : ℕ) → HasBadLine angle script line
      → CallsFor (replay_task rounds exponent angle) script (BadEvent line)
  bad_called line bad = inr (not_above, inr (not_long angle bad.short, inl (line, bad, refl)))

  script_called_for : HasScript angle script → CallsFor (replay_task rounds exponent angle) script Done
  script_called_for has = inr (not_above, inr (not_long angle has.short, inr (has, refl)))

  module _ {O : Type 0} (taken : O → Option (List ℕ)) (faults : O → ℕ) (old now : O) where
    pub replay_ended : HasScript angle script → (r : Result Unit Status) → IfErr r IsOfWriting
        → Wrote taken faults (IsReplayText angle rounds exponent script) (ended_with r) old now
        → HasEnded taken faults (replay_task rounds exponent angle) script (ended_with r) old now
    replay_ended has (Ok x) stopped = answered taken faults (replay_task rounds exponent angle) script Done old now
        (λ none. none) (script_called_for has) Done (inl refl)
    replay_ended has (Err s) stopped = answered taken faults (replay_task rounds exponent angle) script Done old now
        (λ none. none) (script_called_for has) s (inr stopped)

    -- a script that was not read: a line of it is bad, or memory was refused
    pub script_refused : (e : ScriptError)
        → ((line : ℕ) → e ≡ script_error.BadEvent line → HasBadLine angle script line) → now ≡ old
        → HasEnded taken faults (replay_task rounds exponent angle) script (of_script e) old now
    script_refused (script_error.BadEvent line) bad same =
        record { heard = λ none. none; called = λ called. bad_called line (bad line refl); wrote = same }
    script_refused script_error.NoMemory bad same =
        record { heard = λ none. none; called = λ none. absurd none; wrote = inl same }
