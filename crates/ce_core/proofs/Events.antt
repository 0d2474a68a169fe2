-- What one event does to the enclosure: the bounds still enclose and only narrow, and what each
-- actor saw is still true.
use Rattle.std.proofs.Common.{◌≡◌, ◌≤◌, ◌<◌, ◌^◌, ◌∙◌, ◌⊎◌, inl, inr, ℕ, Bool, true, false, max, List, []}
use Rattle.std.proofs.Common.{length, get_or, refl, arith}
use Rattle.std.specs.Prelude.{if◌then◌else◌, ◌==◌, slice_set}
use Rattle.std.proofs.lemmas.Bool.{cases_lt, eqb-true}
use Rattle.std.proofs.lemmas.List.{length-set, set_past}
use Rattle.std.proofs.lemmas.List.Elements.{All-set, All-get_or, All-weaker}
use Rattle.ce_rows.specs.Blocks.{IsRanking}
use Rattle.ce_rows.specs.Events.{Shared, actor_of, act_of, after_act, answer_of}
use Rattle.ce_rows.specs.declared.act.Act.{Act}
use Rattle.ce_rows.specs.declared.act.Act.TheVariants.{Loads, Relaxes, Shrinks, LoadsLow, LoadsHigh, Raises, Lowers}
use Rattle.ce_rows.specs.declared.act.Act.TheVariants.{Stops}
use Rattle.ce_rows.specs.Rows.{ScaledRows, AreScaledRows, IsLowerBoundOf, IsUpperBoundOf}
use Rattle.ce_rows.specs.declared.event.Event.{Event}
use Rattle.ce_rows.proofs.Blocks.{entry_at_most}
use Rattle.ce_rows.proofs.Rates.{low_at_most_high_of_rows}
use Rattle.ce_vector.specs.Relaxation.{rescaled}
use Rattle.ce_cert.specs.Quotients.{low_of, high_of}
use Rattle.ce_cert.specs.Vectors.{IsVectorOf}
use Rattle.ce_cert.proofs.Defined.{low_is_lower_bound, high_is_upper_bound}
use Rattle.ce_rows.specs.Actors.{ActorState, actor_at_start, after_answer}
use Rattle.ce_core.specs.Machine.{Machine, kept_by, carried, answer_to, after_event}
use Rattle.ce_core.specs.Runs.{LiesWithin}
use Rattle.ce_core.specs.Sound.{IsSoundActor, IsSound}
use Rattle.ce_rows.proofs.General.{greater_of, lesser_of}

-- A number from 1 to 2^60 goes to an entry.
stored : (rows : ScaledRows) (v : List ℕ) (i x : ℕ) → IsVectorOf rows v → 1 ≤ x → x ≤ 2 ^ 60
    → IsVectorOf rows (slice_set v i x)
stored rows v i x vector positive small = record {
  each = length-set v i x ∙ vector.each;
  positive = All-set (λ y. 1 ≤ y) v i x positive vector.positive;
  small = All-set (λ y. y ≤ 2 ^ 60) v i x small vector.small;
}

-- An entry of one vector goes to another of the same length.
copied : (rows : ScaledRows) (v w : List ℕ) (i : ℕ) → IsVectorOf rows v → IsVectorOf rows w
    → IsVectorOf rows (slice_set v i (get_or w i 0))
copied rows v w i vector from =
    elim (cases_lt i (length w)) [
      | inl within ↦
          stored rows v i (get_or w i 0) vector (All-get_or (λ y. 1 ≤ y) w i 0 within from.positive)
          (All-get_or (λ y. y ≤ 2 ^ 60) w i 0 within from.small)
      | inr past ↦
          let same : slice_set v i (get_or w i 0) ≡ v =
          set_past v i (get_or w i 0) (omega (arith, vector.each, from.each)) in rw same vector
    ]

-- the greater of a word that is 0 or 1 and of the number that a stop carries
stop_word : (b : Bool) (stop : ℕ) → stop ≤ 1 → max stop (if b then 1 else 0) ≤ 1
stop_word true stop h = omega arith
stop_word false stop h = omega arith

stop_cause : (b : Bool) (stop : ℕ) → max stop (if b then 1 else 0) ≡ 1 → (b ≡ true) ⊎ (stop ≡ 1)
stop_cause true stop h = inl refl
stop_cause false stop h = inr (omega arith)

module _ (rows : ScaledRows) (are : AreScaledRows rows) (ranks : List ℕ) (ranking : IsRanking rows.list ranks)
    (bottom top : ℕ) where
  module _ (s : Shared) (own : ActorState) (h : IsSoundActor rows bottom top s own) where
    rescaled_small : (i : ℕ) → rescaled (get_or own.copy i 0) ≤ 2 ^ 60
    rescaled_small i = omega (arith, entry_at_most (2 ^ 60) own.copy h.vector.small i)

    vector_kept : (act : Act) → IsVectorOf rows s.entries
        → IsVectorOf rows (after_act s act (carried rows ranks own act)).entries
    vector_kept (Relaxes i) v =
        stored rows s.entries i (carried rows ranks own (Relaxes i)) v (omega arith) (omega arith)
    vector_kept (Shrinks i) v =
        stored rows s.entries i (rescaled (get_or own.copy i 0)) v (omega arith) (rescaled_small i)
    vector_kept _ v = v

    below_kept : (act : Act) → IsLowerBoundOf rows s.low
        → IsLowerBoundOf rows (after_act s act (carried rows ranks own act)).low
    below_kept Raises below =
        greater_of (IsLowerBoundOf rows) s.low (low_of rows ranks own.copy) below
        (low_is_lower_bound rows are ranks own.copy ranking h.vector.each h.vector.positive)
    below_kept _ below = below

    above_kept : (act : Act) → IsUpperBoundOf rows s.high
        → IsUpperBoundOf rows (after_act s act (carried rows ranks own act)).high
    above_kept Lowers above =
        lesser_of (IsUpperBoundOf rows) s.high (high_of rows ranks own.copy) above
        (high_is_upper_bound rows are ranks own.copy ranking h.vector.each h.vector.positive)
    above_kept _ above = above

    pub narrowed : (act : Act) → LiesWithin s.low s.high (after_act s act (carried rows ranks own act))
    narrowed Raises = record { from = omega arith; to = omega arith }
    narrowed Lowers = record { from = omega arith; to = omega arith }
    narrowed _ = record { from = omega arith; to = omega arith }

    stop_kept : (act : Act) → s.stop ≤ 1 → (after_act s act (carried rows ranks own act)).stop ≤ 1
    stop_kept Stops few = stop_word (own.low == own.high) s.stop few
    stop_kept _ few = few

    -- where the stop word is set, the bounds were equal before
    closed : (act : Act) → s.low ≤ s.high → (s.stop ≡ 1 → s.low ≡ s.high)
        → (after_act s act (carried rows ranks own act)).stop ≡ 1 → s.low ≡ s.high
    closed Stops order before is = elim (stop_cause (own.low == own.high) s.stop is) [
      | inl equal ↦ let same = eqb-true own.low own.high equal in omega (arith, same, h.seen.low, h.seen.high)
      | inr old ↦ before old
    ]
    closed _ order before is = before is

    own_kept : (act : Act) → IsVectorOf rows s.entries → bottom ≤ s.low → s.high ≤ top
        → IsSoundActor rows bottom top (after_act s act (carried rows ranks own act))
        (after_answer own act (answer_of s act (carried rows ranks own act)))
    own_kept (Loads i) v from to = record {
      vector = copied rows own.copy s.entries i h.vector v;
      from = h.from;
      to = h.to;
      seen = record { low = h.seen.low; high = h.seen.high };
    }
    own_kept (Relaxes i) v from to = record {
      vector = stored rows own.copy i (carried rows ranks own (Relaxes i)) h.vector (omega arith) (omega arith);
      from = h.from;
      to = h.to;
      seen = record { low = h.seen.low; high = h.seen.high };
    }
    own_kept (Shrinks i) v from to = record {
      vector = stored rows own.copy i (rescaled (get_or own.copy i 0)) h.vector (omega arith) (rescaled_small i);
      from = h.from;
      to = h.to;
      seen = record { low = h.seen.low; high = h.seen.high };
    }
    own_kept LoadsLow v from to =
        record { vector = h.vector; from = from; to = h.to; seen = record { low = omega arith; high = h.seen.high } }
    own_kept LoadsHigh v from to =
        record { vector = h.vector; from = h.from; to = to; seen = record { low = h.seen.low; high = omega arith } }
    own_kept Raises v from to = record {
      vector = h.vector;
      from = omega arith;
      to = h.to;
      seen = record { low = omega arith; high = h.seen.high };
    }
    own_kept Lowers v from to = record {
      vector = h.vector;
      from = h.from;
      to = omega arith;
      seen = record { low = h.seen.low; high = omega arith };
    }
    own_kept _ v from to = record {
      vector = h.vector;
      from = h.from;
      to = h.to;
      seen = record { low = h.seen.low; high = h.seen.high };
    }

  -- What an actor saw stays true while the bounds narrow.
  seen_later : (s later : Shared) → LiesWithin s.low s.high later → (own : ActorState)
      → IsSoundActor rows bottom top s own → IsSoundActor rows bottom top later own
  seen_later s later within own h = record {
    vector = h.vector;
    from = h.from;
    to = h.to;
    seen = record { low = omega (arith, h.seen.low, within.from); high = omega (arith, h.seen.high, within.to) };
  }

  module _ (m : Machine) (sound : IsSound rows bottom top m) (event : Event)
      (there : actor_of event < length m.actors) where
    own_seen : IsSoundActor rows bottom top m.shared (kept_by m (actor_of event))
    own_seen =
        All-get_or (IsSoundActor rows bottom top m.shared) m.actors (actor_of event) (actor_at_start [] 0 0) there
        sound.actors

    pub event_narrows : LiesWithin m.shared.low m.shared.high (after_event rows ranks m event).shared
    unfolding after_event
    event_narrows = narrowed m.shared (kept_by m (actor_of event)) own_seen (act_of event)

    pub event_keeps : IsSound rows bottom top (after_event rows ranks m event)
    unfolding after_event answer_to
    event_keeps =
        let s = m.shared in
        let act = act_of event in
        let own = kept_by m (actor_of event) in
        let later = after_act s act (carried rows ranks own act) in
        let within : LiesWithin s.low s.high later = narrowed s own own_seen act in
        let below = below_kept s own own_seen act sound.encloses.below in
        let above = above_kept s own own_seen act sound.encloses.above in
        let order = low_at_most_high_of_rows rows s.low s.high sound.encloses.below sound.encloses.above in
        let new_order = low_at_most_high_of_rows rows later.low later.high below above in
        let own_new = own_kept s own own_seen act sound.vector sound.from sound.to in
        let others =
        All-weaker (IsSoundActor rows bottom top s) (IsSoundActor rows bottom top later)
        (seen_later s later within) m.actors sound.actors in
        record {
          vector = vector_kept s own own_seen act sound.vector;
          encloses = record { below = below; above = above };
          from = omega (arith, within.from, sound.from);
          to = omega (arith, within.to, sound.to);
          actors = All-set (IsSoundActor rows bottom top later) m.actors (actor_of event)
              (after_answer own act (answer_of s act (carried rows ranks own act))) own_new others;
          stop = stop_kept s own own_seen act sound.stop;
          stopped = λ is.
              let equal = closed s own own_seen act order sound.stopped is in
              omega (arith, equal, within.from, within.to, new_order);
        }

    pub event_keeps_actors : length (after_event rows ranks m event).actors ≡ length m.actors
    unfolding after_event
    event_keeps_actors =
        length-set m.actors (actor_of event)
        (after_answer (kept_by m (actor_of event)) (act_of event) (answer_to rows ranks m event))
