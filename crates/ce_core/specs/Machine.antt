-- The pure machine of a run. Actors share a vector, the bounds of the growth rate and two words,
-- and each keeps what it last saw of them; events change all this one after another. Sources:
-- [ChazanMiranker1969] for the asynchronous iteration; the events are this project's choice.
use Rattle.std.specs.Prelude.{ℕ, ◌+◌, ◌==◌, if◌then◌else◌, List, [], replicate, slice_index, slice_index_or, slice_set}
use Rattle.ce_rows.specs.Actors.{ActorState, actor_at_start, after_answer}
use Rattle.ce_rows.specs.Blocks.{block_sum_of}
use Rattle.ce_rows.specs.Events.{Shared, actor_of, act_of, after_act, answer_of}
use Rattle.ce_rows.specs.declared.act.Act.{Act}
use Rattle.ce_rows.specs.declared.act.Act.TheVariants.{Relaxes, Shrinks, Raises, Lowers, Asks, Stops}
use Rattle.ce_rows.specs.Rows.{ScaledRows}
use Rattle.ce_rows.specs.declared.event.Event.{Event}
use Rattle.ce_vector.specs.Relaxation.{relaxed, rescaled}
use Rattle.ce_cert.specs.Quotients.{low_of, high_of}

pub record Machine : Type 0 where
  pub shared : Shared
  pub actors : List ActorState

-- how many actors a script speaks of, and the code's machine has
abbrev pub actor_count : ℕ
actor_count = 16

-- what an actor keeps; an actor that is not there keeps nothing
abbrev pub kept_by : Machine → ℕ → ActorState
kept_by m actor = slice_index_or m.actors actor (actor_at_start [] 0 0)

-- so many actors at the start: all copies are the start's vector, all bounds the initial enclosure
unfoldable pub machine_at_start : ℕ → List ℕ → ℕ → ℕ → Machine
machine_at_start count start low high = record {
  shared = record { entries = start; low = low; high = high; shift = 0; stop = 0 };
  actors = replicate count (actor_at_start start low high);
}

-- the number that an act carries, by what its actor keeps
abbrev pub carried : ScaledRows → List ℕ → ActorState → Act → ℕ
carried rows ranks own (Relaxes i) =
    relaxed rows.exponent (slice_index own.copy i) (block_sum_of rows.list ranks own.copy i) own.low own.high
carried rows ranks own (Shrinks i) = rescaled (slice_index own.copy i)
carried rows ranks own Raises = low_of rows ranks own.copy
carried rows ranks own Lowers = high_of rows ranks own.copy
carried rows ranks own Asks = own.shift + 1
carried rows ranks own Stops = if own.low == own.high then 1 else 0
carried rows ranks own _ = 0

-- the answer to an event, and the machine after it
unfoldable pub answer_to : ScaledRows → List ℕ → Machine → Event → ℕ
answer_to rows ranks m event =
    answer_of m.shared (act_of event) (carried rows ranks (kept_by m (actor_of event)) (act_of event))

unfoldable pub after_event : ScaledRows → List ℕ → Machine → Event → Machine
after_event rows ranks m event = record {
  shared = after_act m.shared (act_of event) (carried rows ranks (kept_by m (actor_of event)) (act_of event));
  actors = slice_set m.actors (actor_of event)
      (after_answer (kept_by m (actor_of event)) (act_of event) (answer_to rows ranks m event));
}
