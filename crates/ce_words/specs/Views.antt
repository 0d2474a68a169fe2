-- A seat's view: its run, its part and its log, and what it was told by the seats that were joined.
-- Source: this project's choice.
use Rattle.std.specs.Prelude.{◌≡◌, ⊤, ℕ, ◌+◌, ◌-◌, ◌<◌, ◌≤◌, ◌⊎◌, List, [], ◌∷◌, ◌++◌, length, drop, if◌then◌else◌}
use Rattle.std.specs.Prelude.{nat_lt}
use Rattle.ce_rows.specs.Actors.{ActorState, actor_at_start, actor_after}
use Rattle.ce_rows.specs.Rows.{ScaledRows}
use Rattle.ce_rows.specs.declared.act.Act.{Act}
use Rattle.ce_rows.specs.declared.act.LogEntry.{LogEntry}
use Rattle.atomic_table.specs.declared.shared.Seat.{Seat}
use Rattle.ce_words.specs.declared.rule.Key.{Key}
use Rattle.ce_words.specs.declared.view.Run.{Run}
use Rattle.ce_words.specs.declared.view.Part.{Part}
use Rattle.ce_words.specs.declared.view.Place.{Place}
use Rattle.ce_words.specs.declared.view.Role.{Role}
use Rattle.ce_words.specs.declared.view.Role.TheVariants.{First, Other, Spent}
use Rattle.ce_words.specs.declared.view.View.{View}

abbrev pub run_of : Key → Run
run_of k = record {
  rows = k.rows.value.list;
  exponent = k.rows.value.exponent;
  ranks = k.ranks.value.items;
  start = drop 4 k.words.value.items;
  initial = k.initial;
}

-- the rows of a run, with their scale
abbrev pub rows_of : Run → ScaledRows
rows_of run = record { list = run.rows; exponent = run.exponent }

abbrev pub part : ℕ → ℕ → Part
part from to = record { from = from; to = to }

abbrev pub place : Part → List LogEntry → Place
place p log = record { part = p; log = log }

abbrev pub viewed : Run → Role → Place → List Place → ℕ → View
viewed run role here joined out = record { run = run; role = role; place = here; joined = joined; out = out }

-- the view of the first seat when the board is made
abbrev pub opened : Run → View
opened run = viewed run First (place (part 0 (length run.rows)) []) [] 0

-- what a joined seat leaves
abbrev pub spent : View
spent = viewed (record {
  rows = [];
  exponent = 0;
  ranks = [];
  start = [];
  initial = record { low = 0; high = 0 };
}) Spent (place (part 0 0) []) [] 0

abbrev pub view : {S : Type 0} → Seat S View → View
view seat = seat.me.0

abbrev pub IsLive : Role → Type 0
IsLive First = ⊤
IsLive Other = ⊤
IsLive Spent = ⊥

-- a step as it stands in a log: the act, the number that it carried, and its answer
abbrev pub logged : Act → ℕ → ℕ → LogEntry
logged act carried answer = record { act = act; carried = carried; answer = answer }

-- the view with one step more in its log
abbrev pub noted : View → LogEntry → View
noted v n = viewed v.run v.role (place v.place.part (v.place.log ++ n ∷ [])) v.joined v.out

-- what the actor of a log keeps: its copy, and the bounds and the count as it last saw them
abbrev pub kept : Run → List LogEntry → ActorState
kept run log = actor_after (actor_at_start run.start run.initial.low run.initial.high) log

abbrev pub seen_low : View → ℕ
seen_low v = (kept v.run v.place.log).low

abbrev pub seen_high : View → ℕ
seen_high v = (kept v.run v.place.log).high

-- the first seat's view, once the part p was split off
abbrev pub cut_left : View → Part → View
cut_left v p =
    viewed v.run v.role (place (part v.place.part.from (if nat_lt p.from p.to then p.from else v.place.part.to))
    v.place.log) v.joined (v.out + 1)

-- the view of a seat that owns the part p, and has seen and done what v has
abbrev pub cut_right : View → Part → View
cut_right v p = viewed v.run Other (place p v.place.log) [] 0

-- The part is empty, or the upper end of what was never split off.
abbrev pub CanCut : View → Part → Type 0
CanCut v p = (p.from ≡ p.to) ⊎ ((v.place.part.from ≤ p.from) × (p.from < p.to) × (p.to ≡ v.place.part.to))

-- the first seat's view, once a seat with the view w was joined
abbrev pub both_of : View → View → View
both_of v w = viewed v.run v.role v.place (v.joined ++ w.place ∷ w.joined) (v.out - 1)
