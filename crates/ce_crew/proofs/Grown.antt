-- Steps of an actor, one after another.
use Rattle.std.proofs.Common.{◌≡◌, ℕ, List, [], ◌∷◌, ◌++◌, map, length, refl}
use Rattle.std.proofs.Common.{◌∙◌, length-set}
use Rattle.std.specs.List.{flat_map}
use Rattle.std.proofs.lemmas.List.{map-append}
use Rattle.ce_rows.specs.Actors.{ActorState, after_answer, actor_after}
use Rattle.ce_words.specs.declared.view.Run.{Run}
use Rattle.ce_rows.specs.declared.act.Act.{Act}
use Rattle.ce_rows.specs.declared.act.Act.TheVariants.{Loads, Relaxes, Shrinks, LoadsLow, LoadsHigh, Raises, Lowers}
use Rattle.ce_rows.specs.declared.act.Act.TheVariants.{LoadsShift, Asks, LoadsStop, Stops}
use Rattle.ce_rows.specs.declared.act.LogEntry.{LogEntry}
use Rattle.ce_crew.specs.MachineSteps.{acts_of, AreMachineSteps}

pub actor_after-append : (own : ActorState) (xs ys : List LogEntry)
    → actor_after own (xs ++ ys) ≡ actor_after (actor_after own xs) ys
actor_after-append own [] ys = refl
actor_after-append own (x ∷ xs) ys = actor_after-append (after_answer own x.act x.answer) xs ys

pub acts_of-append : (xs ys : List LogEntry) → acts_of (xs ++ ys) ≡ acts_of xs ++ acts_of ys
acts_of-append xs ys = map-append (λ (e : LogEntry). e.act) xs ys

-- An act keeps the length of the copy.
pub length-after : (own : ActorState) (act : Act) (a : ℕ) → length (after_answer own act a).copy ≡ length own.copy
length-after own (Loads i) a = length-set own.copy i a
length-after own (Relaxes i) a = length-set own.copy i a
length-after own (Shrinks i) a = length-set own.copy i a
length-after own LoadsLow a = refl
length-after own LoadsHigh a = refl
length-after own Raises a = refl
length-after own Lowers a = refl
length-after own LoadsShift a = refl
length-after own Asks a = refl
length-after own LoadsStop a = refl
length-after own Stops a = refl

pub length-actor_after : (own : ActorState) (log : List LogEntry) → length (actor_after own log).copy ≡ length own.copy
length-actor_after own [] = refl
length-actor_after own (e ∷ es) =
    length-actor_after (after_answer own e.act e.answer) es ∙ length-after own e.act e.answer

-- Loads, relaxations and rescalings of entries leave the bounds and the count.
abbrev pub IsOnEntry : Act → Type 0
IsOnEntry (Loads i) = Unit {0}
IsOnEntry (Relaxes i) = Unit {0}
IsOnEntry (Shrinks i) = Unit {0}
IsOnEntry _ = ⊥

abbrev pub AreOnEntries : List Act → Type 0
AreOnEntries [] = Unit {0}
AreOnEntries (a ∷ rest) = IsOnEntry a × AreOnEntries rest

pub record SeesAs (own before : ActorState) : Type 0 where
  pub low : own.low ≡ before.low
  pub high : own.high ≡ before.high
  pub shift : own.shift ≡ before.shift

sees_after : (own : ActorState) (act : Act) (a : ℕ) → IsOnEntry act → SeesAs (after_answer own act a) own
sees_after own (Loads i) a p = record { low = refl; high = refl; shift = refl }
sees_after own (Relaxes i) a p = record { low = refl; high = refl; shift = refl }
sees_after own (Shrinks i) a p = record { low = refl; high = refl; shift = refl }
sees_after own LoadsLow a p = absurd p
sees_after own LoadsHigh a p = absurd p
sees_after own Raises a p = absurd p
sees_after own Lowers a p = absurd p
sees_after own LoadsShift a p = absurd p
sees_after own Asks a p = absurd p
sees_after own LoadsStop a p = absurd p
sees_after own Stops a p = absurd p

pub sees_stay : (own : ActorState) (es : List LogEntry) → AreOnEntries (acts_of es) → SeesAs (actor_after own es) own
sees_stay own [] p = record { low = refl; high = refl; shift = refl }
sees_stay own (e ∷ es) p =
    let one = sees_after own e.act e.answer p.0 in
    let rest = sees_stay (after_answer own e.act e.answer) es p.1 in
    record { low = rest.low ∙ one.low; high = rest.high ∙ one.high; shift = rest.shift ∙ one.shift }

pub on_entries-append : (xs ys : List Act) → AreOnEntries xs → AreOnEntries ys → AreOnEntries (xs ++ ys)
on_entries-append [] ys p q = q
on_entries-append (x ∷ xs) ys p q = (p.0, on_entries-append xs ys p.1 q)

pub on_entries-map : (f : ℕ → Act) → ((j : ℕ) → IsOnEntry (f j)) → (js : List ℕ) → AreOnEntries (map f js)
on_entries-map f h [] = tt
on_entries-map f h (j ∷ js) = (h j, on_entries-map f h js)

pub on_entries-flat_map : (f : ℕ → List Act) → ((j : ℕ) → AreOnEntries (f j)) → (js : List ℕ)
    → AreOnEntries (flat_map f js)
on_entries-flat_map f h [] = tt
on_entries-flat_map f h (j ∷ js) = on_entries-append (f j) (flat_map f js) (h j) (on_entries-flat_map f h js)

pub steps-append : (run : Run) (own : ActorState) (xs ys : List LogEntry) → AreMachineSteps run own xs
    → AreMachineSteps run (actor_after own xs) ys → AreMachineSteps run own (xs ++ ys)
steps-append run own [] ys f g = g
steps-append run own (x ∷ xs) ys f g = (f.0, steps-append run (after_answer own x.act x.answer) xs ys f.1 g)
