-- A text is a script, or it has a first bad line.
use Rattle.std.proofs.Common.{◌≡◌, ◌≢◌, ◌<◌, ◌≤◌, ◌⊎◌, ◌∙◌, inl, inr, ℕ, zero, suc, List, [], ◌∷◌, ◌++◌, length}
use Rattle.std.proofs.Common.{refl, sym, ap, subst, arith, append_assoc, length-append}
use Rattle.std.proofs.lemmas.Bool.{cases_lt}
use Rattle.std.proofs.lemmas.List.Elements.{All-nil, All-cons}
use Rattle.ce_rows.specs.declared.event.Event.{Event}
use Rattle.ce_rows.specs.declared.event.Event.TheVariants.{Load, Relax, Shrink, Low, High, Raise, Lower, Shift, Ask}
use Rattle.ce_rows.specs.declared.event.Event.TheVariants.{Halted, Stop}
use Rattle.ce_cert.proofs.FirstFlaw.{same_or_not}
use Rattle.ce_core.specs.Machine.{actor_count}
use Rattle.ce_core.specs.Script.{event_line, script_of, IsEventBelow, IsScriptOf, IsFirstBad}

or_else : {F A B : Type 0} → F ⊎ A → (A → F ⊎ B) → F ⊎ B
or_else (inl f) next = inl f
or_else (inr a) next = next a

-- a number below a bound passes, or none does
below : (P : ℕ → Type 0) → ((n : ℕ) → P n ⊎ (¬ (P n))) → (bound : ℕ)
    → ((n : ℕ) × (n < bound) × P n) ⊎ ((n : ℕ) → n < bound → ¬ (P n))
below P test zero = inr (λ n less. absurd (omega (arith, less)))
below P test (suc bound) = go (test bound) (below P test bound)
  where
    go : P bound ⊎ (¬ (P bound)) → ((n : ℕ) × (n < bound) × P n) ⊎ ((n : ℕ) → n < bound → ¬ (P n))
        → ((n : ℕ) × (n < suc bound) × P n) ⊎ ((n : ℕ) → n < suc bound → ¬ (P n))
    go (inl p) rest = inl (bound, omega arith, p)
    go (inr none) (inl (n, less, p)) = inl (n, omega (arith, less), p)
    go (inr none) (inr others) = inr (λ n less p. elim (cases_lt n bound) [
      | inl small ↦ others n small p
      | inr large ↦ let same : n ≡ bound = omega (arith, less, large) in none (subst P same p)
    ])

abbrev Begins : List ℕ → List ℕ → Type 0
Begins front text = (rest : List ℕ) × (text ≡ front ++ rest)

begins_or : (front text : List ℕ) → Begins front text ⊎ (¬ (Begins front text))
begins_or [] text = inl (text, refl)
begins_or (x ∷ front) [] = inr (λ (rest, is). cc)
begins_or (x ∷ front) (y ∷ text) = go (same_or_not y x) (begins_or front text)
  where
    go : (y ≡ x) ⊎ (y ≢ x) → Begins front text ⊎ (¬ (Begins front text))
        → Begins (x ∷ front) (y ∷ text) ⊎ (¬ (Begins (x ∷ front) (y ∷ text)))
    go (inl same) (inl (rest, is)) = inl (rest, cc)
    go (inl same) (inr none) = inr (λ (rest, is). none (rest, cc))
    go (inr other) more = inr (λ (rest, is). other (cc))

module _ (entries : ℕ) (text : List ℕ) where
  abbrev Reads : Event → Type 0
  Reads event = Begins (event_line event ++ 10 ∷ []) text

  abbrev Found : Type 0
  Found = (event : Event) × IsEventBelow entries event × Reads event

  shared : (make : ℕ → Event) → ((a : ℕ) → a < actor_count → IsEventBelow entries (make a))
      → Found ⊎ ((a : ℕ) → a < actor_count → ¬ (Reads (make a)))
  shared make is =
      elim (below (λ a. Reads (make a)) (λ a. begins_or (event_line (make a) ++ 10 ∷ []) text) actor_count) [
        | inl (a, less, reads) ↦ inl (make a, is a less, reads)
        | inr none ↦ inr none
      ]

  entry : (make : ℕ → ℕ → Event) → ((a i : ℕ) → a < actor_count → i < entries → IsEventBelow entries (make a i))
      → Found ⊎ ((a i : ℕ) → a < actor_count → i < entries → ¬ (Reads (make a i)))
  entry make is =
      elim (below (λ a. (i : ℕ) × (i < entries) × Reads (make a i))
      (λ a. go a (below (λ i. Reads (make a i)) (λ i. begins_or (event_line (make a i) ++ 10 ∷ []) text) entries))
      actor_count) [
        | inl (a, less, (i, small, reads)) ↦ inl (make a i, is a i less small, reads)
        | inr none ↦ inr (λ a i less small reads. none a less (i, small, reads))
      ]
    where
      go : (a : ℕ) → ((i : ℕ) × (i < entries) × Reads (make a i)) ⊎ ((i : ℕ) → i < entries → ¬ (Reads (make a i)))
          → ((i : ℕ) × (i < entries) × Reads (make a i)) ⊎ (¬ ((i : ℕ) × (i < entries) × Reads (make a i)))
      go a (inl found) = inl found
      go a (inr none) = inr (λ (i, small, reads). none i small reads)

  abbrev OnEntry : (ℕ → ℕ → Event) → Type 0
  OnEntry make = (a i : ℕ) → a < actor_count → i < entries → ¬ (Reads (make a i))

  abbrev OnShared : (ℕ → Event) → Type 0
  OnShared make = (a : ℕ) → a < actor_count → ¬ (Reads (make a))

  -- the first line is that of an event, or of none
  first : Found ⊎ ((event : Event) → IsEventBelow entries event → ¬ (Reads event))
  first =
      or_else (entry Load (λ a i less small. record { actor = less; entry = small })) (λ load.
      or_else (entry Relax (λ a i less small. record { actor = less; entry = small })) (λ relax.
      or_else (entry Shrink (λ a i less small. record { actor = less; entry = small })) (λ shrink.
      or_else (shared Low (λ a less. record { actor = less; entry = tt })) (λ low.
      or_else (shared High (λ a less. record { actor = less; entry = tt })) (λ high.
      or_else (shared Raise (λ a less. record { actor = less; entry = tt })) (λ raise.
      or_else (shared Lower (λ a less. record { actor = less; entry = tt })) (λ lower.
      or_else (shared Shift (λ a less. record { actor = less; entry = tt })) (λ shift.
      or_else (shared Ask (λ a less. record { actor = less; entry = tt })) (λ ask.
      or_else (shared Halted (λ a less. record { actor = less; entry = tt })) (λ halted.
      or_else (shared Stop (λ a less. record { actor = less; entry = tt })) (λ stop.
      inr (all load relax shrink low high raise lower shift ask halted stop))))))))))))
    where
      all : OnEntry Load → OnEntry Relax → OnEntry Shrink → OnShared Low → OnShared High → OnShared Raise
          → OnShared Lower → OnShared Shift → OnShared Ask → OnShared Halted → OnShared Stop → (event : Event)
          → IsEventBelow entries event → ¬ (Reads event)
      all load relax shrink low high raise lower shift ask halted stop (Load a i) is = load a i is.actor is.entry
      all load relax shrink low high raise lower shift ask halted stop (Relax a i) is = relax a i is.actor is.entry
      all load relax shrink low high raise lower shift ask halted stop (Shrink a i) is = shrink a i is.actor is.entry
      all load relax shrink low high raise lower shift ask halted stop (Low a) is = low a is.actor
      all load relax shrink low high raise lower shift ask halted stop (High a) is = high a is.actor
      all load relax shrink low high raise lower shift ask halted stop (Raise a) is = raise a is.actor
      all load relax shrink low high raise lower shift ask halted stop (Lower a) is = lower a is.actor
      all load relax shrink low high raise lower shift ask halted stop (Shift a) is = shift a is.actor
      all load relax shrink low high raise lower shift ask halted stop (Ask a) is = ask a is.actor
      all load relax shrink low high raise lower shift ask halted stop (Halted a) is = halted a is.actor
      all load relax shrink low high raise lower shift ask halted stop (Stop a) is = stop a is.actor

-- How a text ends as a script.
abbrev pub Ends : ℕ → List ℕ → Type 0
Ends entries text =
    ((events : List Event) × IsScriptOf entries text events) ⊎ ((line : ℕ) × IsFirstBad entries text line)

module _ (entries : ℕ) where
  -- an event before
  more : (event : Event) (text rest : List ℕ) → IsEventBelow entries event
      → text ≡ (event_line event ++ 10 ∷ []) ++ rest → Ends entries rest → Ends entries text
  more event text rest is spelled (inl (events, script)) = inl (
    event ∷ events,
    record {
      spelled = spelled ∙ ap (λ l. (event_line event ++ 10 ∷ []) ++ l) script.spelled;
      below = All-cons (IsEventBelow entries) event events is script.below;
    },
  )
  more event text rest is spelled (inr (line, bad)) = inr (
    suc line,
    record {
      events = event ∷ bad.events;
      rest = bad.rest;
      spelled =
          spelled ∙ ap (λ l. (event_line event ++ 10 ∷ []) ++ l) bad.spelled
          ∙ sym (append_assoc (event_line event ++ 10 ∷ []) (script_of bad.events) bad.rest);
      below = All-cons (IsEventBelow entries) event bad.events is bad.below;
      bad = bad.bad;
      counted = omega (arith, bad.counted);
    },
  )

  shorter : (event : Event) (text rest : List ℕ) (n : ℕ) → text ≡ (event_line event ++ 10 ∷ []) ++ rest
      → length text ≤ suc n → length rest ≤ n
  shorter event text rest n spelled short =
      let long = ap length spelled in
      let parts = length-append (event_line event ++ 10 ∷ []) rest in
      let line = length-append (event_line event) (10 ∷ []) in
      omega arith

  begins_badly : (x : ℕ) (xs : List ℕ)
      → ((event : Event) → IsEventBelow entries event → ¬ (Begins (event_line event ++ 10 ∷ []) (x ∷ xs)))
      → IsFirstBad entries (x ∷ xs) 1
  begins_badly x xs none = record {
    events = [];
    rest = x ∷ xs;
    spelled = refl;
    below = All-nil (IsEventBelow entries);
    bad = record {
      some = λ e. cc;
      none = λ event next is reads. none event is (next, reads ∙ sym (append_assoc (event_line event) (10 ∷ []) next));
    };
    counted = refl;
  }

  within : (n : ℕ) (text : List ℕ) → length text ≤ n → Ends entries text
  within n [] short = inl ([], record { spelled = refl; below = All-nil (IsEventBelow entries) })
  within zero (x ∷ xs) short = absurd (omega (arith, short))
  within (suc n) (x ∷ xs) short = elim (first entries (x ∷ xs)) [
    | inl (event, is, (rest, spelled)) ↦ more event (x ∷ xs) rest is spelled
        (within n rest (shorter event (x ∷ xs) rest n spelled short))
    | inr none ↦ inr (1, begins_badly x xs none)
  ]

  pub script_ends : (text : List ℕ) → Ends entries text
  script_ends text = within (length text) text (omega arith)
