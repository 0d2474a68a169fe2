-- What the command `desk` tells is true, and how it ends.
use Rattle.std.proofs.Common.{◌≡◌, ◌≢◌, ◌⊎◌, ◌∙◌, ℕ, Bool, List, [], slice_index_or, Option, None}
use Rattle.std.proofs.Common.{Some}
use Rattle.std.proofs.Common.{inl, inr, refl, sym, ap, subst, arith}
use Rattle.std.specs.Prelude.{All, IfOk, Result, Ok, Err}
use Rattle.std.specs.Result.{IfErr}
use Rattle.std.proofs.KnownBytes.{Consumes-nil}
use Rattle.std.proofs.lemmas.List.Elements.{All-nil, All-weaker}
use Rattle.ce_command.specs.Meaning.{command_of}
use Rattle.ce_command.specs.declared.command.Command.{Command}
use Rattle.ce_command.specs.declared.command.Command.TheVariants as command
use Rattle.ce_command.specs.declared.words.WordsError.{WordsError}
use Rattle.ce_command.specs.declared.words.WordsError.TheVariants as words_error
use Rattle.ce_command.proofs.TableRows.{all_limited}
use Rattle.ce_desk.proofs.Sound.{replies_sound, closing_true}
use Rattle.ce_desk.specs.Desk.{Slot, Desk, empty_desk}
use Rattle.ce_desk.specs.DeskText.{AreReplies, IsDeskText, IsOpeningText}
use Rattle.ce_desk.specs.Served.{ServedAll, ServedSome}
use Rattle.ce_desk.specs.Sound.{IsTrueOf, IsSound}
use Rattle.ce_desk.specs.declared.settings.DeskSettings.{DeskSettings}
use Rattle.ce_desk.specs.declared.serving.DeskStop.{DeskStop}
use Rattle.ce_desk.specs.declared.serving.DeskStop.TheVariants as stop
use Rattle.ce_port.proofs.Paging.{whole-prefix, none-prefix}
use Rattle.ce_rows.specs.Rows.{AreScaledRows, EnclosesRows, ScaledRows}
use Rattle.ce_rows.specs.Scale.{IsExponent}
use Rattle.ce_rows.specs.declared.interval.Interval.{Interval}
use Rattle.ce_thurston.proofs.OrbitRows.{rows_in_range}
use Rattle.ce_thurston.specs.Indices.{rows_at}
use Rattle.core_entropy.proofs.AngleTask.{claim_true, inside_of_run}
use Rattle.core_entropy.specs.Desk.{AskForDesk, AskForAnyDesk, IsDesk, HasRunDesk, IsTrueSlot}
use Rattle.core_entropy.specs.Desk.{TellsTruly, OpensTruly, DeskHeadline}
use Rattle.core_entropy.specs.Headline.{IsTrueClaim}
use Rattle.core_entropy.specs.Task.{solved}
use Rattle.core_entropy.specs.declared.status.Status.{Status}
use Rattle.core_entropy.specs.declared.status.Status.TheVariants as status

module _ (rounds exponent : ℕ) (known : IsExponent exponent) where
  -- An interval that is true of the run of a sound slot is a true claim on its angle.
  interval_true : (slot : Slot) → IsSound rounds exponent slot → (told : Interval) → IsTrueOf slot.run told
      → IsTrueClaim (solved slot.angle rounds exponent told)
  interval_true slot s told t =
      let o = s.short.orbit in
      let are : AreScaledRows (rows_at o exponent) =
      record { rows = rows_in_range o s.short.is_orbit s.short.few; scale = known } in
      claim_true o slot.angle rounds exponent told s.short.is_orbit s.short.of_angle
      (subst (λ (r : ScaledRows). EnclosesRows r told.low told.high) s.run_of.rows_are t.encloses)
      (inside_of_run (rows_at o exponent) rounds slot.run told are s.run_of t.inside)

  slot_true : (slot : Slot) → IsSound rounds exponent slot → IsTrueSlot rounds exponent slot
  slot_true slot s = record {
    initial = interval_true slot s slot.run.initial (record {
      encloses = s.initial;
      inside = record { from = omega arith; to = omega arith };
    });
    told = All-weaker (IsTrueOf slot.run) (λ told. IsTrueClaim (solved slot.angle rounds exponent told))
        (interval_true slot s) slot.told s.told;
  }

  slots_sound : (lines : List (Option (List ℕ))) (desk : Desk) (text : List ℕ)
      → AreReplies rounds exponent 1 empty_desk lines desk text → All (IsSound rounds exponent) desk.slots
  slots_sound lines desk text replies =
      replies_sound rounds exponent known 1 empty_desk lines desk text replies (All-nil (IsSound rounds exponent))

  slots_true : (lines : List (Option (List ℕ))) (desk : Desk) (text : List ℕ)
      → AreReplies rounds exponent 1 empty_desk lines desk text → All (IsTrueSlot rounds exponent) desk.slots
  slots_true lines desk text replies =
      All-weaker (IsSound rounds exponent) (IsTrueSlot rounds exponent) slot_true desk.slots
      (slots_sound lines desk text replies)

  text_true : (lines : List (Option (List ℕ))) (quits : Bool) (text : List ℕ)
      → IsDeskText rounds exponent lines quits text
      → TellsTruly rounds exponent lines quits text
  text_true lines quits text t = record {
    is_text = t;
    slots = slots_true lines t.desk t.replies t.are_replies;
    closings = λ i x c below.
        let slot = slice_index_or t.desk.slots i x in
        let closing = slice_index_or t.closings i c in
        let sound = slots_sound lines t.desk t.replies t.are_replies i x below in
        interval_true slot sound closing.interval
        (closing_true rounds exponent known slot closing sound (t.close.each i x c below));
  }

  opening_true : (lines : List (Option (List ℕ))) (text : List ℕ) → IsOpeningText rounds exponent lines text
      → OpensTruly rounds exponent lines text
  opening_true lines text t = record { is_text = t; slots = slots_true lines t.desk text t.are_replies }

  some_true : (left left_after taken taken_after : Option (List ℕ))
      → ServedSome rounds exponent left left_after taken taken_after → DeskHeadline rounds exponent taken taken_after
  some_true left left_after taken taken_after (lines, text, took, inl (quits, t), grew) =
      (lines, text, inl (quits, text_true lines quits text t), grew)
  some_true left left_after taken taken_after (lines, text, took, inr t, grew) =
      (lines, text, inr (opening_true lines text t), grew)

  all_true : (left left_after taken taken_after : Option (List ℕ))
      → ServedAll rounds exponent left left_after taken taken_after → DeskHeadline rounds exponent taken taken_after
  all_true left left_after taken taken_after (lines, quits, text, took, t, grew) =
      (lines, text, inl (quits, text_true lines quits text t), whole-prefix taken taken_after text grew)

  stop_true : (left left_after taken taken_after : Option (List ℕ)) (s : DeskStop)
      → (s ≡ stop.Done → ServedAll rounds exponent left left_after taken taken_after)
      → (s ≢ stop.Done → ServedSome rounds exponent left left_after taken taken_after)
      → DeskHeadline rounds exponent taken taken_after
  stop_true left left_after taken taken_after stop.Done all some =
      all_true left left_after taken taken_after (all refl)
  stop_true left left_after taken taken_after stop.InputTooLong all some =
      some_true left left_after taken taken_after (some (λ same. absurd (cc)))
  stop_true left left_after taken taken_after stop.ReadFault all some =
      some_true left left_after taken taken_after (some (λ same. absurd (cc)))
  stop_true left left_after taken taken_after stop.WriteFault all some =
      some_true left left_after taken taken_after (some (λ same. absurd (cc)))
  stop_true left left_after taken taken_after stop.NoMemory all some =
      some_true left left_after taken taken_after (some (λ same. absurd (cc)))

module _ {S O : Type 0} (left : S → Option (List ℕ)) (read_faults : S → ℕ)
    (taken : O → Option (List ℕ)) (write_faults : O → ℕ) (rounds exponent : ℕ) (source : S) (out : O) where
  -- Where memory is refused before a line is taken, nothing was done.
  pub none_served : HasRunDesk left read_faults taken write_faults rounds exponent source out status.NoMemory source out
  none_served = (
    stop.NoMemory,
    refl,
    record {
      done = λ same. absurd (cc);
      part = λ differs. (
        [],
        [],
        record {
          between = left source;
          took = Consumes-nil (left source);
          ahead = [];
          more = Consumes-nil (left source);
        },
        inr (record { desk = empty_desk; early = refl; are_replies = (refl, refl) }),
        none-prefix (taken out) [],
      );
      too_long = λ same. absurd (cc);
      answered = λ same. absurd (cc);
      answered_all = λ same. absurd (cc);
      read_fault = λ same. absurd (cc);
      write_fault = λ same. absurd (cc);
      read = omega arith;
      wrote = omega arith;
    },
  )

  pub served_headline : (known : IsExponent exponent) (s : Status) (source_after : S) (out_after : O)
      → HasRunDesk left read_faults taken write_faults rounds exponent source out s source_after out_after
      → DeskHeadline rounds exponent (taken out) (taken out_after)
  served_headline known s source_after out_after (end, is, served) =
      stop_true rounds exponent known (left source) (left source_after) (taken out) (taken out_after) end
      served.done served.part

-- Words ask for one desk at most.
same_numbers : (r w e r' w' e' : ℕ)
    → ◌≡◌ {A = Option Command} (Some (command.Desk r w e)) (Some (command.Desk r' w' e')) → (r ≡ r') × (e ≡ e')
same_numbers r w e r' w' e' same = (cc, cc)

pub one_desk : (words : List (List ℕ)) (r w e r' w' e' : ℕ) → AskForDesk words r w e → AskForDesk words r' w' e'
    → (r ≡ r') × (e ≡ e')
one_desk words r w e r' w' e' asks also = same_numbers r w e r' w' e' (sym asks ∙ also)

some_is : (a b : Command) → ◌≡◌ {A = Option Command} (Some a) (Some b) → a ≡ b
some_is a b same = cc

none_is : (a : Command) → ◌≡◌ {A = Option Command} None (Some a) → ⊥
none_is a same = absurd (cc)

pub no_command : (words : List (List ℕ)) → command_of words ≡ None → ¬ (AskForAnyDesk words)
no_command words is (r, w, e, asks) = none_is (command.Desk r w e) (sym is ∙ asks)

pub any_desk : (words : List (List ℕ)) (asked : Command) → command_of words ≡ Some asked → IsDesk asked
    → AskForAnyDesk words
any_desk words asked is (r, w, e, desk) = (r, w, e, is ∙ ap (λ (c : Command). Some c) desk)

-- What was served as the words ask was served as they ask by other names.
pub served_as : {S O : Type 0} (left : S → Option (List ℕ)) (read_faults : S → ℕ) (taken : O → Option (List ℕ))
    (write_faults : O → ℕ) (words : List (List ℕ)) (r w e rounds workers exponent : ℕ)
    (source : S) (out : O) (s : Status) (source_after : S) (out_after : O) → AskForDesk words r w e
    → AskForDesk words rounds workers exponent
    → HasRunDesk left read_faults taken write_faults r e source out s source_after out_after
    → HasRunDesk left read_faults taken write_faults rounds exponent source out s source_after out_after
served_as left read_faults taken write_faults words r w e rounds workers exponent source out s source_after out_after
    asks also h =
    let same = one_desk words r w e rounds workers exponent asks also in
    subst (λ (n : ℕ). HasRunDesk left read_faults taken write_faults n exponent source out s source_after out_after)
    same.0
    (subst (λ (n : ℕ). HasRunDesk left read_faults taken write_faults r n source out s source_after out_after) same.1 h)

pub known_exponent : (words : List (List ℕ)) (r w e : ℕ) → AskForDesk words r w e → IsExponent e
known_exponent words r w e asks = (all_limited words (command.Desk r w e) asks).2

-- Words that ask for a desk are refused for want of memory alone.
pub refused_memory : (words : List (List ℕ)) (s t : Status) → t ≡ s
    → (s ≡ status.NoMemory) ⊎ ((s ≡ status.Usage) × ¬ (AskForAnyDesk words)) → AskForAnyDesk words → t ≡ status.NoMemory
refused_memory words s t told (inl is) asks = told ∙ is
refused_memory words s t told (inr is) asks = absurd (is.1 asks)

pub asks_any : (words : List (List ℕ)) (r w e : ℕ) → AskForDesk words r w e → AskForAnyDesk words
asks_any words r w e asks = (r, w, e, asks)

-- The settings that were read are those that the words ask for; and where there are none, they ask for no desk.
pub settings_ask : (words : List (List ℕ)) (read : Result Command WordsError)
    → IfOk read (λ asked. command_of words ≡ Some asked)
    → (r : Result DeskSettings Status) → IfOk r (λ s. read ≡ Ok (command.Desk s.rounds s.workers s.scale))
    → IfOk r (λ s. AskForDesk words s.rounds s.workers s.scale)
settings_ask words read is (Ok s) desk =
    subst (λ (o : Result Command WordsError). IfOk o (λ asked. command_of words ≡ Some asked)) desk is
settings_ask words read is (Err e) desk = tt

ok_is : (asked other : Command) → asked ≡ other → ◌≡◌ {A = Result Command WordsError} (Ok asked) (Ok other)
ok_is asked other same = ap (λ (c : Command). Ok c) same

-- Words that were read as no desk ask for none.
read_none : (words : List (List ℕ)) (read : Result Command WordsError)
    → IfOk read (λ asked. command_of words ≡ Some asked)
    → (read ≡ Err words_error.Usage → command_of words ≡ None)
    → ((r w e : ℕ) → read ≢ Ok (command.Desk r w e)) → read ≢ Err words_error.NoMemory → ¬ (AskForAnyDesk words)
read_none words (Ok asked) is usage none memory (r, w, e, asks) =
    none r w e (ok_is asked (command.Desk r w e) (some_is asked (command.Desk r w e) (sym is ∙ asks)))
read_none words (Err words_error.Usage) is usage none memory any = no_command words (usage refl) any
read_none words (Err words_error.NoMemory) is usage none memory any = memory refl

pub settings_refused : (words : List (List ℕ)) (read : Result Command WordsError)
    → IfOk read (λ asked. command_of words ≡ Some asked)
    → (read ≡ Err words_error.Usage → command_of words ≡ None)
    → (r : Result DeskSettings Status)
    → IfErr r (λ s. (s ≡ status.NoMemory) ⊎ ((s ≡ status.Usage) × (read ≢ Err words_error.NoMemory)
    × ((r w e : ℕ) → read ≢ Ok (command.Desk r w e))))
    → IfErr r (λ s. (s ≡ status.NoMemory) ⊎ ((s ≡ status.Usage) × ¬ (AskForAnyDesk words)))
settings_refused words read is usage (Ok s) none = tt
settings_refused words read is usage (Err e) (inl memory) = inl memory
settings_refused words read is usage (Err e) (inr none) = inr (none.0, read_none words read is usage none.2 none.1)

-- The settings of a command that was read.
pub read_some : (read : Result Command WordsError) (asked : Command) → read ≡ Ok asked
    → (r : Result DeskSettings Status)
    → IfOk r (λ s. asked ≡ command.Desk s.rounds s.workers s.scale)
    → IfOk r (λ s. read ≡ Ok (command.Desk s.rounds s.workers s.scale))
read_some read asked is (Ok s) desk = is ∙ ok_is asked (command.Desk s.rounds s.workers s.scale) desk
read_some read asked is (Err e) desk = tt

same_command : (asked other : Command) → ◌≡◌ {A = Result Command WordsError} (Ok asked) (Ok other) → asked ≡ other
same_command asked other same = cc

not_starved : (asked : Command) → ◌≡◌ {A = Result Command WordsError} (Ok asked) (Err words_error.NoMemory) → ⊥
not_starved asked same = absurd (cc)

pub read_other : (read : Result Command WordsError) (asked : Command) → read ≡ Ok asked
    → (r : Result DeskSettings Status)
    → IfErr r (λ s. (s ≡ status.Usage) × ¬ (IsDesk asked))
    → IfErr r (λ s. (s ≡ status.NoMemory) ⊎ ((s ≡ status.Usage) × (read ≢ Err words_error.NoMemory)
    × ((r w e : ℕ) → read ≢ Ok (command.Desk r w e))))
read_other read asked is (Ok s) none = tt
read_other read asked is (Err e) none = inr (
  none.0,
  λ memory. not_starved asked (sym is ∙ memory),
  λ r w e desk. none.1 (r, w, e, same_command asked (command.Desk r w e) (sym is ∙ desk)),
)
