-- How a task ended, from what was written.
use Rattle.std.proofs.Common.{◌≡◌, inl, inr, ℕ, List, Option, Result, Ok, Err, sym, subst}
use Rattle.std.specs.Prelude.{OnErr}
use Rattle.std.specs.Result.{IsErrAnd}
use Rattle.ce_port.specs.Sink.{GrewBy}
use Rattle.core_entropy.specs.Calls.{CallsFor}
use Rattle.core_entropy.specs.Output.{GrewByPart, HasEnded, Wrote}
use Rattle.core_entropy.specs.Status.{IsCalledFor, IsEndOfAnswer, IsOfWriting, IsStopped, IsUnheard, ended_with}
use Rattle.core_entropy.specs.Task.{Task}
use Rattle.core_entropy.specs.declared.status.Status.{Status}
use Rattle.core_entropy.specs.declared.status.Status.TheVariants.{Done, Refused, Usage, Angle, OrbitTooLong, BadEvent}
use Rattle.core_entropy.specs.declared.status.Status.TheVariants.{InputTooLong, ReadFault, WriteFault, NoMemory}

pub on_err : {X E : Type 0} (P : Type 0) (r : Result X E) → P → OnErr r P
on_err P (Ok x) h = tt
on_err P (Err e) h = h

module _ {O : Type 0} (taken : O → Option (List ℕ)) (faults : O → ℕ) (old now : O) where
  -- a part of a text was written, and then it stopped
  pub wrote_stopped : (IsText : List ℕ → Type 0) (s : Status) → IsStopped (faults old) (faults now) s
      → GrewByPart IsText (taken old) (taken now) → Wrote taken faults IsText s old now
  wrote_stopped IsText s (inl (fault, rose)) part =
      subst (λ t. Wrote taken faults IsText t old now) (sym fault) (part, rose)
  wrote_stopped IsText s (inr memory) part = subst (λ t. Wrote taken faults IsText t old now) (sym memory) (inr part)

  pub stopped_called : (s : Status) → IsStopped (faults old) (faults now) s → ¬ (IsCalledFor s)
  stopped_called s (inl (fault, rose)) called = subst IsCalledFor fault called
  stopped_called s (inr memory) called = subst IsCalledFor memory called

  stopped_heard : (s : Status) → IsStopped (faults old) (faults now) s → ¬ (IsUnheard s)
  stopped_heard s (inl (fault, rose)) unheard = subst IsUnheard fault unheard
  stopped_heard s (inr memory) unheard = subst IsUnheard memory unheard

  pub ended_stopped : (task : Task) (input : List ℕ) (s : Status) → IsStopped (faults old) (faults now) s
      → GrewByPart (task.Writes input) (taken old) (taken now) → HasEnded taken faults task input s old now
  ended_stopped task input s stopped part = record {
    heard = stopped_heard s stopped;
    called = λ called. absurd (stopped_called s stopped called);
    wrote = wrote_stopped (task.Writes input) s stopped part;
  }

  -- another reading of what was written
  pub wrote_weaker : (P Q : List ℕ → Type 0) → ((text : List ℕ) → P text → Q text) → (s : Status)
      → Wrote taken faults P s old now → Wrote taken faults Q s old now
  wrote_weaker P Q weaker Done (text, is, grew) = (text, weaker text is, grew)
  wrote_weaker P Q weaker Refused (text, is, grew) = (text, weaker text is, grew)
  wrote_weaker P Q weaker WriteFault ((text, is, grew), rose) = ((text, weaker text is, grew), rose)
  wrote_weaker P Q weaker NoMemory (inl same) = inl same
  wrote_weaker P Q weaker NoMemory (inr (text, is, grew)) = inr (text, weaker text is, grew)
  wrote_weaker P Q weaker Usage same = same
  wrote_weaker P Q weaker (Angle flaw) same = same
  wrote_weaker P Q weaker OrbitTooLong same = same
  wrote_weaker P Q weaker (BadEvent line) same = same
  wrote_weaker P Q weaker InputTooLong same = same
  wrote_weaker P Q weaker ReadFault same = same

-- the status of an error
pub ended_is : (r : Result Unit Status) (s : Status) → IsErrAnd r (λ t. t ≡ s) → ended_with r ≡ s
ended_is (Ok x) s h = absurd h
ended_is (Err e) s h = h

module _ {O : Type 0} (taken : O → Option (List ℕ)) (faults : O → ℕ) (task : Task) (input : List ℕ) (old now : O) where
  -- the same of a result
  pub ended_by : (r : Result Unit Status) (s : Status) → IsErrAnd r (λ t. t ≡ s)
      → HasEnded taken faults task input s old now → HasEnded taken faults task input (ended_with r) old now
  ended_by r s is h = subst (λ t. HasEnded taken faults task input t old now) (sym (ended_is r s is)) h

  pub ended_done : CallsFor task input Done → (text : List ℕ) → task.Writes input text
      → GrewBy (taken old) (taken now) text → HasEnded taken faults task input Done old now
  ended_done calls text writes grew =
      record { heard = λ none. none; called = λ called. calls; wrote = (text, writes, grew) }

pub wrote_by : {O : Type 0} (taken : O → Option (List ℕ)) (faults : O → ℕ) (old now : O) (IsText : List ℕ → Type 0)
    (r : Result Unit Status) (s : Status) → IsErrAnd r (λ t. t ≡ s) → Wrote taken faults IsText s old now
    → Wrote taken faults IsText (ended_with r) old now
wrote_by taken faults old now IsText r s is h =
    subst (λ t. Wrote taken faults IsText t old now) (sym (ended_is r s is)) h

-- How a call that writes an answer ended its task.
of_writing_called : (s : Status) → IsOfWriting s → ¬ (IsCalledFor s)
of_writing_called WriteFault of called = called
of_writing_called NoMemory of called = called
of_writing_called Done of called = of
of_writing_called Refused of called = of
of_writing_called Usage of called = of
of_writing_called (Angle flaw) of called = of
of_writing_called OrbitTooLong of called = of
of_writing_called (BadEvent line) of called = of
of_writing_called InputTooLong of called = of
of_writing_called ReadFault of called = of

of_writing_heard : (s : Status) → IsOfWriting s → ¬ (IsUnheard s)
of_writing_heard WriteFault of unheard = unheard
of_writing_heard NoMemory of unheard = unheard
of_writing_heard Done of unheard = unheard
of_writing_heard Refused of unheard = unheard
of_writing_heard Usage of unheard = of
of_writing_heard (Angle flaw) of unheard = unheard
of_writing_heard OrbitTooLong of unheard = unheard
of_writing_heard (BadEvent line) of unheard = unheard
of_writing_heard InputTooLong of unheard = of
of_writing_heard ReadFault of unheard = of

module _ {O : Type 0} (taken : O → Option (List ℕ)) (faults : O → ℕ) (task : Task) (input : List ℕ)
    (wanted : Status) (old now : O) where
  pub answered : ¬ (IsUnheard wanted) → CallsFor task input wanted → (s : Status) → IsEndOfAnswer wanted s
      → Wrote taken faults (task.Writes input) s old now → HasEnded taken faults task input s old now
  answered heard calls s (inl same) wrote = record {
    heard = subst (λ t. ¬ (IsUnheard t)) (sym same) heard;
    called = λ _. subst (CallsFor task input) (sym same) calls;
    wrote = wrote;
  }
  answered heard calls s (inr of) wrote = record {
    heard = of_writing_heard s of;
    called = λ called. absurd (of_writing_called s of called);
    wrote = wrote;
  }
