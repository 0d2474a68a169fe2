-- What an end of a task says of what was written, and of what is called for.
use Rattle.std.proofs.Common.{◌≡◌, ◌+◌, ◌⊎◌, inl, inr, ℕ, List, [], Option, None, Some, refl, sym, subst, arith}
use Rattle.std.proofs.Common.{length-append}
use Rattle.std.specs.Prelude.{Result}
use Rattle.std.specs.Result.{IsErrAnd}
use Rattle.ce_command.specs.Meaning.{command_of}
use Rattle.ce_command.specs.declared.words.WordsError.{WordsError}
use Rattle.ce_command.specs.declared.words.WordsError.TheVariants as words
use Rattle.ce_port.specs.ReadAll.{Gave}
use Rattle.ce_port.specs.Sink.{GrewBy, Rose}
use Rattle.ce_port.proofs.Paging.{GrewBy-none, whole-prefix}
use Rattle.core_entropy.specs.Calls.{CallsFor, IsAbove, IsInput, IsToldInput}
use Rattle.core_entropy.specs.Input.{IsReadStatus}
use Rattle.core_entropy.specs.Headline.{Headline}
use Rattle.core_entropy.specs.Output.{GrewByPart, HasEnded, HasEndedOn, HasRead, Wrote}
use Rattle.core_entropy.specs.Status.{IsCalledFor, IsUnheard, IsUnlessNoMemory, ended_with, of_words}
use Rattle.core_entropy.specs.Table.{task_asked, task_if}
use Rattle.core_entropy.specs.Task.{Task}
use Rattle.core_entropy.specs.declared.status.Status.{Status}
use Rattle.core_entropy.specs.declared.status.Status.TheVariants.{Done, Refused, Usage, Angle, OrbitTooLong, BadEvent}
use Rattle.core_entropy.specs.declared.status.Status.TheVariants.{InputTooLong, ReadFault, WriteFault, NoMemory}
use Rattle.core_entropy.proofs.Ended.{ended_is}
use Rattle.core_entropy.proofs.Stages.{IsLawful, calls_one, told_is_read}

-- A status is called for, or it is one of three.
data Kind (s : Status) : Type 0 where
  called : IsCalledFor s → Kind s
  unread : s ≡ ReadFault → Kind s
  unwritten : s ≡ WriteFault → Kind s
  no_memory : s ≡ NoMemory → Kind s

kind : (s : Status) → Kind s
kind ReadFault = unread refl
kind WriteFault = unwritten refl
kind NoMemory = no_memory refl
kind Done = called tt
kind Refused = called tt
kind Usage = called tt
kind (Angle flaw) = called tt
kind OrbitTooLong = called tt
kind (BadEvent line) = called tt
kind InputTooLong = called tt

module _ {O : Type 0} (taken : O → Option (List ℕ)) (faults : O → ℕ) (IsText : List ℕ → Type 0) (old now : O) where
  unchanged : now ≡ old → GrewBy (taken old) (taken now) []
  unchanged same = subst (λ o. GrewBy (taken old) (taken o) []) (sym same) (GrewBy-none (taken old))

  written : (s : Status) → Wrote taken faults IsText s old now
      → GrewBy (taken old) (taken now) [] ⊎ GrewByPart IsText (taken old) (taken now)
  written Done (text, is, grew) = inr (text, is, whole-prefix (taken old) (taken now) text grew)
  written Refused (text, is, grew) = inr (text, is, whole-prefix (taken old) (taken now) text grew)
  written WriteFault (part, rose) = inr part
  written NoMemory (inl same) = inl (unchanged same)
  written NoMemory (inr part) = inr part
  written Usage same = inl (unchanged same)
  written (Angle flaw) same = inl (unchanged same)
  written OrbitTooLong same = inl (unchanged same)
  written (BadEvent line) same = inl (unchanged same)
  written InputTooLong same = inl (unchanged same)
  written ReadFault same = inl (unchanged same)

read_rose : {S : Type 0} (left : S → Option (List ℕ)) (faults : S → ℕ) (limit : Option ℕ) (old now : S)
    → HasRead left faults limit ReadFault old now → Rose (faults old) (faults now)
read_rose left faults None old now h = absurd h
read_rose left faults (Some limit) old now h = h.1

module _ {O : Type 0} (taken : O → Option (List ℕ)) (faults : O → ℕ) (task : Task) (left : Option (List ℕ)) (s : Status)
    (old now : O) (ended : HasEndedOn taken faults task left s old now) where
  module _ (lawful : IsLawful task) where
    pub headline : Headline task left (taken old) (taken now)
    headline = elim (written taken faults (task.Writes ended.input) old now s ended.wrote) [
      | inl none ↦ inl none
      | inr (text, writes, part) ↦ inr (ended.input, text, ended.is_input, lawful.true ended.input text writes, part)
    ]

    pub complete : {S : Type 0} (left_of : S → Option (List ℕ)) (read_faults : S → ℕ) (before after : S)
        → HasRead left_of read_faults task.limit s before after → (input : List ℕ) (t : Status)
        → IsToldInput task.limit left input → CallsFor task input t → ¬ (Rose (read_faults before) (read_faults after))
        → ¬ (Rose (faults old) (faults now)) → IsUnlessNoMemory s t
    complete left_of read_faults before after read input t told calls none_read none_wrote = go (kind s)
      where
        go : Kind s → IsUnlessNoMemory s t
        go (called is) =
            let same = told_is_read task.limit left ended.input input ended.is_input told in
            inl (calls_one task lawful input s t (subst (λ i. CallsFor task i s) same (ended.called is)) calls)
        go (unread is) =
            absurd (none_read
            (read_rose left_of read_faults task.limit before after
            (subst (λ k. HasRead left_of read_faults task.limit k before after) is read)))
        go (unwritten is) =
            absurd (none_wrote (subst (λ k. Wrote taken faults (task.Writes ended.input) k old now) is ended.wrote).1)
        go (no_memory is) = inr is

-- some input of a source
some_input : (limit : Option ℕ) (left : Option (List ℕ)) → (input : List ℕ) × IsInput limit left input
some_input None left = ([], refl)
some_input (Some limit) None = ([], tt)
some_input (Some limit) (Some bytes) = (bytes, refl)

module _ (list : List (List ℕ)) where
  module _ {O : Type 0} (taken : O → Option (List ℕ)) (faults : O → ℕ) (left : Option (List ℕ)) (old : O) where
    -- words that are no command, and words for which memory is refused
    pub words_ended : (e : WordsError) → (e ≡ words.Usage → command_of list ≡ None)
        → HasEndedOn taken faults (task_asked list) left (of_words e) old old
    words_ended words.Usage none =
        subst (λ o. HasEndedOn taken faults (task_if o) left Usage old old) (sym (none refl))
        (record { input = []; is_input = refl; called = λ called. inr (λ above. above, refl); wrote = refl })
    words_ended words.NoMemory none =
        let input = some_input (task_asked list).limit left in
        record { input = input.0; is_input = input.1; called = λ called. absurd called; wrote = inl refl }

-- a task that reads nothing
module _ {O : Type 0} (taken : O → Option (List ℕ)) (faults : O → ℕ) (task : Task) (left : Option (List ℕ))
    (s : Status) (old now : O) where
  pub ended_unread : task.limit ≡ None → HasEnded taken faults task [] s old now
      → HasEndedOn taken faults task left s old now
  ended_unread none h =
      record {
        input = [];
        is_input = subst (λ l. IsInput l left []) (sym none) refl;
        called = h.called;
        wrote = h.wrote;
      }

  pub ended_read : (limit : ℕ) (input : List ℕ) → task.limit ≡ Some limit → IsInput (Some limit) left input
      → HasEnded taken faults task input s old now → HasEndedOn taken faults task left s old now
  ended_read limit input is read h =
      record {
        input = input;
        is_input = subst (λ l. IsInput l left input) (sym is) read;
        called = h.called;
        wrote = h.wrote;
      }

module _ {S : Type 0} (left : S → Option (List ℕ)) (faults : S → ℕ) where
  pub none_read : (old : S) (s : Status) → ¬ (IsUnheard s) → HasRead left faults None s old old
  none_read old ReadFault heard = absurd (heard tt)
  none_read old InputTooLong heard = refl
  none_read old WriteFault heard = refl
  none_read old NoMemory heard = refl
  none_read old Done heard = refl
  none_read old Refused heard = refl
  none_read old Usage heard = refl
  none_read old (Angle flaw) heard = refl
  none_read old OrbitTooLong heard = refl
  none_read old (BadEvent line) heard = refl

  module _ {O : Type 0} (taken : O → Option (List ℕ)) (out_faults : O → ℕ) (task : Task) (limit : ℕ)
      (is : task.limit ≡ Some limit) (out : O) where
    too_much : (before now : Option (List ℕ)) → Gave (limit + 1) before now
        → HasEndedOn taken out_faults task before InputTooLong out out
    too_much None now (bytes, count, consumed) = record {
      input = bytes;
      is_input = subst (λ l. IsInput l None bytes) (sym is) tt;
      called = λ called. inl (subst (λ l. IsAbove l bytes) (sym is) (omega (arith, count)), refl);
      wrote = refl;
    }
    too_much (Some all) None (bytes, count, consumed) = absurd consumed
    too_much (Some all) (Some rest) (bytes, count, consumed) = record {
      input = all;
      is_input = subst (λ l. IsInput l (Some all) all) (sym is) refl;
      called = λ called.
          inl (
            subst (λ l. IsAbove l all) (sym is) (rw consumed (omega (arith, count, length-append bytes rest))),
            refl,
          );
      wrote = refl;
    }

    -- a task whose input was not read
    pub unread_ended : (old now : S) (s : Status) → IsReadStatus s → HasRead left faults (Some limit) s old now
        → HasEndedOn taken out_faults task (left old) s out out
    unread_ended old now InputTooLong kind read = too_much (left old) (left now) read
    unread_ended old now ReadFault kind read =
        let input = some_input task.limit (left old) in
        record { input = input.0; is_input = input.1; called = λ called. absurd called; wrote = refl }
    unread_ended old now NoMemory kind read =
        let input = some_input task.limit (left old) in
        record { input = input.0; is_input = input.1; called = λ called. absurd called; wrote = inl refl }
    unread_ended old now WriteFault kind read = absurd kind
    unread_ended old now Done kind read = absurd kind
    unread_ended old now Refused kind read = absurd kind
    unread_ended old now Usage kind read = absurd kind
    unread_ended old now (Angle flaw) kind read = absurd kind
    unread_ended old now OrbitTooLong kind read = absurd kind
    unread_ended old now (BadEvent line) kind read = absurd kind

-- The end of an error, and of the task that a row of the table gives.
module _ {O : Type 0} (taken : O → Option (List ℕ)) (faults : O → ℕ) (task row : Task)
    (same : task ≡ row) (old now : O) where
  pub ended_by_row : (input : List ℕ) (s : Status) → HasEnded taken faults row input s old now
      → HasEnded taken faults task input s old now
  ended_by_row input s = subst (λ t. HasEnded taken faults t input s old now) (sym same)

  pub row_limit : (limit : Option ℕ) → row.limit ≡ limit → task.limit ≡ limit
  row_limit limit is = subst (λ t. t.limit ≡ limit) (sym same) is

pub ended_on_by : {O : Type 0} (taken : O → Option (List ℕ)) (faults : O → ℕ) (task : Task) (left : Option (List ℕ))
    (old now : O) (r : Result Unit Status) (s : Status) → IsErrAnd r (λ t. t ≡ s)
    → HasEndedOn taken faults task left s old now → HasEndedOn taken faults task left (ended_with r) old now
ended_on_by taken faults task left old now r s is =
    subst (λ t. HasEndedOn taken faults task left t old now) (sym (ended_is r s is))

-- The arm of a command that reads: its input was not read, or its task ended with what was read.
module _ {O S : Type 0} (taken : O → Option (List ℕ)) (out_faults : O → ℕ) (left : S → Option (List ℕ)) (faults : S → ℕ)
    (task row : Task) (same : task ≡ row) (limit : ℕ) (is : row.limit ≡ Some limit) (source : S) (old : O) where
  pub arm_unread : (now : S) (r : Result Unit Status) (s : Status) → IsErrAnd r (λ t. t ≡ s) → IsReadStatus s
      → HasRead left faults (Some limit) s source now
      → HasEndedOn taken out_faults task (left source) (ended_with r) old old
  arm_unread now r s by kind read =
      ended_on_by taken out_faults task (left source) old old r s
      by (unread_ended left faults taken out_faults task limit
      (row_limit taken out_faults task row same old old (Some limit) is) old source now s kind read)

  pub arm_read : (now : O) (input handed : List ℕ) (s : Status) → handed ≡ input
      → IsInput (Some limit) (left source) input → HasEnded taken out_faults row handed s old now
      → HasEndedOn taken out_faults task (left source) s old now
  arm_read now input handed s given read ended =
      ended_read taken out_faults task (left source) s old now limit input
      (row_limit taken out_faults task row same old now (Some limit) is) read
      (ended_by_row taken out_faults task row same old now input s
      (subst (λ i. HasEnded taken out_faults row i s old now) given ended))
