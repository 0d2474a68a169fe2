-- Where `clap` finds no fault in words, each positional word is there.
use Rattle.std.proofs.Common.{◌≡◌, ◌∙◌, ◌<◌, ◌+◌, ◌∷◌, ◌&&◌, ℕ, Bool, true, false, not, zero, suc, List, [], Some}
use Rattle.std.proofs.Common.{length, refl, sym, subst, arith, is_some}
use Rattle.std.specs.Prelude.{find, slice_get}
use Rattle.std.specs.List.{Contains, list_all, list_any}
use Rattle.std.specs.Str.{bytes_eq}
use Rattle.std.proofs.Math.Bool.{and-false}
use Rattle.clap.specs.Walk.{Held, Row, Rule, Text, arg_by_id, finished, first_of, nothing_held, settled, walk}
use Rattle.clap.specs.Walk.{walk_from}
use Rattle.clap.specs.Simple.{Shape, argument_words, built, names_of}
use Rattle.clap.specs.Takes.{is_given}
use Rattle.clap.specs.Kinds.{check_kinds}
use Rattle.clap.specs.Faults.{check_fault, defaults_fault, fault_of, level_fault, settle_fault, walk_fault}
use Rattle.clap.specs.Words.{matches_of}
use Rattle.clap.proofs.FaultLemmas.{leaf_fault}
use Rattle.ce_command.specs.Form.{CommandForm, app_of_form}
use Rattle.ce_command.specs.Table.{app_named, form_of}
use Rattle.ce_command.specs.Meaning.{given_to}
use Rattle.ce_command.specs.declared.command.CommandName.{CommandName}
use Rattle.ce_command.proofs.SingleValue.{is_single}
use Rattle.ce_command.proofs.Values.{AreFull, IsFull, first_empty, settled_full, walk_full}
use Rattle.ce_command.proofs.PlainTexts.{either_false}
use Rattle.ce_command.proofs.PlainWalk.{ServesFrom, ready_positional}
use Rattle.ce_command.proofs.PlainForm.{Fits, no_defaults, top_of}
use Rattle.ce_command.proofs.TableRows.{fits}

-- what is found fails a test that all fail
found_fails : (test p : Rule → Bool) (rules : List Rule) (a : Rule) → list_any p rules ≡ false
    → find test rules ≡ Some a → p a ≡ false
found_fails test p [] a none e = cc
found_fails test p (x ∷ xs) a none e =
    go (test x) refl (found_fails test p xs a (either_false (p x) (list_any p xs) none).1)
  where
    go : (b : Bool) → test x ≡ b → (find test xs ≡ Some a → p a ≡ false) → p a ≡ false
    go true here rest =
        let same : Some x ≡ Some a = rw here at e in
        let item : x ≡ a = cc in
        subst (λ y. p y ≡ false) item (either_false (p x) (list_any p xs) none).0
    go false here rest = rest (rw here at e)

first_value : (values : List Text) → 0 < length values → is_some (slice_get values 0) ≡ true
first_value [] lt = absurd (omega arith)
first_value (v ∷ vs) lt = refl

-- a row that is given has a first value
given_first : (id : Text) (rows : List Row) → AreFull rows → is_given id rows ≡ true → is_some (first_of id rows) ≡ true
given_first id [] full given = cc
given_first id (r ∷ rs) full given = go (bytes_eq r.id id) refl (given_first id rs full.1)
  where
    go : (b : Bool) → bytes_eq r.id id ≡ b → (is_given id rs ≡ true → is_some (first_of id rs) ≡ true)
        → is_some (first_of id (r ∷ rs)) ≡ true
    go true here rest = rw here (first_value r.values full.0)
    go false here rest = rw here (rest (rw here at given))

-- a positional word has its rule
pub record HasRule (s : Shape) (id : Text) : Type 0 where
  pub place : ℕ
  pub rule : arg_by_id s.rules id ≡ Some (ready_positional place id)

has_rule : (s : Shape) (ids : List Text) (k : ℕ) → ServesFrom s k ids → (id : Text) → Contains ids id → HasRule s id
has_rule s [] k serves id (j, lt, at) = absurd (omega arith)
has_rule s (x ∷ xs) k serves id (zero, lt, at) = subst (HasRule s) at (record { place = k; rule = serves.1 })
has_rule s (x ∷ xs) k serves id (suc j, lt, at) = has_rule s xs (k + 1) serves.3 id (j, omega arith, at)

none_wanted : (b : Bool) → check_kinds false false b ≡ [] → b ≡ false
none_wanted true e = cc
none_wanted false e = refl

not_false : (b : Bool) → not b ≡ false → b ≡ true
not_false true e = refl
not_false false e = cc

-- what the last step of a reading without a fault says of the rows at its end
given_where_checked : (s : Shape) (rows : List Row) (id : Text) → s.arg_required_else_help ≡ false
    → s.subcommand_required ≡ false → HasRule s id
    → check_fault s rows false ≡ [] → is_given id rows ≡ true
given_where_checked s rows id no_help no_subcommand has free =
    let wanted : check_kinds false false (list_any (λ a. a.required && not (is_given a.id rows)) s.rules) ≡ [] =
    rw (no_help, no_subcommand, and-false s.subcommand_negates_reqs) at free in
    not_false (is_given id rows)
    (found_fails (λ a. bytes_eq a.id id) (λ a. a.required && not (is_given a.id rows)) s.rules
    (ready_positional has.place id) (none_wanted _ wanted) has.rule)

module _ (s : Shape) (single : list_all is_single s.rules ≡ true) (words : List Text)
    (free : level_fault s [] nothing_held words false [] ≡ []) where
  abbrev end : Held
  end = (walk s.rules [] nothing_held words).held

  pub record Ends : Type 0 where
    pub full : AreFull (settled s.rules (walk s.rules [] nothing_held words).held).rows
    pub checked : check_fault s (finished s.rules (walk s.rules [] nothing_held words).held) false ≡ []

  pub ends : Ends
  ends =
      let start : IsFull s single nothing_held = record { rows = tt; skip = refl } in
      let parts = first_empty (walk_fault s [] (walk_from nothing_held) words) _ free in
      let more = first_empty (settle_fault s.rules s.args_override_self end) _ parts.1 in
      let last = first_empty (defaults_fault (settled s.rules end).rows s.rules) _ more.1 in
      let full = walk_full s single (walk_from nothing_held) words parts.0 start in
      record { full = settled_full s single end more.0 full.rows; checked = last.1 }

-- of a command that fits
there : (form : CommandForm) → Fits form → (words : List Text) (id : Text) → fault_of (app_of_form form) words ≡ []
    → Contains form.positionals id
    → is_some (first_of id (matches_of (app_of_form form) words)) ≡ true
there form fit words id free among =
    let app = app_of_form form in
    let after = argument_words app words in
    let s = top_of form in
    let level : level_fault (top_of form) [] nothing_held (argument_words (app_of_form form) words) false [] ≡ [] =
    sym (leaf_fault (built (app_of_form form)) nothing_held (argument_words (app_of_form form) words) fit.leaf)
    ∙ free in
    let at_end = ends (top_of form) fit.single (argument_words (app_of_form form) words) level in
    let same : finished (top_of form).rules
    (walk (top_of form).rules [] nothing_held (argument_words (app_of_form form) words)).held
    ≡ (settled (top_of form).rules
    (walk (top_of form).rules [] nothing_held (argument_words (app_of_form form) words)).held).rows = no_defaults
    (top_of form).rules _ fit.defaults in
    let full = subst AreFull (sym same) at_end.full in
    let given = given_where_checked (top_of form) _ id fit.no_help fit.no_subcommand
    (has_rule (top_of form) form.positionals 1 fit.serves id among) at_end.checked in
    let none : names_of (built (app_of_form form)) ≡ [] = rw fit.leaf refl in
    rw none (given_first id _ full given)

pub positional_there : (name : CommandName) (words : List Text) (id : Text) → fault_of (app_named name) words ≡ []
    → Contains (form_of name).positionals id
    → is_some (given_to name words id) ≡ true
positional_there name words id free among = there (form_of name) (fits name) words id free among
