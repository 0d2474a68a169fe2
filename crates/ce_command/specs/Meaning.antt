-- What a list of words means. Source: this project's choice, over what `clap` says of the words of a
-- simple command.
use Rattle.std.specs.Prelude.{◌&&◌, ◌≡◌, ◌≢◌, ◌∷◌, ℕ, Bool, true, false, List, [], Option, None, Some, find, is_some}
use Rattle.std.specs.Prelude.{if◌then◌else◌, option_and_then, unwrap_or}
use Rattle.std.specs.List.{list_all}
use Rattle.std.specs.Str.{bytes_eq}
use Rattle.clap.specs.Walk.{is_empty}
use Rattle.clap.specs.Words.{App, Text, fault_of, first_of, matches_of, takes}
use Rattle.ce_command.specs.Options.{Given, OptionForm, number_given}
use Rattle.ce_command.specs.Form.{CommandForm, app_of_form}
use Rattle.ce_command.specs.Table.{NameCommand, all_names, app_named, form_of}
use Rattle.ce_command.specs.declared.command.CommandName.{CommandName}
use Rattle.ce_command.specs.declared.command.Command.{Command}

-- the command that a word names
abbrev pub name_of : Text → Option CommandName
name_of word = find (λ name. bytes_eq (form_of name).name word) all_names

-- No number of these that is given is out of form or range.
abbrev pub are_good : Given → List OptionForm → Bool
are_good given options = list_all (λ option. is_some (number_given given option)) options

abbrev pub has_good_numbers : CommandForm → Given → Bool
has_good_numbers form given = are_good given form.numbers && are_good given form.options

-- the text of a positional word; words in which clap finds no fault have each
abbrev pub text_in : Given → Text → Text
text_in given id = unwrap_or (given id) []

-- the number of an option
abbrev pub number_at : Given → OptionForm → ℕ
number_at given option = unwrap_or (number_given given option) option.default

-- the command that what is given makes
abbrev pub command_from : CommandForm → Given → Option Command
command_from form given =
    if has_good_numbers form given then Some (form.command (text_in given) (number_at given)) else None

-- what clap reads for each name
abbrev pub given_in : App → List Text → Given
given_in app words id = first_of id (matches_of app words)

-- the command that words mean as one of this form, where clap finds no fault in them
abbrev pub command_by : CommandForm → List Text → Option Command
command_by form words =
    if is_empty (fault_of (app_of_form form) words)
    then command_from form (given_in (app_of_form form) words) else None

-- The command that words mean, whose name is the first of them.
abbrev pub command_of : List Text → Option Command
command_of [] = None
command_of (first ∷ rest) = option_and_then (λ name. command_by (form_of name) (first ∷ rest)) (name_of first)

-- what words that name a command give it
abbrev pub given_to : CommandName → List Text → Given
given_to name words = given_in (app_named name) words

-- Words name a command, and `clap` takes them.
pub record AreTaken (name : CommandName) (words : List Text) : Type 0 where
  pub names : NameCommand name words
  pub taken : takes (app_named name) words ≡ true

-- Words that `clap` takes, with each number that they give in form and in range.
pub record AreGood (words : List Text) : Type 0 where
  pub name : CommandName
  pub taken : AreTaken name words
  pub good : has_good_numbers (form_of name) (given_to name words) ≡ true

-- Words name no command. No words at all are among these.
abbrev pub NameNone : List Text → Type 0
NameNone words = (name : CommandName) → ¬ (NameCommand name words)

-- Words name a command, and `clap` finds a fault in them.
pub record AreFaulty (words : List Text) : Type 0 where
  pub name : CommandName
  pub names : NameCommand name words
  pub fault : fault_of (app_named name) words ≢ []

-- Words name a command, and give it a number that is out of form or range.
pub record GiveBadNumber (words : List Text) : Type 0 where
  pub name : CommandName
  pub names : NameCommand name words
  pub no_fault : fault_of (app_named name) words ≡ []
  pub bad : has_good_numbers (form_of name) (given_to name words) ≡ false
