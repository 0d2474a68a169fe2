-- What is shown of each row of the table: `clap`'s description fits, its name is its own, and the
-- description has nothing that `clap`'s definitions leave out; and the numbers of its command are
-- within their limits.
use Rattle.std.proofs.Common.{rules, ◌≡◌, ◌||◌, ◌==◌, ℕ, List, [], ◌∷◌, Bool, true, false, Option, Some, None, refl}
use Rattle.std.proofs.Common.{subst, arith, inl, inr}
use Rattle.std.specs.Prelude.{if◌then◌else◌, option_and_then, unwrap_or, Result, Ok, Err, IfOk}
use Rattle.std.proofs.lemmas.Bool.Decides.{nat_tests}
use Rattle.clap.specs.Words.{Text, is_simple_and_free}
use Rattle.ce_angle.specs.Fraction.{Fraction}
use Rattle.ce_angle.specs.Typed.{angle_of_text, number_of}
use Rattle.ce_angle.specs.declared.angle.AngleError.{AngleError}
use Rattle.ce_angle.proofs.Unique.{text_read}
use Rattle.ce_rows.specs.Scale.{IsExponent}
use Rattle.ce_command.specs.Options.{Given, IsAmong, IsNumberOf, OptionForm, has_number, number_or}
use Rattle.ce_command.specs.Form.{app_of_form}
use Rattle.ce_command.specs.Table.{IsRead, IsWithinLimits, app_named, form_of}
use Rattle.ce_command.specs.Table.{count, degree, first, fraction, from, order, reads, rounds, scale, second, sessions}
use Rattle.ce_command.specs.Table.{start, to, turns, workers}
use Rattle.ce_command.specs.Meaning.{command_by, command_from, command_of, given_in, has_good_numbers, name_of}
use Rattle.ce_command.specs.Meaning.{number_at, text_in}
use Rattle.ce_command.specs.ReadingInside.{MeansBy}
use Rattle.ce_command.specs.declared.options.Numbers.{Numbers}
use Rattle.ce_command.specs.declared.options.Numbers.TheVariants.{Between, Exponents}
use Rattle.ce_command.specs.declared.command.CommandName.{CommandName}
use Rattle.ce_command.specs.declared.command.CommandName.TheVariants as name
use Rattle.ce_command.specs.declared.command.Command.{Command}
use Rattle.ce_command.specs.declared.words.WordsError.{WordsError}
use Rattle.ce_command.proofs.PlainForm.{Fits}

record IsRow (word : CommandName) : Type 0 where
  fits : Fits (form_of word)
  named : name_of (form_of word).name ≡ Some word
  free : is_simple_and_free (app_named word) ≡ true

row : (word : CommandName) → IsRow word
unfolding form_of
row name.Angle = search rules
row name.Degree = search rules
row name.Show = search rules
row name.Replay = search rules
row name.Check = search rules
row name.Upgrade = search rules
row name.Part = search rules
row name.Merge = search rules
row name.Compare = search rules
row name.Atlas = search rules
row name.Probe = search rules
row name.Map = search rules
row name.Watch = search rules
row name.Desk = search rules

pub fits : (word : CommandName) → Fits (form_of word)
fits word = (row word).fits

pub named : (word : CommandName) → name_of (form_of word).name ≡ Some word
named word = (row word).named

pub simple_and_free : (word : CommandName) → is_simple_and_free (app_named word) ≡ true
simple_and_free word = (row word).free

kept : (numbers : Numbers) (default : ℕ) (n : ℕ) → has_number numbers default ≡ true
    → has_number numbers (unwrap_or (if has_number numbers n then Some n else None) default) ≡ true
kept numbers default n usual = go (has_number numbers n) refl
  where
    go : (b : Bool) → has_number numbers n ≡ b → has_number numbers (unwrap_or (if b then Some n else None) default)
        ≡ true
    go true e = e
    go false e = usual

read_kept : (numbers : Numbers) (default : ℕ) (o : Option ℕ) → has_number numbers default ≡ true
    → has_number numbers (unwrap_or (option_and_then (λ n. if has_number numbers n then Some n else None) o) default)
    ≡ true
read_kept numbers default None usual = usual
read_kept numbers default (Some n) usual = kept numbers default n usual

or_kept : (numbers : Numbers) (default : ℕ) (o : Option Text) → has_number numbers default ≡ true
    → has_number numbers (unwrap_or (number_or default numbers o) default) ≡ true
or_kept numbers default None usual = usual
or_kept numbers default (Some text) usual = read_kept numbers default (number_of text) usual

-- an option's number is one that it takes, where its usual one is
taken_number : (given : Given) (option : OptionForm) → has_number option.numbers option.default ≡ true
    → has_number option.numbers (number_at given option) ≡ true
taken_number given option usual = or_kept option.numbers option.default (given option.name) usual

exponent : (n : ℕ) → (n == 32 || n == 48) ≡ true → IsExponent n
exponent n e = go (n == 32) (n == 48) refl refl e
  where
    go : (a b : Bool) → (n == 32) ≡ a → (n == 48) ≡ b → (a || b) ≡ true → IsExponent n
    go true b first second h = inl (grind (arith, nat_tests))
    go false true first second h = inr (grind (arith, nat_tests))
    go false false first second h = cc

-- what is read as an angle is one
angle_read : (text : Text) (r : Result Fraction AngleError) → angle_of_text text ≡ r → IsRead r
angle_read text (Ok angle) e = text_read text angle e
angle_read text (Err flaw) e = tt

-- the numbers that the test finds
among : (numbers : Numbers) (n : ℕ) → has_number numbers n ≡ true → IsAmong numbers n
among (Between least most) n e = (grind (arith, nat_tests, e), grind (arith, nat_tests, e))
among Exponents n e = exponent n e

-- the angles and numbers that a command has of what is given
module _ (given : Given) where
  angle : (id : Text) → IsRead (angle_of_text (text_in given id))
  angle id = angle_read (text_in given id) (angle_of_text (text_in given id)) refl

  number : (option : OptionForm) → has_number option.numbers option.default ≡ true
      → IsNumberOf option (number_at given option)
  number option usual = among option.numbers (number_at given option) (taken_number given option usual)

  limited : (name : CommandName) → IsWithinLimits ((form_of name).command (text_in given) (number_at given))
  unfolding form_of
  limited name.Angle = (angle fraction, number rounds refl, number turns refl, number workers refl, number scale refl)
  limited name.Degree = (
    number degree refl,
    angle fraction,
    number rounds refl,
    number turns refl,
    number workers refl,
    number scale
        refl,
  )
  limited name.Show = angle fraction
  limited name.Replay = (angle fraction, number rounds refl, number scale refl)
  limited name.Check = tt
  limited name.Upgrade = tt
  limited name.Part = (
    number order refl,
    number from refl,
    number to refl,
    number rounds refl,
    number turns refl,
    number workers refl,
    number scale refl,
  )
  limited name.Merge = tt
  limited name.Compare = (angle first, angle second, number rounds refl, number scale refl)
  limited name.Atlas = (number order refl, number rounds refl, number scale refl)
  limited name.Probe = (number start refl, number count refl, number rounds refl, number scale refl)
  limited name.Map = (number order refl, number rounds refl, number turns refl, number workers refl, number scale refl)
  limited name.Watch = (
    angle fraction,
    number rounds refl,
    number turns refl,
    number workers refl,
    number sessions refl,
    number reads
        refl,
    number scale refl,
  )
  limited name.Desk = (number rounds refl, number workers refl, number scale refl)

some_if : (b : Bool) (made command : Command) → (if b then Some made else None) ≡ Some command → made ≡ command
some_if true made command e = cc
some_if false made command e = cc

pub made_limited : (name : CommandName) (given : Given) (command : Command)
    → command_from (form_of name) given ≡ Some command → IsWithinLimits command
made_limited name given command made =
    subst IsWithinLimits (some_if (has_good_numbers (form_of name) given) _ command made) (limited given name)

some_where_true : (b : Bool) (o : Option Command) (command : Command) → (if b then o else None) ≡ Some command
    → o ≡ Some command
some_where_true true o command e = e
some_where_true false o command e = cc

pub meaning_limited : (name : CommandName) (words : List Text) (command : Command)
    → command_by (form_of name) words ≡ Some command → IsWithinLimits command
meaning_limited name words command is =
    made_limited name (given_in (app_of_form (form_of name)) words) command (some_where_true _ _ command is)

pub outcome_limited : (name : CommandName) (words : List Text) (r : Result Command WordsError)
    → MeansBy (form_of name) words r → IfOk r IsWithinLimits
outcome_limited name words (Ok command) means = meaning_limited name words command means
outcome_limited name words (Err e) means = tt

found_limited : (words : List Text) (o : Option CommandName) (command : Command)
    → option_and_then (λ name. command_by (form_of name) words) o ≡ Some command → IsWithinLimits command
found_limited words None command is = cc
found_limited words (Some name) command is = meaning_limited name words command is

pub all_limited : (words : List Text) (command : Command) → command_of words ≡ Some command → IsWithinLimits command
all_limited [] command is = cc
all_limited (first ∷ rest) command is = found_limited (first ∷ rest) (name_of first) command is
