-- What the answer to words says of them.
use Rattle.std.proofs.Common.{◌≡◌, ◌∙◌, ◌∷◌, Bool, true, false, true≢false, List, [], Option, Some, None, sym, ap, ap₂}
use Rattle.std.proofs.Common.{subst, map, String, Global}
use Rattle.std.specs.Prelude.{if◌then◌else◌, IsTrue, Result, Err, option_and_then, slice_get, string_bytes}
use Rattle.clap.specs.Words.{Text}
use Rattle.ce_command.specs.Table.{NameCommand, form_of}
use Rattle.ce_command.specs.Meaning.{AreTaken, command_by, command_of, given_to, has_good_numbers, name_of}
use Rattle.ce_command.specs.ReadingInside.{IsNoCommand, MeansBy}
use Rattle.ce_command.specs.Plain.{IsPlain, PlainWords, given_plainly, spelled}
use Rattle.ce_command.specs.declared.command.CommandName.{CommandName}
use Rattle.ce_command.specs.declared.command.Command.{Command}
use Rattle.ce_command.specs.declared.words.WordsError.{WordsError}
use Rattle.ce_command.specs.declared.words.WordsError.TheVariants.{Usage}
use Rattle.ce_command.proofs.TableRows.{named}
use Rattle.ce_command.proofs.PlainMeaning.{plain_means}

-- the first word of a list
pub record BeginsWith (words : List Text) (first : Text) : Type 0 where
  pub rest : List Text
  pub list : words ≡ first ∷ rest

pub begins : (words : List (String Global)) (first : String Global) → slice_get words 0 ≡ Some first
    → BeginsWith (map string_bytes words) (string_bytes first)
begins [] first e = cc
begins (word ∷ words) first e =
    let same : word ≡ first = cc in
    record {
      rest = map string_bytes words;
      list = ap (λ (w : String Global). string_bytes w ∷ map string_bytes words)
          same;
    }

-- the command of words is that of the form that their first word names
pub by_name : (words : List Text) (first : Text) (o : Option CommandName) → BeginsWith words first → o ≡ name_of first
    → command_of words ≡ option_and_then (λ name. command_by (form_of name) words) o
by_name words first o b found =
    ap command_of b.list
    ∙ ap₂ (λ (w : List Text) (n : Option CommandName). option_and_then (λ name. command_by (form_of name) w) n)
    (sym b.list) (sym found)

pub no_command : (words : List Text) (first : Text) (name : CommandName) (r : Result Command WordsError)
    → BeginsWith words first
    → Some name ≡ name_of first → MeansBy (form_of name) words r → r ≡ Err Usage → command_of words ≡ None
no_command words first name r b found means usage =
    let none = subst (MeansBy (form_of name) words) usage means in
    by_name words first (Some name) b found ∙ none.meaning

-- a list names one command
pub same_name : (words : List Text) (first : Text) (o : Option CommandName) (name : CommandName) (rest : List Text)
    → BeginsWith words first → o ≡ name_of first
    → words ≡ (form_of name).name ∷ rest → o ≡ Some name
same_name words first o name rest b found is =
    let lists = sym b.list ∙ is in
    let texts : first ≡ (form_of name).name = cc in
    found ∙ ap name_of texts ∙ named name

pub taken_by : (words : List Text) (first : Text) (name other : CommandName) (r : Result Command WordsError)
    → BeginsWith words first
    → Some name ≡ name_of first → MeansBy (form_of name) words r → AreTaken other words
    → IsTrue (has_good_numbers (form_of other) (given_to other words))
    → r ≡ Err Usage → ⊥
taken_by words first name other r b found means taken good usage =
    let both = same_name words first (Some name) other taken.names.rest b found taken.names.begin in
    let same : name ≡ other = cc in
    let none = subst (λ (n : CommandName). IsNoCommand (form_of n) words) same
    (subst (MeansBy (form_of name) words) usage means) in
    true≢false (sym good ∙ none.taken taken.taken)

pub none_taken : (words : List Text) (first : Text) (other : CommandName) → BeginsWith words first
    → None ≡ name_of first → NameCommand other words → ⊥
none_taken words first other b found names =
    let both = same_name words first None other names.rest b found names.begin in
    cc

some_if : (b : Bool) (made : Command) → b ≡ true → (if b then Some made else None) ≡ None → ⊥
some_if true made good none = cc
some_if false made good none = cc

-- words in plain form with good numbers are a command
pub plain_command : (words : List Text) (name : CommandName) (plain : PlainWords) → words ≡ spelled (form_of name) plain
    → IsPlain (form_of name) plain
    → IsTrue (has_good_numbers (form_of name) (given_plainly (form_of name) plain)) → command_of words ≡ None → ⊥
plain_command words name plain is is_plain good none =
    some_if (has_good_numbers (form_of name) (given_plainly (form_of name) plain)) _ good
    (sym (plain_means name plain is_plain) ∙ ap command_of (sym is) ∙ none)
