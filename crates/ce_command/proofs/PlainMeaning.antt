-- Words in plain form mean what they spell.
use Rattle.std.proofs.Common.{◌≡◌, ◌∙◌, ◌∷◌, Bool, true, false, List, [], refl, ap, option_map}
use Rattle.std.specs.Prelude.{find, option_and_then}
use Rattle.std.specs.Str.{bytes_eq}
use Rattle.clap.specs.Walk.{Text}
use Rattle.clap.specs.Simple.{Shape}
use Rattle.clap.specs.Words.{first_of, takes}
use Rattle.ce_command.specs.Form.{app_of_form}
use Rattle.ce_command.specs.Table.{app_named, form_of}
use Rattle.ce_command.specs.Meaning.{command_by, command_from, command_of, given_in}
use Rattle.ce_command.specs.Plain.{IsPlain, PlainWords, given_plainly, spelled}
use Rattle.ce_command.specs.declared.command.CommandName.{CommandName}
use Rattle.ce_command.proofs.Reading.{faultless}
use Rattle.ce_command.proofs.PlainWalk.{given_rows}
use Rattle.ce_command.proofs.TableRows.{fits, named}
use Rattle.ce_command.proofs.PlainForm.{plain_faultless, plain_matches, plain_taken, top_of}

first_given : (s : Shape) (id : Text) (pairs : List (Text × Text))
    → first_of id (given_rows s pairs) ≡ option_map (λ p. p.1) (find (λ p. bytes_eq p.0 id) pairs)
first_given s id [] = refl
first_given s id (p ∷ pairs) = go (bytes_eq p.0 id) refl (first_given s id pairs)
  where
    go : (b : Bool) → bytes_eq p.0 id ≡ b
        → first_of id (given_rows s pairs) ≡ option_map (λ p. p.1) (find (λ p. bytes_eq p.0 id) pairs)
        → first_of id (given_rows s (p ∷ pairs)) ≡ option_map (λ p. p.1) (find (λ p. bytes_eq p.0 id) (p ∷ pairs))
    go true e rest = rw e refl
    go false e rest = rw e rest

-- `clap` reads what stands there
read_plainly : (name : CommandName) (plain : PlainWords) → IsPlain (form_of name) plain
    → given_in (app_of_form (form_of name)) (spelled (form_of name) plain) ≡ given_plainly (form_of name) plain
read_plainly name plain is_plain =
    let form = form_of name in
    λ i id. (ap (first_of id) (plain_matches (form_of name) (fits name) plain is_plain)
    ∙ first_given (top_of (form_of name)) id _) i

pub plain_means : (name : CommandName) (plain : PlainWords) → IsPlain (form_of name) plain
    → command_of (spelled (form_of name) plain) ≡ command_from (form_of name) (given_plainly (form_of name) plain)
plain_means name plain is_plain =
    let words = spelled (form_of name) plain in
    ap (option_and_then (λ n. command_by (form_of n) words)) (named name)
    ∙ faultless (form_of name) words (plain_faultless (form_of name) (fits name) plain is_plain)
    ∙ ap (command_from (form_of name)) (read_plainly name plain is_plain)

pub plain_takes : (name : CommandName) (plain : PlainWords) → IsPlain (form_of name) plain
    → takes (app_named name) (spelled (form_of name) plain) ≡ true
plain_takes name plain is_plain = plain_taken (form_of name) (fits name) plain is_plain
