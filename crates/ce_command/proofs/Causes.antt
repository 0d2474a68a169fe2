-- Why words are no command.
use Rattle.std.proofs.Common.{◌≡◌, ◌≢◌, ◌∙◌, ◌∷◌, ◌⊎◌, Bool, true, false, List, [], Option, Some, None, refl, sym, ap}
use Rattle.std.proofs.Common.{subst, inl, inr}
use Rattle.std.specs.Prelude.{find}
use Rattle.std.specs.Str.{bytes_eq}
use Rattle.std.proofs.lemmas.Slice.Eq.{bytes_eq-Decides}
use Rattle.clap.specs.Words.{Kinds, Text, fault_of}
use Rattle.ce_command.specs.Table.{NameCommand, all_names, app_named, form_of}
use Rattle.ce_command.specs.Meaning.{AreFaulty, GiveBadNumber, NameNone, command_by, command_from, command_of, given_to}
use Rattle.ce_command.specs.Meaning.{name_of}
use Rattle.ce_command.specs.declared.command.CommandName.{CommandName}
use Rattle.ce_command.proofs.Reading.{faultless, no_numbers, none_where_some}
use Rattle.ce_command.proofs.TableRows.{named}
use Rattle.ce_command.proofs.Outcomes.{BeginsWith, by_name, same_name}

-- what is found passes
find_passes : {X : Type 0} (test : X → Bool) (xs : List X) (x : X) → find test xs ≡ Some x → test x ≡ true
find_passes test [] x e = cc
find_passes test (y ∷ ys) x e = go (test y) refl (find_passes test ys x)
  where
    go : (b : Bool) → test y ≡ b → (find test ys ≡ Some x → test x ≡ true) → test x ≡ true
    go true here rest =
        let same : Some y ≡ Some x = rw here at e in
        let item : y ≡ x = cc in
        subst (λ z. test z ≡ true) item here
    go false here rest = rest (rw here at e)

-- a word that names a command is its name
name_is : (first : Text) (name : CommandName) → name_of first ≡ Some name → (form_of name).name ≡ first
name_is first name e =
    (bytes_eq-Decides (form_of name).name first).0
    (find_passes (λ (n : CommandName). bytes_eq (form_of n).name first) all_names name e)

empty_or : (kinds : Kinds) → (kinds ≡ []) ⊎ (kinds ≢ [])
empty_or [] = inl refl
empty_or (k ∷ ks) = inr (λ e. cc)

-- words that name a command and are none
named_cause : (words : List Text) (name : CommandName) → NameCommand name words → command_by (form_of name) words ≡ None
    → AreFaulty words ⊎ GiveBadNumber words
named_cause words name names none = elim (empty_or (fault_of (app_named name) words)) [
  | inl free ↦
      let made = sym (faultless (form_of name) words free) ∙ none in
      inr (record {
        name = name;
        names = names;
        no_fault = free;
        bad = no_numbers (form_of name) (given_to name words) made;
      })
  | inr fault ↦ inl (record { name = name; names = names; fault = fault })
]

pub cause : (words : List Text) → command_of words ≡ None → NameNone words ⊎ AreFaulty words ⊎ GiveBadNumber words
cause [] none = inl (λ name names. let bad = names.begin in cc)
cause (first ∷ rest) none = go (name_of first) refl
  where
    words : List Text
    words = first ∷ rest

    begins : BeginsWith (first ∷ rest) first
    begins = record { rest = rest; list = refl }

    go : (o : Option CommandName) → o ≡ name_of first
        → NameNone (first ∷ rest) ⊎ AreFaulty (first ∷ rest) ⊎ GiveBadNumber (first ∷ rest)
    go None found =
        inl (λ name names. let bad = same_name (first ∷ rest) first None name names.rest begins found names.begin in cc)
    go (Some name) found =
        let names : NameCommand name (first ∷ rest) =
        record { rest = rest; begin = ap (λ w. w ∷ rest) (sym (name_is first name (sym found))) } in
        elim (named_cause (first ∷ rest) name names (sym (by_name (first ∷ rest) first (Some name) begins found)
        ∙ none)) [
          | inl faulty ↦ inr (inl faulty)
          | inr bad ↦ inr (inr bad)
        ]

-- words that name a command are that or none
by_its_name : (words : List Text) (name : CommandName) → NameCommand name words
    → command_of words ≡ command_by (form_of name) words
by_its_name words name names =
    by_name words (form_of name).name (Some name) (record { rest = names.rest; list = names.begin }) (sym (named name))

pub no_command_for : (words : List Text) → NameNone words ⊎ AreFaulty words ⊎ GiveBadNumber words
    → command_of words ≡ None
no_command_for [] why = refl
no_command_for (first ∷ rest) (inl none) = go (name_of first) refl
  where
    begins : BeginsWith (first ∷ rest) first
    begins = record { rest = rest; list = refl }

    go : (o : Option CommandName) → o ≡ name_of first → command_of (first ∷ rest) ≡ None
    go None found = by_name (first ∷ rest) first None begins found
    go (Some name) found =
        absurd (none name (record { rest = rest; begin = ap (λ w. w ∷ rest) (sym (name_is first name (sym found))) }))
no_command_for (first ∷ rest) (inr (inl faulty)) =
    by_its_name (first ∷ rest) faulty.name faulty.names
    ∙ none_where_some (fault_of (app_named faulty.name) (first ∷ rest))
    (command_from (form_of faulty.name) (given_to faulty.name (first ∷ rest))) faulty.fault
no_command_for (first ∷ rest) (inr (inr bad)) =
    let none : command_from (form_of bad.name) (given_to bad.name (first ∷ rest)) ≡ None = rw bad.bad refl in
    by_its_name (first ∷ rest) bad.name bad.names ∙ faultless (form_of bad.name) (first ∷ rest) bad.no_fault ∙ none
