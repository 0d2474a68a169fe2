-- Commands from what is given.
use Rattle.std.proofs.Common.{◌≡◌, ◌<◌, ◌+◌, ◌∷◌, ◌∙◌, ℕ, Bool, true, false, not, List, [], Bor, Option, Some}
use Rattle.std.proofs.Common.{None, length, refl, sym, ap, arith, map, option_map, slice_index_or, is_some, take}
use Rattle.std.specs.Prelude.{unwrap_or}
use Rattle.std.proofs.Math.ListN.{get_or-map}
use Rattle.std.proofs.lemmas.List.{length-map, take_more}
use Rattle.std.proofs.lemmas.List.Folds.{list_all_at, list_all-append}
use Rattle.clap.specs.Words.{Text, first_value, found_of}
use Rattle.clap.specs.declared.parser.matches.ArgMatches.{ArgMatches}
use Rattle.clap.proofs.WalkLemmas.{first_value-rows}
use Rattle.ce_command.specs.Options.{Given, OptionForm, number_given, number_or, option_form}
use Rattle.ce_command.specs.declared.options.NumberOption.{NumberOption}
use Rattle.ce_command.specs.Meaning.{are_good, text_in}
use Rattle.ce_command.specs.ReadingInside.{given_by}

-- what `get_str` answers is what is given
pub word_given : (matches : ArgMatches) (id : Text) (word : Option (Bor Text))
    → option_map (λ s. s.now) word ≡ first_value (found_of matches) id
    → option_map (λ s. s.now) word ≡ given_by matches id
word_given matches id word found = found ∙ first_value-rows (found_of matches) id

now_or : (word : Option (Bor Text)) (other : Bor Text)
    → (unwrap_or word other).now ≡ unwrap_or (option_map (λ s. s.now) word) other.now
now_or None other = refl
now_or (Some s) other = refl

pub text_given : (matches : ArgMatches) (id : Text) (word : Option (Bor Text)) (other : Bor Text)
    → option_map (λ s. s.now) word ≡ first_value (found_of matches) id
    → other.now ≡ [] → (unwrap_or word other).now ≡ text_in (given_by matches) id
text_given matches id word other found empty =
    now_or word other ∙ λ i. unwrap_or (word_given matches id word found i) (empty i)

pub number_found : (matches : ArgMatches) (option : OptionForm) (word : Option (Bor Text))
    → option_map (λ s. s.now) word ≡ first_value (found_of matches) option.name
    → number_or option.default option.numbers (option_map (λ s. s.now) word) ≡ number_given (given_by matches) option
number_found matches option word found =
    ap (number_or option.default option.numbers) (word_given matches option.name word found)

-- numbers that are tried one after another
pub good_more : (given : Given) (options : List OptionForm) (k : ℕ) (d : OptionForm) → k < length options
    → are_good given (take k options) ≡ true
    → is_some (number_given given (slice_index_or options k d)) ≡ true → are_good given (take (k + 1) options) ≡ true
good_more given options k d within so_far here =
    rw (
      take_more options k d within,
      list_all-append (λ (o : OptionForm). is_some (number_given given o))
          (take k options) (slice_index_or options k d ∷ []),
    ) (rw (so_far, here) refl)

pub bad_here : (given : Given) (options : List OptionForm) (k : ℕ) (d : OptionForm) → k < length options
    → is_some (number_given given (slice_index_or options k d)) ≡ false → are_good given options ≡ false
bad_here given options k d within here = list_all_at (λ (o : OptionForm). is_some (number_given given o)) options k d
    within here

-- the same of options of the code
module _ (given : Given) (options : List NumberOption) (k : ℕ) (d : NumberOption) (r : Option ℕ) (none : Bool)
    (within : k < length options)
    (read : r ≡ number_given given (option_form (slice_index_or options k d))) (test : is_some r ≡ not none) where
  here : is_some (number_given given (slice_index_or (map option_form options) k (option_form d))) ≡ not none
  here =
      ap (λ (o : OptionForm). is_some (number_given given o)) (get_or-map option_form options k d)
      ∙ ap (λ (n : Option ℕ). is_some n) (sym read) ∙ test

  inside : k < length (map option_form options)
  inside = omega (arith, within, length-map options option_form)

  pub bad_option : none ≡ true → false ≡ are_good given (map option_form options)
  bad_option is = sym (bad_here given (map option_form options) k (option_form d) inside (here ∙ ap not is))

  pub good_option : none ≡ false → are_good given (take k (map option_form options)) ≡ true
      → are_good given (take (k + 1) (map option_form options)) ≡ true
  good_option is so_far = good_more given (map option_form options) k (option_form d) inside so_far (here ∙ ap not is)
