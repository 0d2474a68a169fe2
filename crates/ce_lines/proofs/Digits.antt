-- The digits of a number that is read.
use Rattle.std.proofs.Common.{◌≡◌, ◌<◌, ◌≤◌, ◌+◌, ◌-◌, ◌*◌, ◌∙◌, ℕ, Bool, true, false, ◌&&◌, List, length, get_or}
use Rattle.std.proofs.Common.{take, refl, sym, ap, arith}
use Rattle.std.specs.Char.{is_ascii_digit, digit_value}
use Rattle.std.specs.List.{list_all}
use Rattle.std.specs.Str.Parse.{digits_value}
use Rattle.std.proofs.lemmas.Bool.{false≢true}
use Rattle.std.proofs.lemmas.Bool.Decides.{nat_tests}
use Rattle.std.proofs.lemmas.Int.Digits.{digits_value_more}
use Rattle.std.proofs.lemmas.List.Folds.{list_all_at}
use Rattle.ce_lines.specs.Asks.{is_numeral}

-- what a byte is that is a digit
pub record IsDigit (byte : ℕ) : Type 0 where
  pub low : 48 ≤ byte
  pub high : byte ≤ 57
  pub value : digit_value byte ≡ byte - 48

digit_is : (byte : ℕ) → is_ascii_digit byte ≡ true → IsDigit byte
digit_is byte h = record {
  low = grind (arith, nat_tests);
  high = grind (arith, nat_tests);
  value = grind (arith, nat_tests);
}

and_right : (a b : Bool) → (a && b) ≡ true → b ≡ true
and_right true true h = refl
and_right false b h = absurd (false≢true h)
and_right true false h = absurd (false≢true h)

all_digits : (text : List ℕ) → is_numeral text ≡ true → list_all is_ascii_digit text ≡ true
all_digits text h =
    and_right _ (list_all is_ascii_digit text) h

digit_or : (b : Bool) (text : List ℕ) (i : ℕ) → i < length text → list_all is_ascii_digit text ≡ true
    → is_ascii_digit (get_or text i 0) ≡ b → IsDigit (get_or text i 0)
digit_or true text i h all e = digit_is (get_or text i 0) e
digit_or false text i h all e = absurd (false≢true (sym (list_all_at is_ascii_digit text i 0 h e) ∙ all))

pub digit_at : (text : List ℕ) (i : ℕ) → i < length text → is_numeral text ≡ true → IsDigit (get_or text i 0)
digit_at text i h number = digit_or (is_ascii_digit (get_or text i 0)) text i h (all_digits text number) refl

-- one more digit
pub value_more : (text : List ℕ) (i : ℕ) → i < length text → is_numeral text ≡ true
    → digits_value 10 (take (i + 1) text) ≡ digits_value 10 (take i text) * 10 + (get_or text i 0 - 48)
value_more text i h number =
    digits_value_more 10 text i h ∙ ap (λ d. digits_value 10 (take i text) * 10 + d) (digit_at text i h number).value
