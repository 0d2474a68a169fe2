-- A number below 2^32 has one spelling, its digits in decimal.
use Rattle.std.proofs.Common.{◌≡◌, ◌≢◌, ◌<◌, ◌≤◌, ◌^◌, ℕ, zero, suc, Bool, true, false, cond, List, length}
use Rattle.std.proofs.Common.{get_or, Some, None, refl, sym, ap, ◌∙◌, arith, rules}
use Rattle.std.specs.Char.{is_ascii_digit}
use Rattle.std.specs.Fmt.{decimal}
use Rattle.std.specs.List.{list_all}
use Rattle.std.specs.Str.Parse.{digits_value}
use Rattle.std.proofs.lemmas.Bool.Decides.{nat_tests}
use Rattle.std.proofs.lemmas.Fmt.{decimal-digits_value, digits_value-decimal, digits_decimal, decimal_digit}
use Rattle.std.proofs.lemmas.Fmt.{decimal_nonempty, first_decimal, length-decimal-le}
use Rattle.std.proofs.lemmas.List.Elements.{All-from_get_or}
use Rattle.std.proofs.lemmas.Str.Parse.{IsNumeralModel, numerals_by_value, digits_value_short, not_in_digits}
use Rattle.ce_angle.specs.Cuts.{Lacks}
use Rattle.ce_angle.specs.Typed.{is_number, number_of}

digit_lists : IsNumeralModel (λ ds. list_all is_ascii_digit ds ≡ true) (digits_value 10)
digit_lists = numerals_by_value (λ ds. list_all is_ascii_digit ds ≡ true) (search rules)

-- what the test says of a number
record IsNumber (text : List ℕ) : Type 0 where
  some : 0 < length text
  few : length text ≤ 10
  digits : list_all is_ascii_digit text ≡ true
  plain : get_or text 0 0 ≡ 48 → length text ≡ 1

number_parts : (text : List ℕ) → is_number text ≡ true → IsNumber text
number_parts text h = record {
  some = grind (arith, nat_tests);
  few = grind (arith, nat_tests);
  digits = grind (arith, nat_tests);
  plain = grind (arith, nat_tests);
}

number_test : (text : List ℕ) → IsNumber text → is_number text ≡ true
number_test text h = grind (arith, nat_tests, h.digits, h.plain)

spelled_by : (text : List ℕ) → IsNumber text → decimal (digits_value 10 text) ≡ text
spelled_by text h =
    let small = digits_value_short digit_lists text 10 h.digits h.few in
    decimal-digits_value digit_lists text h.digits h.some h.plain (omega arith)

spelled_if : (t : Bool) (text : List ℕ) (value : ℕ) → is_number text ≡ t
    → cond t (Some (digits_value 10 text)) None ≡ Some value → text ≡ decimal value
spelled_if true text value number h =
    let same : digits_value 10 text ≡ value = cc in
    sym (spelled_by text (number_parts text number)) ∙ ap decimal same
spelled_if false text value number h = absurd (cc)

-- what is read as a number is its spelling
pub spelled_number : (text : List ℕ) (value : ℕ) → number_of text ≡ Some value → text ≡ decimal value
spelled_number text value h = spelled_if (is_number text) text value refl h

plain_decimal : (value : ℕ) → value < 2 ^ 32 → get_or (decimal value) 0 0 ≡ 48 → length (decimal value) ≡ 1
plain_decimal zero small h = ap length (decimal_digit zero (omega arith))
plain_decimal (suc n) small h =
    let first = first_decimal (suc n) (omega arith) (omega arith) in
    absurd (omega arith)

-- the spelling of a number is read as it
pub number_of-decimal : (value : ℕ) → value < 2 ^ 32 → number_of (decimal value) ≡ Some value
number_of-decimal value small =
    let number : is_number (decimal value) ≡ true = number_test (decimal value) (record {
      some = decimal_nonempty value (omega arith);
      few = length-decimal-le 10 value (omega arith) (omega arith) (omega arith);
      digits = digits_decimal digit_lists value (omega arith);
      plain = plain_decimal value small;
    }) in
    ap (λ t. cond t (Some (digits_value 10 (decimal value))) None) number
    ∙ ap Some (digits_value-decimal digit_lists value (omega arith))

-- a spelling has digits alone
pub decimal_lacks : (byte value : ℕ) → byte < 48 → value < 2 ^ 32 → Lacks byte (decimal value)
decimal_lacks byte value low small =
    let digits = digits_decimal digit_lists value (omega arith) in
    All-from_get_or (λ other. other ≢ byte) (decimal value) 0
    (λ i h. not_in_digits digit_lists (decimal value) byte digits (λ range. omega arith) i h)
