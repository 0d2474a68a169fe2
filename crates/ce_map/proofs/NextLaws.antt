-- The next number of a list that is left.
use Rattle.std.proofs.Common.{◌≡◌, ◌≤◌, ℕ, List, [], ◌∷◌, ◌++◌, drop, Some, None, refl, sym, ap, ◌∙◌, arith}
use Rattle.std.proofs.lemmas.List.{append-nil}
use Rattle.std.proofs.lemmas.List.Elements.{All-head}
use Rattle.std.proofs.lemmas.Option.{some_pair_parts, none-some}
use Rattle.ce_map.specs.BaseInside.{radix_of}
use Rattle.ce_map.specs.Digits.{IsNumber, numbers_text}
use Rattle.ce_map.specs.DigitsInside.{number_front}
use Rattle.ce_map.specs.Lists.{IsListOf, list_text}
use Rattle.ce_map.specs.declared.digits.Base.{Base}
use Rattle.ce_map.specs.declared.digits.Base.TheVariants.{Ten, Sixteen}
use Rattle.ce_map.specs.declared.numbers.Numbers.{Numbers}
use Rattle.ce_map.proofs.ListLaws.{next_read}

pub radix_low : (base : Base) → 10 ≤ radix_of base
radix_low Ten = omega arith
radix_low Sixteen = omega arith

pub radix_high : (base : Base) → radix_of base ≤ 16
radix_high Ten = omega arith
radix_high Sixteen = omega arith

module _ (numbers : Numbers) (base n : ℕ) (list tail : List ℕ) (is : IsListOf base (n ∷ list) numbers)
    (cut : tail ≡ drop 1 (list_text numbers)) where
  read : number_front (radix_of numbers.base) tail ≡ Some (n, numbers_text (radix_of numbers.base) list ++ [])
  read =
      let spelled : list_text numbers ≡ numbers_text (radix_of numbers.base) (n ∷ list) ++ [] =
      is.spelled ∙ ap (λ b. numbers_text b (n ∷ list)) (sym is.written)
      ∙ sym (append-nil (numbers_text (radix_of numbers.base) (n ∷ list))) in
      next_read (radix_of numbers.base) (radix_low numbers.base) (radix_high numbers.base) n list []
      (list_text numbers) tail (All-head IsNumber n list is.small) refl spelled cut

  pub next_none : number_front (radix_of numbers.base) tail ≡ None → ⊥
  next_none none = none-some _ (sym none ∙ read)

  module _ (value : ℕ) (rest : List ℕ) (found : number_front (radix_of numbers.base) tail ≡ Some (value, rest)) where
    pub next_value : value ≡ n
    next_value = (some_pair_parts value n rest (numbers_text (radix_of numbers.base) list ++ []) (sym found ∙ read)).0

    pub next_rest : rest ≡ numbers_text base list
    next_rest =
        (some_pair_parts value n rest (numbers_text (radix_of numbers.base) list ++ []) (sym found ∙ read)).1
        ∙ append-nil (numbers_text (radix_of numbers.base) list) ∙ ap (λ b. numbers_text b list) is.written
