-- The numbers of a list, put one after another.
use Rattle.std.proofs.Common.{◌≡◌, ◌<◌, ◌≤◌, ◌+◌, ℕ, false, List, [], ◌∷◌, ◌++◌, length, get_or, take, drop}
use Rattle.std.proofs.Common.{Option, Some, None, sym, ap, subst, ◌∙◌, arith, append_assoc}
use Rattle.std.specs.Fmt.{digits}
use Rattle.std.proofs.lemmas.Option.{same_Some, none-some}
use Rattle.std.proofs.lemmas.List.{drop_more, take_all, take_more}
use Rattle.std.proofs.lemmas.List.Elements.{All-head}
use Rattle.ce_map.specs.AppendInside.{Extends, IsPutTo}
use Rattle.ce_map.specs.Digits.{IsNumber, numbers_text}
use Rattle.ce_map.specs.Lists.{IsListOf, IsSomeList}
use Rattle.ce_map.specs.declared.numbers.Numbers.{Numbers}
use Rattle.ce_map.proofs.ListLaws.{numbers_push}

module _ (target : ℕ) (low : 10 ≤ target) (high : target ≤ 16) (numbers left : Numbers) (before text : List ℕ)
    (i count : ℕ) (read : IsPutTo target numbers left before text i) (long : (base : ℕ) (list : List ℕ)
    → IsListOf base list numbers → count ≡ length list) where
  module _ (within : i < count) where
    first_left : (base : ℕ) (list : List ℕ) → IsListOf base list numbers
        → IsListOf base (get_or list i 0 ∷ drop (i + 1) list) left
    first_left base list is =
        subst (λ l. IsListOf base l left) (drop_more list i 0 (omega (arith, within, long base list is)))
        (read base list is).rest

    pub never_none : (found : Option ℕ) → ((base n : ℕ) (more : List ℕ) → IsListOf base (n ∷ more) left
        → found ≡ Some n) → found ≡ None → (base : ℕ) (list : List ℕ) → IsListOf base list numbers → ⊥
    never_none found some none base list is =
        none-some _ (sym none ∙ some base (get_or list i 0) (drop (i + 1) list) (first_left base list is))

    module _ (n : ℕ) (some : (base m : ℕ) (more : List ℕ) → IsListOf base (m ∷ more) left → Some n ≡ Some m) where
      value : (base : ℕ) (list : List ℕ) → IsListOf base list numbers → n ≡ get_or list i 0
      value base list is =
          same_Some n (get_or list i 0) (some base (get_or list i 0) (drop (i + 1) list) (first_left base list is))

      pub small : IsSomeList numbers → IsNumber n
      small h =
          let first = first_left h.base h.list h.is_list in
          subst IsNumber (sym (value h.base h.list h.is_list))
          (All-head IsNumber (get_or h.list i 0) (drop (i + 1) h.list) first.small)

      pub put_more : (after : Numbers) (more : List ℕ) → ((base m : ℕ) (rest : List ℕ) → IsListOf base (m ∷ rest) left
          → IsListOf base rest after) → more ≡ text ++ 32 ∷ digits target false n
          → IsPutTo target numbers after before more (i + 1)
      put_more after more rest put base list is =
          let here = read base list is in
          let front = numbers_text target (take i list) in
          let grown : front ++ 32 ∷ digits target false n ≡ numbers_text target (take (i + 1) list) =
          sym (numbers_push target low high (take i list) n) ∙ ap (λ x. numbers_text target (take i list ++ x ∷ []))
          (value base list is)
          ∙ ap (numbers_text target) (sym (take_more list i 0 (omega (arith, within, long base list is)))) in
          record {
            rest = rest base (get_or list i 0) (drop (i + 1) list) (first_left base list is);
            put = put ∙ ap (λ t. t ++ 32 ∷ digits target false n) here.put
                ∙ append_assoc before front (32 ∷ digits target false n) ∙ ap (λ t. before ++ t) grown;
          }

  pub put_all : count ≤ i → (base : ℕ) (list : List ℕ) → IsListOf base list numbers
      → text ≡ before ++ numbers_text target list
  put_all end base list is =
      (read base list is).put ∙ ap (λ l. before ++ numbers_text target l)
      (take_all i list (omega (arith, end, long base list is)))

-- more after what was put
pub extends_more : (before text more piece : List ℕ) → Extends before text → more ≡ text ++ piece → Extends before more
extends_more before text more piece (rest, is) put =
    (rest ++ piece, put ∙ ap (λ t. t ++ piece) is ∙ append_assoc before rest piece)

pub extends_after : (before text more : List ℕ) → Extends before text → Extends text more → Extends before more
extends_after before text more first (piece, is) = extends_more before text more piece first is
