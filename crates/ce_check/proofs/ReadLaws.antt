-- The numbers of a list, one after another.
use Rattle.std.proofs.Common.{◌≡◌, ◌<◌, ◌+◌, ℕ, List, [], ◌∷◌, ◌++◌, length, get_or, set, take, drop, map, Option, Some}
use Rattle.std.proofs.Common.{None, sym, ap, subst, ◌∙◌, arith, add-one, drop-cons}
use Rattle.std.proofs.lemmas.Option.{same_Some, none-some}
use Rattle.std.proofs.lemmas.List.{get_or-map, length-map, take_more, take_more_set}
use Rattle.ce_map.specs.Lists.{IsListOf}
use Rattle.ce_map.specs.declared.numbers.Numbers.{Numbers}
use Rattle.ce_check.specs.ItemsInside.{IsReadTo}

module _ (list : List ℕ) (i : ℕ) (within : i < length list) where
  here : drop i list ≡ get_or list i 0 ∷ drop (i + 1) list
  here = drop-cons list i 0 within ∙ ap (λ j. get_or list i 0 ∷ drop j list) (sym (add-one i))

module _ (change : ℕ → ℕ) (numbers left : Numbers) (count : ℕ) (room : List ℕ) (i : ℕ)
    (read : IsReadTo change numbers count left room i) (within : i < count) where
  first_left : (base : ℕ) (list : List ℕ) → IsListOf base list numbers → length list ≡ count
      → IsListOf base (get_or list i 0 ∷ drop (i + 1) list) left
  first_left base list is long =
      subst (λ l. IsListOf base l left) (here list i (omega arith)) (read base list is long).rest

  pub never_none : (found : Option ℕ) → ((base n : ℕ) (more : List ℕ) → IsListOf base (n ∷ more) left → found ≡ Some n)
      → found ≡ None → (base : ℕ) (list : List ℕ) → IsListOf base list numbers → length list ≡ count → ⊥
  never_none found some none base list is long =
      none-some _ (sym none ∙ some base (get_or list i 0) (drop (i + 1) list) (first_left base list is long))

  pub read_more : (n x : ℕ) (after : Numbers) → i < length room → x ≡ change n
      → ((base m : ℕ) (more : List ℕ) → IsListOf base (m ∷ more) left → Some n ≡ Some m)
      → ((base m : ℕ) (more : List ℕ) → IsListOf base (m ∷ more) left → IsListOf base more after)
      → IsReadTo change numbers count after (set room i x) (i + 1)
  read_more n x after fits changed some rest base list is long =
      let first = first_left base list is long in
      let value : n ≡ get_or list i 0 =
      same_Some n (get_or list i 0) (some base (get_or list i 0) (drop (i + 1) list) first) in
      let many : i < length (map change list) = omega (arith, length-map list change) in
      let put : x ≡ get_or (map change list) i 0 =
      changed ∙ ap change value ∙ sym (get_or-map change list i 0 0 (omega arith)) in
      record {
        rest = rest base (get_or list i 0) (drop (i + 1) list) first;
        front = take_more_set room i x fits ∙ ap (λ l. l ++ x ∷ []) (read base list is long).front
            ∙ ap (λ y. take i (map change list) ++ y ∷ []) put ∙ sym (take_more (map change list) i 0 many);
      }
