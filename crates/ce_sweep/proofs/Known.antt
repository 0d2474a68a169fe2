-- An index of the elements that have been met, by their class.
use Rattle.std.proofs.Common.{◌≡◌, ◌≢◌, ◌<◌, ◌≤◌, ◌+◌, ◌∙◌, ◌⊎◌, inl, inr, ℕ, Option, Some, None, List, [], ◌∷◌, ◌++◌}
use Rattle.std.proofs.Common.{length, get_or, Bool, true, false, cond, refl, sym, ap, arith}
use Rattle.std.specs.Ordering.{is_eq}
use Rattle.std.specs.Cmp.{Equal-is}
use Rattle.std.proofs.lemmas.Bool.{cases_lt, false≢true}
use Rattle.ce_orbit.specs.KeyOrder.{key_order}
use Rattle.ce_orbit.specs.declared.key.KneadKey.{KneadKey}
use Rattle.ce_orbit.proofs.KeyOrder.{order_exact, order_itself}
use Rattle.ce_sweep.proofs.Numbered.{more-length, more-old, more-last}

-- A look-up finds the class of each key that stands at the first places, and no other one.
pub record IsIndexOf (keys : List KneadKey) (i : ℕ) (first : List ℕ) (known : KneadKey → Option ℕ) : Type 0 where
  pub found : (q : KneadKey) (c : ℕ) → known q ≡ Some c
      → (c < length first) × ((d : KneadKey) → get_or keys (get_or first c 0) d ≡ q)
  pub missing : (q : KneadKey) → known q ≡ None → (j : ℕ) (d : KneadKey) → j < i → get_or keys j d ≢ q

module _ (keys : List KneadKey) (i : ℕ) (first : List ℕ) (known : KneadKey → Option ℕ)
    (h : IsIndexOf keys i first known) (key : KneadKey) (here : (d : KneadKey) → get_or keys i d ≡ key) where
  -- A key that was found stands at one more place.
  pub index-known : (c : ℕ) → known key ≡ Some c → IsIndexOf keys (i + 1) first known
  index-known c met = record {
    found = h.found;
    missing = λ q none j d less. by_place q none j d less (cases_lt j i);
  }
    where
      by_place : (q : KneadKey) → known q ≡ None → (j : ℕ) (d : KneadKey) → j < i + 1 → (j < i) ⊎ (i ≤ j)
          → get_or keys j d ≢ q
      by_place q none j d less (inl before) = h.missing q none j d before
      by_place q none j d less (inr last) = λ same.
          let at : i ≡ j = omega arith in
          let q_is : key ≡ q = sym (here d) ∙ ap (λ n. get_or keys n d) at ∙ same in
          absurd (none_some (sym none ∙ sym (ap known q_is) ∙ met))
        where
          none_some : {c : ℕ} → None ≡ Some c → ⊥
          none_some h = cc

  -- A new key is put in with the next number.
  module _ (after : KneadKey → Option ℕ) (updated : (q : KneadKey) → after q ≡ cond (is_eq (key_order key q))
      (Some (length first)) (known q)) where
    found-by : (t : Bool) (q : KneadKey) (c : ℕ) → is_eq (key_order key q) ≡ t → after q ≡ Some c
        → (c < length (first ++ i ∷ [])) × ((d : KneadKey) → get_or keys (get_or (first ++ i ∷ []) c 0) d ≡ q)
    found-by true q c test has =
        let same : key ≡ q = order_exact key q ((Equal-is (key_order key q)).0 test) in
        let number : length first ≡ c =
        some_same (sym (updated q ∙ ap (λ t. cond t (Some (length first)) (known q)) test) ∙ has) in
        let long = more-length first i (length first) refl in
        (omega arith, λ d. ap (λ n. get_or keys n d) (more-last first i c number) ∙ here d ∙ same)
      where
        some_same : {a b : ℕ} → Some a ≡ Some b → a ≡ b
        some_same h = cc
    found-by false q c test has =
        let before = h.found q c (sym (updated q ∙ ap (λ t. cond t (Some (length first)) (known q)) test) ∙ has) in
        let long = more-length first i (length first) refl in
        let less = before.0 in
        (omega arith, λ d. ap (λ n. get_or keys n d) (more-old first i c less) ∙ before.1 d)

    missing-by : (t : Bool) (q : KneadKey) → is_eq (key_order key q) ≡ t → after q ≡ None → (j : ℕ) (d : KneadKey)
        → j < i + 1 → (j < i) ⊎ (i ≤ j) → get_or keys j d ≢ q
    missing-by true q test none j d less _ =
        absurd (none_some (sym none ∙ updated q ∙ ap (λ t. cond t (Some (length first)) (known q)) test))
      where
        none_some : {c : ℕ} → None ≡ Some c → ⊥
        none_some h = cc
    missing-by false q test none j d less (inl before) =
        h.missing q (sym (updated q ∙ ap (λ t. cond t (Some (length first)) (known q)) test) ∙ none) j d before
    missing-by false q test none j d less (inr last) = λ same.
        let at : i ≡ j = omega arith in
        let q_is : key ≡ q = sym (here d) ∙ ap (λ n. get_or keys n d) at ∙ same in
        false≢true (sym test ∙ ap is_eq (ap (λ x. key_order key x) (sym q_is)) ∙ ap is_eq (order_itself key))

    pub index-new : IsIndexOf keys (i + 1) (first ++ i ∷ []) after
    index-new = record {
      found = λ q c has. found-by (is_eq (key_order key q)) q c refl has;
      missing = λ q none j d less. missing-by (is_eq (key_order key q)) q refl none j d less (cases_lt j i);
    }
