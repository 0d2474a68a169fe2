-- Numbers beside a list, as they are given: an element that is known gets its number again, and a
-- new one the next number.
use Rattle.std.proofs.Common.{◌≡◌, ◌≢◌, ◌<◌, ◌≤◌, ◌+◌, ◌↔◌, ◌∙◌, ◌⊎◌, inl, inr, ℕ, List, [], ◌∷◌, ◌++◌, length}
use Rattle.std.proofs.Common.{get_or, refl, sym, ap, arith, length-append}
use Rattle.std.proofs.lemmas.Bool.{cases_lt}
use Rattle.std.proofs.Math.ListN.{get_or-append}
use Rattle.std.proofs.Math.Seq.{get_or-append_seam}
use Rattle.ce_sweep.specs.Classes.{IsFirstPlace}

-- a list with one more number
pub more-length : (ns : List ℕ) (n i : ℕ) → length ns ≡ i → length (ns ++ n ∷ []) ≡ i + 1
more-length ns n i h = rw (length-append ns (n ∷ [])) (omega arith)

pub more-old : (ns : List ℕ) (n k : ℕ) → k < length ns → get_or (ns ++ n ∷ []) k 0 ≡ get_or ns k 0
more-old ns n k h = get_or-append ns (n ∷ []) 0 k h

pub more-last : (ns : List ℕ) (n i : ℕ) → length ns ≡ i → get_or (ns ++ n ∷ []) i 0 ≡ n
more-last ns n i h = ap (λ k. get_or (ns ++ n ∷ []) k 0) (sym h) ∙ get_or-append_seam ns n [] 0

module _ {X : Type 0} (list : List X) where
  -- The first elements have numbers.
  pub record AreNumberedTo (i : ℕ) (of first : List ℕ) : Type 0 where
    pub within : i ≤ length list
    pub each : length of ≡ i
    pub below : (k : ℕ) → k < i → get_or of k 0 < length first
    pub alike : (j k : ℕ) (d : X) → j < i → k < i
        → (get_or of j 0 ≡ get_or of k 0) ↔ (get_or list j d ≡ get_or list k d)
    pub first_places : (c : ℕ) → c < length first → IsFirstPlace of c (get_or first c 0)

  -- an element that has been met: its class is c
  module _ (i c : ℕ) (of first : List ℕ) (h : AreNumberedTo i of first) (within : i < length list)
      (known : c < length first) (met : (d : X) → get_or list (get_or first c 0) d ≡ get_or list i d) where
    is_place : IsFirstPlace of c (get_or first c 0)
    is_place = h.first_places c known

    place_below : get_or first c 0 < i
    place_below = let p = is_place in let w = p.within in let each = h.each in omega arith

    old : (k : ℕ) → k < i → get_or (of ++ c ∷ []) k 0 ≡ get_or of k 0
    old k less = more-old of c k (let each = h.each in omega arith)

    last : get_or (of ++ c ∷ []) i 0 ≡ c
    last = more-last of c i h.each

    -- c is the number of exactly the elements that are alike
    alike-last : (j : ℕ) (d : X) → j < i → (get_or of j 0 ≡ c) ↔ (get_or list j d ≡ get_or list i d)
    alike-last j d less =
        let both = h.alike j (get_or first c 0) d less place_below in
        (λ same. both.0 (same ∙ sym (is_place).here) ∙ met d, λ same. both.1 (same ∙ sym (met d)) ∙ (is_place).here)

    alike-more : (j k : ℕ) (d : X) → (j < i) ⊎ (i ≤ j) → (k < i) ⊎ (i ≤ k) → j < i + 1 → k < i + 1
        → (get_or (of ++ c ∷ []) j 0 ≡ get_or (of ++ c ∷ []) k 0) ↔ (get_or list j d ≡ get_or list k d)
    alike-more j k d (inl a) (inl b) _ _ =
        let both = h.alike j k d a b in
        (λ same. both.0 (sym (old j a) ∙ same ∙ old k b), λ same. old j a ∙ both.1 same ∙ sym (old k b))
    alike-more j k d (inl a) (inr b) _ less =
        let here : i ≡ k = omega arith in
        let both = alike-last j d a in
        let end = ap (λ n. get_or (of ++ c ∷ []) n 0) (sym here) ∙ last in
        let at = ap (λ n. get_or list n d) here in
        (λ same. both.0 (sym (old j a) ∙ same ∙ end) ∙ at, λ same. old j a ∙ both.1 (same ∙ sym at) ∙ sym end)
    alike-more j k d (inr a) (inl b) less _ =
        let here : i ≡ j = omega arith in
        let both = alike-last k d b in
        let end = ap (λ n. get_or (of ++ c ∷ []) n 0) (sym here) ∙ last in
        let at = ap (λ n. get_or list n d) here in (
          λ same. sym (both.0 (sym (old k b) ∙ sym same ∙ end) ∙ at),
          λ same. sym
              (old k b ∙ both.1 (sym same ∙ sym at) ∙ sym end),
        )
    alike-more j k d (inr a) (inr b) less more =
        let here : j ≡ k = omega arith in
        (λ _. ap (λ n. get_or list n d) here, λ _. ap (λ n. get_or (of ++ c ∷ []) n 0) here)

    below-more : (k : ℕ) → (k < i) ⊎ (i ≤ k) → k < i + 1 → get_or (of ++ c ∷ []) k 0 < length first
    below-more k (inl a) _ = rw (old k a) (h.below k a)
    below-more k (inr a) less =
        let here : i ≡ k = omega arith in
        rw (ap (λ n. get_or (of ++ c ∷ []) n 0) (sym here) ∙ last) known

    first-more : (b : ℕ) → b < length first → IsFirstPlace (of ++ c ∷ []) b (get_or first b 0)
    first-more b less =
        let p = h.first_places b less in
        let each = h.each in
        let long = more-length of c i h.each in
        let inside : get_or first b 0 < i = let w = p.within in omega arith in
        record {
          within = omega arith;
          here = old (get_or first b 0) inside ∙ p.here;
          earlier = λ k before. rw (old k (omega arith)) (p.earlier k before);
        }

    pub numbered-known : AreNumberedTo (i + 1) (of ++ c ∷ []) first
    numbered-known = record {
      within = omega arith;
      each = more-length of c i h.each;
      below = λ k less. below-more k (cases_lt k i) less;
      alike = λ j k d a b. alike-more j k d (cases_lt j i) (cases_lt k i) a b;
      first_places = first-more;
    }

  -- an element that is new: it gets the next number
  module _ (i : ℕ) (of first : List ℕ) (h : AreNumberedTo i of first) (within : i < length list)
      (new : (j : ℕ) (d : X) → j < i → get_or list j d ≢ get_or list i d) where
    old-of : (k : ℕ) → k < i → get_or (of ++ length first ∷ []) k 0 ≡ get_or of k 0
    old-of k less = more-old of (length first) k (let each = h.each in omega arith)

    last-of : get_or (of ++ length first ∷ []) i 0 ≡ length first
    last-of = more-last of (length first) i h.each

    old-below : (k : ℕ) → k < i → get_or (of ++ length first ∷ []) k 0 < length first
    old-below k less = rw (old-of k less) (h.below k less)

    alike-new : (j k : ℕ) (d : X) → (j < i) ⊎ (i ≤ j) → (k < i) ⊎ (i ≤ k) → j < i + 1 → k < i + 1
        → (get_or (of ++ length first ∷ []) j 0 ≡ get_or (of ++ length first ∷ []) k 0) ↔
        (get_or list j d ≡ get_or list k d)
    alike-new j k d (inl a) (inl b) _ _ =
        let both = h.alike j k d a b in
        (λ same. both.0 (sym (old-of j a) ∙ same ∙ old-of k b), λ same. old-of j a ∙ both.1 same ∙ sym (old-of k b))
    alike-new j k d (inl a) (inr b) _ less =
        let here : i ≡ k = omega arith in
        let end = ap (λ n. get_or (of ++ length first ∷ []) n 0) (sym here) ∙ last-of in
        let low = old-below j a in (
          λ same. absurd (omega (arith, same, end)),
          λ same. absurd
              (new j d a (same ∙ ap (λ n. get_or list n d) (sym here))),
        )
    alike-new j k d (inr a) (inl b) less _ =
        let here : i ≡ j = omega arith in
        let end = ap (λ n. get_or (of ++ length first ∷ []) n 0) (sym here) ∙ last-of in
        let low = old-below k b in (
          λ same. absurd (omega (arith, same, end)),
          λ same. absurd
              (new k d b (sym same ∙ ap (λ n. get_or list n d) (sym here))),
        )
    alike-new j k d (inr a) (inr b) less more =
        let here : j ≡ k = omega arith in
        (λ _. ap (λ n. get_or list n d) here, λ _. ap (λ n. get_or (of ++ length first ∷ []) n 0) here)

    below-new : (k : ℕ) → (k < i) ⊎ (i ≤ k) → k < i + 1
        → get_or (of ++ length first ∷ []) k 0 < length (first ++ i ∷ [])
    below-new k (inl a) _ = let low = old-below k a in let long = more-length first i (length first) refl in omega arith
    below-new k (inr a) less =
        let here : i ≡ k = omega arith in
        let long = more-length first i (length first) refl in
        rw (ap (λ n. get_or (of ++ length first ∷ []) n 0) (sym here) ∙ last-of) (omega arith)

    first-new : (b : ℕ) → (b < length first) ⊎ (length first ≤ b) → b < length (first ++ i ∷ [])
        → IsFirstPlace (of ++ length first ∷ []) b (get_or (first ++ i ∷ []) b 0)
    first-new b (inl a) _ =
        let p = h.first_places b a in
        let each = h.each in
        let long = more-length of (length first) i h.each in
        let inside : get_or first b 0 < i = let w = p.within in omega arith in
        rw (more-old first i b a) (record {
          within = omega arith;
          here = old-of (get_or first b 0) inside ∙ p.here;
          earlier = λ k before. rw (old-of k (omega arith)) (p.earlier k before);
        })
    first-new b (inr a) less =
        let count = more-length first i (length first) refl in
        let here : length first ≡ b = omega arith in
        let long = more-length of (length first) i h.each in
        let at : get_or (first ++ i ∷ []) b 0 ≡ i = more-last first i b here in
        rw at (record {
          within = omega arith;
          here = last-of ∙ here;
          earlier = λ k before. let low = old-below k before in omega arith;
        })

    pub numbered-new : AreNumberedTo (i + 1) (of ++ length first ∷ []) (first ++ i ∷ [])
    numbered-new = record {
      within = omega arith;
      each = more-length of (length first) i h.each;
      below = λ k less. below-new k (cases_lt k i) less;
      alike = λ j k d a b. alike-new j k d (cases_lt j i) (cases_lt k i) a b;
      first_places = λ b less. first-new b (cases_lt b (length first)) less;
    }
