-- There is one numbering by first occurrence.
use Rattle.std.proofs.Common.{◌≡◌, ◌<◌, ◌≤◌, ◌∙◌, ◌⊎◌, inl, inr, ℕ, zero, suc, List, length, get_or, sym, ap, subst}
use Rattle.std.proofs.Common.{arith}
use Rattle.std.proofs.lemmas.Bool.{cases_lt, cases_order}
use Rattle.std.proofs.lemmas.List.{ext_get_or}
use Rattle.ce_sweep.specs.Classes.{IsFirstPlace, AreNumberedBy}

module _ {X : Type 0} (Alike : X → X → Type 0) (list : List X) (d : X) where
  -- A number's first place is at most each place where it stands.
  first_before : (of first : List ℕ) → AreNumberedBy Alike list of first → (i : ℕ) → i < length of
      → get_or first (get_or of i 0) 0 ≤ i
  first_before of first h i within = by_order (cases_lt i (get_or first (get_or of i 0) 0))
    where
      place : IsFirstPlace of (get_or of i 0) (get_or first (get_or of i 0) 0)
      place = h.first_places (get_or of i 0) (h.below i within)

      by_order : (i < get_or first (get_or of i 0) 0) ⊎ (get_or first (get_or of i 0) 0 ≤ i)
          → get_or first (get_or of i 0) 0 ≤ i
      by_order (inr fine) = fine
      by_order (inl before) = let less = place.earlier i before in absurd (omega arith)

  -- Lesser numbers come earlier.
  first_rises : (of first : List ℕ) → AreNumberedBy Alike list of first → (a b : ℕ) → a < b → b < length first
      → get_or first a 0 < get_or first b 0
  first_rises of first h a b less within = by_order (cases_order (get_or first a 0) (get_or first b 0))
    where
      low : IsFirstPlace of a (get_or first a 0)
      low = h.first_places a (omega arith)

      high : IsFirstPlace of b (get_or first b 0)
      high = h.first_places b within

      by_order : (get_or first a 0 ≡ get_or first b 0)
          ⊎ ((get_or first a 0 < get_or first b 0) ⊎ (get_or first b 0 < get_or first a 0))
          → get_or first a 0 < get_or first b 0
      by_order (inr (inl fine)) = fine
      by_order (inl same) =
          let one = low.here in
          let two = high.here in
          let both = ap (λ n. get_or of n 0) same in
          absurd (omega arith)
      by_order (inr (inr more)) =
          let two = high.here in
          let early = low.earlier (get_or first b 0) more in
          absurd (omega arith)

  module _ (of first other firsts : List ℕ) (h : AreNumberedBy Alike list of first)
      (k : AreNumberedBy Alike list other firsts) where
    -- the number of a place that is its number's first, in both
    least-first : (i : ℕ) → i < length list → ((j : ℕ) → j < i → get_or of j 0 ≡ get_or other j 0)
        → get_or first (get_or of i 0) 0 ≡ i → get_or firsts (get_or other i 0) 0 ≡ i → get_or of i 0 < get_or other i 0
        → ⊥
    least-first i within before here there less =
        let each = h.each in
        let eachs = k.each in
        let bound = k.below i (omega arith) in
        let place = k.first_places (get_or of i 0) (omega arith) in
        let early = first_rises other firsts k (get_or of i 0) (get_or other i 0) less bound in
        let q = get_or firsts (get_or of i 0) 0 in
        let old = before q (omega arith) in
        let own = h.first_places (get_or of i 0) (h.below i (omega arith)) in
        let lower = own.earlier q (omega arith) in
        let is = place.here in
        omega arith

  -- the number of a place whose number stood before
  seen-before : (of first other firsts : List ℕ) (h : AreNumberedBy Alike list of first)
      (k : AreNumberedBy Alike list other firsts) (i : ℕ) → i < length list
      → ((j : ℕ) → j < i → get_or of j 0 ≡ get_or other j 0) → get_or first (get_or of i 0) 0 < i
      → get_or of i 0 ≡ get_or other i 0
  seen-before of first other firsts h k i within before less =
      let p = get_or first (get_or of i 0) 0 in
      let each = h.each in
      let place = h.first_places (get_or of i 0) (h.below i (omega arith)) in
      let alike = (h.alike p i d (omega arith) within).0 place.here in
      let other_same = (k.alike p i d (omega arith) within).1 alike in
      sym place.here ∙ before p less ∙ other_same

  same-at : (of first other firsts : List ℕ) (h : AreNumberedBy Alike list of first)
      (k : AreNumberedBy Alike list other firsts) (i : ℕ) → i < length list
      → ((j : ℕ) → j < i → get_or of j 0 ≡ get_or other j 0)
      → (get_or first (get_or of i 0) 0 < i) ⊎ (i ≤ get_or first (get_or of i 0) 0)
      → (get_or firsts (get_or other i 0) 0 < i) ⊎ (i ≤ get_or firsts (get_or other i 0) 0)
      → (get_or of i 0 ≡ get_or other i 0) ⊎ ((get_or of i 0 < get_or other i 0) ⊎ (get_or other i 0 < get_or of i 0))
      → get_or of i 0 ≡ get_or other i 0
  same-at of first other firsts h k i within before (inl less) _ _ =
      seen-before of first other firsts h k i within before less
  same-at of first other firsts h k i within before (inr late) (inl less) _ =
      sym (seen-before other firsts of first k h i within (λ j below. sym (before j below)) less)
  same-at of first other firsts h k i within before (inr late) (inr later) (inl same) = same
  same-at of first other firsts h k i within before (inr late) (inr later) (inr (inl less)) =
      let each = h.each in
      let eachs = k.each in
      let one = first_before of first h i (omega arith) in
      let two = first_before other firsts k i (omega arith) in
      absurd (least-first of first other firsts h k i within before (omega arith) (omega arith) less)
  same-at of first other firsts h k i within before (inr late) (inr later) (inr (inr more)) =
      let each = h.each in
      let eachs = k.each in
      let one = first_before of first h i (omega arith) in
      let two = first_before other firsts k i (omega arith) in
      absurd (least-first other firsts of first k h i within (λ j below. sym (before j below)) (omega arith)
      (omega arith) more)

  -- the first numbers are the same, by one more each time
  same-to : (of first other firsts : List ℕ) (h : AreNumberedBy Alike list of first)
      (k : AreNumberedBy Alike list other firsts) (n : ℕ) → n ≤ length list → (i : ℕ) → i < n
      → get_or of i 0 ≡ get_or other i 0
  same-to of first other firsts h k zero few i less = absurd (omega arith)
  same-to of first other firsts h k (suc n) few i less =
      by_place (same-to of first other firsts h k n (omega arith)) (cases_lt i n)
    where
      by_place : ((j : ℕ) → j < n → get_or of j 0 ≡ get_or other j 0) → (i < n) ⊎ (n ≤ i)
          → get_or of i 0 ≡ get_or other i 0
      by_place before (inl low) = before i low
      by_place before (inr last) =
          same-at of first other firsts h k i (omega arith) (λ j below. before j (omega arith))
          (cases_lt (get_or first (get_or of i 0) 0) i) (cases_lt (get_or firsts (get_or other i 0) 0) i)
          (cases_order (get_or of i 0) (get_or other i 0))

  numbers-same : (of first other firsts : List ℕ) → AreNumberedBy Alike list of first
      → AreNumberedBy Alike list other firsts → of ≡ other
  numbers-same of first other firsts h k =
      let each = h.each in
      let eachs = k.each in
      ext_get_or 0 of other (omega arith) (λ i less. same-to of first other firsts h k (length list) (omega arith) i
      (omega arith))

  -- a class of the one numbering is one of the other
  no-more : (of first firsts : List ℕ) → AreNumberedBy Alike list of first → AreNumberedBy Alike list of firsts
      → length first ≤ length firsts
  no-more of first firsts h k = by_order (cases_lt (length firsts) (length first))
    where
      by_order : (length firsts < length first) ⊎ (length first ≤ length firsts) → length first ≤ length firsts
      by_order (inr fine) = fine
      by_order (inl more) =
          let place = h.first_places (length firsts) more in
          let bound = k.below (get_or first (length firsts) 0) place.within in
          let here = place.here in
          absurd (omega arith)

  firsts-same : (of first firsts : List ℕ) → AreNumberedBy Alike list of first → AreNumberedBy Alike list of firsts
      → first ≡ firsts
  firsts-same of first firsts h k =
      let one = no-more of first firsts h k in
      let two = no-more of firsts first k h in
      ext_get_or 0 first firsts (omega arith) (λ c less. at c (h.first_places c less) (k.first_places c (omega arith))
      (cases_order (get_or first c 0) (get_or firsts c 0)))
    where
      at : (c : ℕ) → IsFirstPlace of c (get_or first c 0) → IsFirstPlace of c (get_or firsts c 0)
          → (get_or first c 0 ≡ get_or firsts c 0)
          ⊎ ((get_or first c 0 < get_or firsts c 0) ⊎ (get_or firsts c 0 < get_or first c 0))
          → get_or first c 0 ≡ get_or firsts c 0
      at c p q (inl same) = same
      at c p q (inr (inl less)) =
          let early = q.earlier (get_or first c 0) less in let here = p.here in absurd (omega arith)
      at c p q (inr (inr more)) =
          let early = p.earlier (get_or firsts c 0) more in let here = q.here in absurd (omega arith)

  pub one_numbering : (of first other firsts : List ℕ) → AreNumberedBy Alike list of first
      → AreNumberedBy Alike list other firsts → (of ≡ other) × (first ≡ firsts)
  one_numbering of first other firsts h k =
      let numbers = numbers-same of first other firsts h k in
      (numbers, firsts-same of first firsts h (subst (λ ns. AreNumberedBy Alike list ns firsts) (sym numbers) k))
