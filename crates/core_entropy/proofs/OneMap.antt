-- The map that one worker makes is determined.
use Rattle.std.proofs.Common.{◌≡◌, ◌∙◌, ℕ, List, [], ◌∷◌, length, map, refl, sym, ap, subst}
use Rattle.std.specs.List.{All}
use Rattle.std.proofs.lemmas.List.Elements.{All-head, All-tail}
use Rattle.ce_angle.proofs.OneList.{one_list}
use Rattle.ce_map.specs.Grammar.{Item, map_text}
use Rattle.ce_orbit.proofs.Unique.{one_orbit}
use Rattle.ce_rows.specs.Rows.{AreScaledRows}
use Rattle.ce_rows.specs.Scale.{IsExponent}
use Rattle.ce_solve.specs.SolvedRows.{IsSolved}
use Rattle.ce_solve.proofs.LoneClosing.{one_closing}
use Rattle.ce_thurston.specs.Indices.{rows_at}
use Rattle.ce_thurston.proofs.OrbitRows.{rows_in_range}
use Rattle.core_entropy.specs.Map.{IsMapText, IsSolvedItem, header_of}

module _ (rounds turns exponent : ℕ) (known : IsExponent exponent) where
  abbrev IsOwn : Item → Type 0
  IsOwn item = IsSolvedItem rounds turns 1 exponent item

  one_solved : (x y : Item) → x.angle ≡ y.angle → IsOwn x → IsOwn y → x ≡ y
  one_solved x y angle h k =
      let orbit = one_orbit h.orbit k.orbit h.is_orbit k.is_orbit (h.of_angle ∙ (angle ∙ sym k.of_angle)) in
      let rows = rows_at h.orbit exponent in
      let are : AreScaledRows rows = record { rows = rows_in_range h.orbit h.is_orbit h.few; scale = known } in
      let other = subst (λ o. IsSolved (rows_at o exponent) rounds turns 1 k.closing) (sym orbit) k.solution in
      let closing = one_closing rows rounds turns h.closing k.closing are h.solution other in
      let evidence = h.evidence ∙ (closing ∙ sym k.evidence) in
      (λ i. record { angle = angle i; evidence = evidence i })

  one_items : (xs ys : List Item) → map (λ (i : Item). i.angle) xs ≡ map (λ (i : Item). i.angle) ys → All IsOwn xs
      → All IsOwn ys → xs ≡ ys
  one_items [] [] angles h k = refl
  one_items [] (y ∷ ys) angles h k = absurd (cc)
  one_items (x ∷ xs) [] angles h k = absurd (cc)
  one_items (x ∷ xs) (y ∷ ys) angles h k =
      let first = one_solved x y (cc) (All-head IsOwn x xs h) (All-head IsOwn y ys k) in
      let rest = one_items xs ys (cc) (All-tail IsOwn x xs h) (All-tail IsOwn y ys k) in
      (λ i. first i ∷ rest i)

pub one_map : (order rounds turns exponent : ℕ) (text other : List ℕ) → IsExponent exponent
    → IsMapText order rounds turns 1 exponent text → IsMapText order rounds turns 1 exponent other → text ≡ other
one_map order rounds turns exponent text other known h k =
    let angles =
    one_list order (map (λ (i : Item). i.angle) h.items) (map (λ (i : Item). i.angle) k.items) h.angles k.angles in
    let items = one_items rounds turns exponent known h.items k.items angles h.each k.each in
    h.spelled ∙ (ap (λ (l : List Item). map_text (header_of order exponent) l (length l)) items ∙ sym k.spelled)
