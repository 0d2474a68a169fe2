-- A spelled angle reads back as it.
use Rattle.std.proofs.Common.{◌≡◌, ◌≢◌, ℕ, List, All, [], ◌∷◌, ◌++◌, length, drop, get_or, Some, Ok}
use Rattle.std.proofs.Common.{false, ◌∙◌, refl, sym, ap, arith, append_assoc, length-append}
use Rattle.std.specs.Fmt.{decimal}
use Rattle.std.specs.List.{position_or_len, before_first, after_first}
use Rattle.std.proofs.lemmas.Bool.Decides.{nat_tests}
use Rattle.std.proofs.lemmas.Grind.{common_steps}
use Rattle.std.proofs.lemmas.List.Sums.{position_or_len_is}
use Rattle.std.proofs.lemmas.List.Elements.{All-get_or}
use Rattle.std.proofs.Math.ListN.{get_or-append}
use Rattle.std.proofs.Math.Nat.{div-one}
use Rattle.std.proofs.Math.Seq.{get_or-append_seam, take-append_seam, drop-append_seam}
use Rattle.ce_angle.specs.Fraction.{Fraction, IsAngle}
use Rattle.ce_angle.specs.Spelled.{fraction_text}
use Rattle.ce_angle.specs.Typed.{is_slash, number_of, numerator_of, denominator_of, angle_of, angle_of_text}
use Rattle.ce_angle.proofs.Numbers.{number_of-decimal, decimal_lacks}
use Rattle.ce_angle.proofs.Reduced.{over-angle_of}

no_slash : (byte : ℕ) → byte ≢ 47 → is_slash byte ≡ false
no_slash byte h = grind (arith, nat_tests)

-- the first slash of a text that has none before
module _ (front back : List ℕ) (lacks : All (λ other. other ≢ 47) front) where
  slash_after : position_or_len is_slash (front ++ 47 ∷ back) ≡ length front
  slash_after =
      position_or_len_is is_slash (front ++ 47 ∷ back) (length front) 0
      (grind (arith, common_steps))
      (λ k h. no_slash (get_or (front ++ 47 ∷ back) k 0)
      (rw (get_or-append front (47 ∷ back) 0 k h) (All-get_or (λ other. other ≢ 47) front k 0 h lacks)))
      (λ h. ap is_slash (get_or-append_seam front 47 back 0))

  before : before_first is_slash (front ++ 47 ∷ back) ≡ front
  before = rw slash_after (take-append_seam front (47 ∷ back))

  after : after_first is_slash (front ++ 47 ∷ back) ≡ back
  after =
      let whole = sym (append_assoc front (47 ∷ []) back) in
      let long = length-append front (47 ∷ []) in
      rw slash_after (ap (λ n. drop n (front ++ 47 ∷ back)) (sym long)
      ∙ ap (λ xs. drop (length (front ++ 47 ∷ [])) xs) whole ∙ drop-append_seam (front ++ 47 ∷ []) back)

-- an angle is its own lowest terms
own_parts : (f : Fraction) → IsAngle f → angle_of f.num f.den ≡ Ok f
own_parts f h =
    let over = over-angle_of f.num f.den 1 (record { below = h.below_one; small = h.small; greatest = h.lowest }) in
    sym over ∙ rw (div-one f.num, div-one f.den) refl

text_is : (f : Fraction) → fraction_text f ≡ decimal f.num ++ 47 ∷ decimal f.den
text_is f = append_assoc (decimal f.num) (47 ∷ []) (decimal f.den)

pub reads_back : (f : Fraction) → IsAngle f → angle_of_text (fraction_text f) ≡ Ok f
reads_back f h =
    let lacks = decimal_lacks 47 f.num (omega arith) (omega (arith, h.below_one, h.small)) in
    let num : numerator_of (decimal f.num ++ 47 ∷ decimal f.den) ≡ Some f.num =
    ap number_of (before (decimal f.num) (decimal f.den) lacks)
    ∙ number_of-decimal f.num (omega (arith, h.below_one, h.small)) in
    let den : denominator_of (decimal f.num ++ 47 ∷ decimal f.den) ≡ Some f.den =
    ap number_of (after (decimal f.num) (decimal f.den) lacks) ∙ number_of-decimal f.den (omega (arith, h.small)) in
    ap angle_of_text (text_is f) ∙ rw (num, den) (own_parts f h)
