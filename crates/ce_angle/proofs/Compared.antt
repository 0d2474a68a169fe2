-- The order of angles: they are equal exactly where their cross products are.
use Rattle.std.proofs.Common.{◌≡◌, ◌*◌, ℕ, ◌∙◌, Ordering, Equal, sym, ap, arith}
use Rattle.std.specs.Ordering.{nat_cmp}
use Rattle.std.proofs.lemmas.Bool.Decides.{nat_tests}
use Rattle.ce_angle.specs.Fraction.{Fraction, IsAngle}
use Rattle.ce_angle.proofs.Unique.{lowest_terms_unique}

pub cmp-same : (x : ℕ) → nat_cmp x x ≡ Equal
cmp-same x = grind (arith, nat_tests)

pub same-cmp : (x y : ℕ) → nat_cmp x y ≡ Equal → x ≡ y
same-cmp x y h = grind (arith, nat_tests)

pub same_or_not : (f g : Fraction) (left right : ℕ) (order : Ordering) → IsAngle f → IsAngle g → left ≡ f.num * g.den
    → right ≡ g.num * f.den → order ≡ nat_cmp left right → (order ≡ Equal → f ≡ g) × (f ≡ g → order ≡ Equal)
same_or_not f g left right order first second l r h = (
  λ same. lowest_terms_unique f g first second (sym l ∙ same-cmp left right (sym h ∙ same) ∙ r),
  λ same.
      let cross : left ≡ right = l ∙ ap (λ (x : Fraction). f.num * x.den) (sym same)
      ∙ ap (λ (x : Fraction). x.num * f.den) same ∙ sym r in
      h ∙ ap (λ x. nat_cmp x right) cross ∙ cmp-same right,
)
