-- Bits and rest stay small while they are found.
use Rattle.std.proofs.Common.{◌≡◌, ◌<◌, ◌≤◌, ◌+◌, ◌^◌, ◌∙◌, ℕ, refl, sym, ap, subst, arith, add-one}
use Rattle.std.proofs.Math.Nat.{pow-le-pow_right}
use Rattle.ce_log2.specs.Squaring.{square_down, square_up, steps_down, steps_up}
use Rattle.ce_log2.specs.declared.squared.Squared.{Squared}
use Rattle.ce_log2.proofs.Close.{IsCloseBelow}
use Rattle.ce_log2.proofs.CloseAbove.{IsCloseAbove}
use Rattle.ce_log2.proofs.Logarithms.{IsScaled, close-below, close-above}

few_bits : (k bits : ℕ) → k ≤ 16 → bits < 2 ^ k → bits < 2 ^ 31
few_bits k bits few h = let more = pow-le-pow_right {n = 2} (omega arith) {i = k} {j = 16} few in omega (arith, more)

own_scale : (m : ℕ) → 2 ^ 62 ≤ m → m ≤ 2 ^ 63 → IsScaled 62 m m
own_scale m least most = record { same = refl; least = least; most = most }

module _ (k m : ℕ) (few : k ≤ 16) (least : 2 ^ 62 ≤ m) (s : Squared) where
  pub small_down : m < 2 ^ 63 → s ≡ steps_down k m → (s.bits < 2 ^ 31) × (s.rest < 2 ^ 63)
  small_down most same =
      let close =
      subst (IsCloseBelow 62 m k) (sym same) (close-below 62 m k m few (own_scale m least (omega arith)) most) in
      (few_bits k s.bits few close.few, close.most)

  pub small_up : m ≤ 2 ^ 63 → s ≡ steps_up k m → (s.bits < 2 ^ 31) × (s.rest ≤ 2 ^ 63)
  small_up most same =
      let close = subst (IsCloseAbove 62 m k) (sym same) (close-above 62 m k m few (own_scale m least most)) in
      (few_bits k s.bits few close.few, close.most)

pub none_down : (m : ℕ) → Path Squared (record { bits = 0; rest = m }) (steps_down 0 m)
unfolding steps_down
none_down m = refl

pub none_up : (m : ℕ) → Path Squared (record { bits = 0; rest = m }) (steps_up 0 m)
unfolding steps_up
none_up m = refl

pub more_down : (k m : ℕ) (s : Squared) → s ≡ steps_down k m → square_down s ≡ steps_down (k + 1) m
unfolding steps_down
more_down k m s same = ap (λ (x : Squared). square_down x) same ∙ rw (add-one k) refl

pub more_up : (k m : ℕ) (s : Squared) → s ≡ steps_up k m → square_up s ≡ steps_up (k + 1) m
unfolding steps_up
more_up k m s same = ap (λ (x : Squared). square_up x) same ∙ rw (add-one k) refl
