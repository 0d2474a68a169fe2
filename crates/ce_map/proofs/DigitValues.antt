-- What digits make: the value of each, and the number of those at the front of a text.
use Rattle.std.proofs.Common.{◌≡◌, ◌<◌, ◌≤◌, ◌+◌, ◌*◌, ◌==◌, ℕ, zero, suc, Bool, true, false, not, cond, ltb, List, []}
use Rattle.std.proofs.Common.{◌∷◌, refl, sym, ap, ◌∙◌, arith}
use Rattle.std.specs.Prelude.{nat_lt}
use Rattle.std.specs.Fmt.{digit_glyph}
use Rattle.std.proofs.lemmas.Bool.Decides.{nat_tests}
use Rattle.std.proofs.Math.Nat.{mul-le-mul_left}
use Rattle.ce_map.specs.DigitsInside.{digit_in, digits_front, is_plain}

-- a digit is read back
glyph_by : (t : Bool) (d : ℕ) → d < 16 → ltb d 10 ≡ t → digit_in (cond t (48 + d) (87 + d)) ≡ d
glyph_by true d small e = grind (arith, nat_tests)
glyph_by false d small e = grind (arith, nat_tests)

pub digit_in-glyph : (d : ℕ) → d < 16 → digit_in (digit_glyph false d) ≡ d
digit_in-glyph d small = glyph_by (ltb d 10) d small refl

-- a byte that is a digit is the digit's
pub glyph-digit_in : (c : ℕ) → digit_in c < 16 → digit_glyph false (digit_in c) ≡ c
glyph-digit_in c small = grind (arith, nat_tests)

pub cond_true : {X : Type 0} (t : Bool) (x y : X) → t ≡ true → cond t x y ≡ x
cond_true t x y h = ap (λ b. cond b x y) h

pub cond_false : {X : Type 0} (t : Bool) (x y : X) → t ≡ false → cond t x y ≡ y
cond_false t x y h = ap (λ b. cond b x y) h

above_by : (t : Bool) (c : ℕ) → (c == 48) ≡ t → 0 < digit_in c → t ≡ false
above_by false c e h = refl
above_by true c e h =
    let same : c ≡ 48 = grind (arith, nat_tests) in
    absurd (omega (arith, rw same at h))

-- only the digit 0 has the value 0
pub above_zero : (c : ℕ) → 0 < digit_in c → (c == 48) ≡ false
above_zero c h = above_by (c == 48) c refl h

not_zero_by : (c d : ℕ) → digit_in c ≡ d → (c == 48) ≡ false → 0 < d
not_zero_by c zero e z =
    let shown = glyph-digit_in c (omega arith) in
    let same : c ≡ 48 = sym shown ∙ ap (digit_glyph false) e in
    absurd (grind (arith, nat_tests))
not_zero_by c (suc d) e z = omega arith

pub not_zero : (c : ℕ) → (c == 48) ≡ false → 0 < digit_in c
not_zero c z = not_zero_by c (digit_in c) refl z

module _ (base : ℕ) (low : 10 ≤ base) (high : base ≤ 16) where
  -- one more digit
  pub front_more : (n c : ℕ) (cs : List ℕ) → digit_in c < base
      → digits_front base n (c ∷ cs) ≡ digits_front base (n * base + digit_in c) cs
  front_more n c cs h = cond_true (nat_lt (digit_in c) base) _ _ (grind (arith, nat_tests))

  front_end : (n c : ℕ) (cs : List ℕ) → base ≤ digit_in c → digits_front base n (c ∷ cs) ≡ (n, c ∷ cs)
  front_end n c cs h = cond_false (nat_lt (digit_in c) base) _ _ (grind (arith, nat_tests))

  -- no digit
  pub front_plain : (n : ℕ) (text : List ℕ) → is_plain base text ≡ true → digits_front base n text ≡ (n, text)
  front_plain n [] h = refl
  front_plain n (c ∷ cs) h = front_end n c cs (grind (arith, nat_tests))

  -- more digits make no less
  pub front_ge : (v : ℕ) (cs : List ℕ) → v ≤ (digits_front base v cs).0
  front_ge v [] = omega arith
  front_ge v (c ∷ cs) = ge_by (nat_lt (digit_in c) base) (front_ge (v * base + digit_in c) cs)
    where
      ge_by : (t : Bool) → v * base + digit_in c ≤ (digits_front base (v * base + digit_in c) cs).0
          → v ≤ (cond t (digits_front base (v * base + digit_in c) cs) (v, c ∷ cs)).0
      ge_by true h = let one : 1 ≤ base = omega arith in omega (arith, mul-le-mul_left v one)
      ge_by false h = omega arith

  -- all digits are taken
  pub front_is_plain : (v : ℕ) (cs : List ℕ) → is_plain base (digits_front base v cs).1 ≡ true
  front_is_plain v [] = refl
  front_is_plain v (c ∷ cs) = plain_by (nat_lt (digit_in c) base) refl (front_is_plain (v * base + digit_in c) cs)
    where
      plain_by : (t : Bool) → nat_lt (digit_in c) base ≡ t
          → is_plain base (digits_front base (v * base + digit_in c) cs).1 ≡ true
          → is_plain base (cond t (digits_front base (v * base + digit_in c) cs) (v, c ∷ cs)).1 ≡ true
      plain_by true e h = h
      plain_by false e h = ap not e
