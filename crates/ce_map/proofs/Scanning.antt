-- The loop over the digits of a number.
use Rattle.std.proofs.Common.{◌≡◌, ◌<◌, ◌≤◌, ◌+◌, ◌*◌, ◌^◌, ◌==◌, ◌≢◌, ℕ, Bool, true, false, cond, List, [], ◌∷◌}
use Rattle.std.proofs.Common.{length, get_or, drop, Option, Some, None, refl, sym, ap, ◌∙◌, arith, add-one, drop-cons}
use Rattle.std.proofs.Common.{length-drop}
use Rattle.std.specs.Prelude.{nat_lt, MatchOption, map}
use Rattle.std.specs.List.{range_with_len}
use Rattle.std.proofs.lemmas.List.FromFn.{get_or-map-range_with_len}
use Rattle.std.proofs.lemmas.Bool.Decides.{nat_tests}
use Rattle.std.proofs.lemmas.Grind.{pow_more}
use Rattle.ce_map.specs.DigitsInside.{digit_in, digits_front, in_range, is_plain, number_front}
use Rattle.std.proofs.Math.Nat.{mul-le-mul_left, pow-le-pow_right}
use Rattle.ce_map.proofs.DigitValues.{front_ge, front_plain, not_zero}

pub within_range : (v : ℕ) (rest : List ℕ) → v < 2 ^ 62 → in_range (v, rest) ≡ Some (v, rest)
within_range v rest small =
    let test : nat_lt v (2 ^ 62) ≡ true = grind (arith, nat_tests) in
    ap (λ t. cond t (Some (v, rest)) None) test

-- the digit 0 is one byte alone
zero_by : (t : Bool) (c : ℕ) → (c == 48) ≡ t → digit_in c ≡ 0 → c ≡ 48
zero_by true c e h = grind (arith, nat_tests)
zero_by false c e h = absurd (omega (arith, not_zero c e, h))

pub zero_byte : (c : ℕ) → digit_in c ≡ 0 → c ≡ 48
zero_byte c h = zero_by (c == 48) c refl h

pub other_byte : (c : ℕ) → digit_in c ≢ 0 → c ≢ 48
other_byte c h same = h (ap digit_in same)

-- a few digits make a small number
pub few_more : (v d radix i : ℕ) → v < 16 ^ (i + 1) → radix ≤ 16 → d < radix → v * radix + d < 16 ^ ((i + 1) + 1)
few_more v d radix i small high h = omega (arith, mul-le-mul_left v high, pow_more 16 (i + 1))

pub few_small : (v i : ℕ) → i < 4 → v < 16 ^ (i + 1) → v < 2 ^ 16
few_small v i few small =
    let some : 0 < 16 = omega arith in
    let most : i + 1 ≤ 4 = omega arith in
    omega (arith, pow-le-pow_right some most)

pub few_fit : (v radix i : ℕ) → i < 4 → v < 16 ^ (i + 1) → radix ≤ 16 → v * radix ≤ 2 ^ 20
few_fit v radix i few small high = omega (arith, few_small v i few small, mul-le-mul_left v high)

module _ (radix v : ℕ) (text : List ℕ) (i : ℕ) (within : i < length text) where
  here : drop i text ≡ get_or text i 0 ∷ drop (i + 1) text
  here = drop-cons text i 0 within ∙ ap (λ j. get_or text i 0 ∷ drop j text) (sym (add-one i))

  -- a digit more
  pub scan_more : digit_in (get_or text i 0) < radix
      → digits_front radix v (drop i text) ≡ digits_front radix (v * radix + digit_in (get_or text i 0))
      (drop (i + 1) text)
  scan_more h =
      let test : nat_lt (digit_in (get_or text i 0)) radix ≡ true = grind (arith, nat_tests) in
      ap (digits_front radix v) here
      ∙ ap (λ t. cond t (digits_front radix (v * radix + digit_in (get_or text i 0)) (drop (i + 1) text))
      (v, get_or text i 0 ∷ drop (i + 1) text)) test

  -- the end of the digits
  pub scan_end : radix ≤ digit_in (get_or text i 0) → digits_front radix v (drop i text) ≡ (v, drop i text)
  scan_end h =
      let test : nat_lt (digit_in (get_or text i 0)) radix ≡ false = grind (arith, nat_tests) in
      ap (digits_front radix v) here
      ∙ ap (λ t. cond t (digits_front radix (v * radix + digit_in (get_or text i 0)) (drop (i + 1) text))
      (v, get_or text i 0 ∷ drop (i + 1) text)) test ∙ ap (λ l. (v, l)) (sym here)

  -- too great a number
  pub scan_over : 10 ≤ radix → radix ≤ 16 → digit_in (get_or text i 0) < radix → 2 ^ 60 ≤ v
      → in_range (digits_front radix v (drop i text)) ≡ None
  scan_over low high h great =
      let more = front_ge radix low high (v * radix + digit_in (get_or text i 0)) (drop (i + 1) text) in
      let product : v * 10 ≤ v * radix = mul-le-mul_left v low in
      let test : nat_lt (digits_front radix (v * radix + digit_in (get_or text i 0)) (drop (i + 1) text)).0
      (2 ^ 62) ≡ false = grind (arith, nat_tests) in
      ap in_range (scan_more h)
      ∙ ap (λ t. cond t (Some (digits_front radix (v * radix + digit_in (get_or text i 0)) (drop (i + 1) text)))
      None) test

module _ (radix c : ℕ) (cs : List ℕ) where
  -- what is read of a first byte and what follows it
  head_front : Option (ℕ × List ℕ)
  head_front =
      cond (nat_lt (digit_in c) radix) (cond (c == 48) (cond (is_plain radix cs) (Some (0, cs)) None)
      (in_range (digits_front radix (digit_in c) cs))) None

  head_is : (text : List ℕ) → 0 < length text → c ≡ get_or text 0 0 → cs ≡ drop 1 text
      → number_front radix text ≡ head_front
  unfolding number_front head_front
  head_is [] some first rest = absurd (omega arith)
  head_is (x ∷ xs) some first rest =
      ap (λ (p : ℕ × List ℕ). number_front radix (p.0 ∷ p.1)) {x = (x, xs)} {y = (c, cs)}
      (same x xs (sym first) (sym rest))
    where
      same : (x : ℕ) (xs : List ℕ) → x ≡ c → xs ≡ cs → let p : ℕ × List ℕ = (x, xs) in let q : ℕ × List ℕ =
          (c, cs) in p ≡ q
      same x xs e f = cc

  module _ (text : List ℕ) (some : 0 < length text) (first : c ≡ get_or text 0 0) (rest : cs ≡ drop 1 text) where
    pub head_no_digit : radix ≤ digit_in c → number_front radix text ≡ None
    unfolding head_front
    head_no_digit h =
        let test : nat_lt (digit_in c) radix ≡ false = grind (arith, nat_tests) in
        head_is text some first rest
        ∙ ap (λ t. cond t (cond (c == 48) (cond (is_plain radix cs) (Some (0, cs)) None)
        (in_range (digits_front radix (digit_in c) cs))) None) test

    digit_is : digit_in c < radix
        → number_front radix text ≡ cond (c == 48) (cond (is_plain radix cs) (Some (0, cs)) None)
        (in_range (digits_front radix (digit_in c) cs))
    unfolding head_front
    digit_is h =
        let test : nat_lt (digit_in c) radix ≡ true = grind (arith, nat_tests) in
        head_is text some first rest
        ∙ ap (λ t. cond t (cond (c == 48) (cond (is_plain radix cs) (Some (0, cs)) None)
        (in_range (digits_front radix (digit_in c) cs))) None) test

    pub head_positive : digit_in c < radix → c ≢ 48
        → number_front radix text ≡ in_range (digits_front radix (digit_in c) cs)
    head_positive h other =
        let test : (c == 48) ≡ false = grind (arith, nat_tests) in
        digit_is h
        ∙ ap (λ t. cond t (cond (is_plain radix cs) (Some (0, cs)) None)
        (in_range (digits_front radix (digit_in c) cs))) test

    pub head_zero : (t : Bool) → digit_in c < radix → c ≡ 48 → is_plain radix cs ≡ t
        → number_front radix text ≡ cond t (Some (0, cs)) None
    head_zero t h none plain =
        let test : (c == 48) ≡ true = grind (arith, nat_tests) in
        digit_is h
        ∙ ap (λ t. cond t (cond (is_plain radix cs) (Some (0, cs)) None)
        (in_range (digits_front radix (digit_in c) cs))) test ∙ ap (λ t. cond t (Some (0, cs)) None) plain

    pub one_digit : 10 ≤ radix → radix ≤ 16 → digit_in c < radix → is_plain radix cs ≡ true
        → number_front radix text ≡ Some (digit_in c, cs)
    one_digit low high h plain = one_by (c == 48) refl
      where
        one_by : (t : Bool) → (c == 48) ≡ t → number_front radix text ≡ Some (digit_in c, cs)
        one_by true e =
            let same : c ≡ 48 = grind (arith, nat_tests) in
            head_zero true h same plain ∙ ap (λ d. Some (d, cs)) (sym (ap digit_in same))
        one_by false e =
            head_positive h (other_byte c (λ z. omega (arith, z, not_zero c e)))
            ∙ ap in_range (front_plain radix low high (digit_in c) cs plain)
            ∙ within_range (digit_in c) cs (omega arith)

pub empty_front : (radix : ℕ) (text : List ℕ) → length text ≡ 0 → number_front radix text ≡ None
unfolding number_front
empty_front radix [] h = refl
empty_front radix (x ∷ xs) h = absurd (omega arith)

-- what is found of one thing is what is found of an equal one
pub found_along : {X Y : Type 0} (seen : X → Y) (found : Option X) (a b : Option Y) → b ≡ a
    → MatchOption found (a ≡ None) (λ x. a ≡ Some (seen x)) → MatchOption found (b ≡ None) (λ x. b ≡ Some (seen x))
found_along seen None a b e h = e ∙ h
found_along seen (Some x) a b e h = e ∙ h

none_left : (radix v : ℕ) (text : List ℕ) → length text ≡ 0 → digits_front radix v text ≡ (v, text)
none_left radix v [] h = refl
none_left radix v (x ∷ xs) h = absurd (omega arith)

pub scan_all : (radix v : ℕ) (text : List ℕ) (i : ℕ) → length text ≤ i → i ≤ length text
    → digits_front radix v (drop i text) ≡ (v, drop (length text) text)
scan_all radix v text i low high =
    let same : i ≡ length text = omega arith in
    none_left radix v (drop i text) (omega (arith, length-drop i text)) ∙ ap (λ j. (v, drop j text)) same

-- the digits of all bytes, looked up
pub looked_up : (byte : ℕ) → byte < 256 → get_or (map digit_in (range_with_len 0 256)) byte 0 ≡ digit_in byte
looked_up byte small = get_or-map-range_with_len digit_in 0 256 byte byte 0 small (omega arith)

digit_at_most : (byte : ℕ) → digit_in byte ≤ 16
digit_at_most byte = grind (arith, nat_tests)

pub digit_small : (byte d : ℕ) → d ≡ digit_in byte → d ≤ 16
digit_small byte d h = omega (arith, digit_at_most byte)
