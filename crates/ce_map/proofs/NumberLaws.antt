-- A number has one spelling in a base, and it is read back.
use Rattle.std.proofs.Common.{◌≡◌, ◌≢◌, ◌<◌, ◌≤◌, ◌+◌, ◌-◌, ◌*◌, ◌/◌, ◌%◌, ◌^◌, ◌==◌, ℕ, zero, suc, Bool, true, false}
use Rattle.std.proofs.Common.{cond, eqb, List, [], ◌∷◌, ◌++◌, Some, None, refl, sym, ap, ◌∙◌, subst, arith}
use Rattle.std.proofs.Common.{append_assoc}
use Rattle.std.specs.Prelude.{nat_lt}
use Rattle.std.specs.Fmt.{digits, digits_onto, digit_glyph}
use Rattle.std.proofs.lemmas.Bool.Decides.{nat_tests}
use Rattle.std.proofs.lemmas.Nat.{div-mul-add}
use Rattle.std.proofs.lemmas.Option.{cond_some, some_pair_parts}
use Rattle.std.proofs.Math.Nat.{pow-suc, pow-zero, pow-le-pow_left, mul-le-mul_left, mod-lt, div-lt_iff_lt-mul}
use Rattle.std.proofs.Math.Nat.{div-add-mod'}
use Rattle.ce_map.specs.DigitsInside.{digit_in, digits_front, is_plain, in_range, number_front}
use Rattle.ce_map.proofs.DigitValues.{cond_true, cond_false, above_zero, not_zero, digit_in-glyph, glyph-digit_in}
use Rattle.ce_map.proofs.DigitValues.{front_more, front_plain, front_ge, front_is_plain}

module _ (base : ℕ) (low : 10 ≤ base) (high : base ≤ 16) where
  -- the digits of a number before what follows them
  onto_last : (k n : ℕ) (acc : List ℕ) → n / base ≡ 0
      → digits_onto (suc k) base false n acc ≡ digit_glyph false (n % base) ∷ acc
  onto_last k n acc h = cond_true (eqb (n / base) 0) _ _ (grind (arith, nat_tests))

  onto_more : (k n : ℕ) (acc : List ℕ) → n / base ≢ 0
      → digits_onto (suc k) base false n acc ≡ digits_onto k base false (n / base) (digit_glyph false (n % base) ∷ acc)
  onto_more k n acc h = cond_false (eqb (n / base) 0) _ _ (grind (arith, nat_tests))

  digit_below : (n : ℕ) → n % base < base
  digit_below n = mod-lt n (omega arith)

  glyph_in : (n : ℕ) → digit_in (digit_glyph false (n % base)) ≡ n % base
  glyph_in n = let h = digit_below n in digit_in-glyph (n % base) (omega arith)

  front_glyph : (m n : ℕ) (acc : List ℕ)
      → digits_front base m (digit_glyph false (n % base) ∷ acc) ≡ digits_front base (m * base + n % base) acc
  front_glyph m n acc =
      front_more base low high m (digit_glyph false (n % base)) acc (omega (arith, digit_below n, glyph_in n))
      ∙ ap (λ d. digits_front base (m * base + d) acc) (glyph_in n)

  quotient_below : (k n : ℕ) → n < base ^ suc k → n / base < base ^ k
  quotient_below k n h = let some : 0 < base = omega arith in (div-lt_iff_lt-mul some).1 (omega (arith, pow-suc base k))

  one_digit : (k n : ℕ) (acc : List ℕ) → n / base ≡ 0
      → digits_front base 0 (digits_onto (suc k) base false n acc) ≡ digits_front base n acc
  one_digit k n acc none =
      let w = div-add-mod' n base in
      ap (digits_front base 0) (onto_last k n acc none) ∙ front_glyph 0 n acc
      ∙ ap (λ m. digits_front base m acc) {x = 0 * base + n % base} {y = n} (omega (arith, rw none at w))

  more_digits : (k n : ℕ) (acc : List ℕ) (t : Bool) → eqb (n / base) 0 ≡ t
      → (n / base ≢ 0
      → digits_front base 0 (digits_onto k base false (n / base) (digit_glyph false (n % base) ∷ acc))
      ≡ digits_front base (n / base) (digit_glyph false (n % base) ∷ acc))
      → digits_front base 0 (digits_onto (suc k) base false n acc) ≡ digits_front base n acc
  more_digits k n acc true e h = one_digit k n acc (grind (arith, nat_tests))
  more_digits k n acc false e h =
      let some : n / base ≢ 0 = grind (arith, nat_tests) in
      ap (digits_front base 0) (onto_more k n acc some) ∙ h some ∙ front_glyph (n / base) n acc
      ∙ ap (λ m. digits_front base m acc) (div-add-mod' n base)

  -- what is read of the digits of a number
  pub front_onto : (k n : ℕ) (acc : List ℕ) → n < base ^ suc k
      → digits_front base 0 (digits_onto (suc k) base false n acc) ≡ digits_front base n acc
  front_onto zero n acc h =
      let small = quotient_below 0 n h in
      one_digit zero n acc (omega (arith, small, pow-zero base))
  front_onto (suc k) n acc h =
      more_digits (suc k) n acc (eqb (n / base) 0) refl
      (λ _. front_onto k (n / base) (digit_glyph false (n % base) ∷ acc) (quotient_below (suc k) n h))

  -- a digit other than 0 stands at the front
  abbrev BeginsAbove : List ℕ → Type 0
  BeginsAbove [] = ⊥
  BeginsAbove (c ∷ cs) = (0 < digit_in c) × (digit_in c < base)

  one_begins : (k n : ℕ) (acc : List ℕ) → 0 < n → n / base ≡ 0 → BeginsAbove (digits_onto (suc k) base false n acc)
  one_begins k n acc some none =
      let w = div-add-mod' n base in
      let g = glyph_in n in
      let h = digit_below n in
      subst BeginsAbove (sym (onto_last k n acc none)) (omega (arith, rw none at w), omega arith)

  more_begin : (k n : ℕ) (acc : List ℕ) (t : Bool) → 0 < n → eqb (n / base) 0 ≡ t
      → (0 < n / base → BeginsAbove (digits_onto k base false (n / base) (digit_glyph false (n % base) ∷ acc)))
      → BeginsAbove (digits_onto (suc k) base false n acc)
  more_begin k n acc true some e h = one_begins k n acc some (grind (arith, nat_tests))
  more_begin k n acc false some e h =
      let left : n / base ≢ 0 = grind (arith, nat_tests) in
      subst BeginsAbove (sym (onto_more k n acc left)) (h (omega arith))

  begins_onto : (k n : ℕ) (acc : List ℕ) → 0 < n → n < base ^ suc k → BeginsAbove (digits_onto (suc k) base false n acc)
  begins_onto zero n acc some h =
      let small = quotient_below 0 n h in
      one_begins zero n acc some (omega (arith, small, pow-zero base))
  begins_onto (suc k) n acc some h =
      more_begin (suc k) n acc (eqb (n / base) 0) some refl
      (λ left. begins_onto k (n / base) (digit_glyph false (n % base) ∷ acc) left (quotient_below (suc k) n h))

  -- how digits are put before a text
  onto-append : (k n : ℕ) (acc after : List ℕ)
      → digits_onto k base false n (acc ++ after) ≡ digits_onto k base false n acc ++ after
  onto-append zero n acc after = refl
  onto-append (suc k) n acc after =
      onto-append_by (eqb (n / base) 0) (onto-append k (n / base) (digit_glyph false (n % base) ∷ acc) after)
    where
      onto-append_by : (t : Bool)
          → digits_onto k base false (n / base) (digit_glyph false (n % base) ∷ (acc ++ after))
          ≡ digits_onto k base false (n / base) (digit_glyph false (n % base) ∷ acc) ++ after
          → cond t (digit_glyph false (n % base) ∷ (acc ++ after))
          (digits_onto k base false (n / base) (digit_glyph false (n % base) ∷ (acc ++ after))) ≡ cond t
          (digit_glyph false (n % base) ∷ acc)
          (digits_onto k base false (n / base) (digit_glyph false (n % base) ∷ acc)) ++ after
      onto-append_by true h = refl
      onto-append_by false h = h

  -- room for one more digit changes nothing
  onto_room_by : (k n : ℕ) (acc : List ℕ) (t : Bool) → eqb (n / base) 0 ≡ t
      → (n / base ≢ 0 → digits_onto k base false (n / base) (digit_glyph false (n % base) ∷ acc) ≡ digits_onto
      (suc k) base false (n / base) (digit_glyph false (n % base) ∷ acc))
      → digits_onto (suc k) base false n acc ≡ digits_onto (suc (suc k)) base false n acc
  onto_room_by k n acc true e h =
      let none : n / base ≡ 0 = grind (arith, nat_tests) in
      onto_last k n acc none ∙ sym (onto_last (suc k) n acc none)
  onto_room_by k n acc false e h =
      let left : n / base ≢ 0 = grind (arith, nat_tests) in
      onto_more k n acc left ∙ h left ∙ sym (onto_more (suc k) n acc left)

  onto_room : (k n : ℕ) (acc : List ℕ) → n < base ^ suc k
      → digits_onto (suc k) base false n acc ≡ digits_onto (suc (suc k)) base false n acc
  onto_room zero n acc h =
      let small = quotient_below 0 n h in
      onto_room_by zero n acc (eqb (n / base) 0) refl (λ left. absurd (omega (arith, small, pow-zero base)))
  onto_room (suc k) n acc h =
      onto_room_by (suc k) n acc (eqb (n / base) 0) refl
      (λ _. onto_room k (n / base) (digit_glyph false (n % base) ∷ acc) (quotient_below (suc k) n h))

  below_power : (k n : ℕ) → n < 2 ^ k → n < base ^ k
  below_power k n h = omega (arith, pow-le-pow_left {n = 2} {m = base} (omega arith) k)

  -- the number at the front, and what is left
  pub record IsNumberFront (text : List ℕ) (n : ℕ) (after : List ℕ) : Type 0 where
    pub spelled : text ≡ digits base false n ++ after
    pub small : n < 2 ^ 62
    pub plain : is_plain base after ≡ true

  -- the digits of `digits`, by as many turns as it has
  module _ (k : ℕ) (turns : suc k ≡ 64) where
    digits_by : (n : ℕ) → digits base false n ≡ digits_onto (suc k) base false n []
    unfolding digits
    digits_by n = ap (λ j. digits_onto j base false n []) (sym turns)

    spelled_before : (n : ℕ) (after : List ℕ) → digits base false n ++ after ≡ digits_onto (suc k) base false n after
    spelled_before n after = ap (λ l. l ++ after) (digits_by n) ∙ sym (onto-append (suc k) n [] after)

    power : (n : ℕ) → n < 2 ^ 62 → n < base ^ k
    power n h = let same : k ≡ 63 = omega arith in rw same (below_power 63 n (omega arith))

    one_more_power : (n : ℕ) → n < 2 ^ 62 → n < base ^ suc k
    one_more_power n h = below_power (suc k) n (rw turns (omega arith))

    one_spelled : (d : ℕ) → d < base → digits base false d ≡ digit_glyph false d ∷ []
    one_spelled d h =
        let none : d / base ≡ 0 = ap (λ x. x / base) {x = d} {y = 0 * base + d} (omega arith)
        ∙ div-mul-add 0 base d h in
        let same : d % base ≡ d = let w = div-add-mod' d base in omega (arith, rw none at w) in
        digits_by d ∙ onto_last k d [] none ∙ ap (λ x. digit_glyph false x ∷ []) same

    more_spelled_by : (j v d m : ℕ) → k ≡ suc j → 0 < v → d < base → m ≡ v * base + d → m < 2 ^ 62
        → digits base false m ≡ digits base false v ++ digit_glyph false d ∷ []
    more_spelled_by j v d m e some h is small =
        let quotient : m / base ≡ v = ap (λ x. x / base) is ∙ div-mul-add v base d h in
        let w : m / base * base + m % base ≡ m = div-add-mod' m base in
        let rest : m % base ≡ d = let u = rw quotient at w in omega (arith, u) in
        let one : 1 ≤ base = omega arith in
        let less : v < 2 ^ 62 = omega (arith, mul-le-mul_left v one) in
        let left : m / base ≢ 0 = omega arith in
        let turn : digits_onto (suc (suc j)) base false m [] ≡ digits_onto (suc j) base false v
        (digit_glyph false d ∷ []) =
        onto_more (suc j) m [] left
        ∙ ap (λ q. digits_onto (suc j) base false q (digit_glyph false (m % base) ∷ [])) quotient
        ∙ ap (λ r. digits_onto (suc j) base false v (digit_glyph false r ∷ [])) rest in
        let room : digits_onto (suc j) base false v [] ≡ digits_onto (suc (suc j)) base false v [] =
        onto_room j v [] (subst (λ x. v < base ^ x) e (power v less)) in
        let all : (n : ℕ) → digits base false n ≡ digits_onto (suc (suc j)) base false n [] =
        λ n. digits_by n ∙ ap (λ x. digits_onto (suc x) base false n []) e in
        all m ∙ turn ∙ onto-append (suc j) v [] (digit_glyph false d ∷ [])
        ∙ ap (λ l. l ++ digit_glyph false d ∷ []) (room ∙ sym (all v))

    more_spelled : (v d m : ℕ) → 0 < v → d < base → m ≡ v * base + d → m < 2 ^ 62
        → digits base false m ≡ digits base false v ++ digit_glyph false d ∷ []
    more_spelled v d m = more_spelled_by (k - 1) v d m (omega arith)

    read_positive : (text : List ℕ) (n : ℕ) (after : List ℕ) → BeginsAbove text → digits_front base 0 text ≡ (n, after)
        → n < 2 ^ 62 → number_front base text ≡ Some (n, after)
    unfolding number_front
    read_positive [] n after b e small = absurd b
    read_positive (c ∷ cs) n after b e small =
        let first = front_more base low high 0 c cs b.1 in
        let rest : digits_front base (digit_in c) cs ≡ (n, after) =
        ap (λ m. digits_front base m cs) {x = digit_in c} {y = 0 * base + digit_in c} (omega arith) ∙ sym first
        ∙ e in
        let digit : nat_lt (digit_in c) base ≡ true = grind (arith, nat_tests, b.1) in
        let other : (c == 48) ≡ false = above_zero c b.0 in
        cond_true (nat_lt (digit_in c) base) _ _ digit ∙ cond_false (c == 48) _ _ other ∙ ap in_range rest
        ∙ cond_true (nat_lt n (2 ^ 62)) _ _ (grind (arith, nat_tests))

    zero_spelled : digits base false 0 ≡ 48 ∷ []
    zero_spelled = one_spelled 0 (omega arith)

    again_by : (n : ℕ) (after : List ℕ) → n < 2 ^ 62 → is_plain base after ≡ true
        → number_front base (digits base false n ++ after) ≡ Some (n, after)
    unfolding number_front
    again_by zero after small plain =
        ap (λ l. number_front base (l ++ after)) zero_spelled
        ∙ cond_true (nat_lt 0 base) _ _ (grind (arith, nat_tests)) ∙ cond_true (is_plain base after) _ _ plain
    again_by (suc n) after small plain =
        let t = spelled_before (suc n) after in
        let b = begins_onto k (suc n) after (omega arith) (one_more_power (suc n) small) in
        let f = front_onto k (suc n) after (one_more_power (suc n) small)
        ∙ front_plain base low high (suc n) after plain in
        ap (number_front base) t ∙ read_positive _ (suc n) after b f small

    grown_by : (v c m : ℕ) (cs : List ℕ) (t : Bool) → m ≡ v * base + digit_in c → nat_lt (digit_in c) base ≡ t → 0 < v
        → (cond t (digits_front base m cs) (v, c ∷ cs)).0 < 2 ^ 62 → (0 < m → (digits_front base m cs).0 < 2 ^ 62
        → digits base false m ++ cs ≡ digits base false (digits_front base m cs).0 ++ (digits_front base m cs).1)
        → digits base false v ++ c ∷ cs ≡ digits base false (cond t (digits_front base m cs) (v, c ∷ cs)).0 ++
        (cond t (digits_front base m cs) (v, c ∷ cs)).1
    grown_by v c m cs true is e some small more =
        let d : digit_in c < base = grind (arith, nat_tests) in
        let one : 1 ≤ base = omega arith in
        let step = more_spelled v (digit_in c) m some d is (omega (arith, front_ge base low high m cs)) in
        let shown : digit_glyph false (digit_in c) ≡ c = glyph-digit_in c (omega arith) in
        sym (append_assoc (digits base false v) (c ∷ []) cs) ∙ ap (λ x. (digits base false v ++ x ∷ []) ++ cs)
        (sym shown) ∙ ap (λ l. l ++ cs) (sym step) ∙ more (omega (arith, mul-le-mul_left v one)) small
    grown_by v c m cs false is e some small more = refl

    grown : (v : ℕ) (cs : List ℕ) → 0 < v → (digits_front base v cs).0 < 2 ^ 62
        → digits base false v ++ cs ≡ digits base false (digits_front base v cs).0 ++ (digits_front base v cs).1
    grown v [] some small = refl
    grown v (c ∷ cs) some small =
        grown_by v c (v * base + digit_in c) cs (nat_lt (digit_in c) base) refl refl some small
        (λ more h. grown (v * base + digit_in c) cs more h)

    takes_by : (c : ℕ) (cs : List ℕ) (n : ℕ) (after : List ℕ) (t u w : Bool) → nat_lt (digit_in c) base ≡ t
        → (c == 48) ≡ u → is_plain base cs ≡ w
        → cond t (cond u (cond w (Some (0, cs)) None) (in_range (digits_front base (digit_in c) cs))) None ≡ Some
        (n, after) → IsNumberFront (c ∷ cs) n after
    takes_by c cs n after false u w d z p h = absurd (cc)
    takes_by c cs n after true true false d z p h = absurd (cc)
    takes_by c cs n after true true true d z p h =
        let parts = some_pair_parts 0 n cs after h in
        let first = parts.0 in
        let rest = parts.1 in
        let digit : c ≡ 48 = grind (arith, nat_tests) in
        record {
          spelled =
              rw digit (ap (λ l. l ++ cs) (sym zero_spelled) ∙ ap (λ x. digits base false x ++ cs) first
              ∙ ap (λ l. digits base false n ++ l) rest);
          small = omega arith;
          plain = rw (← rest) p;
        }
    takes_by c cs n after true false w d z p h =
        let parts =
        cond_some (nat_lt (digits_front base (digit_in c) cs).0 (2 ^ 62)) (digits_front base (digit_in c) cs)
        (n, after) h in
        let below : (digits_front base (digit_in c) cs).0 < 2 ^ 62 = grind (arith, nat_tests, parts.0) in
        let digit : digit_in c < base = grind (arith, nat_tests) in
        let some : 0 < digit_in c = not_zero c z in
        let one = one_spelled (digit_in c) digit in
        let shown : digit_glyph false (digit_in c) ≡ c = glyph-digit_in c (omega arith) in
        let all = ap (λ x. x ∷ cs) (sym shown) ∙ ap (λ l. l ++ cs) (sym one) ∙ grown (digit_in c) cs some below in
        let first = ap (λ r. r.0) parts.1 in
        let rest = ap (λ r. r.1) parts.1 in
        record {
          spelled = all ∙ ap (λ x. digits base false x ++ (digits_front base (digit_in c) cs).1) first
              ∙ ap (λ l. digits base false n ++ l) rest;
          small = omega (arith, below, first);
          plain = rw (← rest) (front_is_plain base low high (digit_in c) cs);
        }

    takes_number : (text : List ℕ) (n : ℕ) (after : List ℕ) → number_front base text ≡ Some (n, after)
        → IsNumberFront text n after
    unfolding number_front
    takes_number [] n after h = absurd (cc)
    takes_number (c ∷ cs) n after h =
        takes_by c cs n after (nat_lt (digit_in c) base) (c == 48) (is_plain base cs) refl refl refl h

  pub number_taken : (text : List ℕ) (n : ℕ) (after : List ℕ) → number_front base text ≡ Some (n, after)
      → IsNumberFront text n after
  number_taken = takes_number 63 refl

  pub number_again : (n : ℕ) (after : List ℕ) → n < 2 ^ 62 → is_plain base after ≡ true
      → number_front base (digits base false n ++ after) ≡ Some (n, after)
  number_again = again_by 63 refl

  -- the digits of a number by its last one
  pub digits_more : (v d m : ℕ) → 0 < v → d < base → m ≡ v * base + d → m < 2 ^ 62
      → digits base false m ≡ digits base false v ++ digit_glyph false d ∷ []
  digits_more = more_spelled 63 refl

  pub digits_one : (d : ℕ) → d < base → digits base false d ≡ digit_glyph false d ∷ []
  digits_one = one_spelled 63 refl
