-- What a key tells of its orbit, and how the kneading sequence goes on.
use Rattle.std.proofs.Common.{◌≡◌, ◌<◌, ◌≤◌, ◌+◌, ◌-◌, ◌↔◌, ◌∙◌, inl, inr, ℕ, zero, suc, List, ◌++◌, length, get_or}
use Rattle.std.proofs.Common.{take, sym, ap, subst, arith}
use Rattle.std.specs.Prelude.{replicate}
use Rattle.std.proofs.lemmas.Bool.{cases_lt}
use Rattle.std.proofs.lemmas.List.{length-map, get_or-map}
use Rattle.std.proofs.Math.Seq.{take-append_seam}
use Rattle.ce_orbit.specs.Orbit.{ForwardOrbit, IsForwardOrbit, numerator_at, doubled, period_of}
use Rattle.ce_orbit.specs.Symbols.{symbol_of}
use Rattle.ce_orbit.specs.Kneading.{Kneading, symbol_at, symbols_of, kneading_of, kneading_in, IsKeyOf}
use Rattle.ce_orbit.specs.declared.symbol.Symbol.{Symbol}
use Rattle.ce_orbit.specs.declared.symbol.Symbol.TheVariants.{Zero}
use Rattle.ce_orbit.specs.declared.key.KneadKey.{KneadKey}

same_kneading : (a b c d : ℕ) (xs ys : List Symbol) → a ≡ b → c ≡ d → xs ≡ ys
    → Path Kneading (record { preperiod = a; period = c; symbols = xs })
    (record { preperiod = b; period = d; symbols = ys })
same_kneading a b c d xs ys first second third =
    let with_first : ℕ → Kneading = λ n. record { preperiod = n; period = c; symbols = xs } in
    let with_second : ℕ → Kneading = λ n. record { preperiod = b; period = n; symbols = xs } in
    let with_third : List Symbol → Kneading = λ zs. record { preperiod = b; period = d; symbols = zs } in
    ap with_first first ∙ ap with_second second ∙ ap with_third third

pub same_key : (a b c d : ℕ) (xs ys : List Symbol) → a ≡ b → c ≡ d → xs ≡ ys
    → Path KneadKey (record { preperiod = a; period = c; symbols = xs })
    (record { preperiod = b; period = d; symbols = ys })
same_key a b c d xs ys first second third =
    let with_first : ℕ → KneadKey = λ n. record { preperiod = n; period = c; symbols = xs } in
    let with_second : ℕ → KneadKey = λ n. record { preperiod = b; period = n; symbols = xs } in
    let with_third : List Symbol → KneadKey = λ zs. record { preperiod = b; period = d; symbols = zs } in
    ap with_first first ∙ ap with_second second ∙ ap with_third third

-- preperiod and period are all places
pub whole_orbit : (o : ForwardOrbit) → IsForwardOrbit o → o.preperiod + period_of o ≡ length o.places
whole_orbit o h = let back = h.orbit.comes_back in omega arith

pub length-symbols : (o : ForwardOrbit) → length (symbols_of o) ≡ length o.places
length-symbols o = length-map o.places (symbol_of o.angle)

-- A key of an orbit holds its kneading sequence.
pub kneading_in-key : (o : ForwardOrbit) (key : KneadKey) → IsForwardOrbit o → IsKeyOf o key
    → kneading_in key ≡ kneading_of o
kneading_in-key o key h k =
    let rest = replicate (128 - length o.places) Zero in
    let count : key.preperiod + key.period ≡ length (symbols_of o) =
    let whole = whole_orbit o h in let long = length-symbols o in omega (arith, k.preperiod, k.period) in
    let cut = ap (λ xs. take (key.preperiod + key.period) xs) k.symbols
    ∙ ap (λ n. take n (symbols_of o ++ rest)) count ∙ take-append_seam (symbols_of o) rest in
    same_kneading _ _ _ _ _ _ k.preperiod k.period cut

module _ (o r : ForwardOrbit) (k l : KneadKey) (of_o : IsForwardOrbit o) (of_r : IsForwardOrbit r)
    (left : IsKeyOf o k) (right : IsKeyOf r l) where
  from_keys : k ≡ l → kneading_of o ≡ kneading_of r
  from_keys same =
      sym (kneading_in-key o k of_o left) ∙ ap (λ (key : KneadKey). kneading_in key) same
      ∙ kneading_in-key r l of_r right

  to_keys : kneading_of o ≡ kneading_of r → k ≡ l
  to_keys same =
      let symbols = ap (λ (s : Kneading). s.symbols) same in
      let count : length o.places ≡ length r.places =
      sym (length-symbols o) ∙ ap (λ xs. length xs) symbols ∙ length-symbols r in
      let all = left.symbols ∙ ap (λ xs. xs ++ replicate (128 - length o.places) Zero) symbols
      ∙ ap (λ n. symbols_of r ++ replicate (128 - n) Zero) count ∙ sym right.symbols in
      same_key _ _ _ _ _ _ (left.preperiod ∙ ap (λ (s : Kneading). s.preperiod) same ∙ sym right.preperiod)
      (left.period ∙ ap (λ (s : Kneading). s.period) same ∙ sym right.period) all

  -- Keys are equal exactly where the kneading sequences are.
  pub keys_same : (k ≡ l) ↔ (kneading_of o ≡ kneading_of r)
  keys_same = (from_keys, to_keys)

-- The symbols of the places are the first of the kneading sequence.
pub first_symbols : (o : ForwardOrbit) (k : ℕ) → IsForwardOrbit o → k < length o.places
    → get_or (symbols_of o) k Zero ≡ symbol_at o.angle k
first_symbols o k h within =
    get_or-map (symbol_of o.angle) o.places k 0 Zero within ∙ ap (symbol_of o.angle) (h.orbit.numerators k within)

-- From the preperiod on, the numerators go round.
goes_round : (o : ForwardOrbit) (k : ℕ) → IsForwardOrbit o
    → numerator_at o.angle (o.preperiod + k + period_of o) ≡ numerator_at o.angle (o.preperiod + k)
goes_round o zero h =
    let whole = whole_orbit o h in
    let all : o.preperiod + zero + period_of o ≡ length o.places = omega arith in
    let first : o.preperiod ≡ o.preperiod + zero = omega arith in
    ap (λ n. numerator_at o.angle n) all ∙ h.orbit.repeats ∙ ap (λ n. numerator_at o.angle n) first
goes_round o (suc k) h =
    let more : o.preperiod + suc k + period_of o ≡ suc (o.preperiod + k + period_of o) = omega arith in
    let here : suc (o.preperiod + k) ≡ o.preperiod + suc k = omega arith in
    ap (λ n. numerator_at o.angle n) more ∙ ap (λ x. doubled o.angle x) (goes_round o k h)
    ∙ ap (λ n. numerator_at o.angle n) here

pub symbols_go_round : (o : ForwardOrbit) (k : ℕ) → IsForwardOrbit o → o.preperiod ≤ k
    → symbol_at o.angle (k + period_of o) ≡ symbol_at o.angle k
symbols_go_round o k h late =
    let split : o.preperiod + (k - o.preperiod) ≡ k = omega arith in
    subst (λ n. symbol_at o.angle (n + period_of o) ≡ symbol_at o.angle n) split
    (ap (symbol_of o.angle) (goes_round o (k - o.preperiod) h))

-- Two orbits with the same symbols, preperiod and period have one kneading sequence for ever.
module _ (o r : ForwardOrbit) (left : IsForwardOrbit o) (right : IsForwardOrbit r)
    (same : kneading_of o ≡ kneading_of r) where
  one_length : length o.places ≡ length r.places
  one_length = sym (length-symbols o) ∙ ap (λ (s : Kneading). length s.symbols) same ∙ length-symbols r

  one_period : period_of o ≡ period_of r
  one_period = ap (λ (s : Kneading). s.period) same

  one_preperiod : o.preperiod ≡ r.preperiod
  one_preperiod = ap (λ (s : Kneading). s.preperiod) same

  first_same : (k : ℕ) → k < length o.places → symbol_at o.angle k ≡ symbol_at r.angle k
  first_same k within =
      sym (first_symbols o k left within) ∙ ap (λ (s : Kneading). get_or s.symbols k Zero) same
      ∙ first_symbols r k right (let long = one_length in omega arith)

  later_same : (k : ℕ) → length o.places ≤ k
      → symbol_at o.angle (k - period_of o) ≡ symbol_at r.angle (k - period_of o)
      → symbol_at o.angle k ≡ symbol_at r.angle k
  later_same k late before =
      let whole = whole_orbit o left in
      let first = one_preperiod in
      let here : k - period_of o + period_of o ≡ k = omega arith in
      let there : k - period_of o + period_of r ≡ k = ap (λ n. k - period_of o + n) (sym one_period) ∙ here in
      let left_round = symbols_go_round o (k - period_of o) left (omega arith) in
      let right_round = symbols_go_round r (k - period_of o) right (omega arith) in
      sym (ap (λ n. symbol_at o.angle n) here) ∙ left_round ∙ before ∙ sym right_round
      ∙ ap (λ n. symbol_at r.angle n) there

  one_sequence : (n k : ℕ) → k < n → symbol_at o.angle k ≡ symbol_at r.angle k
  one_sequence zero k below = absurd (omega arith)
  one_sequence (suc n) k below = elim (cases_lt k (length o.places)) [
    | inl within ↦ first_same k within
    | inr late ↦ let back = left.orbit.comes_back in
        later_same k late (one_sequence n (k - period_of o) (omega arith))
  ]

  pub same_for_ever : (k : ℕ) → symbol_at o.angle k ≡ symbol_at r.angle k
  same_for_ever k = one_sequence (suc k) k (omega arith)
