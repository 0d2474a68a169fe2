-- Fields that need no quotes, and the record that they make.
use Rattle.std.proofs.Common.{◌≡◌, ◌≤◌, ◌<◌, ◌==◌, ◌^◌, ◌∙◌, inl, inr, ℕ, zero, suc, List, [], ◌∷◌, ◌++◌}
use Rattle.std.proofs.Common.{Bool, true, false, length, get_or, refl, ap, arith}
use Rattle.std.specs.Prelude.{All, decimal, codes, nat_lt, ◌&&◌}
use Rattle.std.specs.List.{join_with_byte}
use Rattle.std.proofs.lemmas.Bool.Decides.{nat_tests}
use Rattle.std.proofs.lemmas.Fmt.{decimal_is_IsNumeral}
use Rattle.std.proofs.lemmas.List.{append-nil}
use Rattle.std.proofs.lemmas.List.Folds.{list_any_none}
use Rattle.std.proofs.lemmas.Str.Parse.{digit_from_value}
use Rattle.std.specs.Str.Parse.{AllDigits}
use Rattle.csv.specs.Quoting.{needs_byte}
use Rattle.csv.specs.Writing.{default_writer, field_text, fields_text, is_blank, needs_quotes, row_text}
use Rattle.ce_angle.specs.Fraction.{Fraction, IsAngle}
use Rattle.ce_angle.specs.Spelled.{fraction_text}
use Rattle.ce_atlas.specs.Table.{after_spaces, line_of, names, spaced}
use Rattle.ce_atlas.specs.WritingInside.{IsPlain, IsPlainByte}

no_quote : (b : ℕ) → IsPlainByte b → needs_byte default_writer b ≡ false
no_quote b (inl h) =
    let e1 : (b == 44) ≡ false = grind (arith, nat_tests) in
    let e2 : (b == 34) ≡ false = grind (arith, nat_tests) in
    let e3 : (b == 13) ≡ false = grind (arith, nat_tests) in
    let e4 : (b == 10) ≡ false = grind (arith, nat_tests) in
    rw (e1, e2, e3, e4) refl
no_quote b (inr (inl h)) = rw h refl
no_quote b (inr (inr (inl h))) = rw h refl
no_quote b (inr (inr (inr h))) =
    let e1 : (b == 44) ≡ false = grind (arith, nat_tests) in
    let e2 : (b == 34) ≡ false = grind (arith, nat_tests) in
    let e3 : (b == 13) ≡ false = grind (arith, nat_tests) in
    let e4 : (b == 10) ≡ false = grind (arith, nat_tests) in
    rw (e1, e2, e3, e4) refl

pub plain_field : (f : List ℕ) → IsPlain f → field_text default_writer f ≡ f
plain_field f h =
    let none = list_any_none (needs_byte default_writer) f (λ k d less. no_quote (get_or f k d) (h k d less)) in
    let quotes : needs_quotes default_writer f ≡ false = none in
    rw quotes refl

pub no_bytes : IsPlain []
no_bytes = λ k d lt. absurd (omega arith)

pub one_more : (x : ℕ) (xs : List ℕ) → IsPlainByte x → IsPlain xs → IsPlain (x ∷ xs)
one_more x xs here rest zero d lt = here
one_more x xs here rest (suc k) d lt = rest k d (omega arith)

pub both_plain : (xs ys : List ℕ) → IsPlain xs → IsPlain ys → IsPlain (xs ++ ys)
both_plain [] ys first second = second
both_plain (x ∷ xs) ys first second =
    let rest = both_plain xs ys (λ k d less. first (suc k) d (omega arith)) second in
    one_more x (xs ++ ys) (first 0 x (omega arith)) rest

digits_plain : (ds : List ℕ) → AllDigits 10 ds → IsPlain ds
digits_plain [] h = no_bytes
digits_plain (d ∷ ds) h = one_more d ds (inl (digit_from_value d h.0)) (digits_plain ds h.1)

pub decimal_plain : (n : ℕ) → n < 2 ^ 64 → IsPlain (decimal n)
decimal_plain n h = digits_plain (decimal n) (decimal_is_IsNumeral n h).0.1

-- what stands after the first field
after_first : (f : List ℕ) (fields : List (List ℕ)) → All IsPlain fields
    → f ++ fields_text default_writer fields ≡ join_with_byte 44 (f ∷ fields)
unfolding fields_text
after_first f [] h = append-nil f
after_first f (g ∷ fields) h =
    let here = plain_field g (h 0 g (omega arith)) in
    let rest = after_first g fields (λ k d less. h (suc k) d (omega arith)) in
    rw (here, rest) refl

-- a record of two plain fields or more
pub plain_record : (fields : List (List ℕ)) → All IsPlain fields → 2 ≤ length fields
    → row_text default_writer fields ≡ line_of fields
unfolding is_blank fields_text
plain_record [] h some = absurd (omega arith)
plain_record (f ∷ []) h some = absurd (omega arith)
plain_record (f ∷ g ∷ fields) h some =
    let here = plain_field f (h 0 f (omega arith)) in
    let rest = after_first f (g ∷ fields) (λ k d less. h (suc k) d (omega arith)) in
    ap (λ t. t ++ 10 ∷ []) (ap (λ t. t ++ fields_text default_writer (g ∷ fields)) here ∙ rest)

pub no_fields : All IsPlain []
no_fields = λ k d lt. absurd (omega arith)

pub more_fields : (f : List ℕ) (fields : List (List ℕ)) → IsPlain f → All IsPlain fields → All IsPlain (f ∷ fields)
more_fields f fields here rest zero d lt = here
more_fields f fields here rest (suc k) d lt = rest k d (omega arith)

pub angle_plain : (f : Fraction) → IsAngle f → IsPlain (fraction_text f)
angle_plain f h =
    let below = h.below_one in
    let small = h.small in
    let slash = one_more 47 [] (inr (inl refl)) no_bytes in
    let first = both_plain (decimal f.num) (codes "/") (decimal_plain f.num (omega arith)) slash in
    both_plain (decimal f.num ++ codes "/") (decimal f.den) first (decimal_plain f.den (omega arith))

pub after_spaces_plain : (ns : List ℕ) → All (λ n. n < 2 ^ 64) ns → IsPlain (after_spaces ns)
after_spaces_plain [] h = no_bytes
after_spaces_plain (n ∷ ns) h =
    let first = one_more 32 (decimal n) (inr (inr (inl refl))) (decimal_plain n (h 0 n (omega arith))) in
    let rest = after_spaces_plain ns (λ k d lt. h (suc k) d (omega arith)) in
    both_plain (32 ∷ decimal n) (after_spaces ns) first rest

pub spaced_plain : (ns : List ℕ) → All (λ n. n < 2 ^ 64) ns → IsPlain (spaced ns)
spaced_plain [] h = no_bytes
spaced_plain (n ∷ ns) h =
    let first = decimal_plain n (h 0 n (omega arith)) in
    both_plain (decimal n) (after_spaces ns) first (after_spaces_plain ns (λ k d lt. h (suc k) d (omega arith)))

abbrev is_letter : ℕ → Bool
is_letter b = nat_lt 96 b && nat_lt b 123

abbrev are_letters : List ℕ → Bool
are_letters [] = true
are_letters (b ∷ bs) = is_letter b && are_letters bs

word_plain : (bs : List ℕ) → are_letters bs ≡ true → IsPlain bs
word_plain [] h = no_bytes
word_plain (b ∷ bs) h =
    let low : 97 ≤ b = grind (arith, nat_tests, h) in
    let high : b ≤ 122 = grind (arith, nat_tests, h) in
    let rest : are_letters bs ≡ true = grind (arith, nat_tests, h) in
    one_more b bs (inr (inr (inr (low, high)))) (word_plain bs rest)

abbrev are_words : List (List ℕ) → Bool
are_words [] = true
are_words (w ∷ ws) = are_letters w && are_words ws

words_plain : (ws : List (List ℕ)) → are_words ws ≡ true → All IsPlain ws
words_plain [] h = no_fields
words_plain (w ∷ ws) h =
    let first : are_letters w ≡ true = grind (arith, nat_tests, h) in
    let rest : are_words ws ≡ true = grind (arith, nat_tests, h) in
    more_fields w ws (word_plain w first) (words_plain ws rest)

pub names_plain : All IsPlain names
names_plain = words_plain names refl
