-- A list of numbers has one spelling, and it is read back.
use Rattle.std.proofs.Common.{◌≡◌, ◌≢◌, ◌<◌, ◌≤◌, ◌+◌, ◌⊎◌, inl, inr, ℕ, true, false, not, List, [], ◌∷◌, ◌++◌, length}
use Rattle.std.proofs.Common.{drop, Some, None, refl, sym, ap, ◌∙◌, arith, append_assoc, length-append}
use Rattle.std.specs.Prelude.{nat_lt}
use Rattle.std.specs.List.{All}
use Rattle.std.specs.Fmt.{digits}
use Rattle.std.proofs.lemmas.Bool.{false≢true}
use Rattle.std.proofs.lemmas.Bool.Decides.{nat_tests}
use Rattle.std.proofs.lemmas.List.{append-nil}
use Rattle.std.proofs.lemmas.List.Elements.{All-append, All-cons, All-nil, All-head, All-tail}
use Rattle.std.proofs.lemmas.Option.{some_pair_parts, none-some}
use Rattle.ce_map.specs.Digits.{IsNumber, numbers_text}
use Rattle.ce_map.specs.DigitsInside.{is_plain, number_front}
use Rattle.ce_map.specs.Grammar.{IsList}
use Rattle.ce_map.specs.ListsInside.{begins_with, HasRead}
use Rattle.ce_map.proofs.NumberLaws.{number_again, number_taken}

module _ (base : ℕ) (low : 10 ≤ base) (high : base ≤ 16) where
  -- a number has one spelling
  pub record IsSameNumber (m n : ℕ) (p q : List ℕ) : Type 0 where
    pub number : m ≡ n
    pub rest : p ≡ q

  pub one_number : (m n : ℕ) (p q : List ℕ) → IsNumber m → IsNumber n → is_plain base p ≡ true → is_plain base q ≡ true
      → digits base false m ++ p ≡ digits base false n ++ q → IsSameNumber m n p q
  one_number m n p q left right plain other same =
      let read = sym (number_again base low high m p left plain) ∙ ap (number_front base) same
      ∙ number_again base low high n q right other in
      let parts = some_pair_parts m n p q read in
      record { number = parts.0; rest = parts.1 }

  -- a space and a line feed are no digits
  space_plain : (rest : List ℕ) → is_plain base (32 ∷ rest) ≡ true
  space_plain rest = let test : nat_lt 16 base ≡ false = grind (arith, nat_tests) in ap not test

  feed_plain : (rest : List ℕ) → is_plain base (10 ∷ rest) ≡ true
  feed_plain rest = let test : nat_lt 16 base ≡ false = grind (arith, nat_tests) in ap not test

  numbers_plain : (list rest : List ℕ) → is_plain base rest ≡ true
      → is_plain base (numbers_text base list ++ rest) ≡ true
  numbers_plain [] rest h = h
  numbers_plain (x ∷ xs) rest h = space_plain ((digits base false x ++ numbers_text base xs) ++ rest)

  pub numbers_push : (list : List ℕ) (n : ℕ)
      → numbers_text base (list ++ n ∷ []) ≡ numbers_text base list ++ 32 ∷ digits base false n
  numbers_push [] n = append-nil (32 ∷ digits base false n)
  numbers_push (x ∷ xs) n = ap (λ l. 32 ∷ digits base false x ++ l) (numbers_push xs n)
      ∙ sym (append_assoc (32 ∷ digits base false x) (numbers_text base xs) (32 ∷ digits base false n))

  -- what follows numbers that were read, in a text that a list begins
  pub record IsCut (xs ys r b : List ℕ) : Type 0 where
    pub others : List ℕ
    pub list : ys ≡ xs ++ others
    pub rest : r ≡ numbers_text base others ++ 10 ∷ b
    pub small : All IsNumber others

  pub cut_list : (xs ys r b : List ℕ) → All IsNumber xs → All IsNumber ys → (0 < length xs → is_plain base r ≡ true)
      → numbers_text base xs ++ r ≡ numbers_text base ys ++ 10 ∷ b → IsCut xs ys r b
  cut_list [] ys r b left right plain same = record { others = ys; list = refl; rest = same; small = right }
  cut_list (x ∷ xs) [] r b left right plain same = let byte : ◌≡◌ {A = ℕ} 32 10 = cc in absurd (omega (arith, byte))
  cut_list (x ∷ xs) (y ∷ ys) r b left right plain same =
      let tails : digits base false x ++ (numbers_text base xs ++ r) ≡ digits base false y ++
      (numbers_text base ys ++ 10 ∷ b) =
      sym (append_assoc (digits base false x) (numbers_text base xs) r) ∙ ap (drop 1) same
      ∙ append_assoc (digits base false y) (numbers_text base ys) (10 ∷ b) in
      let first =
      one_number x y (numbers_text base xs ++ r) (numbers_text base ys ++ 10 ∷ b) (All-head IsNumber x xs left)
      (All-head IsNumber y ys right) (numbers_plain xs r (plain (omega arith)))
      (numbers_plain ys (10 ∷ b) (feed_plain b)) tails in
      let rest =
      cut_list xs ys r b (All-tail IsNumber x xs left) (All-tail IsNumber y ys right)
      (λ some. plain (omega arith)) first.rest in
      let number = first.number in
      let list = rest.list in
      record { others = rest.others; list = cc; rest = rest.rest; small = rest.small }

  -- a list with its line feed has one spelling
  pub record IsSameList (xs ys p q : List ℕ) : Type 0 where
    pub list : xs ≡ ys
    pub rest : p ≡ q

  none_more : (xs ys p q others : List ℕ) → ys ≡ xs ++ others → 10 ∷ p ≡ numbers_text base others ++ 10 ∷ q
      → IsSameList xs ys p q
  none_more xs ys p q [] list rest = record { list = sym (list ∙ append-nil xs); rest = cc }
  none_more xs ys p q (z ∷ zs) list rest = let byte : ◌≡◌ {A = ℕ} 10 32 = cc in absurd (omega (arith, byte))

  pub one_list : (xs ys p q : List ℕ) → All IsNumber xs → All IsNumber ys
      → numbers_text base xs ++ 10 ∷ p ≡ numbers_text base ys ++ 10 ∷ q → IsSameList xs ys p q
  one_list xs ys p q left right same =
      let cut = cut_list xs ys (10 ∷ p) q left right (λ _. feed_plain p) same in
      none_more xs ys p q cut.others cut.list cut.rest

  -- the number after a space
  pub next_read : (n : ℕ) (list after text tail : List ℕ) → IsNumber n → is_plain base after ≡ true
      → text ≡ numbers_text base (n ∷ list) ++ after → tail ≡ drop 1 text
      → number_front base tail ≡ Some (n, numbers_text base list ++ after)
  next_read n list after text tail small plain is cut =
      ap (number_front base) (cut ∙ ap (drop 1) is ∙ append_assoc (digits base false n) (numbers_text base list) after)
      ∙ number_again base low high n (numbers_text base list ++ after) small (numbers_plain list after plain)

  pub begins_is : (byte : ℕ) (text : List ℕ) → begins_with byte text ≡ true → text ≡ byte ∷ drop 1 text
  begins_is byte [] h = absurd (cc)
  begins_is byte (c ∷ cs) h = let same : c ≡ byte = grind (arith, nat_tests) in ap (λ x. x ∷ cs) same

  module _ (text : List ℕ) (count : ℕ) (rest : List ℕ) (read : HasRead base text count rest) where
    some_read : 0 < length read.list → is_plain base rest ≡ true
    some_read h = read.plain (omega (arith, read.counted))

    others : (list after : List ℕ) → IsList list → text ≡ numbers_text base list ++ 10 ∷ after
        → IsCut read.list list rest after
    others list after is same =
        cut_list read.list list rest after read.small is.small some_read (sym read.spelled ∙ same)

    no_number_by : (zs after : List ℕ) → All IsNumber zs → begins_with 32 rest ≡ true
        → number_front base (drop 1 rest) ≡ None → rest ≡ numbers_text base zs ++ 10 ∷ after → ⊥
    no_number_by [] after small space none is =
        let first = begins_is 32 rest space in
        let byte : ◌≡◌ {A = ℕ} 32 10 = cc in
        omega (arith, byte)
    no_number_by (z ∷ zs) after small space none is =
        let found =
        next_read z zs (10 ∷ after) rest (drop 1 rest) (All-head IsNumber z zs small) (feed_plain after) is refl in
        none-some _ (sym none ∙ found)

    -- no list where a space has no number after it
    pub no_number : begins_with 32 rest ≡ true → number_front base (drop 1 rest) ≡ None → (list after : List ℕ)
        → IsList list → text ≢ numbers_text base list ++ 10 ∷ after
    no_number space none list after is same =
        let cut = others list after is same in no_number_by cut.others after cut.small space none cut.rest

    no_list_by : (zs after list : List ℕ) → begins_with 32 rest ≡ false → (count ≡ 0) ⊎ (begins_with 10 rest ≡ false)
        → IsList list → list ≡ read.list ++ zs → rest ≡ numbers_text base zs ++ 10 ∷ after → ⊥
    no_list_by (z ∷ zs) after list space why is cut same = false≢true (sym space ∙ ap (begins_with 32) same)
    no_list_by [] after list space (inr feed) is cut same = false≢true (sym feed ∙ ap (begins_with 10) same)
    no_list_by [] after list space (inl none) is cut same =
        omega (arith, is.some, ap length cut, length-append read.list [], read.counted)

    -- no list where a space or a line feed is missing, or no number
    pub no_list : begins_with 32 rest ≡ false → (count ≡ 0) ⊎ (begins_with 10 rest ≡ false) → (list after : List ℕ)
        → IsList list → text ≢ numbers_text base list ++ 10 ∷ after
    no_list space why list after is same =
        let cut = others list after is same in no_list_by cut.others after list space why is cut.list cut.rest

    module _ (n : ℕ) (after : List ℕ) (space : begins_with 32 rest ≡ true)
        (found : number_front base (drop 1 rest) ≡ Some (n, after)) where
      cut_off : rest ≡ 32 ∷ (digits base false n ++ after)
      cut_off =
          let number = number_taken base low high (drop 1 rest) n after found in
          begins_is 32 rest space ∙ ap (λ l. 32 ∷ l) number.spelled

      pub one_read : HasRead base text (count + 1) after
      one_read =
          let number = number_taken base low high (drop 1 rest) n after found in
          record {
            list = read.list ++ n ∷ [];
            small = All-append IsNumber read.list (n ∷ []) read.small
                (All-cons IsNumber n [] number.small (All-nil IsNumber));
            counted = omega (arith, read.counted, length-append read.list (n ∷ []));
            spelled = read.spelled ∙ ap (λ l. numbers_text base read.list ++ l) cut_off
                ∙ sym (append_assoc (numbers_text base read.list) (32 ∷ digits base false n) after)
                ∙ ap (λ l. l ++ after) (sym (numbers_push read.list n));
            plain = λ _. number.plain;
          }

      pub less_left : length after < length rest
      less_left = omega (arith, ap length cut_off, length-append (digits base false n) after)
