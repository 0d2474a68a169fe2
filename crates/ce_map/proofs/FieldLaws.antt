-- Words and fields are read back.
use Rattle.std.proofs.Common.{◌≡◌, ◌≢◌, ◌<◌, ◌^◌, ◌==◌, ℕ, Bool, true, false, cond, List, [], ◌∷◌, ◌++◌, Option, Some}
use Rattle.std.proofs.Common.{None, refl, ap, ◌∙◌, arith}
use Rattle.std.specs.Prelude.{MatchOption}
use Rattle.std.proofs.lemmas.Bool.Decides.{nat_tests}
use Rattle.std.specs.Option.{option_and_then}
use Rattle.std.specs.Fmt.{decimal}
use Rattle.std.proofs.lemmas.Option.{some_pair_parts}
use Rattle.ce_map.specs.DigitsInside.{is_plain, number_front}
use Rattle.ce_map.specs.FieldsInside.{word_front, field_front}
use Rattle.ce_map.proofs.NumberLaws.{number_again, number_taken}

pub word_again : (word rest : List ℕ) → word_front word (word ++ rest) ≡ Some rest
unfolding word_front
word_again [] rest = refl
word_again (c ∷ cs) rest =
    let same : (c == c) ≡ true = grind (arith, nat_tests) in
    ap (λ t. cond t (word_front cs (cs ++ rest)) None) same ∙ word_again cs rest

word_taken_by : (c d : ℕ) (cs ds rest : List ℕ) (t : Bool) → (c == d) ≡ t → cond t (word_front cs ds) None ≡ Some rest
    → (word_front cs ds ≡ Some rest → ds ≡ cs ++ rest) → d ∷ ds ≡ c ∷ (cs ++ rest)
word_taken_by c d cs ds rest true e h more =
    let same : c ≡ d = grind (arith, nat_tests) in
    let rest_is = more h in
    cc
word_taken_by c d cs ds rest false e h more = absurd (cc)

pub word_taken : (word text rest : List ℕ) → word_front word text ≡ Some rest → text ≡ word ++ rest
unfolding word_front
word_taken [] text rest h = cc
word_taken (c ∷ cs) [] rest h = absurd (cc)
word_taken (c ∷ cs) (d ∷ ds) rest h = word_taken_by c d cs ds rest (c == d) refl h (word_taken cs ds rest)

none_by : (word text : List ℕ) (o : Option (List ℕ)) → word_front word text ≡ o
    → ((rest : List ℕ) → text ≢ word ++ rest) → word_front word text ≡ None
none_by word text None e none = e
none_by word text (Some rest) e none = absurd (none rest (word_taken word text rest e))

pub word_none : (word text : List ℕ) → ((rest : List ℕ) → text ≢ word ++ rest) → word_front word text ≡ None
word_none word text none = none_by word text (word_front word text) refl none

-- what is found of a word, by what it says of the text
pub word_found : {X : Type 0} (now : X → List ℕ) (word text : List ℕ) (found : Option X)
    → MatchOption found ((rest : List ℕ) → text ≢ word ++ rest) (λ x. text ≡ word ++ now x)
    → MatchOption found (word_front word text ≡ None) (λ x. word_front word text ≡ Some (now x))
word_found now word text None h = word_none word text h
word_found now word text (Some x) h = ap (word_front word) h ∙ word_again word (now x)

-- A word that follows a number begins with no digit.
abbrev pub IsSeparator : List ℕ → Type 0
IsSeparator word = (rest : List ℕ) → is_plain 10 (word ++ rest) ≡ true

pub field_again : (n : ℕ) (word rest : List ℕ) → IsSeparator word → n < 2 ^ 62
    → field_front word (decimal n ++ (word ++ rest)) ≡ Some (n, rest)
unfolding field_front
field_again n word rest plain small =
    ap (λ o. option_and_then (λ x. option_and_then (λ y. Some (x.0, y)) (word_front word x.1)) o)
    (number_again 10 (omega arith) (omega arith) n (word ++ rest) small (plain rest))
    ∙ ap (λ o. option_and_then (λ y. Some (n, y)) o) (word_again word rest)

-- what is known of a field that was read
pub record IsField (word text : List ℕ) (n : ℕ) (rest : List ℕ) : Type 0 where
  pub spelled : text ≡ decimal n ++ (word ++ rest)
  pub small : n < 2 ^ 62

-- what a step that found something took
pub bind_some : {A B : Type 0} (o : Option A) (f : A → Option B) (y : B) → option_and_then f o ≡ Some y
    → (x : A) × (o ≡ Some x) × (f x ≡ Some y)
bind_some None f y h = absurd (cc)
bind_some (Some x) f y h = (x, refl, h)

pub field_taken : (word text : List ℕ) (n : ℕ) (rest : List ℕ) → field_front word text ≡ Some (n, rest)
    → IsField word text n rest
unfolding field_front
field_taken word text n rest h =
    let first =
    bind_some (number_front 10 text) (λ x. option_and_then (λ y. Some (x.0, y)) (word_front word x.1))
    (n, rest) h in
    let second = bind_some (word_front word first.0.1) (λ y. Some (first.0.0, y)) (n, rest) first.2 in
    let parts = some_pair_parts first.0.0 n second.0 rest second.2 in
    let number = number_taken 10 (omega arith) (omega arith) text first.0.0 first.0.1 first.1 in
    let after = word_taken word first.0.1 second.0 second.1 in
    let value = parts.0 in
    record {
      spelled =
          number.spelled ∙ ap (λ l. decimal first.0.0 ++ l) after ∙ ap (λ m. decimal m ++ (word ++ second.0)) value
          ∙ ap (λ l. decimal n ++ (word ++ l)) parts.1;
      small = omega (arith, number.small);
    }
