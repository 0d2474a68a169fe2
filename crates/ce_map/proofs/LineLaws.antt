-- The lines with single numbers are read back.
use Rattle.std.proofs.Common.{◌≡◌, ◌<◌, ◌≤◌, ◌^◌, ◌==◌, ◌⊎◌, ℕ, Bool, true, false, cond, List, ◌++◌, Some, None, refl}
use Rattle.std.proofs.Common.{sym, ap, ◌∙◌, subst, arith, inl, inr}
use Rattle.std.specs.Fmt.{decimal}
use Rattle.std.proofs.lemmas.Bool.Decides.{nat_tests}
use Rattle.std.proofs.lemmas.Option.{some_pair_parts, cond_some}
use Rattle.ce_map.specs.Digits.{IsNumber}
use Rattle.ce_map.specs.FieldsInside.{word_front, field_front}
use Rattle.ce_map.specs.Grammar.{Header, IsHeader}
use Rattle.ce_map.specs.LinesInside.{four_front, one_front, is_header, header_if, first_version, second_version}
use Rattle.ce_map.specs.LinesInside.{version_front, header_front_by}
use Rattle.ce_map.specs.PartsInside.{part_front_by}
use Rattle.ce_map.specs.declared.lines.AngleLine.{AngleLine}
use Rattle.ce_map.proofs.FieldLaws.{IsSeparator, word_again, word_taken, field_again, field_taken, bind_some}

-- a word, and four numbers with a word after each
module _ (word a b c d : List ℕ) (sa : IsSeparator a) (sb : IsSeparator b) (sc : IsSeparator c)
    (sd : IsSeparator d) where
  unfoldable pub four_text : AngleLine → List ℕ → List ℕ
  four_text l rest =
      word ++ (decimal l.num ++
      (a ++ (decimal l.den ++ (b ++ (decimal l.low ++ (c ++ (decimal l.high ++ (d ++ rest))))))))

  pub four_again : (l : AngleLine) (rest : List ℕ) → IsNumber l.num → IsNumber l.den → IsNumber l.low → IsNumber l.high
      → four_front word a b c d (four_text l rest) ≡ Some (l, rest)
  unfolding four_front four_text
  four_again l rest num den low high =
      rw (
        word_again word _,
        field_again l.num a _ sa num,
        field_again l.den b _ sb den,
        field_again l.low c _ sc low,
        field_again l.high d rest sd high,
      ) refl

  -- what is known of four numbers that were read
  pub record IsFour (text : List ℕ) (l : AngleLine) (rest : List ℕ) : Type 0 where
    pub spelled : text ≡ four_text l rest
    pub num : IsNumber l.num
    pub den : IsNumber l.den
    pub low : IsNumber l.low
    pub high : IsNumber l.high

  joined_four : (text t0 t1 t2 t3 t4 : List ℕ) (l : AngleLine) → text ≡ word ++ t0 → t0 ≡ decimal l.num ++ (a ++ t1)
      → t1 ≡ decimal l.den ++ (b ++ t2) → t2 ≡ decimal l.low ++ (c ++ t3) → t3 ≡ decimal l.high ++ (d ++ t4)
      → text ≡ four_text l t4
  unfolding four_text
  joined_four text t0 t1 t2 t3 t4 l e e1 e2 e3 e4 =
      e ∙ ap (λ t. word ++ t) (e1
      ∙ ap (λ t. decimal l.num ++ (a ++ t)) (e2 ∙ ap (λ t. decimal l.den ++ (b ++ t)) (e3
      ∙ ap (λ t. decimal l.low ++ (c ++ t)) e4)))

  pub four_taken : (text : List ℕ) (l : AngleLine) (rest : List ℕ) → four_front word a b c d text ≡ Some (l, rest)
      → IsFour text l rest
  unfolding four_front four_text
  four_taken text l rest h =
      let first = bind_some (word_front word text) _ (l, rest) h in
      let num = bind_some (field_front a first.0) _ (l, rest) first.2 in
      let den = bind_some (field_front b num.0.1) _ (l, rest) num.2 in
      let low = bind_some (field_front c den.0.1) _ (l, rest) den.2 in
      let high = bind_some (field_front d low.0.1) _ (l, rest) low.2 in
      let start = word_taken word text first.0 first.1 in
      let f1 = field_taken a first.0 num.0.0 num.0.1 num.1 in
      let f2 = field_taken b num.0.1 den.0.0 den.0.1 den.1 in
      let f3 = field_taken c den.0.1 low.0.0 low.0.1 low.1 in
      let f4 = field_taken d low.0.1 high.0.0 high.0.1 high.1 in
      let line : AngleLine = record { num = num.0.0; den = den.0.0; low = low.0.0; high = high.0.0 } in
      let parts = some_pair_parts line l high.0.1 rest high.2 in
      let all : text ≡ four_text line high.0.1 =
      joined_four text first.0 num.0.1 den.0.1 low.0.1 high.0.1 line start f1.spelled f2.spelled f3.spelled
      f4.spelled in
      let made : IsFour text line high.0.1 =
      record { spelled = all; num = f1.small; den = f2.small; low = f3.small; high = f4.small } in
      subst (λ x. IsFour text x rest) parts.0 (subst (λ r. IsFour text line r) parts.1 made)

module _ (word a : List ℕ) (sa : IsSeparator a) where
  pub one_again : (n : ℕ) (rest : List ℕ) → IsNumber n
      → one_front word a (word ++ (decimal n ++ (a ++ rest))) ≡ Some (n, rest)
  unfolding one_front
  one_again n rest small = rw (word_again word _, field_again n a rest sa small) refl

  pub record IsOne (text : List ℕ) (n : ℕ) (rest : List ℕ) : Type 0 where
    pub spelled : text ≡ word ++ (decimal n ++ (a ++ rest))
    pub small : IsNumber n

  pub one_taken : (text : List ℕ) (n : ℕ) (rest : List ℕ) → one_front word a text ≡ Some (n, rest) → IsOne text n rest
  unfolding one_front
  one_taken text n rest h =
      let first = bind_some (word_front word text) _ (n, rest) h in
      let field = field_taken a first.0 n rest first.2 in
      record { spelled = word_taken word text first.0 first.1 ∙ ap (λ t. word ++ t) field.spelled; small = field.small }

-- the header's test
header_parts : (h : Header) → (h.version ≡ 1) ⊎ (h.version ≡ 2) → is_header h ≡ true → IsHeader h
header_parts h version test = record {
  version = version;
  some = grind (arith, nat_tests);
  few = grind (arith, nat_tests);
  scale = grind (arith, nat_tests);
}

header_test : (h : Header) → IsHeader h → is_header h ≡ true
header_test h is = grind (arith, nat_tests, is.some, is.few, is.scale)

if_taken : (h g : Header) (text rest : List ℕ) → (h.version ≡ 1) ⊎ (h.version ≡ 2) → header_if h text ≡ Some (g, rest)
    → IsHeader h × (h ≡ g) × (text ≡ rest)
unfolding header_if
if_taken h g text rest version e =
    let parts = cond_some (is_header h) (h, text) (g, rest) e in
    (header_parts h version parts.0, ap (λ p. p.0) parts.1, ap (λ p. p.1) parts.1)

if_again : (h : Header) (rest : List ℕ) → IsHeader h → header_if h rest ≡ Some (h, rest)
unfolding header_if
if_again h rest is = ap (λ t. cond t (Some (h, rest)) None) (header_test h is)

module _ (word a b c : List ℕ) (sa : IsSeparator a) (sb : IsSeparator b) (sc : IsSeparator c) where
  unfoldable pub tail_text : Header → List ℕ → List ℕ
  tail_text h rest = cond (h.version == 1) (c ++ rest) (b ++ (decimal h.exponent ++ (c ++ rest)))

  unfoldable pub header_text : Header → List ℕ → List ℕ
  header_text h rest = word ++ (decimal h.version ++ (a ++ (decimal h.order ++ tail_text h rest)))

  abbrev of : ℕ → ℕ → ℕ → Header
  of v order e = record { version = v; order = order; exponent = e }

  small_order : (v order e : ℕ) → IsHeader (of v order e) → order < 2 ^ 62
  small_order v order e is = few_is (v == 1) is.few
    where
      few_is : (t : Bool) → order ≤ cond t 64 128 → order < 2 ^ 62
      few_is true h = omega arith
      few_is false h = omega arith

  first_read : (order : ℕ) (rest : List ℕ) → IsHeader (of 1 order 32)
      → first_version c (decimal order ++ (c ++ rest)) ≡ Some (of 1 order 32, rest)
  unfolding first_version
  first_read order rest is =
      rw (field_again order c rest sc (small_order 1 order 32 is)) (if_again (of 1 order 32) rest is)

  small_scale : (v order e : ℕ) → IsHeader (of v order e) → e < 2 ^ 62
  small_scale v order e is = scale_is is.scale
    where
      scale_is : (e ≡ 32) ⊎ ((v ≡ 2) × (e ≡ 48)) → e < 2 ^ 62
      scale_is (inl h) = omega arith
      scale_is (inr h) = omega (arith, h.1)

  second_read : (order e : ℕ) (rest : List ℕ) → IsHeader (of 2 order e)
      → second_version b c (decimal order ++ (b ++ (decimal e ++ (c ++ rest)))) ≡ Some (of 2 order e, rest)
  unfolding second_version
  second_read order e rest is =
      rw (field_again order b _ sb (small_order 2 order e is), field_again e c rest sc (small_scale 2 order e is))
      (if_again (of 2 order e) rest is)

  first_whole : (order : ℕ) (rest : List ℕ) → IsHeader (of 1 order 32)
      → header_front_by word a b c (header_text (of 1 order 32) rest) ≡ Some (of 1 order 32, rest)
  unfolding header_front_by version_front header_text tail_text
  first_whole order rest is = rw (word_again word _, field_again 1 a _ sa (omega arith)) (first_read order rest is)

  second_whole : (order e : ℕ) (rest : List ℕ) → IsHeader (of 2 order e)
      → header_front_by word a b c (header_text (of 2 order e) rest) ≡ Some (of 2 order e, rest)
  unfolding header_front_by version_front header_text tail_text
  second_whole order e rest is =
      rw (word_again word _, field_again 2 a _ sa (omega arith)) (second_read order e rest is)

  pub header_again : (h : Header) (rest : List ℕ) → IsHeader h
      → header_front_by word a b c (header_text h rest) ≡ Some (h, rest)
  header_again h rest is = by_version is.version is.scale
    where
      by_version : (h.version ≡ 1) ⊎ (h.version ≡ 2) → (h.exponent ≡ 32) ⊎ ((h.version ≡ 2) × (h.exponent ≡ 48))
          → header_front_by word a b c (header_text h rest) ≡ Some (h, rest)
      by_version (inl one) (inl e) =
          let same : h ≡ of 1 h.order 32 = ap (λ v. of v h.order h.exponent) one ∙ ap (λ x. of 1 h.order x) e in
          subst (λ g. header_front_by word a b c (header_text g rest) ≡ Some (g, rest)) (sym same)
          (first_whole h.order rest (subst IsHeader same is))
      by_version (inl one) (inr both) = absurd (omega (arith, both.0))
      by_version (inr two) scale =
          let same : h ≡ of 2 h.order h.exponent = ap (λ v. of v h.order h.exponent) two in
          subst (λ g. header_front_by word a b c (header_text g rest) ≡ Some (g, rest)) (sym same)
          (second_whole h.order h.exponent rest (subst IsHeader same is))

  pub record IsHeaderFront (text : List ℕ) (h : Header) (rest : List ℕ) : Type 0 where
    pub spelled : text ≡ header_text h rest
    pub header : IsHeader h

  record IsTail (v : ℕ) (text : List ℕ) (h : Header) (rest : List ℕ) : Type 0 where
    version : h.version ≡ v
    spelled : text ≡ decimal h.order ++ tail_text h rest
    header : IsHeader h

  tail_along : (v : ℕ) (text : List ℕ) (g h : Header) (left rest : List ℕ) → g ≡ h → left ≡ rest → IsTail v text g left
      → IsTail v text h rest
  tail_along v text g h left rest e f t = subst (λ x. IsTail v text x rest) e (subst (λ r. IsTail v text g r) f t)

  first_taken : (text : List ℕ) (h : Header) (rest : List ℕ) → first_version c text ≡ Some (h, rest)
      → IsTail 1 text h rest
  unfolding first_version tail_text
  first_taken text h rest e =
      let order = bind_some (field_front c text) _ (h, rest) e in
      let field = field_taken c text order.0.0 order.0.1 order.1 in
      let g : Header = of 1 order.0.0 32 in
      let made = if_taken g h order.0.1 rest (inl refl) order.2 in
      tail_along 1 text g h order.0.1 rest made.1 made.2 (record {
        version = refl;
        spelled = field.spelled;
        header = made.0;
      })

  second_taken : (text : List ℕ) (h : Header) (rest : List ℕ) → second_version b c text ≡ Some (h, rest)
      → IsTail 2 text h rest
  unfolding second_version tail_text
  second_taken text h rest e =
      let order = bind_some (field_front b text) _ (h, rest) e in
      let scale = bind_some (field_front c order.0.1) _ (h, rest) order.2 in
      let field = field_taken b text order.0.0 order.0.1 order.1 in
      let other = field_taken c order.0.1 scale.0.0 scale.0.1 scale.1 in
      let g : Header = of 2 order.0.0 scale.0.0 in
      let made = if_taken g h scale.0.1 rest (inr refl) scale.2 in
      tail_along 2 text g h scale.0.1 rest made.1 made.2 (record {
        version = refl;
        spelled = field.spelled ∙ ap (λ t. decimal order.0.0 ++ (b ++ t)) other.spelled;
        header = made.0;
      })

  tail_taken : (v : ℕ) (text : List ℕ) (h : Header) (rest : List ℕ) (t u : Bool) → (v == 1) ≡ t → (v == 2) ≡ u
      → cond t (first_version c text) (cond u (second_version b c text) None) ≡ Some (h, rest) → IsTail v text h rest
  tail_taken v text h rest true u one two e =
      let same : 1 ≡ v = grind (arith, nat_tests) in
      subst (λ w. IsTail w text h rest) same (first_taken text h rest e)
  tail_taken v text h rest false true one two e =
      let same : 2 ≡ v = grind (arith, nat_tests) in
      subst (λ w. IsTail w text h rest) same (second_taken text h rest e)
  tail_taken v text h rest false false one two e = absurd (cc)

  version_taken : (v : ℕ) (text : List ℕ) (h : Header) (rest : List ℕ) → version_front b c v text ≡ Some (h, rest)
      → IsTail v text h rest
  unfolding version_front
  version_taken v text h rest e = tail_taken v text h rest (v == 1) (v == 2) refl refl e

  pub header_taken : (text : List ℕ) (h : Header) (rest : List ℕ) → header_front_by word a b c text ≡ Some (h, rest)
      → IsHeaderFront text h rest
  unfolding header_front_by header_text
  header_taken text h rest e =
      let first = bind_some (word_front word text) _ (h, rest) e in
      let version = bind_some (field_front a first.0) _ (h, rest) first.2 in
      let start = word_taken word text first.0 first.1 in
      let field = field_taken a first.0 version.0.0 version.0.1 version.1 in
      let tail = version_taken version.0.0 version.0.1 h rest version.2 in
      let named = tail.version in
      record {
        spelled = start ∙ ap (λ t. word ++ t) (field.spelled ∙ ap (λ t. decimal version.0.0 ++ (a ++ t)) tail.spelled
            ∙ ap (λ v. decimal v ++ (a ++ (decimal h.order ++ tail_text h rest))) (sym named));
        header = tail.header;
      }

  unfoldable pub part_then : Header → List ℕ → List ℕ
  part_then h rest = word ++ (decimal h.order ++ (b ++ (decimal h.exponent ++ (c ++ rest))))

  pub part_again : (h : Header) (rest : List ℕ) → h.version ≡ 2 → IsHeader h
      → part_front_by word b c (part_then h rest) ≡ Some (h, rest)
  unfolding part_front_by part_then
  part_again h rest two is =
      let same : h ≡ of 2 h.order h.exponent = ap (λ v. of v h.order h.exponent) two in
      let known : second_version b c (decimal h.order ++ (b ++ (decimal h.exponent ++ (c ++ rest)))) ≡ Some (h, rest) =
      second_read h.order h.exponent rest (subst IsHeader same is) ∙ ap (λ g. Some (g, rest)) (sym same) in
      rw (word_again word (decimal h.order ++ (b ++ (decimal h.exponent ++ (c ++ rest))))) known

  pub record IsPartFront (text : List ℕ) (h : Header) (rest : List ℕ) : Type 0 where
    pub spelled : text ≡ part_then h rest
    pub header : IsHeader h
    pub second : h.version ≡ 2

  pub part_taken : (text : List ℕ) (h : Header) (rest : List ℕ) → part_front_by word b c text ≡ Some (h, rest)
      → IsPartFront text h rest
  unfolding part_front_by part_then tail_text
  part_taken text h rest e =
      let first = bind_some (word_front word text) _ (h, rest) e in
      let start = word_taken word text first.0 first.1 in
      let tail = second_taken first.0 h rest first.2 in
      record {
        spelled =
            start ∙ ap (λ t. word ++ t) (tail.spelled
            ∙ ap (λ v. decimal h.order ++ cond (v == 1) (c ++ rest) (b ++ (decimal h.exponent ++ (c ++ rest))))
            tail.version);
        header = tail.header;
        second = tail.version;
      }
