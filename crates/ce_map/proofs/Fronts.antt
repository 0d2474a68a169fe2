-- The lines of an item as they follow one another, each with one spelling.
use Rattle.std.proofs.Common.{◌≡◌, ◌==◌, ℕ, Bool, true, false, cond, List, [], ◌∷◌, ◌++◌, take, Some, refl, sym, ap}
use Rattle.std.proofs.Common.{◌∙◌, append_assoc}
use Rattle.std.specs.Prelude.{codes}
use Rattle.std.specs.List.{concat}
use Rattle.std.specs.Fmt.{decimal}
use Rattle.std.proofs.lemmas.Option.{some_pair_parts}
use Rattle.ce_map.specs.Digits.{IsNumber, numbers_text}
use Rattle.ce_map.specs.Grammar.{Item, base_of, angle_line, ranks_line, low_line, high_line, item_lines, item_text}
use Rattle.ce_map.specs.Grammar.{end_line, header_line, scale_text, Header, IsHeader}
use Rattle.ce_map.specs.LinesInside.{angle_front, end_front, header_front, header_front_by}
use Rattle.ce_map.specs.declared.lines.AngleLine.{AngleLine}
use Rattle.ce_map.proofs.LineLaws.{four_text, four_again, four_taken, one_again, one_taken, header_text, tail_text}
use Rattle.ce_map.proofs.LineLaws.{header_again, header_taken}

abbrev pub line_of : Item → AngleLine
line_of item = record { num = item.angle.num; den = item.angle.den; low = item.evidence.low; high = item.evidence.high }

-- each line with what follows it
abbrev pub angle_then : AngleLine → List ℕ → List ℕ
angle_then l rest =
    codes "angle " ++
    (decimal l.num ++
    (codes "/" ++
    (decimal l.den ++
    (codes " low " ++
    (decimal l.low ++ (codes " high " ++ (decimal l.high ++ (codes "\n" ++ rest))))))))

abbrev pub list_then : List ℕ → ℕ → List ℕ → List ℕ → List ℕ
list_then name base list rest = name ++ (numbers_text base list ++ 10 ∷ rest)

abbrev pub low_then : ℕ → ℕ → List ℕ → List ℕ → List ℕ
low_then base rank list rest = codes "low " ++ (decimal rank ++ (numbers_text base list ++ 10 ∷ rest))

abbrev pub end_then : ℕ → List ℕ → List ℕ
end_then count rest = codes "end " ++ (decimal count ++ (codes "\n" ++ rest))

-- pieces and what follows them
regroup_three : (w n f rest : List ℕ) → (w ++ n ++ f) ++ rest ≡ w ++ (n ++ (f ++ rest))
regroup_three w n f rest = simp append_assoc

regroup_four : (w d n f rest : List ℕ) → (w ++ d ++ n ++ f) ++ rest ≡ w ++ (d ++ (n ++ (f ++ rest)))
regroup_four w d n f rest = simp append_assoc

regroup_nine : (w n1 a n2 b n3 c n4 d rest : List ℕ)
    → (w ++ (n1 ++ a ++ n2) ++ b ++ n3 ++ c ++ n4 ++ d) ++ rest ≡ w ++
    (n1 ++ (a ++ (n2 ++ (b ++ (n3 ++ (c ++ (n4 ++ (d ++ rest))))))))
regroup_nine w n1 a n2 b n3 c n4 d rest = simp append_assoc

joined_one : (l rest : List ℕ) → concat (l ∷ []) ++ rest ≡ l ++ rest
joined_one l rest = append_assoc l [] rest

joined_two : (l m rest : List ℕ) → concat (l ∷ m ∷ []) ++ rest ≡ l ++ (m ++ rest)
joined_two l m rest = append_assoc l (m ++ []) rest ∙ ap (λ t. l ++ t) (joined_one m rest)

joined_three : (l m n rest : List ℕ) → concat (l ∷ m ∷ n ∷ []) ++ rest ≡ l ++ (m ++ (n ++ rest))
joined_three l m n rest = append_assoc l (m ++ (n ++ [])) rest ∙ ap (λ t. l ++ t) (joined_two m n rest)

joined_four : (l m n o rest : List ℕ) → concat (l ∷ m ∷ n ∷ o ∷ []) ++ rest ≡ l ++ (m ++ (n ++ (o ++ rest)))
joined_four l m n o rest = append_assoc l (m ++ (n ++ (o ++ []))) rest ∙ ap (λ t. l ++ t) (joined_three m n o rest)

module _ (version : ℕ) (item : Item) where
  angle_is : (rest : List ℕ) → angle_line item ++ rest ≡ angle_then (line_of item) rest
  angle_is rest =
      regroup_nine (codes "angle ") (decimal item.angle.num) (codes "/") (decimal item.angle.den) (codes " low ")
      (decimal item.evidence.low) (codes " high ") (decimal item.evidence.high) (codes "\n") rest

  ranks_is : (rest : List ℕ) → ranks_line item ++ rest ≡ list_then (codes "ranks") 10 item.evidence.ranks rest
  ranks_is rest = regroup_three (codes "ranks") (numbers_text 10 item.evidence.ranks) (codes "\n") rest

  low_is : (rest : List ℕ)
      → low_line version item ++ rest ≡ low_then (base_of version) item.evidence.low_rank item.evidence.low_vector rest
  low_is rest =
      regroup_four (codes "low ") (decimal item.evidence.low_rank)
      (numbers_text (base_of version) item.evidence.low_vector) (codes "\n") rest

  high_is : (rest : List ℕ)
      → high_line version item ++ rest ≡ list_then (codes "high") (base_of version) item.evidence.high_vector rest
  high_is rest =
      regroup_three (codes "high") (numbers_text (base_of version) item.evidence.high_vector) (codes "\n") rest

  angle_with : (t u : List ℕ) → t ≡ u → angle_line item ++ t ≡ angle_then (line_of item) u
  angle_with t u e = angle_is t ∙ ap (angle_then (line_of item)) e

  ranks_with : (t u : List ℕ) → t ≡ u → ranks_line item ++ t ≡ list_then (codes "ranks") 10 item.evidence.ranks u
  ranks_with t u e = ranks_is t ∙ ap (list_then (codes "ranks") 10 item.evidence.ranks) e

  low_with : (t u : List ℕ) → t ≡ u
      → low_line version item ++ t ≡ low_then (base_of version) item.evidence.low_rank item.evidence.low_vector u
  low_with t u e = low_is t ∙ ap (low_then (base_of version) item.evidence.low_rank item.evidence.low_vector) e

  module _ (rest : List ℕ) where
    pub one_line : concat (take 1 (item_lines version item)) ++ rest ≡ angle_then (line_of item) rest
    one_line = joined_one (angle_line item) rest ∙ angle_is rest

    pub two_lines : concat (take 2 (item_lines version item)) ++ rest ≡ angle_then (line_of item)
        (list_then (codes "ranks") 10 item.evidence.ranks rest)
    two_lines = joined_two (angle_line item) (ranks_line item) rest ∙ angle_with _ _ (ranks_is rest)

    pub three_lines : concat (take 3 (item_lines version item)) ++ rest ≡ angle_then (line_of item)
        (list_then (codes "ranks") 10 item.evidence.ranks
        (low_then (base_of version) item.evidence.low_rank item.evidence.low_vector rest))
    three_lines = joined_three (angle_line item) (ranks_line item) (low_line version item) rest
        ∙ angle_with _ _ (ranks_with _ _ (low_is rest))

    pub four_lines : item_text version item ++ rest ≡ angle_then (line_of item)
        (list_then (codes "ranks") 10 item.evidence.ranks
        (low_then (base_of version) item.evidence.low_rank item.evidence.low_vector
        (list_then (codes "high") (base_of version) item.evidence.high_vector rest)))
    four_lines = joined_four (angle_line item) (ranks_line item) (low_line version item) (high_line version item) rest
        ∙ angle_with _ _ (ranks_with _ _ (low_with _ _ (high_is rest)))

pub end_lines : (count : ℕ) (rest : List ℕ) → end_line count ++ rest ≡ end_then count rest
end_lines count rest = regroup_three (codes "end ") (decimal count) (codes "\n") rest

-- each line has one spelling
pub record IsSameAngle (l m : AngleLine) (t u : List ℕ) : Type 0 where
  pub line : l ≡ m
  pub rest : t ≡ u

pub record AreNumbers (l : AngleLine) : Type 0 where
  pub num : IsNumber l.num
  pub den : IsNumber l.den
  pub low : IsNumber l.low
  pub high : IsNumber l.high

pub angle_read : (l : AngleLine) (rest : List ℕ) → AreNumbers l → angle_front (angle_then l rest) ≡ Some (l, rest)
unfolding angle_front four_text
angle_read l rest h =
    four_again (codes "angle ") (codes "/") (codes " low ") (codes " high ") (codes "\n") (λ _. refl) (λ _. refl)
    (λ _. refl) (λ _. refl) l rest h.num h.den h.low h.high

pub record IsAngleFront (text : List ℕ) (l : AngleLine) (rest : List ℕ) : Type 0 where
  pub spelled : text ≡ angle_then l rest
  pub numbers : AreNumbers l

pub angle_taken : (text : List ℕ) (l : AngleLine) (rest : List ℕ) → angle_front text ≡ Some (l, rest)
    → IsAngleFront text l rest
unfolding angle_front four_text
angle_taken text l rest h =
    let four =
    four_taken (codes "angle ") (codes "/") (codes " low ") (codes " high ") (codes "\n") (λ _. refl) (λ _. refl)
    (λ _. refl) (λ _. refl) text l rest h in
    record {
      spelled = four.spelled;
      numbers = record {
        num = four.num;
        den = four.den;
        low = four.low;
        high = four.high;
      };
    }

pub one_angle : (l m : AngleLine) (t u : List ℕ) → AreNumbers l → AreNumbers m → angle_then l t ≡ angle_then m u
    → IsSameAngle l m t u
one_angle l m t u left right same =
    let parts = some_pair_parts l m t u (sym (angle_read l t left) ∙ ap angle_front same ∙ angle_read m u right) in
    record { line = parts.0; rest = parts.1 }

pub end_read : (count : ℕ) (rest : List ℕ) → IsNumber count → end_front (end_then count rest) ≡ Some (count, rest)
unfolding end_front
end_read count rest h = one_again (codes "end ") (codes "\n") (λ _. refl) count rest h

pub record IsEndFront (text : List ℕ) (count : ℕ) (rest : List ℕ) : Type 0 where
  pub spelled : text ≡ end_then count rest
  pub number : IsNumber count

pub end_taken : (text : List ℕ) (count : ℕ) (rest : List ℕ) → end_front text ≡ Some (count, rest)
    → IsEndFront text count rest
unfolding end_front
end_taken text count rest h =
    let one = one_taken (codes "end ") (codes "\n") (λ _. refl) text count rest h in
    record { spelled = one.spelled; number = one.small }

-- the header and what follows it
tail_is : (t : Bool) (b d x : List ℕ) → cond t [] (b ++ d) ++ x ≡ cond t x (b ++ (d ++ x))
tail_is true b d x = refl
tail_is false b d x = append_assoc b d x

regroup_six : (w v a o s f rest : List ℕ)
    → (w ++ v ++ a ++ o ++ s ++ f) ++ rest ≡ w ++ (v ++ (a ++ (o ++ (s ++ (f ++ rest)))))
regroup_six w v a o s f rest = simp append_assoc

abbrev pub header_then : Header → List ℕ → List ℕ
header_then h rest =
    header_text (codes "core-entropy-map ") (codes " order ") (codes " scale ") (codes "\n") (λ _. refl) (λ _. refl)
    (λ _. refl) h rest

pub header_lines : (h : Header) (rest : List ℕ) → header_line h ++ rest ≡ header_then h rest
unfolding header_text tail_text
header_lines h rest =
    regroup_six (codes "core-entropy-map ") (decimal h.version) (codes " order ") (decimal h.order) (scale_text h)
    (codes "\n") rest
    ∙ ap (λ t. codes "core-entropy-map " ++ (decimal h.version ++ (codes " order " ++ (decimal h.order ++ t))))
    (tail_is (h.version == 1) (codes " scale ") (decimal h.exponent) (codes "\n" ++ rest))

pub header_read : (h : Header) (rest : List ℕ) → IsHeader h → header_front (header_line h ++ rest) ≡ Some (h, rest)
unfolding header_front
header_read h rest is =
    ap (header_front_by (codes "core-entropy-map ") (codes " order ") (codes " scale ") (codes "\n"))
    (header_lines h rest)
    ∙ header_again (codes "core-entropy-map ") (codes " order ") (codes " scale ") (codes "\n") (λ _. refl) (λ _. refl)
    (λ _. refl) h rest is

pub record IsHeaderAt (text : List ℕ) (h : Header) (rest : List ℕ) : Type 0 where
  pub spelled : text ≡ header_line h ++ rest
  pub header : IsHeader h

pub header_is_at : (text : List ℕ) (h : Header) (rest : List ℕ) → header_front text ≡ Some (h, rest)
    → IsHeaderAt text h rest
unfolding header_front
header_is_at text h rest found =
    let taken = header_taken (codes "core-entropy-map ") (codes " order ") (codes " scale ") (codes "\n") (λ _. refl)
    (λ _. refl) (λ _. refl) text h rest found in
    record { spelled = taken.spelled ∙ sym (header_lines h rest); header = taken.header }
