-- A map has one spelling, and so have its parts.
use Rattle.std.proofs.Common.{◌≡◌, ◌≢◌, ◌≤◌, ◌==◌, ℕ, Bool, true, false, cond, List, [], ◌∷◌, ◌++◌, refl, sym, ap, ◌∙◌}
use Rattle.std.proofs.Common.{arith, append_assoc}
use Rattle.std.specs.Prelude.{codes}
use Rattle.std.specs.List.{All, flat_map}
use Rattle.std.proofs.lemmas.List.Elements.{All-head, All-tail}
use Rattle.std.proofs.lemmas.List.{append-nil}
use Rattle.std.proofs.lemmas.Option.{some_pair_parts}
use Rattle.ce_map.specs.Digits.{IsNumber, numbers_text}
use Rattle.ce_map.specs.DigitsInside.{number_front}
use Rattle.ce_map.specs.Grammar.{Header, IsHeader, header_line, Item, IsItem, base_of, item_text, end_line, map_text}
use Rattle.ce_map.specs.Grammar.{IsMapOf}
use Rattle.ce_map.specs.LinesInside.{header_front, end_front}
use Rattle.ce_map.proofs.FieldLaws.{word_again}
use Rattle.ce_map.proofs.Fronts.{line_of, low_then, four_lines, AreNumbers, one_angle, end_lines, end_read, header_read}
use Rattle.ce_map.proofs.ItemLaws.{word_cut, rank_read, item_of, numbers_of}
use Rattle.ce_map.proofs.ListLaws.{one_list}

pub record IsSameHeader (h g : Header) (x y : List ℕ) : Type 0 where
  pub header : h ≡ g
  pub rest : x ≡ y

pub one_header : (h g : Header) (x y : List ℕ) → IsHeader h → IsHeader g → header_line h ++ x ≡ header_line g ++ y
    → IsSameHeader h g x y
one_header h g x y left right same =
    let parts = some_pair_parts h g x y (sym (header_read h x left) ∙ ap header_front same ∙ header_read g y right) in
    record { header = parts.0; rest = parts.1 }

pub record IsSameEnd (m n : ℕ) (x y : List ℕ) : Type 0 where
  pub count : m ≡ n
  pub rest : x ≡ y

pub one_end : (m n : ℕ) (x y : List ℕ) → IsNumber m → IsNumber n → end_line m ++ x ≡ end_line n ++ y → IsSameEnd m n x y
one_end m n x y left right same =
    let both = sym (end_lines m x) ∙ same ∙ end_lines n y in
    let parts = some_pair_parts m n x y (sym (end_read m x left) ∙ ap end_front both ∙ end_read n y right) in
    record { count = parts.0; rest = parts.1 }

pub no_end : (version count : ℕ) (item : Item) (x y : List ℕ) → item_text version item ++ x ≢ end_line count ++ y
no_end version count item x y same = let byte : ◌≡◌ {A = ℕ} 97 101 = cc in omega (arith, byte)

-- the base of a version
base_range : (version b : ℕ) → b ≡ base_of version → (10 ≤ b) × (b ≤ 16)
base_range version b e = base_by (version == 1) b e
  where
    base_by : (t : Bool) (b : ℕ) → b ≡ cond t 10 16 → (10 ≤ b) × (b ≤ 16)
    base_by true b e = (omega arith, omega arith)
    base_by false b e = (omega arith, omega arith)

pub record IsSameItem (i j : Item) (x y : List ℕ) : Type 0 where
  pub item : i ≡ j
  pub rest : x ≡ y

same_item : (i j : Item) → line_of i ≡ line_of j → i.evidence.ranks ≡ j.evidence.ranks
    → i.evidence.low_rank ≡ j.evidence.low_rank → i.evidence.low_vector ≡ j.evidence.low_vector
    → i.evidence.high_vector ≡ j.evidence.high_vector → i ≡ j
same_item i j line ranks rank v w =
    ap (λ l. item_of l i.evidence.ranks i.evidence.low_rank i.evidence.low_vector i.evidence.high_vector) line
    ∙ ap (λ r. item_of (line_of j) r i.evidence.low_rank i.evidence.low_vector i.evidence.high_vector) ranks
    ∙ ap (λ c. item_of (line_of j) j.evidence.ranks c i.evidence.low_vector i.evidence.high_vector) rank
    ∙ ap (λ x. item_of (line_of j) j.evidence.ranks j.evidence.low_rank x i.evidence.high_vector) v
    ∙ ap (λ x. item_of (line_of j) j.evidence.ranks j.evidence.low_rank j.evidence.low_vector x) w

record IsSameRank (m n : ℕ) (p q : List ℕ) : Type 0 where
  rank : m ≡ n
  rest : p ≡ q

rank_parts : (b m n : ℕ) (v w p q : List ℕ) → IsNumber m → IsNumber n → low_then b m v p ≡ low_then b n w q
    → IsSameRank m n (numbers_text b v ++ 10 ∷ p) (numbers_text b w ++ 10 ∷ q)
rank_parts b m n v w p q left right same =
    let tails = word_cut (codes "low ") (low_then b m v p) _ _ (word_again (codes "low ") _) same in
    let parts =
    some_pair_parts m n (numbers_text b v ++ 10 ∷ p) (numbers_text b w ++ 10 ∷ q) (sym (rank_read b m v p left)
    ∙ ap (number_front 10) tails ∙ rank_read b n w q right) in
    record { rank = parts.0; rest = parts.1 }

pub one_item : (version : ℕ) (i j : Item) (x y : List ℕ) → IsItem i → IsItem j
    → item_text version i ++ x ≡ item_text version j ++ y → IsSameItem i j x y
one_item version i j x y left right same =
    let base = base_range version (base_of version) refl in
    let b = base_of version in
    let ei = i.evidence in
    let ej = j.evidence in
    let first =
    one_angle (line_of i) (line_of j) _ _ (numbers_of i left) (numbers_of j right) (sym (four_lines version i x)
    ∙ same ∙ four_lines version j y) in
    let tail2 = word_cut (codes "ranks") _ _ _ (word_again (codes "ranks") _) first.rest in
    let second =
    one_list 10 (omega arith) (omega arith) ei.ranks ej.ranks _ _ left.ranks.small right.ranks.small tail2 in
    let third =
    rank_parts b ei.low_rank ej.low_rank ei.low_vector ej.low_vector _ _ left.low_rank right.low_rank second.rest in
    let fourth =
    one_list b base.0 base.1 ei.low_vector ej.low_vector _ _ left.low_vector.small right.low_vector.small third.rest
    in
    let tail5 = word_cut (codes "high") _ _ _ (word_again (codes "high") _) fourth.rest in
    let fifth =
    one_list b base.0 base.1 ei.high_vector ej.high_vector x y left.high_vector.small right.high_vector.small tail5
    in
    record { item = same_item i j first.line second.list third.rank fourth.list fifth.list; rest = fifth.rest }

-- items and an end
pub record IsSameBody (xs ys : List Item) (m n : ℕ) (p q : List ℕ) : Type 0 where
  pub list : xs ≡ ys
  pub count : m ≡ n
  pub rest : p ≡ q

module _ (version : ℕ) where
  body_more : (x : Item) (xs : List Item) (m : ℕ) (p : List ℕ)
      → flat_map (item_text version) (x ∷ xs) ++ (end_line m ++ p) ≡ item_text version x ++
      (flat_map (item_text version) xs ++ (end_line m ++ p))
  body_more x xs m p = append_assoc (item_text version x) (flat_map (item_text version) xs) (end_line m ++ p)

  pub one_body : (xs ys : List Item) (m n : ℕ) (p q : List ℕ) → All IsItem xs → All IsItem ys → IsNumber m → IsNumber n
      → flat_map (item_text version) xs ++ (end_line m ++ p) ≡ flat_map (item_text version) ys ++ (end_line n ++ q)
      → IsSameBody xs ys m n p q
  one_body [] [] m n p q left right a b same = let end =
      one_end m n p q a b same in record { list = refl; count = end.count; rest = end.rest }
  one_body [] (y ∷ ys) m n p q left right a b same = absurd (no_end version m y _ p (sym (same ∙ body_more y ys n q)))
  one_body (x ∷ xs) [] m n p q left right a b same = absurd (no_end version n x _ q (sym (body_more x xs m p) ∙ same))
  one_body (x ∷ xs) (y ∷ ys) m n p q left right a b same =
      let first =
      one_item version x y _ _ (All-head IsItem x xs left) (All-head IsItem y ys right) (sym (body_more x xs m p)
      ∙ same ∙ body_more y ys n q) in
      let more = one_body xs ys m n p q (All-tail IsItem x xs left) (All-tail IsItem y ys right) a b first.rest in
      let head = first.item in
      let tail = more.list in
      record { list = cc; count = more.count; rest = more.rest }

pub record IsSameMap (h g : Header) (xs ys : List Item) (m n : ℕ) : Type 0 where
  pub header : h ≡ g
  pub list : xs ≡ ys
  pub count : m ≡ n

map_parts : (h : Header) (xs : List Item) (m : ℕ)
    → map_text h xs m ≡ header_line h ++ (flat_map (item_text h.version) xs ++ (end_line m ++ []))
map_parts h xs m =
    append_assoc (header_line h) (flat_map (item_text h.version) xs) (end_line m)
    ∙ ap (λ e. header_line h ++ (flat_map (item_text h.version) xs ++ e)) (sym (append-nil (end_line m)))

pub one_map : (bytes : List ℕ) (h g : Header) (xs ys : List Item) (m n : ℕ) → IsMapOf bytes h xs m
    → IsMapOf bytes g ys n → IsSameMap h g xs ys m n
one_map bytes h g xs ys m n left right =
    let first = one_header h g _ _ left.header right.header (sym (map_parts h xs m) ∙ sym left.spelled ∙ right.spelled
    ∙ map_parts g ys n) in
    let version : g.version ≡ h.version = ap (λ k. k.version) (sym first.header) in
    let body =
    one_body h.version xs ys m n [] [] left.each right.each left.end right.end (first.rest
    ∙ ap (λ v. flat_map (item_text v) ys ++ (end_line n ++ [])) version) in
    record { header = first.header; list = body.list; count = body.count }
