-- An item at the front of a text, or how many of its lines fit.
use Rattle.std.proofs.Common.{◌≡◌, ◌≢◌, ◌≤◌, ◌-◌, ℕ, Bool, true, false, cond, ◌==◌, List, [], ◌∷◌, ◌++◌, length, take}
use Rattle.std.proofs.Common.{Option, Some, None, refl, sym, ap, ◌∙◌, arith, length-append}
use Rattle.std.specs.Prelude.{codes}
use Rattle.std.specs.Option.{IfNone}
use Rattle.std.specs.Fmt.{decimal}
use Rattle.std.proofs.lemmas.List.Elements.{All-nil, All-cons}
use Rattle.std.proofs.lemmas.Option.{same_Some, some_pair_parts, none-some}
use Rattle.std.proofs.Math.Seq.{take-append_seam}
use Rattle.ce_map.specs.Digits.{IsNumber, numbers_text}
use Rattle.ce_map.specs.DigitsInside.{is_plain, number_front}
use Rattle.ce_map.specs.FieldsInside.{word_front}
use Rattle.ce_map.specs.Grammar.{Item, IsItem, IsList, base_of, item_text}
use Rattle.ce_map.specs.ItemsInside.{IsUnfitItem, IsNamedListAt, IsLowAt}
use Rattle.ce_map.specs.LinesInside.{angle_front}
use Rattle.ce_map.specs.ListsInside.{IsListAt}
use Rattle.ce_map.specs.declared.lines.AngleLine.{AngleLine}
use Rattle.ce_map.specs.declared.numbers.Numbers.{Numbers}
use Rattle.ce_map.proofs.FieldLaws.{word_again, word_taken}
use Rattle.ce_map.proofs.Fronts.{line_of, angle_then, list_then, low_then, one_line, two_lines, three_lines, four_lines}
use Rattle.ce_map.proofs.Fronts.{AreNumbers, angle_read, angle_taken, one_angle}
use Rattle.ce_map.proofs.ListLaws.{one_list}
use Rattle.ce_map.proofs.NumberLaws.{number_again, number_taken}

-- what a word says that was found, or not
pub no_word : (name text : List ℕ) → word_front name text ≡ None → (after : List ℕ) → text ≢ name ++ after
no_word name text none after same = none-some _ (sym none ∙ ap (word_front name) same ∙ word_again name after)

pub word_cut : (name text found after : List ℕ) → word_front name text ≡ Some found → text ≡ name ++ after
    → found ≡ after
word_cut name text found after some same =
    same_Some found after (sym some ∙ ap (word_front name) same ∙ word_again name after)

pub named_is : (name : List ℕ) (base : ℕ) (text tail : List ℕ) (numbers : Numbers) (rest : List ℕ)
    → word_front name text ≡ Some tail → IsListAt base tail numbers rest → IsNamedListAt name base text numbers rest
named_is name base text tail numbers rest found is = record {
  list = is.list;
  is_list = is.is_list;
  shown = is.shown;
  spelled = word_taken name text tail found ∙ ap (λ t. name ++ t) is.spelled;
}

-- a list begins with no digit
list_plain : (base : ℕ) (list rest : List ℕ) → is_plain 10 (numbers_text base list ++ 10 ∷ rest) ≡ true
list_plain base [] rest = refl
list_plain base (x ∷ xs) rest = refl

pub rank_read : (base rank : ℕ) (list rest : List ℕ) → IsNumber rank
    → number_front 10 (decimal rank ++ (numbers_text base list ++ 10 ∷ rest)) ≡ Some
    (rank, numbers_text base list ++ 10 ∷ rest)
rank_read base rank list rest small =
    number_again 10 (omega arith) (omega arith) rank (numbers_text base list ++ 10 ∷ rest) small
    (list_plain base list rest)

pub no_rank : (base : ℕ) (name text tail : List ℕ) → word_front name text ≡ Some tail → number_front 10 tail ≡ None
    → (rank : ℕ) (list rest : List ℕ) → IsNumber rank
    → text ≢ name ++ (decimal rank ++ (numbers_text base list ++ 10 ∷ rest))
no_rank base name text tail found none rank list rest small same =
    none-some _ (sym none ∙ ap (number_front 10) (word_cut name text tail _ found same)
    ∙ rank_read base rank list rest small)

pub rank_cut : (base : ℕ) (name text tail : List ℕ) (n : ℕ) (after : List ℕ) → word_front name text ≡ Some tail
    → number_front 10 tail ≡ Some (n, after) → (rank : ℕ) (list rest : List ℕ) → IsNumber rank
    → text ≡ name ++ (decimal rank ++ (numbers_text base list ++ 10 ∷ rest))
    → after ≡ numbers_text base list ++ 10 ∷ rest
rank_cut base name text tail n after found number rank list rest small same =
    (some_pair_parts n rank after _ (sym number ∙ ap (number_front 10) (word_cut name text tail _ found same)
    ∙ rank_read base rank list rest small)).1

pub low_is_at : (name : List ℕ) (base : ℕ) (text tail : List ℕ) (n : ℕ) (after : List ℕ) (numbers : Numbers)
    (rest : List ℕ) → word_front name text ≡ Some tail → number_front 10 tail ≡ Some (n, after)
    → IsListAt base after numbers rest → IsLowAt name base text n numbers rest
low_is_at name base text tail n after numbers rest found number is =
    let taken = number_taken 10 (omega arith) (omega arith) tail n after number in
    record {
      list = is.list;
      is_list = is.is_list;
      small = taken.small;
      shown = is.shown;
      spelled =
          word_taken name text tail found ∙ ap (λ t. name ++ t) (taken.spelled ∙ ap (λ t. decimal n ++ t) is.spelled);
    }

-- an item by its parts
abbrev pub item_of : AngleLine → List ℕ → ℕ → List ℕ → List ℕ → Item
item_of l ranks rank v w = record {
  angle = record { num = l.num; den = l.den };
  evidence = record { ranks = ranks; low_rank = rank; low_vector = v; high_vector = w; low = l.low; high = l.high };
}

is_item_of : (l : AngleLine) (ranks : List ℕ) (rank : ℕ) (v w : List ℕ) → AreNumbers l → IsList ranks → IsNumber rank
    → IsList v → IsList w → IsItem (item_of l ranks rank v w)
is_item_of l ranks rank v w line a b c d = record {
  num = line.num;
  den = line.den;
  low = line.low;
  high = line.high;
  ranks = a;
  low_rank = b;
  low_vector = c;
  high_vector = d;
}

pub numbers_of : (item : Item) → IsItem item → AreNumbers (line_of item)
numbers_of item is = record { num = is.num; den = is.den; low = is.low; high = is.high }

-- a list of one 0
abbrev zeros : List ℕ
zeros = 0 ∷ []

zeros_are : IsList zeros
zeros_are = record { some = omega arith; small = All-cons IsNumber 0 [] (omega arith) (All-nil IsNumber) }

abbrev no_line : AngleLine
no_line = record { num = 0; den = 0; low = 0; high = 0 }

no_line_is : AreNumbers no_line
no_line_is = record { num = omega arith; den = omega arith; low = omega arith; high = omega arith }

module _ (version : ℕ) (text : List ℕ) where
  pub unfit_zero : angle_front text ≡ None → IsUnfitItem version text 0
  unfit_zero none = record {
    few = omega arith;
    fits = record {
      item = item_of no_line zeros 0 zeros zeros;
      rest = text;
      is_item = is_item_of no_line zeros 0 zeros zeros no_line_is zeros_are (omega arith) zeros_are zeros_are;
      spelled = refl;
    };
    next = λ item rest is same. none-some _ (sym none ∙ ap angle_front (same ∙ one_line version item rest)
        ∙ angle_read (line_of item) rest (numbers_of item is));
  }

  module _ (l : AngleLine) (t : List ℕ) (first : angle_front text ≡ Some (l, t)) where
    line_is : AreNumbers l
    line_is = (angle_taken text l t first).numbers

    spelled_one : text ≡ angle_then l t
    spelled_one = (angle_taken text l t first).spelled

    after_one : (item : Item) (rest : List ℕ) → IsItem item → text ≡ angle_then (line_of item) rest → t ≡ rest
    after_one item rest is same =
        (one_angle l (line_of item) t rest line_is (numbers_of item is) (sym spelled_one ∙ same)).rest

    pub unfit_one : ((list rest : List ℕ) → IsList list → t ≢ list_then (codes "ranks") 10 list rest)
        → IsUnfitItem version text 1
    unfit_one none = record {
      few = omega arith;
      fits = record {
        item = item_of l zeros 0 zeros zeros;
        rest = t;
        is_item = is_item_of l zeros 0 zeros zeros line_is zeros_are (omega arith) zeros_are zeros_are;
        spelled = spelled_one ∙ sym (one_line version (item_of l zeros 0 zeros zeros) t);
      };
      next = λ item rest is same. none item.evidence.ranks rest is.ranks
          (after_one item _ is (same ∙ two_lines version item rest));
    }

    module _ (xs t2 : List ℕ) (ranks : IsList xs) (second : t ≡ list_then (codes "ranks") 10 xs t2) where
      spelled_two : text ≡ angle_then l (list_then (codes "ranks") 10 xs t2)
      spelled_two = spelled_one ∙ ap (angle_then l) second

      after_two : (item : Item) (rest : List ℕ) → IsItem item
          → text ≡ angle_then (line_of item) (list_then (codes "ranks") 10 item.evidence.ranks rest) → t2 ≡ rest
      after_two item rest is same =
          let both : list_then (codes "ranks") 10 xs t2 ≡ list_then (codes "ranks") 10 item.evidence.ranks rest =
          sym second ∙ after_one item _ is same in
          let tails =
          word_cut (codes "ranks") (list_then (codes "ranks") 10 xs t2) _ _
          (word_again (codes "ranks") (numbers_text 10 xs ++ 10 ∷ t2)) both in
          (one_list 10 (omega arith) (omega arith) xs item.evidence.ranks t2 rest ranks.small is.ranks.small tails).rest

      pub unfit_two : ((rank : ℕ) (list rest : List ℕ) → IsNumber rank → IsList list
          → t2 ≢ low_then (base_of version) rank list rest) → IsUnfitItem version text 2
      unfit_two none = record {
        few = omega arith;
        fits = record {
          item = item_of l xs 0 zeros zeros;
          rest = t2;
          is_item = is_item_of l xs 0 zeros zeros line_is ranks (omega arith) zeros_are zeros_are;
          spelled = spelled_two ∙ sym (two_lines version (item_of l xs 0 zeros zeros) t2);
        };
        next = λ item rest is same. none item.evidence.low_rank item.evidence.low_vector rest is.low_rank is.low_vector
            (after_two item _ is (same ∙ three_lines version item rest));
      }

      module _ (rank : ℕ) (vs t3 : List ℕ) (small : IsNumber rank) (low : IsList vs)
          (third : t2 ≡ low_then (base_of version) rank vs t3) where
        spelled_three : text ≡ angle_then l (list_then (codes "ranks") 10 xs (low_then (base_of version) rank vs t3))
        spelled_three = spelled_two ∙ ap (λ t. angle_then l (list_then (codes "ranks") 10 xs t)) third

        base_low : (b : ℕ) → b ≡ base_of version → (10 ≤ b) × (b ≤ 16)
        base_low b e = base_by (version == 1) b e
          where
            base_by : (t : Bool) (b : ℕ) → b ≡ cond t 10 16 → (10 ≤ b) × (b ≤ 16)
            base_by true b e = (omega arith, omega arith)
            base_by false b e = (omega arith, omega arith)

        after_three : (item : Item) (rest : List ℕ) → IsItem item
            → text ≡ angle_then (line_of item) (list_then (codes "ranks") 10 item.evidence.ranks
            (low_then (base_of version) item.evidence.low_rank item.evidence.low_vector rest)) → t3 ≡ rest
        after_three item rest is same =
            let both : low_then (base_of version) rank vs t3 ≡ low_then (base_of version) item.evidence.low_rank
            item.evidence.low_vector rest = sym third ∙ after_two item _ is same in
            let tails =
            rank_cut (base_of version) (codes "low ") (low_then (base_of version) rank vs t3) _ rank _
            (word_again (codes "low ") _) (rank_read (base_of version) rank vs t3 small) item.evidence.low_rank
            item.evidence.low_vector rest is.low_rank both in
            let base = base_low (base_of version) refl in
            (one_list (base_of version) base.0 base.1 vs item.evidence.low_vector t3 rest low.small is.low_vector.small
            tails).rest

        pub unfit_three : ((list rest : List ℕ) → IsList list
            → t3 ≢ list_then (codes "high") (base_of version) list rest) → IsUnfitItem version text 3
        unfit_three none = record {
          few = omega arith;
          fits = record {
            item = item_of l xs rank vs zeros;
            rest = t3;
            is_item = is_item_of l xs rank vs zeros line_is ranks small low zeros_are;
            spelled = spelled_three ∙ sym (three_lines version (item_of l xs rank vs zeros) t3);
          };
          next = λ item rest is same. none item.evidence.high_vector rest is.high_vector
              (after_three item _ is (same ∙ four_lines version item rest));
        }

        -- a whole item
        module _ (ws t4 : List ℕ) (high : IsList ws) (fourth : t3 ≡ list_then (codes "high") (base_of version) ws t4)
          where
            pub whole_is : IsItem (item_of l xs rank vs ws)
            whole_is = is_item_of l xs rank vs ws line_is ranks small low high

            pub whole_spelled : text ≡ item_text version (item_of l xs rank vs ws) ++ t4
            whole_spelled =
                spelled_three
                ∙ ap (λ t. angle_then l (list_then (codes "ranks") 10 xs (low_then (base_of version) rank vs t)))
                fourth ∙ sym (four_lines version (item_of l xs rank vs ws) t4)

-- how much is left
pub fewer : (text before after : List ℕ) → text ≡ before ++ after → length after ≤ length text
fewer text before after same = omega (arith, ap length same, length-append before after)

pub front_is : (text before after : List ℕ) → text ≡ before ++ after → take (length text - length after) text ≡ before
front_is text before after same =
    let count : length text - length after ≡ length before =
    omega (arith, ap length same, length-append before after) in
    ap (λ n. take n text) count ∙ ap (take (length before)) same ∙ take-append_seam before after
