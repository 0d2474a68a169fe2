-- What stands at the front of a text: a part, or lines that do not fit.
use Rattle.std.proofs.Common.{◌≡◌, ◌≢◌, ◌≤◌, ◌<◌, ◌+◌, ◌⊎◌, inl, inr, ℕ, zero, suc, Bool, true, false, cond, ◌==◌, List}
use Rattle.std.proofs.Common.{[], ◌∷◌, ◌++◌, length, drop, Option, Some, None, refl, sym, ap, ◌∙◌, arith}
use Rattle.std.specs.Prelude.{codes}
use Rattle.std.specs.Fmt.{decimal}
use Rattle.std.proofs.lemmas.List.Elements.{All-nil}
use Rattle.std.proofs.lemmas.Option.{none-some}
use Rattle.ce_map.specs.Digits.{IsNumber, numbers_text}
use Rattle.ce_map.specs.DigitsInside.{number_front}
use Rattle.ce_map.specs.FieldsInside.{word_front}
use Rattle.ce_map.specs.Fits.{HasEnd, HasHeader, HasItem, IsUnfit, LacksEnd, LacksHeader}
use Rattle.ce_map.specs.Grammar.{Header, IsList, base_of}
use Rattle.ce_map.specs.ItemsInside.{IsUnfitItem}
use Rattle.ce_map.specs.LinesInside.{angle_front, end_front, header_front}
use Rattle.ce_map.specs.ListsInside.{HasRead, begins_with}
use Rattle.ce_map.specs.declared.lines.AngleLine.{AngleLine}
use Rattle.ce_map.proofs.FieldLaws.{word_taken}
use Rattle.ce_map.proofs.Fronts.{end_lines, end_read, end_taken, header_is_at, header_read, list_then, low_then}
use Rattle.ce_map.proofs.ItemLaws.{item_of, no_rank, no_word, rank_cut, unfit_one, unfit_three, unfit_two, unfit_zero}
use Rattle.ce_map.proofs.ItemLaws.{whole_is, whole_spelled, word_cut}
use Rattle.ce_map.proofs.ListLaws.{begins_is, less_left, no_list, no_number, one_read}
use Rattle.ce_map.proofs.NumberLaws.{number_taken}

-- a header
header_by : (text : List ℕ) (found : Option (Header × List ℕ)) → header_front text ≡ found
    → HasHeader text ⊎ LacksHeader text
header_by text (Some (h, rest)) read =
    let at = header_is_at text h rest read in
    inl (record { header = h; rest = rest; is_header = at.header; spelled = at.spelled })
header_by text None read =
    inr (λ h rest is same. none-some _ (sym read ∙ ap header_front same ∙ header_read h rest is))

pub header_or_not : (text : List ℕ) → HasHeader text ⊎ LacksHeader text
header_or_not text = header_by text (header_front text) refl

-- an end
end_by : (text : List ℕ) (found : Option (ℕ × List ℕ)) → end_front text ≡ found → HasEnd text ⊎ LacksEnd text
end_by text (Some (count, rest)) read =
    let at = end_taken text count rest read in
    inl (record { count = count; rest = rest; number = at.number; spelled = at.spelled ∙ sym (end_lines count rest) })
end_by text None read =
    inr (λ count rest number same. none-some _ (sym read ∙ ap end_front (same ∙ end_lines count rest)
    ∙ end_read count rest number))

pub end_or_not : (text : List ℕ) → HasEnd text ⊎ LacksEnd text
end_or_not text = end_by text (end_front text) refl

-- a list with its line feed
module _ (base : ℕ) (low : 10 ≤ base) (high : base ≤ 16) where
  record HasList (text : List ℕ) : Type 0 where
    list : List ℕ
    rest : List ℕ
    is_list : IsList list
    spelled : text ≡ numbers_text base list ++ 10 ∷ rest

  abbrev LacksList : List ℕ → Type 0
  LacksList text = (list rest : List ℕ) → IsList list → text ≢ numbers_text base list ++ 10 ∷ rest

  -- numbers were read, and no space follows
  list_ends : (text : List ℕ) (count : ℕ) (rest : List ℕ) → HasRead base text count rest → begins_with 32 rest ≡ false
      → (feed : Bool) → begins_with 10 rest ≡ feed → HasList text ⊎ LacksList text
  list_ends text count rest read space false feed = inr (no_list base low high text count rest read space (inr feed))
  list_ends text zero rest read space true feed = inr (no_list base low high text zero rest read space (inl refl))
  list_ends text (suc count) rest read space true feed =
      inl (record {
        list = read.list;
        rest = drop 1 rest;
        is_list = record { some = omega (arith, read.counted); small = read.small };
        spelled = read.spelled ∙ ap (λ l. numbers_text base read.list ++ l) (begins_is base low high 10 rest feed);
      })

  module _ (text : List ℕ) (count : ℕ) (rest : List ℕ) (read : HasRead base text count rest) where
    abbrev Next : Type 0
    Next = (after : List ℕ) → length after < length rest → HasRead base text (count + 1) after
        → HasList text ⊎ LacksList text

    list_more : begins_with 32 rest ≡ true → Next → (found : Option (ℕ × List ℕ))
        → number_front base (drop 1 rest) ≡ found → HasList text ⊎ LacksList text
    list_more space next None number = inr (no_number base low high text count rest read space number)
    list_more space next (Some (n, after)) number =
        next after (less_left base low high text count rest read n after space number)
        (one_read base low high text count rest read n after space number)

    list_by : Next → (space : Bool) → begins_with 32 rest ≡ space → HasList text ⊎ LacksList text
    list_by next false space = list_ends text count rest read space (begins_with 10 rest) refl
    list_by next true space = list_more space next (number_front base (drop 1 rest)) refl

  list_from : (fuel : ℕ) (text : List ℕ) (count : ℕ) (rest : List ℕ) → length rest < fuel → HasRead base text count rest
      → HasList text ⊎ LacksList text
  list_from zero text count rest few read = absurd (omega (arith, few))
  list_from (suc fuel) text count rest few read =
      list_by text count rest read (λ after less more. list_from fuel text (count + 1) after
      (omega (arith, less, few)) more) (begins_with 32 rest) refl

  list_or_not : (text : List ℕ) → HasList text ⊎ LacksList text
  list_or_not text =
      list_from (length text + 1) text 0 text (omega arith) (record {
        list = [];
        small = All-nil IsNumber;
        counted = refl;
        spelled = refl;
        plain = λ some. absurd (omega (arith, some));
      })

base_by : (t : Bool) (b : ℕ) → b ≡ cond t 10 16 → (10 ≤ b) × (b ≤ 16)
base_by true b e = (omega arith, omega arith)
base_by false b e = (omega arith, omega arith)

base_is : (version : ℕ) → (10 ≤ base_of version) × (base_of version ≤ 16)
base_is version = base_by (version == 1) (base_of version) refl

-- a name and a list after it
module _ (name : List ℕ) (base : ℕ) (low : 10 ≤ base) (high : base ≤ 16) (text : List ℕ) where
  record HasNamed : Type 0 where
    list : List ℕ
    rest : List ℕ
    is_list : IsList list
    spelled : text ≡ list_then name base list rest

  named_by : (found : Option (List ℕ)) → word_front name text ≡ found → HasNamed ⊎ ((list rest : List ℕ) → IsList list
      → text ≢ list_then name base list rest)
  named_by None word = inr (λ list rest is same. no_word name text word _ same)
  named_by (Some tail) word = elim (list_or_not base low high tail) [
    | inl has ↦ inl (record {
      list = has.list;
      rest = has.rest;
      is_list = has.is_list;
      spelled = word_taken name text tail word ∙ ap (λ l. name ++ l) has.spelled;
    })
    | inr none ↦ inr (λ list rest is same. none list rest is (word_cut name text tail _ word same))
  ]

  named_or_not : HasNamed ⊎ ((list rest : List ℕ) → IsList list → text ≢ list_then name base list rest)
  named_or_not = named_by (word_front name text) refl

-- the line of the low vector
module _ (base : ℕ) (low : 10 ≤ base) (high : base ≤ 16) (text : List ℕ) where
  record HasLow : Type 0 where
    rank : ℕ
    list : List ℕ
    rest : List ℕ
    small : IsNumber rank
    is_list : IsList list
    spelled : text ≡ low_then base rank list rest

  abbrev LacksLow : Type 0
  LacksLow = (rank : ℕ) (list rest : List ℕ) → IsNumber rank → IsList list → text ≢ low_then base rank list rest

  rank_by : (tail : List ℕ) → word_front (codes "low ") text ≡ Some tail → (found : Option (ℕ × List ℕ))
      → number_front 10 tail ≡ found → HasLow ⊎ LacksLow
  rank_by tail word None number =
      inr (λ rank list rest small is same. no_rank base (codes "low ") text tail word number rank list rest small same)
  rank_by tail word (Some (rank, after)) number = elim (list_or_not base low high after) [
    | inl has ↦ inl (let taken = number_taken 10 (omega arith) (omega arith) tail rank after number in record {
      rank = rank;
      list = has.list;
      rest = has.rest;
      small = taken.small;
      is_list = has.is_list;
      spelled =
          word_taken (codes "low ") text tail word ∙ ap (λ l. codes "low " ++ l) (taken.spelled
          ∙ ap (λ l. decimal rank ++ l) has.spelled);
    })
    | inr none ↦ inr (λ other list rest small is same. none list rest is
        (rank_cut base (codes "low ") text tail rank after word number other list rest small same))
  ]

  low_by : (found : Option (List ℕ)) → word_front (codes "low ") text ≡ found → HasLow ⊎ LacksLow
  low_by None word = inr (λ rank list rest small is same. no_word (codes "low ") text word _ same)
  low_by (Some tail) word = rank_by tail word (number_front 10 tail) refl

  low_or_not : HasLow ⊎ LacksLow
  low_or_not = low_by (word_front (codes "low ") text) refl

-- an item
module _ (version : ℕ) (text : List ℕ) where
  abbrev ItemOrLines : Type 0
  ItemOrLines = HasItem version text ⊎ ((lines : ℕ) × IsUnfitItem version text lines)

  item_by : (found : Option (AngleLine × List ℕ)) → angle_front text ≡ found → ItemOrLines
  item_by None first = inr (0, unfit_zero version text first)
  item_by (Some (l, t)) first =
      let base = base_is version in
      elim (named_or_not (codes "ranks") 10 (omega arith) (omega arith) t) [
        | inr none ↦ inr (1, unfit_one version text l t first none)
        | inl ranks ↦ elim (low_or_not (base_of version) base.0 base.1 ranks.rest) [
          | inr none ↦ inr (2, unfit_two version text l t first ranks.list ranks.rest ranks.is_list ranks.spelled none)
          | inl low ↦ elim (named_or_not (codes "high") (base_of version) base.0 base.1 low.rest) [
            | inr none ↦ inr (
              3,
              unfit_three version text l t first ranks.list ranks.rest ranks.is_list ranks.spelled
                  low.rank low.list low.rest low.small low.is_list low.spelled none,
            )
            | inl high ↦ inl (record {
              item = item_of l ranks.list low.rank low.list high.list;
              rest = high.rest;
              is_item =
                  whole_is version text l t first ranks.list ranks.rest ranks.is_list ranks.spelled low.rank low.list
                  low.rest low.small low.is_list low.spelled high.list high.rest high.is_list high.spelled;
              spelled =
                  whole_spelled version text l t first ranks.list ranks.rest ranks.is_list ranks.spelled low.rank
                  low.list low.rest low.small low.is_list low.spelled high.list high.rest high.is_list high.spelled;
            })
          ]
        ]
      ]

  -- what stands where an item or the end is expected
  pub next_part : HasItem version text ⊎ (HasEnd text ⊎ ((lines : ℕ) × IsUnfit version text lines))
  next_part = elim (end_or_not text) [
    | inl end ↦ inr (inl end)
    | inr none ↦ elim (item_by (angle_front text) refl) [
      | inl item ↦ inl item
      | inr (lines, unfit) ↦ inr (inr (
        lines,
        record {
          few = unfit.few;
          fits = unfit.fits;
          next = unfit.next;
          no_end = none;
        },
      ))
    ]
  ]
