-- Bytes are good parts, or have a first flaw.
use Rattle.std.proofs.Common.{◌≡◌, ◌≢◌, ◌<◌, ◌≤◌, ◌+◌, ◌⊎◌, ◌∙◌, inl, inr, ℕ, zero, suc, List, [], ◌∷◌, ◌++◌}
use Rattle.std.proofs.Common.{length}
use Rattle.std.proofs.Common.{refl, ap, subst, arith, length-append}
use Rattle.std.specs.List.{flat_map}
use Rattle.std.proofs.lemmas.List.{append-nil}
use Rattle.std.proofs.lemmas.List.Elements.{All-nil, All-push}
use Rattle.ce_cert.proofs.FirstFlaw.{Test, same_or_not}
use Rattle.ce_check.specs.GoodMap.{IsCertified}
use Rattle.ce_map.specs.Digits.{IsNumber}
use Rattle.ce_map.specs.Fits.{HasEnd, HasItem, IsUnfit}
use Rattle.ce_map.specs.Grammar.{Header, Item, end_line, item_text}
use Rattle.ce_map.specs.PartGrammar.{IsPartHeader, part_line}
use Rattle.ce_map.proofs.NextPart.{next_part}
use Rattle.ce_map.proofs.WalkLaws.{item_long}
use Rattle.ce_merge.specs.Flaws.{AreGoodBefore, AreGoodSoFar, HasFlawedItem, IsItemCause, MayFollow, line_in, lines_of}
use Rattle.ce_merge.specs.Merges.{HasFirstFlaw, HasGoodParts}
use Rattle.ce_merge.specs.Parts.{IsGoodPart, whole_part}
use Rattle.ce_merge.specs.declared.merged.MergeCause.{MergeCause}
use Rattle.ce_merge.specs.declared.merged.MergeCause.TheVariants as cause
use Rattle.ce_merge.proofs.PartTests.{HasPart, part_or_not, same_header_or_not, look, Look}
use Rattle.ce_merge.proofs.PartTexts.{more_parts, more_texts}
use Rattle.ce_merge.proofs.PartsFollow.{no_part, none_good}
use Rattle.ce_merge.proofs.PartsRead.{good_more, item_flaw}

abbrev Found : List ℕ → Type 0
Found bytes = HasGoodParts bytes ⊎ HasFirstFlaw bytes

-- how much shorter what follows is
after_item : (rest : List ℕ) (item : HasItem 2 rest) → length item.rest < length rest
after_item rest item =
    omega (arith, item_long 2 item.item, ap length item.spelled, length-append (item_text 2 item.item) item.rest)

after_end : (rest : List ℕ) (end : HasEnd rest) → length end.rest < length rest
after_end rest end =
    let long : 1 ≤ length (end_line end.count) = omega arith in
    omega (arith, long, ap length end.spelled, length-append (end_line end.count) end.rest)

after_part : (rest : List ℕ) (part : HasPart rest) → length part.rest < length rest
after_part rest part =
    let long : 1 ≤ length (part_line part.header) = omega arith in
    omega (arith, long, ap length part.spelled, length-append (part_line part.header) part.rest)

module _ (bytes : List ℕ) (h : Header) (is : IsPartHeader h) where
  abbrev Goes : ℕ → Type 0
  Goes fuel = (parts : List (List Item)) (items : List Item) (rest : List ℕ) → length rest < fuel
      → AreGoodSoFar bytes h parts items rest → Found bytes

  module _ (parts : List (List Item)) (items : List Item) (rest : List ℕ)
      (so_far : AreGoodSoFar bytes h parts items rest) where
    so_far_before : (tail : List ℕ) → rest ≡ tail → AreGoodSoFar bytes h parts items tail
    so_far_before tail same = subst (AreGoodSoFar bytes h parts items) same so_far

    unfit : (lines : ℕ) → IsUnfit 2 rest lines → Found bytes
    unfit lines lacks =
        inr (record {
          line = line_in parts items + lines;
          cause = cause.Form;
          is = inr (record {
            header = h;
            parts = parts;
            items = items;
            rest = rest;
            lines = lines;
            so_far = so_far;
            unfit = lacks;
            at_line = refl;
          });
        })

    module _ (item : HasItem 2 rest) where
      before_item : AreGoodSoFar bytes h parts items (item_text 2 item.item ++ item.rest)
      before_item = so_far_before (item_text 2 item.item ++ item.rest) item.spelled

      flawed : (c : MergeCause) → IsItemCause h.order h.exponent items item.item c → Found bytes
      flawed c wrong =
          let has : HasFlawedItem bytes (line_in parts items) c = record {
            header = h;
            parts = parts;
            items = items;
            item = item.item;
            after = item.rest;
            so_far = before_item;
            is_item = item.is_item;
            cause_is = wrong;
            at_line = refl;
          } in
          inr (record {
            line = line_in parts items;
            cause = c;
            is = item_flaw bytes (line_in parts items) h.order h.exponent items item.item c wrong has;
          })

      one_more : MayFollow h.order items item.item.angle → IsCertified h.exponent item.item
          → AreGoodSoFar bytes h parts (items ++ item.item ∷ []) item.rest
      one_more may certified = record {
        before = subst (AreGoodBefore bytes h parts)
            (ap (λ l. part_line h ++ l) (more_texts items item.item item.rest)) before_item.before;
        good = good_more h items item.item may so_far.good item.is_item certified;
      }

    module _ (end : HasEnd rest) where
      before_end : AreGoodSoFar bytes h parts items (end_line end.count ++ end.rest)
      before_end = so_far_before (end_line end.count ++ end.rest) end.spelled

      other_count : end.count ≢ length items → Found bytes
      other_count differs =
          inr (record {
            line = line_in parts items;
            cause = cause.Count;
            is = record {
              header = h;
              parts = parts;
              items = items;
              count = end.count;
              after = end.rest;
              so_far = before_end;
              number = end.number;
              differs = differs;
              at_line = refl;
            };
          })

      whole : end.count ≡ length items → AreGoodBefore bytes h (parts ++ items ∷ []) end.rest
      whole counted =
          let before = before_end.before in
          let texts = flat_map (item_text 2) items in
          let told =
          ap (λ n. flat_map (whole_part h) parts ++ (part_line h ++ (texts ++ (end_line n ++ end.rest)))) counted in
          let number = subst IsNumber counted end.number in
          record {
            header = before.header;
            good = All-push (IsGoodPart h) parts items before.good (record { good = so_far.good; number = number });
            spelled = before.spelled ∙ told ∙ more_parts h parts items end.rest;
          }

  -- where a part ends: nothing follows, or another part, or none begins
  module _ (fuel : ℕ) (goes : Goes fuel) (parts : List (List Item)) (some : parts ≢ []) where
    next_by : (rest : List ℕ) → rest ≢ [] → length rest < fuel → AreGoodBefore bytes h parts rest
        → (part : HasPart rest) → Test (part.header ≡ h) → Found bytes
    next_by rest left enough before part (inl same) =
        let spelled = part.spelled ∙ ap (λ g. part_line g ++ part.rest) same in
        let less = after_part rest part in
        goes parts [] part.rest (omega (arith, less, enough)) (record {
          before = subst (AreGoodBefore bytes h parts) spelled before;
          good = none_good h;
        })
    next_by rest left enough before part (inr differs) =
        inr (record {
          line = 1 + lines_of parts;
          cause = cause.Header;
          is = record {
            header = h;
            parts = parts;
            rest = rest;
            before = before;
            later = some;
            begins = record {
              other = part.header;
              after = part.rest;
              is_header = part.is_header;
              spelled = part.spelled;
              differs = differs;
            };
            at_line = refl;
          };
        })

    part_next : (rest : List ℕ) → rest ≢ [] → length rest < fuel → AreGoodBefore bytes h parts rest → Found bytes
    part_next rest left enough before = elim (part_or_not rest) [
      | inl part ↦ next_by rest left enough before part (same_header_or_not part.header h)
      | inr lacks ↦ inr (record {
        line = 1 + lines_of parts;
        cause = cause.Form;
        is = inl (record {
          header = h;
          parts = parts;
          rest = rest;
          before = before;
          needed = inr left;
          lacks = lacks;
          at_line = refl;
        });
      })
    ]

    after_whole : (rest : List ℕ) → length rest < fuel → AreGoodBefore bytes h parts rest → Found bytes
    after_whole [] enough before =
        inl (record {
          header = h;
          parts = parts;
          good = record {
            header = before.header;
            some = some;
            spelled = before.spelled ∙ append-nil (flat_map (whole_part h) parts);
            good = before.good;
          };
        })
    after_whole (byte ∷ rest) enough before = part_next (byte ∷ rest) (λ none. cc) enough before

  module _ (fuel : ℕ) (goes : Goes fuel) (parts : List (List Item)) (items : List Item) (rest : List ℕ)
      (enough : length rest < suc fuel) (so_far : AreGoodSoFar bytes h parts items rest) where
    item_by : (item : HasItem 2 rest) → Look h is items item.item → Found bytes
    item_by item (inr (c, wrong)) = flawed parts items rest so_far item c wrong
    item_by item (inl (may, certified)) =
        let less = after_item rest item in
        goes parts (items ++ item.item ∷ []) item.rest (omega (arith, less, enough))
        (one_more parts items rest so_far item may certified)

    end_by : (end : HasEnd rest) → Test (end.count ≡ length items) → Found bytes
    end_by end (inr differs) = other_count parts items rest so_far end differs
    end_by end (inl counted) =
        let less = after_end rest end in
        let some : parts ++ items ∷ [] ≢ [] = λ none. omega (arith, ap length none, length-append parts (items ∷ [])) in
        after_whole fuel goes (parts ++ items ∷ []) some end.rest (omega (arith, less, enough))
        (whole parts items rest so_far end counted)

  walk : (fuel : ℕ) → Goes fuel
  walk zero parts items rest enough so_far = absurd (omega (arith, enough))
  walk (suc fuel) parts items rest enough so_far = elim (next_part 2 rest) [
    | inl item ↦ item_by fuel (walk fuel) parts items rest enough so_far item (look h is items item.item)
    | inr (inl end) ↦ end_by fuel (walk fuel) parts items rest enough so_far end (same_or_not end.count (length items))
    | inr (inr (lines, lacks)) ↦ unfit parts items rest so_far lines lacks
  ]

pub some_answer : (bytes : List ℕ) → Found bytes
some_answer bytes = elim (part_or_not bytes) [
  | inr lacks ↦ inr (record { line = 1; cause = cause.Form; is = no_part bytes lacks })
  | inl part ↦
      let h = part.header in
      walk bytes h part.is_header (length part.rest + 1) [] [] part.rest (omega arith) (record {
        before = record { header = part.is_header; good = All-nil (IsGoodPart h); spelled = part.spelled };
        good = none_good h;
      })
]
