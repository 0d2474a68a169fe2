-- Inside a part one thing is wrong: an unfit line, a flawed item, or another count.
use Rattle.std.proofs.Common.{◌≡◌, ◌≢◌, ◌+◌, ◌⊎◌, ℕ, List, ◌++◌, length}
use Rattle.std.proofs.Common.{refl, sym, ap, subst, ◌∙◌, arith, inl, inr}
use Rattle.ce_cert.specs.declared.certificate.Flaw.{Flaw}
use Rattle.ce_cert.specs.declared.certificate.Flaw.TheVariants as flaw
use Rattle.ce_check.specs.Flaws.{HasFlaw}
use Rattle.ce_check.proofs.OneFront.{unfit_no_item}
use Rattle.ce_check.proofs.OneItem.{same_flaw}
use Rattle.ce_check.proofs.OneVerdict.{one_unfit}
use Rattle.ce_map.specs.Digits.{IsNumber}
use Rattle.ce_map.specs.Fits.{IsUnfit}
use Rattle.ce_map.specs.Grammar.{Header, Item, IsItem, item_text, end_line}
use Rattle.ce_map.proofs.Unique.{one_item, one_end, no_end}
use Rattle.ce_merge.specs.Flaws.{IsItemCause, MayFollow, line_in}
use Rattle.ce_merge.specs.Parts.{IsGoodPart}
use Rattle.ce_merge.specs.declared.merged.MergeCause.{MergeCause}
use Rattle.ce_merge.specs.declared.merged.MergeCause.TheVariants.{Form, Header as OtherHeader, Order, Length, Rank}
use Rattle.ce_merge.specs.declared.merged.MergeCause.TheVariants.{Entry, Low, High, Count}
use Rattle.ce_merge.proofs.OneReading.{IsItemsEnd, end_ends, item_ends}
use Rattle.ce_merge.proofs.OneReading.{unfit_ends}

-- the cause of an item
abbrev cause_of : Flaw → MergeCause
cause_of flaw.Length = Length
cause_of flaw.Rank = Rank
cause_of flaw.Entry = Entry
cause_of flaw.Low = Low
cause_of flaw.High = High

record IsFlawed (order exponent : ℕ) (items : List Item) (item : Item) (cause : MergeCause) : Type 0 where
  flaw_is : Flaw
  cause_is : cause ≡ cause_of flaw_is
  may : MayFollow order items item.angle
  flawed : HasFlaw exponent item flaw_is

module _ (order exponent : ℕ) (items : List Item) (item : Item) where
  abbrev ItemKind : MergeCause → Type 0
  ItemKind cause = ((cause ≡ Order) × (¬ (MayFollow order items item.angle))) ⊎ IsFlawed order exponent items item cause

  item_kind : (cause : MergeCause) → IsItemCause order exponent items item cause → ItemKind cause
  item_kind Order k = inl (refl, k)
  item_kind Length k = inr (record { flaw_is = flaw.Length; cause_is = refl; may = k.0; flawed = k.1 })
  item_kind Rank k = inr (record { flaw_is = flaw.Rank; cause_is = refl; may = k.0; flawed = k.1 })
  item_kind Entry k = inr (record { flaw_is = flaw.Entry; cause_is = refl; may = k.0; flawed = k.1 })
  item_kind Low k = inr (record { flaw_is = flaw.Low; cause_is = refl; may = k.0; flawed = k.1 })
  item_kind High k = inr (record { flaw_is = flaw.High; cause_is = refl; may = k.0; flawed = k.1 })
  item_kind Form k = absurd k
  item_kind OtherHeader k = absurd k
  item_kind Count k = absurd k

  same_kind : (c d : MergeCause) → ItemKind c → ItemKind d → c ≡ d
  same_kind c d (inl a) (inl b) = a.0 ∙ sym b.0
  same_kind c d (inl a) (inr b) = absurd (a.1 b.may)
  same_kind c d (inr a) (inl b) = absurd (b.1 a.may)
  same_kind c d (inr a) (inr b) =
      a.cause_is ∙ ap cause_of (same_flaw exponent item a.flaw_is b.flaw_is a.flawed b.flawed) ∙ sym b.cause_is

  one_cause : (c d : MergeCause) → IsItemCause order exponent items item c → IsItemCause order exponent items item d
      → c ≡ d
  one_cause c d a b = same_kind c d (item_kind c a) (item_kind d b)

-- What is wrong inside a part, after good items.
module _ (h : Header) (parts : List (List Item)) (items : List Item) (inside : List ℕ) where
  pub record UnfitSays (line : ℕ) (cause : MergeCause) : Type 0 where
    pub lines : ℕ
    pub unfit : IsUnfit 2 inside lines
    pub at_line : line ≡ line_in parts items + lines
    pub cause_is : cause ≡ Form

  pub record ItemSays (line : ℕ) (cause : MergeCause) : Type 0 where
    pub item : Item
    pub after : List ℕ
    pub is_item : IsItem item
    pub same : inside ≡ item_text 2 item ++ after
    pub wrong : IsItemCause h.order h.exponent items item cause
    pub at_line : line ≡ line_in parts items

  pub record CountSays (line : ℕ) (cause : MergeCause) : Type 0 where
    pub count : ℕ
    pub after : List ℕ
    pub number : IsNumber count
    pub same : inside ≡ end_line count ++ after
    pub differs : count ≢ length items
    pub at_line : line ≡ line_in parts items
    pub cause_is : cause ≡ Count

  abbrev pub InsideSays : ℕ → MergeCause → Type 0
  InsideSays line cause = UnfitSays line cause ⊎ (ItemSays line cause ⊎ CountSays line cause)

  pub inside_stops : (line : ℕ) (cause : MergeCause) → InsideSays line cause → IsItemsEnd h items inside
  inside_stops line cause (inl k) = unfit_ends h items inside k.lines k.unfit
  inside_stops line cause (inr (inl k)) = item_ends h items k.item k.after inside cause k.is_item k.wrong k.same
  inside_stops line cause (inr (inr k)) = end_ends h items k.count k.after inside k.same

  pub no_whole : (line : ℕ) (cause : MergeCause) → InsideSays line cause → (after : List ℕ) → IsGoodPart h items
      → inside ≡ end_line (length items) ++ after → ⊥
  no_whole line cause (inl k) after part same = k.unfit.no_end (length items) after part.number same
  no_whole line cause (inr (inl k)) after part same = no_end 2 (length items) k.item k.after after (sym k.same ∙ same)
  no_whole line cause (inr (inr k)) after part same =
      k.differs (one_end k.count (length items) k.after after k.number part.number (sym k.same ∙ same)).count

  pub record IsSame (l m : ℕ) (c d : MergeCause) : Type 0 where
    pub line : l ≡ m
    pub cause : c ≡ d

  pub inside_same : (l m : ℕ) (c d : MergeCause) → InsideSays l c → InsideSays m d → IsSame l m c d
  inside_same l m c d (inl a) (inl b) =
      let lines = one_unfit 2 inside a.lines b.lines a.unfit b.unfit in
      record { line = omega (arith, lines, a.at_line, b.at_line); cause = a.cause_is ∙ sym b.cause_is }
  inside_same l m c d (inl a) (inr (inl b)) =
      absurd (unfit_no_item 2 inside a.lines a.unfit b.item b.after b.is_item b.same)
  inside_same l m c d (inl a) (inr (inr b)) = absurd (a.unfit.no_end b.count b.after b.number b.same)
  inside_same l m c d (inr (inl a)) (inl b) =
      absurd (unfit_no_item 2 inside b.lines b.unfit a.item a.after a.is_item a.same)
  inside_same l m c d (inr (inl a)) (inr (inl b)) =
      let one = (one_item 2 b.item a.item b.after a.after b.is_item a.is_item (sym b.same ∙ a.same)).item in
      let wrong = subst (λ i. IsItemCause h.order h.exponent items i d) one b.wrong in
      record { line = a.at_line ∙ sym b.at_line; cause = one_cause h.order h.exponent items a.item c d a.wrong wrong }
  inside_same l m c d (inr (inl a)) (inr (inr b)) =
      absurd (no_end 2 b.count a.item a.after b.after (sym a.same ∙ b.same))
  inside_same l m c d (inr (inr a)) (inl b) = absurd (b.unfit.no_end a.count a.after a.number a.same)
  inside_same l m c d (inr (inr a)) (inr (inl b)) =
      absurd (no_end 2 a.count b.item b.after a.after (sym b.same ∙ a.same))
  inside_same l m c d (inr (inr a)) (inr (inr b)) =
      record { line = a.at_line ∙ sym b.at_line; cause = a.cause_is ∙ sym b.cause_is }
