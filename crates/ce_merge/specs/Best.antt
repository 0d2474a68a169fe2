-- The merge of items (`IsMerged`): of each angle the one item with the best ends, or two with one each
-- (`AreKept`); and the best interval (`IsBest`), which a merge keeps: the law `merges_keep_the_best`.
-- Source: this project's choice.
use Rattle.std.specs.Prelude.{◌≡◌, ◌≤◌, ◌==◌, ◌&&◌, ℕ, Bool, List, [], ◌∷◌, ◌++◌, All, Contains}
use Rattle.std.specs.List.{AllPairs, AllZip, filter, flat_map}
use Rattle.ce_angle.specs.Fraction.{Fraction}
use Rattle.ce_angle.specs.Order.{IsBelow}
use Rattle.ce_map.specs.Grammar.{Item}

abbrev pub is_at : Fraction → Item → Bool
is_at f item = item.angle.num == f.num && item.angle.den == f.den

-- the items of an angle, in their order
abbrev pub items_at : Fraction → List Item → List Item
items_at f items = filter (is_at f) items

abbrev pub HasGreatestLow : List Item → Item → Type 0
HasGreatestLow items item = All (λ other. other.evidence.low ≤ item.evidence.low) items

abbrev pub HasLeastHigh : List Item → Item → Type 0
HasLeastHigh items item = All (λ other. item.evidence.high ≤ other.evidence.high) items

abbrev pub HasBoth : List Item → Item → Type 0
HasBoth items item = HasGreatestLow items item × HasLeastHigh items item

-- An item is the first of a list with a property.
pub record IsFirst {X : Type 0} (P : X → Type 0) (items : List X) (item : X) : Type 0 where
  pub before : List X
  pub after : List X
  pub split : items ≡ before ++ (item ∷ after)
  pub has : P item
  pub none : All (λ other. ¬ (P other)) before

-- What is kept of the items of one angle: the first that has both best ends alone; where none has both,
-- the first with the greatest low, and then the first with the least high.
abbrev pub AreKept : List Item → List Item → Type 0
AreKept items (i ∷ []) = IsFirst (HasBoth items) items i
AreKept items (i ∷ (j ∷ [])) =
    All (λ other. ¬ (HasBoth items other)) items
    × (IsFirst (HasGreatestLow items) items i × IsFirst (HasLeastHigh items) items j)
AreKept items kept = ⊥

-- the items of lists, one list after another
abbrev pub all_of : List (List Item) → List Item
all_of lists = flat_map (λ list. list) lists

-- The items that are kept: of each angle, the angles rising.
pub record IsMerged (items kept : List Item) : Type 0 where
  pub angles : List Fraction
  pub groups : List (List Item)
  pub rising : AllPairs IsBelow angles
  pub every : All (λ item. Contains angles item.angle) items
  pub each : AllZip (λ f group. AreKept (items_at f items) group) angles groups
  pub joined : kept ≡ all_of groups

-- The best interval of items: the greatest low and the least high.
pub record IsBest (items : List Item) (low high : ℕ) : Type 0 where
  pub from_low : Item
  pub from_high : Item
  pub in_low : Contains items from_low
  pub in_high : Contains items from_high
  pub is_low : low ≡ from_low.evidence.low
  pub is_high : high ≡ from_high.evidence.high
  pub greatest : HasGreatestLow items from_low
  pub least : HasLeastHigh items from_high

-- Two lists have the same elements, in whatever order, and each as often as may be.
pub record HaveSame {X : Type 0} (xs ys : List X) : Type 0 where
  pub there : All (Contains ys) xs
  pub back : All (Contains xs) ys
