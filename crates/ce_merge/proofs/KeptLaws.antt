-- What is kept of the items of one angle.
use Rattle.std.proofs.Common.{◌≡◌, ◌≤◌, ◌⊎◌, List, [], ◌∷◌, ◌++◌, refl, sym, ap, subst, ◌∙◌, arith, inl, inr}
use Rattle.std.specs.List.{All, Contains}
use Rattle.std.proofs.lemmas.List.Elements.{All-nil, All-cons, All-head, All-tail, All-contains, Contains-append_right}
use Rattle.ce_map.specs.Grammar.{Item}
use Rattle.ce_merge.specs.Best.{HasGreatestLow, HasLeastHigh, HasBoth, IsFirst, AreKept}

pub all_by : {X : Type 0} (P Q : X → Type 0) (xs : List X) → ((x : X) → P x → Q x) → All P xs → All Q xs
all_by P Q xs f all = λ k d less. f _ (all k d less)

pub first_in : (P : Item → Type 0) (items : List Item) (i : Item) → IsFirst P items i → Contains items i
first_in P items i h =
    subst (λ l. Contains l i) (sym h.split) (Contains-append_right h.before (i ∷ h.after) i (0, omega arith, refl))

-- There is one first item.
one_split : (P : Item → Type 0) (b c a d : List Item) (i j : Item) → b ++ (i ∷ a) ≡ c ++ (j ∷ d)
    → All (λ o. ¬ (P o)) b → All (λ o. ¬ (P o)) c → P i → P j → i ≡ j
one_split P [] [] a d i j same left right pi pj = cc
one_split P [] (y ∷ ys) a d i j same left right pi pj =
    let here : i ≡ y = cc in absurd (All-head (λ o. ¬ (P o)) y ys right (subst P here pi))
one_split P (x ∷ xs) [] a d i j same left right pi pj =
    let here : j ≡ x = cc in absurd (All-head (λ o. ¬ (P o)) x xs left (subst P here pj))
one_split P (x ∷ xs) (y ∷ ys) a d i j same left right pi pj =
    let rest : xs ++ (i ∷ a) ≡ ys ++ (j ∷ d) = cc in
    one_split P xs ys a d i j rest (All-tail (λ o. ¬ (P o)) x xs left) (All-tail (λ o. ¬ (P o)) y ys right) pi pj

pub one_first : (P : Item → Type 0) (items : List Item) (i j : Item) → IsFirst P items i → IsFirst P items j → i ≡ j
one_first P items i j f g = one_split P f.before g.before f.after g.after i j (sym f.split ∙ g.split) f.none g.none
    f.has g.has

-- the two forms of what is kept
pub record IsOneKept (items kept : List Item) : Type 0 where
  pub item : Item
  pub is : kept ≡ item ∷ []
  pub first : IsFirst (HasBoth items) items item

pub record AreTwoKept (items kept : List Item) : Type 0 where
  pub from_low : Item
  pub from_high : Item
  pub is : kept ≡ from_low ∷ (from_high ∷ [])
  pub none : All (λ other. ¬ (HasBoth items other)) items
  pub first_low : IsFirst (HasGreatestLow items) items from_low
  pub first_high : IsFirst (HasLeastHigh items) items from_high

pub kept_kind : (items kept : List Item) → AreKept items kept → IsOneKept items kept ⊎ AreTwoKept items kept
kept_kind items [] h = absurd h
kept_kind items (i ∷ []) h = inl (record { item = i; is = refl; first = h })
kept_kind items (i ∷ (j ∷ [])) h =
    inr (record { from_low = i; from_high = j; is = refl; none = h.0; first_low = h.1.0; first_high = h.1.1 })
kept_kind items (i ∷ (j ∷ (k ∷ ks))) h = absurd h

module _ (items : List Item) where
  pub low_of : (i j : Item) → HasGreatestLow items i → Contains items j → j.evidence.low ≤ i.evidence.low
  low_of i j h has = All-contains (λ o. o.evidence.low ≤ i.evidence.low) items j h has

  pub high_of : (i j : Item) → HasLeastHigh items i → Contains items j → i.evidence.high ≤ j.evidence.high
  high_of i j h has = All-contains (λ o. i.evidence.high ≤ o.evidence.high) items j h has

  both_first : (i j : Item) → IsFirst (HasBoth items) items i → All (λ o. ¬ (HasBoth items o)) items → ⊥
  both_first i j f none = All-contains (λ o. ¬ (HasBoth items o)) items i none (first_in (HasBoth items) items i f)
      f.has

  same_kind : (kept other : List Item) → IsOneKept items kept ⊎ AreTwoKept items kept → IsOneKept items other
      ⊎ AreTwoKept items other → kept ≡ other
  same_kind kept other (inl a) (inl b) = a.is
      ∙ ap (λ i. i ∷ []) (one_first (HasBoth items) items a.item b.item a.first b.first) ∙ sym b.is
  same_kind kept other (inl a) (inr b) = absurd (both_first a.item a.item a.first b.none)
  same_kind kept other (inr a) (inl b) = absurd (both_first b.item b.item b.first a.none)
  same_kind kept other (inr a) (inr b) =
      a.is ∙ ap (λ i. i ∷ (a.from_high ∷ []))
      (one_first (HasGreatestLow items) items a.from_low b.from_low a.first_low b.first_low)
      ∙ ap (λ j. b.from_low ∷ (j ∷ []))
      (one_first (HasLeastHigh items) items a.from_high b.from_high a.first_high b.first_high) ∙ sym b.is

  pub one_kept : (kept other : List Item) → AreKept items kept → AreKept items other → kept ≡ other
  one_kept kept other a b = same_kind kept other (kept_kind items kept a) (kept_kind items other b)

  within_kind : (kept : List Item) → IsOneKept items kept ⊎ AreTwoKept items kept → All (Contains items) kept
  within_kind kept (inl a) =
      subst (All (Contains items)) (sym a.is)
      (All-cons (Contains items) a.item [] (first_in (HasBoth items) items a.item a.first)
      (All-nil (Contains items)))
  within_kind kept (inr a) =
      subst (All (Contains items)) (sym a.is)
      (All-cons (Contains items) a.from_low (a.from_high ∷ [])
      (first_in (HasGreatestLow items) items a.from_low a.first_low)
      (All-cons (Contains items) a.from_high []
      (first_in (HasLeastHigh items) items a.from_high a.first_high) (All-nil (Contains items))))

  pub kept_within : (kept : List Item) → AreKept items kept → All (Contains items) kept
  kept_within kept h = within_kind kept (kept_kind items kept h)

  some_kind : (kept : List Item) → IsOneKept items kept ⊎ AreTwoKept items kept → (i : Item) × Contains items i
  some_kind kept (inl a) = (a.item, first_in (HasBoth items) items a.item a.first)
  some_kind kept (inr a) = (a.from_low, first_in (HasGreatestLow items) items a.from_low a.first_low)

  pub kept_some : (kept : List Item) → AreKept items kept → (i : Item) × Contains items i
  kept_some kept h = some_kind kept (kept_kind items kept h)

-- What is kept of what was kept is the same.
pub alone_low : (i : Item) → HasGreatestLow (i ∷ []) i
alone_low i = All-cons (λ o. o.evidence.low ≤ i.evidence.low) i [] (omega arith)
    (All-nil (λ o. o.evidence.low ≤ i.evidence.low))

pub alone_high : (i : Item) → HasLeastHigh (i ∷ []) i
alone_high i = All-cons (λ o. i.evidence.high ≤ o.evidence.high) i [] (omega arith)
    (All-nil (λ o. i.evidence.high ≤ o.evidence.high))

module _ (items : List Item) (i j : Item) (none : All (λ other. ¬ (HasBoth items other)) items)
    (first_low : IsFirst (HasGreatestLow items) items i) (first_high : IsFirst (HasLeastHigh items) items j) where
  has_i : Contains items i
  has_i = first_in (HasGreatestLow items) items i first_low

  has_j : Contains items j
  has_j = first_in (HasLeastHigh items) items j first_high

  i_not_least : i.evidence.high ≤ j.evidence.high → ⊥
  i_not_least h =
      let least : HasLeastHigh items i =
      all_by (λ o. j.evidence.high ≤ o.evidence.high) (λ o. i.evidence.high ≤ o.evidence.high) items
      (λ o k. omega arith) first_high.has in
      All-contains (λ o. ¬ (HasBoth items o)) items i none has_i (first_low.has, least)

  j_not_greatest : i.evidence.low ≤ j.evidence.low → ⊥
  j_not_greatest h =
      let greatest : HasGreatestLow items j =
      all_by (λ o. o.evidence.low ≤ i.evidence.low) (λ o. o.evidence.low ≤ j.evidence.low) items
      (λ o k. omega arith) first_low.has in
      All-contains (λ o. ¬ (HasBoth items o)) items j none has_j (greatest, first_high.has)

  abbrev pub pair : List Item
  pair = i ∷ (j ∷ [])

  pub low_i : HasGreatestLow pair i
  low_i = All-cons (λ o. o.evidence.low ≤ i.evidence.low) i (j ∷ []) (omega arith)
      (All-cons (λ o. o.evidence.low ≤ i.evidence.low) j [] (low_of items i j first_low.has has_j)
      (All-nil (λ o. o.evidence.low ≤ i.evidence.low)))

  pub high_j : HasLeastHigh pair j
  high_j = All-cons (λ o. j.evidence.high ≤ o.evidence.high) i (j ∷ []) (high_of items j i first_high.has has_i)
      (All-cons (λ o. j.evidence.high ≤ o.evidence.high) j [] (omega arith)
      (All-nil (λ o. j.evidence.high ≤ o.evidence.high)))

  least_i : HasLeastHigh pair i → ⊥
  least_i h = i_not_least (All-contains (λ o. i.evidence.high ≤ o.evidence.high) pair j h (1, omega arith, refl))

  greatest_j : HasGreatestLow pair j → ⊥
  greatest_j h = j_not_greatest (All-contains (λ o. o.evidence.low ≤ j.evidence.low) pair i h (0, omega arith, refl))

  pub two_again : AreKept pair pair
  two_again =
      let P : Item → Type 0 = λ o. ¬ (HasBoth pair o) in
      let Q : Item → Type 0 = λ o. ¬ (HasLeastHigh pair o) in
      let neither : All P pair =
      All-cons P i (j ∷ []) (λ h. least_i h.1) (All-cons P j [] (λ h. greatest_j h.0) (All-nil P)) in (
        neither,
        (
          record {
            before = [];
            after = j ∷ [];
            split = refl;
            has = low_i;
            none = All-nil (λ o. ¬ (HasGreatestLow pair o));
          },
          record {
            before = i ∷ [];
            after = [];
            split = refl;
            has = high_j;
            none = All-cons Q i [] least_i (All-nil Q);
          },
        ),
      )

again_kind : (items kept : List Item) → IsOneKept items kept ⊎ AreTwoKept items kept → AreKept kept kept
again_kind items kept (inl a) =
    let alone : AreKept (a.item ∷ []) (a.item ∷ []) =
    record {
      before = [];
      after = [];
      split = refl;
      has = (alone_low a.item, alone_high a.item);
      none = All-nil (λ o. ¬ (HasBoth (a.item ∷ []) o));
    } in
    subst (λ k. AreKept k k) (sym a.is) alone
again_kind items kept (inr a) =
    subst (λ k. AreKept k k) (sym a.is) (two_again items a.from_low a.from_high a.none a.first_low a.first_high)

pub kept_again : (items kept : List Item) → AreKept items kept → AreKept kept kept
kept_again items kept h = again_kind items kept (kept_kind items kept h)
