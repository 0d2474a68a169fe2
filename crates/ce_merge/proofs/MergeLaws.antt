-- The merge of the items of all angles.
use Rattle.std.proofs.Common.{◌≡◌, ◌==◌, ◌&&◌, ◌⊎◌, ℕ, zero, suc, Bool, true, false, cond, List, [], ◌∷◌, ◌++◌}
use Rattle.std.proofs.Common.{refl, sym, ap, subst, ◌∙◌, arith, inl, inr}
use Rattle.std.specs.Prelude.{◌↔◌}
use Rattle.std.specs.List.{All, AllPairs, AllZip, Contains}
use Rattle.std.proofs.lemmas.Bool.Decides.{nat_tests}
use Rattle.std.proofs.lemmas.List.{append-nil}
use Rattle.std.proofs.lemmas.List.Elements.{All-nil, All-head, All-tail, All-append, All-contains}
use Rattle.std.proofs.lemmas.List.Elements.{All-contains_itself, All-filter}
use Rattle.std.proofs.lemmas.List.Elements.{filter-append, filter_passes}
use Rattle.ce_angle.specs.Fraction.{Fraction}
use Rattle.ce_angle.specs.Order.{IsBelow}
use Rattle.ce_angle.proofs.OneList.{in_list, rest_above, rest_rising, one_rising}
use Rattle.ce_map.specs.Grammar.{Item}
use Rattle.ce_merge.specs.Best.{all_of, is_at, items_at, AreKept, IsMerged, IsBest, HaveSame}
use Rattle.ce_merge.proofs.BestLaws.{best_kept, best_moves}
use Rattle.ce_merge.proofs.KeptLaws.{all_by, one_kept, kept_within, kept_some, kept_again}

fraction : ℕ → ℕ → Fraction
fraction n d = record { num = n; den = d }

at_parts : (n m d e : ℕ) → (n == m && d == e) ≡ true → (n ≡ m) × (d ≡ e)
at_parts n m d e h = (grind (arith, nat_tests), grind (arith, nat_tests))

at_one : (n d : ℕ) → (n == n && d == d) ≡ true
at_one n d = grind (arith, nat_tests)

pub at_same : (f : Fraction) (item : Item) → is_at f item ≡ true → item.angle ≡ f
unfolding fraction
at_same f item h =
    let parts = at_parts item.angle.num f.num item.angle.den f.den h in
    ap (λ n. fraction n item.angle.den) parts.0 ∙ ap (fraction f.num) parts.1

pub at_true : (f : Fraction) (item : Item) → item.angle ≡ f → is_at f item ≡ true
at_true f item e = subst (λ g. is_at g item ≡ true) e (at_one item.angle.num item.angle.den)

pub at_false : (f : Fraction) (item : Item) → ¬ (item.angle ≡ f) → is_at f item ≡ false
at_false f item other = by_test (is_at f item) refl
  where
    by_test : (t : Bool) → is_at f item ≡ t → is_at f item ≡ false
    by_test true e = absurd (other (at_same f item e))
    by_test false e = e

abbrev IsAt : Fraction → Item → Type 0
IsAt f item = item.angle ≡ f

pub all_at : (f : Fraction) (items : List Item) → All (IsAt f) items → items_at f items ≡ items
all_at f [] all = refl
all_at f (x ∷ xs) all =
    ap (λ t. cond t (x ∷ items_at f xs) (items_at f xs)) (at_true f x (All-head (IsAt f) x xs all))
    ∙ ap (λ l. x ∷ l) (all_at f xs (All-tail (IsAt f) x xs all))

pub none_at : (f : Fraction) (items : List Item) → All (λ i. ¬ (IsAt f i)) items → items_at f items ≡ []
none_at f [] all = refl
none_at f (x ∷ xs) all =
    ap (λ t. cond t (x ∷ items_at f xs) (items_at f xs)) (at_false f x (All-head (λ i. ¬ (IsAt f i)) x xs all))
    ∙ none_at f xs (All-tail (λ i. ¬ (IsAt f i)) x xs all)

pub are_at : (f : Fraction) (items : List Item) → All (IsAt f) (items_at f items)
are_at f items = all_by (λ i. is_at f i ≡ true) (IsAt f) (items_at f items) (λ i h. at_same f i h)
    (filter_passes (is_at f) items)

pub at_in : (f : Fraction) (items : List Item) → All (Contains items) (items_at f items)
at_in f items = All-filter (is_at f) (Contains items) items (All-contains_itself items)

in_items : (x y : Item) (xs : List Item) → Contains (x ∷ xs) y → (x ≡ y) ⊎ Contains xs y
in_items x y xs (zero, within, here) = inl here
in_items x y xs (suc k, within, here) = inr (k, omega arith, here)

more_in : (x y : Item) (xs : List Item) → Contains xs y → Contains (x ∷ xs) y
more_in x y xs (k, within, here) = (suc k, omega arith, here)

pub in_at : (f : Fraction) (items : List Item) (i : Item) → Contains items i → IsAt f i → Contains (items_at f items) i
in_at f [] i has is = absurd (omega (arith, has.1))
in_at f (x ∷ xs) i has is = by_place (in_items x i xs has) (λ later. in_at f xs i later is)
  where
    by_test : (t : Bool) → Contains (items_at f xs) i → Contains (cond t (x ∷ items_at f xs) (items_at f xs)) i
    by_test true h = more_in x i (items_at f xs) h
    by_test false h = h

    by_place : (x ≡ i) ⊎ Contains xs i → (Contains xs i → Contains (items_at f xs) i) → Contains (items_at f (x ∷ xs)) i
    by_place (inl same) more =
        let test : is_at f x ≡ true = at_true f x (ap (λ j. j.angle) same ∙ is) in
        subst (λ t. Contains (cond t (x ∷ items_at f xs) (items_at f xs)) i) (sym test) (0, omega arith, same)
    by_place (inr later) more = by_test (is_at f x) (more later)

-- The groups of a merge.
module _ (items : List Item) where
  abbrev AreGroups : List Fraction → List (List Item) → Type 0
  AreGroups fs gs = AllZip (λ f group. AreKept (items_at f items) group) fs gs

  group_in : (f : Fraction) (g : List Item) → AreKept (items_at f items) g → All (Contains items) g
  group_in f g h =
      all_by (Contains (items_at f items)) (Contains items) g
      (λ i has. All-contains (Contains items) (items_at f items) i (at_in f items) has)
      (kept_within (items_at f items) g h)

  pub group_at : (f : Fraction) (g : List Item) → AreKept (items_at f items) g → All (IsAt f) g
  group_at f g h =
      all_by (Contains (items_at f items)) (IsAt f) g
      (λ i has. All-contains (IsAt f) (items_at f items) i (are_at f items) has)
      (kept_within (items_at f items) g h)

  pub groups_in : (fs : List Fraction) (gs : List (List Item)) → AreGroups fs gs → All (Contains items) (all_of gs)
  groups_in [] [] h = All-nil (Contains items)
  groups_in [] (g ∷ gs) h = absurd h
  groups_in (f ∷ fs) [] h = absurd h
  groups_in (f ∷ fs) (g ∷ gs) h = All-append (Contains items) g (all_of gs) (group_in f g h.0) (groups_in fs gs h.1)

  pub groups_at : (fs : List Fraction) (gs : List (List Item)) → AreGroups fs gs
      → All (λ i. Contains fs i.angle) (all_of gs)
  groups_at [] [] h = All-nil (λ i. Contains [] i.angle)
  groups_at [] (g ∷ gs) h = absurd h
  groups_at (f ∷ fs) [] h = absurd h
  groups_at (f ∷ fs) (g ∷ gs) h =
      let P : Item → Type 0 = λ i. Contains (f ∷ fs) i.angle in
      let first : All P g = all_by (IsAt f) P g (λ i e. (0, omega arith, sym e)) (group_at f g h.0) in
      let more : All P (all_of gs) =
      all_by (λ i. Contains fs i.angle) P (all_of gs) (λ i has. (suc has.0, omega (arith, has.1), has.2))
      (groups_at fs gs h.1) in
      All-append P g (all_of gs) first more

  not_self : (f g : Fraction) → IsBelow f g → f ≡ g → ⊥
  not_self f g below e = let self : IsBelow g g = subst (λ x. IsBelow x g) e below in omega (arith, self)

  pub lookup : (fs : List Fraction) (gs : List (List Item)) (f : Fraction) → AllPairs IsBelow fs → AreGroups fs gs
      → Contains fs f → AreKept (items_at f items) (items_at f (all_of gs))
  lookup [] gs f rising h has = absurd (omega (arith, has.1))
  lookup (e ∷ fs) [] f rising h has = absurd h
  lookup (e ∷ fs) (g ∷ gs) f rising h has = by_place (in_list e f fs has) (lookup fs gs f (rest_rising e fs rising) h.1)
    where
      rest_at : All (λ i. Contains fs i.angle) (all_of gs)
      rest_at = groups_at fs gs h.1

      by_place : (e ≡ f) ⊎ Contains fs f → (Contains fs f → AreKept (items_at f items) (items_at f (all_of gs)))
          → AreKept (items_at f items) (items_at f (g ++ all_of gs))
      by_place (inl same) more =
          let here : items_at f g ≡ g = all_at f g (subst (λ x. All (IsAt x) g) same (group_at e g h.0)) in
          let none : items_at f (all_of gs) ≡ [] =
          none_at f (all_of gs)
          (all_by (λ i. Contains fs i.angle) (λ i. ¬ (IsAt f i)) (all_of gs)
          (λ i in_fs at. not_self e i.angle (rest_above e i.angle fs rising in_fs) (same ∙ sym at))
          rest_at) in
          let whole : items_at f (g ++ all_of gs) ≡ g = filter-append (is_at f) g (all_of gs)
          ∙ ap (λ l. items_at f g ++ l) none ∙ append-nil (items_at f g) ∙ here in
          subst (AreKept (items_at f items)) (sym whole) (subst (λ x. AreKept (items_at x items) g) same h.0)
      by_place (inr later) more =
          let above : IsBelow e f = rest_above e f fs rising later in
          let none : items_at f g ≡ [] =
          none_at f g (all_by (IsAt e) (λ i. ¬ (IsAt f i)) g (λ i at other. not_self e f above (sym at ∙ other))
          (group_at e g h.0)) in
          let whole : items_at f (g ++ all_of gs) ≡ items_at f (all_of gs) = filter-append (is_at f) g (all_of gs)
          ∙ ap (λ l. l ++ items_at f (all_of gs)) none in
          subst (AreKept (items_at f items)) (sym whole) (more later)

  same_groups : (fs : List Fraction) (gs ks : List (List Item)) → AreGroups fs gs → AreGroups fs ks → gs ≡ ks
  same_groups [] [] [] a b = refl
  same_groups [] [] (k ∷ ks) a b = absurd b
  same_groups [] (g ∷ gs) ks a b = absurd a
  same_groups (f ∷ fs) [] ks a b = absurd a
  same_groups (f ∷ fs) (g ∷ gs) [] a b = absurd b
  same_groups (f ∷ fs) (g ∷ gs) (k ∷ ks) a b =
      ap (λ x. x ∷ gs) (one_kept (items_at f items) g k a.0 b.0) ∙ ap (λ l. k ∷ l) (same_groups fs gs ks a.1 b.1)

  again : (all : List Fraction) (kept : List Item) (fs : List Fraction) (gs : List (List Item))
      → ((f : Fraction) → Contains all f → AreKept (items_at f items) (items_at f kept)) → All (Contains all) fs
      → AreGroups fs gs → AllZip (λ f group. AreKept (items_at f kept) group) fs gs
  again all kept [] [] look within h = h
  again all kept [] (g ∷ gs) look within h = absurd h
  again all kept (f ∷ fs) [] look within h = absurd h
  again all kept (f ∷ fs) (g ∷ gs) look within h =
      let same : items_at f kept ≡ g =
      one_kept (items_at f items) (items_at f kept) g (look f (All-head (Contains all) f fs within)) h.0 in (
        subst (λ l. AreKept l g) (sym same) (kept_again (items_at f items) g h.0),
        again all kept fs gs look
            (All-tail (Contains all) f fs within) h.1,
      )

module _ (items kept : List Item) (m : IsMerged items kept) where
  kept_at : (f : Fraction) → Contains m.angles f → AreKept (items_at f items) (items_at f kept)
  kept_at f has = subst (λ l. AreKept (items_at f items) (items_at f l)) (sym m.joined)
      (lookup items m.angles m.groups f m.rising m.each has)

  pub merged_within : All (Contains items) kept
  merged_within = subst (All (Contains items)) (sym m.joined) (groups_in items m.angles m.groups m.each)

  merged_at : All (λ i. Contains m.angles i.angle) kept
  merged_at = subst (All (λ i. Contains m.angles i.angle)) (sym m.joined) (groups_at items m.angles m.groups m.each)

  -- an item is at an angle of the merge
  item_angle : (f : Fraction) (i : Item) → Contains items i → IsAt f i → Contains m.angles f
  item_angle f i has at =
      subst (Contains m.angles) at (All-contains (λ j. Contains m.angles j.angle) items i m.every has)

  at_angle : (f : Fraction) (i : Item) → Contains (items_at f items) i → Contains m.angles f
  at_angle f i has = item_angle f i (All-contains (Contains items) (items_at f items) i (at_in f items) has)
      (All-contains (IsAt f) (items_at f items) i (are_at f items) has)

  kept_angle : (f : Fraction) (i : Item) → Contains (items_at f kept) i → Contains m.angles f
  kept_angle f i has =
      let here = All-contains (Contains kept) (items_at f kept) i (at_in f kept) has in
      item_angle f i (All-contains (Contains items) kept i merged_within here)
      (All-contains (IsAt f) (items_at f kept) i (are_at f kept) has)

  pub merged_best : (f : Fraction) (low high : ℕ)
      → IsBest (items_at f items) low high ↔ IsBest (items_at f kept) low high
  merged_best f low high = (
    λ b. (best_kept (items_at f items) (items_at f kept) low high (kept_at f (at_angle f b.from_low b.in_low))).0
        b,
    λ b. (best_kept (items_at f items) (items_at f kept) low high
        (kept_at f (kept_angle f b.from_low b.in_low))).1 b,
  )

  pub merged_again : IsMerged kept kept
  merged_again = record {
    angles = m.angles;
    groups = m.groups;
    rising = m.rising;
    every = merged_at;
    each = again items m.angles kept m.angles m.groups kept_at (All-contains_itself m.angles) m.each;
    joined = m.joined;
  }

  -- each angle of a merge has an item
  pub angle_item : (f : Fraction) → Contains m.angles f → (i : Item) × Contains items i × IsAt f i
  angle_item f has =
      let some = kept_some (items_at f items) (items_at f kept) (kept_at f has) in (
        some.0,
        All-contains (Contains items) (items_at f items) some.0 (at_in f items) some.1,
        All-contains (IsAt f)
            (items_at f items) some.0 (are_at f items) some.1,
      )

angles_within : (items kept other : List Item) (m : IsMerged items kept) (n : IsMerged items other) (f : Fraction)
    → Contains m.angles f → Contains n.angles f
angles_within items kept other m n f has =
    let some = angle_item items kept m f has in item_angle items other n f some.0 some.1 some.2

pub one_merge : (items kept other : List Item) → IsMerged items kept → IsMerged items other → kept ≡ other
one_merge items kept other m n =
    let angles : m.angles ≡ n.angles =
    one_rising m.angles n.angles m.rising n.rising (angles_within items kept other m n)
    (angles_within items other kept n m) in
    let groups =
    same_groups items n.angles m.groups n.groups (subst (λ fs. AreGroups items fs m.groups) angles m.each) n.each in
    m.joined ∙ ap all_of groups ∙ sym n.joined

same_at : (f : Fraction) (xs ys : List Item) → All (Contains ys) xs → All (Contains (items_at f ys)) (items_at f xs)
same_at f xs ys there =
    all_by (Contains (items_at f xs)) (Contains (items_at f ys)) (items_at f xs)
    (λ i has. in_at f ys i
    (All-contains (Contains ys) xs i there (All-contains (Contains xs) (items_at f xs) i (at_in f xs) has))
    (All-contains (IsAt f) (items_at f xs) i (are_at f xs) has)) (All-contains_itself (items_at f xs))

pub back_same : (xs ys : List Item) → HaveSame xs ys → HaveSame ys xs
back_same xs ys same = record { there = same.back; back = same.there }

pub best_items : (f : Fraction) (xs ys : List Item) (low high : ℕ) → HaveSame xs ys → IsBest (items_at f xs) low high
    → IsBest (items_at f ys) low high
best_items f xs ys low high same b =
    best_moves (items_at f xs) (items_at f ys) low high
    (record { there = same_at f xs ys same.there; back = same_at f ys xs same.back }) b
