-- The best interval of items: there is one, it is that of the kept ones, and it moves with the items.
use Rattle.std.proofs.Common.{◌≡◌, ◌≤◌, ◌⊎◌, ℕ, List, refl, sym, subst, arith, inl, inr}
use Rattle.std.specs.Prelude.{◌↔◌}
use Rattle.std.specs.List.{Contains}
use Rattle.std.proofs.lemmas.List.Elements.{All-contains}
use Rattle.ce_map.specs.Grammar.{Item}
use Rattle.ce_merge.specs.Best.{HasGreatestLow, HasLeastHigh, HasBoth, AreKept, IsBest, HaveSame}
use Rattle.ce_merge.proofs.KeptLaws.{all_by, first_in, alone_low, alone_high, low_of, high_of}
use Rattle.ce_merge.proofs.KeptLaws.{IsOneKept, AreTwoKept, kept_kind, low_i, high_j}

pub one_best : (items : List Item) (low high l h : ℕ) → IsBest items low high → IsBest items l h → (low ≡ l)
    × (high ≡ h)
one_best items low high l h a b =
    let p = low_of items a.from_low b.from_low a.greatest b.in_low in
    let q = low_of items b.from_low a.from_low b.greatest a.in_low in
    let r = high_of items a.from_high b.from_high a.least b.in_high in
    let s = high_of items b.from_high a.from_high b.least a.in_high in
    (omega (arith, p, q, a.is_low, b.is_low), omega (arith, r, s, a.is_high, b.is_high))

record HaveOneBest (items kept : List Item) : Type 0 where
  low : ℕ
  high : ℕ
  before : IsBest items low high
  after : IsBest kept low high

best_kind : (items kept : List Item) → IsOneKept items kept ⊎ AreTwoKept items kept → HaveOneBest items kept
best_kind items kept (inl a) =
    let i = a.item in
    let has = first_in (HasBoth items) items i a.first in
    record {
      low = i.evidence.low;
      high = i.evidence.high;
      before = record {
        from_low = i;
        from_high = i;
        in_low = has;
        in_high = has;
        is_low = refl;
        is_high = refl;
        greatest = a.first.has.0;
        least = a.first.has.1;
      };
      after = subst (λ k. IsBest k i.evidence.low i.evidence.high) (sym a.is)
          (record {
            from_low = i;
            from_high = i;
            in_low = (0, omega arith, refl);
            in_high = (0, omega arith, refl);
            is_low = refl;
            is_high = refl;
            greatest = alone_low i;
            least = alone_high i;
          });
    }
best_kind items kept (inr a) =
    let i = a.from_low in
    let j = a.from_high in
    record {
      low = i.evidence.low;
      high = j.evidence.high;
      before = record {
        from_low = i;
        from_high = j;
        in_low = first_in (HasGreatestLow items) items i a.first_low;
        in_high = first_in (HasLeastHigh items) items j a.first_high;
        is_low = refl;
        is_high = refl;
        greatest = a.first_low.has;
        least = a.first_high.has;
      };
      after = subst (λ k. IsBest k i.evidence.low j.evidence.high) (sym a.is)
          (record {
            from_low = i;
            from_high = j;
            in_low = (0, omega arith, refl);
            in_high = (1, omega arith, refl);
            is_low = refl;
            is_high = refl;
            greatest = low_i items i j a.none a.first_low a.first_high;
            least = high_j items i j a.none a.first_low a.first_high;
          });
    }

best_along : (xs ys : List Item) (low high l h : ℕ) → IsBest xs l h → IsBest ys l h → IsBest xs low high
    → IsBest ys low high
best_along xs ys low high l h a b given =
    let one = one_best xs low high l h given a in
    subst (λ k. IsBest ys k high) (sym one.0) (subst (λ k. IsBest ys l k) (sym one.1) b)

pub best_kept : (items kept : List Item) (low high : ℕ) → AreKept items kept
    → IsBest items low high ↔ IsBest kept low high
best_kept items kept low high h =
    let one = best_kind items kept (kept_kind items kept h) in (
      best_along items kept low high one.low one.high one.before one.after,
      best_along kept items low high one.low
          one.high one.after one.before,
    )

pub best_moves : (xs ys : List Item) (low high : ℕ) → HaveSame xs ys → IsBest xs low high → IsBest ys low high
best_moves xs ys low high same b =
    let i = b.from_low in
    let j = b.from_high in
    record {
      from_low = i;
      from_high = j;
      in_low = All-contains (Contains ys) xs i same.there b.in_low;
      in_high = All-contains (Contains ys) xs j same.there b.in_high;
      is_low = b.is_low;
      is_high = b.is_high;
      greatest = all_by (Contains xs) (λ o. o.evidence.low ≤ i.evidence.low) ys
          (λ o has. low_of xs i o b.greatest has) same.back;
      least = all_by (Contains xs) (λ o. j.evidence.high ≤ o.evidence.high) ys (λ o has. high_of xs j o b.least has)
          same.back;
    }
