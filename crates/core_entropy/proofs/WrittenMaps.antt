-- The maps that the program writes are good.
use Rattle.std.proofs.Common.{◌<◌, ◌≤◌, inl, inr, ℕ, List, get_or, length, map, refl, sym, subst, arith}
use Rattle.std.proofs.lemmas.List.{get_or-map, length-map}
use Rattle.std.proofs.lemmas.List.Elements.{All-from_get_or, All-get_or, All-weaker}
use Rattle.ce_angle.specs.Farey.{IsAngleUpTo}
use Rattle.ce_angle.specs.Fraction.{Fraction}
use Rattle.ce_cert.specs.Certificate.{IsCertificate}
use Rattle.ce_check.specs.GoodMap.{IsCertified, IsGoodMap}
use Rattle.ce_check.proofs.SomeVerdict.{few_order}
use Rattle.ce_map.specs.Grammar.{Header, IsHeader, IsItem, Item, map_text}
use Rattle.ce_rows.specs.Scale.{IsExponent}
use Rattle.ce_thurston.specs.Indices.{rows_at}
use Rattle.core_entropy.specs.Checked.{upgraded}
use Rattle.core_entropy.specs.Map.{IsMapText, IsSolvedItem, header_of}
use Rattle.core_entropy.specs.MapInside.{no_item}
use Rattle.core_entropy.proofs.MapTask.{solved_is_item}
use Rattle.core_entropy.proofs.UpgradeTask.{few_angles}

is_header : (order exponent : ℕ) → 1 ≤ order → order ≤ 128 → IsExponent exponent → IsHeader (header_of order exponent)
is_header order exponent some few known = record {
  version = inr refl;
  some = some;
  few = few;
  scale = elim known [
    | inl first ↦ inl first
    | inr second ↦ inr (refl, second)
  ];
}

certified : (rounds turns workers exponent : ℕ) (item : Item) → IsSolvedItem rounds turns workers exponent item
    → IsCertified exponent item
certified rounds turns workers exponent item h = record {
  orbit = h.orbit;
  short = record { is_orbit = h.is_orbit; of_angle = h.of_angle; few = h.few };
  holds = subst (IsCertificate (rows_at h.orbit exponent)) (sym h.evidence) h.solution.certificate;
}

pub map_is_good : (order rounds turns workers exponent : ℕ) (text : List ℕ) → 1 ≤ order → order ≤ 128
    → IsExponent exponent → (h : IsMapText order rounds turns workers exponent text)
    → IsGoodMap text (header_of order exponent) h.items
map_is_good order rounds turns workers exponent text some few known h =
    let long = length-map h.items (λ (item : Item). item.angle) in
    let count = few_angles order (map (λ item. item.angle) h.items) some few h.angles in
    let zero_angle : Fraction = record { num = 0; den = 1 } in
    let up : (k : ℕ) → k < length h.items → IsAngleUpTo order (get_or h.items k no_item).angle = λ k within.
    subst (IsAngleUpTo order) (get_or-map (λ (item : Item). item.angle) h.items k no_item zero_angle within)
    (All-get_or (IsAngleUpTo order) (map (λ item. item.angle) h.items) k zero_angle
    (omega (arith, within, long)) h.angles.angles) in
    record {
      spelled = record {
        spelled = h.spelled;
        header = is_header order exponent some few known;
        each = All-from_get_or IsItem h.items no_item
            (λ k within. solved_is_item order rounds turns workers exponent (get_or h.items k no_item) few (up k within)
            (All-get_or (IsSolvedItem rounds turns workers exponent) h.items k no_item within h.each));
        end = omega (arith, count, long);
      };
      angles = h.angles;
      certified = All-weaker (IsSolvedItem rounds turns workers exponent) (IsCertified exponent)
          (certified rounds turns workers exponent) h.items h.each;
    }

pub upgraded_is_good : (bytes : List ℕ) (h : Header) (items : List Item) → IsGoodMap bytes h items
    → IsGoodMap (map_text (upgraded h) items (length items)) (upgraded h) items
upgraded_is_good bytes h items good = record {
  spelled = record {
    spelled = refl;
    header = is_header h.order h.exponent good.spelled.header.some (few_order h good.spelled.header)
        (elim good.spelled.header.scale [
          | inl first ↦ inl first
          | inr second ↦ inr second.1
        ]);
    each = good.spelled.each;
    end = good.spelled.end;
  };
  angles = good.angles;
  certified = good.certified;
}
