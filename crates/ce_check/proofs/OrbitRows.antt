-- What a certificate shows of an item's angle, whose rows are rows in range.
use Rattle.std.proofs.Common.{◌≡◌, ◌⊎◌, inl, inr, ℕ, List, [], ◌∷◌, sym, subst, ◌∙◌}
use Rattle.std.specs.List.{All}
use Rattle.std.proofs.lemmas.List.Elements.{All-nil, All-cons, All-head, All-tail}
use Rattle.ce_cert.proofs.Enclose.{certificate_encloses}
use Rattle.ce_orbit.specs.Orbit.{ForwardOrbit, IsForwardOrbit}
use Rattle.ce_orbit.proofs.Unique.{one_orbit}
use Rattle.ce_rows.specs.Growth.{Encloses}
use Rattle.ce_rows.specs.Rows.{AreScaledRows, all_walks}
use Rattle.ce_rows.specs.Scale.{IsExponent}
use Rattle.ce_thurston.specs.Indices.{rows_at, rows_of_orbit}
use Rattle.ce_thurston.specs.Pairs.{pair_walks}
use Rattle.ce_thurston.proofs.OrbitRows.{rows_in_range, rows_total}
use Rattle.ce_map.specs.Grammar.{Header, IsHeader, Item}
use Rattle.ce_check.specs.GoodMap.{IsCertified, IsGoodMap, EnclosesItem}

-- what is certified encloses the growth rate of the walks on the pairs of its orbit
pub certified_encloses : (exponent : ℕ) (item : Item) (o : ForwardOrbit) → IsExponent exponent
    → IsCertified exponent item → IsForwardOrbit o → o.angle ≡ item.angle
    → Encloses exponent (pair_walks o) item.evidence.low item.evidence.high
certified_encloses exponent item o scale k is of =
    let same : k.orbit ≡ o = one_orbit k.orbit o k.short.is_orbit is (k.short.of_angle ∙ sym of) in
    let rows : AreScaledRows (rows_at k.orbit exponent) =
    record { rows = rows_in_range k.orbit k.short.is_orbit k.short.few; scale = scale } in
    let shown = certificate_encloses (rows_at k.orbit exponent) item.evidence rows k.holds in
    let walks : all_walks (rows_of_orbit k.orbit) ≡ pair_walks k.orbit =
    λ i n. rows_total k.orbit k.short.is_orbit n i in
    subst (λ r. Encloses exponent (pair_walks r) item.evidence.low item.evidence.high) same
    (subst (λ f. Encloses exponent f item.evidence.low item.evidence.high) walks shown)

pub exponent_of : (h : Header) → IsHeader h → IsExponent h.exponent
exponent_of h is = by_scale is.scale
  where
    by_scale : (h.exponent ≡ 32) ⊎ ((h.version ≡ 2) × (h.exponent ≡ 48)) → IsExponent h.exponent
    by_scale (inl e) = inl e
    by_scale (inr e) = inr e.1

all_enclose : (exponent : ℕ) (items : List Item) → IsExponent exponent → All (IsCertified exponent) items
    → All (EnclosesItem exponent) items
all_enclose exponent [] scale all = All-nil (EnclosesItem exponent)
all_enclose exponent (x ∷ xs) scale all =
    All-cons (EnclosesItem exponent) x xs (λ o is of. certified_encloses exponent x o scale
    (All-head (IsCertified exponent) x xs all) is of)
    (all_enclose exponent xs scale (All-tail (IsCertified exponent) x xs all))

pub good_encloses : (bytes : List ℕ) (h : Header) (items : List Item) → IsGoodMap bytes h items
    → All (EnclosesItem h.exponent) items
good_encloses bytes h items good = all_enclose h.exponent items (exponent_of h good.spelled.header) good.certified
