-- Good maps (`IsGoodMap`): each angle up to an order once, in order, with a certificate that holds for
-- its rows (`IsCertified`). Each interval of one encloses: the law `good_maps_enclose`. Source: this
-- project's choice.
use Rattle.std.specs.Prelude.{◌≡◌, ◌≤◌, ℕ, List, All, length, map}
use Rattle.ce_angle.specs.Farey.{AreAnglesUpTo}
use Rattle.ce_angle.specs.Fraction.{Fraction}
use Rattle.ce_cert.specs.Certificate.{IsCertificate}
use Rattle.ce_map.specs.Grammar.{Header, Item, IsMapOf}
use Rattle.ce_orbit.specs.Orbit.{ForwardOrbit, IsForwardOrbit}
use Rattle.ce_rows.specs.Growth.{Encloses}
use Rattle.ce_thurston.specs.Indices.{rows_at}
use Rattle.ce_thurston.specs.Pairs.{pair_walks}
use Rattle.ce_orbit.specs.Iterates.{most_places}

-- The orbit of an angle, which has at most 128 angles.
pub record IsShortOrbitOf (angle : Fraction) (o : ForwardOrbit) : Type 0 where
  pub is_orbit : IsForwardOrbit o
  pub of_angle : o.angle ≡ angle
  pub few : length o.places ≤ most_places

-- A fraction is an angle with such an orbit, and a certificate holds for its rows.
pub record IsCertified (exponent : ℕ) (item : Item) : Type 0 where
  pub orbit : ForwardOrbit
  pub short : IsShortOrbitOf item.angle orbit
  pub holds : IsCertificate (rows_at orbit exponent) item.evidence

-- The items are those of the angles up to the header's order, each certified at the header's scale,
-- and the end has their number.
pub record IsGoodMap (bytes : List ℕ) (h : Header) (items : List Item) : Type 0 where
  pub spelled : IsMapOf bytes h items (length items)
  pub angles : AreAnglesUpTo h.order (map (λ item. item.angle) items)
  pub certified : All (IsCertified h.exponent) items

-- The interval of an item encloses the growth rate of the walks on the pairs of the orbit of its angle.
abbrev pub EnclosesItem : ℕ → Item → Type 0
EnclosesItem exponent item =
    (o : ForwardOrbit) → IsForwardOrbit o → o.angle ≡ item.angle
    → Encloses exponent (pair_walks o) item.evidence.low item.evidence.high
