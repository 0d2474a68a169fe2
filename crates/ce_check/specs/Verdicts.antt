-- What a verdict says of a text (`IsVerdict`) and of one item (`IsItemVerdict`). Both are functions of
-- what they speak of: `maps_have_one_verdict`, `items_have_one_verdict`. Sources: [McConnell2011] for
-- checkers; the form is this project's choice.
use Rattle.std.specs.Prelude.{◌≡◌, ℕ, List, length, Option, None, Some}
use Rattle.ce_check.specs.Flaws.{HasFlaw, IsFirstFlawOf}
use Rattle.ce_check.specs.GoodMap.{IsCertified, IsGoodMap, IsShortOrbitOf}
use Rattle.ce_check.specs.declared.item.ItemFlaw.{ItemFlaw}
use Rattle.ce_check.specs.declared.item.ItemFlaw.TheVariants as item_flaw
use Rattle.ce_check.specs.declared.verdict.Verdict.{Verdict}
use Rattle.ce_check.specs.declared.verdict.Verdict.TheVariants.{Accepted, Refused}
use Rattle.ce_map.specs.Grammar.{Header, Item}
use Rattle.ce_orbit.specs.Orbit.{ForwardOrbit}

-- A text is a good map with so many items.
pub record HasGoodMap (bytes : List ℕ) (count : ℕ) : Type 0 where
  pub header : Header
  pub items : List Item
  pub good : IsGoodMap bytes header items
  pub counted : count ≡ length items

abbrev pub IsVerdict : List ℕ → Verdict → Type 0
IsVerdict bytes (Accepted count) = HasGoodMap bytes count
IsVerdict bytes (Refused line cause) = IsFirstFlawOf bytes line cause

-- what is said of one item at a scale: no flaw, no angle with a short orbit, or the first flaw of its
-- certificate
abbrev pub IsItemVerdict : ℕ → Item → Option ItemFlaw → Type 0
IsItemVerdict exponent item None = IsCertified exponent item
IsItemVerdict exponent item (Some item_flaw.Angle) = (o : ForwardOrbit) → ¬ (IsShortOrbitOf item.angle o)
IsItemVerdict exponent item (Some (item_flaw.Cert f)) = HasFlaw exponent item f
