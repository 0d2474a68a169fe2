-- The lines of rows, by places.
use Rattle.std.proofs.Common.{◌≡◌, ◌≢◌, ◌<◌, ◌+◌, ◌-◌, ◌==◌, ◌++◌, ◌∷◌, [], ◌∙◌, ℕ, zero, suc, true, false}
use Rattle.std.proofs.Common.{List, Option, get_or, length, take, refl, sym, ap, subst, append_assoc, append-nil}
use Rattle.std.proofs.Common.{add-one, arith}
use Rattle.std.specs.List.{flat_map, range_with_len}
use Rattle.std.proofs.lemmas.Bool.{eq-eqb}
use Rattle.std.proofs.lemmas.Bool.Decides.{nat_tests}
use Rattle.std.proofs.lemmas.Grind.{flat_map-append}
use Rattle.std.proofs.lemmas.List.{get_or-map, length-map, take_more}
use Rattle.std.proofs.lemmas.List.FromFn.{length-range_with_len, get_or-range_with_len}
use Rattle.ce_orbit.specs.Orbit.{ForwardOrbit}
use Rattle.ce_port.specs.Pieces.{GrewAllBut}
use Rattle.ce_port.specs.WriteAll.{GrewByPrefix}
use Rattle.ce_port.proofs.Paging.{page-more, page-part, page-turned, prefix-more}
use Rattle.ce_thurston.specs.Indices.{pair_places, rows_of_orbit}
use Rattle.ce_thurston.specs.Pairs.{portrait_of}
use Rattle.ce_thurston.specs.PortraitRows.{index_of, place_pairs}
use Rattle.ce_thurston.proofs.Indexed.{length-rows}
use Rattle.ce_thurston.proofs.Triangle.{index-below}
use Rattle.ce_thurston.specs.Indices.{pairs_below}
use Rattle.core_entropy.specs.Show.{pair_line, rows_text}

-- one place more below
module _ (j : ℕ) where
  abbrev with : ℕ → ℕ × ℕ
  with i = (i, j)

  pub below_long : length (pairs_below j) ≡ j
  below_long = length-map (range_with_len 0 j) with ∙ length-range_with_len 0 j

  module _ (i : ℕ) (less : i < j) where
    pub below_within : i < length (pairs_below j)
    below_within = omega (arith, less, below_long)

    pub below_item : take (i + 1) (pairs_below j) ≡ take i (pairs_below j) ++ (i, j) ∷ []
    below_item =
        let there = get_or-map with (range_with_len 0 j) i 0 (0, 0) (omega (arith, less, length-range_with_len 0 j)) in
        let number : get_or (range_with_len 0 j) i 0 ≡ i = omega (arith, get_or-range_with_len 0 j i 0 less) in
        take_more (pairs_below j) i (0, 0) below_within
        ∙ ap (λ p. take i (pairs_below j) ++ p ∷ []) (there ∙ ap with number)

-- there is a row for two places
pub row_within : (o : ForwardOrbit) (i j k : ℕ) (list : ℕ) → length o.places ≢ 1 → i < j → j < length o.places
    → k ≡ index_of i j → list ≡ length (rows_of_orbit o) → k < list
row_within o i j k list other order within index long =
    let below = index-below i j (length o.places) order within in
    let rows = length-rows (portrait_of o) other in
    rw (index, long) (omega (arith, below, rows))

one_more : (j : ℕ) → place_pairs (j + 1) ≡ place_pairs j ++ pairs_below j
one_more j = rw add-one refl

pairs_after : (d j n : ℕ) → n ≡ j + d → (rest : List (ℕ × ℕ)) × (place_pairs n ≡ place_pairs j ++ rest)
pairs_after zero j n e =
    let same : n ≡ j = omega (arith, e) in
    ([], ap place_pairs same ∙ sym (append-nil (place_pairs j)))
pairs_after (suc d) j zero e = absurd (omega (arith, e))
pairs_after (suc d) j (suc m) e =
    let (rest, is) = pairs_after d j m (omega (arith, e)) in
    (rest ++ pairs_below m, ap (λ l. l ++ pairs_below m) is ∙ append_assoc (place_pairs j) rest (pairs_below m))

pub all_places : (o : ForwardOrbit) → length o.places ≢ 1 → pair_places o ≡ place_pairs (length o.places)
all_places o other = let test : (length o.places == 1) ≡ false = grind (arith, nat_tests) in rw test refl

-- the one row of an orbit of one place
pub one_row : (o : ForwardOrbit) → length o.places ≡ 1 → pair_line o (0, 0) ≡ rows_text o
one_row o one =
    let test : (length o.places == 1) ≡ true = eq-eqb (length o.places) 1 one in
    let pairs : pair_places o ≡ (0, 0) ∷ [] = rw test refl in
    sym (append-nil (pair_line o (0, 0))) ∙ ap (flat_map (pair_line o)) (sym pairs)

module _ (o : ForwardOrbit) (start : List ℕ) where
  -- what was put on the page after the pairs of j places
  abbrev pub columns : ℕ → List ℕ
  columns j = start ++ flat_map (pair_line o) (place_pairs j)

  column_more : (j : ℕ) → columns j ++ flat_map (pair_line o) (pairs_below j) ≡ columns (j + 1)
  column_more j =
      append_assoc start (flat_map (pair_line o) (place_pairs j)) (flat_map (pair_line o) (pairs_below j))
      ∙ ap (λ l. start ++ l) (sym (flat_map-append (pair_line o) (place_pairs j) (pairs_below j))
      ∙ ap (flat_map (pair_line o)) (sym (one_more j)))

  module _ (a b c : Option (List ℕ)) (page next : List ℕ) (j : ℕ) (grew : GrewAllBut a b page (columns j)) where
    on_page : GrewAllBut a b (page ++ flat_map (pair_line o) (pairs_below j)) (columns (j + 1))
    on_page = subst (GrewAllBut a b (page ++ flat_map (pair_line o) (pairs_below j))) (column_more j)
        (page-more a b page (columns j) (flat_map (pair_line o) (pairs_below j)) grew)

    pub columns_more : GrewAllBut b c next (page ++ flat_map (pair_line o) (pairs_below j))
        → GrewAllBut a c next (columns (j + 1))
    columns_more more = page-turned a b c (page ++ flat_map (pair_line o) (pairs_below j))
        next (columns (j + 1)) on_page more

    module _ (other : length o.places ≢ 1) (within : j < length o.places) where
      whole : (rest : List ℕ) × (columns (j + 1) ++ rest ≡ start ++ rows_text o)
      whole =
          let n = length o.places in
          let (rest, is) = pairs_after (n - (j + 1)) (j + 1) n (omega (arith, within)) in
          let all = sym is ∙ sym (all_places o other) in (
            flat_map (pair_line o) rest,
            append_assoc start (flat_map (pair_line o) (place_pairs (j + 1)))
                (flat_map (pair_line o) rest)
                ∙ ap (λ l. start ++ l) (sym (flat_map-append (pair_line o) (place_pairs (j + 1)) rest)
                ∙ ap (flat_map (pair_line o)) all),
          )

      pub columns_part : GrewByPrefix b c (page ++ flat_map (pair_line o) (pairs_below j))
          → GrewByPrefix a c (start ++ rows_text o)
      columns_part part =
          subst (GrewByPrefix a c) whole.1
          (prefix-more a c (columns (j + 1)) whole.0
          (page-part a b c (page ++ flat_map (pair_line o) (pairs_below j)) (columns (j + 1)) on_page part))
