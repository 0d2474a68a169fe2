-- Lines that go to a page, one after another.
use Rattle.std.proofs.Common.{◌≡◌, ◌<◌, ◌≤◌, ◌+◌, ◌++◌, ◌∷◌, [], ◌∙◌, ℕ, List, Option, length, take, drop}
use Rattle.std.proofs.Common.{sym, ap, subst, append_assoc}
use Rattle.std.specs.List.{flat_map}
use Rattle.std.proofs.lemmas.Grind.{flat_map-append}
use Rattle.std.proofs.lemmas.List.{take-append-drop, take_all, flat_map_more}
use Rattle.ce_port.specs.WriteAll.{GrewByPrefix}
use Rattle.ce_port.specs.Pieces.{GrewAllBut}
use Rattle.ce_port.proofs.Paging.{page-more, page-part, page-stays, page-turned, prefix-more}

module _ {X : Type 0} (f : X → List ℕ) (xs : List X) (start : List ℕ) where
  -- what was put on the page after k items
  abbrev pub so_far : ℕ → List ℕ
  so_far k = start ++ flat_map f (take k xs)

  to_whole : (k : ℕ) → so_far k ++ flat_map f (drop k xs) ≡ start ++ flat_map f xs
  to_whole k =
      append_assoc start (flat_map f (take k xs)) (flat_map f (drop k xs))
      ∙ ap (λ l. start ++ l) (sym (flat_map-append f (take k xs) (drop k xs)) ∙ ap (flat_map f) (take-append-drop k xs))

  whole : (a b : Option (List ℕ)) (k : ℕ) → GrewByPrefix a b (so_far k) → GrewByPrefix a b (start ++ flat_map f xs)
  whole a b k part = subst (GrewByPrefix a b) (to_whole k) (prefix-more a b (so_far k) (flat_map f (drop k xs)) part)

  -- it stops where the page is as it was
  pub part_stays : (a b : Option (List ℕ)) (page : List ℕ) (k : ℕ) → GrewAllBut a b page (so_far k)
      → GrewByPrefix a b (start ++ flat_map f xs)
  part_stays a b page k grew = whole a b k (page-stays a b page (so_far k) grew)

  -- all items are on their way
  pub all_done : (a b : Option (List ℕ)) (page : List ℕ) (k : ℕ) → length xs ≤ k → GrewAllBut a b page (so_far k)
      → GrewAllBut a b page (start ++ flat_map f xs)
  all_done a b page k all = subst (λ ys. GrewAllBut a b page (start ++ flat_map f ys)) (take_all k xs all)

  module _ (a b c : Option (List ℕ)) (page more next line : List ℕ) (k : ℕ) (x : X) (within : k < length xs)
      (grew : GrewAllBut a b page (so_far k)) (item : take (k + 1) xs ≡ take k xs ++ x ∷ []) (spelled : line ≡ f x)
      (put : more ≡ page ++ line) where
    added : so_far k ++ line ≡ so_far (k + 1)
    added = ap (λ l. so_far k ++ l) spelled ∙ flat_map_more f start (take k xs) x
        ∙ ap (λ ys. start ++ flat_map f ys) (sym item)

    on_page : GrewAllBut a b more (so_far (k + 1))
    on_page = subst (GrewAllBut a b more) added
        (subst (λ p. GrewAllBut a b p (so_far k ++ line)) (sym put) (page-more a b page (so_far k) line grew))

    -- an item more, and the page turned
    pub item_more : GrewAllBut b c next more → GrewAllBut a c next (so_far (k + 1))
    item_more turned = page-turned a b c more next (so_far (k + 1)) on_page turned

    -- it stops where the page is turned
    pub part_turned : GrewByPrefix b c more → GrewByPrefix a c (start ++ flat_map f xs)
    part_turned part = whole a c (k + 1) (page-part a b c more (so_far (k + 1)) on_page part)
