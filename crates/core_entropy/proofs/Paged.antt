-- Texts in pieces: appended one after another, and written through pages.
use Rattle.std.proofs.Common.{◌≡◌, ◌++◌, ℕ, List, Option, subst, sym}
use Rattle.ce_port.specs.Pieces.{GrewAllBut}
use Rattle.ce_port.specs.Sink.{GrewBy}
use Rattle.ce_port.specs.WriteAll.{GrewByPrefix}
use Rattle.ce_port.proofs.Paging.{page-more, page-part, page-stays, page-whole, prefix-more}
use Rattle.core_entropy.specs.Output.{GrewByPart}

-- A text of a head, items that went out in pages, and an end.
module _ (IsText : List ℕ → Type 0) (start items end : List ℕ) (is : IsText ((start ++ items) ++ end)) where
  pub paged_part : (a b : Option (List ℕ)) → GrewByPrefix a b (start ++ items) → GrewByPart IsText a b
  paged_part a b part = ((start ++ items) ++ end, is, prefix-more a b (start ++ items) end part)

  module _ (a b : Option (List ℕ)) (page : List ℕ) (grew : GrewAllBut a b page (start ++ items)) where
    pub paged_stays : GrewByPart IsText a b
    paged_stays = paged_part a b (page-stays a b page (start ++ items) grew)

    module _ (c : Option (List ℕ)) (last : List ℕ) (put : last ≡ page ++ end) where
      on_page : GrewAllBut a b last ((start ++ items) ++ end)
      on_page = subst (λ p. GrewAllBut a b p ((start ++ items) ++ end)) (sym put)
          (page-more a b page (start ++ items) end grew)

      pub paged_rest : GrewByPrefix b c last → GrewByPart IsText a c
      paged_rest part = ((start ++ items) ++ end, is, page-part a b c last ((start ++ items) ++ end) on_page part)

      pub paged_whole : GrewBy b c last → (text : List ℕ) × IsText text × GrewBy a c text
      paged_whole whole = ((start ++ items) ++ end, is, page-whole a b c last ((start ++ items) ++ end) on_page whole)
