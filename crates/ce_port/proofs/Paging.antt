-- Texts that go out in pieces.
use Rattle.std.proofs.Common.{◌∙◌, ℕ, List, [], ◌++◌, Option, Some, None, refl, sym, ap, subst, append_assoc}
use Rattle.std.proofs.lemmas.List.{append-nil}
use Rattle.ce_port.specs.Sink.{GrewBy}
use Rattle.ce_port.specs.WriteAll.{GrewByPrefix}
use Rattle.ce_port.specs.Pieces.{GrewAllBut}
use Rattle.ce_port.proofs.Grown.{GrewBy-trans}

-- nothing went out
pub GrewBy-none : (a : Option (List ℕ)) → GrewBy a a []
GrewBy-none None = tt
GrewBy-none (Some v) = sym (append-nil v)

pub GrewAllBut-none : (a : Option (List ℕ)) (page : List ℕ) → GrewAllBut a a page page
GrewAllBut-none a page = ([], GrewBy-none a, refl)

pub whole-prefix : (a b : Option (List ℕ)) (text : List ℕ) → GrewBy a b text → GrewByPrefix a b text
whole-prefix a b text h = (text, ([], sym (append-nil text)), h)

pub none-prefix : (a : Option (List ℕ)) (text : List ℕ) → GrewByPrefix a a text
none-prefix a text = ([], (text, refl), GrewBy-none a)

-- a prefix of the front of a text is one of the text
pub prefix-more : (a b : Option (List ℕ)) (xs ys : List ℕ) → GrewByPrefix a b xs → GrewByPrefix a b (xs ++ ys)
prefix-more a b xs ys (front, (rest, is), grew) =
    (front, (rest ++ ys, ap (λ l. l ++ ys) is ∙ append_assoc front rest ys), grew)

-- after a piece, a prefix of what follows
pub prefix-after : (a b c : Option (List ℕ)) (xs ys : List ℕ) → GrewBy a b xs → GrewByPrefix b c ys
    → GrewByPrefix a c (xs ++ ys)
prefix-after a b c xs ys grew (front, (rest, is), more) = (
  xs ++ front,
  (rest, ap (λ l. xs ++ l) is ∙ sym (append_assoc xs front rest)),
  GrewBy-trans a b c xs front grew
      more,
)

-- what stands on the page goes out
pub page-whole : (a b c : Option (List ℕ)) (page text : List ℕ) → GrewAllBut a b page text → GrewBy b c page
    → GrewBy a c text
page-whole a b c page text (front, grew, is) more = subst (GrewBy a c) (sym is)
    (GrewBy-trans a b c front page grew more)

pub page-part : (a b c : Option (List ℕ)) (page text : List ℕ) → GrewAllBut a b page text → GrewByPrefix b c page
    → GrewByPrefix a c text
page-part a b c page text (front, grew, is) more = subst (GrewByPrefix a c) (sym is)
    (prefix-after a b c front page grew more)

-- where nothing more goes out
pub page-stays : (a b : Option (List ℕ)) (page text : List ℕ) → GrewAllBut a b page text → GrewByPrefix a b text
page-stays a b page text (front, grew, is) = (front, (page, is), grew)

-- more is put on the page
pub page-more : (a b : Option (List ℕ)) (page text more : List ℕ) → GrewAllBut a b page text
    → GrewAllBut a b (page ++ more) (text ++ more)
page-more a b page text more (front, grew, is) =
    (front, grew, ap (λ l. l ++ more) is ∙ append_assoc front page more)

-- the page is turned
pub page-turned : (a b c : Option (List ℕ)) (page left text : List ℕ) → GrewAllBut a b page text
    → GrewAllBut b c left page → GrewAllBut a c left text
page-turned a b c page left text (front, grew, is) (more, grown, was) = (
  front ++ more,
  GrewBy-trans a b c front more grew grown,
  is ∙ ap (λ l. front ++ l) was
      ∙ sym (append_assoc front more left),
)
