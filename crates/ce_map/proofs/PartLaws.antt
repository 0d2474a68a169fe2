-- The header of a part is read back.
use Rattle.std.proofs.Common.{◌≡◌, ◌≤◌, ◌-◌, ℕ, List, ◌++◌, length, drop, Some, None, refl, sym, ap, subst, ◌∙◌}
use Rattle.std.proofs.Common.{arith, append_assoc}
use Rattle.std.specs.Prelude.{codes}
use Rattle.std.specs.Fmt.{decimal}
use Rattle.std.proofs.lemmas.Option.{some_pair_parts, none-some}
use Rattle.ce_map.specs.Grammar.{Header}
use Rattle.ce_map.specs.PartGrammar.{IsPartHeader, part_line, LacksPart}
use Rattle.ce_map.specs.PartGrammar.{IsPartAt}
use Rattle.ce_map.specs.PartsInside.{part_front}
use Rattle.ce_map.proofs.LineLaws.{part_then, part_again, part_taken}
use Rattle.ce_map.proofs.WalkLaws.{past}

regroup_five : (w o s e f rest : List ℕ) → (w ++ o ++ s ++ e ++ f) ++ rest ≡ w ++ (o ++ (s ++ (e ++ (f ++ rest))))
regroup_five w o s e f rest = simp append_assoc

abbrev pub then : Header → List ℕ → List ℕ
then h rest = part_then (codes "core-entropy-part 2 order ") (codes " order ") (codes " scale ") (codes "\n")
    (λ _. refl) (λ _. refl) (λ _. refl) h rest

pub part_lines : (h : Header) (rest : List ℕ) → part_line h ++ rest ≡ then h rest
unfolding part_then
part_lines h rest = regroup_five (codes "core-entropy-part 2 order ") (decimal h.order) (codes " scale ")
    (decimal h.exponent) (codes "\n") rest

pub part_read : (h : Header) (rest : List ℕ) → IsPartHeader h → part_front (part_line h ++ rest) ≡ Some (h, rest)
unfolding part_front
part_read h rest is =
    ap part_front (part_lines h rest)
    ∙ part_again (codes "core-entropy-part 2 order ") (codes " order ") (codes " scale ") (codes "\n") (λ _. refl)
    (λ _. refl) (λ _. refl) h rest is.second is.header

pub record IsPartAtFront (text : List ℕ) (h : Header) (rest : List ℕ) : Type 0 where
  pub spelled : text ≡ part_line h ++ rest
  pub header : IsPartHeader h

pub part_is_at : (text : List ℕ) (h : Header) (rest : List ℕ) → part_front text ≡ Some (h, rest)
    → IsPartAtFront text h rest
unfolding part_front
part_is_at text h rest found =
    let taken = part_taken (codes "core-entropy-part 2 order ") (codes " order ") (codes " scale ") (codes "\n")
    (λ _. refl) (λ _. refl) (λ _. refl) text h rest found in
    record {
      spelled = taken.spelled
          ∙ sym (part_lines h rest);
      header = record { header = taken.header; second = taken.second };
    }

pub record IsSamePart (h g : Header) (x y : List ℕ) : Type 0 where
  pub header : h ≡ g
  pub rest : x ≡ y

pub one_part : (h g : Header) (x y : List ℕ) → IsPartHeader h → IsPartHeader g → part_line h ++ x ≡ part_line g ++ y
    → IsSamePart h g x y
one_part h g x y left right same =
    let parts = some_pair_parts h g x y (sym (part_read h x left) ∙ ap part_front same ∙ part_read g y right) in
    record { header = parts.0; rest = parts.1 }

pub part_lacks : (bytes : List ℕ) (from : ℕ) (text : List ℕ) → text ≡ drop from bytes → part_front text ≡ None
    → LacksPart (drop from bytes)
part_lacks bytes from text cut none = λ h rest is same.
    none-some _ (sym none ∙ ap part_front (cut ∙ same) ∙ part_read h rest is)

pub part_at : (bytes : List ℕ) (from : ℕ) (text : List ℕ) (h : Header) (rest : List ℕ) → from ≤ length bytes
    → text ≡ drop from bytes → part_front text ≡ Some (h, rest) → (order exponent : ℕ) → order ≡ h.order
    → exponent ≡ h.exponent
    → IsPartAt bytes from (record { version = 2; order = order; exponent = exponent })
    (length bytes - length rest)
part_at bytes from text h rest within cut found order exponent eo ee =
    let front = part_is_at text h rest found in
    let after = past bytes from (part_line h) rest within (sym cut ∙ front.spelled) in
    let of : ℕ → ℕ → ℕ → Header = λ v o e. record { version = v; order = o; exponent = e } in
    let same : h ≡ of 2 order exponent = ap (λ v. of v h.order h.exponent) front.header.second
    ∙ ap (λ o. of 2 o h.exponent) (sym eo) ∙ ap (of 2 order) (sym ee) in
    let whole : IsPartAt bytes from h (length bytes - length rest) = record {
      header = front.header;
      spelled = sym cut ∙ front.spelled
          ∙ ap (λ l. part_line h ++ l) (sym after.left ∙ ap (λ a. drop a bytes) (sym after.place));
      place = after.place;
      within = omega (arith, after.place, after.within);
    } in
    subst (λ g. IsPartAt bytes from g (length bytes - length rest)) same whole

pub part_pieces : (t u1 u2 u w s f : List ℕ) (m1 m2 o e : ℕ) → m1 ≡ o → m2 ≡ e → u1 ≡ t ++ (w ++ decimal m1)
    → u2 ≡ u1 ++ (s ++ decimal m2) → u ≡ u2 ++ f → u ≡ t ++ (w ++ decimal o ++ s ++ decimal e ++ f)
part_pieces t u1 u2 u w s f m1 m2 o e f1 f2 e1 e2 e3 =
    let g1 = e1 ∙ ap (λ n. t ++ (w ++ decimal n)) f1 in
    let g2 = e2 ∙ ap (λ n. u1 ++ (s ++ decimal n)) f2 ∙ ap (λ x. x ++ (s ++ decimal e)) g1 in
    e3 ∙ ap (λ x. x ++ f) g2 ∙ more t w (decimal o) s (decimal e) f
  where
    more : (t w o s e f : List ℕ) → ((t ++ (w ++ o)) ++ (s ++ e)) ++ f ≡ t ++ (w ++ o ++ s ++ e ++ f)
    more t w o s e f = simp append_assoc

pub part_within : (bytes : List ℕ) (from : ℕ) (text : List ℕ) (h : Header) (rest : List ℕ) → from ≤ length bytes
    → text ≡ drop from bytes → part_front text ≡ Some (h, rest) → length rest ≤ length bytes
part_within bytes from text h rest within cut found =
    (past bytes from (part_line h) rest within (sym cut ∙ (part_is_at text h rest found).spelled)).few
