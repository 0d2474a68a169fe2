use Rattle.std.proofs.Common.{◌≡◌, ℕ, List, [], ◌∷◌, ◌++◌, Bool, true, false, cond, refl}
use Rattle.std.proofs.Common.{sym, ap, ◌∙◌, subst, ne_eqb}
use Rattle.std.proofs.lemmas.List.{map-append}
use Rattle.ce_rows.specs.Blocks.{has_rank_of, images_of, block_images}
use Rattle.ce_rows.specs.declared.row.Row.{Row}
use Rattle.ce_rows.specs.declared.row.Row.TheVariants.{Two}
use Rattle.ce_rows.specs.declared.act.Act.{Act}
use Rattle.ce_rows.specs.declared.act.Act.TheVariants.{Loads}
use Rattle.std.specs.Prelude.{filter}
use Rattle.ce_words.specs.Views.{view}
use Rattle.ce_crew.specs.Gains.{Gains}
use Rattle.ce_crew.specs.Turn.{loads_of}
use Rattle.ce_crew.proofs.Gained.{loads_then}
use Rattle.ce_crew.proofs.loading.load_images.Goals as goal

two_parts : (x y : ℕ) (s t : Bool)
    → cond s (x ∷ cond t (y ∷ []) []) (cond t (y ∷ []) []) ≡ cond s (x ∷ []) [] ++ cond t (y ∷ []) []
two_parts x y true t = refl
two_parts x y false t = refl

pub returns-in-Two-2-clause-gains : goal.returns-in-Two-2-clause-gains
returns-in-Two-2-clause-gains c =
    let a = c.load_in_block-first in let b = c.load_in_block-in-Two-2 in let x = c.in-Two.x in let y = c.in-Two.y in
    let list = c.args.rows.now.list in let ranks = c.args.ranks.now in let i = c.args.i in
    let p = has_rank_of ranks i in
    let v = view c.args.seat.now in let w = view b.new.seat in
    let X : List ℕ = cond (p x) (x ∷ []) [] in let Y : List ℕ = cond (p y) (y ∷ []) [] in
    let both = loads_then (loads_of X) (loads_of Y) v (view a.new.seat) w c.args.copy.now a.new.copy b.new.copy
    a.ensures.gains b.ensures.gains in
    let joined : Gains (loads_of (X ++ Y)) 0 v w c.args.copy.now b.new.copy =
    subst (λ (l : List Act). Gains l 0 v w c.args.copy.now b.new.copy) (sym (map-append (λ j. Loads j) X Y)) both in
    let apart : images_of (Two x y) ≡ x ∷ y ∷ [] = ap (λ (t : Bool). cond t (x ∷ []) (x ∷ y ∷ []))
    (ne_eqb x y c.if-x-y.false) in
    let is : block_images list ranks i ≡ X ++ Y =
    ap (λ (r : Row). filter p (images_of r)) (sym c.in-Two.ensures.value)
    ∙ (ap (filter p) apart ∙ two_parts x y (p x) (p y)) in
    subst (λ (l : List ℕ). Gains (loads_of l) 0 v w c.args.copy.now b.new.copy) (sym is) joined
