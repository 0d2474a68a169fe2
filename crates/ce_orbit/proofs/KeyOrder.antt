-- The order of keys tells all keys apart.
use Rattle.std.proofs.Common.{◌≡◌, Ordering, Less, Equal, Greater, List, [], ◌∷◌, refl, ap, ◌∙◌}
use Rattle.std.specs.Ordering.{nat_cmp, ordering_then}
use Rattle.std.specs.Cmp.Lexicographic.{slice_cmp}
use Rattle.ce_angle.proofs.Compared.{cmp-same, same-cmp}
use Rattle.ce_orbit.specs.declared.symbol.Symbol.{Symbol}
use Rattle.ce_orbit.specs.declared.symbol.Symbol.TheVariants.{One, Zero, Star}
use Rattle.ce_orbit.specs.declared.key.KneadKey.{KneadKey}
use Rattle.ce_orbit.specs.contracts.symbol.SymbolOrd.TheImpl as symbol_ord
use Rattle.ce_orbit.specs.KeyOrder.{key_order}
use Rattle.ce_orbit.proofs.Keys.{same_key}

abbrev symbol_order : Symbol → Symbol → Ordering
symbol_order = (symbol_ord.ghosts).cmp

symbol_exact : (a b : Symbol) → symbol_order a b ≡ Equal → a ≡ b
symbol_exact One One h = refl
symbol_exact One Zero h = absurd (cc)
symbol_exact One Star h = absurd (cc)
symbol_exact Zero One h = absurd (cc)
symbol_exact Zero Zero h = refl
symbol_exact Zero Star h = absurd (cc)
symbol_exact Star One h = absurd (cc)
symbol_exact Star Zero h = absurd (cc)
symbol_exact Star Star h = refl

symbol_itself : (a : Symbol) → symbol_order a a ≡ Equal
symbol_itself One = refl
symbol_itself Zero = refl
symbol_itself Star = refl

-- where two answers together are Equal, both are
then_both : (a b : Ordering) → ordering_then a b ≡ Equal → (a ≡ Equal) × (b ≡ Equal)
then_both Less b h = absurd (cc)
then_both Equal b h = (refl, h)
then_both Greater b h = absurd (cc)

symbols_exact : (xs ys : List Symbol) → slice_cmp symbol_order xs ys ≡ Equal → xs ≡ ys
symbols_exact [] [] h = refl
symbols_exact [] (y ∷ ys) h = absurd (cc)
symbols_exact (x ∷ xs) [] h = absurd (cc)
symbols_exact (x ∷ xs) (y ∷ ys) h =
    let both = then_both (symbol_order x y) (slice_cmp symbol_order xs ys) h in
    ap (λ z. z ∷ xs) (symbol_exact x y both.0) ∙ ap (λ zs. y ∷ zs) (symbols_exact xs ys both.1)

symbols_itself : (xs : List Symbol) → slice_cmp symbol_order xs xs ≡ Equal
symbols_itself [] = refl
symbols_itself (x ∷ xs) = rw (symbol_itself x) (symbols_itself xs)

pub order_exact : (x y : KneadKey) → key_order x y ≡ Equal → x ≡ y
order_exact x y h =
    let symbols = slice_cmp symbol_order x.symbols y.symbols in
    let first = then_both (nat_cmp x.preperiod y.preperiod) (ordering_then (nat_cmp x.period y.period) symbols) h in
    let second = then_both (nat_cmp x.period y.period) symbols first.1 in
    same_key _ _ _ _ _ _ (same-cmp _ _ first.0) (same-cmp _ _ second.0) (symbols_exact _ _ second.1)

pub order_itself : (x : KneadKey) → key_order x x ≡ Equal
order_itself x = rw (cmp-same x.preperiod, cmp-same x.period) (symbols_itself x.symbols)
