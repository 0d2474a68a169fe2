-- Two keys are equal exactly where their comparison says so.
use Rattle.std.proofs.Common.{◌≡◌, ◌==◌, ◌&&◌, Bool, refl, ap}
use Rattle.std.specs.Bool.{Decides}
use Rattle.std.specs.Cmp.Lexicographic.{pointwise}
use Rattle.std.proofs.lemmas.Bool.Decides.{Decides-and, Decides-eqb, Decides-like}
use Rattle.std.proofs.lemmas.Slice.Eq.{slice_eq-Decides}
use Rattle.ce_orbit.specs.declared.symbol.Symbol.{Symbol}
use Rattle.ce_orbit.specs.declared.symbol.Symbol.TheVariants.{One, Zero, Star}
use Rattle.ce_orbit.specs.declared.key.KneadKey.{KneadKey}
use Rattle.ce_orbit.specs.contracts.symbol.SymbolPartialEq.TheImpl as symbol_eq
use Rattle.ce_orbit.specs.contracts.key.KneadKeyPartialEq.TheImpl as key_eq
use Rattle.ce_orbit.proofs.Keys.{same_key}

abbrev symbols_match : Symbol → Symbol → Bool
symbols_match = (symbol_eq.ghosts).eq

abbrev pub keys_match : KneadKey → KneadKey → Bool
keys_match = (key_eq.ghosts).eq

symbol_decides : (a b : Symbol) → Decides (symbols_match a b) (a ≡ b)
symbol_decides One One = (λ h. refl, λ h. refl)
symbol_decides One Zero = (λ h. absurd (cc), λ h. absurd (cc))
symbol_decides One Star = (λ h. absurd (cc), λ h. absurd (cc))
symbol_decides Zero One = (λ h. absurd (cc), λ h. absurd (cc))
symbol_decides Zero Zero = (λ h. refl, λ h. refl)
symbol_decides Zero Star = (λ h. absurd (cc), λ h. absurd (cc))
symbol_decides Star One = (λ h. absurd (cc), λ h. absurd (cc))
symbol_decides Star Zero = (λ h. absurd (cc), λ h. absurd (cc))
symbol_decides Star Star = (λ h. refl, λ h. refl)

pub keys_decide : (k l : KneadKey) → Decides (keys_match k l) (k ≡ l)
keys_decide k l =
    let match = pointwise symbols_match k.symbols l.symbols in
    let symbols = slice_eq-Decides symbol_decides k.symbols l.symbols match refl in
    let period = Decides-eqb k.period l.period in
    let later = Decides-and (k.period == l.period) match period symbols in
    let preperiod = Decides-eqb k.preperiod l.preperiod in
    let all = Decides-and (k.preperiod == l.preperiod) ((k.period == l.period) && match) preperiod later in
    let fields : k ≡ l → (k.preperiod ≡ l.preperiod) × ((k.period ≡ l.period) × (k.symbols ≡ l.symbols)) = λ e. (
      ap (λ (x : KneadKey). x.preperiod) e,
      (ap (λ (x : KneadKey). x.period) e, ap (λ (x : KneadKey). x.symbols) e),
    ) in
    Decides-like (keys_match k l) (λ same. same_key _ _ _ _ _ _ same.0 same.1.0 same.1.1) fields all
