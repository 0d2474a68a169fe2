-- Arguments each use of which has exactly one value.
use Rattle.std.proofs.Common.{◌≡◌, ◌∷◌, ◌&&◌, ◌||◌, ◌==◌, ℕ, Bool, true, false, not, List, []}
use Rattle.std.proofs.Common.{Option, Some, None, length, refl, subst, arith, is_some}
use Rattle.std.specs.Prelude.{find}
use Rattle.std.specs.List.{list_all, list_any}
use Rattle.std.specs.Option.{option_map_or}
use Rattle.std.proofs.lemmas.Bool.Decides.{nat_tests}
use Rattle.clap.proofs.WalkLemmas.{both}
use Rattle.clap.specs.Facts.{unwrap_or_range}
use Rattle.clap.specs.Walk.{Rule, action_of}
use Rattle.clap.specs.Walk.{has_short, is_empty}
use Rattle.clap.specs.Walk.{most_values}
use Rattle.clap.specs.declared.builder.action.ArgAction.{ArgAction}
use Rattle.clap.specs.declared.builder.action.ArgAction.TheVariants.{Set}

-- a use of the argument has exactly one value, and it has no short name
abbrev pub is_set : ArgAction → Bool
is_set Set = true
is_set _ = false

abbrev pub has_no_short : Rule → Bool
has_no_short a = not (is_some a.short) && is_empty a.short_aliases

abbrev pub is_single : Rule → Bool
is_single a =
    is_set (action_of a) && ((unwrap_or_range a.range).start_inclusive == 1 && (most_values a == 1 && has_no_short a))

pub record Single (a : Rule) : Type 0 where
  pub action : action_of a ≡ Set
  pub least : (unwrap_or_range a.range).start_inclusive ≡ 1
  pub most : most_values a ≡ 1

set_is : (x : ArgAction) → is_set x ≡ true → x ≡ Set
set_is Set e = refl
set_is x e = cc

pub single_is : (a : Rule) → is_single a ≡ true → Single a
single_is a e =
    let p = both (is_set (action_of a))
    ((unwrap_or_range a.range).start_inclusive == 1 && (most_values a == 1 && has_no_short a)) e in
    let q = both ((unwrap_or_range a.range).start_inclusive == 1) (most_values a == 1 && has_no_short a) p.1 in
    let r = both (most_values a == 1) (has_no_short a) q.1 in
    record {
      action = set_is (action_of a) p.0;
      least = grind (arith, nat_tests, q.0);
      most = grind (arith, nat_tests, r.0);
    }

-- what is found has what all have
pub found_is : (test p : Rule → Bool) (rules : List Rule) (a : Rule) → list_all p rules ≡ true
    → find test rules ≡ Some a
    → p a ≡ true
found_is test p [] a all e = cc
found_is test p (x ∷ xs) a all e = go (test x) refl (found_is test p xs a (both _ _ all).1)
  where
    go : (b : Bool) → test x ≡ b → (find test xs ≡ Some a → p a ≡ true) → p a ≡ true
    go true here rest =
        let same : Some x ≡ Some a = rw here at e in
        let item : x ≡ a = cc in
        subst (λ y. p y ≡ true) item (both _ _ all).0
    go false here rest = rest (rw here at e)

-- such an argument has no short name
pub short_none : (a : Rule) (c : ℕ) → is_single a ≡ true → has_short a c ≡ false
short_none a c e =
    let p = both (is_set (action_of a))
    ((unwrap_or_range a.range).start_inclusive == 1 && (most_values a == 1 && has_no_short a)) e in
    let q = both ((unwrap_or_range a.range).start_inclusive == 1) (most_values a == 1 && has_no_short a) p.1 in
    let r = both (most_values a == 1) (has_no_short a) q.1 in
    let t = both (not (is_some a.short)) (is_empty a.short_aliases) r.1 in
    go a.short a.short_aliases t.0 t.1
  where
    go : (o : Option ℕ) (l : List ℕ) → not (is_some o) ≡ true → is_empty l ≡ true
        → (option_map_or (λ x. x == c) o false || list_any (λ alias. alias == c) l) ≡ false
    go None [] e f = refl
    go (Some x) l e f = cc
    go None (y ∷ ys) e f = let bad : (length (y ∷ ys) == 0) ≡ false = grind (arith, nat_tests) in cc
