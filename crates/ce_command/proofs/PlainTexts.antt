-- What clap's walk over words in plain form needs of lists, and of texts that begin with no dash.
use Rattle.std.proofs.Common.{◌≡◌, ◌≢◌, ◌∷◌, ◌||◌, ◌==◌, Bool, true, false, suc, List, []}
use Rattle.std.proofs.Common.{None, refl, arith}
use Rattle.std.specs.List.{All}
use Rattle.std.specs.Str.{bytes_eq}
use Rattle.std.proofs.lemmas.Slice.Eq.{bytes_eq-Decides}
use Rattle.clap.specs.Lexer.{long_of, short_of}
use Rattle.clap.specs.Walk.{Text}
use Rattle.ce_command.specs.Plain.{IsPlainText}

pub either_false : (a b : Bool) → (a || b) ≡ false → (a ≡ false) × (b ≡ false)
either_false true b e = cc
either_false false b e = (refl, e)

-- of a list of which all pass, the first does and the rest do
pub all_first : {X : Type 0} (P : X → Type 0) (x : X) (xs : List X) → All P (x ∷ xs) → P x
all_first P x xs h = h 0 x (omega arith)

pub all_rest : {X : Type 0} (P : X → Type 0) (x : X) (xs : List X) → All P (x ∷ xs) → All P xs
all_rest P x xs h = λ k d lt. h (suc k) d (omega arith)

pub other_bytes : (a b : Text) → a ≢ b → bytes_eq a b ≡ false
other_bytes a b differs = go (bytes_eq a b) refl
  where
    go : (t : Bool) → bytes_eq a b ≡ t → bytes_eq a b ≡ false
    go true e = absurd (differs ((bytes_eq-Decides a b).0 e))
    go false e = e

pub same_bytes : (a : Text) → bytes_eq a a ≡ true
same_bytes a = (bytes_eq-Decides a a).1 refl

pub dashes : (v : Text) → IsPlainText v → bytes_eq v (45 ∷ 45 ∷ []) ≡ false
dashes [] p = refl
dashes (x ∷ xs) p = let e : (x == 45) ≡ false = p in rw e refl

pub no_long : (v : Text) → IsPlainText v → long_of v ≡ None
no_long [] p = refl
no_long (x ∷ xs) p = let e : (x == 45) ≡ false = p in rw e refl

pub no_short : (v : Text) → IsPlainText v → short_of v ≡ None
no_short [] p = refl
no_short (x ∷ xs) p = let e : (x == 45) ≡ false = p in rw e refl
