-- A line asks one thing, and a line that is cut otherwise asks nothing.
use Rattle.std.proofs.Common.{◌≡◌, ◌≢◌, ◌<◌, ◌+◌, ℕ, min, List, ◌∷◌, ◌++◌, get_or}
use Rattle.std.proofs.Common.{refl, sym, ap, ◌∙◌, subst, arith}
use Rattle.std.specs.Prelude.{codes, Option, None, Some}
use Rattle.std.specs.Option.{IfSome, IfNone}
use Rattle.std.specs.Str.Parse.{digits_value}
use Rattle.ce_angle.specs.Cuts.{Lacks}
use Rattle.ce_lines.specs.Asks.{Spells, IsGrant, AsksOpen, AsksRead, IsFormless, Asks, IsAsked}
use Rattle.ce_lines.specs.declared.asked.Asked.{Asked}
use Rattle.ce_angle.proofs.Cuts.{cut_unique, cut_not, lacks_by_test}

open_plain : Lacks 32 (codes "open")
open_plain = lacks_by_test 32 (codes "open") refl

read_plain : Lacks 32 (codes "read")
read_plain = lacks_by_test 32 (codes "read") refl

quit_plain : Lacks 32 (codes "quit")
quit_plain = lacks_by_test 32 (codes "quit") refl

pub no_grant_uncut : (text : List ℕ) → Lacks 32 text → (word : List ℕ) (turns : ℕ) → IsGrant text word turns → ⊥
no_grant_uncut text lacks word turns g = cut_not 32 word g.number text lacks g.spelled

module _ (text word number : List ℕ) (whole : text ≡ word ++ 32 ∷ number) (first : Lacks 32 word) where
  pub no_grant_number : ((value : ℕ) → Spells number value → ⊥) → (w : List ℕ) (turns : ℕ) → IsGrant text w turns → ⊥
  no_grant_number none w turns g =
      let cut = cut_unique 32 word number w g.number first g.plain (sym whole ∙ g.spelled) in
      none turns (subst (λ (n : List ℕ). Spells n turns) (sym cut.after) g.spells)

  pub no_grant_many : (value turns : ℕ) → Spells number value → turns ≡ min value (100000 + 1) → 100000 < turns
      → (w : List ℕ) (t : ℕ) → IsGrant text w t → ⊥
  no_grant_many value turns spells least many w t g =
      let cut = cut_unique 32 word number w g.number first g.plain (sym whole ∙ g.spelled) in
      let same = ap (digits_value 10) cut.after in
      let a = spells.value in let b = g.spells.value in let few = g.few in
      omega (arith, same, a, b, few, least, many)

pub formless_uncut : (line : List ℕ) → Lacks 32 line → line ≢ codes "quit" → IsFormless line
formless_uncut line lacks other = record {
  no_open = λ word turns asks. cut_not 32 (codes "open") asks.grant line lacks asks.spelled;
  no_read = λ slot asks. cut_not 32 (codes "read") asks.number line lacks asks.spelled;
  no_quit = other;
}

-- the first byte of a word
first_byte : (a b : List ℕ) → a ≡ b → get_or a 0 0 ≡ get_or b 0 0
first_byte a b same = ap (λ (l : List ℕ). get_or l 0 0) same

module _ (name rest : List ℕ) (lacks : Lacks 32 name) where
  no_quit : name ++ 32 ∷ rest ≡ codes "quit" → ⊥
  no_quit same = cut_not 32 name rest (codes "quit") quit_plain (sym same)

  open_only : (word : List ℕ) (turns : ℕ) → AsksOpen (name ++ 32 ∷ rest) word turns
      → (name ≡ codes "open") × IsGrant rest word turns
  open_only word turns asks =
      let cut = cut_unique 32 name rest (codes "open") asks.grant lacks open_plain asks.spelled in
      (cut.before, subst (λ (l : List ℕ). IsGrant l word turns) (sym cut.after) asks.is_grant)

  read_only : (slot : ℕ) → AsksRead (name ++ 32 ∷ rest) slot → (name ≡ codes "read") × Spells rest slot
  read_only slot asks =
      let cut = cut_unique 32 name rest (codes "read") asks.number lacks read_plain asks.spelled in
      (cut.before, subst (λ (l : List ℕ). Spells l slot) (sym cut.after) asks.spells)

  pub formless_open : name ≡ codes "open" → ((word : List ℕ) (turns : ℕ) → IsGrant rest word turns → ⊥)
      → IsFormless (name ++ 32 ∷ rest)
  formless_open is none = record {
    no_open = λ word turns asks. none word turns (open_only word turns asks).1;
    no_read = λ slot asks. let byte = first_byte (codes "open") (codes "read") (sym is ∙ (read_only slot asks).0) in
        omega (arith, byte);
    no_quit = no_quit;
  }

  pub formless_other : name ≢ codes "open" → name ≢ codes "read" → IsFormless (name ++ 32 ∷ rest)
  formless_other no_open no_read = record {
    no_open = λ word turns asks. no_open (open_only word turns asks).0;
    no_read = λ slot asks. no_read (read_only slot asks).0;
    no_quit = no_quit;
  }

pub if_none : {A P Q : Type 0} (found : Option A) → (P → Q) → IfNone found P → IfNone found Q
if_none None more none = more none
if_none (Some x) more none = none

pub line_asked : (line : List ℕ) (found : Option Asked) → IfSome found (λ asked. Asks line asked)
    → IfNone found (IsFormless line)
    → IsAsked (Some line) found
line_asked line None some none = none
line_asked line (Some asked) some none = some
