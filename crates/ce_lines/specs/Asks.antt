-- What a line asks of a desk. Source: this project's choice.
use Rattle.std.specs.Prelude.{◌≡◌, ◌≢◌, ℕ, ◌-◌, ◌^◌, ◌≤◌, ◌&&◌, nat_lt, not, Bool, true, min, List, [], ◌∷◌, ◌++◌}
use Rattle.std.specs.Prelude.{length}
use Rattle.std.specs.Prelude.{codes, Option, None, Some, ⊤}
use Rattle.std.specs.Char.{is_ascii_digit}
use Rattle.std.specs.List.{list_all}
use Rattle.std.specs.Str.Parse.{digits_value}
use Rattle.ce_angle.specs.Cuts.{Lacks}
use Rattle.ce_angle.specs.Typed.{angle_of_text, has_leading_zero}
use Rattle.ce_lines.specs.declared.asked.Asked.{Asked}
use Rattle.ce_lines.specs.declared.asked.Asked.TheVariants.{Open, Read, Quit}

-- digits without a leading zero; 0 alone is a number
abbrev pub is_numeral : List ℕ → Bool
is_numeral text = nat_lt 0 (length text) && not (has_leading_zero text) && list_all is_ascii_digit text

-- A text is a number of any length.
pub record Spells (text : List ℕ) (number : ℕ) : Type 0 where
  pub numeral : is_numeral text ≡ true
  pub value : number ≡ digits_value 10 text

-- `W G`, where W has no space, and G is at most 100000
pub record IsGrant (text word : List ℕ) (turns : ℕ) : Type 0 where
  pub number : List ℕ
  pub spelled : text ≡ word ++ 32 ∷ number
  pub some : word ≢ []
  pub plain : Lacks 32 word
  pub spells : Spells number turns
  pub few : turns ≤ 100000

-- `open W G`
pub record AsksOpen (line word : List ℕ) (turns : ℕ) : Type 0 where
  pub grant : List ℕ
  pub spelled : line ≡ codes "open " ++ grant
  pub is_grant : IsGrant grant word turns

-- `read I`
pub record AsksRead (line : List ℕ) (slot : ℕ) : Type 0 where
  pub number : List ℕ
  pub spelled : line ≡ codes "read " ++ number
  pub spells : Spells number slot

abbrev pub AsksQuit : List ℕ → Type 0
AsksQuit line = line ≡ codes "quit"

-- A line is none of the three. A line of more than 64 bytes, and one without a line feed, is no text.
pub record IsFormless (line : List ℕ) : Type 0 where
  pub no_open : (word : List ℕ) (turns : ℕ) → AsksOpen line word turns → ⊥
  pub no_read : (slot : ℕ) → AsksRead line slot → ⊥
  pub no_quit : AsksQuit line → ⊥

-- A line asks this: an opened angle is as its word types it, and a slot is its number, or the greatest of 32 bits.
abbrev pub Asks : List ℕ → Asked → Type 0
Asks line (Open angle turns) = (word : List ℕ) × AsksOpen line word turns × (angle ≡ angle_of_text word)
Asks line (Read slot) = (number : ℕ) × AsksRead line number × (slot ≡ min number (2 ^ 32 - 1))
Asks line Quit = AsksQuit line

-- What a line asks, if it asks anything.
abbrev pub IsAsked : Option (List ℕ) → Option Asked → Type 0
IsAsked None None = ⊤
IsAsked (Some line) None = IsFormless line
IsAsked None (Some asked) = ⊥
IsAsked (Some line) (Some asked) = Asks line asked
