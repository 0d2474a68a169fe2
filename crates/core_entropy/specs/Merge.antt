-- The command `merge`: parts of maps as one part, or their first flaw. Source: this project's choice.
use Rattle.std.specs.Prelude.{◌≡◌, ◌⊎◌, ℕ, List, [], ◌++◌, Some, codes, length, map}
use Rattle.std.specs.Fmt.{decimal}
use Rattle.ce_map.specs.Grammar.{Header, Item}
use Rattle.ce_map.specs.PartGrammar.{part_text}
use Rattle.ce_merge.specs.Flaws.{IsFirstFlawOf}
use Rattle.ce_merge.specs.Merges.{HasFirstFlaw, HasGoodParts, IsMergeOf}
use Rattle.ce_merge.specs.declared.merged.MergeCause.{MergeCause}
use Rattle.ce_merge.specs.declared.merged.MergeCause.TheVariants as cause
use Rattle.core_entropy.specs.Checked.{item_claim, map_limit}
use Rattle.core_entropy.specs.Task.{Claim, Task}
use Rattle.ce_angle.specs.Spelled.{ended}
use Rattle.core_entropy.specs.declared.status.Status.{Status}
use Rattle.core_entropy.specs.declared.status.Status.TheVariants.{Done, Refused}

abbrev pub merge_word : MergeCause → List ℕ
merge_word cause.Form = codes "Form"
merge_word cause.Header = codes "Header"
merge_word cause.Order = codes "Order"
merge_word cause.Length = codes "Length"
merge_word cause.Rank = codes "Rank"
merge_word cause.Entry = codes "Entry"
merge_word cause.Low = codes "Low"
merge_word cause.High = codes "High"
merge_word cause.Count = codes "Count"

-- `refused line K CAUSE`
abbrev pub flaw_line : ℕ → MergeCause → List ℕ
flaw_line line cause = ended (codes "refused line " ++ decimal line ++ codes " " ++ merge_word cause)

-- Good parts are merged; other bytes are refused.
abbrev pub EndsByParts : List ℕ → Status → Type 0
EndsByParts bytes s = (HasGoodParts bytes × (s ≡ Done)) ⊎ (HasFirstFlaw bytes × (s ≡ Refused))

-- A text tells the first flaw of bytes.
pub record IsFlawText (bytes text : List ℕ) : Type 0 where
  pub line : ℕ
  pub cause : MergeCause
  pub first : IsFirstFlawOf bytes line cause
  pub spelled : text ≡ flaw_line line cause

-- A merged part claims the interval of each of its items.
pub record ClaimsKept (text : List ℕ) (claims : List Claim) : Type 0 where
  pub header : Header
  pub items : List Item
  pub spelled : text ≡ part_text header items (length items)
  pub each : claims ≡ map (item_claim header.exponent) items

abbrev pub merge_task : Task
merge_task = record {
  limit = Some map_limit;
  Ends = EndsByParts;
  Writes = λ bytes text. IsMergeOf bytes text ⊎ IsFlawText bytes text;
  Claims = λ bytes text claims. ClaimsKept text claims ⊎ (IsFlawText bytes text × (claims ≡ []));
}
