-- The commands that read a map, `check` and `upgrade`: both answer the verdict on it. Source: this
-- project's choice.
use Rattle.std.specs.Prelude.{◌≡◌, ℕ, List, [], ◌++◌, None, Some, codes, map}
use Rattle.std.specs.Fmt.{decimal}
use Rattle.ce_check.specs.Verdicts.{IsVerdict}
use Rattle.ce_check.specs.declared.verdict.Cause.{Cause}
use Rattle.ce_check.specs.declared.verdict.Cause.TheVariants as cause
use Rattle.ce_check.specs.declared.verdict.Verdict.{Verdict}
use Rattle.ce_check.specs.declared.verdict.Verdict.TheVariants.{Accepted, Refused}
use Rattle.ce_map.specs.Grammar.{Header, IsMapOf, Item, map_text}
use Rattle.core_entropy.specs.Task.{Claim, Task}
use Rattle.ce_angle.specs.Spelled.{ended}
use Rattle.core_entropy.specs.declared.status.Status.{Status}
use Rattle.core_entropy.specs.declared.status.Status.TheVariants as status

-- the most bytes of a map
abbrev pub map_limit : ℕ
map_limit = 536870912

abbrev pub cause_word : Cause → List ℕ
cause_word cause.Form = codes "Form"
cause_word cause.Order = codes "Order"
cause_word cause.Missing = codes "Missing"
cause_word cause.Length = codes "Length"
cause_word cause.Rank = codes "Rank"
cause_word cause.Entry = codes "Entry"
cause_word cause.Low = codes "Low"
cause_word cause.High = codes "High"
cause_word cause.Count = codes "Count"
cause_word cause.Tail = codes "Tail"

-- `accepted M`, or `refused line K CAUSE`
abbrev pub verdict_line : Verdict → List ℕ
verdict_line (Accepted count) = ended (codes "accepted " ++ decimal count)
verdict_line (Refused line cause) =
    ended (codes "refused line " ++ decimal line ++ codes " " ++ cause_word cause)

abbrev pub status_of : Verdict → Status
status_of (Accepted count) = status.Done
status_of (Refused line cause) = status.Refused

-- A status is that of the verdict on a text.
abbrev pub EndsByVerdict : List ℕ → Status → Type 0
EndsByVerdict bytes s = (verdict : Verdict) × IsVerdict bytes verdict × (s ≡ status_of verdict)

-- the interval of an item of a map, which was solved elsewhere
abbrev pub item_claim : ℕ → Item → Claim
item_claim exponent item = record {
  degree = 2;
  angle = item.angle;
  exponent = exponent;
  interval = record { low = item.evidence.low; high = item.evidence.high };
  rounds = None;
}

-- An accepted map claims the interval of each of its items; a refused one claims none.
abbrev pub VerdictClaims : List ℕ → Verdict → List Claim → Type 0
VerdictClaims bytes (Accepted count) claims =
    (h : Header) × (items : List Item) × IsMapOf bytes h items count × (claims ≡ map (item_claim h.exponent) items)
VerdictClaims bytes (Refused line cause) claims = claims ≡ []

-- The task that reads a map and answers its verdict by a text of these.
abbrev pub verdict_task : (List ℕ → Verdict → List ℕ → Type 0) → Task
verdict_task IsAnswer = record {
  limit = Some map_limit;
  Ends = EndsByVerdict;
  Writes = λ bytes text. (verdict : Verdict) × IsVerdict bytes verdict × IsAnswer bytes verdict text;
  Claims = λ bytes text claims. (verdict : Verdict) × IsAnswer bytes verdict text
      × VerdictClaims bytes verdict claims;
}

-- The answer of `check` is the line of the verdict.
abbrev pub IsCheckAnswer : List ℕ → Verdict → List ℕ → Type 0
IsCheckAnswer bytes verdict text = text ≡ verdict_line verdict

abbrev pub check_task : Task
check_task = verdict_task IsCheckAnswer

-- the same order and scale, in version 2
abbrev pub upgraded : Header → Header
upgraded h = record { version = 2; order = h.order; exponent = h.exponent }

-- The answer of `upgrade` to a good map is the same items in version 2; to another text it is the line
-- of the verdict.
abbrev pub IsUpgradeAnswer : List ℕ → Verdict → List ℕ → Type 0
IsUpgradeAnswer bytes (Accepted count) text =
    (h : Header) × (items : List Item) × IsMapOf bytes h items count × (text ≡ map_text (upgraded h) items count)
IsUpgradeAnswer bytes (Refused line cause) text = text ≡ verdict_line (Refused line cause)

abbrev pub upgrade_task : Task
upgrade_task = verdict_task IsUpgradeAnswer
