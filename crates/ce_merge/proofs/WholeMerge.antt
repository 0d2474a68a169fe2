-- The merge of good parts.
use Rattle.std.proofs.Common.{ℕ, List, [], ◌∷◌, ◌++◌, ap, ◌∙◌}
use Rattle.std.specs.List.{All, AllZip, flat_map}
use Rattle.std.proofs.lemmas.List.{append-nil}
use Rattle.std.proofs.lemmas.List.Elements.{All-append, All-head, All-nil, All-tail}
use Rattle.std.proofs.Math.Seq.{drop-length}
use Rattle.ce_angle.specs.Farey.{IsAngleUpTo}
use Rattle.ce_map.specs.Grammar.{Header, Item}
use Rattle.ce_merge.specs.Best.{all_of}
use Rattle.ce_merge.specs.Merges.{IsMergeOf}
use Rattle.ce_merge.specs.Parts.{AreGoodParts, IsGoodPart, whole_part}
use Rattle.ce_merge.specs.ReadingInside.{AreAllRead, IsEntryOf}
use Rattle.ce_merge.specs.WritingInside.{AreEntries, IsMergeText}
use Rattle.ce_merge.specs.declared.entry.Entry.{Entry}

-- what is so of the items of each part is so of all items
pub all_parts : (P : Item → Type 0) (Q : List Item → Type 0) → ((items : List Item) → Q items → All P items)
    → (parts : List (List Item)) → All Q parts → All P (all_of parts)
all_parts P Q each [] all = All-nil P
all_parts P Q each (x ∷ xs) all =
    All-append P x (all_of xs) (each x (All-head Q x xs all)) (all_parts P Q each xs (All-tail Q x xs all))

pub angles_up : (h : Header) (parts : List (List Item)) → All (IsGoodPart h) parts
    → All (λ (item : Item). IsAngleUpTo h.order item.angle) (all_of parts)
angles_up h parts good =
    all_parts (λ (item : Item). IsAngleUpTo h.order item.angle) (IsGoodPart h) (λ items part. part.good.angles) parts
    good

module _ (h : Header) (bytes : List ℕ) (entries : List Entry) (k : AreAllRead h bytes entries) where
  pub are_entries : AreEntries h.order bytes entries
  are_entries = record {
    items = all_of k.read.parts;
    each = k.read.entered;
    up = angles_up h k.read.parts k.read.before.good;
  }

  good_parts : AreGoodParts bytes h k.read.parts
  good_parts = record {
    header = k.read.before.header;
    some = k.read.some;
    spelled = k.read.before.spelled ∙ ap (λ l. flat_map (whole_part h) k.read.parts ++ l) (drop-length bytes)
        ∙ append-nil (flat_map (whole_part h) k.read.parts);
    good = k.read.before.good;
  }

  pub merge_is : (text : List ℕ)
      → ((items : List Item) → AllZip (IsEntryOf bytes) items entries
      → All (λ (item : Item). IsAngleUpTo h.order item.angle) items → IsMergeText h items text)
      → IsMergeOf bytes text
  merge_is text written =
      let of = written (all_of k.read.parts) k.read.entered (angles_up h k.read.parts k.read.before.good) in
      record {
        header = h;
        parts = k.read.parts;
        kept = of.kept;
        good = good_parts;
        merged = of.merged;
        written = of.written;
      }
