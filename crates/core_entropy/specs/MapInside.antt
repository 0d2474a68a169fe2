-- The items of angles that are solved by classes.
use Rattle.std.specs.Prelude.{◌≡◌, ◌<◌, ℕ, List, [], length, slice_index, slice_index_or}
use Rattle.ce_angle.specs.Fraction.{Fraction}
use Rattle.ce_cert.specs.Evidence.{evidence_in}
use Rattle.ce_map.specs.Grammar.{Item}
use Rattle.ce_solve.specs.declared.collecting.Solved.{Solved}

-- what stands for an item where there is none
abbrev pub no_item : Item
no_item = record {
  angle = record { num = 0; den = 1 };
  evidence = record { ranks = []; low_rank = 0; low_vector = []; high_vector = []; low = 0; high = 0 };
}

-- Items have the angles of a list, each with the certificate of its class.
pub record AreItemsOf (angles : List Fraction) (of : List ℕ) (solutions : List Solved)
    (items : List Item) : Type 0 where
  pub each : length items ≡ length angles
  pub angle : (k : ℕ) (d : Fraction) → k < length angles
      → (slice_index_or items k no_item).angle ≡ slice_index_or angles k d
  pub evidence : (k : ℕ) (e : Solved) → k < length angles
      → (slice_index_or items k no_item).evidence
      ≡ evidence_in (slice_index_or solutions (slice_index of k) e).certificate
