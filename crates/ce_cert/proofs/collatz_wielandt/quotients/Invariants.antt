use Rattle.std.proofs.Common.{◌<◌, ◌≤◌, ◌^◌, ℕ, length}
use Rattle.std.specs.Prelude.{slice_index}
use Rattle.ce_cert.specs.PassesInside.{IsLeastUpTo, IsGreatestUpTo}
use Rattle.ce_cert.proofs.collatz_wielandt.quotients.Given as goal

abbrev pub invariant-loop-i : goal.invariant-loop-i
invariant-loop-i l = record {
  least : (rank : ℕ) → rank < length l.rows.list → IsLeastUpTo l.rows l.ranks l.v l.i rank (slice_index l.least rank);
  cut : l.greatest ≤ 2 ^ 62;
  greatest : IsGreatestUpTo l.rows l.ranks l.v l.i l.greatest;
}
