-- The interval of each class encloses the growth rate of each of its angles.
use Rattle.std.proofs.Common.{◌<◌, ◌≤◌, ℕ, List, length, get_or, refl, sym, subst, arith}
use Rattle.std.specs.Prelude.{All}
use Rattle.ce_angle.specs.Fraction.{Fraction}
use Rattle.ce_rows.specs.Growth.{Encloses}
use Rattle.ce_rows.specs.Scale.{IsExponent}
use Rattle.ce_solve.specs.SolvedAngle.{MaySolve}
use Rattle.ce_solve.specs.SolvedRows.{closing_in}
use Rattle.ce_solve.specs.declared.angle.Answer.{Answer}
use Rattle.ce_solve.specs.declared.collecting.Solved.{Solved}
use Rattle.ce_solve.specs.declared.settings.Settings.{Settings}
use Rattle.ce_sweep.specs.Answers.{AreSolvedBy}
pub use Rattle.ce_sweep.proofs.Assembled.{solves_first, some_of}
use Rattle.ce_sweep.specs.Classes.{HaveSameKneading}
use Rattle.ce_thurston.specs.Pairs.{pair_walks}
use Rattle.ce_atlas.specs.Above.{highs_of}
use Rattle.ce_atlas.specs.Atlas.{AreRowsOf, EnclosesClass, IsRowOf, size_of}
use Rattle.ce_atlas.specs.declared.row.ClassRow.{ClassRow}
use Rattle.ce_atlas.proofs.Certified.{certified, encloses_alike}

-- A row tells of some angle and its solution.
record IsSolvedRow (settings : Settings) (row : ClassRow) : Type 0 where
  angle : Fraction
  size : ℕ
  solved : Solved
  highs : List ℕ
  solves : MaySolve settings angle (closing_in solved)
  is : IsRowOf angle size solved highs row

-- The interval of such a row encloses the rate of its angles.
row_encloses : (settings : Settings) (row : ClassRow) → IsExponent settings.scale → IsSolvedRow settings row
    → EnclosesClass settings.scale row
row_encloses settings row scale h = λ o is_orbit alike.
    let answer : Answer = record { angle = h.angle; solved = h.solved } in
    let holds = certified settings h.angle answer (record { angle = refl; solved = h.solves }) in
    let same = subst (λ f. HaveSameKneading f o.angle) h.is.first alike in
    let own = encloses_alike settings.scale answer scale holds o is_orbit same in
    let high = h.solved.certificate.high in
    let low = subst (λ n. Encloses settings.scale (pair_walks o) n high) (sym h.is.low) own in
    subst (λ n. Encloses settings.scale (pair_walks o) row.interval.low n) (sym h.is.high) low

module _ (settings : Settings) (angles : List Fraction) (of first : List ℕ) (solutions : List Solved)
    (rows : List ClassRow) (h : AreSolvedBy settings angles of first solutions)
    (are : AreRowsOf angles of first solutions rows) where
  solved_row : (c : ℕ) (r : ClassRow) → c < length rows → IsSolvedRow settings (get_or rows c r)
  solved_row c r within =
      let each = are.each in
      let solved = h.each in
      let inside : c < length first = omega arith in
      let d : Fraction = record { num = 0; den = 1 } in
      let e = some_of solutions (omega arith) in
      record {
        angle = get_or angles (get_or first c 0) d;
        size = size_of of c;
        solved = get_or solutions c e;
        highs = highs_of solutions;
        solves = solves_first settings angles of first solutions h c d e inside;
        is = are.rows_are c d e r inside;
      }

  pub rows_enclose : IsExponent settings.scale → All (EnclosesClass settings.scale) rows
  rows_enclose scale = λ c r within. row_encloses settings (get_or rows c r) scale (solved_row c r within)

  pub addresses_are_short : All (λ row. row.address.len ≤ 16) rows
  addresses_are_short = λ c r within. (solved_row c r within).is.address.few
