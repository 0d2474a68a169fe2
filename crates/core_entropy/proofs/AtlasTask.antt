-- The task of the command `atlas`.
use Rattle.std.proofs.Common.{◌<◌, ◌∙◌, ℕ, List, get_or, length, map, refl, sym, subst, arith}
use Rattle.std.specs.Prelude.{All}
use Rattle.std.proofs.lemmas.List.Elements.{All-map}
use Rattle.ce_angle.specs.Fraction.{Fraction}
use Rattle.ce_atlas.specs.Above.{highs_of}
use Rattle.ce_atlas.specs.Atlas.{IsAtlas, IsRowOf, size_of}
use Rattle.ce_atlas.specs.declared.row.ClassRow.{ClassRow}
use Rattle.ce_atlas.proofs.ClassIntervals.{solves_first, some_of}
use Rattle.ce_cert.proofs.Enclose.{certificate_encloses}
use Rattle.ce_rows.specs.Rows.{AreScaledRows}
use Rattle.ce_rows.specs.Scale.{IsExponent}
use Rattle.ce_solve.specs.SolvedAngle.{MaySolve}
use Rattle.ce_solve.specs.SolvedRows.{closing_in}
use Rattle.ce_solve.specs.declared.collecting.Solved.{Solved}
use Rattle.ce_thurston.specs.Indices.{rows_at}
use Rattle.ce_thurston.proofs.OrbitRows.{rows_in_range}
use Rattle.core_entropy.specs.Angle.{interval_of}
use Rattle.core_entropy.specs.Atlas.{IsAtlasText, atlas_task, class_claim, still}
use Rattle.core_entropy.specs.Headline.{ClaimsTruly, IsTrueClaim}
use Rattle.core_entropy.specs.Status.{IsCalledFor}
use Rattle.core_entropy.specs.Task.{solved}
use Rattle.core_entropy.specs.declared.status.Status.TheVariants.{Done}
use Rattle.core_entropy.proofs.AngleTask.{claim_true, inside_initial}
use Rattle.ce_solve.proofs.LoneClosing.{same_interval}
use Rattle.core_entropy.proofs.Stages.{IsLawful}

module _ (order rounds exponent : ℕ) (known : IsExponent exponent) where
  -- A row of an angle's class makes a true claim.
  row_true : (angle : Fraction) (size : ℕ) (s : Solved) (highs : List ℕ) (row : ClassRow)
      → MaySolve (still rounds exponent) angle (closing_in s) → IsRowOf angle size s highs row
      → IsTrueClaim (class_claim rounds exponent row)
  row_true angle size s highs row may is =
      let rows = rows_at may.orbit exponent in
      let closing = closing_in s in
      let are : AreScaledRows rows = record { rows = rows_in_range may.orbit may.is_orbit may.few; scale = known } in
      let encloses = certificate_encloses rows closing.evidence are may.solution.certificate in
      let inside = inside_initial rows rounds 0 1 closing are may.solution in
      let claim = claim_true may.orbit row.first rounds exponent (interval_of closing) may.is_orbit
      (may.of_angle ∙ sym is.first) encloses inside in
      let same = same_interval (interval_of closing) row.interval (sym is.low) (sym is.high) in
      subst (λ i. IsTrueClaim (solved row.first rounds exponent i)) same claim

  rows_true : (rows : List ClassRow) → IsAtlas (still rounds exponent) order rows
      → All (λ row. IsTrueClaim (class_claim rounds exponent row)) rows
  rows_true rows h = λ c r within.
      let each = h.rows_are.each in
      let many = h.solved.each in
      let inside : c < length h.first = omega (arith, within, each) in
      let d : Fraction = record { num = 0; den = 1 } in
      let e = some_of h.solutions (omega (arith, inside, many)) in
      let may = solves_first (still rounds exponent) h.angles h.of h.first h.solutions h.solved c d e inside in
      row_true (get_or h.angles (get_or h.first c 0) d) (size_of h.of c) (get_or h.solutions c e) (highs_of h.solutions)
      (get_or rows c r) may (h.rows_are.rows_are c d e r inside)

  atlas_true : (input text : List ℕ) → IsAtlasText order rounds exponent text
      → ClaimsTruly (atlas_task order rounds exponent) input text
  atlas_true input text h =
      let claim = class_claim rounds exponent in
      (map claim h.rows, (h.rows, h.spelled, refl), All-map IsTrueClaim claim h.rows (rows_true h.rows h.atlas))

  pub atlas_lawful : IsLawful (atlas_task order rounds exponent)
  atlas_lawful = record {
    some = λ input. (Done, refl);
    one = λ input s t h k. h ∙ sym k;
    called = λ input s h. subst IsCalledFor (sym h) tt;
    true = atlas_true;
  }
