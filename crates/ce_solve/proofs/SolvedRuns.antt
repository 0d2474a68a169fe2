-- What was prepared, opened and run comes to a solved run.
use Rattle.std.proofs.Common.{◌≡◌, ℕ, List, sym, ap, ◌∙◌, subst}
use Rattle.ce_cert.specs.Certificate.{IsCertificate}
use Rattle.ce_cert.specs.Evidence.{evidence_in}
use Rattle.ce_cert.specs.Quotients.{low_of, low_rank_of, high_of}
use Rattle.ce_cert.specs.Vectors.{IsVectorOf}
use Rattle.ce_cert.specs.declared.certificate.Certificate.{Certificate}
use Rattle.ce_cert.specs.declared.ends.Bounds.{Bounds}
use Rattle.ce_comp.specs.Numbering.{IsNumbering}
use Rattle.ce_rows.specs.Rows.{ScaledRows}
use Rattle.ce_vector.specs.PowerIteration.{power_vector}
use Rattle.ce_vector.specs.Start.{scaled_up}
use Rattle.ce_words.specs.Views.{rows_of}
use Rattle.ce_words.specs.declared.view.Run.{Run}
use Rattle.ce_solve.specs.Actors.{IsInitialCertificate}
use Rattle.ce_solve.specs.ClosingVectors.{IsClosingLow, IsClosingHigh}
use Rattle.ce_solve.specs.Prepared.{IsPrepared, MayBegin, IsOpenedFor}
use Rattle.ce_cert.specs.Certificate.{AreBoundsIn}
use Rattle.ce_solve.specs.SolvedRows.{IsRunOf, IsSolved, closing_in}
use Rattle.ce_solve.specs.ActorsInside.{IsClosingOf}
use Rattle.ce_solve.specs.declared.collecting.Solved.{Solved}
use Rattle.ce_solve.specs.declared.preparing.Prepared.{Prepared}

pub initial_is : (rows : ScaledRows) (rounds : ℕ) (p : Prepared) (run : Run) (c : Certificate)
    → IsPrepared rows rounds p → MayBegin rows p → IsOpenedFor rows p run
    → c.ranks.items ≡ p.ranks.ranks → c.low ≡ p.bounds.low → c.low_rank ≡ p.bounds.low_rank → c.high ≡ p.bounds.high
    → c.low_vector.items ≡ p.vector.items → c.high_vector.items ≡ p.vector.items
    → IsInitialCertificate run c
initial_is rows rounds p run c h begins o ranks low rank high lv hv =
    let b : Bounds = record { low = c.low; low_rank = c.low_rank; high = c.high } in
    let same : p.bounds ≡ b = (λ i. record { low = sym low i; low_rank = sym rank i; high = sym high i }) in
    let one : AreBoundsIn rows p.ranks.ranks c.low_vector.items b =
    subst (λ (x : Bounds). AreBoundsIn rows p.ranks.ranks c.low_vector.items x) same
    (subst (λ (v : List ℕ). AreBoundsIn rows p.ranks.ranks v p.bounds) (sym lv) h.bounds) in
    let two : AreBoundsIn (rows_of run) run.ranks c.low_vector.items b =
    subst (λ (r : ScaledRows). AreBoundsIn r run.ranks c.low_vector.items b) (sym o.rows_are)
    (subst (λ (rs : List ℕ). AreBoundsIn rows rs c.low_vector.items b) (sym o.ranks_are) one) in
    record {
      ranks = ranks ∙ sym o.ranks_are;
      low = low ∙ sym o.low;
      high = high ∙ sym o.high;
      one_vector = hv ∙ sym lv;
      vector = subst (λ (r : ScaledRows). IsVectorOf r c.low_vector.items) (sym o.rows_are)
          (subst (λ (v : List ℕ). IsVectorOf rows v) (sym lv) begins.start.vector);
      bounds = two;
    }

pub run_of_rows : (rows : ScaledRows) (rounds : ℕ) (p : Prepared) (run : Run) → IsPrepared rows rounds p
    → IsOpenedFor rows p run → IsRunOf rows rounds run
run_of_rows rows rounds p run h o =
    let vector : p.vector.items ≡ power_vector rows.list run.ranks rounds =
    h.vector ∙ ap (λ (rs : List ℕ). power_vector rows.list rs rounds) (sym o.ranks_are) in
    record {
      rows_are = o.rows_are;
      numbering = subst (λ (rs : List ℕ). IsNumbering rows.list rs) (sym o.ranks_are) h.numbering;
      start_is = o.start_is ∙ ap scaled_up vector;
      bounds = record {
        low = o.low ∙ (h.bounds.low ∙ (λ i. low_of rows (sym o.ranks_are i) (vector i)));
        high = o.high ∙ (h.bounds.high ∙ (λ i. high_of rows (sym o.ranks_are i) (vector i)));
      };
    }

pub solved_is : (rows : ScaledRows) (rounds turns workers count : ℕ) (p : Prepared) (run : Run) (u : List ℕ)
    (s : Solved) → IsPrepared rows rounds p → IsOpenedFor rows p run → u ≡ p.vector.items → count ≡ workers
    → IsClosingOf run turns count u s → IsSolved rows rounds turns workers (closing_in s)
solved_is rows rounds turns workers count p run u s h o same all k =
    let vector : u ≡ power_vector rows.list run.ranks rounds =
    same ∙ (h.vector ∙ ap (λ (rs : List ℕ). power_vector rows.list rs rounds) (sym o.ranks_are)) in
    record {
      run = run;
      run_of = run_of_rows rows rounds p run h o;
      places = k.places;
      all_workers = k.all_workers ∙ all;
      is_run = k.is_run;
      certificate = subst (λ (r : ScaledRows). IsCertificate r (evidence_in s.certificate)) o.rows_are k.certificate;
      ranks = k.ranks;
      low_rank =
          k.low_rank ∙ ap (λ (r : ScaledRows). low_rank_of r run.ranks s.certificate.low_vector.items) o.rows_are;
      low_vector = subst (λ (v : List ℕ). IsClosingLow run run.initial.low v k.places s.certificate.low
          s.certificate.low_vector.items) vector k.low_vector;
      high_vector = subst (λ (v : List ℕ). IsClosingHigh run run.initial.high v k.places s.certificate.high
          s.certificate.high_vector.items) vector k.high_vector;
      contain = k.contain;
      inside_initial = k.inside_initial;
      ends = k.ends;
    }
