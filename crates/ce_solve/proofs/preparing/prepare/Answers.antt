use Rattle.std.proofs.Common.{◌≡◌, ◌<◌, ◌^◌, ◌∙◌, List, ℕ, All, sym, ap, subst}
use Rattle.ce_vector.proofs.Powers.{power_vector-small}
use Rattle.ce_cert.specs.Quotients.{low_of, high_of}
use Rattle.ce_cert.specs.Vectors.{IsVectorOf}
use Rattle.ce_comp.proofs.Rankings.{numbering_is_ranking}
use Rattle.ce_vector.specs.PowerIteration.{power_vector}
use Rattle.ce_cert.specs.Certificate.{AreBoundsIn}
use Rattle.ce_solve.proofs.FloorEnds.{floor_low, floor_high, floor_vector}
use Rattle.ce_solve.proofs.preparing.prepare.Goals as goal

pub bounds_of-requires-clause-ranking : goal.bounds_of-requires-clause-ranking
bounds_of-requires-clause-ranking c =
    rw c.as_slice-2.ensures.value (numbering_is_ranking c.args.rows.now.list c.in_ok-ranks.ranks.ranks
    c.in_ok-ranks.ensures.numbering)

pub bounds_of-requires-clause-vector : goal.bounds_of-requires-clause-vector
bounds_of-requires-clause-vector c =
    let ranks = c.in_ok-ranks.ranks.ranks in
    let ranking = numbering_is_ranking c.args.rows.now.list ranks c.in_ok-ranks.ensures.numbering in
    let vector = floor_vector c.args.rows.now c.len-len.ensures.rows ranks ranking c.args.rounds c.requires in
    let same : c.deref.result.now ≡ power_vector c.args.rows.now.list ranks c.args.rounds =
    c.deref.ensures.value ∙ c.in_ok-vector.ensures ∙ ap
    (λ (r : List ℕ). power_vector c.args.rows.now.list r c.args.rounds) c.as_slice.ensures.value in
    subst (λ (v : List ℕ). IsVectorOf c.args.rows.now v) (sym same) vector

pub returns-clause-prepared : goal.returns-clause-prepared
returns-clause-prepared c =
    let ranks = c.in_ok-ranks.ranks.ranks in
    record {
      numbering = c.in_ok-ranks.ensures.numbering;
      vector = c.in_ok-vector.ensures
          ∙ ap (λ (r : List ℕ). power_vector c.args.rows.now.list r c.args.rounds) c.as_slice.ensures.value;
      bounds = subst (λ (v : List ℕ). AreBoundsIn c.args.rows.now ranks v c.in_ok-bounds.bounds) c.deref.ensures.value
          (subst (λ (r : List ℕ). AreBoundsIn c.args.rows.now r c.deref.result.now c.in_ok-bounds.bounds)
          c.as_slice-2.ensures.value c.in_ok-bounds.ensures.bounds);
    }

pub returns-clause-begins : goal.returns-clause-begins
returns-clause-begins c =
    let rows = c.args.rows.now in let ranks = c.in_ok-ranks.ranks.ranks in let are = c.len-len.ensures.rows in
    let ranking = numbering_is_ranking rows.list ranks c.in_ok-ranks.ensures.numbering in
    let p = returns-clause-prepared c in
    let e = c.in_ok-bounds.ensures in
    let low = p.bounds.low ∙ ap (λ (v : List ℕ). low_of rows ranks v) p.vector in
    let high = p.bounds.high ∙ ap (λ (v : List ℕ). high_of rows ranks v) p.vector in
    record {
      start = record {
        scaled = are;
        ranking = ranking;
        vector = subst (λ (v : List ℕ). IsVectorOf rows v) (sym p.vector)
            (floor_vector rows are ranks ranking c.args.rounds c.requires);
        encloses = record { below = e.below; above = e.above };
        from = rw low (floor_low rows are ranks ranking c.args.rounds);
        to = rw high (floor_high rows are ranks ranking c.args.rounds);
      };
      small = subst (λ (v : List ℕ). All (λ x. x < 2 ^ 58) v) (sym p.vector)
          (power_vector-small rows.list ranks c.args.rounds c.requires);
    }
