use Rattle.std.proofs.Common.{◌≡◌, Option, None, ℕ, List, sym, ap, ◌∙◌, arith, inl, inr, drop}
use Rattle.ce_map.specs.BaseInside.{radix_of}
use Rattle.ce_map.specs.DigitsInside.{number_front}
use Rattle.ce_map.proofs.ListLaws.{no_number, no_list, one_read, less_left}
use Rattle.ce_map.proofs.NextLaws.{radix_low, radix_high}
use Rattle.ce_map.proofs.numbers.list_in.Goals as goal
use Rattle.ce_map.proofs.numbers.list_in.Goals.{then-count-eq0-via-then-count-eq0}
use Rattle.ce_map.proofs.numbers.list_in.Goals.{then-count-eq0-via-else-count-eq0+then-not-begins_with}

-- what is read where the code reads
along : (radix base : ℕ) (tail rest : List ℕ) (o : Option (ℕ × List ℕ)) → radix ≡ base → tail ≡ drop 1 rest
    → number_front radix tail ≡ o → number_front base (drop 1 rest) ≡ o
along radix base tail rest o same cut h =
    ap (λ b. number_front b (drop 1 rest)) (sym same) ∙ ap (number_front radix) (sym cut) ∙ h

pub returns-in_err-after-clause-none : goal.returns-in_err-after-clause-none
returns-in_err-after-clause-none c =
    rw c.from_residual.ensures (no_number (radix_of c.args.base) (radix_low c.args.base)
    (radix_high c.args.base) c.args.text.now c.loop-rest.count c.loop-rest.rest.now c.loop-rest.invariant.read
    (sym c.begins_with.ensures ∙ c.loop-rest-test.true)
    (along c.radix.result (radix_of c.args.base) c.rest_of.result.now c.loop-rest.rest.now None
    c.radix.ensures c.rest_of.ensures c.in_err-after.ensures))

pub loop-rest-smaller : goal.loop-rest-smaller
loop-rest-smaller c =
    less_left (radix_of c.args.base) (radix_low c.args.base) (radix_high c.args.base) c.args.text.now c.loop-rest.count
    c.loop-rest.rest.now c.loop-rest.invariant.read c.in_ok-after.field-0-0 c.in_ok-after.after.now
    (sym c.begins_with.ensures ∙ c.loop-rest-test.true)
    (along c.radix.result (radix_of c.args.base) c.rest_of.result.now c.loop-rest.rest.now _ c.radix.ensures
    c.rest_of.ensures c.in_ok-after.ensures)

pub loop-rest-preserved : goal.loop-rest-preserved
loop-rest-preserved c =
    let space = sym c.begins_with.ensures ∙ c.loop-rest-test.true in
    let found =
    along c.radix.result (radix_of c.args.base) c.rest_of.result.now c.loop-rest.rest.now _ c.radix.ensures
    c.rest_of.ensures c.in_ok-after.ensures in
    record {
      read = one_read (radix_of c.args.base) (radix_low c.args.base)
          (radix_high c.args.base) c.args.text.now c.loop-rest.count c.loop-rest.rest.now c.loop-rest.invariant.read
          c.in_ok-after.field-0-0 c.in_ok-after.after.now space found;
      room = omega (
        arith,
        less_left (radix_of c.args.base) (radix_low c.args.base)
            (radix_high c.args.base) c.args.text.now c.loop-rest.count c.loop-rest.rest.now c.loop-rest.invariant.read
            c.in_ok-after.field-0-0 c.in_ok-after.after.now space found,
        c.loop-rest.invariant.room,
      );
    }

pub returns-then-count-eq0-clause-none : goal.returns-then-count-eq0-clause-none
returns-then-count-eq0-clause-none c =
    let none =
    no_list (radix_of c.args.base) (radix_low c.args.base)
    (radix_high c.args.base) c.args.text.now c.loop-rest.count c.loop-rest.rest.now c.loop-rest.invariant.read
    (sym c.begins_with.ensures ∙ c.loop-rest-test.false) in
    elim c.then-count-eq0.branch [
      | then-count-eq0-via-then-count-eq0 w ↦ none
          (inl (omega arith))
      | then-count-eq0-via-else-count-eq0+then-not-begins_with w ↦ none
          (inr (sym w.begins_with-else-count-eq0.ensures ∙ w.if-not-begins_with.true))
    ]
