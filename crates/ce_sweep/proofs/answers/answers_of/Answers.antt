use Rattle.std.proofs.Common.{◌<◌, ◌∙◌, length, ap, subst, arith}
use Rattle.std.specs.Prelude.{All}
use Rattle.std.specs.List.{AllZip}
use Rattle.std.proofs.lemmas.List.Elements.{All-from_get_or, All-same}
use Rattle.std.proofs.lemmas.Result.{IfOk-weaker}
use Rattle.ce_solve.specs.SolvedAngle.{MayAnswer}
use Rattle.ce_sweep.specs.Answers.{AreAlike}
use Rattle.ce_sweep.specs.AnswersInside.{AreCopies}
use Rattle.ce_sweep.proofs.Assembled.{class_within, answers_may, answers_alike}
use Rattle.ce_sweep.proofs.answers.answers_of.Goals as goal

pub copy_answers-requires-clause-each : goal.copy_answers-requires-clause-each
copy_answers-requires-clause-each c = ap length c.as_slice-of.ensures.value ∙ c.requires.1.classes.each

pub copy_answers-requires-clause-below : goal.copy_answers-requires-clause-below
copy_answers-requires-clause-below c =
    let found = c.args.solutions.now in
    let solutions = c.as_slice.result.now in
    let long = ap length c.as_slice.ensures.value in
    let below : All (λ class. class < length solutions) found.classes.of.items =
    All-from_get_or (λ class. class < length solutions) found.classes.of.items 0 (λ k within.
    let less = class_within c.requires.0 c.args.angles.now found.classes.of.items found.classes.first.items
    found.solved.items c.requires.1 k within in
    omega (arith, long, less)) in
    All-same (λ class. class < length solutions) c.as_slice-of.result.now found.classes.of.items
    c.as_slice-of.ensures.value below

pub returns-clause-answers : goal.returns-clause-answers
returns-clause-answers c = λ settings h.
    let found = c.args.solutions.now in
    let angles = c.args.angles.now in
    IfOk-weaker c.copy_answers.result
    (λ v. AreCopies angles c.as_slice-of.result.now c.as_slice.result.now v.items)
    (λ v. AllZip (MayAnswer settings) angles v.items)
    (λ v copies.
    answers_may settings angles found.classes.of.items found.classes.first.items found.solved.items h v.items
    (subst (λ ss. AreCopies angles found.classes.of.items ss v.items) c.as_slice.ensures.value
    (subst (λ ns. AreCopies angles ns c.as_slice.result.now v.items) c.as_slice-of.ensures.value copies)))
    c.copy_answers.ensures

pub returns-clause-alike : goal.returns-clause-alike
returns-clause-alike c =
    let found = c.args.solutions.now in
    let angles = c.args.angles.now in
    IfOk-weaker c.copy_answers.result
    (λ v. AreCopies angles c.as_slice-of.result.now c.as_slice.result.now v.items)
    (λ v. AreAlike v.items)
    (λ v copies.
    answers_alike c.requires.0 angles found.classes.of.items found.classes.first.items found.solved.items
    c.requires.1 v.items
    (subst (λ ss. AreCopies angles found.classes.of.items ss v.items) c.as_slice.ensures.value
    (subst (λ ns. AreCopies angles ns c.as_slice.result.now v.items) c.as_slice-of.ensures.value copies)))
    c.copy_answers.ensures
