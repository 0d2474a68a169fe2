use Rattle.std.proofs.Common.{◌<◌, length, subst, arith}
use Rattle.std.specs.Prelude.{All}
use Rattle.std.specs.List.{AllZip}
use Rattle.std.proofs.lemmas.List.Elements.{All-from_get_or, All-same}
use Rattle.ce_orbit.specs.Kneading.{IsKey}
use Rattle.ce_sweep.specs.AnswersInside.{SolvesKey, StandsAt}
use Rattle.ce_sweep.specs.Classes.{AreNumbered, IsKeyOfAngle}
use Rattle.ce_sweep.proofs.Assembled.{leaders_are_keys, solved_by}
use Rattle.ce_sweep.proofs.Zipped.{zip-length}
use Rattle.ce_sweep.proofs.answers.solve_by_keys.Goals as goal

pub number_keys-requires : goal.number_keys-requires
number_keys-requires g c =
    let long = zip-length IsKeyOfAngle c.args.angles.now c.args.keys.now c.requires.keys in
    omega (arith, long, c.requires.few)

pub keys_at-requires : goal.keys_at-requires
keys_at-requires g c =
    let of = c.in_ok-classes.classes.of.items in
    let first = c.in_ok-classes.classes.first.items in
    let numbers : AreNumbered c.args.keys.now of first = c.in_ok-classes.ensures in
    let below : All (λ place. place < length c.args.keys.now) first =
    All-from_get_or (λ place. place < length c.args.keys.now) first 0 (λ k within.
    let place = numbers.first_places k within in
    let inside = place.within in
    let each = numbers.each in
    omega arith) in
    All-same (λ place. place < length c.args.keys.now) c.as_slice.result.now first c.as_slice.ensures.value below

pub solve_keys-requires-clause-keys : goal.solve_keys-requires-clause-keys
solve_keys-requires-clause-keys g c κs bounds =
    let leaders = c.in_ok-leaders.leaders.items in
    All-same IsKey c.as_slice-2.result.now leaders c.as_slice-2.ensures.value
    (leaders_are_keys c.args.angles.now c.args.keys.now leaders c.as_slice.result.now c.requires.keys
    c.in_ok-leaders.ensures)

pub returns : goal.returns
returns g c =
    let keys = c.args.keys.now in
    let classes = c.in_ok-classes.classes in
    let leaders = c.in_ok-leaders.leaders.items in
    let stands = subst (λ ns. AllZip (StandsAt keys) ns leaders) c.as_slice.ensures.value c.in_ok-leaders.ensures in
    let solved = subst (λ ks. AllZip (SolvesKey c.args.settings) ks c.in_ok-solved.solved.items)
    c.as_slice-2.ensures.value c.in_ok-solved.ensures in
    solved_by c.args.settings c.args.angles.now keys leaders classes.of.items classes.first.items
    c.in_ok-solved.solved.items c.requires.keys c.in_ok-classes.ensures stands solved
