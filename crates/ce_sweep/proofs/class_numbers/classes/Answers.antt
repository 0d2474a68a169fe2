use Rattle.std.proofs.Common.{length, ap, subst, arith}
use Rattle.ce_sweep.specs.Classes.{IsKeyOfAngle, AreNumbered}
use Rattle.ce_sweep.proofs.ClassesOfKeys.{classes_from_keys, orbits_from_keys}
use Rattle.ce_sweep.proofs.Zipped.{zip-length}
use Rattle.ce_sweep.proofs.class_numbers.classes.Goals as goal

pub number_keys-requires : goal.number_keys-requires
number_keys-requires c =
    let long = zip-length IsKeyOfAngle c.args.angles.now c.in_ok-keys.keys.items c.in_ok-keys.ensures.keys in
    let same = ap length c.deref.ensures.value in
    omega (arith, long, same, c.requires)

pub returns-in-Ok-clause-classes : goal.returns-in-Ok-clause-classes
returns-in-Ok-clause-classes c =
    let of = c.in-Ok.classes.of.items in
    let first = c.in-Ok.classes.first.items in
    classes_from_keys c.args.angles.now c.in_ok-keys.keys.items of first c.in_ok-keys.ensures.keys
    (subst (λ keys. AreNumbered keys of first) c.deref.ensures.value c.in-Ok.ensures)

pub returns-in-Ok-clause-short : goal.returns-in-Ok-clause-short
returns-in-Ok-clause-short c = orbits_from_keys c.args.angles.now c.in_ok-keys.keys.items c.in_ok-keys.ensures.keys
