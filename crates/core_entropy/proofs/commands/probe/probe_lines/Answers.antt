use Rattle.std.proofs.Common.{refl}
use Rattle.ce_solve.specs.declared.settings.Settings.{Settings}
use Rattle.core_entropy.proofs.ProbeTask.{probe_bounded, probe_few, probe_is}
use Rattle.core_entropy.proofs.commands.probe.probe_lines.Goals as goal

pub summed_up-summary-requires-clause-few : goal.summed_up-summary-requires-clause-few
summed_up-summary-requires-clause-few g c =
    let settings : Settings =
    record { rounds = c.args.rounds; turns = 0; workers = 1; sessions = 0; reads = 0; scale = c.args.scale } in
    probe_few settings refl c.exponent-exponent.ensures.known c.args.start c.args.count
    c.in_ok-answers.answers.items c.deref.result.now c.in_ok-answers.ensures c.deref.ensures.value c.requires.count

pub summed_up-summary-requires-clause-each : goal.summed_up-summary-requires-clause-each
summed_up-summary-requires-clause-each g c =
    let settings : Settings =
    record { rounds = c.args.rounds; turns = 0; workers = 1; sessions = 0; reads = 0; scale = c.args.scale } in
    probe_bounded settings refl c.exponent-exponent.ensures.known c.args.start c.args.count
    c.in_ok-answers.answers.items c.deref.result.now c.in_ok-answers.ensures c.deref.ensures.value

pub returns : goal.returns
returns g c =
    let settings : Settings =
    record { rounds = c.args.rounds; turns = 0; workers = 1; sessions = 0; reads = 0; scale = c.args.scale } in
    probe_is settings refl c.exponent-exponent.ensures.known c.args.start c.args.count
    c.in_ok-answers.answers.items c.deref.result.now c.in_ok-answers.ensures c.deref.ensures.value
    c.exponent-exponent.result c.summed_up-summary.result c.exponent-exponent.ensures.value
    c.summed_up-summary.ensures c.text_of.result c.text_of.ensures
