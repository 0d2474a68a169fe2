use Rattle.std.proofs.Common.{◌∙◌, ap, sym, map}
use Rattle.std.specs.String.{string_bytes}
use Rattle.ce_command.specs.Meaning.{name_of}
use Rattle.ce_command.proofs.TableRows.{outcome_limited}
use Rattle.ce_command.proofs.Outcomes.{begins, by_name, no_command, none_taken, plain_command, taken_by}
use Rattle.ce_command.proofs.words.read_words.Goals as goal

pub returns-in-Some-of-clause-limits : goal.returns-in-Some-of-clause-limits
returns-in-Some-of-clause-limits c =
    outcome_limited c.in-Some-of.name (map string_bytes c.args.words.now) c.command_named.result c.command_named.ensures

pub returns-in-Some-of-clause-taken : goal.returns-in-Some-of-clause-taken
returns-in-Some-of-clause-taken c = λ good usage.
    taken_by (map string_bytes c.args.words.now) (string_bytes c.in-Some.first.now) c.in-Some-of.name good.name
    c.command_named.result
    (begins c.args.words.now c.in-Some.first.now (sym c.in-Some.ensures.value))
    (c.in-Some-of.ensures ∙ ap name_of c.as_str.ensures.value) c.command_named.ensures good.taken good.good usage

pub returns-in-None-clause-taken : goal.returns-in-None-clause-taken
returns-in-None-clause-taken c = λ good usage.
    none_taken (map string_bytes c.args.words.now) (string_bytes c.in-Some.first.now) good.name
    (begins c.args.words.now c.in-Some.first.now (sym c.in-Some.ensures.value))
    (c.in-None.ensures ∙ ap name_of c.as_str.ensures.value) good.taken.names

pub returns-in-Some-of-clause-plain : goal.returns-in-Some-of-clause-plain
returns-in-Some-of-clause-plain c = λ name plain is is_plain good usage.
    plain_command (map string_bytes c.args.words.now) name plain is is_plain good
    (no_command (map string_bytes c.args.words.now) (string_bytes c.in-Some.first.now) c.in-Some-of.name
    c.command_named.result
    (begins c.args.words.now c.in-Some.first.now (sym c.in-Some.ensures.value))
    (c.in-Some-of.ensures ∙ ap name_of c.as_str.ensures.value) c.command_named.ensures usage)

pub returns-in-None-clause-plain : goal.returns-in-None-clause-plain
returns-in-None-clause-plain c = λ name plain is is_plain good usage.
    plain_command (map string_bytes c.args.words.now) name plain is is_plain good
    (by_name (map string_bytes c.args.words.now) (string_bytes c.in-Some.first.now) _
    (begins c.args.words.now c.in-Some.first.now (sym c.in-Some.ensures.value))
    (c.in-None.ensures ∙ ap name_of c.as_str.ensures.value))
