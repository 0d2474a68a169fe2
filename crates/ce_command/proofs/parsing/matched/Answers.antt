use Rattle.std.proofs.Common.{map}
use Rattle.std.specs.String.{string_bytes}
use Rattle.clap.specs.Words.{app_of}
use Rattle.ce_command.specs.Table.{app_named}
use Rattle.ce_command.proofs.TableRows.{simple_and_free}
use Rattle.ce_command.proofs.Reading.{read_as, refused_as}
use Rattle.ce_command.proofs.parsing.matched.Goals as goal

pub returns-in-Ok-try_get_matches_from : goal.returns-in-Ok-try_get_matches_from
returns-in-Ok-try_get_matches_from c =
    read_as (app_of c.in-Ok.command) (app_named c.args.name) (map string_bytes c.args.words.now)
    c.in-Ok-try_get_matches_from.matches
    c.in-Ok.ensures (simple_and_free c.args.name) c.in-Ok-try_get_matches_from.ensures.kinds
    c.in-Ok-try_get_matches_from.ensures.matches

pub returns-in-Err : goal.returns-in-Err
returns-in-Err c =
    refused_as (app_of c.in-Ok.command) (app_named c.args.name) (map string_bytes c.args.words.now) c.in-Err.error
    c.refusal.result
    c.in-Ok.ensures (simple_and_free c.args.name) c.in-Err.ensures.kinds c.in-Err.ensures.passes c.refusal.ensures.usage
