use Rattle.std.proofs.Common.{◌≡◌, take, fold}
use Rattle.clap.specs.Words.{app_of}
use Rattle.ce_command.specs.Form.{with_positional}
use Rattle.ce_command.proofs.parsing.with_positionals.Given as goal

abbrev pub invariant-loop-id : goal.invariant-loop-id
invariant-loop-id l =
    app_of l.command
    ≡ fold (λ app id. with_positional app id.now) (app_of l.initial.command) (take l.id-index l.positionals)
