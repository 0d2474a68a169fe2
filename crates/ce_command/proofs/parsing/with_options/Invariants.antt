use Rattle.std.proofs.Common.{◌≡◌, take, fold}
use Rattle.clap.specs.Words.{app_of}
use Rattle.ce_command.specs.Form.{with_option}
use Rattle.ce_command.specs.Options.{option_form}
use Rattle.ce_command.proofs.parsing.with_options.Given as goal

abbrev pub invariant-loop-option : goal.invariant-loop-option
invariant-loop-option l = app_of l.command
    ≡ fold (λ app option. with_option app (option_form option)) (app_of l.initial.command)
    (take l.option-index l.options)
