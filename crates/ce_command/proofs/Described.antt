-- What `clap` is told of each command of the table.
use Rattle.std.proofs.Common.{◌≡◌, ◌∙◌, List, Result, IfOk}
use Rattle.std.proofs.lemmas.Result.{IfOk-weaker}
use Rattle.clap.specs.Words.{Text, app_of}
use Rattle.clap.specs.declared.builder.command.Command.{Command}
use Rattle.ce_command.specs.Form.{app_with}
use Rattle.ce_command.specs.Options.{OptionForm}
use Rattle.ce_command.specs.Table.{app_named, form_of}
use Rattle.ce_command.specs.declared.command.CommandName.{CommandName}

-- a description by the row of a command
pub described_by : {E : Type 0} (name : CommandName) (word : Text) (positionals : List Text) (options : List OptionForm)
    (r : Result Command E)
    → word ≡ (form_of name).name → positionals ≡ (form_of name).positionals → options ≡ (form_of name).options
    → IfOk r (λ command. app_of command ≡ app_with word positionals options)
    → IfOk r (λ command. app_of command ≡ app_named name)
described_by name word positionals options r named placed given told =
    IfOk-weaker r _ _ (λ command h. h ∙ λ i. app_with (named i) (placed i) (given i)) told
