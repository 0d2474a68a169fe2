use Rattle.std.proofs.Common.{rules, ◌≡◌, [], ◌∙◌, ap, ap₂, sym, fold, slice_index_or, List, arith}
use Rattle.std.proofs.lemmas.List.{take_all}
use Rattle.std.proofs.lemmas.List.Folds.{fold-map}
use Rattle.std.proofs.lemmas.List.Sums.{fold_more}
use Rattle.clap.specs.Words.{App, app_of, rule_of, with_rule}
use Rattle.ce_command.specs.Form.{with_option, option_rule}
use Rattle.ce_command.specs.Options.{option_form}
use Rattle.ce_command.specs.declared.options.NumberOption.{NumberOption}
use Rattle.ce_command.specs.declared.options.Numbers.TheVariants.{Between}
use Rattle.ce_command.proofs.parsing.with_options.Goals as goal

pub loop-option-preserved : goal.loop-option-preserved
loop-option-preserved c =
    let d : NumberOption =
    record { name = record { ref_ptr = (0, 0); now = [] }; default = 0; numbers = Between 0 0 } in
    let rule : rule_of c.action-argument.result
    ≡ option_rule (slice_index_or c.args.options.now c.loop-option.option-index d).name.now = search rules in
    let more = fold_more (λ (app : App) (option : NumberOption). with_option app (option_form option))
    (app_of c.args.command) c.args.options.now c.loop-option.option-index d c.loop-option-test.true in
    c.in_ok-command.ensures.shape (search rules) ∙ ap₂ with_rule c.loop-option.invariant rule ∙ sym more

pub returns : goal.returns
returns c =
    let options = c.args.options.now in
    let all = take_all c.loop-option.option-index options (omega (arith, c.loop-option-test.false)) in
    c.loop-option.invariant
    ∙ ap (λ (xs : List NumberOption).
    fold (λ app option. with_option app (option_form option)) (app_of c.args.command) xs) all
    ∙ sym (fold-map with_option option_form (app_of c.args.command) options)
