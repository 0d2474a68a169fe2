use Rattle.std.proofs.Common.{rules, ◌≡◌, [], ◌∙◌, ap, ap₂, sym, fold, slice_index_or, Bor, List, ℕ, arith}
use Rattle.std.proofs.lemmas.List.{take_all}
use Rattle.std.proofs.lemmas.List.Folds.{fold-map}
use Rattle.std.proofs.lemmas.List.Sums.{fold_more}
use Rattle.clap.specs.Words.{App, app_of, rule_of, with_rule}
use Rattle.ce_command.specs.Form.{with_positional, positional_rule}
use Rattle.ce_command.proofs.parsing.with_positionals.Goals as goal

pub loop-id-preserved : goal.loop-id-preserved
loop-id-preserved c =
    let d : Bor (List ℕ) = record { ref_ptr = (0, 0); now = [] } in
    let rule : rule_of c.action-positional.result
    ≡ positional_rule (slice_index_or c.args.positionals.now c.loop-id.id-index d).now = search rules in
    let more = fold_more (λ (app : App) (id : Bor (List ℕ)). with_positional app id.now) (app_of c.args.command)
    c.args.positionals.now c.loop-id.id-index d c.loop-id-test.true in
    c.in_ok-command.ensures.shape (search rules) ∙ ap₂ with_rule c.loop-id.invariant rule ∙ sym more

pub returns : goal.returns
returns c =
    let ids = c.args.positionals.now in
    let all = take_all c.loop-id.id-index ids (omega (arith, c.loop-id-test.false)) in
    c.loop-id.invariant
    ∙ ap (λ (xs : List (Bor (List ℕ))). fold (λ app id. with_positional app id.now) (app_of c.args.command) xs) all
    ∙ sym (fold-map with_positional (λ (id : Bor (List ℕ)). id.now) (app_of c.args.command) ids)
