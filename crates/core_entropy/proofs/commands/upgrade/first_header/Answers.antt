use Rattle.std.proofs.Common.{ap}
use Rattle.ce_map.specs.Grammar.{Header}
use Rattle.core_entropy.proofs.UpgradeTask.{header_is, no_form_first}
use Rattle.core_entropy.proofs.commands.upgrade.first_header.Goals as goal

pub unreachable-requires : goal.unreachable-requires
unreachable-requires c = no_form_first c.args.view.now c.in-Form.line c.requires c.in-Form.ensures.0

pub returns-clause-header : goal.returns-clause-header
returns-clause-header c = λ bytes h items count starts spelled.
    ap (λ (g : Header). g.order)
    (header_is bytes h items count spelled c.args.view.now c.next.new.self _ starts c.in-Header.ensures).same

pub returns-clause-scale : goal.returns-clause-scale
returns-clause-scale c = λ bytes h items count starts spelled.
    ap (λ (g : Header). g.exponent)
    (header_is bytes h items count spelled c.args.view.now c.next.new.self _ starts c.in-Header.ensures).same

pub returns-clause-left : goal.returns-clause-left
returns-clause-left c = λ bytes h items count starts spelled.
    (header_is bytes h items count spelled c.args.view.now c.next.new.self _ starts c.in-Header.ensures).are_left
