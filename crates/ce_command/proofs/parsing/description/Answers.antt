use Rattle.ce_command.proofs.Described.{described_by}
use Rattle.ce_command.proofs.parsing.description.Goals as goal

pub returns : goal.returns
returns c =
    described_by c.args.name _ _ _ c.described.result c.row-row.ensures.name c.row-row.ensures.positionals
    c.row-row.ensures.options c.described.ensures
