use Rattle.core_entropy.proofs.DeskTask.{read_other, read_some}
use Rattle.core_entropy.proofs.desk.settings_read.Goals as goal

pub returns-in-Ok-clause-some : goal.returns-in-Ok-clause-some
returns-in-Ok-clause-some c =
    read_some c.args.read c.in-Ok.command c.in-Ok.is c.settings_of.result c.settings_of.ensures.some

pub returns-in-Ok-clause-none : goal.returns-in-Ok-clause-none
returns-in-Ok-clause-none c =
    read_other c.args.read c.in-Ok.command c.in-Ok.is c.settings_of.result c.settings_of.ensures.none
