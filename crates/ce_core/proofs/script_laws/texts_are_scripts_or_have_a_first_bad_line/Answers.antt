use Rattle.ce_core.proofs.ScriptEnds.{script_ends}
use Rattle.ce_core.proofs.script_laws.texts_are_scripts_or_have_a_first_bad_line.Goals as goal

pub returns : goal.returns
returns c = script_ends
