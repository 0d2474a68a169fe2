use Rattle.ce_check.proofs.OneItem.{one_item_verdict}
use Rattle.ce_check.proofs.laws.items_have_one_verdict.Goals as goal

pub returns : goal.returns
returns c = one_item_verdict
