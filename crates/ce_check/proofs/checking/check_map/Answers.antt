use Rattle.std.proofs.Common.{inl}
use Rattle.ce_check.proofs.CheckLaws.{form_first}
use Rattle.ce_check.proofs.checking.check_map.Goals as goal

pub returns-in-Form : goal.returns-in-Form
returns-in-Form c =
    inl (form_first c.new-view.result c.args.bytes.now c.in-Form.line c.new-view.ensures c.in-Form.ensures.0)
