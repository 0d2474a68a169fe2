use Rattle.ce_map.proofs.Appended.{kept_whole}
use Rattle.ce_map.proofs.append_read.append_view.Goals as goal

pub returns-clause-ok : goal.returns-clause-ok
returns-clause-ok c = λ version shown is.
    kept_whole c.whole.result c.put_shown-put.result c.put_shown-put.new.text.items c.whole.new.text.items _
    c.whole.ensures.same c.whole.ensures.ok (c.put_shown-put.ensures.ok version shown is)
