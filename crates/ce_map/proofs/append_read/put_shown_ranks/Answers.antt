use Rattle.std.specs.Prelude.{codes}
use Rattle.ce_map.specs.Digits.{numbers_text}
use Rattle.ce_map.proofs.Appended.{ok_then, three_pieces}
use Rattle.ce_map.proofs.append_read.put_shown_ranks.Goals as goal

pub returns-clause-ok : goal.returns-clause-ok
returns-clause-ok c = λ version shown is.
    ok_then c.put-2.result _ _ (three_pieces c.args.text.now.items c.put.new.text.items c.put_all_ranks.new.text.items
    c.put-2.new.text.items (codes "ranks") (numbers_text 10 shown.evidence.ranks)
    (codes "\n") c.in_ok-put.ensures.ok (c.in_ok-put_all_ranks.ensures.ok 10 shown.evidence.ranks is.ranks))
    c.put-2.ensures.ok
