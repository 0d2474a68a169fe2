use Rattle.std.proofs.Common.{sym}
use Rattle.ce_map.specs.Grammar.{angle_line, ranks_line, low_line, high_line}
use Rattle.ce_map.proofs.Appended.{item_pieces, ok_then}
use Rattle.ce_map.proofs.append_read.put_shown.Goals as goal

pub returns-clause-ok : goal.returns-clause-ok
returns-clause-ok c = λ version shown is.
    let first = c.in_ok-put_angle_line.ensures.ok shown (sym is.num) (sym is.den) (sym is.low) (sym is.high) in
    ok_then c.put_shown_high.result _ _
    (item_pieces c.args.text.now.items c.put_angle_line.new.text.items c.put_shown_ranks.new.text.items
    c.put_shown_low.new.text.items c.put_shown_high.new.text.items (angle_line shown) (ranks_line shown)
    (low_line 2 shown) (high_line 2 shown) first (c.in_ok-put_shown_ranks.ensures.ok version shown is)
    (c.in_ok-put_shown_low.ensures.ok version shown is)) (c.put_shown_high.ensures.ok version shown is)
