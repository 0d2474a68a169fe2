use Rattle.std.specs.Prelude.{codes}
use Rattle.ce_map.specs.Digits.{numbers_text}
use Rattle.ce_map.specs.Grammar.{base_of}
use Rattle.ce_map.proofs.Appended.{ok_then, three_pieces}
use Rattle.ce_map.proofs.append_read.put_shown_high.Goals as goal

pub put_all_entries-requires : goal.put_all_entries-requires
put_all_entries-requires c = record {
  base = base_of c.requires.version;
  list = c.requires.item.evidence.high_vector;
  is_list = c.requires.shows.high_vector;
}

pub returns-clause-ok : goal.returns-clause-ok
returns-clause-ok c = λ version shown is.
    ok_then c.put-2.result _ _ (three_pieces c.args.text.now.items c.put.new.text.items c.put_all_entries.new.text.items
    c.put-2.new.text.items (codes "high") (numbers_text 16 shown.evidence.high_vector)
    (codes "\n") c.in_ok-put.ensures.ok
    (c.in_ok-put_all_entries.ensures.ok (base_of version) shown.evidence.high_vector is.high_vector))
    c.put-2.ensures.ok
