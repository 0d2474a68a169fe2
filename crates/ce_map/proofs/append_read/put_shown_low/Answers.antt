use Rattle.std.specs.Prelude.{codes}
use Rattle.ce_map.specs.Digits.{numbers_text}
use Rattle.ce_map.specs.Grammar.{base_of}
use Rattle.ce_map.proofs.Appended.{low_pieces, ok_then}
use Rattle.ce_map.proofs.append_read.put_shown_low.Goals as goal

pub put_all_entries-requires : goal.put_all_entries-requires
put_all_entries-requires c = record {
  base = base_of c.requires.version;
  list = c.requires.item.evidence.low_vector;
  is_list = c.requires.shows.low_vector;
}

pub returns-clause-ok : goal.returns-clause-ok
returns-clause-ok c = λ version shown is.
    ok_then c.put.result _ _
    (low_pieces c.args.text.now.items c.put_field.new.text.items c.put_all_entries.new.text.items
    c.put.new.text.items (codes "low ") (numbers_text 16 shown.evidence.low_vector)
    (codes "\n") c.args.item.now.low_rank shown.evidence.low_rank is.low_rank c.in_ok-put_field.ensures.ok
    (c.in_ok-put_all_entries.ensures.ok (base_of version) shown.evidence.low_vector is.low_vector))
    c.put.ensures.ok
