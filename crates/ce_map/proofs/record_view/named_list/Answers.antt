use Rattle.std.proofs.lemmas.Option.{IfSome_then}
use Rattle.ce_map.specs.BaseInside.{radix_of}
use Rattle.ce_rows.proofs.General.{none_then}
use Rattle.ce_map.proofs.ItemLaws.{no_word, word_cut, named_is}
use Rattle.ce_map.proofs.record_view.named_list.Goals as goal

pub returns-in_err-word-clause-none : goal.returns-in_err-word-clause-none
returns-in_err-word-clause-none c =
    rw c.from_residual.ensures (λ numbers rest is. no_word c.args.name.now c.args.text.now c.in_err-word.ensures _)

pub returns-clause-found : goal.returns-clause-found
returns-clause-found c =
    IfSome_then c.list.result c.list.ensures.found
    (λ r is. named_is c.args.name.now (radix_of c.args.base) c.args.text.now c.in_ok-word.field-0.now r.0 r.1.now
    c.in_ok-word.ensures is)

pub returns-clause-none : goal.returns-clause-none
returns-clause-none c =
    none_then c.list.result _ _ (λ none numbers rest is same. none numbers rest is
    (word_cut c.args.name.now c.args.text.now c.in_ok-word.field-0.now _ c.in_ok-word.ensures same))
    c.list.ensures.none
