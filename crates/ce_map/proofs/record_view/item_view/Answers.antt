use Rattle.std.proofs.Common.{◌≢◌, ℕ, List, subst, ◌∙◌, refl}
use Rattle.std.specs.Prelude.{codes}
use Rattle.ce_map.specs.Digits.{IsNumber}
use Rattle.ce_map.specs.Grammar.{Item, IsList, item_text}
use Rattle.ce_map.specs.ItemsInside.{IsNamedListAt, IsLowAt}
use Rattle.ce_map.proofs.Fronts.{list_then, low_then}
use Rattle.ce_map.proofs.ItemLaws.{unfit_zero, unfit_one, unfit_two, unfit_three, whole_is, whole_spelled, item_of}
use Rattle.ce_map.proofs.ItemLaws.{fewer, front_is}
use Rattle.ce_map.proofs.record_view.item_view.Goals as goal

pub returns-in_default-clause-none : goal.returns-in_default-clause-none
returns-in_default-clause-none c = unfit_zero c.args.version c.args.text.now c.in_default.ensures

pub returns-in_default-named_list-clause-none : goal.returns-in_default-named_list-clause-none
returns-in_default-named_list-clause-none c =
    unfit_one c.args.version c.args.text.now c.in-Some.first c.in-Some.rest.now c.in-Some.ensures
    c.in_default-named_list.ensures.none

pub returns-in_default-low_line-clause-none : goal.returns-in_default-low_line-clause-none
returns-in_default-low_line-clause-none c =
    let second = c.in-Some-named_list.ensures.found in
    let t2 = c.in-Some-named_list.rest.now in
    unfit_two c.args.version c.args.text.now c.in-Some.first c.in-Some.rest.now c.in-Some.ensures second.list t2
    second.is_list second.spelled (subst (λ b. (rank : ℕ) (list rest : List ℕ) → IsNumber rank → IsList list
    → t2 ≢ low_then b rank list rest) c.entry_base-base.ensures c.in_default-low_line.ensures.none)

pub returns-in_default-named_list-2-clause-none : goal.returns-in_default-named_list-2-clause-none
returns-in_default-named_list-2-clause-none c =
    let second = c.in-Some-named_list.ensures.found in
    let low =
    subst (λ b. IsLowAt (codes "low ") b c.in-Some-named_list.rest.now c.in-Some-low_line.low_rank
    c.in-Some-low_line.low_vector c.in-Some-low_line.rest.now) c.entry_base-base.ensures
    c.in-Some-low_line.ensures.found in
    let t3 = c.in-Some-low_line.rest.now in
    unfit_three c.args.version c.args.text.now c.in-Some.first c.in-Some.rest.now c.in-Some.ensures second.list
    c.in-Some-named_list.rest.now second.is_list second.spelled c.in-Some-low_line.low_rank low.list t3 low.small
    low.is_list low.spelled (subst (λ b. (list rest : List ℕ) → IsList list
    → t3 ≢ list_then (codes "high") b list rest) c.entry_base-base.ensures
    c.in_default-named_list-2.ensures.none)

pub overflow_sub-text : goal.overflow_sub-text
overflow_sub-text c =
    let second = c.in-Some-named_list.ensures.found in
    let low =
    subst (λ b. IsLowAt (codes "low ") b c.in-Some-named_list.rest.now c.in-Some-low_line.low_rank
    c.in-Some-low_line.low_vector c.in-Some-low_line.rest.now) c.entry_base-base.ensures
    c.in-Some-low_line.ensures.found in
    let high =
    subst (λ b. IsNamedListAt (codes "high") b c.in-Some-low_line.rest.now c.in-Some-named_list-2.high_vector
    c.in-Some-named_list-2.rest.now) c.entry_base-base.ensures c.in-Some-named_list-2.ensures.found in
    fewer c.args.text.now
    (item_text c.args.version (item_of c.in-Some.first second.list c.in-Some-low_line.low_rank low.list high.list))
    c.in-Some-named_list-2.rest.now
    (whole_spelled c.args.version c.args.text.now c.in-Some.first c.in-Some.rest.now c.in-Some.ensures
    second.list c.in-Some-named_list.rest.now second.is_list second.spelled c.in-Some-low_line.low_rank
    low.list c.in-Some-low_line.rest.now low.small low.is_list low.spelled high.list
    c.in-Some-named_list-2.rest.now high.is_list high.spelled)

pub returns-clause-found : goal.returns-clause-found
returns-clause-found c =
    let second = c.in-Some-named_list.ensures.found in
    let low =
    subst (λ b. IsLowAt (codes "low ") b c.in-Some-named_list.rest.now c.in-Some-low_line.low_rank
    c.in-Some-low_line.low_vector c.in-Some-low_line.rest.now) c.entry_base-base.ensures
    c.in-Some-low_line.ensures.found in
    let high =
    subst (λ b. IsNamedListAt (codes "high") b c.in-Some-low_line.rest.now c.in-Some-named_list-2.high_vector
    c.in-Some-named_list-2.rest.now) c.entry_base-base.ensures c.in-Some-named_list-2.ensures.found in
    let item : Item = item_of c.in-Some.first second.list c.in-Some-low_line.low_rank low.list high.list in
    let spelled =
    whole_spelled c.args.version c.args.text.now c.in-Some.first c.in-Some.rest.now c.in-Some.ensures second.list
    c.in-Some-named_list.rest.now second.is_list second.spelled c.in-Some-low_line.low_rank low.list
    c.in-Some-low_line.rest.now low.small low.is_list low.spelled high.list c.in-Some-named_list-2.rest.now
    high.is_list high.spelled in
    record {
      item = item;
      is_item =
          whole_is c.args.version c.args.text.now c.in-Some.first c.in-Some.rest.now c.in-Some.ensures second.list
          c.in-Some-named_list.rest.now second.is_list second.spelled c.in-Some-low_line.low_rank low.list
          c.in-Some-low_line.rest.now low.small low.is_list low.spelled high.list
          c.in-Some-named_list-2.rest.now high.is_list high.spelled;
      spelled = spelled;
      shown = record {
        text = c.front_of.ensures
            ∙ front_is c.args.text.now (item_text c.args.version item) c.in-Some-named_list-2.rest.now spelled;
        num = refl;
        den = refl;
        low = refl;
        high = refl;
        low_rank = refl;
        ranks = second.shown;
        low_vector = low.shown;
        high_vector = high.shown;
      };
      at_line = refl;
      at_place = refl;
    }
