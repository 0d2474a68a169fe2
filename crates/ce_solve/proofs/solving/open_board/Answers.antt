use Rattle.std.proofs.Common.{◌≡◌, ◌<◌, ◌≤◌, ◌^◌, ◌∙◌, ℕ, List, All, refl, sym, ap, subst}
use Rattle.std.proofs.lemmas.List.{with_items_is}
use Rattle.ce_cert.specs.Start.{IsStart}
use Rattle.ce_vector.specs.Start.{scaled_up}
use Rattle.ce_words.specs.Seats.{board_run}
use Rattle.ce_words.specs.declared.view.Run.{Run}
use Rattle.ce_solve.specs.Prepared.{IsOpenedFor}
use Rattle.ce_solve.proofs.Assembling.{if_ok}
use Rattle.ce_solve.proofs.Beginnings.{scaled_starts}
use Rattle.ce_solve.proofs.solving.open_board.Goals as goal

pub scale_start-requires-clause-some : goal.scale_start-requires-clause-some
scale_start-requires-clause-some c =
    let vec : c.deref_mut.result.now ≡ c.args.prepared.now.vector.items =
    c.deref_mut.ensures.value ∙ (c.in_ok-start.ensures.items ∙ c.deref.ensures.value) in
    subst (λ (v : List ℕ). All (λ x. 1 ≤ x) v) (sym vec) c.requires.start.vector.positive

pub scale_start-requires-clause-most : goal.scale_start-requires-clause-most
scale_start-requires-clause-most c =
    let vec : c.deref_mut.result.now ≡ c.args.prepared.now.vector.items =
    c.deref_mut.ensures.value ∙ (c.in_ok-start.ensures.items ∙ c.deref.ensures.value) in
    subst (λ (v : List ℕ). All (λ x. x < 2 ^ 58) v) (sym vec) c.requires.small

pub new-requires : goal.new-requires
new-requires c =
    let rows = c.args.rows.now in
    let prepared = c.args.prepared.now in
    let start = c.deref-2.result.now in
    let vec : c.deref_mut.result.now ≡ prepared.vector.items =
    c.deref_mut.ensures.value ∙ (c.in_ok-start.ensures.items ∙ c.deref.ensures.value) in
    let s : start ≡ c.scale_start.new.v = c.deref-2.ensures.value
    ∙ with_items_is c.in_ok-start.start c.scale_start.new.v (c.scale_start.auto.v ∙ c.deref_mut.ensures.len) in
    record {
      start = subst (λ (r : List ℕ). IsStart rows r start prepared.bounds.low prepared.bounds.high)
          (sym c.as_slice.ensures.value)
          (scaled_starts rows prepared start c.requires (s ∙ (c.scale_start.ensures.value ∙ ap scaled_up vec)));
    }

pub returns-clause-run : goal.returns-clause-run
returns-clause-run c =
    let rows = c.args.rows.now in
    let prepared = c.args.prepared.now in
    let start = c.deref-2.result.now in
    let vec : c.deref_mut.result.now ≡ prepared.vector.items =
    c.deref_mut.ensures.value ∙ (c.in_ok-start.ensures.items ∙ c.deref.ensures.value) in
    let s : start ≡ c.scale_start.new.v = c.deref-2.ensures.value
    ∙ with_items_is c.in_ok-start.start c.scale_start.new.v (c.scale_start.auto.v ∙ c.deref_mut.ensures.len) in
    let start_is : start ≡ scaled_up prepared.vector.items = s ∙ (c.scale_start.ensures.value ∙ ap scaled_up vec) in
    let run : Run = record {
      rows = rows.list;
      exponent = rows.exponent;
      ranks = c.as_slice.result.now;
      start = start;
      initial = record { low = prepared.bounds.low; high = prepared.bounds.high };
    } in
    let opened : IsOpenedFor rows prepared run = record {
      rows_are = refl;
      ranks_are = c.as_slice.ensures.value;
      low = refl;
      high = refl;
      start_is = start_is;
      starts = subst (λ (r : List ℕ). IsStart rows r start prepared.bounds.low prepared.bounds.high)
          (sym c.as_slice.ensures.value) (scaled_starts rows prepared start c.requires start_is);
    } in
    if_ok _ (λ made. board_run made.0 ≡ run) (λ made. IsOpenedFor rows prepared (board_run made.0)) c.new.ensures.run
    (λ made is. subst (λ (r : Run). IsOpenedFor rows prepared r) (sym is) opened)
