use Rattle.std.proofs.Common.{◌≡◌, ◌++◌, ◌∙◌, ℕ, List, ap, arith, inr, length, subst}
use Rattle.ce_check.proofs.SomeVerdict.{few_order}
use Rattle.ce_map.specs.Grammar.{end_line}
use Rattle.ce_port.specs.Sink.{GrewBy}
use Rattle.ce_port.specs.WriteAll.{GrewByPrefix}
use Rattle.core_entropy.specs.declared.status.Status.TheVariants.{NoMemory, WriteFault}
use Rattle.ce_desk.proofs.OneMore.{rose_since}
use Rattle.core_entropy.proofs.Ended.{wrote_by, wrote_stopped}
use Rattle.core_entropy.proofs.UpgradeTask.{few_items, header_begins, spelled_as, upgraded_part, upgraded_rest}
use Rattle.core_entropy.proofs.UpgradeTask.{upgraded_stays, upgraded_whole}
use Rattle.core_entropy.proofs.commands.upgrade.write_upgraded.Goals as goal

pub unreachable-requires : goal.unreachable-requires
unreachable-requires g c =
    let r = c.requires in
    let few = few_items c.args.bytes.now r.header r.items r.good in
    c.in_default.ensures (omega (arith, few, r.counted))

pub append_header-requires-clause-some : goal.append_header-requires-clause-some
append_header-requires-clause-some g c =
    let r = c.requires in
    let order = c.first_header-order.ensures.header c.args.bytes.now r.header r.items c.args.count c.new-view.ensures
    (spelled_as c.args.bytes.now c.args.count r) in
    omega (arith, order, r.good.spelled.header.some)

pub append_header-requires-clause-few : goal.append_header-requires-clause-few
append_header-requires-clause-few g c =
    let r = c.requires in
    let order = c.first_header-order.ensures.header c.args.bytes.now r.header r.items c.args.count c.new-view.ensures
    (spelled_as c.args.bytes.now c.args.count r) in
    omega (arith, order, few_order r.header r.good.spelled.header)

pub write_items-requires : goal.write_items-requires
write_items-requires g c =
    let r = c.requires in
    record {
      version = r.header.version;
      items = r.items;
      are_left = c.first_header-order.ensures.left c.args.bytes.now r.header r.items c.args.count c.new-view.ensures
          (spelled_as c.args.bytes.now c.args.count r);
      counted = omega (arith, r.counted, c.in-Ok.ensures);
    }

pub returns-in_err-write_items-clause-wrote : goal.returns-in_err-write_items-clause-wrote
returns-in_err-write_items-clause-wrote g c =
    let r = c.requires in
    let f = c.first_header-order in
    let bytes = c.args.bytes.now in
    let spelled = spelled_as bytes c.args.count r in
    let begins = header_begins r.header c.new-page.result.items c.append_header.new.text.items f.result.0 f.result.1
    c.new-page.ensures.items c.in_ok-append_header.ensures.ok
    (f.ensures.header bytes r.header r.items c.args.count c.new-view.ensures spelled)
    (f.ensures.scale bytes r.header r.items c.args.count c.new-view.ensures spelled) in
    let are = f.ensures.left bytes r.header r.items c.args.count c.new-view.ensures spelled in
    let long : length r.items ≡ c.in-Ok.count = omega (arith, r.counted, c.in-Ok.ensures) in
    let e = c.in_err-write_items in
    let part = upgraded_part bytes r.header r.items c.args.count spelled c.append_header.new.text.items begins
    (g.O.Sink.taken c.args.out.now) (g.O.Sink.taken c.write_items.new.out)
    (e.ensures.part r.header.version r.items are long) in
    wrote_by g.O.Sink.taken g.O.Sink.faults c.args.out.now c.write_items.new.out _
    c.from_residual-in_err-write_items.result e.field-0.0 c.from_residual-in_err-write_items.ensures.1
    (wrote_stopped g.O.Sink.taken g.O.Sink.faults c.args.out.now c.write_items.new.out _
    e.field-0.0 e.ensures.stopped part)

pub returns-in_err-append_end-clause-wrote : goal.returns-in_err-append_end-clause-wrote
returns-in_err-append_end-clause-wrote g c =
    let r = c.requires in
    let f = c.first_header-order in
    let bytes = c.args.bytes.now in
    let spelled = spelled_as bytes c.args.count r in
    let begins = header_begins r.header c.new-page.result.items c.append_header.new.text.items f.result.0 f.result.1
    c.new-page.ensures.items c.in_ok-append_header.ensures.ok
    (f.ensures.header bytes r.header r.items c.args.count c.new-view.ensures spelled)
    (f.ensures.scale bytes r.header r.items c.args.count c.new-view.ensures spelled) in
    let are = f.ensures.left bytes r.header r.items c.args.count c.new-view.ensures spelled in
    let long : length r.items ≡ c.in-Ok.count = omega (arith, r.counted, c.in-Ok.ensures) in
    let part = upgraded_stays bytes r.header r.items c.args.count spelled c.append_header.new.text.items begins
    (g.O.Sink.taken c.args.out.now) (g.O.Sink.taken c.write_items.new.out) c.write_items.new.page.items
    (c.in_ok-write_items.ensures.done r.header.version r.items are long) in
    wrote_by g.O.Sink.taken g.O.Sink.faults c.args.out.now c.write_items.new.out _
    c.from_residual-in_err-append_end.result NoMemory c.from_residual-in_err-append_end.ensures.1 (inr part)

pub returns-in_err-write_piece-clause-wrote : goal.returns-in_err-write_piece-clause-wrote
returns-in_err-write_piece-clause-wrote g c =
    let r = c.requires in
    let f = c.first_header-order in
    let bytes = c.args.bytes.now in
    let spelled = spelled_as bytes c.args.count r in
    let begins = header_begins r.header c.new-page.result.items c.append_header.new.text.items f.result.0 f.result.1
    c.new-page.ensures.items c.in_ok-append_header.ensures.ok
    (f.ensures.header bytes r.header r.items c.args.count c.new-view.ensures spelled)
    (f.ensures.scale bytes r.header r.items c.args.count c.new-view.ensures spelled) in
    let are = f.ensures.left bytes r.header r.items c.args.count c.new-view.ensures spelled in
    let long : length r.items ≡ c.in-Ok.count = omega (arith, r.counted, c.in-Ok.ensures) in
    let same : c.in-Ok.count ≡ c.args.count = omega (arith, c.in-Ok.ensures) in
    let put = c.in_ok-append_end.ensures.ok ∙ ap (λ n. c.write_items.new.page.items ++ end_line n) same in
    let written =
    subst (λ (t : List ℕ). GrewByPrefix (g.O.Sink.taken c.write_items.new.out)
    (g.O.Sink.taken c.write_piece.new.out) t) c.deref.ensures.value c.in_err-write_piece.ensures.part in
    let part = upgraded_rest bytes r.header r.items c.args.count spelled c.append_header.new.text.items begins
    (g.O.Sink.taken c.args.out.now) (g.O.Sink.taken c.write_items.new.out) c.write_items.new.page.items
    (c.in_ok-write_items.ensures.done r.header.version r.items are long) (g.O.Sink.taken c.write_piece.new.out)
    c.append_end.new.text.items put written in
    wrote_by g.O.Sink.taken g.O.Sink.faults c.args.out.now c.write_piece.new.out _
    c.from_residual-in_err-write_piece.result WriteFault c.from_residual-in_err-write_piece.ensures.1
    (part, rose_since _ _ _ c.in_ok-write_items.ensures.counted c.in_err-write_piece.ensures.fault)

pub returns-clause-wrote : goal.returns-clause-wrote
returns-clause-wrote g c =
    let r = c.requires in
    let f = c.first_header-order in
    let bytes = c.args.bytes.now in
    let spelled = spelled_as bytes c.args.count r in
    let begins = header_begins r.header c.new-page.result.items c.append_header.new.text.items f.result.0 f.result.1
    c.new-page.ensures.items c.in_ok-append_header.ensures.ok
    (f.ensures.header bytes r.header r.items c.args.count c.new-view.ensures spelled)
    (f.ensures.scale bytes r.header r.items c.args.count c.new-view.ensures spelled) in
    let are = f.ensures.left bytes r.header r.items c.args.count c.new-view.ensures spelled in
    let long : length r.items ≡ c.in-Ok.count = omega (arith, r.counted, c.in-Ok.ensures) in
    let same : c.in-Ok.count ≡ c.args.count = omega (arith, c.in-Ok.ensures) in
    let put = c.in_ok-append_end.ensures.ok ∙ ap (λ n. c.write_items.new.page.items ++ end_line n) same in
    let written =
    subst (λ (t : List ℕ). GrewBy (g.O.Sink.taken c.write_items.new.out) (g.O.Sink.taken c.write_piece.new.out) t)
    c.deref.ensures.value c.in_ok-write_piece.ensures.whole in
    upgraded_whole bytes r.header r.items c.args.count spelled c.append_header.new.text.items begins
    (g.O.Sink.taken c.args.out.now) (g.O.Sink.taken c.write_items.new.out) c.write_items.new.page.items
    (c.in_ok-write_items.ensures.done r.header.version r.items are long) (g.O.Sink.taken c.write_piece.new.out)
    c.append_end.new.text.items put written
