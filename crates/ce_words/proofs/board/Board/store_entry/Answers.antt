use Rattle.std.proofs.Common.{◌≤◌, ◌^◌, rules, ◌≡◌}
use Rattle.ce_words.specs.Logs.{in_part}
use Rattle.ce_words.proofs.Table.{allows_relax, allows_shrink}
use Rattle.ce_words.proofs.board.Board.store_entry.Goals as goal

pub store-requires : goal.store-requires
store-requires c =
    let seat = c.args.seat.now in
    let r = c.requires.seat in
    let i = c.args.i in
    let x = c.args.value in
    let may : (in_part i seat.me.0.place.part ≡ 1) × (1 ≤ x) × (x ≤ 2 ^ 60) =
    (c.requires.own, c.requires.positive, c.requires.small) in
    (r.table, search rules, allows_shrink _ _ seat.id seat.me r.run r.live i x may)

pub store-requires-else-shrinks : goal.store-requires-else-shrinks
store-requires-else-shrinks c =
    let seat = c.args.seat.now in
    let r = c.requires.seat in
    let i = c.args.i in
    let x = c.args.value in
    let may : (in_part i seat.me.0.place.part ≡ 1) × (1 ≤ x) × (x ≤ 2 ^ 60) =
    (c.requires.own, c.requires.positive, c.requires.small) in
    (r.table, search rules, allows_relax _ _ seat.id seat.me r.run r.live i x may)
