use Rattle.std.proofs.Common.{string_bytes}
use Rattle.std.specs.Fmt.{decimal}
use Rattle.ce_rows.specs.Rows.{targets_of}
use Rattle.core_entropy.specs.Show.{spaced}
use Rattle.core_entropy.proofs.ShowTask.{row_joined}
use Rattle.core_entropy.proofs.commands.show.append_row.Goals as goal

pub returns : goal.returns
returns c =
    row_joined (string_bytes c.args.text.now) (string_bytes c.append_number.new.text)
    (string_bytes c.append_number-2.new.text) (string_bytes c.append_number-3.new.text)
    (string_bytes c.push_str.new.self) (string_bytes c.append_successors.new.text)
    (string_bytes c.push_str-2.new.self) (decimal c.args.k) (decimal c.args.places.0) (decimal c.args.places.1)
    (spaced decimal (targets_of c.args.row)) c.in_ok-append_number.ensures c.in_ok-append_number-2.ensures
    c.in_ok-append_number-3.ensures c.in_ok-push_str.ensures.bytes c.in_ok-append_successors.ensures
    c.in_ok-push_str-2.ensures.bytes
