use Rattle.std.proofs.Common.{◌++◌, string_bytes}
use Rattle.std.specs.Prelude.{codes}
use Rattle.std.specs.Fmt.{decimal}
use Rattle.ce_map.proofs.Appended.{three_pieces}
use Rattle.core_entropy.proofs.commands.check.append_refusal.Goals as goal

pub returns : goal.returns
returns c =
    three_pieces (string_bytes c.args.text.now) (string_bytes c.append_place.new.text)
    (string_bytes c.push_str.new.self) (string_bytes c.push_str-2.new.self)
    (codes "refused line " ++ decimal c.args.line ++ codes " ") c.args.word.now (codes "\n")
    c.in_ok-append_place.ensures c.in_ok-push_str.ensures.bytes c.in_ok-push_str-2.ensures.bytes
