use Rattle.std.proofs.lemmas.List.Elements.{All-nil}
use Rattle.ce_desk.proofs.Sound.{replies_sound, closing_true}
use Rattle.ce_desk.specs.Desk.{empty_desk}
use Rattle.ce_desk.specs.Sound.{IsSound}
use Rattle.ce_desk.proofs.laws.desks_tell_truly.Goals as goal

pub returns-clause-replies : goal.returns-clause-replies
returns-clause-replies c = λ rounds exponent lines desk text known replies.
    replies_sound rounds exponent known 1 empty_desk lines desk text replies (All-nil (IsSound rounds exponent))

pub returns-clause-closings : goal.returns-clause-closings
returns-clause-closings c = λ rounds exponent slot closing known. closing_true rounds exponent known slot closing
