use Rattle.std.proofs.Common.{◌≡◌, length, rules}
use Rattle.ce_desk.proofs.Concluded.{one_ahead}
use Rattle.ce_desk.proofs.Stopped.{stopped_served}
use Rattle.ce_desk.proofs.serving.stopped_early.Goals as goal

pub returns : goal.returns
returns g c = λ rounds exponent source out desk next early by h.
    let long : length c.args.talk.lines.bytes.buffer ≡ 512 = search rules in
    stopped_served g.S.Source.left g.S.Source.faults g.O.Sink.taken g.O.Sink.faults rounds exponent
    source out c.args.talk desk early
    next h (one_ahead c.args.talk.lines.bytes c.requires.reader long)
    c.stopped.result c.stopped.ensures.source c.stopped.ensures.out c.args.fault c.stopped.ensures.stop by
