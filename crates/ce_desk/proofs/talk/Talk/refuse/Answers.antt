use Rattle.std.proofs.Common.{◌≡◌, ℕ, List, subst}
use Rattle.std.specs.Result.{IfErr}
use Rattle.ce_port.specs.WriteAll.{GrewByPrefix}
use Rattle.ce_desk.specs.DeskText.{refused_text}
use Rattle.ce_desk.proofs.talk.Talk.refuse.Goals as goal

pub returns-clause-part : goal.returns-clause-part
returns-clause-part g c =
    let same : c.deref.result.now ≡ refused_text c.args.self.now.count c.args.cause =
    (let a = c.deref.ensures in let b = c.in_ok-line.ensures in cc) in
    subst (λ (t : List ℕ). IfErr c.say.result
    (λ _. GrewByPrefix (g.O.Sink.taken c.args.self.now.out) (g.O.Sink.taken c.say.new.self.out) t)) same
    c.say.ensures.part
