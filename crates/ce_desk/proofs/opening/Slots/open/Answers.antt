use Rattle.ce_desk.proofs.Openings.{has_opened}
use Rattle.ce_desk.proofs.opening.Slots.open.Goals as goal

pub returns-clause-opened : goal.returns-clause-opened
returns-clause-opened c =
    has_opened c.args.settings.now c.args.angle c.args.turns c.len-slot.result c.args.self.now
    (record { cases = c.put.new.list; firsts = c.put-2.new.list; workers = c.put-3.new.list })
    c.in-Ok.angle c.in-Ok-of.orbit c.in-Ok-open_orbit.opened c.in-Ok.is c.in-Ok-of.ensures.angle
    c.in-Ok-of.ensures.places c.in-Ok-of.ensures.few
    c.in-Ok-open_orbit.ensures c.put.ensures.more c.put-2.ensures.more c.put-3.ensures.more
