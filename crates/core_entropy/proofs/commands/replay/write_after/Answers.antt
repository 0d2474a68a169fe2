use Rattle.std.proofs.Common.{◌∙◌, List, ℕ, ap}
use Rattle.ce_cert.specs.Quotients.{low_of, high_of}
use Rattle.ce_rows.specs.declared.interval.Interval.{Interval}
use Rattle.core_entropy.specs.InitialEnclosure.{IsInitialEnclosure}
use Rattle.core_entropy.specs.Replay.{replay_text}
use Rattle.core_entropy.proofs.Ended.{wrote_weaker}
use Rattle.core_entropy.proofs.Played.{shared_is}
use Rattle.core_entropy.proofs.ReplayTask.{replays}
use Rattle.ce_angle.specs.Fraction.{Fraction}
use Rattle.core_entropy.specs.Status.{ended_with}
use Rattle.core_entropy.proofs.commands.replay.write_after.Goals as goal

pub machine_at-requires-clause-ranking : goal.machine_at-requires-clause-ranking
machine_at-requires-clause-ranking g c = rw c.as_slice.ensures.value c.in_ok-ranks.ensures.begins.start.ranking

pub machine_at-requires-clause-each : goal.machine_at-requires-clause-each
machine_at-requires-clause-each g c = c.in_ok-ranks.ensures.begins.start.vector.each

pub machine_at-requires-clause-some : goal.machine_at-requires-clause-some
machine_at-requires-clause-some g c = c.in_ok-ranks.ensures.begins.start.vector.positive

pub machine_at-requires-clause-most : goal.machine_at-requires-clause-most
machine_at-requires-clause-most g c = c.in_ok-ranks.ensures.begins.small

pub returns-clause-wrote : goal.returns-clause-wrote
returns-clause-wrote g c =
    let rows = c.args.rows.now in
    let o = c.args.orbit.now in
    let p = c.in_ok-ranks.field-0 in
    let h = c.in_ok-ranks.ensures.prepared in
    let initial : Interval = record { low = p.bounds.low; high = p.bounds.high } in
    let is_initial : IsInitialEnclosure rows c.args.rounds initial = record {
      are_rows = c.in_ok-ranks.ensures.begins.start.scaled;
      ranks = p.ranks.ranks;
      numbering = h.numbering;
      bounds = record {
        low = h.bounds.low ∙ ap (λ (v : List ℕ). low_of rows p.ranks.ranks v) h.vector;
        high = h.bounds.high ∙ ap (λ (v : List ℕ). high_of rows p.ranks.ranks v) h.vector;
      };
    } in
    let shared = shared_is rows p.ranks.ranks c.as_slice.result.now p.vector.items
    c.args.rounds initial c.args.events.now
    c.in_ok-core.core c.play.new.self c.as_slice.ensures.value h.vector
    c.in_ok-core.ensures.machine c.play.ensures in
    wrote_weaker g.O.Sink.taken g.O.Sink.faults c.args.out.now c.write_machine.new.out _ _
    (λ text spelled. replays o c.args.scale c.args.rounds rows c.angle.ensures.orbit c.requires.rows initial
    c.args.events.now c.play.new.self.machine.shared is_initial shared text
    (spelled ∙ ap (λ (a : Fraction). replay_text a c.args.scale c.play.new.self.machine.shared)
    c.angle.ensures.value)) (ended_with c.write_machine.result) c.write_machine.ensures.wrote
