use Rattle.std.proofs.Common.{ℕ, subst}
use Rattle.ce_angle.specs.Fraction.{Fraction}
use Rattle.ce_orbit.specs.Orbit.{HasOrbitWithin}
use Rattle.core_entropy.specs.Output.{Wrote}
use Rattle.core_entropy.specs.Status.{ended_with}
use Rattle.core_entropy.specs.Watch.{IsWatchText}
use Rattle.core_entropy.proofs.WatchTask.{watch_ended}
use Rattle.core_entropy.proofs.commands.watch.write_watch.Goals as goal

pub returns : goal.returns
returns g c =
    let a = c.args in
    let o = c.in_ok-orbit.ensures in
    let s = ended_with c.watch_orbit.result in
    let short : HasOrbitWithin 128 a.angle =
    record { orbit = c.in_ok-orbit.orbit; of_angle = o.angle; is_orbit = o.places; few = o.few } in
    let of_angle =
    subst (λ (f : Fraction). Wrote g.O.Sink.taken g.O.Sink.faults
    (IsWatchText f a.rounds a.turns a.workers a.sessions a.reads c.in-Some.scale) s a.out.now c.watch_orbit.new.out)
    o.angle c.watch_orbit.ensures.wrote in
    let wrote =
    subst (λ (e : ℕ). Wrote g.O.Sink.taken g.O.Sink.faults
    (IsWatchText a.angle a.rounds a.turns a.workers a.sessions a.reads e) s a.out.now c.watch_orbit.new.out)
    c.in-Some.ensures.value of_angle in
    watch_ended a.angle a.rounds a.turns a.workers a.sessions a.reads a.scale c.requires.scale g.O.Sink.taken
    g.O.Sink.faults a.out.now c.watch_orbit.new.out short s c.watch_orbit.ensures.end wrote
