use Rattle.std.proofs.Common.{ℕ, refl, subst, sym}
use Rattle.ce_core.specs.Script.{IsScriptOf}
use Rattle.ce_core.specs.Refusals.{IsRefusal}
use Rattle.ce_core.specs.declared.script.ScriptError.{ScriptError}
use Rattle.core_entropy.specs.Replay.{IsReplayText, replay_task}
use Rattle.core_entropy.specs.Status.{ended_with, of_script}
use Rattle.core_entropy.proofs.Ended.{ended_by, wrote_weaker}
use Rattle.core_entropy.proofs.Played.{has_bad_line, has_script}
use Rattle.core_entropy.proofs.ReplayTask.{replay_ended, script_refused}
use Rattle.core_entropy.proofs.commands.replay.replay_orbit.Goals as goal

pub returns-in_err-events : goal.returns-in_err-events
returns-in_err-events g c =
    let script = c.args.script.now in
    let e = c.in_err-events.field-0.0 in
    ended_by g.O.Sink.taken g.O.Sink.faults (replay_task c.args.rounds c.args.scale c.args.orbit.now.angle) script
    c.args.out.now c.args.out.now c.from_residual-in_err-events.result (of_script e)
    c.from_residual-in_err-events.ensures.1
    (script_refused c.args.orbit.now.angle c.args.rounds c.args.scale script c.requires.fits g.O.Sink.taken
    g.O.Sink.faults c.args.out.now c.args.out.now e
    (λ line is. has_bad_line c.args.orbit.now c.args.scale c.len-len.result c.len.result c.in_ok-rows_of.field-0
    c.with_scale-rows.result script c.len-len.ensures.orbit c.len-len.ensures.value c.len-len.ensures.few
    c.with_scale-rows.ensures c.in_ok-rows_of.ensures.rows c.len.ensures.value line
    (subst (λ (x : ScriptError). IsRefusal c.len.result script x) is c.in_err-events.ensures.bad)) refl)

pub returns : goal.returns
returns g c =
    let script = c.args.script.now in
    let has = has_script c.args.orbit.now c.args.scale c.len-len.result c.len.result c.in_ok-rows_of.field-0
    c.with_scale-rows.result script c.len-len.ensures.orbit c.len-len.ensures.value c.len-len.ensures.few
    c.with_scale-rows.ensures c.in_ok-rows_of.ensures.rows c.len.ensures.value c.in_ok-events.events.items
    c.in_ok-events.ensures.events in
    let read = subst (λ (n : ℕ). IsScriptOf n script c.deref.result.now) c.len.ensures.value
    (subst (λ es. IsScriptOf c.len.result script es) (sym c.deref.ensures.value) c.in_ok-events.ensures.events) in
    replay_ended c.args.orbit.now.angle c.args.rounds c.args.scale script c.requires.fits g.O.Sink.taken g.O.Sink.faults
    c.args.out.now c.write_after.new.out has c.write_after.result c.write_after.ensures.stopped
    (wrote_weaker g.O.Sink.taken g.O.Sink.faults c.args.out.now c.write_after.new.out _
    (IsReplayText c.args.orbit.now.angle c.args.rounds c.args.scale script) (λ text each. each script read)
    (ended_with c.write_after.result) c.write_after.ensures.wrote)
