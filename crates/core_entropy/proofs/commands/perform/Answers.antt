use Rattle.std.proofs.Common.{[], ap, refl}
use Rattle.core_entropy.specs.Checked.{map_limit}
use Rattle.core_entropy.specs.Replay.{script_limit}
use Rattle.core_entropy.specs.Status.{ended_with}
use Rattle.core_entropy.specs.Table.{task_of}
use Rattle.core_entropy.proofs.Lawful.{angle_row, replay_row, watch_row}
use Rattle.core_entropy.proofs.Lawful.{compare_row, degree_row}
use Rattle.core_entropy.proofs.Outcomes.{arm_read, arm_unread, ended_by_row, ended_unread, row_limit}
use Rattle.core_entropy.proofs.commands.perform.Goals as goal

pub returns-in_err-script-in-Replay-clause-ended : goal.returns-in_err-script-in-Replay-clause-ended
returns-in_err-script-in-Replay-clause-ended g c =
    let r = c.in-Replay in
    let row = replay_row c.args.command r.angle c.in_ok-angle-in-Replay.angle r.rounds r.scale
    r.is c.in_ok-angle-in-Replay.was in
    let e = c.in_err-script-in-Replay in
    arm_unread g.O.Sink.taken g.O.Sink.faults g.S.Source.left g.S.Source.faults (task_of c.args.command) _ row
    script_limit refl c.args.source.now c.args.out.now c.read_input.new.source
    c.from_residual-in_err-script-in-Replay.result e.field-0.0 c.from_residual-in_err-script-in-Replay.ensures.1
    e.ensures.none e.ensures.unread

pub returns-in_ok-script-in-Replay-clause-ended : goal.returns-in_ok-script-in-Replay-clause-ended
returns-in_ok-script-in-Replay-clause-ended g c =
    let r = c.in-Replay in
    let row = replay_row c.args.command r.angle c.in_ok-angle-in-Replay.angle r.rounds r.scale
    r.is c.in_ok-angle-in-Replay.was in
    let script = c.in_ok-script-in-Replay in
    arm_read g.O.Sink.taken g.O.Sink.faults g.S.Source.left g.S.Source.faults (task_of c.args.command) _ row
    script_limit refl c.args.source.now c.args.out.now c.write_replay.new.out script.script.items _
    (ended_with c.write_replay.result) c.deref.ensures.value script.ensures.input c.write_replay.ensures

pub returns-in_err-map-in-Check-clause-ended : goal.returns-in_err-map-in-Check-clause-ended
returns-in_err-map-in-Check-clause-ended g c =
    let e = c.in_err-map-in-Check in
    arm_unread g.O.Sink.taken g.O.Sink.faults g.S.Source.left g.S.Source.faults (task_of c.args.command) _
    (ap task_of c.in-Check.is) map_limit refl c.args.source.now c.args.out.now c.read_input-in-Check.new.source
    c.from_residual-in_err-map-in-Check.result e.field-0.0 c.from_residual-in_err-map-in-Check.ensures.1
    e.ensures.none e.ensures.unread

pub returns-in_ok-map-in-Check-clause-ended : goal.returns-in_ok-map-in-Check-clause-ended
returns-in_ok-map-in-Check-clause-ended g c =
    let map = c.in_ok-map-in-Check in
    arm_read g.O.Sink.taken g.O.Sink.faults g.S.Source.left g.S.Source.faults (task_of c.args.command) _
    (ap task_of c.in-Check.is) map_limit refl c.args.source.now c.args.out.now c.write_check.new.out map.map.items _
    (ended_with c.write_check.result) c.deref-in-Check.ensures.value map.ensures.input c.write_check.ensures

pub returns-in_err-map-in-Upgrade-clause-ended : goal.returns-in_err-map-in-Upgrade-clause-ended
returns-in_err-map-in-Upgrade-clause-ended g c =
    let e = c.in_err-map-in-Upgrade in
    arm_unread g.O.Sink.taken g.O.Sink.faults g.S.Source.left g.S.Source.faults (task_of c.args.command) _
    (ap task_of c.in-Upgrade.is) map_limit refl c.args.source.now c.args.out.now c.read_input-in-Upgrade.new.source
    c.from_residual-in_err-map-in-Upgrade.result e.field-0.0 c.from_residual-in_err-map-in-Upgrade.ensures.1
    e.ensures.none e.ensures.unread

pub returns-in_ok-map-in-Upgrade-clause-ended : goal.returns-in_ok-map-in-Upgrade-clause-ended
returns-in_ok-map-in-Upgrade-clause-ended g c =
    let map = c.in_ok-map-in-Upgrade in
    arm_read g.O.Sink.taken g.O.Sink.faults g.S.Source.left g.S.Source.faults (task_of c.args.command) _
    (ap task_of c.in-Upgrade.is) map_limit refl c.args.source.now c.args.out.now c.write_upgrade.new.out
    map.map.items _ (ended_with c.write_upgrade.result) c.deref-in-Upgrade.ensures.value
    map.ensures.input c.write_upgrade.ensures

pub returns-in_ok-angle-in-Angle-clause-ended : goal.returns-in_ok-angle-in-Angle-clause-ended
returns-in_ok-angle-in-Angle-clause-ended g c =
    let old = c.args.out.now in
    let new = c.write_angle.new.out in
    let a = c.in-Angle in
    let task = task_of c.args.command in
    let row = angle_row c.args.command a.angle c.in_ok-angle-in-Angle.angle a.rounds a.turns a.workers a.scale
    a.is c.in_ok-angle-in-Angle.was in
    let s = ended_with c.write_angle.result in
    ended_unread g.O.Sink.taken g.O.Sink.faults task (g.S.Source.left c.args.source.now) s old new
    (row_limit g.O.Sink.taken g.O.Sink.faults task _ row old new _ refl)
    (ended_by_row g.O.Sink.taken g.O.Sink.faults task _ row old new [] s c.write_angle.ensures)

pub returns-in_ok-angle-in-Watch-clause-ended : goal.returns-in_ok-angle-in-Watch-clause-ended
returns-in_ok-angle-in-Watch-clause-ended g c =
    let old = c.args.out.now in
    let new = c.write_watch.new.out in
    let w = c.in-Watch in
    let task = task_of c.args.command in
    let row = watch_row c.args.command w.angle c.in_ok-angle-in-Watch.angle w.rounds w.turns w.workers w.sessions
    w.reads w.scale w.is c.in_ok-angle-in-Watch.was in
    let s = ended_with c.write_watch.result in
    ended_unread g.O.Sink.taken g.O.Sink.faults task (g.S.Source.left c.args.source.now) s old new
    (row_limit g.O.Sink.taken g.O.Sink.faults task _ row old new _ refl)
    (ended_by_row g.O.Sink.taken g.O.Sink.faults task _ row old new [] s c.write_watch.ensures)

pub returns-in_ok-angle-in-Degree-clause-ended : goal.returns-in_ok-angle-in-Degree-clause-ended
returns-in_ok-angle-in-Degree-clause-ended g c =
    let old = c.args.out.now in
    let new = c.write_degree.new.out in
    let a = c.in-Degree in
    let task = task_of c.args.command in
    let row = degree_row c.args.command a.angle c.in_ok-angle-in-Degree.angle a.degree a.rounds a.turns a.workers
    a.scale a.is c.in_ok-angle-in-Degree.was in
    let s = ended_with c.write_degree.result in
    ended_unread g.O.Sink.taken g.O.Sink.faults task (g.S.Source.left c.args.source.now) s old new
    (row_limit g.O.Sink.taken g.O.Sink.faults task _ row old new _ refl)
    (ended_by_row g.O.Sink.taken g.O.Sink.faults task _ row old new [] s c.write_degree.ensures)

pub returns-in_err-parts-in-Merge-clause-ended : goal.returns-in_err-parts-in-Merge-clause-ended
returns-in_err-parts-in-Merge-clause-ended g c =
    let e = c.in_err-parts-in-Merge in
    arm_unread g.O.Sink.taken g.O.Sink.faults g.S.Source.left g.S.Source.faults (task_of c.args.command) _
    (ap task_of c.in-Merge.is) map_limit refl c.args.source.now c.args.out.now c.read_input-in-Merge.new.source
    c.from_residual-in_err-parts-in-Merge.result e.field-0.0 c.from_residual-in_err-parts-in-Merge.ensures.1
    e.ensures.none e.ensures.unread

pub returns-in_ok-parts-in-Merge-clause-ended : goal.returns-in_ok-parts-in-Merge-clause-ended
returns-in_ok-parts-in-Merge-clause-ended g c =
    let parts = c.in_ok-parts-in-Merge in
    arm_read g.O.Sink.taken g.O.Sink.faults g.S.Source.left g.S.Source.faults (task_of c.args.command) _
    (ap task_of c.in-Merge.is) map_limit refl c.args.source.now c.args.out.now c.write_merge.new.out
    parts.parts.items _ (ended_with c.write_merge.result) c.deref-in-Merge.ensures.value
    parts.ensures.input c.write_merge.ensures

pub returns-in_ok-angles-in-Part-clause-ended : goal.returns-in_ok-angles-in-Part-clause-ended
returns-in_ok-angles-in-Part-clause-ended g c =
    let old = c.args.out.now in
    let new = c.write_part.new.out in
    let task = task_of c.args.command in
    let row = ap task_of c.in-Part.is in
    let s = ended_with c.write_part.result in
    ended_unread g.O.Sink.taken g.O.Sink.faults task (g.S.Source.left c.args.source.now) s old new
    (row_limit g.O.Sink.taken g.O.Sink.faults task _ row old new _ refl)
    (ended_by_row g.O.Sink.taken g.O.Sink.faults task _ row old new [] s c.write_part.ensures)

pub returns-in_ok-second-in-Compare-clause-ended : goal.returns-in_ok-second-in-Compare-clause-ended
returns-in_ok-second-in-Compare-clause-ended g c =
    let old = c.args.out.now in
    let new = c.write_compare.new.out in
    let a = c.in-Compare in
    let task = task_of c.args.command in
    let row = compare_row c.args.command a.first a.second c.in_ok-first-in-Compare.first
    c.in_ok-second-in-Compare.second a.rounds a.scale a.is c.in_ok-first-in-Compare.was
    c.in_ok-second-in-Compare.was in
    let s = ended_with c.write_compare.result in
    ended_unread g.O.Sink.taken g.O.Sink.faults task (g.S.Source.left c.args.source.now) s old new
    (row_limit g.O.Sink.taken g.O.Sink.faults task _ row old new _ refl)
    (ended_by_row g.O.Sink.taken g.O.Sink.faults task _ row old new [] s c.write_compare.ensures)
