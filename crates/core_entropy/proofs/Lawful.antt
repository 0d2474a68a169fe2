-- Each task of the table is lawful: a row for each command.
use Rattle.std.proofs.Common.{◌≡◌, ℕ, List, Option, None, Some, Result, Ok, Err, refl}
use Rattle.ce_angle.specs.Fraction.{Fraction, IsAngle}
use Rattle.ce_angle.specs.declared.angle.AngleError.{AngleError}
use Rattle.ce_command.specs.Table.{IsRead, IsWithinLimits}
use Rattle.ce_command.specs.Meaning.{command_of}
use Rattle.ce_command.specs.declared.command.Command.{Command}
use Rattle.ce_command.specs.declared.command.Command.TheVariants.{Angle, Show, Replay, Check, Upgrade, Probe, Map}
use Rattle.ce_command.specs.declared.command.Command.TheVariants.{Watch}
use Rattle.ce_command.specs.declared.command.Command.TheVariants.{Degree, Part, Merge, Compare, Atlas, Desk}
use Rattle.ce_command.proofs.TableRows.{all_limited}
use Rattle.core_entropy.specs.Angle.{angle_task}
use Rattle.core_entropy.specs.Checked.{IsCheckAnswer, IsUpgradeAnswer}
use Rattle.core_entropy.specs.Compare.{compare_task}
use Rattle.core_entropy.specs.Degree.{degree_task}
use Rattle.core_entropy.specs.Replay.{replay_task}
use Rattle.core_entropy.specs.Table.{task_asked, task_if, task_of}
use Rattle.core_entropy.specs.Watch.{watch_task}
use Rattle.core_entropy.specs.Task.{Task, on_angle}
use Rattle.core_entropy.specs.declared.status.Status.TheVariants as status
use Rattle.core_entropy.proofs.AngleTask.{angle_lawful}
use Rattle.core_entropy.proofs.CheckTask.{verdict_lawful}
use Rattle.core_entropy.proofs.AtlasTask.{atlas_lawful}
use Rattle.core_entropy.proofs.CompareTask.{compare_lawful}
use Rattle.core_entropy.proofs.DegreeTask.{degree_lawful}
use Rattle.core_entropy.proofs.MergeTask.{merge_lawful}
use Rattle.core_entropy.proofs.PartTask.{part_lawful}
use Rattle.core_entropy.proofs.MapTask.{map_lawful}
use Rattle.core_entropy.proofs.ProbeTask.{probe_lawful}
use Rattle.core_entropy.proofs.ReplayTask.{replay_lawful}
use Rattle.core_entropy.proofs.ShowTask.{show_lawful}
use Rattle.core_entropy.proofs.Stages.{IsLawful, refusal_lawful}
use Rattle.core_entropy.proofs.WatchTask.{watch_lawful}

on_angle_lawful : (angle : Result Fraction AngleError) (task : Fraction → Task) → IsRead angle
    → ((a : Fraction) → IsAngle a → IsLawful (task a)) → IsLawful (on_angle angle task)
on_angle_lawful (Err flaw) task is lawful = refusal_lawful (status.Angle flaw) tt
on_angle_lawful (Ok angle) task is lawful = lawful angle is

pub command_lawful : (command : Command) → IsWithinLimits command → IsLawful (task_of command)
command_lawful (Angle angle rounds turns workers scale) h =
    on_angle_lawful angle _ h.0 (λ a is. angle_lawful a rounds turns workers scale h.4 is)
command_lawful (Degree degree angle rounds turns workers scale) h =
    on_angle_lawful angle _ h.1 (λ a is. degree_lawful degree a rounds turns workers scale h.5)
command_lawful (Show angle) h = on_angle_lawful angle _ h show_lawful
command_lawful (Replay angle rounds scale) h =
    on_angle_lawful angle _ h.0 (λ a is. replay_lawful a rounds scale h.1.1 is)
command_lawful Check h = verdict_lawful IsCheckAnswer
command_lawful Upgrade h = verdict_lawful IsUpgradeAnswer
command_lawful (Part order from to rounds turns workers scale) h =
    part_lawful order from to rounds turns workers scale h.0.0 h.0.1 h.6
command_lawful Merge h = merge_lawful
command_lawful (Compare first second rounds scale) h =
    on_angle_lawful first _ h.0
    (λ a is. on_angle_lawful second _ h.1 (λ b also. compare_lawful a b rounds scale is also))
command_lawful (Atlas order rounds scale) h = atlas_lawful order rounds scale h.2
command_lawful (Probe start count rounds scale) h = probe_lawful start count rounds scale
command_lawful (Map order rounds turns workers scale) h = map_lawful order rounds turns workers scale h.4
command_lawful (Watch angle rounds turns workers sessions reads scale) h =
    on_angle_lawful angle _ h.0 (λ a is. watch_lawful a rounds turns workers sessions reads scale h.6 is)
command_lawful (Desk rounds workers scale) h = refusal_lawful status.Usage tt

if_lawful : (words : List (List ℕ)) (o : Option Command) → command_of words ≡ o → IsLawful (task_if o)
if_lawful words None e = refusal_lawful status.Usage tt
if_lawful words (Some command) e = command_lawful command (all_limited words command e)

pub words_lawful : (words : List (List ℕ)) → IsLawful (task_asked words)
words_lawful words = if_lawful words (command_of words) refl

-- The row of a command that reads, for its angle.
pub replay_row : (command : Command) (angle : Result Fraction AngleError) (a : Fraction) (rounds scale : ℕ)
    → command ≡ Replay angle rounds scale → angle ≡ Ok a → task_of command ≡ replay_task rounds scale a
replay_row command angle a rounds scale is read = rw (is, read) refl

-- The row of `degree`, for its angle.
pub degree_row : (command : Command) (angle : Result Fraction AngleError) (a : Fraction)
    (degree rounds turns workers scale : ℕ)
    → command ≡ Degree degree angle rounds turns workers scale → angle ≡ Ok a
    → task_of command ≡ degree_task degree rounds turns workers scale a
degree_row command angle a degree rounds turns workers scale is read = rw (is, read) refl

-- The row of `compare`, for its angles.
pub compare_row : (command : Command) (first second : Result Fraction AngleError) (a b : Fraction) (rounds scale : ℕ)
    → command ≡ Compare first second rounds scale → first ≡ Ok a → second ≡ Ok b
    → task_of command ≡ compare_task rounds scale a b
compare_row command first second a b rounds scale is read also = rw (is, read, also) refl

-- The row of `angle`, for its angle.
pub angle_row : (command : Command) (angle : Result Fraction AngleError) (a : Fraction) (rounds turns workers scale : ℕ)
    → command ≡ Angle angle rounds turns workers scale → angle ≡ Ok a
    → task_of command ≡ angle_task rounds turns workers scale a
angle_row command angle a rounds turns workers scale is read = rw (is, read) refl

-- The row of `watch`, for its angle.
pub watch_row : (command : Command) (angle : Result Fraction AngleError) (a : Fraction)
    (rounds turns workers sessions reads scale : ℕ) → command ≡ Watch angle rounds turns workers sessions reads scale
    → angle ≡ Ok a → task_of command ≡ watch_task rounds turns workers sessions reads scale a
watch_row command angle a rounds turns workers sessions reads scale is read = rw (is, read) refl
