-- The table of the commands: a row for each. Source: this project's choice.
use Rattle.std.specs.Prelude.{ℕ, List, Option, None, Some}
use Rattle.ce_command.specs.Meaning.{command_of}
use Rattle.ce_command.specs.declared.command.Command.{Command}
use Rattle.ce_command.specs.declared.command.Command.TheVariants.{Angle, Show, Replay, Check, Upgrade, Probe, Map}
use Rattle.ce_command.specs.declared.command.Command.TheVariants.{Watch}
use Rattle.ce_command.specs.declared.command.Command.TheVariants.{Degree, Part, Merge, Compare, Atlas, Desk}
use Rattle.core_entropy.specs.Angle.{angle_task}
use Rattle.core_entropy.specs.Checked.{check_task, upgrade_task}
use Rattle.core_entropy.specs.Atlas.{atlas_task}
use Rattle.core_entropy.specs.Compare.{compare_task}
use Rattle.core_entropy.specs.Degree.{degree_task}
use Rattle.core_entropy.specs.Merge.{merge_task}
use Rattle.core_entropy.specs.Part.{part_task}
use Rattle.core_entropy.specs.Map.{map_task}
use Rattle.core_entropy.specs.Probe.{probe_task}
use Rattle.core_entropy.specs.Replay.{replay_task}
use Rattle.core_entropy.specs.Show.{show_task}
use Rattle.core_entropy.specs.Watch.{watch_task}
use Rattle.core_entropy.specs.Task.{Task, on_angle, refusal}
use Rattle.core_entropy.specs.declared.status.Status.TheVariants.{Usage}

-- the task of a command; a desk, which owns its streams, has a call of its own (`run_desk`)
abbrev pub task_of : Command → Task
task_of (Angle angle rounds turns workers scale) = on_angle angle (angle_task rounds turns workers scale)
task_of (Degree degree angle rounds turns workers scale) =
    on_angle angle (degree_task degree rounds turns workers scale)
task_of (Show angle) = on_angle angle show_task
task_of (Replay angle rounds scale) = on_angle angle (replay_task rounds scale)
task_of Check = check_task
task_of Upgrade = upgrade_task
task_of (Part order from to rounds turns workers scale) = part_task order from to rounds turns workers scale
task_of Merge = merge_task
task_of (Compare first second rounds scale) = on_angle first (λ a. on_angle second (compare_task rounds scale a))
task_of (Atlas order rounds scale) = atlas_task order rounds scale
task_of (Probe start count rounds scale) = probe_task start count rounds scale
task_of (Map order rounds turns workers scale) = map_task order rounds turns workers scale
task_of (Watch angle rounds turns workers sessions reads scale) =
    on_angle angle (watch_task rounds turns workers sessions reads scale)
task_of (Desk rounds workers scale) = refusal Usage

abbrev pub task_if : Option Command → Task
task_if None = refusal Usage
task_if (Some command) = task_of command

-- the task that words ask for
abbrev pub task_asked : List (List ℕ) → Task
task_asked words = task_if (command_of words)
