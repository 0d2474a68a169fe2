-- The table of the commands: a row for each, and the limits of what a command has. Source: this project's choice.
use Rattle.std.specs.Prelude.{◌≡◌, ◌∷◌, ⊤, List, [], Result, IfOk, codes}
use Rattle.clap.specs.Words.{App, Text}
use Rattle.ce_angle.specs.Fraction.{Fraction, IsAngle}
use Rattle.ce_angle.specs.Typed.{angle_of_text}
use Rattle.ce_angle.specs.declared.angle.AngleError.{AngleError}
use Rattle.ce_rows.specs.Limits.{greatest_order, most_reads, most_rounds, most_sessions, most_turns, most_workers}
use Rattle.ce_command.specs.Options.{IsNumberOf, OptionForm}
use Rattle.ce_command.specs.Form.{CommandForm, app_of_form}
use Rattle.ce_command.specs.declared.command.CommandName.{CommandName}
use Rattle.ce_command.specs.declared.command.CommandName.TheVariants as name
use Rattle.ce_command.specs.declared.command.Command.{Command}
use Rattle.ce_command.specs.declared.command.Command.TheVariants as command
use Rattle.ce_command.specs.declared.options.Numbers.TheVariants.{Between, Exponents}

-- the positional word of an angle
abbrev pub fraction : Text
fraction = codes "fraction"

-- the positional words of two angles
abbrev pub first : Text
first = codes "first"

abbrev pub second : Text
second = codes "second"

abbrev pub rounds : OptionForm
rounds = record { name = codes "rounds"; default = most_rounds; numbers = Between 0 most_rounds }

abbrev pub turns : OptionForm
turns = record { name = codes "turns"; default = 400; numbers = Between 0 most_turns }

abbrev pub workers : OptionForm
workers = record { name = codes "workers"; default = 2; numbers = Between 1 most_workers }

abbrev pub sessions : OptionForm
sessions = record { name = codes "sessions"; default = 1; numbers = Between 1 most_sessions }

abbrev pub reads : OptionForm
reads = record { name = codes "reads"; default = 10; numbers = Between 1 most_reads }

abbrev pub scale : OptionForm
scale = record { name = codes "scale"; default = 32; numbers = Exponents }

-- the positional words that are numbers
abbrev pub start : OptionForm
start = record { name = codes "start"; default = 0; numbers = Between 0 1000000000 }

abbrev pub count : OptionForm
count = record { name = codes "count"; default = 1; numbers = Between 1 10000 }

abbrev pub from : OptionForm
from = record { name = codes "from"; default = 0; numbers = Between 0 4294967295 }

abbrev pub to : OptionForm
to = record { name = codes "to"; default = 0; numbers = Between 0 4294967295 }

abbrev pub degree : OptionForm
degree = record { name = codes "degree"; default = 2; numbers = Between 2 16 }

abbrev pub order : OptionForm
order = record { name = codes "order"; default = 1; numbers = Between 1 greatest_order }

-- the options of a command that runs workers, also with sessions that look on, and of one without turns
abbrev pub run : List OptionForm
run = rounds ∷ turns ∷ workers ∷ scale ∷ []

abbrev pub look : List OptionForm
look = rounds ∷ turns ∷ workers ∷ sessions ∷ reads ∷ scale ∷ []

-- the options of a desk, whose lines say the turns
abbrev pub talk : List OptionForm
talk = rounds ∷ workers ∷ scale ∷ []

abbrev pub still : List OptionForm
still = rounds ∷ scale ∷ []

unfoldable pub form_of : CommandName → CommandForm
form_of name.Angle = record {
  name = codes "angle";
  positionals = fraction ∷ [];
  numbers = [];
  options = run;
  command = λ text number. command.Angle (angle_of_text (text fraction)) (number rounds) (number turns)
      (number workers) (number scale);
}
form_of name.Degree = record {
  name = codes "degree";
  positionals = codes "degree" ∷ fraction ∷ [];
  numbers = degree ∷ [];
  options = run;
  command = λ text number. command.Degree (number degree) (angle_of_text (text fraction)) (number rounds)
      (number turns) (number workers) (number scale);
}
form_of name.Show = record {
  name = codes "show";
  positionals = fraction ∷ [];
  numbers = [];
  options = [];
  command = λ text number. command.Show (angle_of_text (text fraction));
}
form_of name.Replay = record {
  name = codes "replay";
  positionals = fraction ∷ [];
  numbers = [];
  options = still;
  command = λ text number. command.Replay (angle_of_text (text fraction)) (number rounds) (number scale);
}
form_of name.Check = record {
  name = codes "check";
  positionals = [];
  numbers = [];
  options = [];
  command = λ text number. command.Check;
}
form_of name.Upgrade = record {
  name = codes "upgrade";
  positionals = [];
  numbers = [];
  options = [];
  command = λ text number. command.Upgrade;
}
form_of name.Part = record {
  name = codes "part";
  positionals = codes "order" ∷ codes "from" ∷ codes "to" ∷ [];
  numbers = order ∷ from ∷ to ∷ [];
  options = run;
  command = λ text number. command.Part (number order) (number from) (number to) (number rounds) (number turns)
      (number workers) (number scale);
}
form_of name.Merge = record {
  name = codes "merge";
  positionals = [];
  numbers = [];
  options = [];
  command = λ text number. command.Merge;
}
form_of name.Compare = record {
  name = codes "compare";
  positionals = first ∷ second ∷ [];
  numbers = [];
  options = still;
  command = λ text number. command.Compare (angle_of_text (text first)) (angle_of_text (text second))
      (number rounds) (number scale);
}
form_of name.Atlas = record {
  name = codes "atlas";
  positionals = codes "order" ∷ [];
  numbers = order ∷ [];
  options = still;
  command = λ text number. command.Atlas (number order) (number rounds) (number scale);
}
form_of name.Probe = record {
  name = codes "probe";
  positionals = codes "start" ∷ codes "count" ∷ [];
  numbers = start ∷ count ∷ [];
  options = still;
  command = λ text number. command.Probe (number start) (number count) (number rounds) (number scale);
}
form_of name.Map = record {
  name = codes "map";
  positionals = codes "order" ∷ [];
  numbers = order ∷ [];
  options = run;
  command = λ text number. command.Map (number order) (number rounds) (number turns) (number workers)
      (number scale);
}
form_of name.Watch = record {
  name = codes "watch";
  positionals = fraction ∷ [];
  numbers = [];
  options = look;
  command = λ text number. command.Watch (angle_of_text (text fraction)) (number rounds) (number turns)
      (number workers) (number sessions) (number reads) (number scale);
}
form_of name.Desk = record {
  name = codes "desk";
  positionals = [];
  numbers = [];
  options = talk;
  command = λ text number. command.Desk (number rounds) (number workers) (number scale);
}

-- the names, each once
abbrev pub all_names : List CommandName
all_names =
    name.Angle ∷ name.Degree ∷ name.Show ∷ name.Replay ∷ name.Check ∷ name.Upgrade ∷ name.Part ∷ name.Merge
    ∷ name.Compare ∷ name.Atlas ∷ name.Probe ∷ name.Map ∷ name.Watch ∷ name.Desk ∷ []

-- clap's description of a command of the table
abbrev pub app_named : CommandName → App
app_named name = app_of_form (form_of name)

-- Words begin with the name of a command.
pub record NameCommand (name : CommandName) (words : List Text) : Type 0 where
  pub rest : List Text
  pub begin : words ≡ (form_of name).name ∷ rest

-- What is read as an angle is one.
abbrev pub IsRead : Result Fraction AngleError → Type 0
IsRead angle = IfOk angle IsAngle

-- A command's angles are angles, and each of its numbers is one that its option takes.
abbrev pub IsWithinLimits : Command → Type 0
IsWithinLimits (command.Angle a r t w s) =
    IsRead a × IsNumberOf rounds r × IsNumberOf turns t × IsNumberOf workers w × IsNumberOf scale s
IsWithinLimits (command.Degree d a r t w s) =
    IsNumberOf degree d × IsRead a × IsNumberOf rounds r × IsNumberOf turns t × IsNumberOf workers w
    × IsNumberOf scale s
IsWithinLimits (command.Show a) = IsRead a
IsWithinLimits (command.Replay a r s) = IsRead a × IsNumberOf rounds r × IsNumberOf scale s
IsWithinLimits command.Check = ⊤
IsWithinLimits command.Upgrade = ⊤
IsWithinLimits (command.Part n i j r t w s) =
    IsNumberOf order n × IsNumberOf from i × IsNumberOf to j × IsNumberOf rounds r × IsNumberOf turns t
    × IsNumberOf workers w × IsNumberOf scale s
IsWithinLimits command.Merge = ⊤
IsWithinLimits (command.Compare a b r s) = IsRead a × IsRead b × IsNumberOf rounds r × IsNumberOf scale s
IsWithinLimits (command.Atlas n r s) = IsNumberOf order n × IsNumberOf rounds r × IsNumberOf scale s
IsWithinLimits (command.Probe n c r s) =
    IsNumberOf start n × IsNumberOf count c × IsNumberOf rounds r × IsNumberOf scale s
IsWithinLimits (command.Map n r t w s) =
    IsNumberOf order n × IsNumberOf rounds r × IsNumberOf turns t × IsNumberOf workers w × IsNumberOf scale s
IsWithinLimits (command.Watch a r t w n k s) =
    IsRead a × IsNumberOf rounds r × IsNumberOf turns t × IsNumberOf workers w × IsNumberOf sessions n
    × IsNumberOf reads k × IsNumberOf scale s
IsWithinLimits (command.Desk r w s) = IsNumberOf rounds r × IsNumberOf workers w × IsNumberOf scale s
