use Rattle.std.proofs.Common.{map, string_bytes}
use Rattle.core_entropy.proofs.DeskTask.{settings_ask, settings_refused}
use Rattle.core_entropy.proofs.desk.settings_asked.Goals as goal

pub returns-clause-asked : goal.returns-clause-asked
returns-clause-asked c =
    settings_ask (map string_bytes c.args.words.now) c.read_words.result c.read_words.ensures.command
    c.settings_read.result c.settings_read.ensures.some

pub returns-clause-refused : goal.returns-clause-refused
returns-clause-refused c =
    settings_refused (map string_bytes c.args.words.now) c.read_words.result c.read_words.ensures.command
    c.read_words.ensures.usage c.settings_read.result c.settings_read.ensures.none
