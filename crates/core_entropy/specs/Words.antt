-- The words that the program was started with. Source: this project's choice.
use Rattle.std.specs.Prelude.{ℕ, Bool, false, List, [], ◌∷◌, codes}
use Rattle.std.specs.Str.{bytes_eq}
use Rattle.std.specs.declared.io.ErrorKind.{ErrorKind}
use Rattle.std.specs.declared.io.ErrorKind.TheVariants.{OutOfMemory}
use Rattle.core_entropy.specs.declared.status.Status.{Status}
use Rattle.core_entropy.specs.declared.status.Status.TheVariants.{NoMemory, Usage}

-- the status where the system gives no words, by its reason: a word that is not UTF-8 is Usage
abbrev pub of_system : ErrorKind → Status
of_system OutOfMemory = NoMemory
of_system _ = Usage

-- whether words begin with the name of the desk, which owns its streams while it runs
abbrev pub begin_with_desk : List (List ℕ) → Bool
begin_with_desk [] = false
begin_with_desk (first ∷ rest) = bytes_eq first (codes "desk")
