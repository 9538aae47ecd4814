-- Words that ask for help or for the version.
use Rattle.std.specs.Prelude.{Bool, true, false}
use Rattle.clap.specs.Values.{kind_of}
use Rattle.clap.specs.declared.error.kind.ErrorKind.{ErrorKind}
use Rattle.clap.specs.declared.error.kind.ErrorKind.TheVariants.{DisplayHelp, DisplayVersion}
use Rattle.vap_cli.specs.declared.mistake.Mistake.{Mistake}
use Rattle.vap_cli.specs.declared.mistake.Mistake.TheVariants.{Words, Minus, NoTask, OutOfMemory}

-- help and the version are asked for; all else is a mistake
abbrev pub is_asked_for : ErrorKind → Bool
is_asked_for DisplayHelp = true
is_asked_for DisplayVersion = true
is_asked_for _ = false

-- whether what the words ask for is printed in answer to them
abbrev pub is_answered : Mistake → Bool
is_answered (Words error) = is_asked_for (kind_of error)
is_answered Minus = false
is_answered NoTask = false
is_answered OutOfMemory = false
