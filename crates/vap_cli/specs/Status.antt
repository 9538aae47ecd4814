-- The numbers of the exit statuses, as README.md and the help name them.
use Rattle.std.specs.Prelude.{ℕ}
use Rattle.vap_cli.specs.declared.status.Status.{Status}
use Rattle.vap_cli.specs.declared.status.Status.TheVariants.{Done, Fault, BadCommandLine, Stream, OutOfMemory}
use Rattle.vap_cli.specs.declared.eval.EvalError.{EvalError}
use Rattle.vap_cli.specs.declared.eval.EvalError.TheVariants as failure

-- the number with which the process ends
abbrev pub code_of : Status → ℕ
code_of Done = 0
code_of Fault = 1
code_of BadCommandLine = 2
code_of Stream = 3
code_of OutOfMemory = 4

-- how the program ends if an answer is not reported
abbrev pub status_without : EvalError → Status
status_without failure.Write = Stream
status_without failure.OutOfMemory = OutOfMemory
