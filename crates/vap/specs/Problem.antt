-- How the program ends if it prints no answer.
use Rattle.std.specs.Prelude.{if◌then◌else◌}
use Rattle.vap_cli.specs.Mistake.{is_answered}
use Rattle.vap_cli.specs.declared.mistake.Mistake.{Mistake}
use Rattle.vap_cli.specs.declared.mistake.Mistake.TheVariants as mistake
use Rattle.vap_cli.specs.declared.status.Status.{Status}
use Rattle.vap_cli.specs.declared.status.Status.TheVariants.{Done, Fault, BadCommandLine, Stream, OutOfMemory}
use Rattle.vap_cli.specs.Status.{status_without}
use Rattle.vap_cli.specs.Report.{status_without as status_unchecked}
use Rattle.vap_cli_replay.specs.declared.fault.ReplayError.{ReplayError}
use Rattle.vap_cli_replay.specs.declared.fault.ReplayError.TheVariants as replay
use Rattle.vap.specs.declared.problem.Problem.{Problem}
use Rattle.vap.specs.declared.problem.Problem.TheVariants.{Mistaken, NotText, NotOpened, Unanswered, Unchecked, Unreplayed}

-- how the program ends if the words ask for no task
abbrev pub mistake_status : Mistake → Status
mistake_status mistake.OutOfMemory = OutOfMemory
mistake_status m = if is_answered m then Done else BadCommandLine

-- how the program ends if a replay ends before its input
abbrev pub replay_status : ReplayError → Status
replay_status (replay.Line line fault) = Fault
replay_status replay.Read = Stream
replay_status replay.Write = Stream
replay_status replay.OutOfMemory = OutOfMemory

-- the status for each problem
abbrev pub status_of : Problem → Status
status_of (Mistaken m) = mistake_status m
status_of NotText = BadCommandLine
status_of NotOpened = Stream
status_of (Unanswered error) = status_without error
status_of (Unchecked error) = status_unchecked error
status_of (Unreplayed error) = replay_status error
