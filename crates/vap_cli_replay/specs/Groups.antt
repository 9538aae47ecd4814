-- Why the requests of a group are not judged.
use Rattle.std.specs.Prelude.{◌≡◌, ◌≢◌, ⊤, ℕ, List, [], Contains}
use Rattle.vap_match.specs.declared.request.Request.{Request}
use Rattle.vap_watch.specs.Logs.{set_of}
use Rattle.vap_watch.specs.declared.log.Logged.{Logged}
use Rattle.vap_audit.specs.Verdicts.{MayMatch}
use Rattle.vap_cli_lines.specs.declared.fault.LineFault.{LineFault}
use Rattle.vap_cli_lines.specs.declared.fault.LineFault.TheVariants.{Pattern, Stray, OfWorkers}

-- at one of these requests the set of a log looks for a pattern
pub record OneMayMatch (log : List Logged) (requests : List Request) : Type 0 where
  pub request : Request
  pub waits : Contains requests request
  pub matches : MayMatch (set_of log) request

-- a fault of requests that are judged together: a pattern is not built again, an answer strays, or workers do not answer
abbrev pub IsOfGroup : LineFault → Type 0
IsOfGroup Pattern = ⊤
IsOfGroup Stray = ⊤
IsOfGroup (OfWorkers f) = ⊤
IsOfGroup _ = ⊥

-- some requests are not judged at a log, which is reported at the line of the first; if a pattern is the cause, then one is looked
-- for at one of them
pub record TellsRequests (line : ℕ) (log : List Logged) (requests : List Request) (number : ℕ) (why : LineFault) : Type 0 where
  pub numbered : number ≡ line
  pub fault : IsOfGroup why
  pub waiting : requests ≢ []
  pub one : why ≡ Pattern → OneMayMatch log requests
