-- Reviews that are judged where they are read.
use Rattle.std.specs.Prelude.{◌≡◌, ⊤, [], ◌∷◌, ◌++◌, List, Option, Result, IfOk, IfSome, IsErrOf}
use Rattle.serde_json.specs.Data.{Data}
use Rattle.base_containers.specs.declared.failed.Failed.{Failed}
use Rattle.base_containers.specs.declared.failed.Failed.TheVariants.{Fault}
use Rattle.cel_machine.specs.declared.fault.RunFault.{RunFault}
use Rattle.cel_machine.specs.declared.fault.RunFault.TheVariants.{Pattern}
use Rattle.vap_match.specs.declared.request.Request.{Request}
use Rattle.vap_watch.specs.Logs.{set_of}
use Rattle.vap_watch.specs.declared.log.Logged.{Logged}
use Rattle.vap_audit.specs.Verdicts.{MayMatch, verdict_at}
use Rattle.vap_policy_verdict.specs.AnswerText.{answer_text}
use Rattle.vap_cli_lines.specs.declared.answer.ReviewAnswer.{ReviewAnswer}
use Rattle.vap_cli_lines.specs.declared.line.Line.{Line}
use Rattle.vap_cli_lines.specs.declared.line.Line.TheVariants.{Asks}

-- if a line is a review, the document is this
abbrev pub IsOfReview : Line → Data → Type 0
IsOfReview (Asks request) d = request.admission.review ≡ d
IsOfReview _ d = ⊤

-- an answer to a request has the verdict at a log, and the line that answers with it
pub record AnswersAt (log : List Logged) (request : Request) (answer : ReviewAnswer) : Type 0 where
  pub verdict : answer.verdict ≡ verdict_at log request
  pub line : answer.line.items ≡ answer_text request.admission.uid answer.verdict ++ 10 ∷ []

-- what is said of a request, if anything is, answers it at a log; it is given up for a pattern only if the log's set looks for one
abbrev pub IsJudged : List Logged → Request → Option (Result ReviewAnswer (Failed RunFault)) → Type 0
IsJudged log request said = IfSome said (λ result. IfOk result (AnswersAt log request)
    × (IsErrOf result (Fault Pattern) → MayMatch (set_of log) request))

-- the same of a line's request, if it is a review
abbrev pub IsJudgedAt : List Logged → Line → Option (Result ReviewAnswer (Failed RunFault)) → Type 0
IsJudgedAt log (Asks request) said = IsJudged log request said
IsJudgedAt log _ said = ⊤
