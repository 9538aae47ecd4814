-- Lines, worked out by hand.
use Rattle.std.proofs.Common.{◌≡◌, ℕ, List, [], ◌∷◌, ◌++◌, Some, None, Ok, refl}
use Rattle.vap_match.specs.declared.request.Request.{Request}
use Rattle.vap_read.specs.declared.event.Event.{Event}
use Rattle.vap_watch.specs.declared.log.Logged.{Logged}
use Rattle.vap_policy_verdict.specs.AnswerText.{answer_text}
use Rattle.vap_audit.specs.Verdicts.{verdict_at}
use Rattle.vap_cli_lines.specs.Judged.{IsJudgedAt}
use Rattle.vap_cli_lines.specs.LineQueues.{Queued, text_of}
use Rattle.vap_cli_lines.specs.Lines.{Reads}
use Rattle.vap_cli_lines.specs.declared.answer.ReviewAnswer.{ReviewAnswer}
use Rattle.vap_cli_lines.specs.declared.line.Line.TheVariants.{Asks, Happens, Skipped}

waits : List ℕ → Queued
waits bytes = record { bytes = bytes; log = [] }

-- `ab` and an empty line wait: each has its line feed
two_lines : text_of (waits (97 ∷ 98 ∷ []) ∷ waits [] ∷ []) ≡ 97 ∷ 98 ∷ 10 ∷ 10 ∷ []
unfolding waits
two_lines = refl

-- a carriage return alone is skipped
carriage_return : Reads (13 ∷ []) Skipped
carriage_return = refl

-- a review is answered by the verdict at the log, in one line; of an event there is nothing to say
judged_there : (log : List Logged) (request : Request) (answer : ReviewAnswer) → answer.verdict ≡ verdict_at log request
    → answer.line.items ≡ answer_text request.admission.uid answer.verdict ++ 10 ∷ [] → IsJudgedAt log (Asks request) (Some (Ok answer))
judged_there log request answer verdict line = (record { verdict = verdict; line = line }, λ given_up. cc)

event_judged : (log : List Logged) (event : Event) → IsJudgedAt log (Happens event) None
event_judged log event = tt
