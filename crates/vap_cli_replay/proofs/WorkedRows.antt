-- Streams, worked out.
use Rattle.std.proofs.Common.{◌≡◌, [], ◌∷◌, ◌++◌, true, false, None, Some, refl}
use Rattle.vap_match.specs.declared.request.Request.{Request}
use Rattle.vap_policy_verdict.specs.AnswerText.{answer_text}
use Rattle.vap_cli_replay.specs.Replay.{Choices, replay_of}
use Rattle.vap_cli_lines.specs.declared.fault.LineFault.TheVariants.{BadJson}
use Rattle.vap_cli_lines.specs.declared.line.Line.TheVariants.{Skipped, Asks, Refused}
use Rattle.vap_audit.specs.Verdicts.{verdict_at}

-- no line, no text
no_line : (choices : Choices) → replay_of choices true [] ≡ ([], None)
no_line choices = refl

-- a skipped line is counted, and the first refused line ends the text, also that of the audit
second_line : (choices : Choices)
    → replay_of choices true (Skipped ∷ Refused BadJson ∷ Skipped ∷ []) ≡ ([], Some (record { line = 2; fault = BadJson }))
second_line choices = refl

-- a review before all events is answered at the log of no event
review_alone : (choices : Choices) (request : Request)
    → replay_of choices false (Asks request ∷ [])
    ≡ (((answer_text request.admission.uid (verdict_at [] request) ++ 10 ∷ []) ++ []) ++ [], None)
review_alone choices request = refl
