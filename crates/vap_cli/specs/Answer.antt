-- What `eval` prints.
use Rattle.std.specs.Prelude.{ℕ, List, [], ◌∷◌, ◌++◌, Option, Some, None, codes, decimal}
use Rattle.cel_value.specs.Names.{error_name}
use Rattle.cel_value.specs.JsonText.{json_text}
use Rattle.cel_expression.specs.Names.{refusal_name, refusal_place}
use Rattle.cel_expression.specs.declared.refusal.Refusal.{Refusal as TextRefusal}
use Rattle.cel_expression.specs.declared.refusal.Refusal.TheVariants as text_refusal
use Rattle.vap_cli.specs.declared.answer.Refusal.{Refusal}
use Rattle.vap_cli.specs.declared.answer.Refusal.TheVariants as refusal
use Rattle.vap_cli.specs.declared.answer.Answer.{Answer}
use Rattle.vap_cli.specs.declared.answer.Answer.TheVariants as answer
use Rattle.vap_cli.specs.declared.status.Status.{Status}
use Rattle.vap_cli.specs.declared.status.Status.TheVariants.{Done, Fault}

-- a name with its place, if it has one
abbrev pub name_at : List ℕ → Option ℕ → List ℕ
name_at name (Some place) = name ++ (codes " at " ++ decimal place)
name_at name None = name

-- why a text may not be run, with its place or its estimate, if it has one
abbrev pub text_refusal_text : TextRefusal → List ℕ
text_refusal_text (text_refusal.OverBudget estimate) = codes "OverBudget " ++ decimal estimate
text_refusal_text why = name_at (refusal_name why) (refusal_place why)

-- a refusal with its place, if it has one
abbrev pub refusal_text : Refusal → List ℕ
refusal_text (refusal.Text why) = text_refusal_text why
refusal_text (refusal.Unverified at) = name_at (codes "Unverified") (Some at)
refusal_text refusal.Pattern = codes "Pattern"

-- what reports an answer, without its line feed
abbrev pub answer_text : Answer → List ℕ
answer_text (answer.Value value) = json_text value
answer_text (answer.Error error) = codes "error: " ++ error_name error
answer_text (answer.Refused why) = codes "refused: " ++ refusal_text why

-- the line that is printed for an answer
abbrev pub answer_line : Answer → List ℕ
answer_line answer = answer_text answer ++ 10 ∷ []

-- how the program ends after an answer
abbrev pub status_of : Answer → Status
status_of (answer.Value value) = Done
status_of (answer.Error error) = Fault
status_of (answer.Refused why) = Fault
