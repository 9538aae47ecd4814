-- What an expression results in if no name is in scope, by the definitions of the language.
use Rattle.std.specs.Prelude.{◌≡◌, ℕ, List, [], Some, Ok, Err}
use Rattle.cel_operators.specs.Outcomes.{Outcome}
use Rattle.cel_expression.specs.Source.{Source}
use Rattle.cel_expression.specs.Expressions.{run_of, compiled_of}
use Rattle.cel_expression.specs.Faulty.{IsUnverified}
use Rattle.cel_expression.specs.Patterns.{MayMatch}
use Rattle.vap_cli.specs.declared.answer.Refusal.{Refusal}
use Rattle.vap_cli.specs.declared.answer.Refusal.TheVariants as refusal
use Rattle.vap_cli.specs.declared.answer.Answer.{Answer}
use Rattle.vap_cli.specs.declared.answer.Answer.TheVariants as answer

-- a choice of texts that are taken as no patterns
abbrev pub Choice : Type 0
Choice = List (List ℕ)

-- an expression with no names, by a choice
abbrev pub source_of : Choice → List ℕ → Source
source_of choice text = record { choice = choice; names = []; text = text }

-- a source evaluates to this value or error, for some charge
pub record RunsTo (s : Source) (outcome : Outcome) : Type 0 where
  pub charged : ℕ
  pub ran : run_of s [] ≡ Some (record { outcome = outcome; charged = charged })

-- the text spells an expression that may be run and evaluates to this value or error
abbrev pub ComesTo : Choice → List ℕ → Outcome → Type 0
ComesTo choice text outcome = RunsTo (source_of choice text) outcome

-- why a source evaluates to nothing: if a pattern that was built is not built again, all that is reported is that it may be run and
-- gives `matches` a literal text
abbrev pub IsRefusedFor : Source → Refusal → Type 0
IsRefusedFor s (refusal.Text why) = compiled_of s ≡ Err why
IsRefusedFor s (refusal.Unverified at) = IsUnverified s at
IsRefusedFor s refusal.Pattern = (compiled_of s ≡ Ok s) × MayMatch s

-- what a source results in
abbrev pub IsAnswerTo : Source → Answer → Type 0
IsAnswerTo s (answer.Value value) = RunsTo s (Ok value)
IsAnswerTo s (answer.Error error) = RunsTo s (Err error)
IsAnswerTo s (answer.Refused why) = IsRefusedFor s why

-- what a source that may be run results in
abbrev pub IsAnswerOf : Source → Answer → Type 0
IsAnswerOf s a = compiled_of s ≡ Ok s → IsAnswerTo s a

-- what a text results in by a choice
abbrev pub IsAnswerBy : Choice → List ℕ → Answer → Type 0
IsAnswerBy choice text a = IsAnswerTo (source_of choice text) a

-- what a text results in by some choice
pub record IsAnswer (text : List ℕ) (answer : Answer) : Type 0 where
  pub choice : Choice
  pub is : IsAnswerBy choice text answer
