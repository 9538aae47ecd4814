-- What `eval` leaves.
use Rattle.std.specs.Prelude.{◌≡◌, ℕ, List, Option}
use Rattle.std.specs.Io.KnownBytes.{Appends}
use Rattle.vap_cli.specs.declared.answer.Answer.{Answer}
use Rattle.vap_cli.specs.declared.status.Status.{Status}
use Rattle.vap_cli.specs.Answer.{answer_line, status_of}
use Rattle.vap_cli.specs.Evaluation.{IsAnswer}

-- the line that reports what the text results in, and the status for it
pub record TellsBy (text line : List ℕ) (status : Status) : Type 0 where
  pub answer : Answer
  pub answers : IsAnswer text answer
  pub told : line ≡ answer_line answer
  pub ended : status ≡ status_of answer

-- the writer's bytes grew by the line that reports what the text results in, and the program ends with the status for it
pub record Tells (text : List ℕ) (old new : Option (List ℕ)) (status : Status) : Type 0 where
  pub answer : Answer
  pub answers : IsAnswer text answer
  pub written : Appends old new (answer_line answer)
  pub ended : status ≡ status_of answer
