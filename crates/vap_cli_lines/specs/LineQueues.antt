-- Lines that wait in a queue.
use Rattle.std.specs.Prelude.{◌≡◌, ◌≢◌, ◌≤◌, ℕ, List, [], ◌∷◌, ◌++◌, length}
use Rattle.std.specs.List.{All}
use Rattle.base_containers.specs.Lines.{Pending, longest_line}
use Rattle.vap_watch.specs.declared.log.Logged.{Logged}

-- the bytes of a line that waits, and the log at which it is judged if it is a review
pub record Queued : Type 0 where
  pub bytes : List ℕ
  pub log : List Logged

-- what is pending, and the log at which the lines that wait are judged
pub record Ahead : Type 0 where
  pub pending : Pending
  pub log : List Logged

-- the text of lines, each with its line feed
abbrev pub text_of : List Queued → List ℕ
text_of [] = []
text_of (line ∷ others) = line.bytes ++ 10 ∷ text_of others

-- the bytes are one line, and no more than a line may have; it is judged at this log
pub record IsWhole (log : List Logged) (line : Queued) : Type 0 where
  pub plain : All (λ x. x ≢ 10) line.bytes
  pub short : length line.bytes ≤ longest_line
  pub there : line.log ≡ log

-- so are each of these
abbrev pub AreWhole : List Logged → List Queued → Type 0
AreWhole log lines = All (IsWhole log) lines
