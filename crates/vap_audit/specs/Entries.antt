-- What a history says.
use Rattle.std.specs.Prelude.{◌≡◌, ◌==◌, ℕ, ◌+◌, ◌<◌, List, [], ◌∷◌, length, slice_get, Some, if◌then◌else◌}
use Rattle.vap_watch.specs.Logs.{IsPublished, StartsWith, DiffersAt}
use Rattle.vap_watch.specs.declared.log.Logged.{Logged}
use Rattle.vap_audit.specs.declared.entry.Entry.{Entry}
use Rattle.vap_audit.specs.Verdicts.{verdict_at}

-- the most entries of a history
abbrev pub most_entries : ℕ
most_entries = 65536

-- the verdict is the one at the entry's own log
abbrev pub IsRight : Entry → Type 0
IsRight e = e.verdict ≡ verdict_at e.log e.request

-- the verdict is the one at the entry's own log, which is as it was published
pub record IsKept (e : Entry) : Type 0 where
  pub right : IsRight e
  pub published : IsPublished e.log

-- an entry names the length of a published log with which this one begins, and its verdict is the one at that log
pub record IsRightIn (log : List Logged) (e : Entry) : Type 0 where
  pub begins : StartsWith log e.log
  pub published : IsPublished e.log
  pub named : e.verdict.revision ≡ length e.log
  pub right : IsRight e

-- each entry is right in the log
abbrev pub AreRightIn : List Logged → List Entry → Type 0
AreRightIn log entries = (number : ℕ) (e : Entry) → slice_get entries number ≡ Some e → IsRightIn log e

-- the numbers of a worker's entries, if the first entry has this number
abbrev pub numbers_from : ℕ → ℕ → List Entry → List ℕ
numbers_from n worker [] = []
numbers_from n worker (e ∷ es) = if e.worker == worker then n ∷ numbers_from (n + 1) worker es else numbers_from (n + 1) worker es

-- each entry before this number has a log with which the log begins
abbrev pub BeginWith : ℕ → List Entry → List Logged → Type 0
BeginWith number entries log = (k : ℕ) (d : Entry) → k < number → slice_get entries k ≡ Some d → StartsWith log d.log

-- this is the first entry whose log is not a beginning of the log, and the first place where they differ
pub record IsStray (entries : List Entry) (log : List Logged) (number at : ℕ) : Type 0 where
  pub entry : Entry
  pub there : slice_get entries number ≡ Some entry
  pub differs : DiffersAt log entry.log at
  pub first : BeginWith number entries log
