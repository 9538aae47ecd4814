-- What answers to the requests of a batch are.
use Rattle.std.specs.Prelude.{◌≡◌, ℕ, List, length, map, slice_get, Some}
use Rattle.std.specs.List.{All}
use Rattle.vap_watch.specs.Shown.{Shown}
use Rattle.vap_match.specs.declared.request.Request.{Request}
use Rattle.vap_policy_verdict.specs.declared.verdict.Verdict.{Verdict}
use Rattle.vap_watch.specs.Logs.{StartsWith}
use Rattle.vap_watch.specs.Seen.{Known}
use Rattle.vap_watch.specs.declared.log.Logged.{Logged}
use Rattle.vap_audit.specs.Verdicts.{verdict_at}

-- what one thread answers at a log: the verdicts on requests, in their order
abbrev pub verdicts_at : List Logged → List Request → List Verdict
verdicts_at log requests = map (verdict_at log) requests

-- a log begins with one of those that were told
pub record BeginsWithOneOf (told : List (Shown Logged)) (log : List Logged) : Type 0 where
  pub place : ℕ
  pub one : Shown Logged
  pub there : slice_get told place ≡ Some one
  pub begins : StartsWith log one.list

-- what a reader was told of begins with one of these
abbrev pub KnowsOneOf : List (Shown Logged) → Known Logged → Type 0
KnowsOneOf told reader = BeginsWithOneOf told reader.told

-- the verdict on the request of this number at some log, whose length it names, and which begins with one that was told
pub record IsAnswer (told : List (Shown Logged)) (requests : List Request) (number : ℕ) (verdict : Verdict) : Type 0 where
  pub request : Request
  pub asked : slice_get requests number ≡ Some request
  pub log : List Logged
  pub begins : BeginsWithOneOf told log
  pub right : verdict ≡ verdict_at log request
  pub named : verdict.revision ≡ length log

-- numbered verdicts, each the answer to the request of its number
abbrev pub AreRight : List (Shown Logged) → List Request → List (ℕ × Verdict) → Type 0
AreRight told requests answers = All (λ answer. IsAnswer told requests answer.0 answer.1) answers

-- one answer for each request, in order
pub record AreAnswers (told : List (Shown Logged)) (requests : List Request) (verdicts : List Verdict) : Type 0 where
  pub whole : length verdicts ≡ length requests
  pub each : (number : ℕ) (verdict : Verdict) → slice_get verdicts number ≡ Some verdict → IsAnswer told requests number verdict

-- the verdict that one thread gives on the request of this number, at a log that was told
pub record IsAtTold (told : List (Shown Logged)) (requests : List Request) (number : ℕ) (verdict : Verdict) : Type 0 where
  pub place : ℕ
  pub one : Shown Logged
  pub there : slice_get told place ≡ Some one
  pub request : Request
  pub asked : slice_get requests number ≡ Some request
  pub right : verdict ≡ verdict_at one.list request

-- each verdict whose revision is that of every log that was told is the one at such a log
abbrev pub AreAtTold : List (Shown Logged) → List Request → List Verdict → Type 0
AreAtTold told requests verdicts = (number : ℕ) (verdict : Verdict) → slice_get verdicts number ≡ Some verdict
    → All (λ one. length one.list ≡ verdict.revision) told → IsAtTold told requests number verdict
