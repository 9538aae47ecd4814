-- What a worker holds.
use Rattle.std.specs.Prelude.{◌≡◌, ℕ, List, Option, Some, None}
use Rattle.vap_match.specs.declared.request.Request.{Request}
use Rattle.vap_policy_verdict.specs.declared.verdict.Verdict.{Verdict}
use Rattle.vap_watch.specs.declared.log.Logged.{Logged}
use Rattle.vap_audit.specs.declared.entry.Entry.{Entry}
use Rattle.vap_audit.specs.Verdicts.{verdict_at}

-- a request with its call, entered at a log, with or without a verdict
pub record Holding : Type 0 where
  pub request : Request
  pub call : ℕ
  pub log : List Logged
  pub verdict : Option Verdict

-- a request that was entered at a log
abbrev pub entered : Request → ℕ → List Logged → Holding
entered request call log = record { request = request; call = call; log = log; verdict = None }

-- its verdict is the one at its log
abbrev pub decided : Holding → Holding
decided h = record { request = h.request; call = h.call; log = h.log; verdict = Some (verdict_at h.log h.request) }

-- the same, if it has no verdict yet
abbrev pub judged : Option Verdict → Holding → Holding
judged None h = decided h
judged (Some v) h = h

-- what is recorded of a verdict by this worker
abbrev pub entry_of : Holding → Verdict → ℕ → Entry
entry_of h verdict worker = record { call = h.call; log = h.log; request = h.request; verdict = verdict; worker = worker }

-- the verdict, if there is one, is the one at the log
abbrev pub IsRightOf : List Logged → Request → Option Verdict → Type 0
IsRightOf log request verdict = (v : Verdict) → verdict ≡ Some v → v ≡ verdict_at log request
