-- What is recorded, and why a call is not answered.
use Rattle.std.specs.Prelude.{◌≡◌, ◌⊎◌, ℕ, List}
use Rattle.vap_audit.specs.declared.entry.Entry.{Entry}
use Rattle.base_containers.specs.declared.failed.Failed.{Failed}
use Rattle.base_containers.specs.declared.failed.Failed.TheVariants.{OutOfMemory, Fault}
use Rattle.vap_plane_gathering.specs.declared.fault.PlaneFault.{PlaneFault}
use Rattle.vap_plane_gathering.specs.declared.fault.PlaneFault.TheVariants.{Judge, Audit, Gone}
use Rattle.vap_watch.specs.declared.log.Logged.{Logged}
use Rattle.vap_match.specs.declared.request.Request.{Request}
use Rattle.vap_policy_verdict.specs.declared.verdict.Verdict.{Verdict}

-- the entry of what was judged at a log by this worker
abbrev pub entry_of : ℕ → List Logged → Request → Verdict → ℕ → Entry
entry_of call log request verdict worker = record { call = call; log = log; request = request; verdict = verdict; worker = worker }

-- the call has no verdict, or there is no memory
abbrev pub IsUndecided : ℕ → Failed PlaneFault → Type 0
IsUndecided call error = (error ≡ Fault (Judge call)) ⊎ (error ≡ OutOfMemory)

-- the writer is gone, or there is no memory
abbrev pub IsUnseen : ℕ → Failed PlaneFault → Type 0
IsUnseen call error = (error ≡ Fault (Gone call)) ⊎ (error ≡ OutOfMemory)

-- the call is not judged, or there is no memory
abbrev pub IsUnjudged : ℕ → Failed PlaneFault → Type 0
IsUnjudged call error = (error ≡ Fault (Gone call)) ⊎ IsUndecided call error

-- the call is not recorded, or there is no memory
abbrev pub IsUnrecorded : ℕ → Failed PlaneFault → Type 0
IsUnrecorded call error = (error ≡ Fault (Audit call)) ⊎ (error ≡ OutOfMemory)

-- the call is not judged or not recorded, or there is no memory
abbrev pub IsUnanswered : ℕ → Failed PlaneFault → Type 0
IsUnanswered call error = (error ≡ Fault (Gone call)) ⊎ ((error ≡ Fault (Judge call)) ⊎ IsUnrecorded call error)
