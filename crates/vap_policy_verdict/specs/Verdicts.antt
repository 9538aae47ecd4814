-- From findings to a verdict.
use Rattle.std.specs.Prelude.{ℕ, Bool, true, false, codes, List, [], ◌∷◌, Option, Some, None, if◌then◌else◌}
use Rattle.std.specs.List.{find, flat_map}
use Rattle.vap_policy_verdict.specs.DecisionAnnotations.{annotations_of}
use Rattle.vap_policy_verdict.specs.Sentences.{code_of, reason_name, denial, warning}
use Rattle.vap_policy_verdict.specs.declared.decision.Decision.{Decision}
use Rattle.vap_policy_verdict.specs.declared.finding.Finding.{Finding}
use Rattle.vap_policy_verdict.specs.declared.finding.Note.{Note}
use Rattle.vap_policy_verdict.specs.declared.verdict.Verdict.{Verdict}

-- a failure's binding denies
abbrev pub denies : Finding → Bool
denies f = f.actions.deny

-- a request is allowed, or denied with the words of a failure
abbrev pub decision_by : Option Finding → Decision
decision_by None = record { allowed = true; code = 200; reason = []; message = [] }
decision_by (Some f) =
    record { allowed = false; code = code_of f.reason; reason = reason_name f.reason; message = denial f.policy f.binding f.message }

-- the first failure that denies decides
abbrev pub decision_of : List Finding → Decision
decision_of fs = decision_by (find denies fs)

-- the warning of a failure, if its binding warns
unfoldable pub warning_in : Finding → List (List ℕ)
warning_in f = if f.actions.warn then warning f.policy f.binding f.message ∷ [] else []

-- the warnings, in the order of the failures
abbrev pub warnings_of : List Finding → List (List ℕ)
warnings_of fs = flat_map warning_in fs

-- a decision with what goes along with it
abbrev pub verdict_by : Decision → List Finding → List Note → ℕ → ℕ → Verdict
verdict_by d fs notes revision charged = record {
  revision = revision;
  allowed = d.allowed;
  code = d.code;
  reason = d.reason;
  message = d.message;
  warnings = warnings_of fs;
  annotations = annotations_of fs notes;
  charged = charged;
}

-- the verdict of what was found
abbrev pub verdict_of : List Finding → List Note → ℕ → ℕ → Verdict
verdict_of fs notes revision charged = verdict_by (decision_of fs) fs notes revision charged

-- the verdict, with this message, if the object has a fault and nothing was evaluated
abbrev pub unfit_verdict : List ℕ → ℕ → Verdict
unfit_verdict message revision = record {
  revision = revision;
  allowed = false;
  code = 422;
  reason = codes "Invalid";
  message = message;
  warnings = [];
  annotations = [];
  charged = 0;
}
