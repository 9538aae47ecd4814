-- The failures of validations (Kubernetes, "Validation Expression" and "Failure Policy").
use Rattle.std.specs.Prelude.{ℕ, suc, ◌+◌, true, false, List, [], ◌∷◌, ◌++◌, Option, Some, None, Ok, Err}
use Rattle.cel_operators.specs.Outcomes.{Outcome, Side}
use Rattle.cel_expression.specs.Source.{Source}
use Rattle.vap_read.specs.declared.policy.FailurePolicy.{FailurePolicy}
use Rattle.vap_read.specs.declared.policy.FailurePolicy.TheVariants.{Fail, Ignore}
use Rattle.vap_read.specs.declared.policy.Reason.{Reason}
use Rattle.vap_read.specs.declared.policy.Reason.TheVariants.{Invalid}
use Rattle.vap_policy_programs.specs.declared.programs.Check.{Check}
use Rattle.vap_policy_evaluation.specs.declared.found.Failure.{Failure}
use Rattle.vap_policy_evaluation.specs.Runs.{given, charge, holds}
use Rattle.vap_policy_evaluation.specs.Words.{expression_error, written, told_or}

abbrev pub failure : Option ℕ → List ℕ → Reason → Failure
failure index message reason = record { expression_index = index; message = message; reason = reason }

-- a failure that counts by the failure policy: under Fail, for the reason Invalid, and under Ignore not at all
abbrev pub counted : FailurePolicy → Option ℕ → List ℕ → List Failure
counted Fail index message = failure index message Invalid ∷ []
counted Ignore index message = []

-- what a message gives, if there is one that can be reported, or else another text
abbrev pub told : Option Source → List Outcome → List ℕ → List ℕ
told None slots rest = rest
told (Some s) slots rest = told_or (given s slots) rest

-- the message of a false validation
unfoldable pub message_of : Check → List Outcome → List ℕ
message_of c slots = told c.message_expression slots (written c.expression.text c.message)

-- what a message charges
abbrev pub told_charge : Option Source → List Outcome → ℕ
told_charge None slots = 0
told_charge (Some s) slots = charge s slots

-- the failure of a validation, if it is not true
abbrev pub failure_by : FailurePolicy → List Outcome → ℕ → Check → Side → List Failure
failure_by policy slots i c (Ok true) = []
failure_by policy slots i c (Ok false) = failure (Some i) (message_of c slots) c.reason ∷ []
failure_by policy slots i c (Err e) = counted policy (Some i) (expression_error c.expression.text e)

unfoldable pub failure_at : FailurePolicy → List Outcome → ℕ → Check → List Failure
failure_at policy slots i c = failure_by policy slots i c (holds c.expression slots)

-- the failures of validations, the first of which has this number
abbrev pub failures_from : FailurePolicy → List Outcome → ℕ → List Check → List Failure
failures_from policy slots i [] = []
failures_from policy slots i (c ∷ cs) = failure_at policy slots i c ++ failures_from policy slots (suc i) cs

-- the message is run only if the validation is false
abbrev pub where_false : Side → ℕ → ℕ
where_false (Ok true) n = 0
where_false (Ok false) n = n
where_false (Err e) n = 0

-- what a validation charges
unfoldable pub check_charge : List Outcome → Check → ℕ
check_charge slots c = charge c.expression slots + where_false (holds c.expression slots) (told_charge c.message_expression slots)
