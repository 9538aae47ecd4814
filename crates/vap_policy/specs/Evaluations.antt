-- Evaluations of policies, and what they find.
use Rattle.std.specs.Prelude.{ℕ, ◌+◌, ◌-◌, nat_lt, if◌then◌else◌, List, [], ◌∷◌, ◌++◌, codes, map, None}
use Rattle.std.specs.List.{flat_map, sum_by}
use Rattle.cel_operators.specs.Outcomes.{Outcome}
use Rattle.vap_policy_verdict.specs.declared.finding.Finding.{Finding}
use Rattle.vap_policy_verdict.specs.declared.finding.Note.{Note}
use Rattle.vap_read.specs.declared.binding.ValidationActions.{ValidationActions}
use Rattle.vap_policy_evaluation.specs.Found.{failures_of, notes_of, charge_of}
use Rattle.vap_policy_evaluation.specs.Validations.{counted}
use Rattle.vap_policy_evaluation.specs.declared.found.Failure.{Failure}
use Rattle.vap_policy_evaluation.specs.declared.found.Note.{Note as FoundNote}
use Rattle.vap_read.specs.declared.policy.FailurePolicy.{FailurePolicy}
use Rattle.vap_policy_programs.specs.Pairs.{price_of}
use Rattle.vap_policy_programs.specs.declared.programs.Programs.{Programs}

-- the names of a policy and of a binding, and what becomes of a failure under them
pub record Rule : Type 0 where
  pub policy : List ℕ
  pub binding : List ℕ
  pub actions : ValidationActions
  pub failure_policy : FailurePolicy

-- an evaluation of a policy under a binding: its programs run with these values of the names, or it fails with a message
pub data Evaluation : Type 0 where
  Ran : Rule → Programs → List Outcome → Evaluation
  Failed : Rule → List ℕ → Evaluation

-- ---- the budget of a request

-- the most that the evaluations of a request may cost together, each by its price
abbrev pub budget : ℕ
budget = 200000000

-- what is said of a policy that is misconfigured
unfoldable pub misconfigured : List ℕ → List ℕ
misconfigured name = codes "policy is misconfigured: " ++ name

-- an evaluation in place of one whose price is more than what is left of the budget
abbrev pub refused : Rule → Evaluation
refused w = Failed w (misconfigured (codes "RequestBudget"))

-- what becomes of an evaluation, if so much of the budget is left
abbrev pub fitting : ℕ → Evaluation → Evaluation
fitting left (Ran w ps slots) = if nat_lt left (price_of ps) then refused w else Ran w ps slots
fitting left (Failed w message) = Failed w message

-- what is left after it: only what runs costs its price
abbrev pub left_after : ℕ → Evaluation → ℕ
left_after left (Ran w ps slots) = if nat_lt left (price_of ps) then left else left - price_of ps
left_after left (Failed w message) = left

-- what becomes of evaluations in their order, if so much is left before them
abbrev pub budgeted : ℕ → List Evaluation → List Evaluation
budgeted left [] = []
budgeted left (e ∷ es) = fitting left e ∷ budgeted (left_after left e) es

-- ---- what is found

-- a failure under its rule
abbrev pub finding_of : Rule → Failure → Finding
finding_of w f = record {
  policy = w.policy;
  binding = w.binding;
  actions = w.actions;
  reason = f.reason;
  message = f.message;
  expression_index = f.expression_index;
}

-- a note under its rule
abbrev pub note_of : Rule → FoundNote → Note
note_of w n = record { policy = w.policy; key = n.key; value = n.value }

-- the failures of an evaluation; a message counts by the failure policy
abbrev pub failures_in : Evaluation → List Finding
failures_in (Ran w ps slots) = map (finding_of w) (failures_of w.failure_policy ps slots)
failures_in (Failed w message) = map (finding_of w) (counted w.failure_policy None message)

-- its notes
abbrev pub notes_in : Evaluation → List Note
notes_in (Ran w ps slots) = map (note_of w) (notes_of ps slots)
notes_in (Failed w message) = []

-- its charge
abbrev pub charge_in : Evaluation → ℕ
charge_in (Ran w ps slots) = charge_of ps slots
charge_in (Failed w message) = 0

-- failures and notes in the order in which they are found, and the charge
pub record Findings : Type 0 where
  pub failures : List Finding
  pub notes : List Note
  pub charged : ℕ

-- what evaluations find
abbrev pub found_by : List Evaluation → Findings
found_by es = record { failures = flat_map failures_in es; notes = flat_map notes_in es; charged = sum_by charge_in es }

-- what is found, and then more
abbrev pub joined : Findings → Findings → Findings
joined a b = record { failures = a.failures ++ b.failures; notes = a.notes ++ b.notes; charged = a.charged + b.charged }
