-- What a policy finds at one param, if its names hold these.
use Rattle.std.specs.Prelude.{ℕ, ◌+◌, List, [], ◌++◌, sum_by, None}
use Rattle.std.specs.List.{flat_map}
use Rattle.cel_operators.specs.Outcomes.{Outcome}
use Rattle.vap_read.specs.declared.policy.FailurePolicy.{FailurePolicy}
use Rattle.vap_policy_programs.specs.declared.programs.Programs.{Programs}
use Rattle.vap_policy_evaluation.specs.declared.found.Failure.{Failure}
use Rattle.vap_policy_evaluation.specs.declared.found.Note.{Note}
use Rattle.vap_policy_evaluation.specs.declared.conditions.Gate.{Gate}
use Rattle.vap_policy_evaluation.specs.declared.conditions.Gate.TheVariants.{Open, Shut, Broken}
use Rattle.vap_policy_evaluation.specs.Conditions.{conditions_pass, conditions_charge}
use Rattle.vap_policy_evaluation.specs.Variables.{values_from, values_charge}
use Rattle.vap_policy_evaluation.specs.Validations.{counted, failures_from, check_charge}
use Rattle.vap_policy_evaluation.specs.Annotations.{note, note_failure, note_charge}

-- what the names hold after all variables
abbrev pub held_behind : Programs → List Outcome → List Outcome
held_behind ps slots = slots ++ values_from [] ps.variables slots

-- the failures of validations, and after them those of annotations
abbrev pub failures_behind : FailurePolicy → Programs → List Outcome → List Failure
failures_behind policy ps held = failures_from policy held 0 ps.validations ++ flat_map (note_failure policy held) ps.annotations

-- a false condition leaves nothing to find; an error of one is the only failure
abbrev pub failures_past : FailurePolicy → Programs → List Outcome → Gate → List Failure
failures_past policy ps slots Open = failures_behind policy ps (held_behind ps slots)
failures_past policy ps slots Shut = []
failures_past policy ps slots (Broken message) = counted policy None message

-- the failures of a policy, in order
unfoldable pub failures_of : FailurePolicy → Programs → List Outcome → List Failure
failures_of policy ps slots = failures_past policy ps slots (conditions_pass ps.conditions slots)

abbrev pub notes_past : Programs → List Outcome → Gate → List Note
notes_past ps slots Open = flat_map (note (held_behind ps slots)) ps.annotations
notes_past ps slots Shut = []
notes_past ps slots (Broken message) = []

-- what the annotations of a policy note, in order
unfoldable pub notes_of : Programs → List Outcome → List Note
notes_of ps slots = notes_past ps slots (conditions_pass ps.conditions slots)

-- what validations and annotations charge
abbrev pub charge_behind : Programs → List Outcome → ℕ
charge_behind ps held = sum_by (check_charge held) ps.validations + sum_by (note_charge held) ps.annotations

abbrev pub charge_past : Programs → List Outcome → Gate → ℕ
charge_past ps slots Open = values_charge [] ps.variables slots + charge_behind ps (held_behind ps slots)
charge_past ps slots Shut = 0
charge_past ps slots (Broken message) = 0

-- what all that is run charges
unfoldable pub charge_of : Programs → List Outcome → ℕ
charge_of ps slots = conditions_charge ps.conditions slots + charge_past ps slots (conditions_pass ps.conditions slots)
