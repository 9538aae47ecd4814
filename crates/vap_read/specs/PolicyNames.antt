-- The names that are printed.
use Rattle.std.specs.Prelude.{ℕ, List, codes}
use Rattle.vap_match.specs.MatchNames.{match_fault_name}
use Rattle.vap_read.specs.declared.policy_fault.PolicyFault.{PolicyFault}
use Rattle.vap_read.specs.declared.policy_fault.PolicyFault.TheVariants as policy

-- the name of a fault of policies and bindings
abbrev pub policy_fault_name : PolicyFault → List ℕ
policy_fault_name policy.MissingField = codes "MissingField"
policy_fault_name policy.DenyWithWarn = codes "DenyWithWarn"
policy_fault_name policy.TooMany = codes "TooMany"
policy_fault_name policy.BadMessage = codes "BadMessage"
policy_fault_name policy.BadParamRef = codes "BadParamRef"
policy_fault_name policy.DuplicateName = codes "DuplicateName"
policy_fault_name (policy.Rules f) = match_fault_name f
