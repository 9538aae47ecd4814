-- The faults of policies and bindings, and which of them is reported.
use Rattle.std.specs.Prelude.{◌≡◌, ◌<◌, ◌+◌, ℕ, Bool, true, false, List, ◌∷◌, map, Option, option_map}
use Rattle.std.specs.List.{find}
use Rattle.vap_match.specs.RuleForm as rules
use Rattle.vap_read.specs.declared.policy_fault.PolicyFault.{PolicyFault}
use Rattle.vap_read.specs.declared.policy_fault.PolicyFault.TheVariants.{MissingField, DenyWithWarn, TooMany, BadMessage}
use Rattle.vap_read.specs.declared.policy_fault.PolicyFault.TheVariants.{BadParamRef, DuplicateName, Rules}

-- the number of a fault; those of rules come after the others, by their own numbers
abbrev pub number_of : PolicyFault → ℕ
number_of MissingField = 1
number_of DenyWithWarn = 2
number_of TooMany = 3
number_of BadMessage = 4
number_of BadParamRef = 5
number_of DuplicateName = 6
number_of (Rules f) = 6 + rules.number_of f

-- the faults by their numbers
abbrev pub faults : List PolicyFault
faults = MissingField ∷ DenyWithWarn ∷ TooMany ∷ BadMessage ∷ BadParamRef ∷ DuplicateName ∷ map Rules rules.faults

-- the fault of the least number of those that there are
abbrev pub least_of : (PolicyFault → Bool) → Option PolicyFault
least_of has = find has faults

-- the fault of rules of the least number of those that there are
abbrev pub least_of_rules : (PolicyFault → Bool) → Option PolicyFault
least_of_rules has = option_map Rules (find (λ f. has (Rules f)) rules.faults)

-- this fault is there, and none of a lesser number
abbrev pub IsLeast : (PolicyFault → Bool) → PolicyFault → Type 0
IsLeast has f = (has f ≡ true) × ((g : PolicyFault) → number_of g < number_of f → has g ≡ false)
