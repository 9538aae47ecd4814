-- The names that are printed.
use Rattle.std.specs.Prelude.{ℕ, List, codes}
use Rattle.vap_match.specs.declared.match_fault.MatchFault.{MatchFault}
use Rattle.vap_match.specs.declared.match_fault.MatchFault.TheVariants as fault

-- the name of a fault of rules and selectors
abbrev pub match_fault_name : MatchFault → List ℕ
match_fault_name fault.BadOperator = codes "BadOperator"
match_fault_name fault.BadScope = codes "BadScope"
match_fault_name fault.EmptyRule = codes "EmptyRule"
