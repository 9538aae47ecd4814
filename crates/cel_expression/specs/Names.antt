-- The names that are printed, and the places with them.
use Rattle.std.specs.Prelude.{ℕ, List, Option, Some, None, codes}
use Rattle.cel_parse.specs.Names.{parse_fault_name, parse_fault_place}
use Rattle.cel_operators.specs.Names.{type_rule_name}
use Rattle.cel_expression.specs.declared.refusal.Refusal.{Refusal}
use Rattle.cel_expression.specs.declared.refusal.Refusal.TheVariants as refusal

-- the name of why a text may not be run: for a fault of the parser or of a type, its own name
abbrev pub refusal_name : Refusal → List ℕ
refusal_name (refusal.Parse fault) = parse_fault_name fault
refusal_name (refusal.Type fault) = type_rule_name fault.rule
refusal_name (refusal.OverBudget estimate) = codes "OverBudget"

-- where a text is at fault, if it is at one place
abbrev pub refusal_place : Refusal → Option ℕ
refusal_place (refusal.Parse fault) = parse_fault_place fault
refusal_place (refusal.Type fault) = Some fault.place
refusal_place (refusal.OverBudget estimate) = None
