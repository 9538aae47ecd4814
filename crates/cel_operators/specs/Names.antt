-- The names that are printed.
use Rattle.std.specs.Prelude.{ℕ, List, codes}
use Rattle.cel_operators.specs.declared.type_rule.TypeRule.{TypeRule}
use Rattle.cel_operators.specs.declared.type_rule.TypeRule.TheVariants as rule

-- the name of a rule of typing
abbrev pub type_rule_name : TypeRule → List ℕ
type_rule_name rule.UnknownName = codes "UnknownName"
type_rule_name rule.NoField = codes "NoField"
type_rule_name rule.NoOverload = codes "NoOverload"
type_rule_name rule.Mixed = codes "Mixed"
type_rule_name rule.OpaqueUse = codes "OpaqueUse"
type_rule_name rule.PatternNotLiteral = codes "PatternNotLiteral"
type_rule_name rule.BadPattern = codes "BadPattern"
type_rule_name rule.TooLarge = codes "TooLarge"
