-- The expressions of a policy, each at its place.
use Rattle.std.specs.Prelude.{◌≡◌, ℕ, List, [], ◌∷◌, ◌++◌, Option, Some, None, map, ◌⊎◌}
use Rattle.std.specs.List.{flat_map}
use Rattle.cel_expression.specs.Source.{Source}
use Rattle.cel_expression.specs.Faulty.{IsUnverified}
use Rattle.vap_read.specs.declared.policy.NamedExpression.{NamedExpression}
use Rattle.vap_read.specs.declared.policy.Validation.{Validation}
use Rattle.vap_read.specs.declared.policy.AuditAnnotation.{AuditAnnotation}
use Rattle.vap_read.specs.declared.policy.PolicySpec.{PolicySpec}
use Rattle.vap_policy_programs.specs.Scopes.{NoPatterns, Scope, source, with_variable}

-- the expressions of conditions
abbrev pub of_conditions : NoPatterns → Scope → List NamedExpression → List Source
of_conditions choice names cs = map (λ c. source choice names c.expression) cs

-- the names with one more variable, as it is written
abbrev pub next_names : NoPatterns → Scope → NamedExpression → Scope
next_names choice names v = with_variable names v.name (source choice names v.expression)

-- the expressions of variables, each with the names that there are after those before it
abbrev pub of_variables : NoPatterns → Scope → List NamedExpression → List Source
of_variables choice names [] = []
of_variables choice names (v ∷ vs) = source choice names v.expression ∷ of_variables choice (next_names choice names v) vs

-- the names after all variables
abbrev pub names_behind : NoPatterns → Scope → List NamedExpression → Scope
names_behind choice names [] = names
names_behind choice names (v ∷ vs) = names_behind choice (next_names choice names v) vs

-- the expression of a message, if there is one
abbrev pub of_message : NoPatterns → Scope → Option (List ℕ) → List Source
of_message choice names None = []
of_message choice names (Some text) = source choice names text ∷ []

-- the expressions of a validation: its own, and that of its message
abbrev pub of_check : NoPatterns → Scope → Validation → List Source
of_check choice names v = source choice names v.expression ∷ of_message choice names v.message_expression

-- the expressions of annotations
abbrev pub of_annotations : NoPatterns → Scope → List AuditAnnotation → List Source
of_annotations choice names ns = map (λ a. source choice names a.value_expression) ns

-- those that come after all variables
abbrev pub of_decisions : NoPatterns → Scope → PolicySpec → List Source
of_decisions choice names p = flat_map (of_check choice names) p.validations ++ of_annotations choice names p.audit_annotations

-- those after the conditions
abbrev pub of_behind : NoPatterns → Scope → PolicySpec → List Source
of_behind choice names p = of_variables choice names p.variables ++ of_decisions choice (names_behind choice names p.variables) p

-- all expressions of a policy, in order
unfoldable pub expressions_of : NoPatterns → Scope → PolicySpec → List Source
expressions_of choice names p = of_conditions choice names p.match_conditions ++ of_behind choice names p

-- one of these may be run, and the verifier refuses its image at this instruction
abbrev pub IsOneUnverified : ℕ → List Source → Type 0
IsOneUnverified at [] = ⊥
IsOneUnverified at (s ∷ ss) = IsUnverified s at ⊎ IsOneUnverified at ss
