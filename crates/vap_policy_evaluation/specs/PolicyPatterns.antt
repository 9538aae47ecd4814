-- Whether a policy looks for a pattern: one of its expressions gives `matches` a literal text.
use Rattle.std.specs.Prelude.{◌⊎◌, Option, Some, None}
use Rattle.std.specs.List.{Any}
use Rattle.cel_expression.specs.Source.{Source}
use Rattle.cel_expression.specs.Patterns.{MayMatch}
use Rattle.vap_policy_programs.specs.declared.programs.Annotation.{Annotation}
use Rattle.vap_policy_programs.specs.declared.programs.Check.{Check}
use Rattle.vap_policy_programs.specs.declared.programs.Condition.{Condition}
use Rattle.vap_policy_programs.specs.declared.programs.Programs.{Programs}

-- a condition looks for a pattern
abbrev pub ConditionMayMatch : Condition → Type 0
ConditionMayMatch c = MayMatch c.expression

-- a message does, if there is one
abbrev pub MessageMayMatch : Option Source → Type 0
MessageMayMatch None = ⊥
MessageMayMatch (Some s) = MayMatch s

-- a validation does, or its message
abbrev pub CheckMayMatch : Check → Type 0
CheckMayMatch c = MayMatch c.expression ⊎ MessageMayMatch c.message_expression

-- an annotation does
abbrev pub AnnotationMayMatch : Annotation → Type 0
AnnotationMayMatch a = MayMatch a.value

-- what comes after the variables does: a validation or an annotation
abbrev pub DecisionMayMatch : Programs → Type 0
DecisionMayMatch ps = Any CheckMayMatch ps.validations ⊎ Any AnnotationMayMatch ps.annotations

-- a policy does: a condition, a variable, or what comes after them
abbrev pub PolicyMayMatch : Programs → Type 0
PolicyMayMatch ps = Any ConditionMayMatch ps.conditions ⊎ (Any MayMatch ps.variables ⊎ DecisionMayMatch ps)
