-- Which literal texts `matches` is given in the expressions of policies, and which choice is for these.
use Rattle.std.specs.Prelude.{◌≡◌, ℕ, false, IsSome, List, [], ◌++◌, Option, Some, None}
use Rattle.std.specs.List.{All, Contains, flat_map}
use Rattle.base_containers.specs.declared.text.Keyed.{Keyed}
use Rattle.cel_check.specs.PatternTexts.{AreAnswered}
use Rattle.cel_expression.specs.Patterns.{patterns_of}
use Rattle.cel_operators.specs.PatternAnswers.{Asked, AsksOnly, Grows}
use Rattle.cel_operators.specs.PatternChoice.{refuses}
use Rattle.cel_operators.specs.PatternMeaning.{tree_of}
use Rattle.vap_read.specs.declared.policy.AuditAnnotation.{AuditAnnotation}
use Rattle.vap_read.specs.declared.policy.NamedExpression.{NamedExpression}
use Rattle.vap_read.specs.declared.policy.Policy.{Policy}
use Rattle.vap_read.specs.declared.policy.PolicySpec.{PolicySpec}
use Rattle.vap_read.specs.declared.policy.Validation.{Validation}

-- those in a match condition or a variable
abbrev pub of_named : NamedExpression → List (List ℕ)
of_named n = patterns_of n.expression

-- those in a message, if there is one
abbrev pub of_message : Option (List ℕ) → List (List ℕ)
of_message None = []
of_message (Some text) = patterns_of text

-- those in a validation, with its message
abbrev pub of_validation : Validation → List (List ℕ)
of_validation v = patterns_of v.expression ++ of_message v.message_expression

-- those in an annotation
abbrev pub of_annotation : AuditAnnotation → List (List ℕ)
of_annotation a = patterns_of a.value_expression

-- those in a policy
abbrev pub of_policy : PolicySpec → List (List ℕ)
of_policy p =
    flat_map of_named p.match_conditions
    ++ (flat_map of_named p.variables ++ (flat_map of_validation p.validations ++ flat_map of_annotation p.audit_annotations))

-- those in policies
abbrev pub of_policies : List (Keyed Policy) → List (List ℕ)
of_policies ps = flat_map (λ p. of_policy p.value.spec) ps

-- each of these texts is asked for, and no other; what was answered stays answered
pub record AreAsked (texts : List (List ℕ)) (old new : Asked) : Type 0 where
  pub each : AreAnswered new texts
  pub only : AsksOnly old new texts
  pub grows : Grows old new

-- a choice for texts: it refuses no others, and each of these that it does not refuse is a pattern, so `regex` was asked for it
pub record IsChoiceFor (texts refused : List (List ℕ)) : Type 0 where
  pub only : All (Contains texts) refused
  pub others : All (λ text. refuses refused text ≡ false → IsSome (tree_of text)) texts
