-- Which policy a document is.
use Rattle.std.specs.Prelude.{codes, unwrap_or, option_map, Result}
use Rattle.serde_json.specs.Data.{Data}
use Rattle.serde_json.specs.Find.{get}
use Rattle.vap_match.specs.Parts.{text_in, each_item, optional_text}
use Rattle.vap_match.specs.ReaderAnswers.{unless}
use Rattle.vap_match.specs.RuleForm.{rules_under}
use Rattle.vap_read.specs.PolicyFaults.{least_of}
use Rattle.vap_read.specs.PolicyForm.{failure_word, reason_word, list_in, spec_of, applies}
use Rattle.vap_read.specs.declared.policy.ParamKind.{ParamKind}
use Rattle.vap_read.specs.declared.policy.NamedExpression.{NamedExpression}
use Rattle.vap_read.specs.declared.policy.Reason.{Reason}
use Rattle.vap_read.specs.declared.policy.Reason.TheVariants.{Invalid}
use Rattle.vap_read.specs.declared.policy.Validation.{Validation}
use Rattle.vap_read.specs.declared.policy.AuditAnnotation.{AuditAnnotation}
use Rattle.vap_read.specs.declared.policy.FailurePolicy.{FailurePolicy}
use Rattle.vap_read.specs.declared.policy.FailurePolicy.TheVariants.{Fail}
use Rattle.vap_read.specs.declared.policy.PolicySpec.{PolicySpec}
use Rattle.vap_read.specs.declared.policy.Policy.{Policy}
use Rattle.vap_read.specs.declared.policy_fault.PolicyFault.{PolicyFault}
use Rattle.vap_read.specs.declared.policy_document.Premises.{Premises}
use Rattle.vap_read.specs.declared.policy_document.Decisions.{Decisions}

-- the kind of params that a document names
abbrev pub param_kind_of : Data → ParamKind
param_kind_of d = record { api_version = text_in (get (codes "apiVersion") d); kind = text_in (get (codes "kind") d) }

-- the expression with a name that a document is
abbrev pub named_of : Data → NamedExpression
named_of d = record { name = text_in (get (codes "name") d); expression = text_in (get (codes "expression") d) }

-- the reason of a validation: Invalid if none is named
abbrev pub reason_of : Data → Reason
reason_of d = unwrap_or (reason_word (text_in (get (codes "reason") d))) Invalid

-- the validation that a document is
abbrev pub validation_of : Data → Validation
validation_of d = record {
  expression = text_in (get (codes "expression") d);
  message = optional_text (get (codes "message") d);
  message_expression = optional_text (get (codes "messageExpression") d);
  reason = reason_of d;
}

-- the annotation that a document is
abbrev pub annotation_of : Data → AuditAnnotation
annotation_of d = record { key = text_in (get (codes "key") d); value_expression = text_in (get (codes "valueExpression") d) }

-- the failure policy: Fail if none is named
abbrev pub failure_policy_of : Data → FailurePolicy
failure_policy_of d = unwrap_or (failure_word (text_in (get (codes "failurePolicy") d))) Fail

-- what params and conditions there are
abbrev pub premises_of : Data → Premises
premises_of d = record {
  param_kind = option_map param_kind_of (get (codes "paramKind") d);
  match_conditions = each_item named_of (list_in (codes "matchConditions") d);
  variables = each_item named_of (list_in (codes "variables") d);
}

-- what is decided, and what is kept of it
abbrev pub decisions_of : Data → Decisions
decisions_of d = record {
  validations = each_item validation_of (list_in (codes "validations") d);
  audit_annotations = each_item annotation_of (list_in (codes "auditAnnotations") d);
}

-- what a policy says
abbrev pub policy_spec_of : Data → PolicySpec
policy_spec_of d = record {
  param_kind = option_map param_kind_of (get (codes "paramKind") d);
  match_constraints = rules_under (get (codes "matchConstraints") d);
  match_conditions = each_item named_of (list_in (codes "matchConditions") d);
  variables = each_item named_of (list_in (codes "variables") d);
  validations = each_item validation_of (list_in (codes "validations") d);
  audit_annotations = each_item annotation_of (list_in (codes "auditAnnotations") d);
  failure_policy = failure_policy_of d;
}

-- the policy of what is said, or the least fault of that
abbrev pub read_spec : Data → Result Policy PolicyFault
read_spec d = unless (record { spec = policy_spec_of d }) (least_of (applies d))

-- the policy that an object is, or its least fault
abbrev pub read_policy : Data → Result Policy PolicyFault
read_policy d = read_spec (spec_of d)
