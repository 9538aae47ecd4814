-- Which binding a document is.
use Rattle.std.specs.Prelude.{codes, unwrap_or, option_map, Result}
use Rattle.serde_json.specs.Data.{Data}
use Rattle.serde_json.specs.Find.{get}
use Rattle.vap_match.specs.Parts.{text_in, optional_text}
use Rattle.vap_match.specs.ReaderAnswers.{unless}
use Rattle.vap_match.specs.SelectorForm.{selector_of}
use Rattle.vap_match.specs.RuleForm.{rules_under}
use Rattle.vap_read.specs.PolicyFaults.{least_of}
use Rattle.vap_read.specs.PolicyForm.{spec_of}
use Rattle.vap_read.specs.declared.policy_fault.PolicyFault.{PolicyFault}
use Rattle.vap_read.specs.BindingForm.{not_found_action, names, actions_in, applies}
use Rattle.vap_read.specs.declared.binding.NotFoundAction.TheVariants.{Deny}
use Rattle.vap_read.specs.declared.binding.ParamRef.{ParamRef}
use Rattle.vap_read.specs.declared.binding.ValidationActions.{ValidationActions}
use Rattle.vap_read.specs.declared.binding.BindingSpec.{BindingSpec}
use Rattle.vap_read.specs.declared.binding.Binding.{Binding}

-- the reference to params that a document is
abbrev pub param_ref_of : Data → ParamRef
param_ref_of d = record {
  name = optional_text (get (codes "name") d);
  namespace = text_in (get (codes "namespace") d);
  selector = option_map selector_of (get (codes "selector") d);
  parameter_not_found_action = unwrap_or (not_found_action d) Deny;
}

-- the actions of a binding, each of which may occur more than once
abbrev pub actions_of : Data → ValidationActions
actions_of d = record {
  deny = names (codes "Deny") (actions_in d);
  warn = names (codes "Warn") (actions_in d);
  audit = names (codes "Audit") (actions_in d);
}

-- what a binding says
abbrev pub binding_spec_of : Data → BindingSpec
binding_spec_of d = record {
  policy_name = text_in (get (codes "policyName") d);
  param_ref = option_map param_ref_of (get (codes "paramRef") d);
  match_resources = rules_under (get (codes "matchResources") d);
  validation_actions = actions_of d;
}

-- the binding of what is said, or the least fault of that
abbrev pub read_spec : Data → Result Binding PolicyFault
read_spec d = unless (record { spec = binding_spec_of d }) (least_of (applies d))

-- the binding that an object is, or its least fault
abbrev pub read_binding : Data → Result Binding PolicyFault
read_binding d = read_spec (spec_of d)
