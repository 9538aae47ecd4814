-- Rows of bindings, worked by computing.
use Rattle.std.proofs.Common.{◌≡◌, true, false, Some, refl}
use Rattle.std.specs.Prelude.{codes}
use Rattle.serde_json.specs.Data.{null, object, no_members, member}
use Rattle.vap_read.specs.PolicyFaults.{least_of}
use Rattle.vap_read.specs.declared.policy_fault.PolicyFault.TheVariants.{MissingField}
use Rattle.vap_read.specs.BindingForm.{has_fault, one_of, does_refer}

-- what says nothing lacks its members
nothing : least_of (has_fault null) ≡ Some MissingField
nothing = refl

-- params are named or selected, and not both
both : one_of true true ≡ false
both = refl

neither : one_of false false ≡ false
neither = refl

-- a reference that does not say what to do without params is none
no_action : does_refer (object (member (codes "name") null no_members)) ≡ false
no_action = refl
