-- What the first names of a policy's expressions hold at a request.
use Rattle.std.specs.Prelude.{◌≡◌, ℕ, true, List, [], ◌∷◌, codes, Option, Some, None, Result, Ok, Err, if◌then◌else◌}
use Rattle.serde_json.specs.Data.{Data}
use Rattle.cel_value.specs.CelType.{fits}
use Rattle.cel_value.specs.declared.cel_type.CelType as type
use Rattle.cel_value.specs.declared.cel_type.CelType.{CelType}
use Rattle.cel_value.specs.declared.cel_error.CelError.TheVariants.{BadConversion}
use Rattle.cel_value.specs.declared.value.Value as value
use Rattle.cel_value.specs.declared.value.Value.{Value}
use Rattle.cel_operators.specs.Outcomes.{Outcome, outcome_fits}
use Rattle.vap_schema.specs.Seen.{seen}
use Rattle.vap_schema.specs.declared.fit_fault.FitFault.{FitFault}
use Rattle.vap_read_objects.specs.FixedKinds.{namespace_type}
use Rattle.vap_match.specs.Namespaces.{is_cluster}
use Rattle.vap_read.specs.declared.object.Object.{Object}
use Rattle.vap_match.specs.Requests.{object_of, old_object_of}
use Rattle.vap_match.specs.declared.request.Admission.{Admission}
use Rattle.vap_policy_programs.specs.RequestType.{request_type}
use Rattle.vap_policy_programs.specs.RequestValue.{request_value}
use Rattle.vap_policy_programs.specs.declared.held.Held.{Held}

-- what a document is at a type, null if there is none
abbrev pub value_at : List ℕ → CelType → Option Data → Result Value FitFault
value_at root t None = Ok value.Null
value_at root t (Some d) = seen root t d

-- the object as it was; one that does not fit is an error
abbrev pub old_outcome : Result Value FitFault → Outcome
old_outcome (Ok v) = Ok v
old_outcome (Err fault) = Err BadConversion

-- a value, null if there is a fault
abbrev pub or_null : Result Value FitFault → Value
or_null (Ok v) = v
or_null (Err fault) = value.Null

-- a Namespace that is held
abbrev pub held_namespace : Option Object → Value
held_namespace None = value.Null
held_namespace (Some o) = or_null (seen (codes "namespaceObject") namespace_type o.document)

-- the Namespace that a request is in: null if it is in none, or none is held
abbrev pub namespace_value : Option Object → Admission → Value
namespace_value n r = if is_cluster r then value.Null else held_namespace n

-- what all names except `params` hold, if this Namespace is held under the name of the request's, and the object is this
abbrev pub held_with : Option Object → CelType → Admission → Value → Held
held_with n t r v = record {
  object = v;
  old_object = old_outcome (value_at (codes "oldObject") t (old_object_of r));
  request = request_value r;
  namespace = namespace_value n r;
}

-- the same, unless the object has a fault
abbrev pub held_by : Option Object → CelType → Admission → Result Value FitFault → Result Held FitFault
held_by n t r (Ok v) = Ok (held_with n t r v)
held_by n t r (Err fault) = Err fault

-- what all names except `params` hold at a request whose objects are of this type, or the fault of the object
abbrev pub held_at : Option Object → CelType → Admission → Result Held FitFault
held_at n t r = held_by n t r (value_at (codes "object") t (object_of r))

-- what all names hold, in their order
abbrev pub slots_of : Held → Value → List Outcome
slots_of h params = Ok h.object ∷ h.old_object ∷ Ok h.request ∷ Ok params ∷ Ok h.namespace ∷ []

-- the types of all names in their order, if the objects are of one type and `params` is of another
abbrev pub slot_types : CelType → CelType → List CelType
slot_types t params =
    type.Nullable t ∷ type.Nullable t ∷ request_type ∷ params ∷ type.Nullable namespace_type ∷ []

-- what all names except `params` hold is of their types, if the objects are of this one
pub record IsHeldAt (t : CelType) (h : Held) : Type 0 where
  pub object : fits h.object (type.Nullable t) ≡ true
  pub old_object : outcome_fits (type.Nullable t) (Some h.old_object) ≡ true
  pub request : fits h.request request_type ≡ true
  pub namespace : fits h.namespace (type.Nullable namespace_type) ≡ true
