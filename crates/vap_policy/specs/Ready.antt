-- What may be run where, and how much it charges at most.
use Rattle.std.specs.Prelude.{◌≡◌, ◌≤◌, true, List, Option, Some, None}
use Rattle.cel_check.specs.Typing.{types_in}
use Rattle.cel_operators.specs.Outcomes.{slots_fit}
use Rattle.cel_value.specs.CelType.{fits}
use Rattle.cel_value.specs.declared.cel_type.CelType.{CelType}
use Rattle.cel_value.specs.declared.value.Value.{Value}
use Rattle.vap_read_objects.specs.OfKind.{labels_in}
use Rattle.vap_policy_programs.specs.Pairs.{most, price_of}
use Rattle.vap_policy_programs.specs.Ready.{IsReady}
use Rattle.vap_policy_programs.specs.Scopes.{first_names, type_of_params}
use Rattle.vap_policy_programs.specs.declared.names.ParamsType.{ParamsType}
use Rattle.vap_policy_programs.specs.declared.names.ParamsType.TheVariants.{Absent, Known}
use Rattle.vap_policy_programs.specs.declared.programs.Programs.{Programs}
use Rattle.vap_match.specs.Select.{lent_labels}
use Rattle.vap_read_objects.specs.Fitted.{Fitted}
use Rattle.vap_policy_set.specs.Kinds.{types_at}
use Rattle.vap_policy_set.specs.Ready.{IsOneOf, type_at}
use Rattle.vap_policy_set.specs.Sets.{kinds_of, namespace_in}
use Rattle.vap_policy_programs.specs.Held.{IsHeldAt, slots_of}
use Rattle.vap_policy.specs.Judging.{Case}
use Rattle.vap_policy.specs.Shown.{case_of}
use Rattle.vap_policy.specs.declared.case.Case.{Case as Lent}

-- what a case lends: what the names hold is of their types, the kind is one of the set's, and the labels are those
-- of the Namespace that is held
pub record IsCase (l : Lent) : Type 0 where
  pub held : IsHeldAt (type_at (case_of l).kind) (case_of l).held
  pub kind : IsOneOf (kinds_of (case_of l).set) (case_of l).kind
  pub labels : lent_labels l.labels ≡ labels_in (namespace_in (case_of l).request.namespace (case_of l).set)

-- what the params of a policy are, by those that are kept
abbrev pub kept_params : Option Fitted → ParamsType
kept_params None = Absent
kept_params (Some q) = Known q.cel_type

-- the types of the names of a policy at a case, by its params
abbrev pub types_of : Case → Option Fitted → List CelType
types_of c q = types_in (first_names (types_at (type_at c.kind)) (kept_params q))

-- programs may be run at a case if names have these types, whatever param `params` holds, within their price
pub record CanRun (c : Case) (params : Option Fitted) (types : List CelType) (ps : Programs) : Type 0 where
  pub ready : IsReady types ps
  pub within : price_of ps ≤ most
  pub fit : (v : Value) → fits v (type_of_params (kept_params params)) ≡ true → slots_fit types (slots_of c.held v) ≡ true
