-- What is known of each policy of a set.
use Rattle.std.specs.Prelude.{◌≡◌, List, Option, Some, None, option_and_then}
use Rattle.std.specs.List.{All}
use Rattle.cel_value.specs.declared.cel_type.CelType.{CelType}
use Rattle.vap_read_objects.specs.Kinds.{kind_named}
use Rattle.vap_read_objects.specs.declared.kind.Kind.{Kind}
use Rattle.vap_read.specs.declared.policy.ParamKind.{ParamKind}
use Rattle.vap_policy_programs.specs.Ready.{IsPairReady, IsPairWithin}
use Rattle.vap_policy_programs.specs.declared.names.KindTypes.{KindTypes}
use Rattle.vap_policy_programs.specs.declared.names.ParamsType.{ParamsType}
use Rattle.vap_policy_programs.specs.declared.programs.Pair.{Pair}
use Rattle.vap_read_objects.specs.Fitted.{params_of}
use Rattle.vap_policy_set.specs.Kinds.{params_type, type_or_opaque, types_at}
use Rattle.vap_policy_set.specs.Sets.{Holdings, IsOfObjects, kinds_of, pair_in, params_in, policies_of}
use Rattle.vap_policy_set.specs.declared.bound.BoundPolicy.{BoundPolicy}

-- the type of objects of a kind; it is not known if the kind is not known
abbrev pub type_at : Option Kind → CelType
type_at k = type_or_opaque (option_and_then (λ kind. kind.object_type) k)

-- a kind is the one of its group, version and name among these
abbrev pub IsFirst : List Kind → Kind → Type 0
IsFirst kinds k = kind_named k.group k.version k.kind kinds ≡ Some k

-- a kind, if there is one, is one of these
abbrev pub IsOneOf : List Kind → Option Kind → Type 0
IsOneOf kinds None = Unit {0}
IsOneOf kinds (Some k) = IsFirst kinds k

-- what runs, if anything does, may be run if names have these types, and is within its price
abbrev pub IsReadyBy : KindTypes → ParamsType → Option Pair → Type 0
IsReadyBy types params None = Unit {0}
IsReadyBy types params (Some p) = IsPairReady types params p × IsPairWithin p

-- a set holds those params of a kind that its objects have
pub record HasItsParams (h : Holdings) (k : Option ParamKind) : Type 0 where
  pub source : IsOfObjects h
  pub are : params_in h k ≡ params_of (kinds_of h) source.objects k

-- what a policy is at a kind may be run there, at its params
pub record IsReadyAt (h : Holdings) (k : Option Kind) (p : BoundPolicy) : Type 0 where
  pub params : HasItsParams h p.policy.spec.param_kind
  pub runs : IsReadyBy (types_at (type_at k)) (params_type (kinds_of h) p.policy.spec.param_kind) (pair_in p k)

-- so is each of these policies, at each kind of a set
abbrev pub AreReadyIn : Holdings → List BoundPolicy → Type 0
AreReadyIn h ps = (k : Option Kind) → IsOneOf (kinds_of h) k → All (IsReadyAt h k) ps

-- so is each policy of a set
abbrev pub AreReady : Holdings → Type 0
AreReady h = AreReadyIn h (policies_of h)
