-- Policies for which something was compiled that the verifier refuses.
use Rattle.std.specs.Prelude.{◌≡◌, ℕ, true, List, Option, Some, None}
use Rattle.std.specs.List.{Any, Contains}
use Rattle.cel_expression.specs.Source.{Source}
use Rattle.base_containers.specs.declared.failed.Failed.{Failed}
use Rattle.base_containers.specs.declared.failed.Failed.TheVariants.{OutOfMemory, Fault}
use Rattle.cel_expression.specs.declared.refusal.CompileFault.{CompileFault}
use Rattle.cel_expression.specs.declared.refusal.CompileFault.TheVariants as compile_fault
use Rattle.cel_value.specs.declared.cel_type.CelType.{CelType}
use Rattle.base_containers.specs.declared.text.Keyed.{Keyed}
use Rattle.vap_read_objects.specs.declared.kind.Kind.{Kind}
use Rattle.vap_read_objects.specs.Cluster.{Cluster}
use Rattle.vap_read_objects.specs.Listed.{kinds_in, policies_in}
use Rattle.vap_read.specs.declared.policy.Policy.{Policy}
use Rattle.vap_read.specs.declared.policy.PolicySpec.{PolicySpec}
use Rattle.vap_policy_programs.specs.Expressions.{expressions_of, IsOneUnverified}
use Rattle.vap_policy_programs.specs.Scopes.{first_names}
use Rattle.vap_policy_set.specs.Kinds.{params_type, types_at}
use Rattle.vap_policy_set.specs.Parts.{part_of}
use Rattle.vap_policy_set.specs.Ready.{type_at}
use Rattle.vap_policy_set.specs.Sets.{is_looked_at}
use Rattle.vap_policy_set.specs.declared.build_error.BuildFault.{BuildFault}
use Rattle.vap_policy_set.specs.declared.build_error.BuildFault.TheVariants as build_fault
use Rattle.vap_policy_set.specs.declared.choice.Choice.{Choice}

-- the error of the whole for an error in compiling a policy of this name
abbrev pub error_of : List ℕ → Failed CompileFault → Failed BuildFault
error_of name (Fault (compile_fault.Unverified at)) = Fault (build_fault.Unverified name)
error_of name OutOfMemory = OutOfMemory

-- the expressions of a policy, if these of its own texts are refused and the objects are of this type
abbrev pub expressions_at : List (List ℕ) → List Kind → PolicySpec → CelType → List Source
expressions_at refused kinds p t =
    expressions_of refused (first_names (types_at t) (params_type kinds p.param_kind)) p

-- a policy is looked at if the kind is not known, and at each known one of these that it names
abbrev pub IsLookedAt : List Kind → PolicySpec → Option Kind → Type 0
IsLookedAt kinds p None = Unit {0}
IsLookedAt kinds p (Some k) = Contains kinds k × (is_looked_at p k ≡ true)

-- at some kind where it is looked at, one of its expressions may be run, and the verifier refuses its image
pub record HasUnverified (refused : List (List ℕ)) (kinds : List Kind) (p : PolicySpec) : Type 0 where
  pub kind : Option Kind
  pub looked_at : IsLookedAt kinds p kind
  pub at : ℕ
  pub is : IsOneUnverified at (expressions_at refused kinds p (type_at kind))

-- a policy has this name, and such an expression
abbrev pub IsNamedUnverified : Choice → List Kind → List ℕ → Keyed Policy → Type 0
IsNamedUnverified choice kinds name p = (p.key ≡ name) × HasUnverified (part_of choice p.value.spec) kinds p.value.spec

-- so has one of these
abbrev pub AreUnverified : Choice → List Kind → List ℕ → List (Keyed Policy) → Type 0
AreUnverified choice kinds name ps = Any (IsNamedUnverified choice kinds name) ps

-- so has a policy among objects, by some choice
abbrev pub IsUnverifiedIn : Cluster → List ℕ → Type 0
IsUnverifiedIn objects name = (choice : Choice) × AreUnverified choice (kinds_in objects.objects) name (policies_in objects.objects)
