-- What each policy of a set is at the kinds that it names.
use Rattle.std.specs.Prelude.{◌≡◌, true, IsSome, List, Option, Some, None, option_and_then}
use Rattle.std.specs.List.{All}
use Rattle.vap_read_objects.specs.declared.kind.Kind.{Kind}
use Rattle.vap_read.specs.declared.policy.ParamKind.{ParamKind}
use Rattle.vap_read.specs.declared.policy.PolicySpec.{PolicySpec}
use Rattle.vap_policy_programs.specs.declared.programs.Pair.{Pair}
use Rattle.vap_policy_programs.specs.declared.programs.Pair.TheVariants.{Runs, Misconfigured}
use Rattle.vap_read_objects.specs.Naming.{kind_of_params}
use Rattle.vap_policy_set.specs.Ready.{IsOneOf}
use Rattle.vap_policy_set.specs.Sets.{Holdings, is_looked_at, kinds_of, pair_in, policies_of}
use Rattle.vap_policy_set.specs.declared.bound.BoundPolicy.{BoundPolicy}

-- the kind of params that is named, if one is, is found and has a type
abbrev pub HasKnownParams : List Kind → Option ParamKind → Type 0
HasKnownParams kinds None = Unit {0}
HasKnownParams kinds (Some k) = IsSome (option_and_then (λ kind. kind.object_type) (kind_of_params kinds k))

-- a policy with such params is something at a kind: it is misconfigured, or it runs, and then the kind of its params is known
abbrev pub IsSomething : List Kind → Option ParamKind → Option Pair → Type 0
IsSomething kinds params None = ⊥
IsSomething kinds params (Some (Misconfigured why)) = Unit {0}
IsSomething kinds params (Some (Runs ps)) = HasKnownParams kinds params

-- a policy names a kind; every policy names those that are not known
abbrev pub Names : PolicySpec → Option Kind → Type 0
Names p None = Unit {0}
Names p (Some k) = is_looked_at p k ≡ true

-- a policy is something at a kind that it names
abbrev pub IsWholeAt : Holdings → Option Kind → BoundPolicy → Type 0
IsWholeAt h k p = Names p.policy.spec k → IsSomething (kinds_of h) p.policy.spec.param_kind (pair_in p k)

-- so is each policy of a set, at each of its kinds
abbrev pub AreWhole : Holdings → Type 0
AreWhole h = (k : Option Kind) → IsOneOf (kinds_of h) k → All (IsWholeAt h k) (policies_of h)
