-- What a set of policies holds.
use Rattle.std.specs.Prelude.{◌≡◌, ℕ, Bool, ◌&&◌, is_some, List, [], ◌∷◌, map, filter}
use Rattle.std.specs.Prelude.{Option, Some, None, option_map}
use Rattle.std.specs.List.{find, flat_map}
use Rattle.std.specs.List.Sorted.{IsSorted, IsStable}
use Rattle.std.specs.Ordering.{nat_cmp, on, then_cmp}
use Rattle.std.specs.declared.cmp.Ordering.{Ordering}
use Rattle.std.specs.Cmp.Lexicographic.{slice_cmp}
use Rattle.cel_value.specs.declared.cel_type.CelType.{CelType}
use Rattle.base_containers.specs.declared.text.Keyed.{Keyed}
use Rattle.vap_read.specs.declared.binding.Binding.{Binding}
use Rattle.vap_read_objects.specs.Kinds.{is_named}
use Rattle.vap_read_objects.specs.declared.kind.Kind.{Kind}
use Rattle.vap_read_objects.specs.Cluster.{Cluster}
use Rattle.vap_read_objects.specs.Listed.{bindings_in, bindings_of, kinds_in, policies_in}
use Rattle.vap_read_objects.specs.OfKind.{namespace_key, namespaces_in, object_at}
use Rattle.vap_read.specs.declared.policy.ParamKind.{ParamKind}
use Rattle.vap_read.specs.declared.policy.Policy.{Policy}
use Rattle.vap_read.specs.declared.policy.PolicySpec.{PolicySpec}
use Rattle.vap_policy_programs.specs.declared.programs.Pair.{Pair}
use Rattle.vap_policy_programs.specs.declared.programs.Pair.TheVariants as pair
use Rattle.vap_read.specs.declared.key.Key.{Key}
use Rattle.vap_read.specs.declared.object.Object.{Object}
use Rattle.vap_read_objects.specs.Fitted.{Fitted, all_params, is_same_kind}
use Rattle.vap_policy_set.specs.Kinds.{is_named_by, params_type, type_or_opaque}
use Rattle.vap_policy_set.specs.Made.{pair_made}
use Rattle.vap_policy_set.specs.Parts.{part_of}
use Rattle.vap_policy_set.specs.Patterns.{IsChoiceFor, of_policy}
use Rattle.vap_policy_set.specs.declared.bound.BoundPolicy.{BoundPolicy}
use Rattle.vap_policy_set.specs.declared.bound.KindPair.{KindPair}
use Rattle.vap_policy_set.specs.declared.choice.Choice.{Choice}
use Rattle.vap_policy_set.specs.declared.made.Inputs.{Inputs}
use Rattle.vap_policy_set.specs.declared.report.Misconfigured.{Misconfigured}
use Rattle.vap_policy_set.specs.declared.rules.Rules.{Rules}

-- the choice that refuses nothing
abbrev pub no_choice : Choice
no_choice = record { refused = [] }

-- what a policy is compiled of if these of its own texts are refused and the objects are of this type, or of none that is known
abbrev pub inputs_of : List (List ℕ) → List Kind → PolicySpec → Option CelType → Inputs
inputs_of refused kinds p t =
    record { refused = refused; cel_type = type_or_opaque t; params = params_type kinds p.param_kind; policy = p }

-- a policy at a kind, by the type of its objects
abbrev pub pair_at : List (List ℕ) → List Kind → PolicySpec → Kind → Pair
pair_at refused kinds p k = pair_made (inputs_of refused kinds p k.object_type)

abbrev pub kind_pair : List (List ℕ) → List Kind → PolicySpec → Kind → KindPair
kind_pair refused kinds p k =
    record { group = k.group; version = k.version; kind = k.kind; made = inputs_of refused kinds p k.object_type }

-- a policy is looked at if the kind is known and the policy names it
abbrev pub is_looked_at : PolicySpec → Kind → Bool
is_looked_at p k = is_some k.object_type && is_named_by p.match_constraints.resource_rules k

-- a policy at the kinds where it is looked at
abbrev pub pairs_of : List (List ℕ) → List Kind → PolicySpec → List KindPair
pairs_of refused kinds p = map (kind_pair refused kinds p) (filter (is_looked_at p) kinds)

-- a policy at the kinds that are not known
abbrev pub other_of : List (List ℕ) → List Kind → PolicySpec → Inputs
other_of refused kinds p = inputs_of refused kinds p None

-- a policy with what is read of it once, its bindings, and what it is at each kind
abbrev pub bound_of : Choice → List Kind → List (Keyed Binding) → Keyed Policy → BoundPolicy
bound_of choice kinds bindings p = record {
  name = p.key;
  policy = p.value;
  read = p.value;
  bindings = bindings_of p.key bindings;
  pairs = pairs_of (part_of choice p.value.spec) kinds p.value.spec;
  other = other_of (part_of choice p.value.spec) kinds p.value.spec;
}

-- ---- the set

-- what a set holds: how many events left its objects, which texts are taken as no patterns, the kinds, the policies by name with
-- what each is at each kind, the params of each kind that policies name and that is known, and the Namespaces by their keys
pub record Holdings : Type 0 where
  pub events : ℕ
  pub choice : Choice
  pub kinds : List Kind
  pub policies : List BoundPolicy
  pub params : List Fitted
  pub namespaces : List (Key × Object)

-- the policies of objects by name, with what each is at each kind
abbrev pub policies_by : Choice → Cluster → List BoundPolicy
policies_by choice c = map (bound_of choice (kinds_in c.objects) (bindings_in c.objects)) (policies_in c.objects)

-- what the set of objects holds by a choice
unfoldable pub holdings_of : Cluster → Choice → Holdings
holdings_of c choice = record {
  events = c.events;
  choice = choice;
  kinds = kinds_in c.objects;
  policies = policies_by choice c;
  params = all_params (kinds_in c.objects) c (policies_in c.objects);
  namespaces = namespaces_in c.objects;
}

-- what a set holds, by its parts
abbrev pub held_by : ℕ → Rules → List Fitted → List (Key × Object) → Holdings
held_by events rules params namespaces = record {
  events = events;
  choice = rules.choice;
  kinds = rules.definitions.kinds;
  policies = rules.policies;
  params = params;
  namespaces = namespaces;
}

-- there are objects whose set holds this
pub record IsOfObjects (h : Holdings) : Type 0 where
  pub objects : Cluster
  pub is : h ≡ holdings_of objects h.choice

-- the literal texts that `matches` is given in policies that are bound
abbrev pub of_bound : List BoundPolicy → List (List ℕ)
of_bound ps = flat_map (λ p. of_policy p.policy.spec) ps

-- the choice of a set is one for its policies
abbrev pub IsChosen : Holdings → Type 0
IsChosen h = IsChoiceFor (of_bound h.policies) h.choice.refused

-- the choice of a set
abbrev pub choice_in : Holdings → Choice
choice_in h = h.choice

-- the kinds of a set
abbrev pub kinds_of : Holdings → List Kind
kinds_of h = h.kinds

-- the policies of a set by name, with what each is at each kind
abbrev pub policies_of : Holdings → List BoundPolicy
policies_of h = h.policies

-- the params that a set holds of a kind, if one is named
abbrev pub params_in : Holdings → Option ParamKind → Option Fitted
params_in h None = None
params_in h (Some k) = find (λ q. is_same_kind q.kind k) h.params

-- the Namespace that a set holds of a name
abbrev pub namespace_in : List ℕ → Holdings → Option Object
namespace_in name h = object_at (namespace_key name) h.namespaces

-- ---- a policy at a kind

-- a pair of a policy is the one at this kind
abbrev pub is_pair_of : Kind → KindPair → Bool
is_pair_of k p = is_named p.group p.version p.kind k

-- what a policy is at the kind of a request; nothing at a known kind that it does not name, where it covers no request
abbrev pub pair_in : BoundPolicy → Option Kind → Option Pair
pair_in p None = Some (pair_made p.other)
pair_in p (Some k) = option_map (λ e. pair_made e.made) (find (is_pair_of k) p.pairs)

-- ---- the report

-- where a policy is misconfigured, if it is
abbrev pub misconfigured_by : List ℕ → KindPair → Pair → List Misconfigured
misconfigured_by name p (pair.Runs ps) = []
misconfigured_by name p (pair.Misconfigured fault) =
    record { policy = name; group = p.group; version = p.version; kind = p.kind; fault = fault } ∷ []

unfoldable pub misconfigured_at : List ℕ → KindPair → List Misconfigured
misconfigured_at name p = misconfigured_by name p (pair_made p.made)

-- the same of a policy, at each known kind that it names
abbrev pub misconfigured_in : BoundPolicy → List Misconfigured
misconfigured_in p = flat_map (misconfigured_at p.name) p.pairs

-- what is reported of policies, one after the other
abbrev pub told_of : List BoundPolicy → List Misconfigured
told_of ps = flat_map misconfigured_in ps

-- a report is ordered by policy, then by group, then by version, then by kind
abbrev pub report_cmp : Misconfigured → Misconfigured → Ordering
report_cmp =
    then_cmp (on (λ m. m.policy) (slice_cmp nat_cmp))
    (then_cmp (on (λ m. m.group) (slice_cmp nat_cmp))
    (then_cmp (on (λ m. m.version) (slice_cmp nat_cmp)) (on (λ m. m.kind) (slice_cmp nat_cmp))))

-- the report on policies is what is reported of them, in this order; what is the same in all four is in the order of the
-- policies, which for one name is that of their namespaces
pub record IsReport (ps : List BoundPolicy) (report : List Misconfigured) : Type 0 where
  pub sorted : IsSorted report_cmp report
  pub stable : IsStable report_cmp (told_of ps) report
