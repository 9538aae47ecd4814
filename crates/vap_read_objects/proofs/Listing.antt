-- How long the lists that are read from objects are.
use Rattle.std.proofs.Common.{◌≡◌, ◌≤◌, ℕ, Bool, true, false, List, [], ◌∷◌, length, length-append, refl, arith}
use Rattle.std.specs.Prelude.{if◌then◌else◌}
use Rattle.vap_read.specs.declared.key.Key.{Key}
use Rattle.vap_read.specs.declared.object.Content.{Content}
use Rattle.vap_read.specs.declared.object.Content.TheVariants as content
use Rattle.vap_read.specs.declared.object.Object.{Object}
use Rattle.vap_read_objects.specs.Limits.{policy_count, binding_count, weight, total, AreFew}
use Rattle.vap_read.specs.Keys.{is_of}
use Rattle.vap_read_objects.specs.Classes.{is_binding, is_policy}
use Rattle.vap_read_objects.specs.Listed.{policy_by, policy_under, policy_in, policies_among, policies_in}
use Rattle.vap_read_objects.specs.Listed.{binding_by, binding_under, binding_in, bindings_among, bindings_in}
use Rattle.vap_read_objects.specs.OfKind.{if_of_kind, objects_of_kind}
use Rattle.vap_read_objects.specs.declared.tallies.Counted.TheVariants.{Policies, Bindings}
use Rattle.vap_read_objects.proofs.ByName.{as_many}

one_policy : (name : List ℕ) (c : Content) → length (policy_by name c) ≡ policy_count c
one_policy name (content.Policy p) = refl
one_policy name (content.Binding b) = refl
one_policy name content.Other = refl

policy_little : (k : Key) (o : Object) → length (policy_under k o) ≤ policy_count o.content
unfolding policy_under
policy_little k o = at (is_policy k)
  where
    at : (b : Bool) → length (if b then policy_by k.name o.content else []) ≤ policy_count o.content
    at true = omega (arith, one_policy k.name o.content)
    at false = omega arith

no_more_policies : (os : List (Key × Object)) → length (policies_among os) ≤ total (weight Policies) os
no_more_policies [] = omega arith
no_more_policies (e ∷ os) =
    omega (arith, length-append (policy_in e) (policies_among os), policy_little e.0 e.1, no_more_policies os)

-- there are at most as many policies as may be
pub policies_few : (os : List (Key × Object)) → AreFew os → length (policies_in os) ≤ 256
policies_few os few = omega (arith, as_many (policies_among os), no_more_policies os, few.policies)

one_binding : (name : List ℕ) (c : Content) → length (binding_by name c) ≡ binding_count c
one_binding name (content.Policy p) = refl
one_binding name (content.Binding b) = refl
one_binding name content.Other = refl

binding_little : (k : Key) (o : Object) → length (binding_under k o) ≤ binding_count o.content
unfolding binding_under
binding_little k o = at (is_binding k)
  where
    at : (b : Bool) → length (if b then binding_by k.name o.content else []) ≤ binding_count o.content
    at true = omega (arith, one_binding k.name o.content)
    at false = omega arith

no_more_bindings : (os : List (Key × Object)) → length (bindings_among os) ≤ total (weight Bindings) os
no_more_bindings [] = omega arith
no_more_bindings (e ∷ os) =
    omega (arith, length-append (binding_in e) (bindings_among os), binding_little e.0 e.1, no_more_bindings os)

-- there are at most as many bindings as may be
pub bindings_few : (os : List (Key × Object)) → AreFew os → length (bindings_in os) ≤ 256
bindings_few os few = omega (arith, as_many (bindings_among os), no_more_bindings os, few.bindings)

at_most_one : (api_version kind : List ℕ) (k : Key) (o : Object) → length (if_of_kind api_version kind k o) ≤ 1
unfolding if_of_kind
at_most_one api_version kind k o = at (is_of api_version kind k)
  where
    at : (b : Bool) → length (if b then o ∷ [] else []) ≤ 1
    at true = omega arith
    at false = omega arith

no_more : (api_version kind : List ℕ) (os : List (Key × Object)) → length (objects_of_kind api_version kind os) ≤ length os
no_more api_version kind [] = omega arith
no_more api_version kind (e ∷ os) =
    omega (
      arith,
      length-append (if_of_kind api_version kind e.0 e.1) (objects_of_kind api_version kind os),
      at_most_one api_version kind e.0 e.1,
      no_more api_version kind os,
    )

-- there are at most as many objects of a kind as there may be objects
pub of_kind_few : (api_version kind : List ℕ) (os : List (Key × Object)) → AreFew os
    → length (objects_of_kind api_version kind os) ≤ 4096
of_kind_few api_version kind os few = omega (arith, no_more api_version kind os, few.objects)
