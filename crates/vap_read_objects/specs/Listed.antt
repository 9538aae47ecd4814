-- Policies, bindings and definitions by the names in their keys; of those of one name the one of the lesser namespace comes first. An
-- object is read as a policy or a binding exactly if its key is that of one.
use Rattle.std.specs.Prelude.{ℕ, if◌then◌else◌, List, [], ◌∷◌}
use Rattle.std.specs.List.{flat_map}
use Rattle.std.specs.Str.{bytes_eq}
use Rattle.base_containers.specs.declared.text.Keyed.{Keyed}
use Rattle.vap_read.specs.declared.policy.Policy.{Policy}
use Rattle.vap_read.specs.declared.binding.Binding.{Binding}
use Rattle.vap_read_objects.specs.Definitions.{is_definition}
use Rattle.vap_read_objects.specs.Kinds as kinds
use Rattle.vap_read_objects.specs.declared.kind.Kind.{Kind}
use Rattle.vap_read.specs.declared.key.Key.{Key}
use Rattle.vap_read.specs.declared.object.Content.{Content}
use Rattle.vap_read.specs.declared.object.Content.TheVariants as content
use Rattle.vap_read.specs.declared.object.Object.{Object}
use Rattle.vap_read_objects.specs.ByName.{by_name}
use Rattle.vap_read_objects.specs.Classes.{is_binding, is_policy}

-- ---- policies

-- a policy under its name, if an object was read as one
abbrev pub policy_by : List ℕ → Content → List (Keyed Policy)
policy_by name (content.Policy p) = record { key = name; value = p } ∷ []
policy_by name (content.Binding b) = []
policy_by name content.Other = []

-- the policy as which an object was read
abbrev pub policy_read : Key × Object → List (Keyed Policy)
policy_read e = policy_by e.0.name e.1.content

-- what is under a key, if that is a policy's
unfoldable pub policy_under : Key → Object → List (Keyed Policy)
policy_under k o = if is_policy k then policy_by k.name o.content else []

abbrev pub policy_in : Key × Object → List (Keyed Policy)
policy_in e = policy_under e.0 e.1

-- the policies among objects, in the order of these
abbrev pub policies_among : List (Key × Object) → List (Keyed Policy)
policies_among os = flat_map policy_in os

-- the policies by name
abbrev pub policies_in : List (Key × Object) → List (Keyed Policy)
policies_in os = by_name (policies_among os)

-- ---- bindings

-- a binding under its name, if an object was read as one
abbrev pub binding_by : List ℕ → Content → List (Keyed Binding)
binding_by name (content.Policy p) = []
binding_by name (content.Binding b) = record { key = name; value = b } ∷ []
binding_by name content.Other = []

-- the binding as which an object was read
abbrev pub binding_read : Key × Object → List (Keyed Binding)
binding_read e = binding_by e.0.name e.1.content

-- what is under a key, if that is a binding's
unfoldable pub binding_under : Key → Object → List (Keyed Binding)
binding_under k o = if is_binding k then binding_by k.name o.content else []

abbrev pub binding_in : Key × Object → List (Keyed Binding)
binding_in e = binding_under e.0 e.1

-- the bindings among objects, in the order of these
abbrev pub bindings_among : List (Key × Object) → List (Keyed Binding)
bindings_among os = flat_map binding_in os

-- the bindings by name
abbrev pub bindings_in : List (Key × Object) → List (Keyed Binding)
bindings_in os = by_name (bindings_among os)

-- a binding, if it is one of the policy of this name
unfoldable pub if_bound : List ℕ → Keyed Binding → List (Keyed Binding)
if_bound policy b = if bytes_eq b.value.spec.policy_name policy then b ∷ [] else []

-- the bindings of a policy, in their order
abbrev pub bindings_of : List ℕ → List (Keyed Binding) → List (Keyed Binding)
bindings_of policy bs = flat_map (if_bound policy) bs

-- ---- kinds

-- an object by its name
abbrev pub object_named : Key × Object → List (Keyed Object)
object_named e = record { key = e.0.name; value = e.1 } ∷ []

-- what is under a key by its name, if that is a definition's
unfoldable pub definition_under : Key → Object → List (Keyed Object)
definition_under k o = if is_definition k then record { key = k.name; value = o } ∷ [] else []

abbrev pub definition_in : Key × Object → List (Keyed Object)
definition_in e = definition_under e.0 e.1

-- the definitions among objects, in the order of these
abbrev pub definitions_among : List (Key × Object) → List (Keyed Object)
definitions_among os = flat_map definition_in os

-- the definitions by name
abbrev pub definitions_in : List (Key × Object) → List (Keyed Object)
definitions_in os = by_name (definitions_among os)

-- the kinds that are known or refused, the fixed ones first, the others by their definitions' names
abbrev pub kinds_in : List (Key × Object) → List Kind
kinds_in os = kinds.kinds_of (definitions_in os)
