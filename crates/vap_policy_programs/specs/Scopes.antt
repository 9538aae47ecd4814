-- Which names an expression of a policy sees, and which types they have (Kubernetes, "Validation Expression" and "Variables").
use Rattle.std.specs.Prelude.{ℕ, Bool, true, false, List, [], ◌∷◌, ◌++◌, codes}
use Rattle.base_containers.specs.declared.text.Keyed.{Keyed}
use Rattle.cel_value.specs.declared.cel_type.CelType.{CelType}
use Rattle.cel_value.specs.declared.cel_type.CelType as type
use Rattle.cel_expression.specs.Source.{Source}
use Rattle.cel_expression.specs.Expressions.{type_at}
use Rattle.vap_policy_programs.specs.declared.names.KindTypes.{KindTypes}
use Rattle.vap_policy_programs.specs.declared.names.ParamsType.{ParamsType}
use Rattle.vap_policy_programs.specs.declared.names.ParamsType.TheVariants.{Absent, Unknown, Known}

-- names with their types, in the order of their slots
abbrev pub Scope : Type 0
Scope = List (Keyed CelType)

-- the texts that are taken as no patterns
abbrev pub NoPatterns : Type 0
NoPatterns = List (List ℕ)

-- an expression at its place
abbrev pub source : NoPatterns → Scope → List ℕ → Source
source choice names text = record { choice = choice; names = names; text = text }

-- a name with its type
abbrev pub named : List ℕ → CelType → Keyed CelType
named name t = record { key = name; value = t }

-- `params` may be null if the policy names a kind of params that is known, and otherwise is null
abbrev pub type_of_params : ParamsType → CelType
type_of_params (Known t) = type.Nullable t
type_of_params Absent = type.Null
type_of_params Unknown = type.Null

-- the policy names a kind of params that is not known
abbrev pub is_unknown : ParamsType → Bool
is_unknown (Known t) = false
is_unknown Absent = false
is_unknown Unknown = true

-- the names that each expression sees: the objects, which may be null, the request, the params and the namespace's object
unfoldable pub first_names : KindTypes → ParamsType → Scope
first_names types params =
    named (codes "object") (type.Nullable types.object)
    ∷ named (codes "oldObject") (type.Nullable types.object)
    ∷ named (codes "request") types.request
    ∷ named (codes "params") (type_of_params params)
    ∷ named (codes "namespaceObject") (type.Nullable types.namespace)
    ∷ []

-- the one name of a variable
abbrev pub variable_name : List ℕ → List ℕ
variable_name x = codes "variables." ++ x

-- the names with one more variable, which is what an expression gives
unfoldable pub with_variable : Scope → List ℕ → Source → Scope
with_variable names x s = names ++ named (variable_name x) (type_at s) ∷ []
