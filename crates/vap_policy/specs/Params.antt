-- Which objects are the params of a policy under a binding (Kubernetes, "Parameter resources").
use Rattle.std.specs.Prelude.{ℕ, Bool, true, false, ◌&&◌, if◌then◌else◌, List, [], ◌∷◌, Option, Some, None}
use Rattle.std.specs.Str.{bytes_eq}
use Rattle.vap_read.specs.declared.binding.ParamRef.{ParamRef}
use Rattle.vap_read.specs.declared.object.Object.{Object}
use Rattle.vap_match.specs.Select.{labels_of, selects}
use Rattle.vap_match.specs.declared.selector.Selector.{Selector}

-- where params are looked for: in the whole cluster, or in a namespace
pub data Place : Type 0 where
  Cluster : Place
  Namespace : List ℕ → Place

-- a namespace, if one is given
abbrev pub in_namespace : List ℕ → Option Place
in_namespace [] = None
in_namespace (b ∷ bs) = Some (Namespace (b ∷ bs))

-- of a kind in namespaces: the one that is given, or else the request's
abbrev pub given_or : List ℕ → List ℕ → Option Place
given_or [] requested = in_namespace requested
given_or (b ∷ bs) requested = Some (Namespace (b ∷ bs))

-- of a kind in no namespace
abbrev pub if_none_given : List ℕ → Option Place
if_none_given [] = Some Cluster
if_none_given (b ∷ bs) = None

-- where the params of a kind are looked for: nowhere, if a namespace is given and there should be none, or the other way
abbrev pub place_of : Bool → List ℕ → List ℕ → Option Place
place_of namespaced given requested = if namespaced then given_or given requested else if_none_given given

-- a namespace is in a place
abbrev pub is_in : Place → List ℕ → Bool
is_in Cluster namespace = true
is_in (Namespace wanted) namespace = bytes_eq namespace wanted

-- an object is selected, if there is a selector
abbrev pub is_selected : Option Selector → Object → Bool
is_selected None o = false
is_selected (Some s) o = selects s (labels_of o.document)

-- an object is the one of this name, or else is selected
abbrev pub is_chosen : Option (List ℕ) → Option Selector → Object → Bool
is_chosen (Some name) selector o = bytes_eq o.key.name name
is_chosen None selector o = is_selected selector o

-- an object is a param
abbrev pub is_param : Place → ParamRef → Object → Bool
is_param place p o = is_in place o.key.namespace && is_chosen p.name p.selector o
