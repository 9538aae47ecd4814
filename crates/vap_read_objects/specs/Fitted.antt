-- What the params of a policy are fitted to.
use Rattle.std.specs.Prelude.{◌≡◌, Bool, not, ◌&&◌, List, [], ◌∷◌, ◌++◌, filter}
use Rattle.std.specs.Prelude.{Option, Some, None, option_and_then, option_map, option_to_list}
use Rattle.std.specs.List.{flat_map, list_any}
use Rattle.std.specs.Str.{bytes_eq}
use Rattle.cel_value.specs.declared.cel_type.CelType.{CelType}
use Rattle.base_containers.specs.declared.text.Keyed.{Keyed}
use Rattle.vap_read_objects.specs.declared.kind.Kind.{Kind}
use Rattle.vap_read.specs.Keys.{is_of}
use Rattle.vap_read_objects.specs.Classes.{of_class}
use Rattle.vap_read_objects.specs.Cluster.{Cluster}
use Rattle.vap_read_objects.specs.OfKind.{objects_of_kind}
use Rattle.vap_read.specs.declared.policy.ParamKind.{ParamKind}
use Rattle.vap_read.specs.declared.policy.Policy.{Policy}
use Rattle.vap_read.specs.declared.key.Key.{Key}
use Rattle.vap_read.specs.declared.object.Object.{Object}
use Rattle.vap_read_objects.specs.Naming.{kind_of_params, spelled}

-- the objects of a kind of params, by namespace, then by name
abbrev pub objects_of : ParamKind → Cluster → List Object
objects_of k c = objects_of_kind (spelled k.api_version) k.kind c.objects

-- whether a key is that of an object of a kind of params
abbrev pub is_of_params : ParamKind → Key → Bool
is_of_params k key = is_of (spelled k.api_version) k.kind key

-- these objects under their keys
abbrev pub entries_of : ParamKind → Cluster → List (Key × Object)
entries_of k c = of_class (is_of_params k) c.objects

-- the objects of a kind, which are fitted to its type, and whether they are in namespaces; the entries are the same under their keys
pub record Fitted : Type 0 where
  pub kind : ParamKind
  pub namespaced : Bool
  pub cel_type : CelType
  pub entries : List (Key × Object)
  pub objects : List Object

-- the objects of a kind with this type, by namespace, then by name
abbrev pub fitted_to : Cluster → ParamKind → Bool → CelType → Fitted
fitted_to c k namespaced t =
    record { kind = k; namespaced = namespaced; cel_type = t; entries = entries_of k c; objects = objects_of k c }

-- the same for other objects, with the same type
abbrev pub refitted : Cluster → Fitted → Fitted
refitted c q = fitted_to c q.kind q.namespaced q.cel_type

-- those of a kind, if it has a type
abbrev pub fitted_at : Cluster → ParamKind → Kind → Option Fitted
fitted_at c k kind = option_map (fitted_to c k kind.namespaced) kind.object_type

-- those of the kind that a policy names, if it is known
abbrev pub params_of : List Kind → Cluster → Option ParamKind → Option Fitted
params_of kinds c None = None
params_of kinds c (Some k) = option_and_then (fitted_at c k) (kind_of_params kinds k)

-- ---- those of each kind

-- two kinds of params are written alike
abbrev pub is_same_kind : ParamKind → ParamKind → Bool
is_same_kind j k = bytes_eq j.api_version k.api_version && bytes_eq j.kind k.kind

-- kinds, each once, where it first appears
abbrev pub each_once : List ParamKind → List ParamKind
each_once [] = []
each_once (k ∷ ks) = k ∷ filter (λ j. not (is_same_kind j k)) (each_once ks)

-- kinds, and after them others that are not among them, each once
abbrev pub and_others : List ParamKind → List ParamKind → List ParamKind
and_others ks js = ks ++ filter (λ j. not (list_any (is_same_kind j) ks)) (each_once js)

-- these are added to kinds, each once
abbrev pub Adds : List ParamKind → List ParamKind → List ParamKind → Type 0
Adds more old new = (rest : List ParamKind) → and_others new rest ≡ and_others old (more ++ rest)

-- the kind of params that a policy names, if it names one
abbrev pub kind_in : Keyed Policy → List ParamKind
kind_in p = option_to_list p.value.spec.param_kind

-- the kinds of params that policies name, each once
abbrev pub kinds_named : List (Keyed Policy) → List ParamKind
kinds_named ps = each_once (flat_map kind_in ps)

-- the params of a kind, if it is known
unfoldable pub fitted_in : List Kind → Cluster → ParamKind → List Fitted
fitted_in kinds c k = option_to_list (params_of kinds c (Some k))

-- the params of each kind that policies name and that is known
abbrev pub all_params : List Kind → Cluster → List (Keyed Policy) → List Fitted
all_params kinds c ps = flat_map (fitted_in kinds c) (kinds_named ps)
