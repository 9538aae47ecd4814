-- Which labels a selector selects (Kubernetes, "Labels and Selectors").
use Rattle.std.specs.Prelude.{ℕ, Bool, false, ◌&&◌, not, codes, List, Option, Some, None}
use Rattle.std.specs.Prelude.{is_some, option_map, option_and_then}
use Rattle.std.specs.Borrow.{Bor}
use Rattle.std.specs.List.{list_all, list_any}
use Rattle.std.specs.Str.{bytes_eq}
use Rattle.base_containers.specs.declared.text.Keyed.{Keyed}
use Rattle.serde_json.specs.Data.{Data}
use Rattle.serde_json.specs.Find.{get, as_str}
use Rattle.vap_match.specs.declared.labels.Labels.{Labels as Lent}
use Rattle.vap_match.specs.declared.selector.Operator.{Operator}
use Rattle.vap_match.specs.declared.selector.Operator.TheVariants.{In, NotIn, Exists, DoesNotExist}
use Rattle.vap_match.specs.declared.selector.Requirement.{Requirement}
use Rattle.vap_match.specs.declared.selector.Selector.{Selector}

-- labels: what is under `metadata.labels` of an object, if anything is
abbrev pub Labels : Type 0
Labels = Option Data

-- the labels of an object
abbrev pub labels_of : Data → Labels
labels_of d = option_and_then (get (codes "labels")) (get (codes "metadata") d)

-- a text that is lent, if one is
abbrev pub lent_text : Option (Bor (List ℕ)) → Option (List ℕ)
lent_text t = option_map (λ s. s.now) t

-- labels that are lent
abbrev pub lent_labels : Lent → Labels
lent_labels l = l.found

-- the value of a label, if it is there; what is no text does not count
abbrev pub label : Labels → List ℕ → Option (List ℕ)
label labels key = option_and_then as_str (option_and_then (get key) labels)

-- a label is there, and its value is one of these
abbrev pub is_among : List (List ℕ) → Option (List ℕ) → Bool
is_among values None = false
is_among values (Some value) = list_any (bytes_eq value) values

-- what an operator says of a label that may be absent
abbrev pub holds_by : Operator → List (List ℕ) → Option (List ℕ) → Bool
holds_by In values l = is_among values l
holds_by NotIn values l = not (is_among values l)
holds_by Exists values l = is_some l
holds_by DoesNotExist values l = not (is_some l)

-- labels meet a requirement
abbrev pub meets : Labels → Requirement → Bool
meets labels r = holds_by r.operator r.values (label labels r.key)

-- a label is there with this value
abbrev pub is_value : List ℕ → Option (List ℕ) → Bool
is_value wanted None = false
is_value wanted (Some value) = bytes_eq value wanted

-- labels have this one
abbrev pub has_label : Labels → Keyed (List ℕ) → Bool
has_label labels wanted = is_value wanted.value (label labels wanted.key)

-- labels have each wanted one and meet each requirement; an empty selector selects all
abbrev pub selects : Selector → Labels → Bool
selects s labels = list_all (has_label labels) s.match_labels && list_all (meets labels) s.match_expressions
