-- Which requests rules choose by their selectors, and which they match.
use Rattle.std.specs.Prelude.{Bool, true, false, ◌&&◌, ◌||◌, if◌then◌else◌, Option, Some, None}
use Rattle.serde_json.specs.Data.{Data}
use Rattle.vap_match.specs.Requests.{object_of, old_object_of}
use Rattle.vap_match.specs.declared.request.Admission.{Admission}
use Rattle.vap_match.specs.Select.{Labels, labels_of, selects}
use Rattle.vap_match.specs.declared.selector.Selector.{Selector}
use Rattle.vap_match.specs.Cover.{covers}
use Rattle.vap_match.specs.Namespaces.{is_namespace, is_cluster, own_labels}
use Rattle.vap_match.specs.declared.rules.Rules.{Rules}

-- labels pass a selector that may be absent
abbrev pub passes : Option Selector → Labels → Bool
passes None labels = true
passes (Some s) labels = selects s labels

-- the namespace of a request is selected by the labels that are held for it, and a Namespace by its own; what else is in no
-- namespace passes
abbrev pub selects_namespace : Rules → Admission → Labels → Bool
selects_namespace rules r held =
    if is_namespace r then passes rules.namespace_selector (own_labels r)
    else (is_cluster r || passes rules.namespace_selector held)

-- an object is there and selected
abbrev pub selects_document : Selector → Option Data → Bool
selects_document s None = false
selects_document s (Some d) = selects s (labels_of d)

-- the object as it is to be or as it was is selected
abbrev pub selects_either : Selector → Admission → Bool
selects_either s r = selects_document s (object_of r) || selects_document s (old_object_of r)

-- an object of a request passes a selector that may be absent
abbrev pub object_passes : Option Selector → Admission → Bool
object_passes None r = true
object_passes (Some s) r = selects_either s r

-- an object of the request is selected
abbrev pub selects_object : Rules → Admission → Bool
selects_object rules r = object_passes rules.object_selector r

-- rules match a request that they cover, if its namespace and an object of it are selected
abbrev pub matches : Rules → Admission → Labels → Bool
matches rules r held = covers rules r && selects_namespace rules r held && selects_object rules r
