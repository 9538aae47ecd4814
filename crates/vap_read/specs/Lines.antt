-- Which kind a line's document is of (Kubernetes, "API Concepts": watches and lists).
use Rattle.std.specs.Prelude.{ℕ, Bool, ◌&&◌, ◌||◌, if◌then◌else◌, codes, List, Option, Some, None, is_some}
use Rattle.std.specs.Str.{bytes_eq}
use Rattle.serde_json.specs.Data.{Data}
use Rattle.serde_json.specs.Find.{get}
use Rattle.vap_match.specs.Parts.{text_in}
use Rattle.vap_read.specs.declared.line.LineKind.{LineKind}
use Rattle.vap_read.specs.declared.line.LineKind.TheVariants.{WatchEvent, ObjectList, Review, Unknown}
use Rattle.vap_read.specs.declared.line.Action.{Action}
use Rattle.vap_read.specs.declared.line.Action.TheVariants.{Put, Remove, Pass}

-- whether a document says that it is of this version and kind
abbrev pub is_of : List ℕ → List ℕ → Data → Bool
is_of api_version kind d =
    bytes_eq (text_in (get (codes "apiVersion") d)) api_version && bytes_eq (text_in (get (codes "kind") d)) kind

-- what has a `type` is a watch event; for what has none, its version and kind decide
abbrev pub line_kind : Data → LineKind
line_kind d =
    if is_some (get (codes "type") d) then WatchEvent
    else (if is_of (codes "v1") (codes "List") d then ObjectList
    else (if is_of (codes "admission.k8s.io/v1") (codes "AdmissionReview") d then Review
    else Unknown))

-- what each word of a watch event does with the object
abbrev pub action_of : List ℕ → Option Action
action_of w =
    if bytes_eq w (codes "ADDED") || bytes_eq w (codes "MODIFIED") then Some Put
    else (if bytes_eq w (codes "DELETED") then Some Remove
    else (if bytes_eq w (codes "BOOKMARK") || bytes_eq w (codes "ERROR") then Some Pass
    else None))

-- what a watch event does, if its `type` is one of the words
abbrev pub action_in : Data → Option Action
action_in d = action_of (text_in (get (codes "type") d))
