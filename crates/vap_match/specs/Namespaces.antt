-- Where the object of a request is, and a Namespace's own labels.
use Rattle.std.specs.Prelude.{Bool, ◌&&◌, ◌||◌, if◌then◌else◌, codes, [], option_and_then}
use Rattle.std.specs.Str.{bytes_eq}
use Rattle.vap_match.specs.Requests.{object_of, old_object_of}
use Rattle.vap_match.specs.declared.request.Admission.{Admission}
use Rattle.vap_match.specs.Select.{Labels, labels_of}

-- whether a request is on a Namespace: core `namespaces`
abbrev pub is_namespace : Admission → Bool
is_namespace r = bytes_eq r.resource.group [] && bytes_eq r.resource.resource (codes "namespaces")

-- whether a request is on what is in no namespace
abbrev pub is_cluster : Admission → Bool
is_cluster r = bytes_eq r.namespace [] || is_namespace r

-- the labels of a request's own Namespace: as it is to be, on DELETE as it was
abbrev pub own_labels : Admission → Labels
own_labels r = option_and_then labels_of (if bytes_eq r.operation (codes "DELETE") then old_object_of r else object_of r)
