-- Whether a request is judged, and of which kind it is.
use Rattle.std.specs.Prelude.{Bool, ◌&&◌, ◌||◌, is_some, if◌then◌else◌, codes, List, Option, Some, None}
use Rattle.std.specs.Str.{bytes_eq}
use Rattle.vap_read_objects.specs.Kinds.{kind_named}
use Rattle.vap_read_objects.specs.declared.kind.Kind.{Kind}
use Rattle.vap_match.specs.declared.request.Admission.{Admission}
use Rattle.vap_match.specs.declared.request.Resource.{Resource}

-- policies and bindings themselves are not judged, so that a policy cannot keep others from being mended
abbrev pub is_exempt : Resource → Bool
is_exempt r =
    bytes_eq r.group (codes "admissionregistration.k8s.io")
    && (bytes_eq r.resource (codes "validatingadmissionpolicies") || bytes_eq r.resource (codes "validatingadmissionpolicybindings"))

-- the resource is that of a kind which is known
abbrev pub is_resource_of : Kind → Resource → Bool
is_resource_of k r = is_some k.object_type && bytes_eq k.group r.group && bytes_eq k.version r.version && bytes_eq k.plural r.resource

-- a kind, if the resource is its own
abbrev pub if_its_own : Resource → Option Kind → Option Kind
if_its_own r None = None
if_its_own r (Some k) = if is_resource_of k r then Some k else None

-- the known kind of a request, if the request is on its resource
abbrev pub kind_at : List Kind → Admission → Option Kind
kind_at kinds r = if_its_own r.resource (kind_named r.kind.group r.kind.version r.kind.kind kinds)
