-- Objects by the classes of their keys, and events that touch none of these.
use Rattle.std.specs.Prelude.{ℕ, Bool, true, false, not, ◌&&◌, ◌||◌, codes, List, filter}
use Rattle.std.specs.BTreeMap.{is_at}
use Rattle.std.specs.List.{list_all, list_any}
use Rattle.std.specs.Str.{bytes_eq}
use Rattle.base_containers.specs.declared.text.Keyed.{Keyed}
use Rattle.vap_read_objects.specs.Definitions.{is_definition}
use Rattle.vap_read.specs.Keys.{is_of, key_cmp}
use Rattle.vap_read.specs.declared.event.Event.{Event}
use Rattle.vap_read.specs.declared.event.Event.TheVariants.{Put, Removed, Passed, Replaced}
use Rattle.vap_read.specs.declared.key.Key.{Key}
use Rattle.vap_read.specs.declared.object.Object.{Object}

-- ---- keys

-- whether a key is that of a policy
abbrev pub is_policy : Key → Bool
is_policy k = is_of (codes "admissionregistration.k8s.io/v1") (codes "ValidatingAdmissionPolicy") k

-- whether a key is that of a binding
abbrev pub is_binding : Key → Bool
is_binding k = is_of (codes "admissionregistration.k8s.io/v1") (codes "ValidatingAdmissionPolicyBinding") k

-- whether a key is that of something that policies are judged by: a policy, a binding or a definition
abbrev pub is_rule : Key → Bool
is_rule k = is_policy k || is_binding k || is_definition k

-- whether a key is that of a Namespace
abbrev pub is_namespace : Key → Bool
is_namespace k = is_of (codes "v1") (codes "Namespace") k

-- whether a name is one of these
abbrev pub is_one_of : List (List ℕ) → List ℕ → Bool
is_one_of names name = list_any (λ n. bytes_eq n name) names

-- whether a key is that of a policy whose name is none of these
abbrev pub is_other_policy : List (List ℕ) → Key → Bool
is_other_policy names k = is_policy k && not (is_one_of names k.name)

-- whether an entry's name is none of these
abbrev pub has_other_name : {V : Type 0} → List (List ℕ) → Keyed V → Bool
has_other_name names e = not (is_one_of names e.key)

-- whether a key is this one
abbrev pub is_key : Key → Key → Bool
is_key this k = is_at (key_cmp this) k

-- ---- objects

-- the objects whose keys are of a class, in their order
abbrev pub of_class : (Key → Bool) → List (Key × Object) → List (Key × Object)
of_class class os = filter (λ e. class e.0) os

-- ---- events

-- whether an event touches no key of a class; a List touches all keys
abbrev pub misses : (Key → Bool) → Event → Bool
misses class (Put o) = not (class o.key)
misses class (Removed k) = not (class k)
misses class Passed = true
misses class (Replaced all) = false

-- whether none of these events does
abbrev pub all_miss : (Key → Bool) → List Event → Bool
all_miss class events = list_all (misses class) events
