-- Objects by their keys.
use Rattle.std.specs.Prelude.{ℕ, Bool, ◌&&◌, List, []}
use Rattle.std.specs.Ordering.{nat_cmp, on, then_cmp}
use Rattle.std.specs.declared.cmp.Ordering.{Ordering}
use Rattle.std.specs.Cmp.Lexicographic.{slice_cmp}
use Rattle.std.specs.BTreeMap.{insert_entry}
use Rattle.std.specs.Str.{bytes_eq}
use Rattle.vap_read.specs.declared.key.Key.{Key}
use Rattle.vap_read.specs.declared.object.Object.{Object}

-- keys by version, kind, namespace and name
abbrev pub key_cmp : Key → Key → Ordering
key_cmp =
    then_cmp (on (λ k. k.api_version) (slice_cmp nat_cmp))
    (then_cmp (on (λ k. k.kind) (slice_cmp nat_cmp))
    (then_cmp (on (λ k. k.namespace) (slice_cmp nat_cmp)) (on (λ k. k.name) (slice_cmp nat_cmp))))

-- the objects with one more, in place of what is under its key
abbrev pub with_object : Object → List (Key × Object) → List (Key × Object)
with_object o os = insert_entry key_cmp os o.key o

-- whether a key is one of this version and kind
abbrev pub is_of : List ℕ → List ℕ → Key → Bool
is_of api_version kind k = bytes_eq k.api_version api_version && bytes_eq k.kind kind

-- the first key that may be of a version and kind
abbrev pub first_key : List ℕ → List ℕ → Key
first_key api_version kind = record { api_version = api_version; kind = kind; namespace = []; name = [] }
