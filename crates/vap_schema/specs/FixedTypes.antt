-- The fields that each object of a known kind has, whatever its schema says (Kubernetes API reference, "ObjectMeta").
use Rattle.std.specs.Prelude.{ℕ, false, List, [], codes}
use Rattle.base_containers.specs.declared.text.Keyed.{Keyed}
use Rattle.base_containers.specs.Keys.{with_entry, without}
use Rattle.cel_value.specs.declared.cel_type.Field.{Field}
use Rattle.cel_value.specs.declared.cel_type.CelType as type
use Rattle.cel_value.specs.declared.cel_type.CelType.{CelType, out-CelType}
use Rattle.cel_value.specs.declared.cel_type.CelType.TheOpen.{CelType-F}

-- the fields with an optional one of this name and type, in place of what is under the name
abbrev pub with_optional : List ℕ → CelType → List (Keyed (Field CelType)) → List (Keyed (Field CelType))
with_optional name t fields = with_entry name (record { required = false; cel_type = t }) (without name fields)

-- labels and annotations: texts of at most so many code points
abbrev pub texts_type : ℕ → CelType
texts_type max = type.Map 4096 317 (type.Text max)

-- what `metadata` has: all of it optional
abbrev pub metadata_fields : List (Keyed (Field CelType))
metadata_fields =
    with_optional (codes "name") (type.Text 253)
    (with_optional (codes "generateName") (type.Text 253)
    (with_optional (codes "namespace") (type.Text 253)
    (with_optional (codes "uid") (type.Text 253)
    (with_optional (codes "labels") (texts_type 63)
    (with_optional (codes "annotations") (texts_type 262144)
    (with_optional (codes "creationTimestamp") type.Timestamp []))))))

-- the type of `metadata`
abbrev pub metadata_type : CelType
metadata_type = type.Object metadata_fields

-- the fields of a root object
abbrev pub root_fields : List (Keyed (Field CelType)) → List (Keyed (Field CelType))
root_fields fields =
    with_optional (codes "apiVersion") (type.Text 317)
    (with_optional (codes "kind") (type.Text 63)
    (with_optional (codes "metadata") metadata_type fields))

-- the same, with the type's first level beside it
abbrev pub with_fixed_at : CelType → CelType-F CelType → CelType
with_fixed_at t (CelType-F.Object fields) = type.Object (root_fields fields)
with_fixed_at t _ = t

-- the type of a root: an object with the fixed fields, and any other type as it is
abbrev pub with_fixed_fields : CelType → CelType
with_fixed_fields t = with_fixed_at t (out-CelType t)
