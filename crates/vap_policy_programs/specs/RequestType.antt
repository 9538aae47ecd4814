-- The type of `request` (Kubernetes API reference, "AdmissionRequest").
use Rattle.std.specs.Prelude.{ℕ, true, List, [], codes}
use Rattle.base_containers.specs.declared.text.Keyed.{Keyed}
use Rattle.base_containers.specs.Keys.{with_entry, without}
use Rattle.cel_value.specs.declared.cel_type.Field.{Field}
use Rattle.cel_value.specs.declared.cel_type.CelType as type
use Rattle.cel_value.specs.declared.cel_type.CelType.{CelType}

-- the fields with one more, which is required
abbrev pub with_required : List ℕ → CelType → List (Keyed (Field CelType)) → List (Keyed (Field CelType))
with_required name t fields = with_entry name (record { required = true; cel_type = t }) (without name fields)

-- the fields with a text of at most 253 code points
abbrev pub with_short : List ℕ → List (Keyed (Field CelType)) → List (Keyed (Field CelType))
with_short name fields = with_required name (type.Text 253) fields

-- a group, a version and a last part of this name
abbrev pub versioned_type : List ℕ → CelType
versioned_type last = type.Object (with_short last (with_short (codes "version") (with_short (codes "group") [])))

-- lists of groups, and of what else is said about a user
abbrev pub texts_type : CelType
texts_type = type.List 1024 true (type.Text 1024)

-- whose request it is
abbrev pub user_type : CelType
user_type = type.Object
    (with_required (codes "extra") (type.Map 1024 1024 texts_type)
    (with_required (codes "groups") texts_type
    (with_required (codes "uid") (type.Text 1024)
    (with_required (codes "username") (type.Text 1024) []))))

-- what is asked, and on what
abbrev pub asked_fields : List (Keyed (Field CelType))
asked_fields =
    with_required (codes "dryRun") type.Bool
    (with_required (codes "operation") (type.Text 7)
    (with_short (codes "subResource")
    (with_short (codes "namespace")
    (with_short (codes "name") []))))

-- the type of `request`: all of it is required
abbrev pub request_type : CelType
request_type = type.Object
    (with_required (codes "userInfo") user_type
    (with_required (codes "resource") (versioned_type (codes "resource"))
    (with_required (codes "kind") (versioned_type (codes "kind")) asked_fields)))
