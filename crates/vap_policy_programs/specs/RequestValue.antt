-- What `request` holds of a review.
use Rattle.std.specs.Prelude.{ℕ, List, [], codes, map}
use Rattle.base_containers.specs.declared.text.Keyed.{Keyed}
use Rattle.base_containers.specs.Keys.{with_entry, without}
use Rattle.cel_value.specs.declared.value.Value as value
use Rattle.cel_value.specs.declared.value.Value.{Value}
use Rattle.vap_match.specs.declared.request.Admission.{Admission}
use Rattle.vap_match.specs.declared.request.UserInfo.{UserInfo}

-- the fields with one more
abbrev pub with_field : List ℕ → Value → List (Keyed Value) → List (Keyed Value)
with_field name v fields = with_entry name v (without name fields)

-- the fields with a text
abbrev pub with_text : List ℕ → List ℕ → List (Keyed Value) → List (Keyed Value)
with_text name text fields = with_field name (value.Text text) fields

-- a group, a version and a last part of this name
abbrev pub versioned_value : List ℕ → List ℕ → List ℕ → List ℕ → Value
versioned_value last group version text =
    value.Object (with_text last text (with_text (codes "version") version (with_text (codes "group") group [])))

-- texts
abbrev pub texts_value : List (List ℕ) → Value
texts_value texts = value.List (map value.Text texts)

-- an entry of texts
abbrev pub texts_entry : Keyed (List (List ℕ)) → Keyed Value
texts_entry e = record { key = e.key; value = texts_value e.value }

-- whose request it is
abbrev pub user_value : UserInfo → Value
user_value u = value.Object
    (with_field (codes "extra") (value.Map (map texts_entry u.extra))
    (with_field (codes "groups") (texts_value u.groups)
    (with_text (codes "uid") u.uid
    (with_text (codes "username") u.username []))))

-- what is asked, and on what
abbrev pub asked_values : Admission → List (Keyed Value)
asked_values r =
    with_field (codes "dryRun") (value.Bool r.dry_run)
    (with_text (codes "operation") r.operation
    (with_text (codes "subResource") r.sub_resource
    (with_text (codes "namespace") r.namespace
    (with_text (codes "name") r.name []))))

-- what `request` holds
abbrev pub request_value : Admission → Value
request_value r = value.Object
    (with_field (codes "userInfo") (user_value r.user_info)
    (with_field (codes "resource") (versioned_value (codes "resource") r.resource.group r.resource.version r.resource.resource)
    (with_field (codes "kind") (versioned_value (codes "kind") r.kind.group r.kind.version r.kind.kind) (asked_values r))))
