-- Rows worked by hand, for the definitions themselves.
use Rattle.std.proofs.Common.{◌≡◌, true, false, List, [], ◌∷◌, None, Some, codes, refl}
use Rattle.base_containers.specs.declared.text.Keyed.{Keyed}
use Rattle.serde_json.specs.Data as json
use Rattle.cel_value.specs.declared.cel_type.CelType as type
use Rattle.cel_value.specs.declared.cel_type.CelType.{CelType}
use Rattle.cel_value.specs.declared.cel_type.Field.{Field}
use Rattle.vap_schema.specs.Seen.{fault, seen_text}
use Rattle.vap_schema.specs.declared.fit_fault.FitFaultKind.TheVariants.{OverLimit}
use Rattle.vap_schema_conformance.specs.Conformance.{fault_in, has_member, has_required}

pub a_text_has_no_fault : fault_in (seen_text 1 (codes "object.a") (codes "b")) ≡ None
a_text_has_no_fault = refl

pub a_long_text_has_one : fault_in (seen_text 1 (codes "object.a") (codes "bc")) ≡ Some (fault OverLimit (codes "object.a"))
a_long_text_has_one = refl

-- a text `a`, which is optional, and a text `b`, which is required
abbrev fields : List (Keyed (Field CelType))
fields =
    record { key = codes "a"; value = record { required = false; cel_type = type.Text 8 } }
    ∷ record { key = codes "b"; value = record { required = true; cel_type = type.Text 8 } }
    ∷ []

pub a_member_is_found_by_its_name :
    has_member (codes "b") (json.member (codes "a") json.null (json.member (codes "b") json.null json.no_members)) ≡ true
a_member_is_found_by_its_name = refl

pub an_optional_field_may_be_absent : has_required fields (json.member (codes "b") (json.string (codes "x")) json.no_members) ≡ true
an_optional_field_may_be_absent = refl

pub a_required_field_may_not : has_required fields (json.member (codes "a") (json.string (codes "x")) json.no_members) ≡ false
a_required_field_may_not = refl
