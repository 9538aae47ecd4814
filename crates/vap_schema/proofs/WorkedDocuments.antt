-- Rows worked by hand, for the definitions themselves.
use Rattle.std.proofs.Common.{◌≡◌, true, List, [], ◌∷◌, ◌++◌, decimal, pos, Ok, Err, codes, refl}
use Rattle.base_containers.specs.declared.text.Keyed.{Keyed}
use Rattle.serde_json.specs.Data as json
use Rattle.cel_value.specs.declared.cel_type.Field.{Field}
use Rattle.cel_value.specs.declared.cel_type.CelType.TheOpen.{CelType-F}
use Rattle.vap_schema.specs.Paths.{at_field, at_item}
use Rattle.vap_schema.specs.Seen.{Reader, reader_step, fault, within, seen_int, seen_object}
use Rattle.vap_schema.specs.declared.fit_fault.FitFaultKind.TheVariants.{WrongKind, Missing, NullHere, OverLimit, IntRange}

-- ---- paths

pub a_field_of_a_field : at_field (at_field (codes "object") (codes "spec")) (codes "items") ≡ codes "object.spec.items"
a_field_of_a_field = refl

pub an_item : at_item (codes "object.spec.items") 2 ≡ codes "object.spec.items[" ++ (decimal 2 ++ codes "]")
an_item = refl

-- ---- documents

pub the_greatest_integer : seen_int (codes "object") (json.unsigned 9223372036854775807) ≡ Ok (pos 9223372036854775807)
the_greatest_integer = refl

pub one_more_is_out_of_range : seen_int (codes "object") (json.unsigned 9223372036854775808) ≡ Err (fault IntRange (codes "object"))
one_more_is_out_of_range = refl

pub three_are_past_two : within 2 3 (codes "object.spec.items") ≡ Err (fault OverLimit (codes "object.spec.items"))
three_are_past_two = refl

-- an integer `a` and a text `b`, both required
abbrev pair : List (Keyed (Field Reader))
pair =
    record { key = codes "a"; value = record { required = true; cel_type = reader_step CelType-F.Int } }
    ∷ record { key = codes "b"; value = record { required = true; cel_type = reader_step (CelType-F.Text 1048576) } }
    ∷ []

pub a_number_is_no_text : seen_object pair (codes "object") (json.member (codes "b") (json.number (json.unsigned 1)) json.no_members)
    ≡ Err (fault WrongKind (codes "object.b"))
a_number_is_no_text = refl

pub an_absence_is_told_behind_the_fields : seen_object pair (codes "object")
    (json.member (codes "b") (json.string (codes "x")) json.no_members) ≡ Err (fault Missing (codes "object.a"))
an_absence_is_told_behind_the_fields = refl

pub null_is_no_integer : seen_object pair (codes "object")
    (json.member (codes "a") json.null (json.member (codes "b") (json.string (codes "x")) json.no_members))
    ≡ Err (fault NullHere (codes "object.a"))
null_is_no_integer = refl
