-- Rows worked by hand, for the definitions themselves.
use Rattle.std.proofs.Common.{◌≡◌, true, Err, codes, refl}
use Rattle.serde_json.specs.Data as json
use Rattle.vap_schema.specs.Schemas.{schema_type, object_type_of}
use Rattle.vap_schema.specs.declared.schema_fault.SchemaFault.TheVariants.{NoType, BadKeyword, TooDeep}

pub nothing_is_stated : object_type_of (json.object json.no_members) ≡ Err NoType
nothing_is_stated = refl

pub a_list_needs_items : object_type_of (json.object (json.member (codes "type") (json.string (codes "array")) json.no_members))
    ≡ Err BadKeyword
a_list_needs_items = refl

-- `required` is no list, though the entries of a map are not required
pub a_keyword_is_read_where_it_does_not_count :
    object_type_of
    (json.object
    (json.member (codes "additionalProperties") (json.boolean true)
    (json.member (codes "required") (json.string (codes "a"))
    (json.member (codes "type") (json.string (codes "object")) json.no_members))))
    ≡ Err BadKeyword
a_keyword_is_read_where_it_does_not_count = refl

-- a property that refers to another schema
pub a_reference_may_not_stand :
    object_type_of
    (json.object
    (json.member (codes "properties") (json.object
    (json.member (codes "a") (json.object (json.member (codes "$ref") (json.string (codes "b")) json.no_members)) json.no_members))
    (json.member (codes "type") (json.string (codes "object")) json.no_members)))
    ≡ Err BadKeyword
unfolding schema_type
a_reference_may_not_stand = refl

pub none_more_may_stand_inside : (d : json.Data) → schema_type 0 d ≡ Err TooDeep
unfolding schema_type
none_more_may_stand_inside d = refl
