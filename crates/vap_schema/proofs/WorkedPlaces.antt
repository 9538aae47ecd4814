-- Rows worked by hand, for the definitions themselves.
use Rattle.std.proofs.Common.{◌≡◌, [], ◌∷◌, true, Err, codes, refl}
use Rattle.serde_json.specs.Data as json
use Rattle.vap_schema.specs.declared.schema_fault.SchemaFault.TheVariants.{NoType, BadKeyword}
use Rattle.vap_schema.specs.Places.{here, document_place, schema_place}

pub nothing_is_stated : document_place (json.object json.no_members) ≡ Err (here NoType)
nothing_is_stated = refl

-- items that are absent are reported at the place where they are to be
pub a_list_needs_items : document_place (json.object (json.member (codes "type") (json.string (codes "array")) json.no_members))
    ≡ Err (record { fault = BadKeyword; path = codes "items" ∷ [] })
a_list_needs_items = refl

-- properties `a` and `b`: the first has no type and the second is no object
pub the_first_property_is_told :
    document_place
    (json.object
    (json.member (codes "properties") (json.object
    (json.member (codes "a") (json.object json.no_members) (json.member (codes "b") (json.boolean true) json.no_members)))
    (json.member (codes "type") (json.string (codes "object")) json.no_members)))
    ≡ Err (record { fault = NoType; path = codes "properties" ∷ codes "a" ∷ [] })
unfolding schema_place
the_first_property_is_told = refl

-- what is under any name refers to another schema
pub a_reference_is_told_at_its_keyword :
    document_place
    (json.object
    (json.member (codes "additionalProperties") (json.object (json.member (codes "$ref") (json.string (codes "b")) json.no_members))
    (json.member (codes "type") (json.string (codes "object")) json.no_members)))
    ≡ Err (record { fault = BadKeyword; path = codes "additionalProperties" ∷ codes "$ref" ∷ [] })
unfolding schema_place
a_reference_is_told_at_its_keyword = refl
