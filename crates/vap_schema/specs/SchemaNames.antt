-- The names that are printed, and those of keywords.
use Rattle.std.specs.Prelude.{ℕ, List, codes}
use Rattle.vap_schema.specs.declared.own_fault.Keyword.{Keyword}
use Rattle.vap_schema.specs.declared.own_fault.Keyword.TheVariants as keyword
use Rattle.vap_schema.specs.declared.schema_fault.SchemaFault.{SchemaFault}
use Rattle.vap_schema.specs.declared.schema_fault.SchemaFault.TheVariants as schema

-- the name of a fault of a schema
abbrev pub schema_fault_name : SchemaFault → List ℕ
schema_fault_name schema.NoType = codes "NoType"
schema_fault_name schema.BadKeyword = codes "BadKeyword"
schema_fault_name schema.TooDeep = codes "TooDeep"

-- the name under which a schema has a keyword
abbrev pub keyword_name : Keyword → List ℕ
keyword_name keyword.Reference = codes "$ref"
keyword_name keyword.Nullable = codes "nullable"
keyword_name keyword.Type = codes "type"
keyword_name keyword.Format = codes "format"
keyword_name keyword.MaxLength = codes "maxLength"
keyword_name keyword.MaxItems = codes "maxItems"
keyword_name keyword.ListType = codes "x-kubernetes-list-type"
keyword_name keyword.Items = codes "items"
keyword_name keyword.Properties = codes "properties"
keyword_name keyword.Required = codes "required"
keyword_name keyword.AdditionalProperties = codes "additionalProperties"
keyword_name keyword.MaxProperties = codes "maxProperties"
keyword_name keyword.PreserveUnknownFields = codes "x-kubernetes-preserve-unknown-fields"
keyword_name keyword.IntOrString = codes "x-kubernetes-int-or-string"
