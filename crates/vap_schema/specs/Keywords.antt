-- What each keyword of a schema says, or that it is not understood (OpenAPI v3, "Schema Object"; Kubernetes, "Specifying a
-- structural schema").
use Rattle.std.specs.Prelude.{◌≡◌, ℕ, ◌^◌, ◌&&◌, ◌||◌, Bool, true, false, not, nat_lt, if◌then◌else◌, List}
use Rattle.std.specs.Prelude.{Option, Some, None, is_some, option_map, option_and_then, Result, Ok, Err, String, codes}
use Rattle.std.specs.Borrow.{Bor}
use Rattle.std.specs.BTreeMap.{BTreeMap}
use Rattle.std.specs.declared.alloc.Global.{Global}
use Rattle.std.specs.Str.{bytes_eq}
use Rattle.serde_json.specs.Data as json
use Rattle.serde_json.specs.Data.{Data, Items, Members}
use Rattle.serde_json.specs.Find.{get, as_bool, as_number, as_str, as_u64}
use Rattle.serde_json.specs.View.{view, items_view, members_view}
use Rattle.serde_json.specs.declared.value.Value.{Value as Json}
use Rattle.vap_schema.specs.SchemaNames.{keyword_name}
use Rattle.vap_schema.specs.declared.own_fault.Keyword.{Keyword}
use Rattle.vap_schema.specs.declared.own_fault.Keyword.TheVariants as keyword
use Rattle.vap_schema.specs.declared.own_fault.OwnFault.{OwnFault}
use Rattle.vap_schema.specs.declared.own_fault.OwnFault.TheVariants as own
use Rattle.vap_schema.specs.declared.keywords.TimeFormat.{TimeFormat}
use Rattle.vap_schema.specs.declared.keywords.TimeFormat.TheVariants as format
use Rattle.vap_schema.specs.declared.keywords.TypeWord.{TypeWord}
use Rattle.vap_schema.specs.declared.keywords.TypeWord.TheVariants as word
use Rattle.vap_schema.specs.declared.schema_fault.SchemaFault.{SchemaFault}
use Rattle.vap_schema.specs.declared.schema_fault.SchemaFault.TheVariants.{NoType, BadKeyword}

-- the fault for which a schema that has this one itself is refused
abbrev pub fault_of : OwnFault → SchemaFault
fault_of own.NoObject = BadKeyword
fault_of own.NoType = NoType
fault_of (own.Keyword k) = BadKeyword

-- what a schema has under a keyword
abbrev pub value_of : Keyword → Data → Option Data
value_of k d = get (keyword_name k) d

-- what a keyword says, or that it is not understood
abbrev pub understood : {A : Type 0} → Keyword → Option A → Result A OwnFault
understood k (Some a) = Ok a
understood k None = Err (own.Keyword k)

-- what is under a keyword that is true or false: it is false if it is absent
abbrev pub flag_in : Keyword → Option Data → Result Bool OwnFault
flag_in k None = Ok false
flag_in k (Some d) = understood k (as_bool d)

-- a keyword that is true or false
abbrev pub flag : Keyword → Data → Result Bool OwnFault
flag k d = flag_in k (value_of k d)

-- a whole number from 0 to 4,294,967,295
abbrev pub in_range : Keyword → Option ℕ → Result ℕ OwnFault
in_range k (Some n) = if nat_lt n (2 ^ 32) then Ok n else Err (own.Keyword k)
in_range k None = Err (own.Keyword k)

-- what is under a limit, and what the limit is if it is absent
abbrev pub limit_in : Keyword → ℕ → Option Data → Result ℕ OwnFault
limit_in k unstated None = Ok unstated
limit_in k unstated (Some d) = in_range k (option_and_then as_u64 (as_number d))

-- a keyword that is a limit, with what it is if it is absent
abbrev pub limit : Keyword → ℕ → Data → Result ℕ OwnFault
limit k unstated d = limit_in k unstated (value_of k d)

-- what is under a keyword that may not be there
abbrev pub absent_in : Keyword → Option Data → Result (Unit {0}) OwnFault
absent_in k None = Ok tt
absent_in k (Some d) = Err (own.Keyword k)

-- nothing, or that a keyword is there which may not be there
abbrev pub absent : Keyword → Data → Result (Unit {0}) OwnFault
absent k d = absent_in k (value_of k d)

-- the words of `type`
abbrev pub type_word : List ℕ → Option TypeWord
type_word s =
    if bytes_eq s (codes "boolean") then Some word.Boolean
    else (if bytes_eq s (codes "integer") then Some word.Integer
    else (if bytes_eq s (codes "number") then Some word.Number
    else (if bytes_eq s (codes "string") then Some word.String
    else (if bytes_eq s (codes "array") then Some word.Array
    else (if bytes_eq s (codes "object") then Some word.Object
    else None)))))

-- a word that must be one of these
abbrev pub some_word : Option TypeWord → Result (Option TypeWord) OwnFault
some_word (Some w) = Ok (Some w)
some_word None = Err (own.Keyword keyword.Type)

-- what is under `type`: a word, or nothing
abbrev pub type_word_in : Option Data → Result (Option TypeWord) OwnFault
type_word_in None = Ok None
type_word_in (Some d) = some_word (option_and_then type_word (as_str d))

-- the word of `type`, if there is one
abbrev pub stated_word : Data → Result (Option TypeWord) OwnFault
stated_word d = type_word_in (value_of keyword.Type d)

-- the formats of texts that spell a time
abbrev pub time_format : List ℕ → Option TimeFormat
time_format s =
    if bytes_eq s (codes "date-time") || bytes_eq s (codes "date") then Some format.Timestamp
    else (if bytes_eq s (codes "duration") then Some format.Duration
    else None)

-- a text that may be the format of a time
abbrev pub format_word : Option (List ℕ) → Result (Option TimeFormat) OwnFault
format_word (Some s) = Ok (time_format s)
format_word None = Err (own.Keyword keyword.Format)

-- what is under `format`: a text, or nothing
abbrev pub format_in : Option Data → Result (Option TimeFormat) OwnFault
format_in None = Ok None
format_in (Some d) = format_word (as_str d)

-- the time that a text spells by its `format`, if it spells one
abbrev pub stated_format : Data → Result (Option TimeFormat) OwnFault
stated_format d = format_in (value_of keyword.Format d)

-- whether this is the word of a plain list
abbrev pub plain_word : Option (List ℕ) → Result Bool OwnFault
plain_word (Some s) = Ok (not (bytes_eq s (codes "set") || bytes_eq s (codes "map")))
plain_word None = Err (own.Keyword keyword.ListType)

-- what is under the kind of a list: it is plain if it is absent
abbrev pub plain_in : Option Data → Result Bool OwnFault
plain_in None = Ok true
plain_in (Some d) = plain_word (as_str d)

-- whether a list is plain: neither a set nor an associative list
abbrev pub is_plain : Data → Result Bool OwnFault
is_plain d = plain_in (value_of keyword.ListType d)

-- whether all items are texts
abbrev pub all_texts : Items → Bool
all_texts json.no_items = true
all_texts (json.item d ds) = is_some (as_str d) && all_texts ds

-- what is under the names: none if they are absent
abbrev pub names_in : Option Data → Result Items OwnFault
names_in None = Ok json.no_items
names_in (Some (json.array ds)) = if all_texts ds then Ok ds else Err (own.Keyword keyword.Required)
names_in (Some _) = Err (own.Keyword keyword.Required)

-- the names of required fields
abbrev pub required_names : Data → Result Items OwnFault
required_names d = names_in (value_of keyword.Required d)

-- what is under `properties`: members, or nothing
abbrev pub properties_in : Option Data → Result (Option Members) OwnFault
properties_in None = Ok None
properties_in (Some (json.object ms)) = Ok (Some ms)
properties_in (Some _) = Err (own.Keyword keyword.Properties)

-- the properties, if they are named
abbrev pub properties_of : Data → Result (Option Members) OwnFault
properties_of d = properties_in (value_of keyword.Properties d)

-- what is under `additionalProperties`: a schema or true, or nothing; false counts as nothing
abbrev pub entry_in : Option Data → Result (Option Data) OwnFault
entry_in None = Ok None
entry_in (Some (json.boolean b)) = Ok (if b then Some (json.boolean b) else None)
entry_in (Some (json.object ms)) = Ok (Some (json.object ms))
entry_in (Some _) = Err (own.Keyword keyword.AdditionalProperties)

-- what may be under any name, if anything may
abbrev pub entry_of : Data → Result (Option Data) OwnFault
entry_of d = entry_in (value_of keyword.AdditionalProperties d)

-- ---- what the code answers

-- the answer has these names, or this fault
abbrev pub NamesAre : Result Items OwnFault → Result (Bor (List Json)) OwnFault → Type 0
NamesAre want (Ok names) = want ≡ Ok (items_view names.now)
NamesAre want (Err f) = want ≡ Err f

-- members that are lent, if there are any
abbrev pub members_seen : Option (Bor (BTreeMap (String Global) Json)) → Option Members
members_seen found = option_map (λ m. members_view m.now.entries) found

-- the answer has these properties or none, or this fault
abbrev pub PropertiesAre : Result (Option Members) OwnFault → Result (Option (Bor (BTreeMap (String Global) Json))) OwnFault → Type 0
PropertiesAre want (Ok found) = want ≡ Ok (members_seen found)
PropertiesAre want (Err f) = want ≡ Err f

-- a schema that is lent, if there is one
abbrev pub entry_seen : Option (Bor Json) → Option Data
entry_seen found = option_map (λ v. view v.now) found

-- the answer has this entry or none, or this fault
abbrev pub EntryIs : Result (Option Data) OwnFault → Result (Option (Bor Json)) OwnFault → Type 0
EntryIs want (Ok found) = want ≡ Ok (entry_seen found)
EntryIs want (Err f) = want ≡ Err f
