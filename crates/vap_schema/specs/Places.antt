-- Where the first fault of a structural schema is: a fault that a schema has itself is at the keyword that is not understood,
-- and one of a schema inside it is after the names that lead there.
use Rattle.std.specs.Prelude.{ℕ, zero, suc, Bool, List, [], ◌∷◌, Result, Ok, Err}
use Rattle.serde_json.specs.Data as json
use Rattle.serde_json.specs.Data.{Data, Members}
use Rattle.vap_schema.specs.Seen.{◌>>=◌}
use Rattle.vap_schema.specs.Forms as form
use Rattle.vap_schema.specs.Forms.{Form, root_form, nested_form}
use Rattle.vap_schema.specs.Keywords.{fault_of}
use Rattle.vap_schema.specs.SchemaNames.{keyword_name}
use Rattle.vap_schema.specs.declared.own_fault.Keyword.TheVariants.{Items, Properties, AdditionalProperties}
use Rattle.vap_schema.specs.declared.own_fault.OwnFault.{OwnFault}
use Rattle.vap_schema.specs.declared.own_fault.OwnFault.TheVariants as own
use Rattle.vap_schema.specs.declared.schema_fault.SchemaFault.{SchemaFault}
use Rattle.vap_schema.specs.declared.schema_fault.SchemaFault.TheVariants.{TooDeep}

-- a fault, and the names of keywords and properties that lead to it, the outermost first
pub record Place : Type 0 where
  pub fault : SchemaFault
  pub path : List (List ℕ)

-- no fault, or the place of the first
abbrev pub Found : Type 0
Found = Result (Unit {0}) Place

-- what is found in schemas inside
abbrev pub Within : Type 0
Within = Data → Found

-- the place of a fault of a schema itself
abbrev pub here : SchemaFault → Place
here fault = record { fault = fault; path = [] }

-- what is found one name further out
abbrev pub under : List ℕ → Found → Found
under name (Ok u) = Ok tt
under name (Err place) = Err (record { fault = place.fault; path = name ∷ place.path })

-- the names that lead to a fault in the schema that has it itself
abbrev pub own_path : OwnFault → List (List ℕ)
own_path own.NoObject = []
own_path own.NoType = []
own_path (own.Keyword k) = keyword_name k ∷ []

-- the place of a fault in the schema that has it itself
abbrev pub own_place : OwnFault → Place
own_place f = record { fault = fault_of f; path = own_path f }

-- the first property that has a fault
abbrev pub members_place : Within → Members → Found
members_place within json.no_members = Ok tt
members_place within (json.member k d ms) = do
  _ ← under k (within d)
  members_place within ms

-- what is under any name: anything, or a schema
abbrev pub entry_place : Within → Data → Found
entry_place within (json.boolean b) = Ok tt
entry_place within d = within d

-- what is found in the schemas inside a form
abbrev pub form_place : Within → Form → Found
form_place within (form.list max plain items) = under (keyword_name Items) (within items)
form_place within (form.map max entry) = under (keyword_name AdditionalProperties) (entry_place within entry)
form_place within (form.fields required properties) = under (keyword_name Properties) (members_place within properties)
form_place within _ = Ok tt

-- what is found by what a schema that is no root says, or the fault that it has itself
abbrev pub nested_place : Within → Result (Bool × Form) OwnFault → Found
nested_place within (Ok p) = form_place within p.1
nested_place within (Err f) = Err (own_place f)

-- the same for a root
abbrev pub root_place : Within → Result Form OwnFault → Found
root_place within (Ok f) = form_place within f
root_place within (Err f) = Err (own_place f)

-- a schema that is no root, if at most so many schemas may be inside each other
unfoldable pub schema_place : ℕ → Data → Found
schema_place zero d = Err (here TooDeep)
schema_place (suc levels) d = nested_place (schema_place levels) (nested_form d)

-- the root schema of a kind: at most 100 schemas are inside each other
abbrev pub document_place : Data → Found
document_place d = root_place (schema_place 99) (root_form d)
