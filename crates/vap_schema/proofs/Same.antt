-- The fault that is found is the one for which the schema is refused.
use Rattle.std.proofs.Common.{◌≡◌, ℕ, zero, suc, List, ◌∷◌, Bool, if◌then◌else◌, Option, Some, None, Result, Ok, Err, ap, sym, ◌∙◌, refl}
use Rattle.serde_json.specs.Data as json
use Rattle.serde_json.specs.Data.{Data, Members}
use Rattle.cel_value.specs.declared.cel_type.CelType.{CelType}
use Rattle.cel_value.specs.declared.cel_type.CelType as type
use Rattle.vap_schema.specs.Seen.{◌>>=◌}
use Rattle.vap_schema.specs.FixedTypes.{with_fixed_fields}
use Rattle.vap_schema.specs.Forms as form
use Rattle.vap_schema.specs.Forms.{Form, root_form, nested_form}
use Rattle.vap_schema.specs.SchemaNames.{keyword_name}
use Rattle.vap_schema.specs.Schemas.{Inner, field_of, fields_of, is_among, entry_type, form_type, nested_type, schema_type}
use Rattle.vap_schema.specs.Schemas.{root_type, object_type_of}
use Rattle.vap_schema.specs.declared.own_fault.Keyword.TheVariants.{Items, Properties, AdditionalProperties}
use Rattle.vap_schema.specs.declared.own_fault.OwnFault.{OwnFault}
use Rattle.vap_schema.specs.declared.schema_fault.SchemaFault.{SchemaFault}
use Rattle.vap_schema.specs.Answers.{IsPlace, IsFaultOf}
use Rattle.vap_schema.specs.declared.place.FaultPlace.{FaultPlace}
use Rattle.vap_schema.specs.Places.{Found, Within, under, members_place, entry_place, form_place, nested_place, root_place}
use Rattle.vap_schema.specs.Places.{schema_place, document_place}

-- the fault alone
abbrev pub fault_in : Found → Result (Unit {0}) SchemaFault
fault_in (Ok u) = Ok tt
fault_in (Err place) = Err place.fault

-- whether there is a type, or why there is none
abbrev pub refusal_in : {A : Type 0} → Result A SchemaFault → Result (Unit {0}) SchemaFault
refusal_in (Ok a) = Ok tt
refusal_in (Err fault) = Err fault

-- what is found is the fault that schemas inside have
abbrev pub Agree : Within → Inner → Type 0
Agree within inner = (d : Data) → fault_in (within d) ≡ refusal_in (inner d)

-- ---- step by step

then_inside : {A B : Type 0} (name : List ℕ) (found : Found) (r : Result A SchemaFault) (f : Unit {0} → Found)
    (g : A → Result B SchemaFault) → fault_in found ≡ refusal_in r → ((a : A) → fault_in (f tt) ≡ refusal_in (g a))
    → fault_in (under name found >>= f) ≡ refusal_in (r >>= g)
then_inside name (Ok u) (Ok a) f g here same = same a
then_inside name (Ok u) (Err fault) f g here same = absurd (cc)
then_inside name (Err place) (Ok a) f g here same = absurd (cc)
then_inside name (Err place) (Err fault) f g here same = here

under_same : {A : Type 0} (name : List ℕ) (found : Found) (r : Result A SchemaFault) → fault_in found ≡ refusal_in r
    → fault_in (under name found) ≡ refusal_in r
under_same name (Ok u) r same = same
under_same name (Err place) r same = same

made_same : {A B : Type 0} (found : Found) (r : Result A SchemaFault) (f : A → B) → fault_in found ≡ refusal_in r
    → fault_in found ≡ refusal_in (r >>= (λ a. Ok (f a)))
made_same found (Ok a) f same = same
made_same found (Err fault) f same = same

-- ---- one schema

members_same : (within : Within) (inner : Inner) (required : List ℕ → Bool) (ms : Members) → Agree within inner
    → fault_in (members_place within ms) ≡ refusal_in (fields_of inner required ms)
members_same within inner required json.no_members agree = refl
members_same within inner required (json.member k d ms) agree =
    then_inside k (within d) (field_of inner (required k) k d) (λ _. members_place within ms)
    (λ f. fields_of inner required ms >>= (λ more. Ok (f ∷ more)))
    (made_same (within d) (inner d) (λ t. record { key = k; value = record { required = required k; cel_type = t } }) (agree d))
    (λ f. made_same (members_place within ms) (fields_of inner required ms) (λ more. f ∷ more)
    (members_same within inner required ms agree))

entry_same : (within : Within) (inner : Inner) (d : Data) → Agree within inner
    → fault_in (entry_place within d) ≡ refusal_in (entry_type inner d)
entry_same within inner (json.boolean b) agree = refl
entry_same within inner d agree = agree d

form_same : (within : Within) (inner : Inner) (f : Form) → Agree within inner
    → fault_in (form_place within f) ≡ refusal_in (form_type inner f)
form_same within inner form.anything agree = refl
form_same within inner form.truth agree = refl
form_same within inner form.whole agree = refl
form_same within inner form.timestamp agree = refl
form_same within inner form.duration agree = refl
form_same within inner (form.text max) agree = refl
form_same within inner (form.list max plain items) agree =
    under_same (keyword_name Items) (within items) (inner items >>= (λ item. Ok (type.List max plain item)))
    (made_same (within items) (inner items) (λ item. type.List max plain item) (agree items))
form_same within inner (form.map max entry) agree =
    under_same (keyword_name AdditionalProperties) (entry_place within entry)
    (entry_type inner entry >>= (λ item. Ok (type.Map max 1048576 item)))
    (made_same (entry_place within entry) (entry_type inner entry) (λ item. type.Map max 1048576 item)
    (entry_same within inner entry agree))
form_same within inner (form.fields required properties) agree =
    let among = λ (k : List ℕ). is_among k required in
    under_same (keyword_name Properties) (members_place within properties)
    (fields_of inner among properties >>= (λ fields. Ok (type.Object fields)))
    (made_same (members_place within properties) (fields_of inner among properties) (λ fields. type.Object fields)
    (members_same within inner among properties agree))
form_same within inner form.bare agree = refl

nested_same : (within : Within) (inner : Inner) (r : Result (Bool × Form) OwnFault) → Agree within inner
    → fault_in (nested_place within r) ≡ refusal_in (nested_type inner r)
nested_same within inner (Ok p) agree =
    made_same (form_place within p.1) (form_type inner p.1) (λ t. if p.0 then type.Nullable t else t) (form_same within inner p.1 agree)
nested_same within inner (Err f) agree = refl

root_same : (within : Within) (inner : Inner) (r : Result Form OwnFault) → Agree within inner
    → fault_in (root_place within r) ≡ refusal_in (root_type inner r)
root_same within inner (Ok f) agree =
    made_same (form_place within f) (form_type inner f) with_fixed_fields (form_same within inner f agree)
root_same within inner (Err f) agree = refl

-- ---- schemas inside each other

levels_same : (levels : ℕ) → Agree (schema_place levels) (schema_type levels)
unfolding schema_place schema_type
levels_same zero d = refl
levels_same (suc levels) d = nested_same (schema_place levels) (schema_type levels) (nested_form d) (levels_same levels)

document_same : (d : Data) → fault_in (document_place d) ≡ refusal_in (object_type_of d)
document_same d = root_same (schema_place 99) (schema_type 99) (root_form d) (levels_same 99)

-- ---- the answer

fault_of : (want : Result CelType SchemaFault) (whole : Found) (found : Option FaultPlace) → fault_in whole ≡ refusal_in want
    → IsPlace whole found → IsFaultOf want found
fault_of (Ok t) whole None same is = refl
fault_of (Ok t) whole (Some place) same is = let both = sym same ∙ ap fault_in is in absurd (cc)
fault_of (Err fault) whole None same is = let both = sym same ∙ ap fault_in is in absurd (cc)
fault_of (Err fault) whole (Some place) same is = let both = sym same ∙ ap fault_in is in cc

-- a place of the document is the place of the fault for which it is refused
pub document_fault : (d : Data) (found : Option FaultPlace) → IsPlace (document_place d) found → IsFaultOf (object_type_of d) found
document_fault d found is = fault_of (object_type_of d) (document_place d) found (document_same d) is
