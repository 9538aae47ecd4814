-- Schemas inside each other: one level, and the walk over an object's properties.
use Rattle.std.proofs.Common.{◌≡◌, ℕ, zero, suc, ◌-◌, ◌<◌, Bool, List, [], ◌∷◌, ◌++◌}
use Rattle.std.proofs.Common.{Result, Ok, Err, Bor, ap, sym, ◌∙◌, subst, refl, arith}
use Rattle.base_containers.specs.Failures.{Answers}
use Rattle.base_containers.specs.declared.failed.Failed.{Failed}
use Rattle.base_containers.specs.declared.failed.Failed.TheVariants.{Fault, OutOfMemory}
use Rattle.base_containers.specs.declared.text.Keyed.{Keyed}
use Rattle.base_containers.specs.Keys.{IsInKeyOrder, keys_in}
use Rattle.serde_json.specs.Data.{Data, Members, no_members, member}
use Rattle.cel_value.specs.declared.cel_type.Field.{Field}
use Rattle.cel_value.specs.declared.cel_type.CelType.{CelType}
use Rattle.vap_schema.specs.Seen.{◌>>=◌}
use Rattle.vap_schema.specs.Forms.{nested_form}
use Rattle.vap_schema.specs.Schemas.{Inner, schema_type, nested_type, field_of, fields_of, is_named}
use Rattle.vap_schema.specs.declared.schema_fault.SchemaFault.{SchemaFault}
use Rattle.vap_schema.specs.declared.schema_fault.SchemaFault.TheVariants.{TooDeep}
use Rattle.vap_schema.proofs.Parts.{same_ok, both}
use Rattle.vap_schema.proofs.Rest.{behind, behind-push}
use Rattle.vap_schema.proofs.Ordered.{IsInOrder, names_in}

pub too_deep : (levels : ℕ) (d : Data) → levels ≡ 0 → schema_type levels d ≡ Err TooDeep
unfolding schema_type
too_deep zero d h = refl
too_deep (suc n) d h = absurd (omega arith)

pub one_level : (levels : ℕ) (d : Data) → 0 < levels → schema_type levels d ≡ nested_type (schema_type (levels - 1)) (nested_form d)
unfolding schema_type
one_level zero d h = absurd (omega arith)
one_level (suc n) d h = let same : n ≡ suc n - 1 = omega arith in ap (λ m. nested_type (schema_type m) (nested_form d)) same

abbrev Fields : Type 0
Fields = List (Keyed (Field CelType))

pub fields_stop : (inner : Inner) (required : List ℕ → Bool) (k : List ℕ) (d : Data) (ms : Members) (done : Fields)
    (whole : Result Fields SchemaFault) (e : Failed SchemaFault)
    → whole ≡ behind done (fields_of inner required (member k d ms)) → Answers (field_of inner (required k) k d) (Err e)
    → Answers whole (Err e)
unfolding behind
fields_stop inner required k d ms done whole (Fault f) read a =
    read ∙ ap (λ r. behind done (r >>= (λ x. fields_of inner required ms >>= (λ more. Ok (x ∷ more))))) a
fields_stop inner required k d ms done whole OutOfMemory read a = tt

pub fields_go : (inner : Inner) (required : List ℕ → Bool) (k : List ℕ) (d : Data) (ms : Members) (f : Keyed (Field CelType))
    (done : Fields) (whole : Result Fields SchemaFault)
    → whole ≡ behind done (fields_of inner required (member k d ms)) → field_of inner (required k) k d ≡ Ok f
    → whole ≡ behind (done ++ f ∷ []) (fields_of inner required ms)
fields_go inner required k d ms f done whole read a =
    read ∙ ap (λ r. behind done (r >>= (λ x. fields_of inner required ms >>= (λ more. Ok (x ∷ more))))) a
    ∙ behind-push done f (fields_of inner required ms)

-- a field is required exactly if its name is named
pub field_named : (inner : Inner) (required : Bool) (texts : List (Bor (List ℕ))) (name k : List ℕ) (d : Data)
    → required ≡ is_named name texts → name ≡ k
    → field_of inner required name d ≡ field_of inner (is_named k texts) k d
field_named inner required texts name k d is named =
    ap (λ b. field_of inner b name d) (is ∙ ap (λ n. is_named n texts) named) ∙ ap (λ n. field_of inner (is_named k texts) n d) named

field_key : (r : Result CelType SchemaFault) (k : List ℕ) (required : Bool) (f : Keyed (Field CelType))
    → (r >>= (λ t. Ok (record { key = k; value = record { required = required; cel_type = t } }))) ≡ Ok f → f.key ≡ k
field_key (Ok t) k required f h =
    let own : Keyed (Field CelType) = record { key = k; value = record { required = required; cel_type = t } } in
    ap (λ x. x.key) (sym (same_ok (Ok own) own f refl h))
field_key (Err e) k required f h = absurd (cc)

fields_keys : (inner : Inner) (required : List ℕ → Bool) (ms : Members) (fs : Fields) → fields_of inner required ms ≡ Ok fs
    → keys_in fs ≡ names_in ms
fields_keys inner required no_members fs h = ap keys_in (sym (same_ok (Ok []) [] fs refl h))
fields_keys inner required (member k d ms) fs h =
    let p = both (field_of inner (required k) k d) (fields_of inner required ms) (λ f more. f ∷ more) fs h in
    ap keys_in p.4 ∙ ap (λ l. l ∷ keys_in p.1) (field_key (inner d) k (required k) p.0 p.2)
    ∙ ap (λ ks. k ∷ ks) (fields_keys inner required ms p.1 p.3)

-- the fields are the same if exactly the same names are required
pub same_fields : (inner : Inner) (p q : List ℕ → Bool) (ms : Members) → ((k : List ℕ) → p k ≡ q k)
    → fields_of inner p ms ≡ fields_of inner q ms
same_fields inner p q no_members h = refl
same_fields inner p q (member k d ms) h =
    ap (λ b. field_of inner b k d >>= (λ f. fields_of inner p ms >>= (λ more. Ok (f ∷ more)))) (h k)
    ∙ ap (λ r. field_of inner (q k) k d >>= (λ f. r >>= (λ more. Ok (f ∷ more)))) (same_fields inner p q ms h)

pub fields_in_order : (inner : Inner) (required : List ℕ → Bool) (ms : Members) (fs : Fields) → IsInOrder (names_in ms)
    → fields_of inner required ms ≡ Ok fs → IsInKeyOrder fs
fields_in_order inner required ms fs s h = subst IsInOrder (sym (fields_keys inner required ms fs h)) s
