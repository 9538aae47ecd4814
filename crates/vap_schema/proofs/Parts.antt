-- Readings part by part: what a fault of a part is to the whole, and what parts a whole has.
use Rattle.std.proofs.Common.{◌≡◌, ℕ, Bool, true, false, List, Option, None, Some}
use Rattle.std.proofs.Common.{Result, Ok, Err, if◌then◌else◌, refl, ap, sym, ◌∙◌, subst}
use Rattle.std.specs.Prelude.{IfSome}
use Rattle.base_containers.specs.Failures.{Answers, IfFault}
use Rattle.base_containers.specs.declared.failed.Failed.{Failed}
use Rattle.base_containers.specs.declared.failed.Failed.TheVariants.{Fault, OutOfMemory}
use Rattle.base_containers.specs.declared.text.Keyed.{Keyed}
use Rattle.serde_json.specs.Data.{Data}
use Rattle.cel_value.specs.declared.value.Value.{Value}
use Rattle.cel_value.specs.Value.{code_points}
use Rattle.cel_value.specs.declared.cel_type.Field.{Field}
use Rattle.vap_schema.specs.Paths.{at_field}
use Rattle.vap_schema.specs.Seen.{◌>>=◌, Reader, Reading, is_absent, within}
use Rattle.vap_schema.specs.Seen.{seen_under, seen_entry, seen_field, seen_member}
use Rattle.vap_schema.specs.declared.fit_fault.FitFault.{FitFault}

pub same_ok : {A E : Type 0} (r : Result A E) (a b : A) → r ≡ Ok a → r ≡ Ok b → a ≡ b
same_ok r a b g h = cc

-- the first part's fault is the whole's
pub stops : {A B : Type 0} (part : Result A FitFault) (next : A → Result B FitFault) (whole : Result B FitFault) (e : Failed FitFault)
    → whole ≡ (part >>= next) → Answers part (Err e) → Answers whole (Err e)
stops part next whole (Fault f) h a = h ∙ ap (λ r. r >>= next) a
stops part next whole OutOfMemory h a = tt

-- the error that reports a fault answers what is that fault
pub told : {A : Type 0} (want : Result A FitFault) (f : FitFault) (e : Failed FitFault) → want ≡ Err f → IfFault (λ g. f ≡ g) e
    → Answers want (Err e)
told want f (Fault g) h t = h ∙ ap (λ (x : FitFault). Err x) t
told want f OutOfMemory h t = tt

-- if a limit is kept, the answer is that of what is read after it
pub goes_on : {A : Type 0} (limit : Result (Unit {0}) FitFault) (u : Unit {0}) (part : Result A FitFault)
    (answer : Result A (Failed FitFault)) → limit ≡ Ok u → Answers part answer → Answers (limit >>= (λ _. part)) answer
goes_on limit u part answer h a = rw h a

-- what was read has both parts
pub both : {A B C E : Type 0} (r : Result A E) (s : Result B E) (join : A → B → C) (c : C)
    → (r >>= (λ a. s >>= (λ b. Ok (join a b)))) ≡ Ok c
    → (a : A) × (b : B) × (r ≡ Ok a) × (s ≡ Ok b) × (c ≡ join a b)
both (Ok a) (Ok b) join c h = (a, b, refl, refl, sym (same_ok (Ok (join a b)) (join a b) c refl h))
both (Ok a) (Err e) join c h = absurd (cc)
both (Err e) s join c h = absurd (cc)

under_key : (r : Result Value FitFault) (k : List ℕ) (e : Keyed Value) → (r >>= (λ v. Ok (record { key = k; value = v }))) ≡ Ok e
    → e.key ≡ k
under_key (Ok v) k e h = ap (λ x. x.key) (sym (same_ok (Ok (record { key = k; value = v })) (record { key = k; value = v }) e refl h))
under_key (Err f) k e h = absurd (cc)

entry_key_at : (limit : Result (Unit {0}) FitFault) (r : Result Value FitFault) (k : List ℕ) (e : Keyed Value)
    → (limit >>= (λ _. r >>= (λ v. Ok (record { key = k; value = v })))) ≡ Ok e → e.key ≡ k
entry_key_at (Ok u) r k e h = under_key r k e h
entry_key_at (Err f) r k e h = absurd (cc)

-- an entry of a map has the member's name
pub entry_key : (here : Reading) (key_max : ℕ) (path k : List ℕ) (d : Data) (e : Keyed Value)
    → seen_entry here key_max path k d ≡ Ok e → e.key ≡ k
entry_key here key_max path k d e h = entry_key_at _ (here (at_field path k) d) k e h

some_key : (r : Result Value FitFault) (k : List ℕ) (e : Option (Keyed Value))
    → (r >>= (λ v. Ok (record { key = k; value = v })) >>= (λ x. Ok (Some x))) ≡ Ok e → IfSome e (λ x. x.key ≡ k)
some_key (Ok v) k None h = tt
some_key (Ok v) k (Some x) h = let same : record { key = k; value = v } ≡ x = cc in ap (λ y. y.key) (sym same)
some_key (Err f) k e h = absurd (cc)

unless_absent : (absent : Bool) (r : Result Value FitFault) (k : List ℕ) (e : Option (Keyed Value))
    → (if absent then Ok None else (r >>= (λ v. Ok (record { key = k; value = v })) >>= (λ x. Ok (Some x)))) ≡ Ok e
    → IfSome e (λ x. x.key ≡ k)
unless_absent true r k None h = tt
unless_absent true r k (Some x) h = absurd (cc)
unless_absent false r k e h = some_key r k e h

-- an entry of an object has the member's name
pub member_key : (f : Option (Field Reader)) (path k : List ℕ) (d : Data) (e : Option (Keyed Value)) → seen_member f path k d ≡ Ok e
    → IfSome e (λ x. x.key ≡ k)
member_key None path k d None h = tt
member_key None path k d (Some x) h = absurd (cc)
member_key (Some f) path k d e h = unless_absent (is_absent f.required f.cel_type d) (f.cel_type.1 (at_field path k) d) k e h

-- an entry of a map is read after its key's limit
pub entry_read : (here : Reading) (key_max : ℕ) (path k : List ℕ) (d : Data) (place : List ℕ) (u : Unit {0})
    (answer : Result (Keyed Value) (Failed FitFault)) → place ≡ at_field path k → within key_max (code_points k) place ≡ Ok u
    → Answers (seen_under here place k d) answer → Answers (seen_entry here key_max path k d) answer
entry_read here key_max path k d place u answer same limit a =
    goes_on (within key_max (code_points k) (at_field path k)) u (seen_under here (at_field path k) k d) answer
    (subst (λ p. within key_max (code_points k) p ≡ Ok u) same limit)
    (subst (λ p. Answers (seen_under here p k d) answer) same a)

-- the fault of what is under a field's name is the field's
pub field_stops : (required : Bool) (reader : Reader) (path k : List ℕ) (d : Data) (e : Failed FitFault)
    → is_absent required reader d ≡ false → Answers (seen_under reader.1 (at_field path k) k d) (Err e)
    → Answers (seen_field required reader path k d) (Err e)
field_stops required reader path k d e there a =
    stops (seen_under reader.1 (at_field path k) k d) (λ x. Ok (Some x)) (seen_field required reader path k d) e
    (ap (λ b. if b then Ok None else (seen_under reader.1 (at_field path k) k d >>= (λ x. Ok (Some x)))) there) a
