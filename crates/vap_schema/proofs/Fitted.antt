-- What is read of an object's members fits the object's type.
use Rattle.std.proofs.Common.{◌≡◌, ℕ, suc, ◌<◌, Bool, true, false, not, ◌&&◌, List, [], ◌∷◌, length, get_or, Option}
use Rattle.std.proofs.Common.{None, Some, is_some, cond, Result, Ok, Err, refl, ap, sym, ◌∙◌, arith, rules, inl, inr, true≢false}
use Rattle.std.specs.Prelude.{All, Any, IsTrue, IfOk, IfSome, nat_le, option_to_list}
use Rattle.std.specs.List.{list_all}
use Rattle.std.specs.Str.{bytes_eq}
use Rattle.std.proofs.lemmas.Bool.{cases_Bool}
use Rattle.std.proofs.Common.{◌++◌, append-nil}
use Rattle.std.proofs.lemmas.List.Elements.{All-nil, All-cons, All-push, All-same}
use Rattle.std.proofs.lemmas.Slice.Eq.{bytes_eq-Decides}
use Rattle.base_containers.specs.declared.failed.Failed.{Failed}
use Rattle.base_containers.specs.declared.text.Keyed.{Keyed}
use Rattle.base_containers.specs.Keys.{IsInKeyOrder, value_under}
use Rattle.base_containers.specs.Failures.{made}
use Rattle.cel_value.specs.declared.value.Value as value
use Rattle.cel_value.specs.declared.value.Value.{Value, Object, out-Value, the_lemmas}
use Rattle.cel_value.specs.declared.value.Value.TheOpen.{Value-F}
use Rattle.cel_value.specs.declared.cel_type.CelType as type
use Rattle.cel_value.specs.declared.cel_type.CelType.TheOpen.{CelType-F}
use Rattle.cel_value.specs.declared.cel_type.CelType.TheFolds.{map-CelType}
use Rattle.cel_value.specs.declared.cel_type.CelType.TheVariants.{rolls-List, rolls-Map}
use Rattle.cel_value.proofs.Soundness.{fits_roll}
use Rattle.cel_value.specs.declared.cel_type.Field.{Field}
use Rattle.cel_value.specs.declared.cel_type.CelType.{CelType, Object as ObjectType}
use Rattle.cel_value.specs.Fits.{fits, fits_at, HasItsField, HasItsEntry}
use Rattle.cel_value.proofs.Objects.{fits-Object, walk_from_FitsFields}
use Rattle.vap_schema.specs.Entries.{entry_fits}
use Rattle.vap_schema.specs.Seen.{all_there, readers_of}
use Rattle.vap_schema.specs.declared.fit_fault.FitFault.{FitFault}

-- what holds of all, and of one more if there is one
pub all_with : {X : Type 0} (P : X → Type 0) (xs : List X) (o : Option X) → All P xs → IfSome o P → All P (xs ++ option_to_list o)
all_with P xs None h k = All-same P (xs ++ []) xs (append-nil xs) h
all_with P xs (Some x) h k = All-push P xs x h k

found : {V : Type 0} (k : List ℕ) (es : List (Keyed V)) → is_some (value_under k es) ≡ true → Any (λ e. e.key ≡ k) es
found k [] h = absurd (true≢false (sym h))
found k (e ∷ es) h = elim (cases_Bool (bytes_eq e.key k)) [
  | inl same ↦ (0, e, omega arith, refl, (bytes_eq-Decides e.key k).0 same)
  | inr other ↦
      let more = found k es (rw other at h) in
      (suc more.0, more.1, omega (arith, more.2), more.3, more.4)
]

there : (required known : Bool) (fault : FitFault) (rest : Result (Unit {0}) FitFault) (u : Unit {0})
    → cond (required && not known) (Err fault) rest ≡ Ok u → (IsTrue required → known ≡ true) × (rest ≡ Ok u)
there true true fault rest u h = (λ _. refl, h)
there true false fault rest u h = absurd (cc)
there false known fault rest u h = (λ r. absurd (true≢false (sym r)), h)

all_have : (fields : List (Keyed (Field CelType))) (path : List ℕ) (es : List (Keyed Value)) (u : Unit {0})
    → all_there (readers_of fields) path es ≡ Ok u → All (HasItsEntry es) fields
all_have [] path es u h = All-nil (HasItsEntry es)
all_have (f ∷ fields) path es u h =
    let p = there f.value.required (is_some (value_under f.key es)) _ (all_there (readers_of fields) path es) u h in
    All-cons (HasItsEntry es) f fields (λ r. found f.key es (p.0 r)) (all_have fields path es u p.1)

pub object_fits : (fields : List (Keyed (Field CelType))) (path : List ℕ) (es : List (Keyed Value)) (u : Unit {0}) → IsInKeyOrder es
    → IsInKeyOrder fields → All (HasItsField fields) es
    → all_there (readers_of fields) path es ≡ Ok u → IsTrue (fits (Object es) (ObjectType fields))
object_fits fields path es u se sf all h = fits-Object es fields ∙ walk_from_FitsFields fields es se sf (all, all_have fields path es u h)

-- an entry under a field's name, which fits the field, has its field
pub has_field : (fields : List (Keyed (Field CelType))) (i : ℕ) (f : Keyed (Field CelType)) (name : List ℕ)
    (answer : Result (Option (Keyed Value)) (Failed FitFault)) → i < length fields → f ≡ get_or fields i f → f.key ≡ name
    → IfOk answer (λ o. IfSome o (λ e. (e.key ≡ name) × IsTrue (fits e.value f.value.cel_type)))
    → IfOk answer (λ o. IfSome o (HasItsField fields))
has_field fields i f name (Ok (Some e)) h is named fit = (i, f, h, sym is, (named ∙ sym fit.0, fit.1))
has_field fields i f name (Ok None) h is named fit = tt
has_field fields i f name (Err e) h is named fit = tt

-- ---- values that are made of an answer

pub made_fits : {A E : Type 0} (make : A → Value) (part : Result A E) (answer : Result Value E) (P : A → Type 0) (t : CelType)
    → answer ≡ made make part → IfOk part P → ((a : A) → P a → IsTrue (fits (make a) t)) → IfOk answer (λ v. IsTrue (fits v t))
made_fits make (Ok a) answer P t is h each = rw is (each a h)
made_fits make (Err e) answer P t is h each = rw is tt

pub fits-List : (max : ℕ) (plain : Bool) (item : CelType) (vs : List Value)
    → fits (value.List vs) (type.List max plain item) ≡ (nat_le (length vs) max && list_all (λ v. fits v item) vs)
fits-List max plain item vs =
    let opened : out-Value (value.List vs) ≡ Value-F.List vs = search (rules, the_lemmas) in
    ap (λ t. fits (value.List vs) t) (sym (rolls-List max plain item)) ∙ fits_roll (CelType-F.List max plain item) (value.List vs)
    ∙ ap (fits_at (map-CelType _ _ (λ s w. fits w s) (CelType-F.List max plain item))) opened

pub fits-Map : (max key_max : ℕ) (item : CelType) (es : List (Keyed Value))
    → fits (value.Map es) (type.Map max key_max item) ≡ (nat_le (length es) max && list_all (entry_fits key_max item) es)
fits-Map max key_max item es =
    let opened : out-Value (value.Map es) ≡ Value-F.Map es = search (rules, the_lemmas) in
    ap (λ t. fits (value.Map es) t) (sym (rolls-Map max key_max item)) ∙ fits_roll (CelType-F.Map max key_max item) (value.Map es)
    ∙ ap (fits_at (map-CelType _ _ (λ s w. fits w s) (CelType-F.Map max key_max item))) opened
