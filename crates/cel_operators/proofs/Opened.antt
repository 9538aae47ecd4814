-- Values and types by their levels.
use Rattle.std.proofs.Common.{◌≡◌, ◌≤◌, ℕ, Bool, true, Some, List, length, ap, sym, ◌∙◌, refl, rules, true≢false}
use Rattle.std.proofs.lemmas.Bool.{and_from, le-leb}
use Rattle.std.proofs.lemmas.Option.{none-some, same_Some}
use Rattle.std.specs.Prelude.{ℤ, Ok, Err, nat_le}
use Rattle.std.specs.List.{list_all}
use Rattle.base_containers.specs.declared.text.Keyed.{Keyed}
use Rattle.cel_value.specs.declared.value.Value as value
use Rattle.cel_value.specs.declared.value.Value.{Value, out-Value, roll-Value, the_lemmas as value_lemmas}
use Rattle.cel_value.specs.declared.value.Value.TheOpen.{Value-F}
use Rattle.cel_value.specs.declared.value.Value.TheVariants.{rolls-Bool}
use Rattle.cel_value.specs.declared.cel_type.Field.{Field}
use Rattle.cel_value.specs.declared.cel_type.CelType as type
use Rattle.cel_value.specs.declared.cel_type.CelType.{CelType, out-CelType, the_lemmas as type_lemmas}
use Rattle.cel_value.specs.declared.cel_type.CelType.TheOpen.{CelType-F}
use Rattle.cel_value.specs.declared.cel_type.CelType.TheFolds.{map-CelType, fold_out-CelType}
use Rattle.cel_value.specs.Fits.{fits, fits_at, fits_step}
use Rattle.cel_value.specs.Value.{code_points}
use Rattle.cel_operators.specs.Outcomes.{Outcome, Side}
use Rattle.cel_operators.specs.Wants.{side_of, Truth, taken_at, Store, in_store}

-- one level of a type, with what each type inside admits
abbrev pub opened : CelType-F CelType → CelType-F (Value → Bool)
opened o = map-CelType _ _ (λ t v. fits v t) o

-- what fits, level by level
pub fits-out : (v : Value) (t : CelType) → fits v t ≡ fits_at (opened (out-CelType t)) (out-Value v)
fits-out v t = ap (λ f. f v) (fold_out-CelType (Value → Bool) fits_step t)

pub fits-levels : (v : Value) (t : CelType) (p : Value-F Value) (o : CelType-F CelType) → out-Value v ≡ p → out-CelType t ≡ o
    → fits v t ≡ fits_at (opened o) p
fits-levels v t p o e f = fits-out v t ∙ ap (λ q. fits_at (opened (out-CelType t)) q) e ∙ ap (λ q. fits_at (opened q) p) f

pub out-Bool : (b : Bool) → out-Value (value.Bool b) ≡ Value-F.Bool b
out-Bool b = search (rules, value_lemmas)

pub out-Int : (n : ℤ) → out-Value (value.Int n) ≡ Value-F.Int n
out-Int n = search (rules, value_lemmas)

pub out-Null : out-Value value.Null ≡ Value-F.Null
out-Null = search (rules, value_lemmas)

pub out-Uint : (n : ℕ) → out-Value (value.Uint n) ≡ Value-F.Uint n
out-Uint n = search (rules, value_lemmas)

pub out-Timestamp : (n : ℤ) → out-Value (value.Timestamp n) ≡ Value-F.Timestamp n
out-Timestamp n = search (rules, value_lemmas)

pub out-Duration : (n : ℤ) → out-Value (value.Duration n) ≡ Value-F.Duration n
out-Duration n = search (rules, value_lemmas)

pub out-Text : (bytes : List ℕ) → out-Value (value.Text bytes) ≡ Value-F.Text bytes
out-Text bytes = search (rules, value_lemmas)

pub out-List : (vs : List Value) → out-Value (value.List vs) ≡ Value-F.List vs
out-List vs = search (rules, value_lemmas)

pub out-Map : (es : List (Keyed Value)) → out-Value (value.Map es) ≡ Value-F.Map es
out-Map es = search (rules, value_lemmas)

pub out-Object : (es : List (Keyed Value)) → out-Value (value.Object es) ≡ Value-F.Object es
out-Object es = search (rules, value_lemmas)

pub out-type-Bool : out-CelType type.Bool ≡ CelType-F.Bool
out-type-Bool = search (rules, type_lemmas)

pub out-type-Int : out-CelType type.Int ≡ CelType-F.Int
out-type-Int = search (rules, type_lemmas)

pub out-type-Null : out-CelType type.Null ≡ CelType-F.Null
out-type-Null = search (rules, type_lemmas)

pub out-type-Uint : out-CelType type.Uint ≡ CelType-F.Uint
out-type-Uint = search (rules, type_lemmas)

pub out-type-Timestamp : out-CelType type.Timestamp ≡ CelType-F.Timestamp
out-type-Timestamp = search (rules, type_lemmas)

pub out-type-Duration : out-CelType type.Duration ≡ CelType-F.Duration
out-type-Duration = search (rules, type_lemmas)

pub out-type-Never : out-CelType type.Never ≡ CelType-F.Never
out-type-Never = search (rules, type_lemmas)

pub out-type-Text : (max : ℕ) → out-CelType (type.Text max) ≡ CelType-F.Text max
out-type-Text max = search (rules, type_lemmas)

pub out-type-List : (max : ℕ) (plain : Bool) (item : CelType) → out-CelType (type.List max plain item) ≡ CelType-F.List max plain item
out-type-List max plain item = search (rules, type_lemmas)

pub out-type-Map : (max key_max : ℕ) (item : CelType) → out-CelType (type.Map max key_max item) ≡ CelType-F.Map max key_max item
out-type-Map max key_max item = search (rules, type_lemmas)

pub out-type-Object : (fields : List (Keyed (Field CelType))) → out-CelType (type.Object fields) ≡ CelType-F.Object fields
out-type-Object fields = search (rules, type_lemmas)

pub out-type-Nullable : (item : CelType) → out-CelType (type.Nullable item) ≡ CelType-F.Nullable item
out-type-Nullable item = search (rules, type_lemmas)

pub bool_fits : (b : Bool) → fits (value.Bool b) type.Bool ≡ true
bool_fits b = fits-levels (value.Bool b) type.Bool (Value-F.Bool b) CelType-F.Bool (out-Bool b) out-type-Bool

pub int_fits : (n : ℤ) → fits (value.Int n) type.Int ≡ true
int_fits n = fits-levels (value.Int n) type.Int (Value-F.Int n) CelType-F.Int (out-Int n) out-type-Int

pub uint_fits : (n : ℕ) → fits (value.Uint n) type.Uint ≡ true
uint_fits n = fits-levels (value.Uint n) type.Uint (Value-F.Uint n) CelType-F.Uint (out-Uint n) out-type-Uint

pub timestamp_fits : (n : ℤ) → fits (value.Timestamp n) type.Timestamp ≡ true
timestamp_fits n =
    fits-levels (value.Timestamp n) type.Timestamp (Value-F.Timestamp n) CelType-F.Timestamp (out-Timestamp n) out-type-Timestamp

pub duration_fits : (n : ℤ) → fits (value.Duration n) type.Duration ≡ true
duration_fits n =
    fits-levels (value.Duration n) type.Duration (Value-F.Duration n) CelType-F.Duration (out-Duration n) out-type-Duration

pub null_fits : fits value.Null type.Null ≡ true
null_fits = fits-levels value.Null type.Null Value-F.Null CelType-F.Null out-Null out-type-Null

pub text_fits : (bytes : List ℕ) (max : ℕ) → code_points bytes ≤ max → fits (value.Text bytes) (type.Text max) ≡ true
text_fits bytes max h =
    fits-levels (value.Text bytes) (type.Text max) (Value-F.Text bytes) (CelType-F.Text max) (out-Text bytes) (out-type-Text max)
    ∙ le-leb (code_points bytes) max h

pub list_fits : (vs : List Value) (max : ℕ) (plain : Bool) (item : CelType) → length vs ≤ max → list_all (λ v. fits v item) vs ≡ true
    → fits (value.List vs) (type.List max plain item) ≡ true
list_fits vs max plain item h k =
    fits-levels (value.List vs) (type.List max plain item) (Value-F.List vs) (CelType-F.List max plain item) (out-List vs)
    (out-type-List max plain item)
    ∙ and_from (nat_le (length vs) max) (list_all (λ v. fits v item) vs) (le-leb (length vs) max h) k

pub map_fits : (es : List (Keyed Value)) (store : Store) → length es ≤ store.max → list_all (in_store store) es ≡ true
    → fits (value.Map es) (type.Map store.max store.key_max store.item) ≡ true
map_fits es store h k =
    fits-levels (value.Map es) (type.Map store.max store.key_max store.item) (Value-F.Map es)
    (CelType-F.Map store.max store.key_max store.item) (out-Map es) (out-type-Map store.max store.key_max store.item)
    ∙ and_from (nat_le (length es) store.max) (list_all (in_store store) es) (le-leb (length es) store.max h) k

-- no value has the type Never
pub never_fits : (v : Value) → fits v type.Never ≡ true → ⊥
never_fits v h = true≢false (sym h ∙ fits-levels v type.Never (out-Value v) CelType-F.Never refl out-type-Never)

-- a value by its level
pub is-Bool : (v : Value) (b : Bool) → out-Value v ≡ Value-F.Bool b → v ≡ value.Bool b
is-Bool v b e =
    let rolled : roll-Value (out-Value v) ≡ v = search (rules, value_lemmas) in
    sym rolled ∙ ap roll-Value e ∙ rolls-Bool b

-- a side as an outcome
abbrev pub outcome_of : Side → Outcome
outcome_of (Ok b) = Ok (value.Bool b)
outcome_of (Err e) = Err e

pub side-Bool : (b : Bool) → side_of (Some (Ok (value.Bool b))) ≡ Some (Ok b)
side-Bool b = ap (taken_at Truth (value.Bool b)) (out-Bool b)

pub side_of_outcome : (s : Side) → side_of (Some (outcome_of s)) ≡ Some s
side_of_outcome (Ok b) = side-Bool b
side_of_outcome (Err e) = refl

level_is : (v : Value) (p : Value-F Value) (b : Bool) → out-Value v ≡ p → taken_at Truth v p ≡ Some (Ok b) → Ok v ≡ outcome_of (Ok b)
level_is v (Value-F.Bool c) b e h = ap Ok (is-Bool v c e) ∙ ap outcome_of (same_Some _ _ h)
level_is v Value-F.Null b e h = cc
level_is v _ b e h = absurd (none-some _ h)

-- an outcome that is a truth value at a side
pub side_is : (x : Outcome) (b : Bool) → side_of (Some x) ≡ Some (Ok b) → x ≡ outcome_of (Ok b)
side_is (Err e) b h = ap outcome_of (same_Some _ _ h)
side_is (Ok v) b h = level_is v (out-Value v) b refl h
