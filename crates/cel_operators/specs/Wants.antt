-- The kinds of operands: what each is taken as, and what its type says of it.
use Rattle.std.specs.Prelude.{◌≡◌, ◌≤◌, ℕ, Bool, true, ◌&&◌, nat_le, List, [], ◌∷◌, length, map, Option, Some, None, false}
use Rattle.std.specs.Prelude.{Result, Ok, Err, ℤ, if◌then◌else◌}
use Rattle.std.specs.List.{list_all}
use Rattle.std.specs.Option.{option_map, option_and_then}
use Rattle.base_containers.specs.declared.text.Keyed.{Keyed}
use Rattle.cel_value.specs.declared.cel_type.CelType as type
use Rattle.cel_value.specs.declared.cel_type.Field.{Field}
use Rattle.cel_value.specs.Value.{code_points}
use Rattle.cel_operators.specs.Joined.{texts_of}
use Rattle.cel_value.specs.declared.value.Value.{Value, out-Value}
use Rattle.cel_value.specs.declared.value.Value as value
use Rattle.cel_value.specs.declared.value.Value.TheOpen.{Value-F}
use Rattle.cel_value.specs.declared.cel_type.CelType.{CelType, out-CelType}
use Rattle.cel_value.specs.declared.cel_type.CelType.TheOpen.{CelType-F}
use Rattle.cel_value.specs.declared.cel_error.CelError.{CelError}
use Rattle.cel_value.specs.declared.cel_error.CelError.TheVariants.{NullOperand}
use Rattle.cel_value.specs.CelType.{fits}
use Rattle.cel_value.specs.Fits.{is_null, admitted_by, object_fits}
use Rattle.cel_operators.specs.Orders.{Order, order_at, order_of, Only, orders_at, orders_of}
use Rattle.cel_operators.specs.Outcomes.{Outcome, Side}
pub use Rattle.cel_operators.specs.declared.operands.Want.{Want}
pub use Rattle.cel_operators.specs.declared.operands.Want.TheVariants.{Any, Truth, Whole, Natural, Moment, Lapse, Ordered}
pub use Rattle.cel_operators.specs.declared.operands.Want.TheVariants.{Characters, Items}
pub use Rattle.cel_operators.specs.declared.operands.Want.TheVariants.{Entries, Indexed, Sought, Wholes, Naturals, Texts, Members, Ranged}
pub use Rattle.cel_operators.specs.declared.limit.Span.{Span}

-- what an operand of the kind is
abbrev pub Of : Want → Type 0
Of Any = Value
Of Truth = Bool
Of Whole = ℤ
Of Natural = ℕ
Of Moment = ℤ
Of Lapse = ℤ
Of Ordered = Value
Of Characters = List ℕ
Of Items = List Value
Of Entries = List (Keyed Value)
Of Indexed = List Value
Of Sought = List (Keyed Value)
Of Wholes = List ℤ
Of Naturals = List ℕ
Of Texts = List (List ℕ)
Of Members = List (Keyed Value)
Of Ranged = List Value

-- the integer that a level is
abbrev pub whole_at : Value-F Value → Option ℤ
whole_at (Value-F.Int n) = Some n
whole_at _ = None

-- the unsigned integer that a level is
abbrev pub natural_at : Value-F Value → Option ℕ
natural_at (Value-F.Uint n) = Some n
natural_at _ = None

-- what each value is, if each is something
abbrev pub each_of : {A : Type 0} → (Value → Option A) → List Value → Option (List A)
each_of f [] = Some []
each_of f (v ∷ vs) = option_and_then (λ a. option_map (λ rest. a ∷ rest) (each_of f vs)) (f v)

-- the integers that values are, if each is one
abbrev pub wholes_of : List Value → Option (List ℤ)
wholes_of = each_of (λ v. whole_at (out-Value v))

-- the unsigned integers that values are, if each is one
abbrev pub naturals_of : List Value → Option (List ℕ)
naturals_of = each_of (λ v. natural_at (out-Value v))

-- keys, as texts
abbrev pub keys_of : List (Keyed Value) → List Value
keys_of es = map (λ e. value.Text e.key) es

-- a value, and its level, as one of the kind; None if it is of another
abbrev pub kind_at : (w : Want) → Value → Value-F Value → Option (Result (Of w) CelError)
kind_at Any v _ = Some (Ok v)
kind_at Truth v (Value-F.Bool b) = Some (Ok b)
kind_at Whole v (Value-F.Int n) = Some (Ok n)
kind_at Natural v (Value-F.Uint n) = Some (Ok n)
kind_at Moment v (Value-F.Timestamp n) = Some (Ok n)
kind_at Lapse v (Value-F.Duration n) = Some (Ok n)
kind_at Ordered v p = option_map (λ order. Ok v) (order_at p)
kind_at Characters v (Value-F.Text bytes) = Some (Ok bytes)
kind_at Items v (Value-F.List vs) = Some (Ok vs)
kind_at Entries v (Value-F.Map es) = Some (Ok es)
kind_at Indexed v (Value-F.List vs) = Some (Ok vs)
kind_at Sought v (Value-F.Map es) = Some (Ok es)
kind_at Wholes v (Value-F.List vs) = option_map Ok (wholes_of vs)
kind_at Naturals v (Value-F.List vs) = option_map Ok (naturals_of vs)
kind_at Texts v (Value-F.List vs) = option_map Ok (texts_of vs)
kind_at Members v (Value-F.Object es) = Some (Ok es)
kind_at Members v (Value-F.Map es) = Some (Ok es)
kind_at Ranged v (Value-F.List vs) = Some (Ok vs)
kind_at Ranged v (Value-F.Map es) = Some (Ok (keys_of es))
kind_at _ v _ = None

-- the same, where null is an error unless any value will do
abbrev pub taken_at : (w : Want) → Value → Value-F Value → Option (Result (Of w) CelError)
taken_at Any v p = Some (Ok v)
taken_at w v p = if is_null p then Some (Err NullOperand) else kind_at w v p

-- a value as one of the kind
abbrev pub taken_value : (w : Want) → Value → Option (Result (Of w) CelError)
taken_value w v = taken_at w v (out-Value v)

-- an operand as one of the kind, or its error
abbrev pub taken : (w : Want) → Option Outcome → Option (Result (Of w) CelError)
taken w None = None
taken w (Some (Err e)) = Some (Err e)
taken w (Some (Ok v)) = taken_value w v

-- an operand as a side of `&&` or `||`, or as a condition
abbrev pub side_of : Option Outcome → Option Side
side_of x = taken Truth x

-- what a list's type says: the most items, whether it is plain, and the type of the items
pub record Room : Type 0 where
  pub max : ℕ
  pub plain : Bool
  pub item : CelType

-- what a map's type says: the most entries, the most code points of a key, and the type of what is under keys
pub record Store : Type 0 where
  pub max : ℕ
  pub key_max : ℕ
  pub item : CelType

-- what the type of a list of texts says: the most texts, and the most code points of each
pub record Shelf : Type 0 where
  pub max : ℕ
  pub text_max : ℕ

-- what a type says of what has names: the fields of objects, or what maps hold
pub data Contents : Type 0 where
  Fields : (fields : List (Keyed (Field CelType))) → Contents
  Stored : (store : Store) → Contents

-- what a type says of the values of a kind
abbrev pub Limit : Want → Type 0
Limit Any = CelType
Limit Truth = Unit {0}
Limit Whole = Unit {0}
Limit Natural = Unit {0}
Limit Moment = Unit {0}
Limit Lapse = Unit {0}
Limit Ordered = CelType
Limit Characters = ℕ
Limit Items = Room
Limit Entries = Store
Limit Indexed = Room
Limit Sought = Store
Limit Wholes = ℕ
Limit Naturals = ℕ
Limit Texts = Shelf
Limit Members = Contents
Limit Ranged = Span

-- how many items there may be, if those of a type, whose level is given, are integers
abbrev pub wholes_limit : ℕ → CelType-F CelType → Option ℕ
wholes_limit max CelType-F.Never = Some max
wholes_limit max CelType-F.Int = Some max
wholes_limit max _ = None

-- likewise, if they are unsigned integers
abbrev pub naturals_limit : ℕ → CelType-F CelType → Option ℕ
naturals_limit max CelType-F.Never = Some max
naturals_limit max CelType-F.Uint = Some max
naturals_limit max _ = None

-- how many items there may be and how long each, if those of a type are texts
abbrev pub texts_limit : ℕ → CelType-F CelType → Option Shelf
texts_limit max CelType-F.Never = Some (record { max = max; text_max = 0 })
texts_limit max (CelType-F.Text n) = Some (record { max = max; text_max = n })
texts_limit max _ = None

-- what a type, whose level is given, says if it is one of the kind; Never is one of each, but has no item and no entry
abbrev pub limit_at : (w : Want) → CelType → CelType-F CelType → Option (Limit w)
limit_at Any t _ = Some t
limit_at Truth t CelType-F.Never = Some tt
limit_at Truth t CelType-F.Bool = Some tt
limit_at Whole t CelType-F.Never = Some tt
limit_at Whole t CelType-F.Int = Some tt
limit_at Natural t CelType-F.Never = Some tt
limit_at Natural t CelType-F.Uint = Some tt
limit_at Moment t CelType-F.Never = Some tt
limit_at Moment t CelType-F.Timestamp = Some tt
limit_at Lapse t CelType-F.Never = Some tt
limit_at Lapse t CelType-F.Duration = Some tt
limit_at Ordered t o = option_map (λ orders. t) (orders_at o)
limit_at Characters t CelType-F.Never = Some 0
limit_at Characters t (CelType-F.Text max) = Some max
limit_at Items t CelType-F.Never = Some (record { max = 0; plain = true; item = type.Never })
limit_at Items t (CelType-F.List max plain item) = Some (record { max = max; plain = plain; item = item })
limit_at Entries t CelType-F.Never = Some (record { max = 0; key_max = 0; item = type.Never })
limit_at Entries t (CelType-F.Map max key_max item) = Some (record { max = max; key_max = key_max; item = item })
limit_at Indexed t (CelType-F.List max plain item) = Some (record { max = max; plain = plain; item = item })
limit_at Sought t (CelType-F.Map max key_max item) = Some (record { max = max; key_max = key_max; item = item })
limit_at Wholes t CelType-F.Never = Some 0
limit_at Wholes t (CelType-F.List max plain item) = wholes_limit max (out-CelType item)
limit_at Naturals t CelType-F.Never = Some 0
limit_at Naturals t (CelType-F.List max plain item) = naturals_limit max (out-CelType item)
limit_at Texts t CelType-F.Never = Some (record { max = 0; text_max = 0 })
limit_at Texts t (CelType-F.List max plain item) = texts_limit max (out-CelType item)
limit_at Members t (CelType-F.Object fields) = Some (Fields fields)
limit_at Members t (CelType-F.Map max key_max item) = Some (Stored (record { max = max; key_max = key_max; item = item }))
limit_at Ranged t (CelType-F.List max plain item) = Some (record { max = max; item = item })
limit_at Ranged t (CelType-F.Map max key_max item) = Some (record { max = max; item = type.Text key_max })
limit_at _ t _ = None

-- the type beside null, if a type, whose level is given, has null too
abbrev pub without_null_at : CelType → CelType-F CelType → CelType
without_null_at t (CelType-F.Nullable s) = s
without_null_at t _ = t

-- T for Nullable T, and any other type as it is
abbrev pub without_null : CelType → CelType
without_null t = without_null_at t (out-CelType t)

-- what a type says if it is one of the kind, or Nullable of one
abbrev pub limit_of : (w : Want) → CelType → Option (Limit w)
limit_of Any t = Some t
limit_of w t = limit_at w (without_null t) (out-CelType (without_null t))

-- an entry that a map's type admits
abbrev pub in_store : Store → Keyed Value → Bool
in_store store e = nat_le (code_points e.key) store.key_max && fits e.value store.item

-- entries that what has names admits
abbrev pub holds : Contents → List (Keyed Value) → Bool
holds (Fields fields) es = object_fits (admitted_by fields) es
holds (Stored store) es = list_all (in_store store) es

-- a value of the kind within what its type says
abbrev pub Within : (w : Want) → Limit w → Of w → Type 0
Within Any t v = fits v t ≡ true
Within Truth l b = Unit {0}
Within Whole l n = Unit {0}
Within Natural l n = Unit {0}
Within Moment l n = Unit {0}
Within Lapse l n = Unit {0}
Within Ordered t v = (fits v t ≡ true) × (order : Order) × (order_of v ≡ Some order) × (orders_of t ≡ Some (Only order))
Within Characters max bytes = code_points bytes ≤ max
Within Items room vs = (length vs ≤ room.max) × (list_all (λ v. fits v room.item) vs ≡ true)
Within Entries store es = (length es ≤ store.max) × (list_all (in_store store) es ≡ true)
Within Indexed room vs = (length vs ≤ room.max) × (list_all (λ v. fits v room.item) vs ≡ true)
Within Sought store es = (length es ≤ store.max) × (list_all (in_store store) es ≡ true)
Within Wholes max ns = length ns ≤ max
Within Naturals max ns = length ns ≤ max
Within Texts shelf ts = (length ts ≤ shelf.max) × (list_all (λ t. nat_le (code_points t) shelf.text_max) ts ≡ true)
Within Members contents es = holds contents es ≡ true
Within Ranged span vs = (length vs ≤ span.max) × (list_all (λ v. fits v span.item) vs ≡ true)

-- whether there is something
abbrev pub is_there : {A : Type 0} → Option A → Bool
is_there None = false
is_there (Some x) = true

-- whether a type may be used at a side of `&&` or as a condition
abbrev pub is_truth : CelType → Bool
is_truth t = is_there (limit_of Truth t)
