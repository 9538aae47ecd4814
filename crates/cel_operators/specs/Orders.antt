-- The orders of `<`: which values are in one, and which of two in the same order is the lesser.
use Rattle.std.specs.Prelude.{◌≡◌, Bool, int_lt, nat_lt, chars, Option, Some, None}
use Rattle.std.specs.Ordering.{nat_cmp, is_lt}
use Rattle.std.specs.Cmp.Lexicographic.{slice_cmp}
use Rattle.cel_value.specs.declared.value.Value.{Value, out-Value}
use Rattle.cel_value.specs.declared.value.Value.TheOpen.{Value-F}
use Rattle.cel_value.specs.declared.cel_type.CelType.{CelType, out-CelType}
use Rattle.cel_value.specs.declared.cel_type.CelType.TheOpen.{CelType-F}
use Rattle.cel_value.specs.Value.{bool_lt}

-- an order: that of truth values, of integers, of unsigned ones, of texts, of timestamps or of durations
pub data Order : Type 0 where
  OfBools : Order
  OfInts : Order
  OfUints : Order
  OfTexts : Order
  OfTimestamps : Order
  OfDurations : Order

-- the order that a value is in, by its level: truth values, numbers, texts, timestamps and durations are in one, no others
abbrev pub order_at : Value-F Value → Option Order
order_at (Value-F.Bool b) = Some OfBools
order_at (Value-F.Int n) = Some OfInts
order_at (Value-F.Uint n) = Some OfUints
order_at (Value-F.Text bytes) = Some OfTexts
order_at (Value-F.Timestamp n) = Some OfTimestamps
order_at (Value-F.Duration n) = Some OfDurations
order_at _ = None

-- the order that a value is in, if it is in one
abbrev pub order_of : Value → Option Order
order_of v = order_at (out-Value v)

-- both values are in one order
abbrev pub AreInOneOrder : Value → Value → Type 0
AreInOneOrder v w = (order : Order) × (order_of v ≡ Some order) × (order_of w ≡ Some order)

-- the orders that all values of a type are in: only one, or, if the type has no value, every order
pub data Orders : Type 0 where
  Every : Orders
  Only : Order → Orders

-- the orders of a type, whose level is given; Never has no value
abbrev pub orders_at : CelType-F CelType → Option Orders
orders_at CelType-F.Never = Some Every
orders_at CelType-F.Bool = Some (Only OfBools)
orders_at CelType-F.Int = Some (Only OfInts)
orders_at CelType-F.Uint = Some (Only OfUints)
orders_at (CelType-F.Text max) = Some (Only OfTexts)
orders_at CelType-F.Timestamp = Some (Only OfTimestamps)
orders_at CelType-F.Duration = Some (Only OfDurations)
orders_at _ = None

-- the orders of a type, if its values are in any
abbrev pub orders_of : CelType → Option Orders
orders_of t = orders_at (out-CelType t)

-- whether a value is less than another of the same order, by their levels: false is less than true, numbers are less by
-- their amount, texts by their code points, timestamps if they are earlier, and durations if they are shorter, with their sign
abbrev pub less_at : Value-F Value → Value-F Value → Option Bool
less_at (Value-F.Bool a) (Value-F.Bool b) = Some (bool_lt a b)
less_at (Value-F.Int m) (Value-F.Int n) = Some (int_lt m n)
less_at (Value-F.Uint m) (Value-F.Uint n) = Some (nat_lt m n)
less_at (Value-F.Text a) (Value-F.Text b) = Some (is_lt (slice_cmp nat_cmp (chars a) (chars b)))
less_at (Value-F.Timestamp m) (Value-F.Timestamp n) = Some (int_lt m n)
less_at (Value-F.Duration m) (Value-F.Duration n) = Some (int_lt m n)
less_at _ _ = None

-- whether a value is less than another, if both are in one order
abbrev pub less : Value → Value → Option Bool
less v w = less_at (out-Value v) (out-Value w)
