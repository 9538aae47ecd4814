-- The operators: for each the kinds of its operands, its answer and errors, its charge, its type and its greatest
-- charge. The value, the cost, the machine and the verifier take an operator from here alone.
use Rattle.std.specs.Prelude.{ℕ, zero, suc, ◌+◌, ◌-◌, ◌*◌, ◌/◌, ◌%◌, ◌^◌, min, max, ℤ, pos, negsuc, ◌+ℤ◌, ◌-ℤ◌}
use Rattle.std.specs.Prelude.{◌*ℤ◌, neg_ℤ, int_div, int_rem, int_lt, Bool, true, false, not, ◌&&◌, nat_lt, nat_le, List, []}
use Rattle.std.specs.Prelude.{◌∷◌, ◌++◌, map, length, sum, sum_by, if◌then◌else◌, slice_get, is_some, Option, Some, None, Result, Ok, Err}
use Rattle.std.specs.Prelude.{decimal}
use Rattle.std.specs.Fmt.{signed_decimal}
use Rattle.std.specs.Int.{int_div_euclid}
use Rattle.std.specs.Char.{to_ascii_lowercase, to_ascii_uppercase}
use Rattle.std.specs.List.{list_any, join_by}
use Rattle.base_containers.specs.Keys.{value_under}
use Rattle.cel_value.specs.declared.value.Value.{Value}
use Rattle.cel_value.specs.declared.value.Value as value
use Rattle.cel_value.specs.declared.cel_type.CelType.{CelType}
use Rattle.cel_value.specs.declared.cel_type.CelType as type
use Rattle.cel_value.specs.declared.cel_error.CelError.{CelError}
use Rattle.cel_value.specs.declared.cel_error.CelError.TheVariants.{Overflow, DivideByZero, OutOfRange, NoSuchKey, BadConversion, EmptyList}
use Rattle.cel_value.specs.Value.{weight_of, items_weight_of, text_weight_of, tenths_of, code_points, same}
use Rattle.cel_value.specs.CelType.{greatest_of, join}
use Rattle.cel_value.specs.Days.{day_of, day_time, place_in_year, weekday_of, hour_of, minute_of, second_of, nanosecond_of}
use Rattle.cel_value.specs.Instants.{instant_of, duration_in_range}
use Rattle.cel_value.specs.Printed.{timestamp_text, duration_text}
use Rattle.cel_value.specs.Reading.{timestamp_of, duration_of}
use Rattle.cel_operators.specs.Numbers.{int_of, uint_of}
use Rattle.cel_operators.specs.Parts.{starts_with, ends_with, contains}
use Rattle.cel_operators.specs.declared.operator.Operator.{Operator}
use Rattle.cel_operators.specs.declared.operator.Operator.TheVariants as operator
pub use Rattle.cel_operators.specs.declared.operator.Made.{Made}
pub use Rattle.cel_operators.specs.Orders.{less_at, less}
pub use Rattle.cel_operators.specs.Codes.{operators, operator_of, code_of}
use Rattle.cel_operators.specs.declared.operands.Operands.TheVariants as operands
use Rattle.cel_operators.specs.declared.operands.Operands.{Operands}
use Rattle.cel_operators.specs.declared.type_rule.TypeRule.{TypeRule}
use Rattle.cel_operators.specs.declared.type_rule.TypeRule.TheVariants.{NoOverload, TooLarge}
use Rattle.cel_operators.specs.Compared.{compared}
use Rattle.cel_operators.specs.Outcomes.{Outcome}
use Rattle.cel_operators.specs.Wants.{Want, Any, Truth, Whole, Natural, Moment, Lapse, Ordered, Characters, Items, Entries, Indexed}
use Rattle.cel_operators.specs.Wants.{Sought, Wholes, Naturals, Texts, Of, taken, Limit, Shelf, limit_of}

-- an operator with one operand; None is no answer at an operand of its kind
pub record OneRow (w : Want) : Type 0 where
  pub answer : Of w → Option Outcome
  pub charge : Of w → ℕ
  pub result : Limit w → Result CelType TypeRule
  pub greatest : Limit w → ℕ

-- an operator with two operands
pub record TwoRow (v w : Want) : Type 0 where
  pub answer : Of v → Of w → Option Outcome
  pub charge : Of v → Of w → ℕ
  pub result : Limit v → Limit w → Result CelType TypeRule
  pub greatest : Limit v → Limit w → ℕ

-- an operator's row of the table
pub data Row : Type 0 where
  One : (w : Want) → OneRow w → Row
  Two : (v w : Want) → TwoRow v w → Row

-- how many operands a row has, and their kinds
abbrev pub operands_of : Row → Operands
operands_of (One w r) = operands.One w
operands_of (Two v w r) = operands.Two v w

-- whether a whole number is an int of 64 bits
abbrev pub in_range : ℤ → Bool
in_range (pos n) = nat_lt n (2 ^ 63)
in_range (negsuc n) = nat_lt n (2 ^ 63)

-- an int, or that it is out of range
abbrev pub int_or_overflow : ℤ → Outcome
int_or_overflow z = if in_range z then Ok (value.Int z) else Err Overflow

-- an unsigned integer, or that it is out of range
abbrev pub uint_or_overflow : ℕ → Outcome
uint_or_overflow n = if nat_lt n (2 ^ 64) then Ok (value.Uint n) else Err Overflow

-- a quotient or a remainder; the remainder overflows if the quotient does
abbrev pub divided : (ℤ → ℤ → ℤ) → ℤ → ℤ → Outcome
divided f a (pos zero) = Err DivideByZero
divided f a b = if in_range (int_div a b) then Ok (value.Int (f a b)) else Err Overflow

-- a difference of unsigned integers, which has no sign
abbrev pub uint_difference : ℕ → ℕ → Outcome
uint_difference m n = if nat_le n m then Ok (value.Uint (m - n)) else Err Overflow

-- a quotient or a remainder of unsigned integers
abbrev pub uint_divided : (ℕ → ℕ → ℕ) → ℕ → ℕ → Outcome
uint_divided f m zero = Err DivideByZero
uint_divided f m (suc n) = Ok (value.Uint (f m (suc n)))

-- a comparison's truth value, if it has one
abbrev pub truth_of : Option Bool → Option Outcome
truth_of None = None
truth_of (Some b) = Some (Ok (value.Bool b))

-- the opposite of a comparison's truth value
abbrev pub untruth_of : Option Bool → Option Outcome
untruth_of None = None
untruth_of (Some b) = Some (Ok (value.Bool (not b)))

-- a truth value, if two types have a join
abbrev pub bool_where : Option CelType → Result CelType TypeRule
bool_where None = Err NoOverload
bool_where (Some t) = Ok type.Bool

-- the lesser weight of two values
abbrev pub lesser_weight : Value → Value → ℕ
lesser_weight v w = min (weight_of v) (weight_of w)

-- the lesser greatest weight of two types
abbrev pub lesser_greatest : CelType → CelType → ℕ
lesser_greatest s t = min (greatest_of s) (greatest_of t)

-- an operation on one operand that charges 1, by the one type of its answers, and its answer
abbrev pub fixed_one : (w : Want) → CelType → (Of w → Outcome) → Row
fixed_one w t f = One w (record { answer = λ a. Some (f a); charge = λ a. 1; result = λ l. Ok t; greatest = λ l. 1 })

-- the same on two operands
abbrev pub fixed_two : (v w : Want) → CelType → (Of v → Of w → Outcome) → Row
fixed_two v w t f = Two v w (record { answer = λ a b. Some (f a b); charge = λ a b. 1; result = λ l m. Ok t; greatest = λ l m. 1 })

-- `==`, and `!=` by the opposite
abbrev pub equality_row : (Bool → Bool) → TwoRow Any Any
equality_row f = record {
  answer = λ v w. Some (Ok (value.Bool (f (same v w))));
  charge = lesser_weight;
  result = compared;
  greatest =
      lesser_greatest;
}

-- `<` and its like, by what they say of two values
abbrev pub order_row : (Value → Value → Option Outcome) → TwoRow Ordered Ordered
order_row f = record { answer = f; charge = lesser_weight; result = λ s t. bool_where (join s t); greatest = lesser_greatest }

-- the tenths of a text's code points, rounded up
abbrev pub tenths_in : List ℕ → ℕ
tenths_in bytes = tenths_of (code_points bytes)

-- the type of texts of at most so many code points, if there is one
abbrev pub text_type : ℕ → Result CelType TypeRule
text_type n = if nat_lt n (2 ^ 32) then Ok (type.Text n) else Err TooLarge

-- the type of plain lists of at most so many items, likewise
abbrev pub list_type : ℕ → CelType → Result CelType TypeRule
list_type n item = if nat_lt n (2 ^ 32) then Ok (type.List n true item) else Err TooLarge

-- the type of two lists in a row: both are plain, and their items have a join
abbrev pub both_lists : ℕ → Bool → Option CelType → Result CelType TypeRule
both_lists n false item = Err NoOverload
both_lists n true None = Err NoOverload
both_lists n true (Some item) = list_type n item

-- a truth value as an answer
abbrev pub truth : Bool → Option Outcome
truth b = Some (Ok (value.Bool b))

-- a count as an answer
abbrev pub count : ℕ → Outcome
count n = Ok (value.Int (pos n))

-- a text as an answer
abbrev pub answers_text : List ℕ → Option Outcome
answers_text bytes = Some (Ok (value.Text bytes))

-- `+` of texts
abbrev pub text_sum_row : TwoRow Characters Characters
text_sum_row = record {
  answer = λ s t. answers_text (s ++ t);
  charge = λ s t. 1 + tenths_in s + tenths_in t;
  result = λ m n. text_type (m + n);
  greatest = λ m n. 1 + tenths_of m + tenths_of n;
}

-- `+` of lists
abbrev pub list_sum_row : TwoRow Items Items
list_sum_row = record {
  answer = λ vs ws. Some (Ok (value.List (vs ++ ws)));
  charge = λ vs ws. 1 + length vs + length ws;
  result = λ r q. both_lists (r.max + q.max) (r.plain && q.plain) (join r.item q.item);
  greatest = λ r q. 1 + r.max + q.max;
}

-- `in` a list, whose own weight is 1 beside that of its items
abbrev pub in_list_row : TwoRow Any Items
in_list_row = record {
  answer = λ v vs. truth (list_any (same v) vs);
  charge = λ v vs. 1 + (1 + items_weight_of vs);
  result = λ t r. compared t r.item;
  greatest = λ t r. 1 + (1 + r.max * greatest_of r.item);
}

-- `in` a map
abbrev pub in_map_row : TwoRow Characters Entries
in_map_row = record {
  answer = λ k es. truth (is_some (value_under k es));
  charge = λ k es. 1 + tenths_in k;
  result = λ m s. Ok type.Bool;
  greatest = λ m s. 1 + tenths_of m;
}

-- what there is, or an error
abbrev pub or_error : CelError → Option Value → Outcome
or_error e None = Err e
or_error e (Some v) = Ok v

-- the item at a place, if the list has it
abbrev pub item_at : List Value → ℤ → Outcome
item_at vs (pos n) = or_error OutOfRange (slice_get vs n)
item_at vs (negsuc n) = Err OutOfRange

-- an item by its place
abbrev pub index_list_row : TwoRow Indexed Whole
index_list_row = record { answer = λ vs n. Some (item_at vs n); charge = λ vs n. 1; result = λ r l. Ok r.item; greatest = λ r l. 1 }

-- what is under a key
abbrev pub index_map_row : TwoRow Sought Characters
index_map_row = record {
  answer = λ es k. Some (or_error NoSuchKey (value_under k es));
  charge = λ es k. 1 + tenths_in k;
  result = λ s m. Ok s.item;
  greatest = λ s m. 1 + tenths_of m;
}

-- an operation on a text that looks at each code point, by its answer and the type of that
abbrev pub text_row : (List ℕ → Option Outcome) → (ℕ → CelType) → OneRow Characters
text_row f t = record { answer = f; charge = λ s. 1 + tenths_in s; result = λ m. Ok (t m); greatest = λ m. 1 + tenths_of m }

-- by what a text begins, or ends
abbrev pub end_row : (List ℕ → List ℕ → Bool) → TwoRow Characters Characters
end_row f = record {
  answer = λ s t. truth (f s t);
  charge = λ s t. 1 + tenths_in t;
  result = λ m n. Ok type.Bool;
  greatest = λ m n. 1 + tenths_of n;
}

-- what a text has somewhere
abbrev pub contains_row : TwoRow Characters Characters
contains_row = record {
  answer = λ s t. truth (contains s t);
  charge = λ s t. (1 + tenths_in s) * (1 + tenths_in t);
  result = λ m n. Ok type.Bool;
  greatest = λ m n. (1 + tenths_of m) * (1 + tenths_of n);
}

-- an integer in decimal digits: of 64 bits it has 20 code points at most, and there is no other
abbrev pub string_of_int : ℤ → Outcome
string_of_int n = if in_range n then Ok (value.Text (signed_decimal n)) else Err Overflow

-- an unsigned one, likewise
abbrev pub string_of_uint : ℕ → Outcome
string_of_uint n = if nat_lt n (2 ^ 64) then Ok (value.Text (decimal n)) else Err Overflow

-- a text as it is
abbrev pub same_text_row : OneRow Characters
same_text_row = record { answer = answers_text; charge = λ s. 1; result = λ m. Ok (type.Text m); greatest = λ m. 1 }

-- the number that a text spells, as a value, or that it spells none
abbrev pub spelled : {A : Type 0} → (A → Value) → Option A → Outcome
spelled f None = Err BadConversion
spelled f (Some n) = Ok (f n)

-- an integer as an unsigned one
abbrev pub uint_of_int : ℤ → Outcome
uint_of_int (pos n) = Ok (value.Uint n)
uint_of_int (negsuc n) = Err Overflow

-- the sum of all, whole before its range is looked at; the sum of none is 0
abbrev pub sum_of_ints : List ℤ → ℤ
sum_of_ints [] = pos 0
sum_of_ints (n ∷ ns) = n +ℤ sum_of_ints ns

-- the lesser of two integers
abbrev pub lesser_int : ℤ → ℤ → ℤ
lesser_int m n = if int_lt n m then n else m

-- the greater of two integers
abbrev pub greater_int : ℤ → ℤ → ℤ
greater_int m n = if int_lt m n then n else m

-- what is left of several things, the first of which is given, if one of each two is left; nothing is left of none
abbrev pub left_of : {A : Type 0} → (A → A → A) → A → List A → A
left_of f a [] = a
left_of f a (b ∷ bs) = left_of f (f a b) bs

-- what is left of several things, as a value, or that there is nothing
abbrev pub extreme_of : {A : Type 0} → (A → A → A) → (A → Value) → List A → Outcome
extreme_of f v [] = Err EmptyList
extreme_of f v (a ∷ rest) = Ok (v (left_of f a rest))

-- an operation on a list of integers, by its answer
abbrev pub ints_row : (List ℤ → Outcome) → OneRow Wholes
ints_row f = record { answer = λ ns. Some (f ns); charge = λ ns. 1 + length ns; result = λ m. Ok type.Int; greatest = λ m. 1 + m }

-- the same of unsigned ones
abbrev pub uints_row : (List ℕ → Outcome) → OneRow Naturals
uints_row f = record { answer = λ ns. Some (f ns); charge = λ ns. 1 + length ns; result = λ m. Ok type.Uint; greatest = λ m. 1 + m }

-- the most code points of texts in a row, with a separator between each two
abbrev pub join_limit : Shelf → ℕ → ℕ
join_limit s m = s.max * s.text_max + (s.max - 1) * m

-- texts in a row, a separator between each two; a list of texts weighs 1 and what they do
abbrev pub join_row : TwoRow Texts Characters
join_row = record {
  answer = λ ts t. answers_text (join_by (λ u. u) t ts);
  charge = λ ts t. 1 + (1 + sum_by text_weight_of ts) + length ts * (1 + tenths_in t);
  result = λ s m. text_type (join_limit s m);
  greatest = λ s m. 1 + (1 + s.max * (1 + tenths_of s.text_max)) + s.max * (1 + tenths_of m);
}

-- nanoseconds as a value, or that they are out of range
abbrev pub or_overflow : (ℤ → Value) → Option ℤ → Outcome
or_overflow f None = Err Overflow
or_overflow f (Some n) = Ok (f n)

-- a duration in seconds: of 64 bits it has 22 code points at most, and there is no other
abbrev pub string_of_duration : ℤ → Outcome
string_of_duration n = if in_range n then Ok (value.Text (duration_text n)) else Err Overflow

-- how many whole units of so many nanoseconds a duration has, cut towards zero
abbrev pub whole_in : ℕ → ℤ → Outcome
whole_in unit n = Ok (value.Int (int_div n (pos unit)))

-- the table
abbrev pub row : Operator → Row
row operator.Not = fixed_one Truth type.Bool (λ b. Ok (value.Bool (not b)))
row operator.Negate = fixed_one Whole type.Int (λ n. int_or_overflow (neg_ℤ n))
row operator.Add = fixed_two Whole Whole type.Int (λ m n. int_or_overflow (m +ℤ n))
row operator.AddUint = fixed_two Natural Natural type.Uint (λ m n. uint_or_overflow (m + n))
row operator.AddText = Two Characters Characters text_sum_row
row operator.AddList = Two Items Items list_sum_row
row operator.Subtract = fixed_two Whole Whole type.Int (λ m n. int_or_overflow (m -ℤ n))
row operator.SubtractUint = fixed_two Natural Natural type.Uint uint_difference
row operator.Multiply = fixed_two Whole Whole type.Int (λ m n. int_or_overflow (m *ℤ n))
row operator.MultiplyUint = fixed_two Natural Natural type.Uint (λ m n. uint_or_overflow (m * n))
row operator.Divide = fixed_two Whole Whole type.Int (divided int_div)
row operator.DivideUint = fixed_two Natural Natural type.Uint (uint_divided (λ m n. m / n))
row operator.Remainder = fixed_two Whole Whole type.Int (divided int_rem)
row operator.RemainderUint = fixed_two Natural Natural type.Uint (uint_divided (λ m n. m % n))
row operator.Equal = Two Any Any (equality_row (λ b. b))
row operator.NotEqual = Two Any Any (equality_row not)
row operator.Less = Two Ordered Ordered (order_row (λ v w. truth_of (less v w)))
row operator.AtMost = Two Ordered Ordered (order_row (λ v w. untruth_of (less w v)))
row operator.Greater = Two Ordered Ordered (order_row (λ v w. truth_of (less w v)))
row operator.AtLeast = Two Ordered Ordered (order_row (λ v w. untruth_of (less v w)))
row operator.InList = Two Any Items in_list_row
row operator.InMap = Two Characters Entries in_map_row
row operator.IndexList = Two Indexed Whole index_list_row
row operator.IndexMap = Two Sought Characters index_map_row
row operator.SizeText = One Characters (text_row (λ s. Some (count (code_points s))) (λ m. type.Int))
row operator.SizeList = fixed_one Items type.Int (λ vs. count (length vs))
row operator.SizeMap = fixed_one Entries type.Int (λ es. count (length es))
row operator.StartsWith = Two Characters Characters (end_row starts_with)
row operator.EndsWith = Two Characters Characters (end_row ends_with)
row operator.Contains = Two Characters Characters contains_row
row operator.LowerAscii = One Characters (text_row (λ s. answers_text (map to_ascii_lowercase s)) (λ m. type.Text m))
row operator.UpperAscii = One Characters (text_row (λ s. answers_text (map to_ascii_uppercase s)) (λ m. type.Text m))
row operator.StringOfInt = fixed_one Whole (type.Text 20) string_of_int
row operator.StringOfUint = fixed_one Natural (type.Text 20) string_of_uint
row operator.StringOfText = One Characters same_text_row
row operator.IntOfInt = fixed_one Whole type.Int (λ n. Ok (value.Int n))
row operator.IntOfUint = fixed_one Natural type.Int (λ n. int_or_overflow (pos n))
row operator.IntOfText = One Characters (text_row (λ s. Some (spelled value.Int (int_of s))) (λ m. type.Int))
row operator.UintOfInt = fixed_one Whole type.Uint uint_of_int
row operator.UintOfUint = fixed_one Natural type.Uint (λ n. Ok (value.Uint n))
row operator.UintOfText = One Characters (text_row (λ s. Some (spelled value.Uint (uint_of s))) (λ m. type.Uint))
row operator.SumInts = One Wholes (ints_row (λ ns. int_or_overflow (sum_of_ints ns)))
row operator.SumUints = One Naturals (uints_row (λ ns. uint_or_overflow (sum ns)))
row operator.MinInts = One Wholes (ints_row (extreme_of lesser_int value.Int))
row operator.MinUints = One Naturals (uints_row (extreme_of min value.Uint))
row operator.MaxInts = One Wholes (ints_row (extreme_of greater_int value.Int))
row operator.MaxUints = One Naturals (uints_row (extreme_of max value.Uint))
row operator.Join = Two Texts Characters join_row
row operator.TimestampOfText = One Characters (text_row (λ s. Some (spelled value.Timestamp (timestamp_of s))) (λ m. type.Timestamp))
row operator.DurationOfText = One Characters (text_row (λ s. Some (spelled value.Duration (duration_of s))) (λ m. type.Duration))
row operator.AddToTimestamp = fixed_two Moment Lapse type.Timestamp (λ t d. or_overflow value.Timestamp (instant_of (t +ℤ d)))
row operator.AddTimestamp = fixed_two Lapse Moment type.Timestamp (λ d t. or_overflow value.Timestamp (instant_of (t +ℤ d)))
row operator.AddDurations = fixed_two Lapse Lapse type.Duration (λ d e. or_overflow value.Duration (duration_in_range (d +ℤ e)))
row operator.SubtractTimestamps = fixed_two Moment Moment type.Duration (λ t u. or_overflow value.Duration (duration_in_range (t -ℤ u)))
row operator.SubtractFromTimestamp = fixed_two Moment Lapse type.Timestamp (λ t d. or_overflow value.Timestamp (instant_of (t -ℤ d)))
row operator.SubtractDurations = fixed_two Lapse Lapse type.Duration (λ d e. or_overflow value.Duration (duration_in_range (d -ℤ e)))
row operator.StringOfTimestamp = fixed_one Moment (type.Text 30) (λ t. Ok (value.Text (timestamp_text t)))
row operator.StringOfDuration = fixed_one Lapse (type.Text 22) string_of_duration
row operator.IntOfTimestamp = fixed_one Moment type.Int (λ t. Ok (value.Int (int_div_euclid t (pos 1_000_000_000))))
row operator.YearOf = fixed_one Moment type.Int (λ t. count (day_of t).year)
row operator.MonthOf = fixed_one Moment type.Int (λ t. count ((day_of t).month - 1))
row operator.DateOf = fixed_one Moment type.Int (λ t. count (day_of t).date)
row operator.DayOfMonth = fixed_one Moment type.Int (λ t. count ((day_of t).date - 1))
row operator.DayOfWeek = fixed_one Moment type.Int (λ t. count (weekday_of t))
row operator.DayOfYear = fixed_one Moment type.Int (λ t. count (place_in_year (day_of t)))
row operator.HourOf = fixed_one Moment type.Int (λ t. count (hour_of (day_time t)))
row operator.MinuteOf = fixed_one Moment type.Int (λ t. count (minute_of (day_time t)))
row operator.SecondOf = fixed_one Moment type.Int (λ t. count (second_of (day_time t)))
row operator.MillisecondOf = fixed_one Moment type.Int (λ t. count (nanosecond_of (day_time t) / 1_000_000))
row operator.HoursIn = fixed_one Lapse type.Int (whole_in 3_600_000_000_000)
row operator.MinutesIn = fixed_one Lapse type.Int (whole_in 60_000_000_000)
row operator.SecondsIn = fixed_one Lapse type.Int (whole_in 1_000_000_000)

-- an answer with its charge
abbrev pub makes : Option Outcome → ℕ → Option Made
makes None n = None
makes (Some x) n = Some (record { outcome = x; charge = n })

-- the operand's error, which charges 1, or the row at it
abbrev pub one : {A : Type 0} → (A → Option Made) → Option (Result A CelError) → Option Made
one f None = None
one f (Some (Err e)) = makes (Some (Err e)) 1
one f (Some (Ok a)) = f a

-- the leftmost error, which charges 1, or the row at both
abbrev pub two : {A B : Type 0} → (A → B → Option Made) → Option (Result A CelError) → Option (Result B CelError) → Option Made
two f None y = None
two f (Some (Err e)) None = None
two f (Some (Ok a)) None = None
two f (Some (Err e)) (Some y) = makes (Some (Err e)) 1
two f (Some (Ok a)) (Some (Err e)) = makes (Some (Err e)) 1
two f (Some (Ok a)) (Some (Ok b)) = f a b

-- an operator at one operand; None if it takes two, or another kind
abbrev pub at_one : Row → Option Outcome → Option Made
at_one (One w r) x = one (λ a. makes (r.answer a) (r.charge a)) (taken w x)
at_one (Two v w r) x = None

-- an operator at two operands, likewise
abbrev pub at_two : Row → Option Outcome → Option Outcome → Option Made
at_two (One w r) x y = None
at_two (Two v w r) x y = two (λ a b. makes (r.answer a b) (r.charge a b)) (taken v x) (taken w y)

-- what was answered
abbrev pub outcome_made : Option Made → Option Outcome
outcome_made None = None
outcome_made (Some m) = Some m.outcome

-- what an answer charges
abbrev pub charge_made : Option Made → ℕ
charge_made None = 0
charge_made (Some m) = m.charge

-- what a row says at a limit, if the type has it
abbrev pub of_limit : {A : Type 0} → (A → Result CelType TypeRule) → Option A → Result CelType TypeRule
of_limit f None = Err NoOverload
of_limit f (Some l) = f l

-- what a row says at two limits, if the types have them
abbrev pub of_limits : {A B : Type 0} → (A → B → Result CelType TypeRule) → Option A → Option B → Result CelType TypeRule
of_limits f None m = Err NoOverload
of_limits f (Some l) None = Err NoOverload
of_limits f (Some l) (Some m) = f l m

-- the type of an operator's answers, from the type of one operand
abbrev pub type_of_one : Row → CelType → Result CelType TypeRule
type_of_one (One w r) s = of_limit r.result (limit_of w s)
type_of_one (Two v w r) s = Err NoOverload

-- the type of an operator's answers, from the types of two operands
abbrev pub type_of_two : Row → CelType → CelType → Result CelType TypeRule
type_of_two (One w r) s t = Err NoOverload
type_of_two (Two v w r) s t = of_limits r.result (limit_of v s) (limit_of w t)

-- the greatest charge at a limit, if the type has it
abbrev pub most : {A : Type 0} → (A → ℕ) → Option A → ℕ
most f None = 0
most f (Some l) = f l

-- the greatest charge at two limits, if the types have them
abbrev pub most_of_two : {A B : Type 0} → (A → B → ℕ) → Option A → Option B → ℕ
most_of_two f None m = 0
most_of_two f (Some l) None = 0
most_of_two f (Some l) (Some m) = f l m

-- the greatest charge of an operator at one operand of a type
abbrev pub greatest_of_one : Row → CelType → ℕ
greatest_of_one (One w r) s = most r.greatest (limit_of w s)
greatest_of_one (Two v w r) s = 0

-- the greatest charge of an operator at two operands of types
abbrev pub greatest_of_two : Row → CelType → CelType → ℕ
greatest_of_two (One w r) s t = 0
greatest_of_two (Two v w r) s t = most_of_two r.greatest (limit_of v s) (limit_of w t)
