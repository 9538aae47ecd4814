-- Which operators a name or a sign stands for, in the order in which they are tried, and the first that takes its operands.
use Rattle.std.specs.Prelude.{ℕ, List, [], ◌∷◌, Result, Ok, Err, if◌then◌else◌, codes}
use Rattle.std.specs.Str.{bytes_eq}
use Rattle.cel_value.specs.declared.cel_type.CelType.{CelType}
use Rattle.cel_value.specs.declared.expr.UnaryOperator.{UnaryOperator}
use Rattle.cel_value.specs.declared.expr.UnaryOperator.TheVariants as unary_operator
use Rattle.cel_value.specs.declared.expr.BinaryOperator.{BinaryOperator}
use Rattle.cel_value.specs.declared.expr.BinaryOperator.TheVariants as binary_operator
use Rattle.cel_operators.specs.declared.type_rule.TypeRule.{TypeRule}
use Rattle.cel_operators.specs.declared.type_rule.TypeRule.TheVariants.{NoOverload}
use Rattle.cel_operators.specs.declared.operator.Operator.{Operator}
use Rattle.cel_operators.specs.declared.operator.Operator.TheVariants as operator
use Rattle.cel_operators.specs.declared.operator.Overload.{Overload}
use Rattle.cel_operators.specs.Operators.{row, type_of_one, type_of_two}

-- the overloads of an operator in front of one operand, in the order in which they are tried
abbrev pub unary_overloads : UnaryOperator → List Operator
unary_overloads unary_operator.Not = operator.Not ∷ []
unary_overloads unary_operator.Negate = operator.Negate ∷ []

-- the overloads of an operator between two operands, likewise
abbrev pub binary_overloads : BinaryOperator → List Operator
binary_overloads binary_operator.Less = operator.Less ∷ []
binary_overloads binary_operator.AtMost = operator.AtMost ∷ []
binary_overloads binary_operator.Greater = operator.Greater ∷ []
binary_overloads binary_operator.AtLeast = operator.AtLeast ∷ []
binary_overloads binary_operator.Equal = operator.Equal ∷ []
binary_overloads binary_operator.NotEqual = operator.NotEqual ∷ []
binary_overloads binary_operator.In = operator.InList ∷ operator.InMap ∷ []
binary_overloads binary_operator.Add =
    operator.Add ∷ operator.AddUint ∷ operator.AddText ∷ operator.AddList ∷ operator.AddToTimestamp ∷ operator.AddTimestamp
    ∷ operator.AddDurations ∷ []
binary_overloads binary_operator.Subtract =
    operator.Subtract ∷ operator.SubtractUint ∷ operator.SubtractTimestamps ∷ operator.SubtractFromTimestamp
    ∷ operator.SubtractDurations ∷ []
binary_overloads binary_operator.Multiply = operator.Multiply ∷ operator.MultiplyUint ∷ []
binary_overloads binary_operator.Divide = operator.Divide ∷ operator.DivideUint ∷ []
binary_overloads binary_operator.Remainder = operator.Remainder ∷ operator.RemainderUint ∷ []

-- the overloads of an index, likewise
abbrev pub index_overloads : List Operator
index_overloads = operator.IndexList ∷ operator.IndexMap ∷ []

-- the overloads of how long something is, as a function or a method
abbrev pub size_overloads : List Operator
size_overloads = operator.SizeText ∷ operator.SizeList ∷ operator.SizeMap ∷ []

-- operators by names: an entry has a name, and the operators that it stands for in the order in which they are tried
abbrev pub Named : Type 0
Named = List (List ℕ × List Operator)

-- the operators that a name stands for; none if no entry has it
abbrev pub named_in : Named → List ℕ → List Operator
named_in [] name = []
named_in (entry ∷ entries) name = if bytes_eq name entry.0 then entry.1 else named_in entries name

-- the functions of one argument
abbrev pub functions : Named
functions =
    (codes "size", size_overloads)
    ∷ (
      codes "string",
      operator.StringOfInt ∷ operator.StringOfUint ∷ operator.StringOfText ∷ operator.StringOfTimestamp
          ∷ operator.StringOfDuration ∷ [],
    )
    ∷ (codes "int", operator.IntOfInt ∷ operator.IntOfUint ∷ operator.IntOfText ∷ operator.IntOfTimestamp ∷ [])
    ∷ (codes "uint", operator.UintOfInt ∷ operator.UintOfUint ∷ operator.UintOfText ∷ [])
    ∷ (codes "timestamp", operator.TimestampOfText ∷ [])
    ∷ (codes "duration", operator.DurationOfText ∷ [])
    ∷ []

-- the methods with no argument
abbrev pub methods : Named
methods =
    (codes "size", size_overloads)
    ∷ (codes "lowerAscii", operator.LowerAscii ∷ [])
    ∷ (codes "upperAscii", operator.UpperAscii ∷ [])
    ∷ (codes "sum", operator.SumInts ∷ operator.SumUints ∷ [])
    ∷ (codes "min", operator.MinInts ∷ operator.MinUints ∷ [])
    ∷ (codes "max", operator.MaxInts ∷ operator.MaxUints ∷ [])
    ∷ (codes "getFullYear", operator.YearOf ∷ [])
    ∷ (codes "getMonth", operator.MonthOf ∷ [])
    ∷ (codes "getDate", operator.DateOf ∷ [])
    ∷ (codes "getDayOfMonth", operator.DayOfMonth ∷ [])
    ∷ (codes "getDayOfWeek", operator.DayOfWeek ∷ [])
    ∷ (codes "getDayOfYear", operator.DayOfYear ∷ [])
    ∷ (codes "getHours", operator.HourOf ∷ operator.HoursIn ∷ [])
    ∷ (codes "getMinutes", operator.MinuteOf ∷ operator.MinutesIn ∷ [])
    ∷ (codes "getSeconds", operator.SecondOf ∷ operator.SecondsIn ∷ [])
    ∷ (codes "getMilliseconds", operator.MillisecondOf ∷ [])
    ∷ []

-- the methods with one argument
abbrev pub methods_with : Named
methods_with =
    (codes "startsWith", operator.StartsWith ∷ [])
    ∷ (codes "endsWith", operator.EndsWith ∷ [])
    ∷ (codes "contains", operator.Contains ∷ [])
    ∷ (codes "join", operator.Join ∷ [])
    ∷ []

-- the overloads of a function of one argument, by its name
unfoldable pub function_overloads : List ℕ → List Operator
function_overloads name = named_in functions name

-- the overloads of a method with no argument, by its name
unfoldable pub method_overloads : List ℕ → List Operator
method_overloads name = named_in methods name

-- the overloads of a method with one argument, by its name
unfoldable pub method_overloads_with : List ℕ → List Operator
method_overloads_with name = named_in methods_with name

-- an overload that takes the operands, or the later ones if this one does not
abbrev pub or_later : Operator → Result CelType TypeRule → Result Overload TypeRule → Result Overload TypeRule
or_later op (Ok t) later = Ok (record { operator = op; cel_type = t })
or_later op (Err NoOverload) later = later
or_later op (Err rule) later = Err rule

-- the first overload that takes the operands, with the type of its answers
abbrev pub first_of : List Operator → (Operator → Result CelType TypeRule) → Result Overload TypeRule
first_of [] f = Err NoOverload
first_of (op ∷ ops) f = or_later op (f op) (first_of ops f)

-- the first overload that takes one operand of a type
abbrev pub first_of_one : List Operator → CelType → Result Overload TypeRule
first_of_one ops s = first_of ops (λ o. type_of_one (row o) s)

-- the first overload that takes two operands of types
abbrev pub first_of_two : List Operator → CelType → CelType → Result Overload TypeRule
first_of_two ops s t = first_of ops (λ o. type_of_two (row o) s t)
