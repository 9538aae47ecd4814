-- The numbers of operators: the list of all gives the operator of each number, and the number of each operator.
use Rattle.std.specs.Prelude.{ℕ, List, [], ◌∷◌, slice_get, Option}
use denote.Enum.Declared.{tag_of}
use Rattle.cel_operators.specs.contracts.operator.Operator.{the_type}
use Rattle.cel_operators.specs.declared.operator.Operator.{Operator}
use Rattle.cel_operators.specs.declared.operator.Operator.TheVariants as operator

-- the operators by their numbers
abbrev pub operators : List Operator
operators =
    operator.Not ∷ operator.Negate ∷ operator.Add ∷ operator.AddUint ∷ operator.AddText ∷ operator.AddList ∷ operator.Subtract
    ∷ operator.SubtractUint ∷ operator.Multiply ∷ operator.MultiplyUint ∷ operator.Divide ∷ operator.DivideUint
    ∷ operator.Remainder ∷ operator.RemainderUint ∷ operator.Equal ∷ operator.NotEqual ∷ operator.Less ∷ operator.AtMost
    ∷ operator.Greater ∷ operator.AtLeast ∷ operator.InList ∷ operator.InMap ∷ operator.IndexList ∷ operator.IndexMap
    ∷ operator.SizeText ∷ operator.SizeList ∷ operator.SizeMap ∷ operator.StartsWith ∷ operator.EndsWith ∷ operator.Contains
    ∷ operator.LowerAscii ∷ operator.UpperAscii ∷ operator.StringOfInt ∷ operator.StringOfUint ∷ operator.StringOfText
    ∷ operator.IntOfInt ∷ operator.IntOfUint ∷ operator.IntOfText ∷ operator.UintOfInt ∷ operator.UintOfUint
    ∷ operator.UintOfText ∷ operator.SumInts ∷ operator.SumUints ∷ operator.MinInts ∷ operator.MinUints ∷ operator.MaxInts
    ∷ operator.MaxUints ∷ operator.Join ∷ operator.TimestampOfText ∷ operator.DurationOfText ∷ operator.AddToTimestamp
    ∷ operator.AddTimestamp ∷ operator.AddDurations ∷ operator.SubtractTimestamps ∷ operator.SubtractFromTimestamp
    ∷ operator.SubtractDurations ∷ operator.StringOfTimestamp ∷ operator.StringOfDuration ∷ operator.IntOfTimestamp
    ∷ operator.YearOf ∷ operator.MonthOf ∷ operator.DateOf ∷ operator.DayOfMonth ∷ operator.DayOfWeek ∷ operator.DayOfYear
    ∷ operator.HourOf ∷ operator.MinuteOf ∷ operator.SecondOf ∷ operator.MillisecondOf ∷ operator.HoursIn ∷ operator.MinutesIn
    ∷ operator.SecondsIn ∷ []

-- the operator of a number, if there is one
abbrev pub operator_of : ℕ → Option Operator
operator_of n = slice_get operators n

-- the number of an operator: its place among the variants, which is that in the list
unfoldable pub code_of : Operator → ℕ
code_of op = tag_of the_type op
