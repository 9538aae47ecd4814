-- Each row is right, and so is what an operator answers at operands of the right types.
use Rattle.std.proofs.Common.{◌≡◌, ℕ, ◌+◌, ◌-◌, ◌*◌, ◌/◌, ◌%◌, ◌≤◌, true, not, min, max, length, Option, Some, None, refl, sym}
use Rattle.std.proofs.Common.{subst, arith, true≢false}
use Rattle.std.specs.Int.{int_div_euclid}
use Rattle.std.specs.Prelude.{Result, Ok, Err, pos, ◌+ℤ◌, ◌-ℤ◌, ◌*ℤ◌, neg_ℤ, int_div, int_rem, sum}
use Rattle.std.specs.Char.{to_ascii_lowercase, to_ascii_uppercase}
use Rattle.cel_value.specs.declared.value.Value as value
use Rattle.cel_value.specs.declared.cel_type.CelType.{CelType}
use Rattle.cel_value.specs.declared.cel_type.CelType as type
use Rattle.cel_value.specs.declared.cel_error.CelError.{CelError}
use Rattle.cel_value.specs.CelType.{assignable}
use Rattle.cel_value.specs.Value.{code_points}
use Rattle.cel_value.proofs.Soundness.{IsWithin-from_assignable}
use Rattle.cel_operators.specs.Numbers.{int_of, uint_of}
use Rattle.cel_value.specs.Days.{day_of, day_time, place_in_year, weekday_of, hour_of, minute_of, second_of, nanosecond_of}
use Rattle.cel_value.specs.Instants.{instant_of, duration_in_range}
use Rattle.cel_value.specs.Printed.{timestamp_text}
use Rattle.cel_value.specs.Reading.{timestamp_of, duration_of}
use Rattle.cel_operators.specs.Parts.{starts_with, ends_with}
use Rattle.cel_operators.proofs.Recased.{code_points-lower, code_points-upper}
use Rattle.cel_operators.specs.declared.operator.Operator.{Operator}
use Rattle.cel_operators.specs.declared.operator.Operator.TheVariants as operator
use Rattle.cel_operators.specs.declared.type_rule.TypeRule.{TypeRule}
use Rattle.cel_operators.specs.Outcomes.{Outcome, outcome_fits}
use Rattle.cel_operators.specs.Wants.{Want, Truth, Whole, Natural, Moment, Lapse, Items, Entries, Of, taken, Limit, limit_of}
use Rattle.cel_operators.specs.Operators.{OneRow, TwoRow, Row, One, Two, row, Made, makes, one, two, at_one, at_two, outcome_made}
use Rattle.cel_operators.specs.Operators.{charge_made, of_limit, of_limits, type_of_one, type_of_two, most, most_of_two, greatest_of_one}
use Rattle.cel_operators.specs.Operators.{greatest_of_two, count, sum_of_ints, lesser_int, greater_int}
use Rattle.cel_operators.proofs.Opened.{bool_fits, int_fits, uint_fits, text_fits, timestamp_fits, duration_fits}
pub use Rattle.cel_operators.proofs.Taking.{Taken, taken_fits}
pub use Rattle.cel_operators.proofs.RightRows.{Gives, OneGood, TwoGood, RowRight}
use Rattle.cel_operators.proofs.RightRows.{fixed_one_right, fixed_two_right}
use Rattle.cel_operators.proofs.NumberRows.{checked_fits, divided_fits, uint_checked_fits, uint_difference_fits}
use Rattle.cel_operators.proofs.NumberRows.{uint_divided_fits, int_right, string_of_int_fits}
use Rattle.cel_operators.proofs.NumberRows.{string_of_uint_fits, uint_of_int_fits, ints_right, uints_right, extreme_fits, equality_right}
use Rattle.cel_operators.proofs.NumberRows.{less_right, at_most_right, greater_right, at_least_right}
use Rattle.cel_operators.proofs.TextRows.{text_right, recased_right, spelled_right, text_sum_right, end_right, contains_right, join_right}
use Rattle.cel_operators.proofs.TimeRows.{timestamp_or_overflow, duration_or_overflow, string_of_timestamp_fits, string_of_duration_fits}
use Rattle.cel_operators.proofs.ListRows.{list_sum_right, in_list_right, in_map_right, index_list_right, index_map_right}

pub row_right : (op : Operator) → RowRight (row op)
row_right operator.Not = fixed_one_right Truth type.Bool (λ b. Ok (value.Bool (not b))) (λ b. bool_fits (not b))
row_right operator.Negate = fixed_one_right Whole type.Int _ (λ n. checked_fits (neg_ℤ n))
row_right operator.Add = fixed_two_right Whole Whole type.Int _ (λ a b. checked_fits (a +ℤ b))
row_right operator.AddUint = fixed_two_right Natural Natural type.Uint _ (λ a b. uint_checked_fits (a + b))
row_right operator.AddText = text_sum_right
row_right operator.AddList = list_sum_right
row_right operator.Subtract = fixed_two_right Whole Whole type.Int _ (λ a b. checked_fits (a -ℤ b))
row_right operator.SubtractUint = fixed_two_right Natural Natural type.Uint _ uint_difference_fits
row_right operator.Multiply = fixed_two_right Whole Whole type.Int _ (λ a b. checked_fits (a *ℤ b))
row_right operator.MultiplyUint = fixed_two_right Natural Natural type.Uint _ (λ a b. uint_checked_fits (a * b))
row_right operator.Divide = fixed_two_right Whole Whole type.Int _ (divided_fits int_div)
row_right operator.DivideUint = fixed_two_right Natural Natural type.Uint _ (uint_divided_fits (λ m n. m / n))
row_right operator.Remainder = fixed_two_right Whole Whole type.Int _ (divided_fits int_rem)
row_right operator.RemainderUint = fixed_two_right Natural Natural type.Uint _ (uint_divided_fits (λ m n. m % n))
row_right operator.Equal = equality_right (λ b. b)
row_right operator.NotEqual = equality_right not
row_right operator.Less = less_right
row_right operator.AtMost = at_most_right
row_right operator.Greater = greater_right
row_right operator.AtLeast = at_least_right
row_right operator.InList = in_list_right
row_right operator.InMap = in_map_right
row_right operator.IndexList = index_list_right
row_right operator.IndexMap = index_map_right
row_right operator.SizeText = text_right (λ s. Some (count (code_points s))) (λ m. type.Int) (λ m s p. int_fits (pos (code_points s)))
row_right operator.SizeList = int_right Items (λ vs. pos (length vs))
row_right operator.SizeMap = int_right Entries (λ es. pos (length es))
row_right operator.StartsWith = end_right starts_with
row_right operator.EndsWith = end_right ends_with
row_right operator.Contains = contains_right
row_right operator.LowerAscii = recased_right to_ascii_lowercase code_points-lower
row_right operator.UpperAscii = recased_right to_ascii_uppercase code_points-upper
row_right operator.StringOfInt = fixed_one_right Whole (type.Text 20) _ string_of_int_fits
row_right operator.StringOfUint = fixed_one_right Natural (type.Text 20) _ string_of_uint_fits
row_right operator.StringOfText = λ m. (omega arith, λ s p. (text_fits s m p, omega arith))
row_right operator.IntOfInt = int_right Whole (λ n. n)
row_right operator.IntOfUint = fixed_one_right Natural type.Int _ (λ n. checked_fits (pos n))
row_right operator.IntOfText = spelled_right value.Int type.Int int_fits int_of
row_right operator.UintOfInt = fixed_one_right Whole type.Uint _ uint_of_int_fits
row_right operator.UintOfUint = fixed_one_right Natural type.Uint (λ n. Ok (value.Uint n)) uint_fits
row_right operator.UintOfText = spelled_right value.Uint type.Uint uint_fits uint_of
row_right operator.SumInts = ints_right _ (λ ns. checked_fits (sum_of_ints ns))
row_right operator.SumUints = uints_right _ (λ ns. uint_checked_fits (sum ns))
row_right operator.MinInts = ints_right _ (extreme_fits lesser_int value.Int type.Int int_fits)
row_right operator.MinUints = uints_right _ (extreme_fits min value.Uint type.Uint uint_fits)
row_right operator.MaxInts = ints_right _ (extreme_fits greater_int value.Int type.Int int_fits)
row_right operator.MaxUints = uints_right _ (extreme_fits max value.Uint type.Uint uint_fits)
row_right operator.Join = join_right
row_right operator.TimestampOfText = spelled_right value.Timestamp type.Timestamp timestamp_fits timestamp_of
row_right operator.DurationOfText = spelled_right value.Duration type.Duration duration_fits duration_of
row_right operator.AddToTimestamp = fixed_two_right Moment Lapse type.Timestamp _ (λ t d. timestamp_or_overflow (instant_of (t +ℤ d)))
row_right operator.AddTimestamp = fixed_two_right Lapse Moment type.Timestamp _ (λ d t. timestamp_or_overflow (instant_of (t +ℤ d)))
row_right operator.AddDurations = fixed_two_right Lapse Lapse type.Duration _ (λ d e. duration_or_overflow (duration_in_range (d +ℤ e)))
row_right operator.SubtractTimestamps =
    fixed_two_right Moment Moment type.Duration _ (λ t u. duration_or_overflow (duration_in_range (t -ℤ u)))
row_right operator.SubtractFromTimestamp =
    fixed_two_right Moment Lapse type.Timestamp _ (λ t d. timestamp_or_overflow (instant_of (t -ℤ d)))
row_right operator.SubtractDurations =
    fixed_two_right Lapse Lapse type.Duration _ (λ d e. duration_or_overflow (duration_in_range (d -ℤ e)))
row_right operator.StringOfTimestamp =
    fixed_one_right Moment (type.Text 30) (λ t. Ok (value.Text (timestamp_text t))) string_of_timestamp_fits
row_right operator.StringOfDuration = fixed_one_right Lapse (type.Text 22) _ string_of_duration_fits
row_right operator.IntOfTimestamp = int_right Moment (λ t. int_div_euclid t (pos 1_000_000_000))
row_right operator.YearOf = int_right Moment (λ t. pos (day_of t).year)
row_right operator.MonthOf = int_right Moment (λ t. pos ((day_of t).month - 1))
row_right operator.DateOf = int_right Moment (λ t. pos (day_of t).date)
row_right operator.DayOfMonth = int_right Moment (λ t. pos ((day_of t).date - 1))
row_right operator.DayOfWeek = int_right Moment (λ t. pos (weekday_of t))
row_right operator.DayOfYear = int_right Moment (λ t. pos (place_in_year (day_of t)))
row_right operator.HourOf = int_right Moment (λ t. pos (hour_of (day_time t)))
row_right operator.MinuteOf = int_right Moment (λ t. pos (minute_of (day_time t)))
row_right operator.SecondOf = int_right Moment (λ t. pos (second_of (day_time t)))
row_right operator.MillisecondOf = int_right Moment (λ t. pos (nanosecond_of (day_time t) / 1_000_000))
row_right operator.HoursIn = int_right Lapse (λ d. int_div d (pos 3_600_000_000_000))
row_right operator.MinutesIn = int_right Lapse (λ d. int_div d (pos 60_000_000_000))
row_right operator.SecondsIn = int_right Lapse (λ d. int_div d (pos 1_000_000_000))

-- an outcome of a type is one of each type that takes it
pub wider : (s t : CelType) (x : Option Outcome) → assignable s t ≡ true → outcome_fits s x ≡ true → outcome_fits t x ≡ true
wider s t None a h = absurd (true≢false (sym h))
wider s t (Some (Err e)) a h = refl
wider s t (Some (Ok v)) a h = (IsWithin-from_assignable t s a).1 v h

-- what was made is of the type, for at most n
abbrev pub MadeRight : CelType → Option Made → ℕ → Type 0
MadeRight t o n = (outcome_fits t (outcome_made o) ≡ true) × (charge_made o ≤ n)

makes_right : (t : CelType) (o : Option Outcome) (c n : ℕ) → outcome_fits t o ≡ true → c ≤ n → MadeRight t (makes o c) n
makes_right t None c n h k = absurd (true≢false (sym h))
makes_right t (Some x) c n h k = (h, k)

one_made : (w : Want) (r : OneRow w) (l : Limit w) (t : CelType) (x : Option (Result (Of w) CelError))
    → OneGood w r l t → Taken w l x → MadeRight t (one (λ a. makes (r.answer a) (r.charge a)) x) (r.greatest l)
one_made w r l t None g h = absurd h
one_made w r l t (Some (Err e)) g h = (refl, g.0)
one_made w r l t (Some (Ok a)) g h = let p = g.1 a h in makes_right t (r.answer a) (r.charge a) (r.greatest l) p.0 p.1

two_made : (v w : Want) (r : TwoRow v w) (l : Limit v) (m : Limit w) (t : CelType) (x : Option (Result (Of v) CelError))
    (y : Option (Result (Of w) CelError)) → TwoGood v w r l m t → Taken v l x → Taken w m y
    → MadeRight t (two (λ a b. makes (r.answer a b) (r.charge a b)) x y) (r.greatest l m)
two_made v w r l m t None y g h k = absurd h
two_made v w r l m t (Some (Err e)) None g h k = absurd k
two_made v w r l m t (Some (Ok a)) None g h k = absurd k
two_made v w r l m t (Some (Err e)) (Some y) g h k = (refl, g.0)
two_made v w r l m t (Some (Ok a)) (Some (Err e)) g h k = (refl, g.0)
two_made v w r l m t (Some (Ok a)) (Some (Ok b)) g h k =
    let p = g.1 a b h k in makes_right t (r.answer a b) (r.charge a b) (r.greatest l m) p.0 p.1

-- the type that a row gives, and a wider one
gives_ok : (r : Result CelType TypeRule) (P : CelType → Type 0) (s : CelType) → r ≡ Ok s → Gives r P → P s
gives_ok r P s e g = let h : Gives (Ok s) P = subst (λ x. Gives x P) e g in h

made_wider : (s t : CelType) (o : Option Made) (n : ℕ) → assignable s t ≡ true → MadeRight s o n → MadeRight t o n
made_wider s t o n a h = (wider s t (outcome_made o) a h.0, h.1)

-- an operator at one operand of the right type
pub one_operand : (r : Row) (s t : CelType) (x : Option Outcome) → RowRight r → type_of_one r s ≡ Ok t → outcome_fits s x ≡ true
    → MadeRight t (at_one r x) (greatest_of_one r s)
one_operand (One w r) s t x g e h = one_at (limit_of w s) refl e
  where
    one_at : (o : Option (Limit w)) → limit_of w s ≡ o → of_limit r.result o ≡ Ok t
        → MadeRight t (one (λ a. makes (r.answer a) (r.charge a)) (taken w x)) (most r.greatest o)
    one_at None q e = cc
    one_at (Some l) q e = one_made w r l t (taken w x) (gives_ok (r.result l) (OneGood w r l) t e (g l)) (taken_fits w s x l q h)
one_operand (Two v w r) s t x g e h = cc

-- an operator at two
pub two_operands : (r : Row) (s u t : CelType) (x y : Option Outcome) → RowRight r → type_of_two r s u ≡ Ok t → outcome_fits s x ≡ true
    → outcome_fits u y ≡ true → MadeRight t (at_two r x y) (greatest_of_two r s u)
two_operands (One w r) s u t x y g e h k = cc
two_operands (Two v w r) s u t x y g e h k = two_at (limit_of v s) (limit_of w u) refl refl e
  where
    two_at : (o : Option (Limit v)) (p : Option (Limit w)) → limit_of v s ≡ o → limit_of w u ≡ p → of_limits r.result o p ≡ Ok t
        → MadeRight t (two (λ a b. makes (r.answer a b) (r.charge a b)) (taken v x) (taken w y)) (most_of_two r.greatest o p)
    two_at None p q z e = cc
    two_at (Some l) None q z e = cc
    two_at (Some l) (Some m) q z e =
        two_made v w r l m t (taken v x) (taken w y) (gives_ok (r.result l m) (TwoGood v w r l m) t e (g l m)) (taken_fits v s x l q h)
        (taken_fits w u y m z k)
