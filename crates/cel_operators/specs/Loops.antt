-- Comprehensions: what they make of the items of a range one after another, and what they charge (cel-spec, "Macros").
use Rattle.std.specs.Prelude.{ℕ, ◌+◌, Bool, true, false, List, [], ◌∷◌, ◌++◌, Option, Some, None, Result, Ok, Err, option_map}
use Rattle.cel_value.specs.declared.value.Value.{Value}
use Rattle.cel_value.specs.declared.value.Value as value
use Rattle.cel_value.specs.declared.cel_type.CelType.{CelType}
use Rattle.cel_value.specs.declared.cel_type.CelType as type
use Rattle.cel_value.specs.declared.cel_error.CelError.{CelError}
use Rattle.cel_value.specs.declared.expr.Loop.{Loop}
use Rattle.cel_value.specs.declared.expr.Loop.TheVariants.{All, Exists, ExistsOne, Filter, Map}
use Rattle.cel_operators.specs.declared.type_rule.TypeRule.{TypeRule}
use Rattle.cel_operators.specs.declared.type_rule.TypeRule.TheVariants.{NoOverload}
use Rattle.cel_operators.specs.declared.accumulator.Tally.{Tally}
use Rattle.cel_operators.specs.declared.accumulator.Tally.TheVariants.{Zero, One, More}
use Rattle.cel_operators.specs.declared.accumulator.Accumulator.{Accumulator}
use Rattle.cel_operators.specs.Outcomes.{Outcome, Side, Env, Types}
use Rattle.cel_operators.specs.Wants.{side_of, Limit, limit_of}
use Rattle.cel_operators.specs.declared.limit.Span.{Span}
use Rattle.cel_operators.specs.declared.operands.Want.TheVariants.{Truth}

-- an environment with one more open loop, at an item
abbrev pub inside : Value → Env → Env
inside v env = record env { locals = v ∷ env.locals }

-- the types of names with one more open loop, over items of a type
abbrev pub types_inside : CelType → Types → Types
types_inside t types = record types { locals = t ∷ types.locals }

-- one more
abbrev pub one_more : Tally → Tally
one_more Zero = One
one_more One = More
one_more More = More

-- whether it is one exactly
abbrev pub is_one : Tally → Bool
is_one Zero = false
is_one One = true
is_one More = false

-- what a loop has gathered before its first item
abbrev pub nothing_yet : Accumulator
nothing_yet = record { error = None; tally = Zero; items = [] }

-- the first of the errors
abbrev pub first_error : Option CelError → CelError → Option CelError
first_error None e = Some e
first_error (Some f) e = Some f

-- one more error
abbrev pub with_error : CelError → Accumulator → Accumulator
with_error e a = record a { error = first_error a.error e }

-- one more item for which the predicate holds
abbrev pub with_one_more : Accumulator → Accumulator
with_one_more a = record a { tally = one_more a.tally }

-- one more item of the list that is made
abbrev pub with_item : Value → Accumulator → Accumulator
with_item v a = record a { items = a.items ++ v ∷ [] }

-- after an item a loop ends with an outcome, or goes on with what it has gathered
pub data Turn : Type 0 where
  Closes : Outcome → Turn
  GoesOn : Accumulator → Turn

-- `all`: a false ends it; an error does not
abbrev pub turn_all : Accumulator → Side → Turn
turn_all a (Ok false) = Closes (Ok (value.Bool false))
turn_all a (Ok true) = GoesOn a
turn_all a (Err e) = GoesOn (with_error e a)

-- `exists`: a true ends it; an error does not
abbrev pub turn_exists : Accumulator → Side → Turn
turn_exists a (Ok true) = Closes (Ok (value.Bool true))
turn_exists a (Ok false) = GoesOn a
turn_exists a (Err e) = GoesOn (with_error e a)

-- `exists_one`: it counts, and an error ends it
abbrev pub turn_exists_one : Accumulator → Side → Turn
turn_exists_one a (Ok true) = GoesOn (with_one_more a)
turn_exists_one a (Ok false) = GoesOn a
turn_exists_one a (Err e) = Closes (Err e)

-- `filter`: an item is kept if the predicate holds, and an error ends it
abbrev pub turn_filter : Value → Accumulator → Side → Turn
turn_filter v a (Ok true) = GoesOn (with_item v a)
turn_filter v a (Ok false) = GoesOn a
turn_filter v a (Err e) = Closes (Err e)

-- `map`: what the transform gives is the next item, and an error ends it
abbrev pub turn_map : Accumulator → Outcome → Turn
turn_map a (Ok v) = GoesOn (with_item v a)
turn_map a (Err e) = Closes (Err e)

-- a loop's turn at an item, by what its body gives there; None if that is of a kind that cannot be there
abbrev pub turn : Loop → Value → Accumulator → Option Outcome → Option Turn
turn All v a x = option_map (turn_all a) (side_of x)
turn Exists v a x = option_map (turn_exists a) (side_of x)
turn ExistsOne v a x = option_map (turn_exists_one a) (side_of x)
turn Filter v a x = option_map (turn_filter v a) (side_of x)
turn Map v a x = option_map (turn_map a) x

-- the turn of `map` with a predicate, by what that and the transform give
abbrev pub turn_where : Accumulator → Option Side → Option Outcome → Option Turn
turn_where a None x = None
turn_where a (Some (Err e)) x = Some (Closes (Err e))
turn_where a (Some (Ok false)) x = Some (GoesOn a)
turn_where a (Some (Ok true)) x = option_map (turn_map a) x

-- an error, or else a truth value
abbrev pub error_or : Option CelError → Bool → Outcome
error_or None b = Ok (value.Bool b)
error_or (Some e) b = Err e

-- what a loop makes of what it has gathered from all items
abbrev pub result_of : Loop → Accumulator → Outcome
result_of All a = error_or a.error true
result_of Exists a = error_or a.error false
result_of ExistsOne a = Ok (value.Bool (is_one a.tally))
result_of Filter a = Ok (value.List a.items)
result_of Map a = Ok (value.List a.items)

-- a loop's outcome after a turn
abbrev pub behind_turn : Option Turn → (Accumulator → Option Outcome) → Option Outcome
behind_turn None rest = None
behind_turn (Some (Closes x)) rest = Some x
behind_turn (Some (GoesOn a)) rest = rest a

-- a loop's outcome from these items on
abbrev pub over_items : Loop → (Value → Accumulator → Option Turn) → List Value → Accumulator → Option Outcome
over_items l turns [] a = Some (result_of l a)
over_items l turns (v ∷ vs) a = behind_turn (turns v a) (over_items l turns vs)

-- what is charged after a turn: nothing, if it ends the loop
abbrev pub charged_behind : Option Turn → (Accumulator → ℕ) → ℕ
charged_behind (Some (GoesOn a)) rest = rest a
charged_behind _ rest = 0

-- what these items charge: 1 for each that is visited, and its bodies
abbrev pub cost_of_items : (Value → Accumulator → Option Turn) → (Value → ℕ) → List Value → Accumulator → ℕ
cost_of_items turns costs [] a = 0
cost_of_items turns costs (v ∷ vs) a = (1 + costs v) + charged_behind (turns v a) (cost_of_items turns costs vs)

-- what follows of a range's items; the range's error stays
abbrev pub over_range : Option (Result (List Value) CelError) → (List Value → Option Outcome) → Option Outcome
over_range None f = None
over_range (Some (Err e)) f = Some (Err e)
over_range (Some (Ok vs)) f = f vs

-- what a range's items charge
abbrev pub cost_over : Option (Result (List Value) CelError) → (List Value → ℕ) → ℕ
cost_over (Some (Ok vs)) f = f vs
cost_over _ f = 0

-- the type of an answer, if the body is a predicate
abbrev pub by_predicate : Option (Limit Truth) → CelType → Result CelType TypeRule
by_predicate None t = Err NoOverload
by_predicate (Some l) t = Ok t

-- the type of a loop's answer, by its range and its body's type
abbrev pub loop_type : Loop → Span → CelType → Result CelType TypeRule
loop_type All span t = by_predicate (limit_of Truth t) type.Bool
loop_type Exists span t = by_predicate (limit_of Truth t) type.Bool
loop_type ExistsOne span t = by_predicate (limit_of Truth t) type.Bool
loop_type Filter span t = by_predicate (limit_of Truth t) (type.List span.max true span.item)
loop_type Map span t = Ok (type.List span.max true t)

-- whether something holds of a range, if it is one
abbrev pub where_ranged : Option Span → (Span → Bool) → Bool
where_ranged None p = false
where_ranged (Some span) p = p span
