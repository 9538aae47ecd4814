-- What a loop gathers from its items: its result may always be used where the loop leads, and it has room for each item.
use Rattle.std.proofs.Common.{◌≡◌, ℕ, ◌+◌, ◌≤◌, Bool, true, false, [], ◌∷◌, ◌++◌, length, Option, Some, None}
use Rattle.std.proofs.Common.{refl, sym, ap, subst, arith, length-append}
use Rattle.std.specs.Prelude.{Result, Ok, Err}
use Rattle.std.specs.Option.{option_map}
use Rattle.std.specs.List.{list_all}
use Rattle.std.proofs.lemmas.Bool.{and_from}
use Rattle.cel_value.specs.declared.value.Value.{Value}
use Rattle.cel_value.specs.declared.value.Value as value
use Rattle.cel_value.specs.declared.cel_type.CelType.{CelType}
use Rattle.cel_value.specs.declared.cel_type.CelType as type
use Rattle.cel_value.specs.declared.cel_error.CelError.{CelError}
use Rattle.cel_value.specs.CelType.{fits, assignable}
use Rattle.cel_value.specs.declared.expr.Loop.{Loop}
use Rattle.cel_value.specs.declared.expr.Loop.TheVariants.{All, Exists, ExistsOne, Filter, Map}
use Rattle.cel_operators.specs.declared.type_rule.TypeRule.{TypeRule}
use Rattle.cel_operators.specs.declared.accumulator.Accumulator.{Accumulator}
use Rattle.cel_operators.specs.declared.operands.Want.TheVariants.{Truth}
use Rattle.cel_operators.specs.Outcomes.{Outcome, Side}
use Rattle.cel_operators.specs.Wants.{Limit, limit_of, is_there}
use Rattle.cel_operators.specs.declared.limit.Span.{Span}
use Rattle.cel_operators.specs.Loops.{is_one, one_more, nothing_yet, first_error, Turn, Closes, GoesOn}
use Rattle.cel_operators.specs.Loops.{turn_all, turn_exists, turn_exists_one, turn_filter, turn_map}
use Rattle.cel_operators.specs.Loops.{turn, error_or, result_of, by_predicate, loop_type}
use Rattle.cel_operators.proofs.Opened.{bool_fits, list_fits}
use Rattle.cel_operators.proofs.Rows.{wider}
use Rattle.cel_verify.specs.StackTypes.{Fits}
use Rattle.cel_verify.specs.Sound.{no_items}
use Rattle.cel_verify.proofs.Sides.{truth_side}
use Rattle.cel_verify.proofs.Growing.{list_grows}

-- the type of a predicate's answer
predicate_is : (o : Option (Limit Truth)) (t s : CelType) → by_predicate o t ≡ Ok s → (is_there o ≡ true) × (t ≡ s)
predicate_is None t s e = cc
predicate_is (Some l) t s e = (refl, cc)

-- a rule gives one type
pub same_ok : (r : Result CelType TypeRule) (s t : CelType) → r ≡ Ok s → r ≡ Ok t → s ≡ t
same_ok r s t e f = cc

-- the result of no items is of the type that a loop over no items gives
pub empty_fits : (l : Loop) (s : CelType) → loop_type l no_items type.Never ≡ Ok s → Fits (result_of l nothing_yet) s
empty_fits All s e =
    subst (Fits (Ok (value.Bool true))) (predicate_is (limit_of Truth type.Never) type.Bool s e).1 (bool_fits true)
empty_fits Exists s e =
    subst (Fits (Ok (value.Bool false))) (predicate_is (limit_of Truth type.Never) type.Bool s e).1 (bool_fits false)
empty_fits ExistsOne s e =
    subst (Fits (Ok (value.Bool false))) (predicate_is (limit_of Truth type.Never) type.Bool s e).1 (bool_fits false)
empty_fits Filter s e =
    subst (Fits (Ok (value.List []))) (predicate_is (limit_of Truth type.Never) (type.List 0 true type.Never) s e).1
    (list_fits [] 0 true type.Never (omega arith) refl)
empty_fits Map s e =
    let is = same_ok (loop_type Map no_items type.Never) (type.List 0 true type.Never) s refl e in
    subst (Fits (Ok (value.List []))) is (list_fits [] 0 true type.Never (omega arith) refl)

-- a turn ends with what may be used where the loop leads, or goes on with such a result and at most so many items
abbrev pub TurnFits : Loop → CelType → ℕ → Turn → Type 0
TurnFits l top n (Closes x) = Fits x top
TurnFits l top n (GoesOn a) = Fits (result_of l a) top × (length a.items ≤ n)

error_is : (o : Option CelError) (e : CelError) (b : Bool) → (z : CelError) × (error_or (first_error o e) b ≡ Err z)
error_is None e b = (e, refl)
error_is (Some f) e b = (f, refl)

-- with an error the result is an error, which is of each type
error_fits : (o : Option CelError) (e : CelError) (b : Bool) (top : CelType) → Fits (error_or (first_error o e) b) top
error_fits o e b top = let z = error_is o e b in subst (λ x. Fits x top) (sym z.1) refl

any_bool : (s top : CelType) (b : Bool) → type.Bool ≡ s → assignable s top ≡ true → Fits (Ok (value.Bool b)) top
any_bool s top b e h = wider s top (Some (Ok (value.Bool b))) h (subst (Fits (Ok (value.Bool b))) e (bool_fits b))

-- one item more, if a list of so many of its type is assignable
item_more : (a : Accumulator) (v : Value) (max : ℕ) (t s top : CelType) → type.List max true t ≡ s → assignable s top ≡ true
    → fits v t ≡ true → Fits (Ok (value.List a.items)) top → length a.items + 1 ≤ max
    → Fits (Ok (value.List (a.items ++ v ∷ []))) top × (length (a.items ++ v ∷ []) ≤ length a.items + 1)
item_more a v max t s top e h f g room =
    let takes : assignable (type.List max true t) top ≡ true = subst (λ u. assignable u top ≡ true) (sym e) h in
    let one : list_all (λ w. fits w t) (v ∷ []) ≡ true = and_from (fits v t) true f refl in (
      list_grows top a.items (v ∷ []) max t takes g one (omega arith),
      omega (arith, length-append a.items (v ∷ [])),
    )

all_fits : (a : Accumulator) (y : Side) (s top : CelType) → type.Bool ≡ s → assignable s top ≡ true
    → Fits (result_of All a) top → TurnFits All top (length a.items + 1) (turn_all a y)
all_fits a (Ok false) s top e h f = any_bool s top false e h
all_fits a (Ok true) s top e h f = (f, omega arith)
all_fits a (Err c) s top e h f = (error_fits a.error c true top, omega arith)

exists_fits : (a : Accumulator) (y : Side) (s top : CelType) → type.Bool ≡ s → assignable s top ≡ true
    → Fits (result_of Exists a) top → TurnFits Exists top (length a.items + 1) (turn_exists a y)
exists_fits a (Ok true) s top e h f = any_bool s top true e h
exists_fits a (Ok false) s top e h f = (f, omega arith)
exists_fits a (Err c) s top e h f = (error_fits a.error c false top, omega arith)

exists_one_fits : (a : Accumulator) (y : Side) (s top : CelType) → type.Bool ≡ s → assignable s top ≡ true
    → Fits (result_of ExistsOne a) top → TurnFits ExistsOne top (length a.items + 1) (turn_exists_one a y)
exists_one_fits a (Ok true) s top e h f = (any_bool s top (is_one (one_more a.tally)) e h, omega arith)
exists_one_fits a (Ok false) s top e h f = (f, omega arith)
exists_one_fits a (Err c) s top e h f = refl

filter_fits : (v : Value) (a : Accumulator) (y : Side) (max : ℕ) (t s top : CelType) → type.List max true t ≡ s
    → assignable s top ≡ true → fits v t ≡ true → Fits (result_of Filter a) top → length a.items + 1 ≤ max
    → TurnFits Filter top (length a.items + 1) (turn_filter v a y)
filter_fits v a (Ok true) max t s top e h g f room = item_more a v max t s top e h g f room
filter_fits v a (Ok false) max t s top e h g f room = (f, omega arith)
filter_fits v a (Err c) max t s top e h g f room = refl

map_fits : (a : Accumulator) (x : Outcome) (max : ℕ) (t s top : CelType) → type.List max true t ≡ s
    → assignable s top ≡ true → Fits x t → Fits (result_of Map a) top → length a.items + 1 ≤ max
    → TurnFits Map top (length a.items + 1) (turn_map a x)
map_fits a (Ok v) max t s top e h g f room = item_more a v max t s top e h g f room
map_fits a (Err c) max t s top e h g f room = refl

-- the turn of a loop at an item, by what its body gives there
abbrev pub GoodTurn : Loop → Value → Accumulator → Outcome → CelType → Type 0
GoodTurn l v a x top = (y : Turn) × (turn l v a (Some x) ≡ Some y) × TurnFits l top (length a.items + 1) y

pub turn_on : (l : Loop) (v : Value) (a : Accumulator) (x : Outcome) (span : Span) (t s top : CelType)
    → loop_type l span t ≡ Ok s → assignable s top ≡ true → fits v span.item ≡ true → Fits x t → Fits (result_of l a) top
    → length a.items + 1 ≤ span.max → GoodTurn l v a x top
turn_on All v a x span t s top e h g fx f room =
    let p = predicate_is (limit_of Truth t) type.Bool s e in
    let y = truth_side x t fx p.0 in
    (turn_all a y.0, ap (option_map (turn_all a)) y.1, all_fits a y.0 s top p.1 h f)
turn_on Exists v a x span t s top e h g fx f room =
    let p = predicate_is (limit_of Truth t) type.Bool s e in
    let y = truth_side x t fx p.0 in
    (turn_exists a y.0, ap (option_map (turn_exists a)) y.1, exists_fits a y.0 s top p.1 h f)
turn_on ExistsOne v a x span t s top e h g fx f room =
    let p = predicate_is (limit_of Truth t) type.Bool s e in
    let y = truth_side x t fx p.0 in
    (turn_exists_one a y.0, ap (option_map (turn_exists_one a)) y.1, exists_one_fits a y.0 s top p.1 h f)
turn_on Filter v a x span t s top e h g fx f room =
    let p = predicate_is (limit_of Truth t) (type.List span.max true span.item) s e in
    let y = truth_side x t fx p.0 in
    (turn_filter v a y.0, ap (option_map (turn_filter v a)) y.1, filter_fits v a y.0 span.max span.item s top p.1 h g f room)
turn_on Map v a x span t s top e h g fx f room =
    let is = same_ok (loop_type Map span t) (type.List span.max true t) s refl e in
    (turn_map a x, refl, map_fits a x span.max t s top is h fx f room)
