-- Worked rows of the definitions.
use Rattle.std.proofs.Common.{◌≡◌, true, false, [], ◌∷◌, Some, None, Ok, Err, refl}
use Rattle.std.specs.Prelude.{pos, negsuc, codes}
use Rattle.cel_lex.specs.declared.fault.LexFaultKind.TheVariants as fault
use Rattle.cel_parse.specs.declared.fault.ParseFault.TheVariants.{Lex}
use Rattle.cel_value.specs.declared.expr.Loop.TheVariants as loop
use Rattle.cel_value.specs.declared.expr.Syntax.TheVariants as syntax
use Rattle.cel_parse.specs.declared.macros.Shape.TheVariants as shape
use Rattle.cel_parse.specs.Macros.{loop_of, Mark, suits_has, suits_loop, lesser}
use Rattle.cel_parse.specs.Expansion.{expr, number_of}

pub exists_one_is_a_macro : loop_of (codes "exists_one") ≡ Some loop.ExistsOne
unfolding loop_of
exists_one_is_a_macro = refl

pub exist_is_none : loop_of (codes "exist") ≡ None
unfolding loop_of
exist_is_none = refl

abbrev a_name : Mark
a_name = record { shape = shape.Name; wrong = None }

abbrev another : Mark
another = record { shape = shape.Other; wrong = None }

-- `e.map(x, p, t)` and no other loop takes three
pub map_takes_three : suits_loop loop.Map (a_name ∷ another ∷ another ∷ []) ≡ true
map_takes_three = refl

pub all_takes_two : suits_loop loop.All (a_name ∷ another ∷ another ∷ []) ≡ false
all_takes_two = refl

pub has_wants_a_select : suits_has (a_name ∷ []) ≡ false
has_wants_a_select = refl

pub lesser_place : lesser (Some 8) (Some 4) ≡ Some 4
lesser_place = refl

pub least_is_in_range : number_of 3 true 9223372036854775808 ≡ Ok (expr 3 (syntax.Int (negsuc 9223372036854775807)))
least_is_in_range = refl

pub past_greatest_is_out : number_of 3 false 9223372036854775808 ≡ Err (Lex (record { kind = fault.IntRange; place = 3 }))
past_greatest_is_out = refl

pub greatest_is_in_range : number_of 3 false 9223372036854775807 ≡ Ok (expr 3 (syntax.Int (pos 9223372036854775807)))
greatest_is_in_range = refl
