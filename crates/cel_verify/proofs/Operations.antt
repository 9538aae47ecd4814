-- An operator by the number of its operands: its rule and its charge.
use Rattle.std.proofs.Common.{◌≡◌, ℕ, List, [], ◌∷◌, Option, Some, None, refl}
use Rattle.std.specs.Prelude.{unwrap_or, option_map}
use Rattle.cel_operators.specs.declared.operands.Operands.TheVariants as operands
use Rattle.cel_operators.specs.declared.operands.Want.{Want}
use Rattle.cel_operators.specs.declared.text_operator.TextOperator.{TextOperator}
use Rattle.cel_operators.specs.declared.text_operator.TextOperator.TheVariants.{Select, Has, Matches}
use Rattle.cel_operators.specs.Operators.{Row, One, Two, operands_of}
use Rattle.cel_operators.specs.declared.limit.Span.{Span}
use Rattle.cel_operators.specs.TextOperators.{row_with}
use Rattle.cel_verify.specs.StackTypes.{StackTypes}
use Rattle.cel_verify.specs.Sound.{row_rule}
use Rattle.cel_verify.specs.Paths.{row_charge, most_items}
use Rattle.cel_verify.specs.Walked.{rule_of_one, rule_of_two, charge_on_one, charge_on_two}

-- the rule of an operator with one operand, and of one with two
pub rule_by_one : (r : Row) (w : Want) (ts : StackTypes) → operands_of r ≡ operands.One w → row_rule r ts ≡ rule_of_one r ts
rule_by_one (One u r) w [] e = refl
rule_by_one (One u r) w (s ∷ ts) e = refl
rule_by_one (Two u v r) w ts e = cc

pub rule_by_two : (r : Row) (v w : Want) (ts : StackTypes) → operands_of r ≡ operands.Two v w → row_rule r ts ≡ rule_of_two r ts
rule_by_two (One u r) v w ts e = cc
rule_by_two (Two u x r) v w [] e = refl
rule_by_two (Two u x r) v w (t ∷ []) e = refl
rule_by_two (Two u x r) v w (t ∷ s ∷ ts) e = refl

-- the greatest charge of an operator, likewise
pub charge_by_one : (r : Row) (w : Want) (ts : StackTypes) → operands_of r ≡ operands.One w → row_charge r ts ≡ charge_on_one r ts
charge_by_one (One u r) w [] e = refl
charge_by_one (One u r) w (s ∷ ts) e = refl
charge_by_one (Two u v r) w ts e = cc

pub charge_by_two : (r : Row) (v w : Want) (ts : StackTypes) → operands_of r ≡ operands.Two v w
    → row_charge r ts ≡ charge_on_two r ts
charge_by_two (One u r) v w ts e = cc
charge_by_two (Two u x r) v w [] e = refl
charge_by_two (Two u x r) v w (t ∷ []) e = refl
charge_by_two (Two u x r) v w (t ∷ s ∷ ts) e = refl

-- an operator with a text has one operand
pub rule_with : (op : TextOperator) (text : List ℕ) (ts : StackTypes)
    → rule_of_one (row_with op text) ts ≡ row_rule (row_with op text) ts
rule_with Select text [] = refl
rule_with Select text (s ∷ ts) = refl
rule_with Has text [] = refl
rule_with Has text (s ∷ ts) = refl
rule_with Matches text [] = refl
rule_with Matches text (s ∷ ts) = refl

pub charge_with : (op : TextOperator) (text : List ℕ) (ts : StackTypes)
    → charge_on_one (row_with op text) ts ≡ row_charge (row_with op text) ts
charge_with Select text [] = refl
charge_with Select text (s ∷ ts) = refl
charge_with Has text [] = refl
charge_with Has text (s ∷ ts) = refl
charge_with Matches text [] = refl
charge_with Matches text (s ∷ ts) = refl

-- the most items of a range, or none if there is none
pub most_is : (span : Option Span) → unwrap_or (option_map (λ s. s.max) span) 0 ≡ most_items span
most_is None = refl
most_is (Some s) = refl
