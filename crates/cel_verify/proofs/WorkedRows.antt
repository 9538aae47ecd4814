-- The definitions at small images.
use Rattle.std.proofs.Common.{◌≡◌, ℕ, true, false, List, [], ◌∷◌, Some, None, refl}
use Rattle.std.specs.Prelude.{Ok, Err, pos}
use Rattle.cel_value.specs.declared.value.Value as value
use Rattle.cel_value.specs.declared.cel_type.CelType as type
use Rattle.cel_code.specs.declared.instr.Instr.{Instr}
use Rattle.cel_code.specs.declared.instr.Instr.TheVariants.{Const, Op, WithText, AndTest, And, Jump, End}
use Rattle.cel_code.specs.declared.instr.Instr.TheVariants as instr
use Rattle.cel_code.specs.declared.image.Image.{Image}
use Rattle.cel_operators.specs.declared.text_operator.TextOperator.TheVariants.{Matches}
use Rattle.cel_operators.specs.declared.type_rule.TypeRule.TheVariants.{TooLarge}
use Rattle.cel_verify.specs.declared.fault.VerifyRule.TheVariants.{Underflow, WrongKind, BadTarget, BadConstant, OverBudget}
use Rattle.cel_verify.specs.Sound.{Open, rule_at, label_at, is_nested, closing_rule}
use Rattle.cel_verify.specs.Accepted.{misplaced_entry}
use Rattle.cel_verify.proofs.ToGo.{path_cost, path_steps}
use Rattle.cel_value.proofs.Reflexive.{assignable-refl}

abbrev whole : List Instr → Image
whole code = record {
  slots = [];
  constants = value.Int (pos 1) ∷ value.Bool true ∷ [];
  targets = [];
  result = type.Int;
  declared = None;
  code = code;
}

-- an operand is missing
short : rule_at (whole (Const 0 ∷ Op 2 ∷ End ∷ [])) 1 (Some (Op 2))
    (label_at (whole (Const 0 ∷ Op 2 ∷ End ∷ [])) 1) ≡ Err Underflow
unfolding value.out-Value denote.Hole.Carrier.out
short = refl

-- an operand is of another kind
mixed : rule_at (whole (Const 1 ∷ Const 1 ∷ Op 2 ∷ End ∷ [])) 2 (Some (Op 2))
    (label_at (whole (Const 1 ∷ Const 1 ∷ Op 2 ∷ End ∷ [])) 2) ≡ Err WrongKind
unfolding value.out-Value denote.Hole.Carrier.out type.out-CelType
mixed = refl

-- there is no such constant
unnamed : rule_at (whole (Const 2 ∷ End ∷ [])) 0 (Some (Const 2)) (label_at (whole (Const 2 ∷ End ∷ [])) 0) ≡ Err BadConstant
unnamed = refl

-- there is no such kind of loop
unkind : rule_at (whole (Const 0 ∷ instr.Loop 5 5 ∷ instr.Item ∷ Const 1 ∷ instr.Next ∷ End ∷ [])) 1 (Some (instr.Loop 5 5))
    (label_at (whole (Const 0 ∷ instr.Loop 5 5 ∷ instr.Item ∷ Const 1 ∷ instr.Next ∷ End ∷ [])) 1) ≡ Err BadConstant
unkind = refl

-- a constant that is no text
untexted : rule_at (whole (Const 1 ∷ WithText Matches 1 ∷ End ∷ [])) 1 (Some (WithText Matches 1))
    (label_at (whole (Const 1 ∷ WithText Matches 1 ∷ End ∷ [])) 1) ≡ Err BadConstant
unfolding value.out-Value denote.Hole.Carrier.out
untexted = refl

-- a key that is no text
unkeyed : rule_at (whole (Const 0 ∷ Const 0 ∷ instr.Map 1 ∷ End ∷ [])) 2 (Some (instr.Map 1))
    (label_at (whole (Const 0 ∷ Const 0 ∷ instr.Map 1 ∷ End ∷ [])) 2) ≡ Err WrongKind
unfolding value.out-Value denote.Hole.Carrier.out type.out-CelType
unkeyed = refl

-- a sum is typed, and its dearest route charges 1 in four steps
sum : rule_at (whole (Const 0 ∷ Const 0 ∷ Op 2 ∷ End ∷ [])) 2 (Some (Op 2))
    (label_at (whole (Const 0 ∷ Const 0 ∷ Op 2 ∷ End ∷ [])) 2) ≡ Ok (Some (type.Int ∷ []))
unfolding value.out-Value denote.Hole.Carrier.out type.out-CelType
sum = refl

sum_cost : path_cost (whole (Const 0 ∷ Const 0 ∷ Op 2 ∷ End ∷ [])) ≡ 1
unfolding value.out-Value denote.Hole.Carrier.out type.out-CelType
sum_cost = refl

sum_steps : path_steps (whole (Const 0 ∷ Const 0 ∷ Op 2 ∷ End ∷ [])) ≡ 4
sum_steps = refl

-- `true && true`: the left's jump joins after the conjunction
abbrev both : Image
both =
    record {
      slots = [];
      constants = value.Bool true ∷ [];
      targets = record { at = 4; types = type.Bool ∷ [] } ∷ [];
      result = type.Bool;
      declared = None;
      code = Const 0 ∷ AndTest 4 ∷ Const 0 ∷ And ∷ End ∷ [];
    }

both_end : rule_at both 4 (Some End) (label_at both 4) ≡ Ok None
unfolding value.out-Value denote.Hole.Carrier.out type.out-CelType
both_end = rw (assignable-refl type.Bool) refl

both_cost : path_cost both ≡ 1
unfolding value.out-Value denote.Hole.Carrier.out type.out-CelType
both_cost = rw (assignable-refl type.Bool) refl

both_steps : path_steps both ≡ 5
both_steps = refl

both_targets : misplaced_entry both ≡ None
both_targets = refl

-- a jump that goes back
back : rule_at (whole (Const 0 ∷ Jump 0 ∷ End ∷ [])) 1 (Some (Jump 0))
    (label_at (whole (Const 0 ∷ Jump 0 ∷ End ∷ [])) 1) ≡ Err BadTarget
back = refl

-- `list.all(x, true)` over three items at most: its body counts three times
abbrev over_three : Image
over_three =
    record {
      slots = type.List 3 true type.Int ∷ [];
      constants = value.Bool true ∷ [];
      targets = record { at = 5; types = type.Bool ∷ [] } ∷ [];
      result = type.Bool;
      declared = None;
      code = instr.Slot 0 ∷ instr.Loop 0 5 ∷ instr.Item ∷ Const 0 ∷ instr.Next ∷ End ∷ [];
    }

loop_steps : path_steps over_three ≡ 12
unfolding denote.Hole.Carrier.out type.out-CelType
loop_steps = refl

loop_cost : path_cost over_three ≡ 5
unfolding value.out-Value denote.Hole.Carrier.out type.out-CelType
loop_cost = rw (assignable-refl type.Bool) refl

-- a jump into a loop's body
into_body : is_nested (whole (Jump 3 ∷ instr.Loop 0 5 ∷ instr.Item ∷ Const 1 ∷ instr.Next ∷ End ∷ [])) 0 (Jump 3) [] ≡ false
into_body = refl

-- an inner loop that ends after the outer one
abbrev across : List Instr
across =
    Const 0 ∷ instr.Loop 3 6 ∷ instr.Item ∷ instr.Loop 3 7 ∷ instr.Item ∷ instr.Next ∷ instr.Next ∷ End ∷ []

across_bodies : is_nested (whole across) 3 (instr.Loop 3 7) [] ≡ false
across_bodies = refl

-- `true && text + text`, whose right side has a limit past the greatest
abbrev long_side : ℕ → List Instr → Image
long_side to behind =
    record {
      slots = type.Text 4294967295 ∷ [];
      constants = value.Bool true ∷ [];
      targets = record { at = to; types = type.Bool ∷ [] } ∷ [];
      result = type.Bool;
      declared = None;
      code = Const 0 ∷ AndTest to ∷ instr.Slot 0 ∷ instr.Slot 0 ∷ Op 4 ∷ behind;
    }

-- in front of a target it fits no entry
before_target : rule_at (long_side 5 (End ∷ [])) 4 (Some (Op 4)) (label_at (long_side 5 (End ∷ [])) 4) ≡ Err WrongKind
unfolding value.out-Value denote.Hole.Carrier.out type.out-CelType
before_target = rw (assignable-refl type.Bool) refl

-- in front of another instruction it is reported by itself
before_other : rule_at (long_side 6 (And ∷ End ∷ [])) 4 (Some (Op 4)) (label_at (long_side 6 (And ∷ End ∷ [])) 4) ≡ Err OverBudget
unfolding value.out-Value denote.Hole.Carrier.out type.out-CelType
before_other = rw (assignable-refl type.Bool) refl

-- what NEXT makes fits no entry either, where its loop leads
past_at_exit : (o : Open) → closing_rule o (Err TooLarge) ≡ Err WrongKind
past_at_exit o = refl
