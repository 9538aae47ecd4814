-- What the code of a literal, a slot, a local and an operator does.
use Rattle.std.proofs.Common.{◌≡◌, ℕ, zero, suc, ◌+◌, List, [], ◌∷◌, map, Option, Some, None, refl, ap, ◌∙◌}
use Rattle.std.specs.Prelude.{Result, Ok, Err, slice_get, option_map}
use Rattle.cel_value.specs.declared.value.Value.{Value}
use Rattle.cel_operators.specs.declared.operator.Operator.{Operator}
use Rattle.cel_operators.specs.declared.text_operator.TextOperator.{TextOperator}
use Rattle.cel_code.specs.declared.instr.Instr.TheVariants.{Const, Slot, Op}
use Rattle.cel_code.specs.declared.image.Image.{Image}
use Rattle.cel_operators.specs.Outcomes.{Outcome}
use Rattle.cel_value.specs.declared.cel_error.CelError.{CelError}
use Rattle.cel_operators.specs.Wants.{taken}
use Rattle.cel_operators.specs.declared.operator.Made.{Made}
use Rattle.cel_operators.specs.Operators.{Row, One, Two, row, code_of, makes, two, at_one, at_two, outcome_made, charge_made}
use Rattle.cel_operators.specs.TextOperators.{row_with}
use Rattle.cel_operators.specs.Joined.{text_at}
use Rattle.cel_code.specs.Machine.{constant_text, operate_with, item_of, Frame, on, push, constant, made, operate, operate_by, step}
use Rattle.cel_code.specs.Machine.{slot as read_slot}
use Rattle.cel_expression.specs.Placed.{code_in, Has, Pushes, HasText}
use Rattle.cel_code.specs.declared.instr.Instr.TheVariants as instr
use Rattle.cel_operators.proofs.Opened.{out-Text}
use Rattle.cel_operators.proofs.OperatorNumbers.{operator_of-code_of}
use Rattle.cel_expression.proofs.Stretches.{Leads, leads_on, one_step, Gives, at_instr}

-- the item of an open loop
pub local_is : (frames : List Frame) (d : ℕ) → option_map Ok (slice_get (map (λ f. f.item) frames) d) ≡ item_of (slice_get frames d)
local_is [] zero = refl
local_is [] (suc d) = refl
local_is (f ∷ fs) zero = refl
local_is (f ∷ fs) (suc d) = local_is fs d

module _ (image : Image) (slots : List Outcome) where
  module _ (frames : List Frame) where
    pub push_runs : (v : Value) (from to : ℕ) (stack : List Outcome) → Pushes (code_in image) from to v
        → Leads image slots (on from stack frames) (on to (Ok v ∷ stack) frames) 0
    push_runs v from to stack p =
        rw p.next (one_step image slots _ _ 0
        (at_instr image slots frames from (Const p.number) stack p.instr ∙ ap (λ o. push (constant o) from stack frames) p.constant))

    -- what a slot holds
    pub slot_by : (n from : ℕ) (stack : List Outcome) (o : Option Outcome)
        → step image slots (on from stack frames) ≡ read_slot o from stack frames → Gives image slots frames from stack (from + 1) o 1
    slot_by n from stack None e = tt
    slot_by n from stack (Some x) e = one_step image slots _ _ 1 e

    pub slot_runs : (n from : ℕ) (stack : List Outcome) → Has (code_in image) from (Slot n)
        → Gives image slots frames from stack (from + 1) (slice_get slots n) 1
    slot_runs n from stack h = slot_by n from stack (slice_get slots n) (at_instr image slots frames from (Slot n) stack h)

    -- an operator's instruction
    pub made_runs : (o : Option Made) (from m : ℕ) (stack s : List Outcome) (c : ℕ)
        → Leads image slots (on from stack frames) (on m s frames) c
        → step image slots (on m s frames) ≡ made o m stack frames
        → Gives image slots frames from stack (m + 1) (outcome_made o) (c + charge_made o)
    made_runs None from m stack s c l e = tt
    made_runs (Some d) from m stack s c l e = leads_on image slots _ _ _ c d.charge l (one_step image slots _ _ _ e)

    pub unary_runs : (r : Row) (o : Option Outcome) (from m : ℕ) (stack : List Outcome) (c : ℕ)
        → ((s : List Outcome) → step image slots (on m s frames) ≡ operate r m s frames) → Gives image slots frames from stack m o c
        → Gives image slots frames from stack (m + 1) (outcome_made (at_one r o)) (c + charge_made (at_one r o))
    unary_runs (One w r) None from m stack c st l = tt
    unary_runs (One w r) (Some x) from m stack c st l = made_runs (at_one (One w r) (Some x)) from m stack (x ∷ stack) c l (st (x ∷ stack))
    unary_runs (Two v w r) o from m stack c st l = tt

    -- two operands; the right one is missing
    two_none : {A B : Type 0} (f : A → B → Option Made) (x : Option (Result A CelError)) → two f x None ≡ None
    two_none f None = refl
    two_none f (Some (Err e)) = refl
    two_none f (Some (Ok a)) = refl

    pub binary_runs : (r : Row) (oa ob : Option Outcome) (from m n : ℕ) (stack : List Outcome) (c d : ℕ)
        → ((s : List Outcome) → step image slots (on n s frames) ≡ operate r n s frames) → Gives image slots frames from stack m oa c
        → ((s : List Outcome) → Gives image slots frames m s n ob d)
        → Gives image slots frames from stack (n + 1) (outcome_made (at_two r oa ob)) (c + d + charge_made (at_two r oa ob))
    binary_runs (One w r) oa ob from m n stack c d st la lb = tt
    binary_runs (Two v w r) None ob from m n stack c d st la lb = tt
    binary_runs (Two v w r) (Some x) None from m n stack c d st la lb =
        rw (two_none (λ a b. makes (r.answer a b) (r.charge a b)) (taken v (Some x))) tt
    binary_runs (Two v w r) (Some x) (Some y) from m n stack c d st la lb =
        made_runs (at_two (Two v w r) (Some x) (Some y)) from n stack (y ∷ x ∷ stack) (c + d)
        (leads_on image slots _ _ _ c d la (lb (x ∷ stack)))
        (st (y ∷ x ∷ stack))

    pub text_step : (op : TextOperator) (text : List ℕ) (at : ℕ) (s : List Outcome) → HasText (code_in image) at op text
        → step image slots (on at s frames) ≡ operate (row_with op text) at s frames
    text_step op text at s h =
        at_instr image slots frames at (instr.WithText op h.number) s h.instr
        ∙ ap (λ o. operate_with op (constant_text o) at s frames) h.constant
        ∙ ap (λ v. operate_with op (text_at v) at s frames) (out-Text text)

    pub op_step : (op : Operator) (at : ℕ) (s : List Outcome) → Has (code_in image) at (Op (code_of op))
        → step image slots (on at s frames) ≡ operate (row op) at s frames
    op_step op at s h = at_instr image slots frames at _ s h ∙ ap (λ o. operate_by o at s frames) (operator_of-code_of op)
