-- What the code of `&&`, `||` and a conditional does.
use Rattle.std.proofs.Common.{◌≡◌, ℕ, ◌+◌, Bool, true, false, List, ◌∷◌, Option, Some, None, refl, ap, ◌∙◌, subst, arith}
use Rattle.std.specs.Prelude.{Ok, Err}
use Rattle.cel_code.specs.declared.instr.Instr.TheVariants.{AndTest, OrTest, And, Or, Cond, Jump}
use Rattle.cel_code.specs.declared.image.Image.{Image}
use Rattle.cel_operators.specs.Outcomes.{Outcome, Side, and_of, or_of, both_sides, and_value, or_value, conditional_value, unless_false}
use Rattle.cel_operators.specs.Outcomes.{unless_true, of_branch}
use Rattle.cel_operators.specs.Wants.{side_of}
use Rattle.cel_code.specs.Machine.{Frame, on, and_test, or_test, branch, joined, join, step}
use Rattle.cel_expression.specs.Placed.{code_in, Has}
use Rattle.cel_operators.proofs.Opened.{outcome_of, side_of_outcome, side_is}
use Rattle.cel_expression.proofs.Stretches.{Leads, leads_on, costs, one_step, Gives, at_instr}

module _ (image : Image) (slots : List Outcome) where
  module _ (frames : List Frame) where
    -- the right side, and the instruction that joins the two
    join_runs : (f : Side → Side → Outcome) (sx : Side) (o : Option Side) (from n : ℕ) (stack s : List Outcome) (c : ℕ)
        → Leads image slots (on from stack frames) (on n s frames) c
        → step image slots (on n s frames) ≡ joined (join f (Some sx) o) n stack frames
        → Gives image slots frames from stack (n + 1) (both_sides f sx o) c
    join_runs f sx None from n stack s c l e = tt
    join_runs f sx (Some sy) from n stack s c l e =
        costs image slots _ _ (c + 0) c (omega arith) (leads_on image slots _ _ _ c 0 l (one_step image slots _ _ _ e))

    right_runs : (f : Side → Side → Outcome) (x : Outcome) (sx : Side) (ob : Option Outcome) (from m n : ℕ) (stack : List Outcome)
        (c d : ℕ) → Leads image slots (on from stack frames) (on m (x ∷ stack) frames) c
        → ((s : List Outcome) → Gives image slots frames m s n ob d)
        → ((y : Outcome) → step image slots (on n (y ∷ x ∷ stack) frames) ≡ joined (join f (Some sx) (side_of (Some y))) n stack frames)
        → Gives image slots frames from stack (n + 1) (both_sides f sx (side_of ob)) (c + d)
    right_runs f x sx None from m n stack c d la lb st = tt
    right_runs f x sx (Some y) from m n stack c d la lb st =
        join_runs f sx (side_of (Some y)) from n stack (y ∷ x ∷ stack) (c + d) (leads_on image slots _ _ _ c d la (lb (x ∷ stack))) (st y)

    -- the truth value that an outcome is, and the state with it
    leads_as : (x : Outcome) (b : Bool) (from m : ℕ) (stack : List Outcome) (c : ℕ) → side_of (Some x) ≡ Some (Ok b)
        → Leads image slots (on from stack frames) (on m (x ∷ stack) frames) c
        → Leads image slots (on from stack frames) (on m (outcome_of (Ok b) ∷ stack) frames) c
    leads_as x b from m stack c e l = subst (λ y. Leads image slots (on from stack frames) (on m (y ∷ stack) frames) c) (side_is x b e) l

    -- the instructions that look at a side
    tests : (x : Outcome) (s : Side) (m n : ℕ) (stack : List Outcome) → side_of (Some x) ≡ Some s → Has (code_in image) m (AndTest n)
        → step image slots (on m (x ∷ stack) frames) ≡ and_test (Some s) n m (x ∷ stack) frames
    tests x s m n stack e h = at_instr image slots frames m _ _ h ∙ ap (λ o. and_test o n m (x ∷ stack) frames) e

    tests_or : (x : Outcome) (s : Side) (m n : ℕ) (stack : List Outcome) → side_of (Some x) ≡ Some s → Has (code_in image) m (OrTest n)
        → step image slots (on m (x ∷ stack) frames) ≡ or_test (Some s) n m (x ∷ stack) frames
    tests_or x s m n stack e h = at_instr image slots frames m _ _ h ∙ ap (λ o. or_test o n m (x ∷ stack) frames) e

    branches : (x : Outcome) (s : Side) (m n to : ℕ) (stack : List Outcome) → side_of (Some x) ≡ Some s → Has (code_in image) m (Cond n to)
        → step image slots (on m (x ∷ stack) frames) ≡ branch (Some s) n to m stack frames
    branches x s m n to stack e h = at_instr image slots frames m _ _ h ∙ ap (λ o. branch o n to m stack frames) e

    joins_and : (x : Outcome) (s : Side) (n : ℕ) (stack : List Outcome) → side_of (Some x) ≡ Some s → Has (code_in image) n And
        → (y : Outcome) → step image slots (on n (y ∷ x ∷ stack) frames) ≡ joined (join and_of (Some s) (side_of (Some y))) n stack frames
    joins_and x s n stack e h y = at_instr image slots frames n _ _ h ∙ ap (λ o. joined (join and_of o (side_of (Some y))) n stack frames) e

    joins_or : (x : Outcome) (s : Side) (n : ℕ) (stack : List Outcome) → side_of (Some x) ≡ Some s → Has (code_in image) n Or
        → (y : Outcome) → step image slots (on n (y ∷ x ∷ stack) frames) ≡ joined (join or_of (Some s) (side_of (Some y))) n stack frames
    joins_or x s n stack e h y = at_instr image slots frames n _ _ h ∙ ap (λ o. joined (join or_of o (side_of (Some y))) n stack frames) e

    and_by : (x : Outcome) (o : Option Side) (ob : Option Outcome) (from m n : ℕ) (stack : List Outcome) (c d : ℕ) → side_of (Some x) ≡ o
        → Has (code_in image) m (AndTest (n + 1)) → Has (code_in image) n And
        → Leads image slots (on from stack frames) (on m (x ∷ stack) frames) c
        → ((s : List Outcome) → Gives image slots frames (m + 1) s n ob d)
        → Gives image slots frames from stack (n + 1) (and_value o (side_of ob)) (c + 1 + unless_false o d)
    and_by x None ob from m n stack c d e hm hn la lb = tt
    and_by x (Some (Ok false)) ob from m n stack c d e hm hn la lb =
        costs image slots _ _ (c + 1) _ (omega arith)
        (leads_on image slots _ _ _ c 1 (leads_as x false from m stack c e la)
        (one_step image slots _ _ 1 (tests (outcome_of (Ok false)) (Ok false) m (n + 1) stack (side_of_outcome (Ok false)) hm)))
    and_by x (Some (Ok true)) ob from m n stack c d e hm hn la lb =
        right_runs and_of x (Ok true) ob from (m + 1) n stack (c + 1) d
        (leads_on image slots _ _ _ c 1 la (one_step image slots _ _ 1 (tests x (Ok true) m (n + 1) stack e hm))) lb
        (joins_and x (Ok true) n stack e hn)
    and_by x (Some (Err f)) ob from m n stack c d e hm hn la lb =
        right_runs and_of x (Err f) ob from (m + 1) n stack (c + 1) d
        (leads_on image slots _ _ _ c 1 la (one_step image slots _ _ 1 (tests x (Err f) m (n + 1) stack e hm))) lb
        (joins_and x (Err f) n stack e hn)

    pub and_runs : (oa ob : Option Outcome) (from m n : ℕ) (stack : List Outcome) (c d : ℕ) → Has (code_in image) m (AndTest (n + 1))
        → Has (code_in image) n And
        → Gives image slots frames from stack m oa c → ((s : List Outcome) → Gives image slots frames (m + 1) s n ob d)
        → Gives image slots frames from stack (n + 1) (and_value (side_of oa) (side_of ob)) (c + 1 + unless_false (side_of oa) d)
    and_runs None ob from m n stack c d hm hn la lb = tt
    and_runs (Some x) ob from m n stack c d hm hn la lb = and_by x (side_of (Some x)) ob from m n stack c d refl hm hn la lb

    or_by : (x : Outcome) (o : Option Side) (ob : Option Outcome) (from m n : ℕ) (stack : List Outcome) (c d : ℕ) → side_of (Some x) ≡ o
        → Has (code_in image) m (OrTest (n + 1)) → Has (code_in image) n Or
        → Leads image slots (on from stack frames) (on m (x ∷ stack) frames) c
        → ((s : List Outcome) → Gives image slots frames (m + 1) s n ob d)
        → Gives image slots frames from stack (n + 1) (or_value o (side_of ob)) (c + 1 + unless_true o d)
    or_by x None ob from m n stack c d e hm hn la lb = tt
    or_by x (Some (Ok true)) ob from m n stack c d e hm hn la lb =
        costs image slots _ _ (c + 1) _ (omega arith)
        (leads_on image slots _ _ _ c 1 (leads_as x true from m stack c e la)
        (one_step image slots _ _ 1 (tests_or (outcome_of (Ok true)) (Ok true) m (n + 1) stack (side_of_outcome (Ok true)) hm)))
    or_by x (Some (Ok false)) ob from m n stack c d e hm hn la lb =
        right_runs or_of x (Ok false) ob from (m + 1) n stack (c + 1) d
        (leads_on image slots _ _ _ c 1 la (one_step image slots _ _ 1 (tests_or x (Ok false) m (n + 1) stack e hm))) lb
        (joins_or x (Ok false) n stack e hn)
    or_by x (Some (Err f)) ob from m n stack c d e hm hn la lb =
        right_runs or_of x (Err f) ob from (m + 1) n stack (c + 1) d
        (leads_on image slots _ _ _ c 1 la (one_step image slots _ _ 1 (tests_or x (Err f) m (n + 1) stack e hm))) lb
        (joins_or x (Err f) n stack e hn)

    pub or_runs : (oa ob : Option Outcome) (from m n : ℕ) (stack : List Outcome) (c d : ℕ) → Has (code_in image) m (OrTest (n + 1))
        → Has (code_in image) n Or
        → Gives image slots frames from stack m oa c → ((s : List Outcome) → Gives image slots frames (m + 1) s n ob d)
        → Gives image slots frames from stack (n + 1) (or_value (side_of oa) (side_of ob)) (c + 1 + unless_true (side_of oa) d)
    or_runs None ob from m n stack c d hm hn la lb = tt
    or_runs (Some x) ob from m n stack c d hm hn la lb = or_by x (side_of (Some x)) ob from m n stack c d refl hm hn la lb

    -- a branch after the condition
    branch_runs : (o : Option Outcome) (from m to : ℕ) (stack : List Outcome) (c d : ℕ)
        → Leads image slots (on from stack frames) (on m stack frames) c → Gives image slots frames m stack to o d
        → Gives image slots frames from stack to o (c + d)
    branch_runs None from m to stack c d l r = tt
    branch_runs (Some x) from m to stack c d l r = leads_on image slots _ _ _ c d l r

    jump_runs : (o : Option Outcome) (from m to : ℕ) (stack : List Outcome) (c : ℕ) → Has (code_in image) m (Jump to)
        → Gives image slots frames from stack m o c → Gives image slots frames from stack to o c
    jump_runs None from m to stack c h l = tt
    jump_runs (Some x) from m to stack c h l =
        costs image slots _ _ (c + 0) c (omega arith)
        (leads_on image slots _ _ _ c 0 l (one_step image slots _ _ 0 (at_instr image slots frames m _ _ h)))

    conditional_by : (x : Outcome) (o : Option Side) (oa ob : Option Outcome) (from m n to : ℕ) (stack : List Outcome) (c d e : ℕ)
        → side_of (Some x) ≡ o → Has (code_in image) m (Cond (n + 1) to) → Has (code_in image) n (Jump to)
        → Leads image slots (on from stack frames) (on m (x ∷ stack) frames) c → Gives image slots frames (m + 1) stack n oa d
        → Gives image slots frames (n + 1) stack to ob e
        → Gives image slots frames from stack to (conditional_value o oa ob) (c + 1 + of_branch o d e)
    conditional_by x None oa ob from m n to stack c d e q hm hn lc la lb = tt
    conditional_by x (Some (Err f)) oa ob from m n to stack c d e q hm hn lc la lb =
        costs image slots _ _ (c + 1) _ (omega arith)
        (leads_on image slots _ _ _ c 1 lc (one_step image slots _ _ 1 (branches x (Err f) m (n + 1) to stack q hm)))
    conditional_by x (Some (Ok true)) oa ob from m n to stack c d e q hm hn lc la lb =
        branch_runs oa from (m + 1) to stack (c + 1) d
        (leads_on image slots _ _ _ c 1 lc (one_step image slots _ _ 1 (branches x (Ok true) m (n + 1) to stack q hm)))
        (jump_runs oa (m + 1) n to stack d hn la)
    conditional_by x (Some (Ok false)) oa ob from m n to stack c d e q hm hn lc la lb =
        branch_runs ob from (n + 1) to stack (c + 1) e
        (leads_on image slots _ _ _ c 1 lc (one_step image slots _ _ 1 (branches x (Ok false) m (n + 1) to stack q hm))) lb

    pub conditional_runs : (oc oa ob : Option Outcome) (from m n to : ℕ) (stack : List Outcome) (c d e : ℕ)
        → Has (code_in image) m (Cond (n + 1) to)
        → Has (code_in image) n (Jump to) → Gives image slots frames from stack m oc c → Gives image slots frames (m + 1) stack n oa d
        → Gives image slots frames (n + 1) stack to ob e
        → Gives image slots frames from stack to (conditional_value (side_of oc) oa ob) (c + 1 + of_branch (side_of oc) d e)
    conditional_runs None oa ob from m n to stack c d e hm hn lc la lb = tt
    conditional_runs (Some x) oa ob from m n to stack c d e hm hn lc la lb =
        conditional_by x (side_of (Some x)) oa ob from m n to stack c d e refl hm hn lc la lb
