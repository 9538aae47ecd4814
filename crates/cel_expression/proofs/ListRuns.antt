-- What the code of lists and maps does.
use Rattle.std.proofs.Common.{◌≡◌, ℕ, zero, suc, ◌+◌, List, [], ◌∷◌, ◌++◌, length, map, Option, Some, None, refl, sym, ap, ◌∙◌, arith}
use Rattle.std.proofs.lemmas.List.{append-nil}
use Rattle.cel_value.specs.declared.expr.Entry.{Entry}
use Rattle.cel_check.specs.declared.tree.TypedTree.{TypedTree}
use Rattle.cel_code.specs.declared.image.Image.{Image}
use Rattle.cel_operators.specs.Outcomes.{Outcome, Env}
use Rattle.cel_operators.specs.Operators.{outcome_made, charge_made}
use Rattle.cel_check.specs.Meaning.{value_of, priced_of, values_at, values_priced}
use Rattle.cel_value.specs.Turns.{by_turns}
use Rattle.cel_operators.specs.Lists.{in_front, each_there, list_made, list_where}
use Rattle.cel_operators.specs.Maps.{map_made, map_where}
use Rattle.cel_code.specs.Machine.{mapped as map_of, taken_off, listed, Frame, on}
use Rattle.cel_expression.specs.Placed.{code_in, Has}
use Rattle.cel_code.specs.declared.instr.Instr.TheVariants as instr
use Rattle.cel_check.proofs.Levels.{value_is}
use Rattle.cel_expression.proofs.Stretches.{Leads, leads_on, one_step, Gives, at_instr}
use Rattle.cel_expression.proofs.OperatorRuns.{made_runs}

-- outcomes one after another on a stack, the last one on top
abbrev pub over : List Outcome → List Outcome → List Outcome
over [] stack = stack
over (x ∷ xs) stack = over xs (x ∷ stack)

taken_over : (xs taken stack : List Outcome) (k m : ℕ) → k ≡ length xs + m
    → taken_off k taken (over xs stack) ≡ taken_off m (xs ++ taken) stack
taken_over [] taken stack k m e = let same : k ≡ m = omega (arith, e) in ap (λ n. taken_off n taken stack) same
taken_over (x ∷ xs) taken stack k m e = taken_over xs taken (x ∷ stack) k (suc m) (omega (arith, e))

all_taken : (xs stack : List Outcome) (n : ℕ) → n ≡ length xs → taken_off n [] (over xs stack) ≡ Some (xs, stack)
all_taken xs stack n e = taken_over xs [] stack n zero (omega (arith, e)) ∙ ap (λ ys. Some (ys, stack)) (append-nil xs)

-- so many, if they are there
abbrev pub LongOf : ℕ → Option (List Outcome) → Type 0
LongOf n None = Unit {0}
LongOf n (Some xs) = length xs ≡ n

front_long : (o : Option Outcome) (os : Option (List Outcome)) (n : ℕ) → LongOf n os → LongOf (suc n) (in_front o os)
front_long None os n h = tt
front_long (Some x) None n h = tt
front_long (Some x) (Some xs) n h = ap suc h

pub there_long : (os : List (Option Outcome)) → LongOf (length os) (each_there os)
there_long [] = refl
there_long (o ∷ os) = front_long o (each_there os) (length os) (there_long os)

pub values_long : (xs : List TypedTree) (env : Env) → length (values_at (map value_of xs) env) ≡ length xs
values_long [] env = refl
values_long (x ∷ xs) env = ap suc (values_long xs env)

-- each entry has a key and a value
pub turns_long : (es : List (Entry TypedTree)) → length (by_turns es) ≡ length es + length es
turns_long [] = refl
turns_long (e ∷ es) = omega (arith, turns_long es)

-- the values that costs ask for
pub all_asked : (xs : List TypedTree) → values_priced (map priced_of xs) ≡ map value_of xs
all_asked [] = refl
all_asked (x ∷ xs) = ap (λ v. v ∷ values_priced (map priced_of xs)) (value_is x) ∙ ap (λ vs. value_of x ∷ vs) (all_asked xs)

module _ (image : Image) (slots : List Outcome) where
  module _ (frames : List Frame) where
    -- what the code of several does: their values or errors on the stack, the last one on top
    abbrev pub GivesEach : ℕ → List Outcome → ℕ → Option (List Outcome) → ℕ → Type 0
    GivesEach from stack to None cost = Unit {0}
    GivesEach from stack to (Some xs) cost = Leads image slots (on from stack frames) (on to (over xs stack) frames) cost

    pub front_runs : (o : Option Outcome) (os : Option (List Outcome)) (from m to : ℕ) (stack : List Outcome) (c d : ℕ)
        → Gives image slots frames from stack m o c → ((s : List Outcome) → GivesEach m s to os d)
        → GivesEach from stack to (in_front o os) (c + d)
    front_runs None os from m to stack c d l r = tt
    front_runs (Some x) None from m to stack c d l r = tt
    front_runs (Some x) (Some xs) from m to stack c d l r = leads_on image slots _ _ _ c d l (r (x ∷ stack))

    pub list_runs : (n : ℕ) (os : Option (List Outcome)) (from m : ℕ) (stack : List Outcome) (c : ℕ) → LongOf n os
        → Has (code_in image) m (instr.List n) → GivesEach from stack m os c
        → Gives image slots frames from stack (m + 1) (outcome_made (list_where os)) (c + charge_made (list_where os))
    list_runs n None from m stack c long h l = tt
    list_runs n (Some xs) from m stack c long h l =
        leads_on image slots _ _ _ c (list_made xs).charge l
        (one_step image slots _ _ _ (at_instr image slots frames m (instr.List n) (over xs stack) h
        ∙ ap (λ p. listed p m frames) (all_taken xs stack n (sym long))))

    pub map_runs : (n : ℕ) (os : Option (List Outcome)) (from m : ℕ) (stack : List Outcome) (c : ℕ) → LongOf (n + n) os
        → Has (code_in image) m (instr.Map n) → GivesEach from stack m os c
        → Gives image slots frames from stack (m + 1) (outcome_made (map_where os)) (c + charge_made (map_where os))
    map_runs n None from m stack c long h l = tt
    map_runs n (Some xs) from m stack c long h l =
        made_runs image slots frames (map_made xs) from m stack (over xs stack) c l
        (at_instr image slots frames m (instr.Map n) (over xs stack) h
        ∙ ap (λ p. map_of p m frames) (all_taken xs stack (n + n) (sym long)))
