-- Whether the match conditions of a policy pass (Kubernetes, "Matching requests: matchConditions").
use Rattle.std.specs.Prelude.{ℕ, ◌+◌, Bool, true, false, List, [], ◌∷◌, Option, Some, None, Ok, Err}
use Rattle.std.specs.List.{list_any}
use Rattle.std.specs.Option.{option_or}
use Rattle.cel_operators.specs.Outcomes.{Outcome, Side}
use Rattle.vap_policy_programs.specs.declared.programs.Condition.{Condition}
use Rattle.vap_policy_evaluation.specs.declared.conditions.Gate.{Gate}
use Rattle.vap_policy_evaluation.specs.declared.conditions.Gate.TheVariants.{Open, Shut, Broken}
use Rattle.vap_policy_evaluation.specs.Runs.{holds, charge}
use Rattle.vap_policy_evaluation.specs.Words.{condition_error}

-- a side is false
abbrev pub is_false : Side → Bool
is_false (Ok true) = false
is_false (Ok false) = true
is_false (Err e) = false

-- a condition is false
abbrev pub is_shut : List Outcome → Condition → Bool
is_shut slots c = is_false (holds c.expression slots)

-- what is said of a side that is an error
abbrev pub said : List ℕ → Side → Option (List ℕ)
said name (Ok truth) = None
said name (Err e) = Some (condition_error name e)

-- what is said of the first condition that has an error
abbrev pub first_error : List Condition → List Outcome → Option (List ℕ)
first_error [] slots = None
first_error (c ∷ cs) slots = option_or (said c.name (holds c.expression slots)) (first_error cs slots)

-- shut, or else broken by a message, or else open
abbrev pub gate_of : Bool → Option (List ℕ) → Gate
gate_of true message = Shut
gate_of false None = Open
gate_of false (Some message) = Broken message

-- all conditions: shut if one is false, else broken by the first error, else open
abbrev pub conditions_pass : List Condition → List Outcome → Gate
conditions_pass cs slots = gate_of (list_any (is_shut slots) cs) (first_error cs slots)

-- after what is false nothing more is charged
abbrev pub unless_false : Side → ℕ → ℕ
unless_false (Ok true) n = n
unless_false (Ok false) n = 0
unless_false (Err e) n = n

-- what conditions charge, up to the first that is false
abbrev pub conditions_charge : List Condition → List Outcome → ℕ
conditions_charge [] slots = 0
conditions_charge (c ∷ cs) slots = charge c.expression slots + unless_false (holds c.expression slots) (conditions_charge cs slots)
