-- What variables hold: each is run once, after those before it, and an error is its value (Kubernetes, "Variables").
use Rattle.std.specs.Prelude.{ℕ, ◌+◌, List, [], ◌∷◌, ◌++◌}
use Rattle.cel_operators.specs.Outcomes.{Outcome}
use Rattle.cel_expression.specs.Source.{Source}
use Rattle.vap_policy_evaluation.specs.Runs.{given, charge}

-- the values of these variables after those that were made
abbrev pub values_from : List Outcome → List Source → List Outcome → List Outcome
values_from made [] slots = made
values_from made (s ∷ ss) slots = values_from (made ++ given s (slots ++ made) ∷ []) ss slots

-- what they charge
abbrev pub values_charge : List Outcome → List Source → List Outcome → ℕ
values_charge made [] slots = 0
values_charge made (s ∷ ss) slots = charge s (slots ++ made) + values_charge (made ++ given s (slots ++ made) ∷ []) ss slots
