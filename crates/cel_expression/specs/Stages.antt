-- What is found of a text before anything is compiled.
use Rattle.std.specs.Prelude.{◌≡◌, ◌≤◌, ℕ, IsTrue, List, Result, Ok, Err}
use Rattle.cel_value.specs.declared.cel_type.CelType.{CelType}
use Rattle.cel_check.specs.declared.tree.TypedTree.{TypedTree}
use Rattle.cel_check.specs.Meaning.{cost_of}
use Rattle.cel_operators.specs.Outcomes.{Outcome, slots_fit, outside}
use Rattle.cel_estimate.specs.Estimate.{estimate_of, budget}
use Rattle.cel_expression.specs.declared.refusal.Refusal.{Refusal}
use Rattle.cel_expression.specs.declared.stages.Accepted.{Accepted}
use Rattle.cel_expression.specs.Expressions.{Typed}

-- whatever the slots hold that fits these types, the expression charges no more
abbrev pub Bounds : List CelType → TypedTree → ℕ → Type 0
Bounds types tree most = (slots : List Outcome) → IsTrue (slots_fit types slots) → cost_of tree (outside slots) ≤ most

-- the tree that may be run at slots of these types, with its estimate
pub record IsRated (types : List CelType) (typed : Typed) (a : Accepted) : Type 0 where
  pub tree : typed ≡ Ok a.typed.tree
  pub slots : a.typed.slots ≡ types
  pub estimate : a.estimate ≡ estimate_of a.typed.tree
  pub within : a.estimate ≤ budget
  pub bounds : Bounds types a.typed.tree a.estimate

-- what was found is the tree that may be run, or why none may
abbrev pub IsFound : List CelType → Typed → Result Accepted Refusal → Type 0
IsFound types typed (Ok a) = IsRated types typed a
IsFound types typed (Err why) = typed ≡ Err why
