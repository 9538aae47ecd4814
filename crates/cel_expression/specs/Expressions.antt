-- What the text of an expression results in: its typed tree, its estimate, its value and its cost, or why it is refused.
use Rattle.std.specs.Prelude.{ℕ, ◌-◌, nat_lt, List, Option, Some, None, Result, Ok, Err, option_map, if◌then◌else◌}
use Rattle.cel_value.specs.declared.cel_type.CelType.{CelType}
use Rattle.cel_value.specs.declared.cel_type.CelType as type
use Rattle.cel_parse.specs.declared.fault.ParseFault.{ParseFault}
use Rattle.cel_value.specs.declared.expr.Expr.{Expr}
use Rattle.cel_value.specs.Views.{capped}
use Rattle.cel_parse.specs.Parsed.{parsed}
use Rattle.cel_check.specs.declared.tree.TypedTree.{TypedTree}
use Rattle.cel_check.specs.Typing.{Names, Checked, names_of, checked_within}
use Rattle.cel_check.specs.Meaning.{type_of, value_of, cost_of}
use Rattle.cel_operators.specs.Outcomes.{Outcome, outside}
use Rattle.cel_estimate.specs.Estimate.{estimate_of, budget}
use Rattle.cel_expression.specs.declared.refusal.Refusal.{Refusal}
use Rattle.cel_expression.specs.declared.refusal.Refusal.TheVariants as refusal
use Rattle.cel_expression.specs.Source.{Source}

-- the names of a scope with no loop open, by a choice
abbrev pub names_in : Source → Names
names_in s = names_of s.choice (record { names = s.names })

-- a typed tree, or why there is none
abbrev pub Typed : Type 0
Typed = Result TypedTree Refusal

-- what checking answered
abbrev pub told : Checked → Typed
told (Err fault) = Err (refusal.Type fault)
told (Ok tree) = Ok tree

-- the typed tree of an expression, if the text spells one
abbrev pub typed_at : Names → Result Expr ParseFault → Typed
typed_at names (Err fault) = Err (refusal.Parse fault)
typed_at names (Ok e) = told (checked_within e names)

-- the typed tree that a text spells in its scope: the fault of its parts comes before that of its types
unfoldable pub typed_of : Source → Typed
typed_of s = typed_at (names_in s) (parsed s.text)

-- the type of a tree, if there is one
abbrev pub root_type : Typed → Option CelType
root_type (Err why) = None
root_type (Ok tree) = Some (type_of tree)

-- a tree within the budget
abbrev pub within_budget : Typed → Typed
within_budget (Err why) = Err why
within_budget (Ok tree) = if nat_lt budget (estimate_of tree) then Err (refusal.OverBudget (capped (estimate_of tree))) else Ok tree

-- the typed tree of an expression that may be run, or why it may not
unfoldable pub accepted_of : Source → Typed
accepted_of s = within_budget (typed_of s)

-- what a run results in, and what it charges
pub record Ran : Type 0 where
  pub outcome : Outcome
  pub charged : ℕ

-- the value or error of a tree, and its cost
abbrev pub ran_at : TypedTree → List Outcome → Option Ran
ran_at tree slots = option_map (λ x. record { outcome = x; charged = cost_of tree (outside slots) }) (value_of tree (outside slots))

-- the same of an expression, if it may be run
abbrev pub ran_in : Typed → List Outcome → Option Ran
ran_in (Err why) slots = None
ran_in (Ok tree) slots = ran_at tree slots

-- what an expression evaluates to from its text, if its names have these values; no image is used for it
unfoldable pub run_of : Source → List Outcome → Option Ran
run_of s slots = ran_in (accepted_of s) slots

-- the type of an expression's answers
abbrev pub type_in : Typed → CelType
type_in (Err why) = type.Never
type_in (Ok tree) = type_of tree

-- the same of an expression as it is written
unfoldable pub type_at : Source → CelType
type_at s = type_in (accepted_of s)

-- the most that it may charge
abbrev pub estimate_in : Typed → ℕ
estimate_in (Err why) = 0
estimate_in (Ok tree) = estimate_of tree

-- the same of an expression as it is written
unfoldable pub estimate_at : Source → ℕ
estimate_at s = estimate_in (accepted_of s)

-- a source that may be run, as itself, or why it may not
abbrev pub allowed : Source → Typed → Result Source Refusal
allowed s (Err why) = Err why
allowed s (Ok tree) = Ok s

-- the expression that is compiled of a source, which contracts see as the source, or why there is none
unfoldable pub compiled_of : Source → Result Source Refusal
compiled_of s = allowed s (accepted_of s)
