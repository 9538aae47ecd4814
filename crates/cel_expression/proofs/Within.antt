-- A typed expression by its estimate.
use Rattle.std.proofs.Common.{◌≡◌, ◌≤◌, ◌<◌, ◌-◌, ◌^◌, ℕ, cond, min, ap, sym, ◌∙◌}
use Rattle.std.proofs.lemmas.Bool.{le-ltb, lt-ltb}
use Rattle.std.specs.Prelude.{Ok, Err}
use Rattle.cel_value.specs.Views.{capped}
use Rattle.cel_check.specs.declared.tree.TypedTree.{TypedTree}
use Rattle.cel_estimate.specs.Estimate.{estimate_of, budget}
use Rattle.cel_expression.specs.declared.refusal.Refusal.TheVariants as refusal
use Rattle.cel_expression.specs.Expressions.{within_budget}

-- an estimate within the budget keeps the tree
pub within : (tree : TypedTree) → estimate_of tree ≤ budget → within_budget (Ok tree) ≡ Ok tree
within tree h =
    ap (λ b. cond b (Err (refusal.OverBudget (capped (estimate_of tree)))) (Ok tree)) (le-ltb budget (estimate_of tree) h)

-- one past it refuses the tree
pub past : (tree : TypedTree) (n : ℕ) → n ≡ min (estimate_of tree) (2 ^ 64 - 1) → budget < estimate_of tree
    → within_budget (Ok tree) ≡ Err (refusal.OverBudget n)
past tree n e h =
    ap (λ b. cond b (Err (refusal.OverBudget (capped (estimate_of tree)))) (Ok tree)) (lt-ltb budget (estimate_of tree) h)
    ∙ ap (λ m. Err (refusal.OverBudget m)) (sym e)
