-- The type of what may be run.
use Rattle.std.proofs.Common.{◌≡◌, ℕ, Bool, true, false, Some, Result, Ok, Err, nat_lt, if◌then◌else◌, refl, sym, ap, ◌∙◌}
use Rattle.cel_value.specs.Views.{capped}
use Rattle.cel_check.specs.declared.tree.TypedTree.{TypedTree}
use Rattle.cel_estimate.specs.Estimate.{estimate_of, budget}
use Rattle.cel_expression.specs.declared.refusal.Refusal.TheVariants as refusal
use Rattle.cel_expression.specs.Source.{Source}
use Rattle.cel_expression.specs.Expressions.{Typed, type_in, type_at, allowed, accepted_of, compiled_of, root_type, typed_of}
use Rattle.cel_expression.specs.Expressions.{within_budget}
use Rattle.vap_policy_programs.proofs.Standing.{compiled_is}

not_over : (over : Bool) (s x : Source) (n : ℕ) (tree : TypedTree)
    → allowed s (if over then Err (refusal.OverBudget n) else Ok tree) ≡ Ok x
    → root_type (Ok tree) ≡ Some (type_in (if over then Err (refusal.OverBudget n) else Ok tree))
not_over true s x n tree e = absurd cc
not_over false s x n tree e = refl

type_by : (s x : Source) (r : Typed) → allowed s (within_budget r) ≡ Ok x → root_type r ≡ Some (type_in (within_budget r))
type_by s x (Ok tree) e = not_over (nat_lt budget (estimate_of tree)) s x (capped (estimate_of tree)) tree e
type_by s x (Err why) e = absurd cc

type_of_source : (s x : Source) → compiled_of s ≡ Ok x → root_type (typed_of s) ≡ Some (type_at s)
unfolding compiled_of accepted_of type_at
type_of_source s x e = type_by s x (typed_of s) e

-- what may be run is of the type that checking found
pub type_is : (s x : Source) → compiled_of s ≡ Ok x → root_type (typed_of s) ≡ Some (type_at x)
type_is s x e = type_of_source s x e ∙ ap (λ z. Some (type_at z)) (sym (compiled_is s x e))
