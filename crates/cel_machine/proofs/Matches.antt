-- Typed expressions that look for patterns.
use Rattle.std.proofs.Common.{◌≡◌, Bool, true, false, ◌||◌, List, [], ◌∷◌, ap, ◌∙◌}
use Rattle.cel_value.specs.declared.cel_type.CelType.{CelType}
use Rattle.cel_operators.specs.declared.text_operator.TextOperator.{TextOperator}
use Rattle.cel_operators.specs.declared.text_operator.TextOperator.TheVariants.{Select, Has, Matches}
use Rattle.cel_check.specs.declared.tree.TypedTree.{TypedTree, fold-TypedTree, out-TypedTree}
use Rattle.cel_check.specs.declared.tree.TypedTree.TheOpen.{TypedTree-F}
use Rattle.cel_check.specs.declared.tree.TypedTree.TheFolds.{fold-roll-TypedTree, fold_out-TypedTree}
use Rattle.cel_check.specs.declared.tree.Form.{Form}
use Rattle.cel_check.specs.declared.tree.Form.TheVariants.{Literal, Slot, Local, Unary, Binary, And, Or, Conditional, ListOf, MapOf}
use Rattle.cel_check.specs.declared.tree.Form.TheVariants.{WithText, Loop, MapWhere}
use Rattle.cel_value.specs.Turns.{by_turns}
use Rattle.cel_check.specs.Typing.{node}
use Rattle.cel_check.proofs.Levels.{part}

-- whether one of several holds
abbrev pub some_of : List Bool → Bool
some_of [] = false
some_of (b ∷ bs) = b || some_of bs

-- whether an operator with a text looks for a pattern
abbrev pub looks_for : TextOperator → Bool
looks_for Select = false
looks_for Has = false
looks_for Matches = true

-- whether a level looks for a pattern, or one of its parts does
abbrev pub matches_at : Form Bool → Bool
matches_at (Literal v) = false
matches_at (Slot n) = false
matches_at (Local d) = false
matches_at (Unary op a) = a
matches_at (Binary op a b) = a || b
matches_at (And a b) = a || b
matches_at (Or a b) = a || b
matches_at (Conditional c a b) = c || (a || b)
matches_at (ListOf xs) = some_of xs
matches_at (MapOf es) = some_of (by_turns es)
matches_at (WithText op a text) = looks_for op || a
matches_at (Loop l a b) = a || b
matches_at (MapWhere a p b) = a || (p || b)

abbrev matches_step : TypedTree-F Bool → Bool
matches_step t = matches_at t.form

-- whether a typed expression looks for a pattern
abbrev pub has_matches : TypedTree → Bool
has_matches = fold-TypedTree Bool matches_step

-- by its level, and by the level that it is made of
pub matches_is : (t : TypedTree) (f : Form TypedTree) → (out-TypedTree t).form ≡ f
    → has_matches t ≡ matches_at (part has_matches (out-TypedTree t).cel_type f)
matches_is t f is =
    fold_out-TypedTree Bool matches_step t
    ∙ ap (λ (g : Form TypedTree). matches_at (part has_matches (out-TypedTree t).cel_type g)) is

pub matches_of_node : (t : CelType) (f : Form TypedTree) → has_matches (node t f) ≡ matches_at (part has_matches t f)
matches_of_node t f = fold-roll-TypedTree Bool matches_step (record { cel_type = t; form = f })
