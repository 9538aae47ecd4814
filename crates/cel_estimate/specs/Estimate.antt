-- The most that an expression may charge, by its types alone (Kubernetes, "Resource usage by validation functions").
use Rattle.std.specs.Prelude.{◌≡◌, ℕ, ◌+◌, ◌*◌, max, List, [], ◌∷◌, map, length, Option, Some, None}
use Rattle.cel_value.specs.declared.cel_type.CelType.{CelType}
use Rattle.cel_value.specs.declared.expr.Entry.{Entry}
use Rattle.cel_check.specs.declared.tree.TypedTree.{TypedTree, fold-TypedTree}
use Rattle.cel_check.specs.declared.tree.TypedTree.TheOpen.{TypedTree-F}
use Rattle.cel_check.specs.declared.tree.Form.{Form}
use Rattle.cel_check.specs.declared.tree.Form.TheVariants as form
use Rattle.cel_operators.specs.Wants.{limit_of}
use Rattle.cel_operators.specs.declared.limit.Span.{Span}
use Rattle.cel_operators.specs.declared.operands.Want.TheVariants.{Ranged}
use Rattle.cel_operators.specs.Operators.{row, greatest_of_one, greatest_of_two}
use Rattle.cel_operators.specs.TextOperators.{row_with}
use Rattle.cel_operators.specs.Maps.{keys_greatest, entries_greatest}
use Rattle.cel_check.specs.Meaning.{type_of}
use Rattle.cel_value.specs.Turns.{by_turns}

-- the most that an expression may charge
abbrev pub budget : ℕ
budget = 10000000

-- an expression as its type and its estimate
pub record Rated : Type 0 where
  pub type : CelType
  pub most : ℕ

-- the estimates of several, one after another
abbrev pub sum_of : List Rated → ℕ
sum_of [] = 0
sum_of (a ∷ xs) = a.most + sum_of xs

-- their types
abbrev pub types_rated : List Rated → List CelType
types_rated xs = map (λ x. x.type) xs

-- the most items of a range
abbrev pub span_max : Option Span → ℕ
span_max None = 0
span_max (Some span) = span.max

-- the most items of a range of a type
abbrev pub items_most : CelType → ℕ
items_most t = span_max (limit_of Ranged t)

-- one level: the most of each charge, both sides of `&&` and `||`, the dearer branch, and a loop's bodies as often as its
-- range may have items
abbrev pub estimate_at : Form Rated → ℕ
estimate_at (form.Literal v) = 0
estimate_at (form.Slot n) = 1
estimate_at (form.Local d) = 1
estimate_at (form.Unary op a) = a.most + greatest_of_one (row op) a.type
estimate_at (form.Binary op a b) = (a.most + b.most) + greatest_of_two (row op) a.type b.type
estimate_at (form.And a b) = (a.most + b.most) + 1
estimate_at (form.Or a b) = (a.most + b.most) + 1
estimate_at (form.Conditional c a b) = (c.most + 1) + max a.most b.most
estimate_at (form.ListOf xs) = (sum_of xs + 1) + length xs
estimate_at (form.MapOf es) = sum_of (by_turns es) + entries_greatest (types_rated (by_turns es))
estimate_at (form.WithText op a text) = a.most + greatest_of_one (row_with op text) a.type
estimate_at (form.Loop l a b) = (a.most + 1) + items_most a.type * (1 + b.most)
estimate_at (form.MapWhere a p b) = (a.most + 1) + items_most a.type * (1 + (p.most + b.most))

-- a node by its type and its estimate
abbrev pub rated_step : TypedTree-F Rated → Rated
rated_step t = record { type = t.cel_type; most = estimate_at t.form }

-- an expression by its type and its estimate
abbrev pub rated_of : TypedTree → Rated
rated_of = fold-TypedTree Rated rated_step

-- the most that an expression may charge
abbrev pub estimate_of : TypedTree → ℕ
estimate_of t = (rated_of t).most

-- the sum of what several may charge
abbrev pub estimates_of : List TypedTree → ℕ
estimates_of [] = 0
estimates_of (a ∷ xs) = estimate_of a + estimates_of xs

-- the most that the keys of entries charge, with 1 for the map
abbrev pub keys_most : List (Entry TypedTree) → ℕ
keys_most es = keys_greatest (map (λ e. type_of e.key) es)
