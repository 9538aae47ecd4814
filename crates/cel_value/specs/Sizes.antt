-- How deep an expression is, and how many nodes it has.
use Rattle.std.specs.Prelude.{ℕ, ◌+◌, max, List, [], ◌∷◌, map}
use Rattle.cel_value.specs.declared.expr.Entry.{Entry}
use Rattle.cel_value.specs.declared.expr.Expr.{Expr, fold-Expr}
use Rattle.cel_value.specs.declared.expr.Syntax.{Syntax}
use Rattle.cel_value.specs.declared.expr.Syntax.TheVariants as syntax

-- the depth of the deepest part
abbrev pub deepest : List ℕ → ℕ
deepest [] = 0
deepest (n ∷ ns) = max n (deepest ns)

-- the depth of the deepest key or value
abbrev pub deepest_entry : List (Entry ℕ) → ℕ
deepest_entry [] = 0
deepest_entry (e ∷ es) = max (max e.key e.value) (deepest_entry es)

-- how deep a node is: a leaf 1, else one more than its deepest part
abbrev pub depth_at : Syntax ℕ → ℕ
depth_at (syntax.Bool b) = 1
depth_at (syntax.Int n) = 1
depth_at (syntax.Name n) = 1
depth_at syntax.Null = 1
depth_at (syntax.Uint n) = 1
depth_at (syntax.Text s) = 1
depth_at (syntax.Select a f) = 1 + a
depth_at (syntax.Has a f) = 1 + a
depth_at (syntax.Call f ns) = 1 + deepest ns
depth_at (syntax.Method a f ns) = 1 + max a (deepest ns)
depth_at (syntax.Index a b) = 1 + max a b
depth_at (syntax.List ns) = 1 + deepest ns
depth_at (syntax.Map es) = 1 + deepest_entry es
depth_at (syntax.Loop l a x b) = 1 + max a b
depth_at (syntax.MapWhere a x p t) = 1 + max a (max p t)
depth_at (syntax.Unary op a) = 1 + a
depth_at (syntax.Binary op a b) = 1 + max a b
depth_at (syntax.And a b) = 1 + max a b
depth_at (syntax.Or a b) = 1 + max a b
depth_at (syntax.Conditional c a b) = 1 + max c (max a b)

-- the depth of an expression
abbrev pub depth_of : Expr → ℕ
depth_of = fold-Expr ℕ (λ e. depth_at e.form)

-- the depths of keys and values
abbrev pub entry_depths : List (Entry Expr) → List (Entry ℕ)
entry_depths es = map (λ e. record { key = depth_of e.key; value = depth_of e.value }) es

-- how many nodes the parts have
abbrev pub total : List ℕ → ℕ
total [] = 0
total (n ∷ ns) = n + total ns

-- how many the keys and values have
abbrev pub total_entries : List (Entry ℕ) → ℕ
total_entries [] = 0
total_entries (e ∷ es) = (e.key + e.value) + total_entries es

-- how many nodes there are
abbrev pub nodes_at : Syntax ℕ → ℕ
nodes_at (syntax.Bool b) = 1
nodes_at (syntax.Int n) = 1
nodes_at (syntax.Name n) = 1
nodes_at syntax.Null = 1
nodes_at (syntax.Uint n) = 1
nodes_at (syntax.Text s) = 1
nodes_at (syntax.Select a f) = 1 + a
nodes_at (syntax.Has a f) = 1 + a
nodes_at (syntax.Call f ns) = 1 + total ns
nodes_at (syntax.Method a f ns) = 1 + (a + total ns)
nodes_at (syntax.Index a b) = 1 + (a + b)
nodes_at (syntax.List ns) = 1 + total ns
nodes_at (syntax.Map es) = 1 + total_entries es
nodes_at (syntax.Loop l a x b) = 1 + (a + b)
nodes_at (syntax.MapWhere a x p t) = 1 + (a + (p + t))
nodes_at (syntax.Unary op a) = 1 + a
nodes_at (syntax.Binary op a b) = 1 + (a + b)
nodes_at (syntax.And a b) = 1 + (a + b)
nodes_at (syntax.Or a b) = 1 + (a + b)
nodes_at (syntax.Conditional c a b) = 1 + (c + (a + b))

-- the number of its nodes
abbrev pub nodes_of : Expr → ℕ
nodes_of = fold-Expr ℕ (λ e. nodes_at e.form)

-- how many nodes keys and values have
abbrev pub entry_sizes : List (Entry Expr) → List (Entry ℕ)
entry_sizes es = map (λ e. record { key = nodes_of e.key; value = nodes_of e.value }) es
