-- The expression of a tree, with its macros expanded (cel-spec, "Macros").
use Rattle.std.specs.Prelude.{ℕ, ◌^◌, ℤ, pos, negsuc, zero, suc, Bool, true, false, List, []}
use Rattle.std.specs.Prelude.{◌∷◌, map, Option, Some, None, Result, Ok, Err, nat_le, nat_lt, if◌then◌else◌}
use Rattle.cel_lex.specs.declared.token.Infix.TheVariants as op
use Rattle.cel_lex.specs.declared.fault.LexFaultKind.TheVariants.{IntRange}
use Rattle.cel_value.specs.declared.expr.BinaryOperator.TheVariants as binary
use Rattle.cel_value.specs.declared.expr.Loop.{Loop}
use Rattle.cel_value.specs.declared.expr.Loop.TheVariants as loop
use Rattle.cel_value.specs.declared.expr.Entry.{Entry}
use Rattle.cel_value.specs.declared.expr.Syntax.{Syntax}
use Rattle.cel_value.specs.declared.expr.Syntax.TheVariants as syntax
use Rattle.cel_value.specs.declared.expr.Expr.{Expr, roll-Expr}
use Rattle.cel_parse.specs.declared.fault.ParseFault.{ParseFault}
use Rattle.cel_parse.specs.declared.fault.ParseFault.TheVariants.{Lex}
use Rattle.cel_parse.specs.declared.tree.Joint.{Joint}
use Rattle.cel_parse.specs.declared.tree.Joint.TheVariants as joint
use Rattle.cel_parse.specs.declared.tree.Tree.{Tree, fold-Tree}
use Rattle.cel_parse.specs.declared.tree.Tree.TheOpen.{Tree-F}
use Rattle.cel_parse.specs.Words.{word_at, is_has}
use Rattle.cel_parse.specs.Macros.{loop_of}
use Rattle.cel_parse.specs.Descent.{◌>>=◌}

-- an expression at a place
abbrev pub expr : ℕ → Syntax Expr → Expr
expr place form = roll-Expr (record { place = place; form = form })

-- a magnitude with its sign
abbrev pub signed : Bool → ℕ → ℤ
signed false n = pos n
signed true zero = pos 0
signed true (suc n) = negsuc n

-- whether a number is within 64 bits
abbrev pub is_in_range : Bool → ℕ → Bool
is_in_range false n = nat_lt n (2 ^ 63)
is_in_range true n = nat_le n (2 ^ 63)

-- an expression, or a number out of range
abbrev pub Expanded : Type 0
Expanded = Result Expr ParseFault

-- what follows an expression, unless there is a fault
abbrev pub after : {A B : Type 0} → Result A ParseFault → (A → Result B ParseFault) → Result B ParseFault
after r next = r >>= next

-- what a number is, unless it is out of range
abbrev pub number_of : ℕ → Bool → ℕ → Expanded
number_of place negative n =
    if is_in_range negative n then Ok (expr place (syntax.Int (signed negative n)))
    else Err (Lex (record { kind = IntRange; place = place }))

-- what stands for an operator between two operands
abbrev pub form_of : Joint → Expr → Expr → Syntax Expr
form_of (joint.Infix op.Or) a b = syntax.Or a b
form_of (joint.Infix op.And) a b = syntax.And a b
form_of (joint.Infix op.Less) a b = syntax.Binary binary.Less a b
form_of (joint.Infix op.AtMost) a b = syntax.Binary binary.AtMost a b
form_of (joint.Infix op.Greater) a b = syntax.Binary binary.Greater a b
form_of (joint.Infix op.AtLeast) a b = syntax.Binary binary.AtLeast a b
form_of (joint.Infix op.Equal) a b = syntax.Binary binary.Equal a b
form_of (joint.Infix op.NotEqual) a b = syntax.Binary binary.NotEqual a b
form_of (joint.Infix op.Add) a b = syntax.Binary binary.Add a b
form_of (joint.Infix op.Subtract) a b = syntax.Binary binary.Subtract a b
form_of (joint.Infix op.Multiply) a b = syntax.Binary binary.Multiply a b
form_of (joint.Infix op.Divide) a b = syntax.Binary binary.Divide a b
form_of (joint.Infix op.Remainder) a b = syntax.Binary binary.Remainder a b
form_of joint.In a b = syntax.Binary binary.In a b

-- what a tree is to a macro around it: a name, the select of a field of what is expanded, or neither
pub data Role : Type 0 where
  names : ℕ → Role
  selects : ℕ → Expanded → Role
  other : Role

-- a tree as its own expression, and as a macro sees it
pub record Expansion : Type 0 where
  pub role : Role
  pub own : Expanded

-- the expressions of several trees, or the leftmost fault
abbrev pub each : List Expansion → Result (List Expr) ParseFault
each [] = Ok []
each (x ∷ xs) = x.own >>= λ e. each xs >>= λ es. Ok (e ∷ es)

-- the keys and values of a map, or the leftmost fault
abbrev pub each_entry : List (Entry Expansion) → Result (List (Entry Expr)) ParseFault
each_entry [] = Ok []
each_entry (x ∷ xs) = x.key.own >>= λ k. x.value.own >>= λ v. each_entry xs >>= λ es. Ok (record { key = k; value = v } ∷ es)

-- a call that is no macro
abbrev pub plain_call : List ℕ → ℕ → List Expansion → Expanded
plain_call source place xs = each xs >>= λ es. Ok (expr place (syntax.Call (word_at source place) es))

-- `has(e.f)`
abbrev pub has_by : List ℕ → ℕ → List Expansion → Role → Expanded
has_by source place xs (selects field a) = a >>= λ e. Ok (expr place (syntax.Has e (word_at source field)))
has_by source place xs (names n) = plain_call source place xs
has_by source place xs other = plain_call source place xs

-- a call of `has`, by its arguments
abbrev pub has_of : List ℕ → ℕ → List Expansion → Expanded
has_of source place [] = plain_call source place []
has_of source place (x ∷ []) = has_by source place (x ∷ []) x.role
has_of source place (x ∷ y ∷ xs) = plain_call source place (x ∷ y ∷ xs)

-- a call: the test for a field, if it is one
abbrev pub call_of : List ℕ → ℕ → List Expansion → Expanded
call_of source place xs = if is_has source place then has_of source place xs else plain_call source place xs

-- a method that is no macro
abbrev pub plain_method : List ℕ → ℕ → Expanded → List Expansion → Expanded
plain_method source place a xs = a >>= λ e. each xs >>= λ es. Ok (expr place (syntax.Method e (word_at source place) es))

-- the place of a tree, if it is a name
abbrev pub name_in : Role → Option ℕ
name_in (names n) = Some n
name_in (selects field a) = None
name_in other = None

-- the name that a loop binds, if its arguments suit it: a name and a body, and for `map` perhaps a predicate in between
abbrev pub loop_name : Loop → List Expansion → Option ℕ
loop_name l (x ∷ b ∷ []) = name_in x.role
loop_name loop.Map (x ∷ p ∷ t ∷ []) = name_in x.role
loop_name _ _ = None

-- `e.all(x, p)` and its like
abbrev pub loop_by : List ℕ → ℕ → Loop → Expanded → Expansion → Expansion → Role → Expanded
loop_by source place l a x b (names n) = a >>= λ e. b.own >>= λ p. Ok (expr place (syntax.Loop l e (word_at source n) p))
loop_by source place l a x b (selects field c) = plain_method source place a (x ∷ b ∷ [])
loop_by source place l a x b other = plain_method source place a (x ∷ b ∷ [])

-- `e.map(x, p, t)`
abbrev pub where_by : List ℕ → ℕ → Expanded → Expansion → Expansion → Expansion → Role → Expanded
where_by source place a x p t (names n) =
    a >>= λ e. p.own >>= λ q. t.own >>= λ u. Ok (expr place (syntax.MapWhere e (word_at source n) q u))
where_by source place a x p t (selects field c) = plain_method source place a (x ∷ p ∷ t ∷ [])
where_by source place a x p t other = plain_method source place a (x ∷ p ∷ t ∷ [])

-- a method that has a loop's name
abbrev pub loop_of_kind : List ℕ → ℕ → Loop → Expanded → List Expansion → Expanded
loop_of_kind source place l a (x ∷ b ∷ []) = loop_by source place l a x b x.role
loop_of_kind source place loop.Map a (x ∷ p ∷ t ∷ []) = where_by source place a x p t x.role
loop_of_kind source place _ a xs = plain_method source place a xs

-- a method, by the loop that its name is the macro of
abbrev pub method_by : Option Loop → List ℕ → ℕ → Expanded → List Expansion → Expanded
method_by None source place a xs = plain_method source place a xs
method_by (Some l) source place a xs = loop_of_kind source place l a xs

-- a method, which its name makes a loop or not
abbrev pub method_of : List ℕ → ℕ → Expanded → List Expansion → Expanded
method_of source place a xs = method_by (loop_of (word_at source place)) source place a xs

-- the expression of one level
abbrev pub expanded_at : List ℕ → Tree-F Expansion → Expanded
expanded_at source (Tree-F.Null place) = Ok (expr place syntax.Null)
expanded_at source (Tree-F.Truth place value) = Ok (expr place (syntax.Bool value))
expanded_at source (Tree-F.Number place negative n) = number_of place negative n
expanded_at source (Tree-F.Unsigned place n) = Ok (expr place (syntax.Uint n))
expanded_at source (Tree-F.Text place value) = Ok (expr place (syntax.Text value))
expanded_at source (Tree-F.Name place) = Ok (expr place (syntax.Name (word_at source place)))
expanded_at source (Tree-F.Call place xs) = call_of source place xs
expanded_at source (Tree-F.Select place a) = a.own >>= λ x. Ok (expr place (syntax.Select x (word_at source place)))
expanded_at source (Tree-F.Method place a xs) = method_of source place a.own xs
expanded_at source (Tree-F.Index place a b) = a.own >>= λ x. b.own >>= λ y. Ok (expr place (syntax.Index x y))
expanded_at source (Tree-F.List place xs) = each xs >>= λ es. Ok (expr place (syntax.List es))
expanded_at source (Tree-F.Map place xs) = each_entry xs >>= λ es. Ok (expr place (syntax.Map es))
expanded_at source (Tree-F.Unary place o a) = a.own >>= λ x. Ok (expr place (syntax.Unary o x))
expanded_at source (Tree-F.Binary place o a b) = a.own >>= λ x. b.own >>= λ y. Ok (expr place (form_of o x y))
expanded_at source (Tree-F.Conditional place c a b) =
    c.own >>= λ x. a.own >>= λ y. b.own >>= λ z. Ok (expr place (syntax.Conditional x y z))

-- how a macro sees one level
abbrev pub role_at : Tree-F Expansion → Role
role_at (Tree-F.Name place) = names place
role_at (Tree-F.Select place a) = selects place a.own
role_at _ = other

-- a tree of a text as its own expression and as a macro sees it
abbrev pub expansion : List ℕ → Tree → Expansion
expansion source = fold-Tree Expansion (λ t. record { role = role_at t; own = expanded_at source t })

-- the same of several trees
abbrev pub expansions : List ℕ → List Tree → List Expansion
expansions source es = map (expansion source) es

-- the same of keys and values
abbrev pub entry_expansions : List ℕ → List (Entry Tree) → List (Entry Expansion)
entry_expansions source es = map (λ e. record { key = expansion source e.key; value = expansion source e.value }) es

-- the expression of a tree of a text, or its leftmost number out of range. A call of a macro that its arguments do not
-- suit stays a call.
abbrev pub expanded : List ℕ → Tree → Expanded
expanded source e = (expansion source e).own
