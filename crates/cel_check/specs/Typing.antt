-- The typed tree of an expression in a scope of names, or its first fault in post-order.
use Rattle.std.specs.Prelude.{ℕ, Bool, ◌&&◌, ◌||◌, nat_lt, List, [], ◌∷◌, ◌++◌, map, Option, Some, None, Result, Ok, Err, if◌then◌else◌}
use Rattle.std.specs.Prelude.{codes, false, is_none}
use Rattle.std.specs.Str.{bytes_eq}
use Rattle.base_containers.specs.declared.text.Keyed.{Keyed}
use Rattle.cel_value.specs.declared.value.Value as value
use Rattle.cel_value.specs.declared.cel_type.CelType.{CelType}
use Rattle.cel_value.specs.declared.cel_type.CelType as type
use Rattle.cel_value.specs.declared.expr.BinaryOperator.{BinaryOperator}
use Rattle.cel_value.specs.declared.expr.Entry.{Entry}
use Rattle.cel_value.specs.declared.expr.Expr.{Expr, fold-Expr}
use Rattle.cel_value.specs.declared.expr.Expr.TheOpen.{Expr-F}
use Rattle.cel_value.specs.declared.expr.Syntax.{Syntax}
use Rattle.cel_value.specs.declared.expr.Syntax.TheVariants as syntax
use Rattle.cel_value.specs.Sizes.{depth_of, nodes_of}
use Rattle.cel_operators.specs.declared.type_rule.TypeRule.TheVariants.{NoOverload, TooLarge}
use Rattle.cel_check.specs.declared.fault.TypeFault.{TypeFault}
use Rattle.base_containers.specs.declared.failed.Failed.{Failed}
use Rattle.base_containers.specs.Failures.{Answers, Gives}
use Rattle.cel_check.specs.declared.scope.Scope.{Scope}
use Rattle.cel_check.specs.declared.bindings.Bindings.{Bindings}
use Rattle.cel_check.specs.declared.refusals.Refusals.{Refusals}
use Rattle.cel_check.specs.declared.refusals.Refusals.TheVariants as refusals
use Rattle.cel_check.specs.declared.loops.Opened.{Opened}
use Rattle.cel_check.specs.declared.tree.TypedTree.{TypedTree}
use Rattle.cel_check.specs.declared.tree.Form.TheVariants as form
use Rattle.cel_operators.specs.Outcomes.{Types}
use Rattle.cel_operators.specs.Compared.{is_null_type}
use Rattle.cel_check.specs.Meaning.{type_of}
use Rattle.cel_operators.specs.Wants.{limit_of}
use Rattle.cel_operators.specs.declared.operands.Want.TheVariants.{Ranged}
use Rattle.cel_operators.specs.declared.limit.Span.{Span}
use Rattle.cel_value.specs.declared.expr.Loop.{Loop}
use Rattle.cel_operators.specs.declared.text_operator.TextOperator.TheVariants as text_operator
use Rattle.cel_operators.specs.PatternAnswers.{choice_in}
use Rattle.cel_check.specs.Opaque.{is_equality}
pub use Rattle.cel_check.specs.Overloads.{unary_overloads, binary_overloads, index_overloads, size_overloads, function_overloads}
pub use Rattle.cel_check.specs.Overloads.{method_overloads, method_overloads_with, or_later, first_of, first_of_one, first_of_two}
pub use Rattle.cel_check.specs.Nodes.{Checked, refused, node, after, typed_by, chosen, over_one, over_two, logic, joined_branches}
pub use Rattle.cel_check.specs.Nodes.{conditional, root_types, list_literal, map_literal, own_name, name_in, with_text, at_name, selected}
pub use Rattle.cel_check.specs.Nodes.{is_text, literal_text, with_pattern, matched, method_with, text_literal, slot_from}
pub use Rattle.cel_check.specs.Nodes.{named, or_else, looped, mapped_where, read}

-- the names of the slots, and of the open loops, the innermost first, with their types, and the texts that are taken as no
-- patterns
pub record Names : Type 0 where
  pub slots : List (Keyed CelType)
  pub locals : List (Keyed CelType)
  pub choice : List (List ℕ)

-- the types of named types, in their order
abbrev pub types_in : List (Keyed CelType) → List CelType
types_in es = map (λ e. e.value) es

-- the types that the names have
abbrev pub types_of : Names → Types
types_of names = record { slots = types_in names.slots; locals = types_in names.locals }

-- the names of a scope, outside all loops, by a choice of texts that are no patterns
abbrev pub names_of : List (List ℕ) → Scope → Names
names_of choice scope = record { slots = scope.names; locals = []; choice = choice }

-- the texts that are no patterns: those that were refused, or these
abbrev pub refused_by : Refusals → List (List ℕ)
refused_by (refusals.Asked patterns) = choice_in patterns.now
refused_by (refusals.Given texts) = texts.now

-- the names that are bound
abbrev pub names_in : Bindings → Names
names_in bound = record { slots = bound.slots.now; locals = bound.locals; choice = refused_by bound.refusals }

-- a part of an expression: its place, the word that it is, if it is one, and its typed tree, which may be Opaque, or
-- its first fault, in a scope of names
pub record Part : Type 0 where
  pub place : ℕ
  pub word : Option (List ℕ)
  pub found : Names → Checked

-- a part that is read: Opaque is a fault at its place
abbrev pub used : Part → Names → Checked
used part names = read false part.place (part.found names)

-- all parts one after another, up to the first fault
abbrev pub after_each : List Part → Names → Checked → Checked
after_each [] names c = c
after_each (a ∷ xs) names c = after (used a names) (λ t. after_each xs names c)

-- the typed trees of several, or the first fault
abbrev pub Trees : Type 0
Trees = Result (List TypedTree) TypeFault

-- a typed tree in front of others
abbrev pub tree_in_front : Checked → Trees → Trees
tree_in_front (Err e) ts = Err e
tree_in_front (Ok t) (Err e) = Err e
tree_in_front (Ok t) (Ok ts) = Ok (t ∷ ts)

-- the typed trees of parts one after another, up to the first fault
abbrev pub each_tree : List Part → Names → Trees
each_tree [] names = Ok []
each_tree (a ∷ xs) names = tree_in_front (used a names) (each_tree xs names)

-- what follows after all of several
abbrev pub after_items : Trees → (List TypedTree → Checked) → Checked
after_items (Err e) f = Err e
after_items (Ok ts) f = f ts

-- the typed keys and values of several entries, or the first fault
abbrev pub Pairs : Type 0
Pairs = Result (List (Entry TypedTree)) TypeFault

-- a typed key and value in front of others
abbrev pub entry_in_front : Checked → Checked → Pairs → Pairs
entry_in_front (Err e) v es = Err e
entry_in_front (Ok k) (Err e) es = Err e
entry_in_front (Ok k) (Ok v) (Err e) = Err e
entry_in_front (Ok k) (Ok v) (Ok es) = Ok (record { key = k; value = v } ∷ es)

-- the typed keys and values of entries one after another, each key before its value, up to the first fault
abbrev pub each_entry : List (Entry Part) → Names → Pairs
each_entry [] names = Ok []
each_entry (e ∷ es) names = entry_in_front (used e.key names) (used e.value names) (each_entry es names)

-- what follows after all entries
abbrev pub after_entries : Pairs → (List (Entry TypedTree) → Checked) → Checked
after_entries (Err e) f = Err e
after_entries (Ok es) f = f es

-- a function over its arguments; each known function has one
abbrev pub called : ℕ → List ℕ → List Part → Names → Checked
called place f (a ∷ []) names = after (used a names) (λ s. over_one place (function_overloads f) s)
called place f xs names = after_each xs names (refused place NoOverload)

-- a method over what it is called on, and over its arguments; each known method has at most one
abbrev pub called_on : ℕ → List ℕ → TypedTree → List Part → Names → Checked
called_on place f s [] names = over_one place (method_overloads f) s
called_on place f s (b ∷ []) names = after (used b names) (λ t. method_with place names.choice f s t)
called_on place f s xs names = after_each xs names (refused place NoOverload)

-- the word that a level is, if it is one
abbrev pub word_at : {A : Type 0} → Syntax A → Option (List ℕ)
word_at (syntax.Name n) = Some n
word_at _ = None

-- whether what may be a word is this one
abbrev pub is_word : List ℕ → Option (List ℕ) → Bool
is_word word None = false
is_word word (Some n) = bytes_eq word n

-- the slot of the variable that is selected after the word `variables`, if no open loop's item has that name: it is
-- among the slots under one name, `variables.` and its own
abbrev pub variable_in : Part → List ℕ → Names → Option (ℕ × CelType)
variable_in a x names =
    if is_word (codes "variables") a.word && is_none (slot_from 0 (codes "variables") names.locals)
    then slot_from 0 (codes "variables." ++ x) names.slots else None

-- inside one more loop, whose name hides those outside
abbrev pub with_local : List ℕ → Span → Names → Names
with_local x span names = record names { locals = record { key = x; value = span.item } ∷ names.locals }

-- what is inside a loop: the names, and what the type of its range says
pub record Inside : Type 0 where
  pub names : Names
  pub span : Span

-- inside a loop over a range, if it is one
abbrev pub entered : ℕ → List ℕ → Names → Option Span → Result Inside TypeFault
entered place x names None = Err (record { rule = NoOverload; place = place })
entered place x names (Some span) = Ok (record { names = with_local x span names; span = span })

-- what follows inside a loop
abbrev pub once_inside : Result Inside TypeFault → (Inside → Checked) → Checked
once_inside (Err e) f = Err e
once_inside (Ok inner) f = f inner

-- what is opened, as what is inside
abbrev pub inside_of : Opened → Inside
inside_of o = record { names = names_in o.names; span = o.span }

-- the body of a loop over a range
abbrev pub over_body : ℕ → Loop → List ℕ → Part → Names → TypedTree → Checked
over_body place l x b names s =
    once_inside (entered place x names (limit_of Ranged (type_of s))) (λ inner. after (used b inner.names) (looped place l s inner.span))

-- the predicate and the transform of `map` over a range
abbrev pub over_bodies : ℕ → List ℕ → Part → Part → Names → TypedTree → Checked
over_bodies place x p b names s =
    once_inside (entered place x names (limit_of Ranged (type_of s)))
    (λ inner. after (used p inner.names) (λ r. after (used b inner.names) (mapped_where place s inner.span r)))

-- both operands have a type, and one of the two is Null
abbrev pub beside_null : Checked → Checked → Bool
beside_null (Ok s) (Ok t) = is_null_type (type_of s) || is_null_type (type_of t)
beside_null _ _ = false

-- `==` or `!=` of what is found at two places: if one is Null both stay, otherwise each is read
abbrev pub equated : ℕ → BinaryOperator → ℕ → Checked → ℕ → Checked → Checked
equated place op p l q r =
    after (read (beside_null l r) p l) (λ s. after (read (beside_null l r) q r) (λ t. over_two place (binary_overloads op) s t))

-- an operator between two operands
abbrev pub over_both : ℕ → BinaryOperator → Part → Part → Names → Checked
over_both place op a b names =
    if is_equality op then equated place op a.place (a.found names) b.place (b.found names)
    else after (used a names) (λ s. after (used b names) (λ t. over_two place (binary_overloads op) s t))

-- one level, by its parts
abbrev pub found_at : ℕ → Syntax Part → Names → Checked
found_at place (syntax.Bool b) names = Ok (node type.Bool (form.Literal (value.Bool b)))
found_at place (syntax.Int n) names = Ok (node type.Int (form.Literal (value.Int n)))
found_at place (syntax.Name n) names = named place (slot_from 0 n names.locals) (slot_from 0 n names.slots)
found_at place syntax.Null names = Ok (node type.Null (form.Literal value.Null))
found_at place (syntax.Uint n) names = Ok (node type.Uint (form.Literal (value.Uint n)))
found_at place (syntax.Text s) names = text_literal place s
found_at place (syntax.Select a f) names = or_else (variable_in a f names) (after (used a names) (selected place text_operator.Select f))
found_at place (syntax.Has a f) names = after (used a names) (selected place text_operator.Has f)
found_at place (syntax.Call f xs) names = called place f xs names
found_at place (syntax.Method a f xs) names = after (used a names) (λ s. called_on place f s xs names)
found_at place (syntax.Index a b) names = after (used a names) (λ s. after (used b names) (λ t. over_two place index_overloads s t))
found_at place (syntax.List xs) names = after_items (each_tree xs names) (list_literal place)
found_at place (syntax.Map es) names = after_entries (each_entry es names) (map_literal place)
found_at place (syntax.Loop l a x b) names = after (used a names) (over_body place l x b names)
found_at place (syntax.MapWhere a x p t) names = after (used a names) (over_bodies place x p t names)
found_at place (syntax.Unary op a) names = after (used a names) (λ s. over_one place (unary_overloads op) s)
found_at place (syntax.Binary op a b) names = over_both place op a b names
found_at place (syntax.And a b) names = after (used a names) (λ s. after (used b names) (λ t. logic place form.And s t))
found_at place (syntax.Or a b) names = after (used a names) (λ s. after (used b names) (λ t. logic place form.Or s t))
found_at place (syntax.Conditional c a b) names =
    after (used c names) (λ r. after (used a names) (λ s. after (used b names) (λ t. conditional place r s t)))

-- an expression as a part, by its parts
abbrev pub part_step : Expr-F Part → Part
part_step e = record { place = e.place; word = word_at e.form; found = found_at e.place e.form }

-- an expression as a part
abbrev pub part_of : Expr → Part
part_of = fold-Expr Part part_step

-- the typed tree of an expression, which may be Opaque, or its first fault
abbrev pub found : Expr → Names → Checked
found e = (part_of e).found

-- the typed tree of an expression that is read, or its first fault
abbrev pub checked : Expr → Names → Checked
checked e = used (part_of e)

-- several expressions, each as a part
abbrev pub parts_of : List Expr → List Part
parts_of es = map part_of es

-- keys and values, each as a part
abbrev pub entries_of : List (Entry Expr) → List (Entry Part)
entries_of es = map (λ e. record { key = part_of e.key; value = part_of e.value }) es

-- past the limits of a tree
abbrev pub is_too_large : Expr → Bool
is_too_large e = nat_lt 100 (depth_of e) || nat_lt 16384 (nodes_of e)

-- a tree past the limits is refused before anything else
abbrev pub checked_within : Expr → Names → Checked
checked_within e names = if is_too_large e then refused 0 TooLarge else checked e names

-- whatever checking gives for a part, what a node answers is what follows after the part
abbrev pub Follows : Result TypedTree (Failed TypeFault) → Result TypedTree (Failed TypeFault) → (TypedTree → Checked) → Type 0
Follows part result f = (c : Checked) → Answers c part → Answers (after c f) result

-- likewise if a slot may come before that
abbrev pub FollowsUnless : Option (ℕ × CelType) → Result TypedTree (Failed TypeFault) → Result TypedTree (Failed TypeFault)
    → (TypedTree → Checked) → Type 0
FollowsUnless slot part result f = (c : Checked) → Answers c part → Answers (or_else slot (after c f)) result

-- whatever checking gives for several parts, what a node answers is what follows after them
abbrev pub FollowsItems : Result (List TypedTree) (Failed TypeFault) → Result TypedTree (Failed TypeFault)
    → (List TypedTree → Checked) → Type 0
FollowsItems parts result f = (c : Trees) → Answers c parts → Answers (after_items c f) result

-- likewise after several entries
abbrev pub FollowsEntries : Result (List (Entry TypedTree)) (Failed TypeFault) → Result TypedTree (Failed TypeFault)
    → (List (Entry TypedTree) → Checked) → Type 0
FollowsEntries parts result f = (c : Pairs) → Answers c parts → Answers (after_entries c f) result

-- what checking answers is what the definition gives by some choice
pub record AnswersBySome {X : Type 0} (result : Result X (Failed TypeFault)) (view : X → TypedTree)
    (c : List (List ℕ) → Checked) : Type 0 where
  pub choice : List (List ℕ)
  pub answers : Gives view result (c choice)
