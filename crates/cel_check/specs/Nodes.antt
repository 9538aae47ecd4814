-- The nodes of a typed tree, each by its typed parts, or the rule that these break.
use Rattle.std.specs.Prelude.{ℕ, ◌+◌, ◌^◌, Bool, ◌&&◌, nat_lt, List, [], ◌∷◌, map, Option, Some, None, Result, Ok, Err, if◌then◌else◌}
use Rattle.std.specs.Prelude.{codes, true, false}
use Rattle.std.specs.Str.{bytes_eq}
use Rattle.base_containers.specs.declared.text.Keyed.{Keyed}
use Rattle.cel_value.specs.declared.value.Value as value
use Rattle.cel_value.specs.declared.value.Value.{Value, out-Value}
use Rattle.cel_value.specs.declared.cel_type.Field.{Field}
use Rattle.cel_value.specs.declared.cel_type.CelType.{CelType}
use Rattle.cel_value.specs.declared.cel_type.CelType as type
use Rattle.cel_value.specs.CelType.{join}
use Rattle.cel_value.specs.Value.{code_points}
use Rattle.cel_value.specs.declared.expr.Entry.{Entry}
use Rattle.cel_operators.specs.declared.type_rule.TypeRule.{TypeRule}
use Rattle.cel_operators.specs.declared.type_rule.TypeRule.TheVariants.{UnknownName, NoField, NoOverload, Mixed, OpaqueUse}
use Rattle.cel_operators.specs.declared.type_rule.TypeRule.TheVariants.{PatternNotLiteral, BadPattern, TooLarge}
use Rattle.cel_check.specs.declared.fault.TypeFault.{TypeFault}
use Rattle.cel_operators.specs.declared.operator.Operator.{Operator}
use Rattle.cel_operators.specs.declared.operator.Overload.{Overload}
use Rattle.cel_check.specs.declared.tree.TypedTree.{TypedTree, out-TypedTree, roll-TypedTree}
use Rattle.cel_check.specs.declared.tree.Form.{Form}
use Rattle.cel_check.specs.declared.tree.Form.TheVariants as form
use Rattle.cel_operators.specs.Operators.{type_of_one}
use Rattle.cel_check.specs.Meaning.{type_of}
use Rattle.cel_value.specs.Turns.{by_turns}
use Rattle.cel_operators.specs.Lists.{items_type}
use Rattle.cel_operators.specs.Maps.{entries_type}
use Rattle.cel_operators.specs.TextOperators.{row_with}
use Rattle.cel_operators.specs.Wants.{Contents, Fields, Stored, limit_of, is_there, is_truth}
use Rattle.cel_operators.specs.declared.operands.Want.TheVariants.{Members, Characters}
use Rattle.cel_operators.specs.declared.limit.Span.{Span}
use Rattle.cel_operators.specs.Loops.{loop_type}
use Rattle.cel_value.specs.declared.expr.Loop.{Loop}
use Rattle.cel_value.specs.declared.expr.Loop.TheVariants as loop
use Rattle.cel_operators.specs.declared.text_operator.TextOperator.{TextOperator}
use Rattle.cel_operators.specs.declared.text_operator.TextOperator.TheVariants as text_operator
use Rattle.cel_check.specs.Selectors.{selects}
use Rattle.cel_operators.specs.PatternChoice.{refuses}
use Rattle.cel_operators.specs.Joined.{text_at}
use Rattle.cel_check.specs.Opaque.{is_opaque}
use Rattle.cel_check.specs.Overloads.{method_overloads_with, first_of_one, first_of_two}

-- a typed tree, or the first fault
abbrev pub Checked : Type 0
Checked = Result TypedTree TypeFault

-- a fault at a place
abbrev pub refused : ℕ → TypeRule → Checked
refused place rule = Err (record { rule = rule; place = place })

-- a node of a type
abbrev pub node : CelType → Form TypedTree → TypedTree
node t f = roll-TypedTree (record { cel_type = t; form = f })

-- one part after another, up to the first fault
abbrev pub after : Checked → (TypedTree → Checked) → Checked
after (Err e) f = Err e
after (Ok t) f = f t

-- the node of a type, if there is one
abbrev pub typed_by : ℕ → Form TypedTree → Result CelType TypeRule → Checked
typed_by place f (Err rule) = refused place rule
typed_by place f (Ok t) = Ok (node t f)

-- the node of the overload that was chosen
abbrev pub chosen : ℕ → (Operator → Form TypedTree) → Result Overload TypeRule → Checked
chosen place f (Err rule) = refused place rule
chosen place f (Ok o) = Ok (node o.cel_type (f o.operator))

-- the first of these overloads over one operand
abbrev pub over_one : ℕ → List Operator → TypedTree → Checked
over_one place ops s = chosen place (λ o. form.Unary o s) (first_of_one ops (type_of s))

-- the first of these overloads over two operands
abbrev pub over_two : ℕ → List Operator → TypedTree → TypedTree → Checked
over_two place ops s t = chosen place (λ o. form.Binary o s t) (first_of_two ops (type_of s) (type_of t))

-- `&&` and `||` want two truth values
abbrev pub logic : ℕ → (TypedTree → TypedTree → Form TypedTree) → TypedTree → TypedTree → Checked
logic place f a b = if is_truth (type_of a) && is_truth (type_of b) then Ok (node type.Bool (f a b)) else refused place NoOverload

-- the branches of a conditional want a join
abbrev pub joined_branches : ℕ → Form TypedTree → Option CelType → Checked
joined_branches place f None = refused place Mixed
joined_branches place f (Some t) = Ok (node t f)

-- the condition wants a truth value, before the branches want a join
abbrev pub conditional : ℕ → TypedTree → TypedTree → TypedTree → Checked
conditional place c a b =
    if is_truth (type_of c) then joined_branches place (form.Conditional c a b) (join (type_of a) (type_of b)) else refused place NoOverload

-- the types at the roots of several
abbrev pub root_types : List TypedTree → List CelType
root_types ts = map type_of ts

-- a list literal of items that are typed
abbrev pub list_literal : ℕ → List TypedTree → Checked
list_literal place ts = typed_by place (form.ListOf ts) (items_type (root_types ts))

-- a map literal of keys and values that are typed
abbrev pub map_literal : ℕ → List (Entry TypedTree) → Checked
map_literal place es = typed_by place (form.MapOf es) (entries_type (root_types (by_turns es)))

-- the own name of the first field that a selector selects
abbrev pub own_name : List ℕ → List (Keyed (Field CelType)) → Option (List ℕ)
own_name selector [] = None
own_name selector (f ∷ fs) = if selects selector f.key then Some f.key else own_name selector fs

-- the own name that a selector selects in what has names; a key of a map is the selector itself
abbrev pub name_in : List ℕ → Option Contents → Option (List ℕ)
name_in selector None = None
name_in selector (Some (Fields fields)) = own_name selector fields
name_in selector (Some (Stored store)) = Some selector

-- an operator with a text over its operand
abbrev pub with_text : ℕ → TextOperator → List ℕ → TypedTree → Checked
with_text place op text s = typed_by place (form.WithText op s text) (type_of_one (row_with op text) (type_of s))

-- an operator at the own name that is selected, if there is one
abbrev pub at_name : ℕ → TextOperator → TypedTree → Option (List ℕ) → Checked
at_name place op s None = refused place NoField
at_name place op s (Some name) = with_text place op name s

-- a field by its selector, or whether it is there
abbrev pub selected : ℕ → TextOperator → List ℕ → TypedTree → Checked
selected place op selector s = at_name place op s (name_in selector (limit_of Members (type_of s)))

-- whether a type may be used where a text is required
abbrev pub is_text : CelType → Bool
is_text t = is_there (limit_of Characters t)

-- the text that a level of an expression is, if it is a literal text
abbrev pub literal_text : Form TypedTree → Option (List ℕ)
literal_text (form.Literal v) = text_at (out-Value v)
literal_text _ = None

-- a pattern, which is a literal text that the choice does not refuse
abbrev pub with_pattern : ℕ → List (List ℕ) → TypedTree → Option (List ℕ) → Checked
with_pattern place choice s None = refused place PatternNotLiteral
with_pattern place choice s (Some pattern) =
    if refuses choice pattern then refused place BadPattern else Ok (node type.Bool (form.WithText text_operator.Matches s pattern))

-- `matches` wants two texts; the second is a pattern
abbrev pub matched : ℕ → List (List ℕ) → TypedTree → TypedTree → Checked
matched place choice s t =
    if is_text (type_of s) && is_text (type_of t) then with_pattern place choice s (literal_text (out-TypedTree t).form)
    else refused place NoOverload

-- a method with one argument
abbrev pub method_with : ℕ → List (List ℕ) → List ℕ → TypedTree → TypedTree → Checked
method_with place choice f s t =
    if bytes_eq f (codes "matches") then matched place choice s t else over_two place (method_overloads_with f) s t

-- a literal text: its own length is the most of its type
abbrev pub text_literal : ℕ → List ℕ → Checked
text_literal place bytes =
    if nat_lt (code_points bytes) (2 ^ 32) then Ok (node (type.Text (code_points bytes)) (form.Literal (value.Text bytes))) else refused
    place TooLarge

-- the number of the first of these, slots or open loops, that has the name, and its type, numbered from i on
abbrev pub slot_from : ℕ → List ℕ → List (Keyed CelType) → Option (ℕ × CelType)
slot_from i name [] = None
slot_from i name (e ∷ es) = if bytes_eq e.key name then Some (i, e.value) else slot_from (i + 1) name es

-- a name: the item of the innermost open loop of that name, or else what the first slot of that name holds
abbrev pub named : ℕ → Option (ℕ × CelType) → Option (ℕ × CelType) → Checked
named place (Some l) s = Ok (node l.1 (form.Local l.0))
named place None (Some s) = Ok (node s.1 (form.Slot s.0))
named place None None = refused place UnknownName

-- a slot, or else what is found otherwise
abbrev pub or_else : Option (ℕ × CelType) → Checked → Checked
or_else (Some s) c = Ok (node s.1 (form.Slot s.0))
or_else None c = c

-- a loop over a range, by its body
abbrev pub looped : ℕ → Loop → TypedTree → Span → TypedTree → Checked
looped place l s span t = typed_by place (form.Loop l s t) (loop_type l span (type_of t))

-- `map` with a predicate, by that and the transform
abbrev pub mapped_where : ℕ → TypedTree → Span → TypedTree → TypedTree → Checked
mapped_where place s span p t =
    if is_truth (type_of p) then typed_by place (form.MapWhere s p t) (loop_type loop.Map span (type_of t)) else refused place NoOverload

-- what no operator reads is a fault at its own place, unless it may occur there
abbrev pub read : Bool → ℕ → Checked → Checked
read true place c = c
read false place (Err e) = Err e
read false place (Ok t) = if is_opaque (type_of t) then refused place OpaqueUse else Ok t
