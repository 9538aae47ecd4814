-- A node of parts that are well typed is well typed.
use Rattle.std.proofs.Common.{◌≡◌, ℕ, suc, ◌+◌, ◌^◌, Bool, cond, true, false, ◌&&◌, List, [], ◌∷◌, Option, Some, None, ap, ◌∙◌, subst}
use Rattle.std.proofs.Common.{refl, inl, inr, arith}
use Rattle.std.proofs.lemmas.Bool.{and_from, and_parts, cases_Bool, false≢true}
use Rattle.std.specs.Prelude.{Result, Ok, Err, map, nat_lt, slice_get, codes}
use Rattle.std.specs.Str.{bytes_eq}
use Rattle.base_containers.specs.declared.text.Keyed.{Keyed}
use Rattle.cel_value.specs.Value.{code_points}
use Rattle.cel_value.specs.declared.value.Value as value
use Rattle.cel_value.specs.declared.cel_type.CelType.{CelType}
use Rattle.cel_value.specs.declared.cel_type.CelType as type
use Rattle.cel_value.specs.CelType.{assignable, join}
use Rattle.cel_value.proofs.Above.{IsAbove, join-above}
use Rattle.cel_value.proofs.Reflexive.{assignable-refl}
use Rattle.cel_operators.proofs.Opened.{text_fits}
use Rattle.cel_value.specs.declared.expr.Entry.{Entry}
use Rattle.cel_operators.specs.declared.type_rule.TypeRule.{TypeRule}
use Rattle.cel_operators.specs.declared.type_rule.TypeRule.TheVariants.{NoOverload}
use Rattle.cel_operators.specs.declared.operator.Operator.{Operator}
use Rattle.cel_operators.specs.declared.operator.Overload.{Overload}
use Rattle.cel_check.specs.declared.tree.TypedTree.{TypedTree, out-TypedTree}
use Rattle.cel_check.specs.declared.tree.TypedTree.TheFolds.{map-TypedTree, fold-roll-TypedTree, fold_out-TypedTree}
use Rattle.cel_check.specs.declared.tree.Form.{Form}
use Rattle.cel_check.specs.declared.tree.Form.TheVariants as form
use Rattle.cel_operators.specs.Outcomes.{Types}
use Rattle.cel_operators.specs.Operators.{row, of_limit, type_of_one, type_of_two}
use Rattle.cel_check.specs.Meaning.{type_of, takes_result, Judged, right_at, judged_step, judged_of, is_right, types_judged}
use Rattle.cel_value.specs.Turns.{by_turns}
use Rattle.cel_check.specs.Meaning.{each_right as all_right, takes_slot, right_loop, right_where}
use Rattle.cel_operators.specs.Loops.{types_inside, loop_type, where_ranged}
use Rattle.cel_value.specs.declared.expr.Loop.{Loop}
use Rattle.cel_value.specs.declared.expr.Loop.TheVariants as loop
use Rattle.cel_operators.specs.Lists.{items_type}
use Rattle.cel_check.specs.Typing.{Trees, tree_in_front, after_items, root_types, typed_by, list_literal, Names, types_in, types_of}
use Rattle.cel_check.specs.Typing.{Checked, node, after, Pairs, entry_in_front, map_literal, at_name, name_in, selected, is_text}
use Rattle.cel_check.specs.Typing.{literal_text, with_pattern, matched, method_with, after_entries, binary_overloads, or_later, first_of}
use Rattle.cel_check.specs.Typing.{chosen, logic, joined_branches, conditional, method_overloads_with, over_one, over_two, text_literal}
use Rattle.cel_check.specs.Typing.{slot_from, named, read, with_local, Inside, entered, once_inside, looped, mapped_where, or_else}
use Rattle.cel_check.specs.Typing.{beside_null, equated}
use Rattle.cel_operators.specs.Maps.{entries_type}
use Rattle.cel_operators.specs.TextOperators.{row_with}
use Rattle.cel_operators.specs.Wants.{limit_of, is_there, is_truth}
use Rattle.cel_operators.specs.declared.operands.Want.TheVariants.{Members, Characters, Ranged}
use Rattle.cel_operators.specs.declared.limit.Span.{Span}
use Rattle.cel_operators.specs.declared.text_operator.TextOperator.{TextOperator}
use Rattle.cel_operators.specs.declared.text_operator.TextOperator.TheVariants as text_operator
use Rattle.cel_operators.specs.PatternChoice.{refuses}
use Rattle.cel_check.specs.Opaque.{is_opaque}
use Rattle.cel_value.specs.declared.expr.BinaryOperator.{BinaryOperator}

-- if there is a typed tree, it is well typed
abbrev pub RightIn : Types → Checked → Type 0
RightIn types (Err e) = Unit {0}
RightIn types (Ok t) = is_right t types ≡ true

join_above : (s t u : CelType) → join s t ≡ Some u → (assignable s u && assignable t u) ≡ true
join_above s t u e =
    let above : IsAbove s t (Some u) = subst (IsAbove s t) e (join-above s t) in
    and_from _ _ above.0 above.1

judged-type : (t : TypedTree) → (judged_of t).type ≡ type_of t
judged-type t = ap (λ j. j.type) (fold_out-TypedTree Judged judged_step t)

pub node_right : (t : CelType) (f : Form TypedTree) (types : Types)
    → right_at t (map-TypedTree _ _ judged_of (record { cel_type = t; form = f })).form types ≡ true
    → is_right (node t f) types ≡ true
node_right t f types h = ap (λ j. j.right types) (fold-roll-TypedTree Judged judged_step (record { cel_type = t; form = f })) ∙ h

pub after_right : (types : Types) (c : Checked) (f : TypedTree → Checked) → RightIn types c
    → ((t : TypedTree) → is_right t types ≡ true → RightIn types (f t)) → RightIn types (after c f)
after_right types (Err e) f h g = tt
after_right types (Ok t) f h g = g t h

-- an overload that is chosen has the type that its row gives
FromRow : (Operator → Result CelType TypeRule) → Result Overload TypeRule → Type 0
FromRow f (Err e) = Unit {0}
FromRow f (Ok o) = f o.operator ≡ Ok o.cel_type

or_later_from : (f : Operator → Result CelType TypeRule) (op : Operator) (r : Result CelType TypeRule) (later : Result Overload TypeRule)
    → f op ≡ r → FromRow f later → FromRow f (or_later op r later)
unfolding FromRow
or_later_from f op (Ok t) later e h = e
or_later_from f op (Err NoOverload) later e h = h
or_later_from f op (Err _) later e h = tt

first_from : (f : Operator → Result CelType TypeRule) (ops : List Operator) → FromRow f (first_of ops f)
unfolding FromRow
first_from f [] = tt
first_from f (op ∷ ops) = or_later_from f op (f op) (first_of ops f) refl (first_from f ops)

chosen_right : (place : ℕ) (g : Operator → Form TypedTree) (f : Operator → Result CelType TypeRule) (types : Types)
    (r : Result Overload TypeRule) → FromRow f r
    → ((o : Overload) → f o.operator ≡ Ok o.cel_type → is_right (node o.cel_type (g o.operator)) types ≡ true)
    → RightIn types (chosen place g r)
unfolding FromRow
chosen_right place g f types (Err e) h k = tt
chosen_right place g f types (Ok o) h k = k o h

pub unary_right : (place : ℕ) (ops : List Operator) (a : TypedTree) (types : Types) → is_right a types ≡ true
    → RightIn types (over_one place ops a)
unary_right place ops a types h =
    chosen_right place _ (λ o. type_of_one (row o) (type_of a)) types _ (first_from _ ops)
    (λ o e.
    node_right o.cel_type (form.Unary o.operator a) types
    (and_from _ _ h (ap (λ s. takes_result o.cel_type (type_of_one (row o.operator) s)) (judged-type a)
    ∙ ap (takes_result o.cel_type) e ∙ assignable-refl o.cel_type)))

pub binary_right : (place : ℕ) (ops : List Operator) (a b : TypedTree) (types : Types) → is_right a types ≡ true
    → is_right b types ≡ true
    → RightIn types (over_two place ops a b)
binary_right place ops a b types h k =
    chosen_right place _ (λ o. type_of_two (row o) (type_of a) (type_of b)) types _ (first_from _ ops)
    (λ o e.
    node_right o.cel_type (form.Binary o.operator a b) types
    (and_from _ _ (and_from _ _ h k)
    (ap (λ s. takes_result o.cel_type (type_of_two (row o.operator) s (judged_of b).type)) (judged-type a)
    ∙ ap (λ s. takes_result o.cel_type (type_of_two (row o.operator) (type_of a) s)) (judged-type b)
    ∙ ap (takes_result o.cel_type) e ∙ assignable-refl o.cel_type)))

-- both sides are truth values, as they are judged
sides_right : (a b : TypedTree) → (is_truth (type_of a) && is_truth (type_of b)) ≡ true
    → (is_truth (judged_of a).type && is_truth (judged_of b).type) ≡ true
sides_right a b h =
    ap (λ s. is_truth s && is_truth (judged_of b).type) (judged-type a) ∙ ap (λ t. is_truth (type_of a) && is_truth t) (judged-type b)
    ∙ h

pub and_right : (place : ℕ) (a b : TypedTree) (types : Types) → is_right a types ≡ true → is_right b types ≡ true
    → RightIn types (logic place form.And a b)
and_right place a b types h k = elim (cases_Bool (is_truth (type_of a) && is_truth (type_of b))) [
  | inl y ↦
      rw y
      (node_right type.Bool (form.And a b) types
      (and_from _ _ (and_from _ _ h k) (and_from _ _ (sides_right a b y) (assignable-refl type.Bool))))
  | inr n ↦ rw n tt
]

pub or_right : (place : ℕ) (a b : TypedTree) (types : Types) → is_right a types ≡ true → is_right b types ≡ true
    → RightIn types (logic place form.Or a b)
or_right place a b types h k = elim (cases_Bool (is_truth (type_of a) && is_truth (type_of b))) [
  | inl y ↦
      rw y
      (node_right type.Bool (form.Or a b) types
      (and_from _ _ (and_from _ _ h k) (and_from _ _ (sides_right a b y) (assignable-refl type.Bool))))
  | inr n ↦ rw n tt
]

branches_right : (place : ℕ) (c a b : TypedTree) (types : Types) (o : Option CelType) → join (type_of a) (type_of b) ≡ o
    → is_truth (type_of c) ≡ true → is_right c types ≡ true → is_right a types ≡ true → is_right b types ≡ true
    → RightIn types (joined_branches place (form.Conditional c a b) o)
branches_right place c a b types None e y h k l = tt
branches_right place c a b types (Some t) e y h k l =
    node_right t (form.Conditional c a b) types
    (and_from _ _ (and_from _ _ (and_from _ _ h (ap is_truth (judged-type c) ∙ y)) (and_from _ _ k l))
    (ap (λ s. assignable s t && assignable (judged_of b).type t) (judged-type a)
    ∙ ap (λ s. assignable (type_of a) t && assignable s t) (judged-type b) ∙ join_above (type_of a) (type_of b) t e))

pub conditional_right : (place : ℕ) (c a b : TypedTree) (types : Types) → is_right c types ≡ true → is_right a types ≡ true
    → is_right b types ≡ true → RightIn types (conditional place c a b)
conditional_right place c a b types h k l = elim (cases_Bool (is_truth (type_of c))) [
  | inl y ↦ rw y (branches_right place c a b types (join (type_of a) (type_of b)) refl y h k l)
  | inr n ↦ rw n tt
]

-- if there are typed trees, each is well typed
abbrev pub EachRightIn : Types → Trees → Type 0
EachRightIn types (Err e) = Unit {0}
EachRightIn types (Ok ts) = all_right (map judged_of ts) types ≡ true

pub in_front_right : (types : Types) (c : Checked) (r : Trees) → RightIn types c → EachRightIn types r
    → EachRightIn types (tree_in_front c r)
in_front_right types (Err e) r h k = tt
in_front_right types (Ok t) (Err e) h k = tt
in_front_right types (Ok t) (Ok ts) h k = and_from (is_right t types) (all_right (map judged_of ts) types) h k

roots : (ts : List TypedTree) → types_judged (map judged_of ts) ≡ root_types ts
roots [] = refl
roots (t ∷ ts) = ap (λ s. s ∷ types_judged (map judged_of ts)) (judged-type t) ∙ ap (λ ss. type_of t ∷ ss) (roots ts)

typed_by_right : (place : ℕ) (f : Form TypedTree) (types : Types) (r : Result CelType TypeRule)
    → ((t : CelType) → r ≡ Ok t → is_right (node t f) types ≡ true) → RightIn types (typed_by place f r)
typed_by_right place f types (Err e) h = tt
typed_by_right place f types (Ok t) h = h t refl

abbrev judged_entry : Entry TypedTree → Entry Judged
judged_entry e = record { key = judged_of e.key; value = judged_of e.value }

pub items_right : (place : ℕ) (types : Types) (r : Trees) → EachRightIn types r → RightIn types (after_items r (list_literal place))
items_right place types (Err e) h = tt
items_right place types (Ok ts) h =
    typed_by_right place (form.ListOf ts) types (items_type (root_types ts))
    (λ t e.
    node_right t (form.ListOf ts) types
    (and_from _ _ h (ap (λ us. takes_result t (items_type us)) (roots ts) ∙ ap (takes_result t) e ∙ assignable-refl t)))

-- a key and a value by turns, as they are judged
turns : (es : List (Entry TypedTree)) → by_turns (map judged_entry es) ≡ map judged_of (by_turns es)
turns [] = refl
turns (e ∷ es) = ap (λ js. judged_of e.key ∷ judged_of e.value ∷ js) (turns es)

-- if there are typed entries, each key and value is well typed
abbrev pub EntriesRightIn : Types → Pairs → Type 0
EntriesRightIn types (Err e) = Unit {0}
EntriesRightIn types (Ok es) = all_right (map judged_of (by_turns es)) types ≡ true

pub entry_in_front_right : (types : Types) (k v : Checked) (r : Pairs) → RightIn types k → RightIn types v → EntriesRightIn types r
    → EntriesRightIn types (entry_in_front k v r)
entry_in_front_right types (Err e) v r h i j = tt
entry_in_front_right types (Ok k) (Err e) r h i j = tt
entry_in_front_right types (Ok k) (Ok v) (Err e) h i j = tt
entry_in_front_right types (Ok k) (Ok v) (Ok es) h i j =
    and_from (is_right k types) _ h (and_from (is_right v types) (all_right (map judged_of (by_turns es)) types) i j)

pub map_right : (place : ℕ) (types : Types) (r : Pairs) → EntriesRightIn types r → RightIn types (after_entries r (map_literal place))
map_right place types (Err e) h = tt
map_right place types (Ok es) h =
    typed_by_right place (form.MapOf es) types (entries_type (root_types (by_turns es)))
    (λ t e.
    node_right t (form.MapOf es) types
    (ap (λ js. all_right js types && takes_result t (entries_type (types_judged js))) (turns es)
    ∙ and_from _ _ h
    (ap (λ us. takes_result t (entries_type us)) (roots (by_turns es)) ∙ ap (takes_result t) e ∙ assignable-refl t)))

-- an operator with a text
named_right : (place : ℕ) (op : TextOperator) (s : TypedTree) (types : Types) (name : Option (List ℕ)) → is_right s types ≡ true
    → RightIn types (at_name place op s name)
named_right place op s types None h = tt
named_right place op s types (Some name) h =
    typed_by_right place (form.WithText op s name) types (type_of_one (row_with op name) (type_of s))
    (λ t e.
    node_right t (form.WithText op s name) types
    (and_from _ _ h (ap (λ u. takes_result t (type_of_one (row_with op name) u)) (judged-type s)
    ∙ ap (takes_result t) e ∙ assignable-refl t)))

pub selected_right : (place : ℕ) (op : TextOperator) (selector : List ℕ) (s : TypedTree) (types : Types) → is_right s types ≡ true
    → RightIn types (selected place op selector s)
selected_right place op selector s types h = named_right place op s types (name_in selector (limit_of Members (type_of s))) h

truth_at : (l : Option ℕ) → is_there l ≡ true → takes_result type.Bool (of_limit (λ (max : ℕ). Ok type.Bool) l) ≡ true
truth_at None h = absurd (false≢true h)
truth_at (Some max) h = assignable-refl type.Bool

pattern_right : (place : ℕ) (choice : List (List ℕ)) (s : TypedTree) (types : Types) (pattern : Option (List ℕ))
    → is_right s types ≡ true → is_text (type_of s) ≡ true → RightIn types (with_pattern place choice s pattern)
pattern_right place choice s types None h k = tt
pattern_right place choice s types (Some pattern) h k = elim (cases_Bool (refuses choice pattern)) [
  | inl y ↦ rw y tt
  | inr n ↦
      rw n
      (node_right type.Bool (form.WithText text_operator.Matches s pattern) types
      (and_from _ _ h (ap (λ u. takes_result type.Bool (type_of_one (row_with text_operator.Matches pattern) u)) (judged-type s)
      ∙ truth_at (limit_of Characters (type_of s)) k)))
]

matched_right : (place : ℕ) (choice : List (List ℕ)) (s t : TypedTree) (types : Types) → is_right s types ≡ true
    → RightIn types (matched place choice s t)
matched_right place choice s t types h = elim (cases_Bool (is_text (type_of s) && is_text (type_of t))) [
  | inl y ↦
      rw y
      (pattern_right place choice s types (literal_text (out-TypedTree t).form) h
      (and_parts (is_text (type_of s)) (is_text (type_of t)) y).0)
  | inr n ↦ rw n tt
]

pub method_right : (place : ℕ) (choice : List (List ℕ)) (f : List ℕ) (s t : TypedTree) (types : Types) → is_right s types ≡ true
    → is_right t types ≡ true → RightIn types (method_with place choice f s t)
method_right place choice f s t types h k = elim (cases_Bool (bytes_eq f (codes "matches"))) [
  | inl y ↦ rw y (matched_right place choice s t types h)
  | inr n ↦ rw n (binary_right place (method_overloads_with f) s t types h k)
]

pub text_right : (place : ℕ) (bytes : List ℕ) (types : Types) → RightIn types (text_literal place bytes)
text_right place bytes types = elim (cases_Bool (nat_lt (code_points bytes) (2 ^ 32))) [
  | inl y ↦
      rw y
      (node_right (type.Text (code_points bytes)) (form.Literal (value.Text bytes)) types
      (text_fits bytes (code_points bytes) (omega arith)))
  | inr n ↦ rw n tt
]

-- with the slots numbered from i on, the one that is found is at its number
pub SlotThere : ℕ → List (Keyed CelType) → Option (ℕ × CelType) → Type 0
SlotThere i es None = Unit {0}
SlotThere i es (Some s) = (k : ℕ) × (s.0 ≡ i + k) × (slice_get (types_in es) k ≡ Some s.1)

slot_later : (i : ℕ) (e : Keyed CelType) (es : List (Keyed CelType)) (o : Option (ℕ × CelType)) → SlotThere (i + 1) es o
    → SlotThere i (e ∷ es) o
unfolding SlotThere
slot_later i e es None h = tt
slot_later i e es (Some s) h = (suc h.0, omega (arith, h.1), h.2)

slot_there : (i : ℕ) (name : List ℕ) (es : List (Keyed CelType)) → SlotThere i es (slot_from i name es)
unfolding SlotThere
slot_there i name [] = tt
slot_there i name (e ∷ es) = elim (cases_Bool (bytes_eq e.key name)) [
  | inl y ↦ rw y (0, omega arith, refl)
  | inr n ↦ rw n (slot_later i e es (slot_from (i + 1) name es) (slot_there (i + 1) name es))
]

found_right : (place : ℕ) (names : Names) (l s : Option (ℕ × CelType)) → SlotThere 0 names.locals l → SlotThere 0 names.slots s
    → RightIn (types_of names) (named place l s)
unfolding SlotThere
found_right place names (Some l) s h k =
    let here : l.0 ≡ h.0 = omega (arith, h.1) in
    node_right l.1 (form.Local l.0) (types_of names)
    (ap (λ d. takes_slot l.1 (slice_get (types_in names.locals) d)) here ∙ ap (takes_slot l.1) h.2 ∙ assignable-refl l.1)
found_right place names None None h k = tt
found_right place names None (Some s) h k =
    let here : s.0 ≡ k.0 = omega (arith, k.1) in
    node_right s.1 (form.Slot s.0) (types_of names)
    (ap (λ n. takes_slot s.1 (slice_get (types_in names.slots) n)) here ∙ ap (takes_slot s.1) k.2 ∙ assignable-refl s.1)

pub name_right : (place : ℕ) (name : List ℕ) (names : Names)
    → RightIn (types_of names) (named place (slot_from 0 name names.locals) (slot_from 0 name names.slots))
name_right place name names =
    found_right place names (slot_from 0 name names.locals) (slot_from 0 name names.slots) (slot_there 0 name names.locals)
    (slot_there 0 name names.slots)

-- the slot of a variable, if there is one
pub variable_there : (names : Names) (b : Bool) (x : List ℕ) → SlotThere 0 names.slots (cond b (slot_from 0 x names.slots) None)
unfolding SlotThere
variable_there names true x = slot_there 0 x names.slots
variable_there names false x = tt

pub unless_right : (names : Names) (s : Option (ℕ × CelType)) (c : Checked) → SlotThere 0 names.slots s → RightIn (types_of names) c
    → RightIn (types_of names) (or_else s c)
unfolding SlotThere
unless_right names None c k h = h
unless_right names (Some s) c k h =
    let here : s.0 ≡ k.0 = omega (arith, k.1) in
    node_right s.1 (form.Slot s.0) (types_of names)
    (ap (λ n. takes_slot s.1 (slice_get (types_in names.slots) n)) here ∙ ap (takes_slot s.1) k.2 ∙ assignable-refl s.1)

-- what follows of a part that is well typed where names have other types
pub after_inside : (types inner : Types) (c : Checked) (f : TypedTree → Checked) → RightIn inner c
    → ((t : TypedTree) → is_right t inner ≡ true → RightIn types (f t)) → RightIn types (after c f)
after_inside types inner (Err e) f h g = tt
after_inside types inner (Ok t) f h g = g t h

-- what follows inside a loop
pub inside_right : (place : ℕ) (x : List ℕ) (names : Names) (o : Option Span) (f : Inside → Checked)
    → ((span : Span) → o ≡ Some span → RightIn (types_of names) (f (record { names = with_local x span names; span = span })))
    → RightIn (types_of names) (once_inside (entered place x names o) f)
inside_right place x names None f h = tt
inside_right place x names (Some span) f h = h span refl

-- the type of a loop's answer is that of its node
answer_right : (l : Loop) (span : Span) (b : TypedTree) (t : CelType) → loop_type l span (type_of b) ≡ Ok t
    → takes_result t (loop_type l span (judged_of b).type) ≡ true
answer_right l span b t e =
    ap (λ s. takes_result t (loop_type l span s)) (judged-type b) ∙ ap (takes_result t) e ∙ assignable-refl t

module _ (place : ℕ) (s : TypedTree) (span : Span) (types : Types) (h : is_right s types ≡ true)
    (range : limit_of Ranged (type_of s) ≡ Some span) where
  abbrev inner : Types
  inner = types_inside span.item types

  -- what holds at the span holds at what the range's node says
  at_range : (p : Span → Bool) → p span ≡ true → where_ranged (limit_of Ranged (judged_of s).type) p ≡ true
  at_range p k =
      ap (λ u. where_ranged (limit_of Ranged u) p) (judged-type s) ∙ ap (λ o. where_ranged o p) range ∙ k

  pub looped_right : (l : Loop) (b : TypedTree) → is_right b inner ≡ true → RightIn types (looped place l s span b)
  looped_right l b k =
      typed_by_right place (form.Loop l s b) types (loop_type l span (type_of b))
      (λ t e.
      node_right t (form.Loop l s b) types
      (and_from _ _ h
      (at_range (right_loop t l (judged_of b) types) (and_from (is_right b inner) _ k (answer_right l span b t e)))))

  pub mapped_right : (p b : TypedTree) → is_right p inner ≡ true → is_right b inner ≡ true
      → RightIn types (mapped_where place s span p b)
  mapped_right p b k m = elim (cases_Bool (is_truth (type_of p))) [
    | inl y ↦
        rw y
        (typed_by_right place (form.MapWhere s p b) types (loop_type loop.Map span (type_of b))
        (λ t e.
        node_right t (form.MapWhere s p b) types
        (and_from _ _ h
        (at_range (right_where t (judged_of p) (judged_of b) types)
        (and_from (is_right p inner && is_truth (judged_of p).type) _
        (and_from (is_right p inner) _ k (ap is_truth (judged-type p) ∙ y))
        (and_from (is_right b inner) _ m (answer_right loop.Map span b t e)))))))
    | inr n ↦ rw n tt
  ]

pub read_right : (b : Bool) (place : ℕ) (c : Checked) (types : Types) → RightIn types c → RightIn types (read b place c)
read_right true place c types h = h
read_right false place (Err e) types h = tt
read_right false place (Ok t) types h = elim (cases_Bool (is_opaque (type_of t))) [
  | inl y ↦ rw y tt
  | inr n ↦ rw n h
]

pub equated_right : (place : ℕ) (op : BinaryOperator) (p q : ℕ) (l r : Checked) (types : Types) → RightIn types l → RightIn types r
    → RightIn types (equated place op p l q r)
equated_right place op p q l r types h k =
    let either : Bool = beside_null l r in
    after_right types (read either p l) _ (read_right either p l types h)
    (λ s i.
    after_right types (read either q r) _ (read_right either q r types k)
    (λ t j. binary_right place (binary_overloads op) s t types i j))
