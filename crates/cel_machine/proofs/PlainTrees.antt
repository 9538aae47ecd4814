-- An expression in which `matches` is given no literal text has a typed tree that looks for no pattern.
use Rattle.std.proofs.Common.{◌≡◌, ℕ, ◌^◌, Bool, cond, true, false, ◌&&◌, ◌||◌, List, [], ◌∷◌, ◌++◌, map, Option, Some, None, refl}
use Rattle.std.proofs.Common.{sym, ap, ◌∙◌, subst, rules}
use Rattle.std.specs.Prelude.{Result, Ok, Err, nat_lt, codes}
use Rattle.std.specs.Str.{bytes_eq}
use Rattle.std.proofs.lemmas.Bool.{or_from}
use Rattle.cel_value.specs.declared.value.Value as value
use Rattle.cel_value.specs.declared.value.Value.{Value, out-Value}
use Rattle.cel_value.specs.Value.{code_points}
use Rattle.cel_value.specs.declared.cel_type.CelType.{CelType}
use Rattle.cel_value.specs.declared.cel_type.CelType as type
use Rattle.cel_value.specs.CelType.{join}
use Rattle.cel_value.specs.declared.expr.Entry.{Entry}
use Rattle.cel_value.specs.declared.expr.Expr.{Expr, roll-Expr}
use Rattle.cel_value.specs.declared.expr.Expr.TheOpen.{Expr-F}
use Rattle.cel_value.specs.declared.expr.Expr.TheFolds.{map-Expr, fold-roll-Expr, ind-Expr}
use Rattle.cel_value.specs.declared.expr.Syntax.{Syntax}
use Rattle.cel_value.specs.declared.expr.Syntax.TheVariants as syntax
use Rattle.cel_value.specs.declared.expr.Loop.TheVariants as loop
use Rattle.cel_operators.specs.declared.type_rule.TypeRule.{TypeRule}
use Rattle.cel_operators.specs.declared.type_rule.TypeRule.TheVariants.{NoOverload, TooLarge, BadPattern, OpaqueUse}
use Rattle.cel_operators.specs.declared.operator.Operator.{Operator}
use Rattle.cel_operators.specs.declared.operator.Overload.{Overload}
use Rattle.cel_operators.specs.declared.text_operator.TextOperator.{TextOperator}
use Rattle.cel_operators.specs.declared.text_operator.TextOperator.TheVariants as text_operator
use Rattle.cel_operators.specs.declared.operands.Want.TheVariants.{Members, Ranged}
use Rattle.cel_operators.specs.Wants.{limit_of, is_truth}
use Rattle.cel_operators.proofs.Opened.{out-Bool, out-Int, out-Null, out-Uint}
use Rattle.cel_operators.specs.PatternChoice.{refuses}
use Rattle.cel_operators.specs.Loops.{loop_type}
use Rattle.cel_check.specs.Meaning.{type_of}
use Rattle.cel_value.specs.Turns.{by_turns}
use Rattle.cel_operators.specs.Joined.{text_at}
use Rattle.cel_check.specs.Opaque.{is_opaque, is_equality}
use Rattle.cel_check.specs.PatternTexts.{Seen, seen, seen_step, of_each, of_entries, of_method, one_or_none}
use Rattle.cel_check.specs.declared.fault.TypeFault.{TypeFault}
use Rattle.cel_check.specs.declared.tree.TypedTree.{TypedTree, out-TypedTree, roll-TypedTree, the_lemmas}
use Rattle.cel_check.specs.declared.tree.TypedTree.TheOpen.{TypedTree-F}
use Rattle.cel_check.specs.declared.tree.Form.{Form}
use Rattle.cel_check.specs.declared.tree.Form.TheVariants as form
use Rattle.cel_check.specs.Typing.{Names, Checked, refused, node, after, after_each, after_items, after_entries, typed_by, chosen}
use Rattle.cel_check.specs.Typing.{Trees, tree_in_front, each_tree, Pairs, entry_in_front, each_entry, list_literal, map_literal}
use Rattle.cel_check.specs.Typing.{joined_branches, at_name, name_in, or_else, variable_in, named, slot_from}
use Rattle.cel_check.specs.Typing.{literal_text, is_text, with_pattern, matched}
use Rattle.cel_check.specs.Typing.{unary_overloads, binary_overloads, index_overloads, function_overloads, method_overloads}
use Rattle.cel_check.specs.Typing.{method_overloads_with, first_of_one, first_of_two, called, called_on, over_two, beside_null, equated}
use Rattle.cel_check.specs.Typing.{Inside, entered, once_inside, read, Part, part_of, part_step, found_at, found}
use Rattle.cel_check.specs.Typing.{checked, checked_within, is_too_large}
use Rattle.cel_check.specs.PatternTexts.{patterns_in}
use Rattle.cel_check.proofs.Levels.{part as form_part, parts, turns_parts}
use Rattle.cel_machine.proofs.Matches.{some_of, matches_at, has_matches, matches_of_node}

-- if there is a typed tree, this holds of it
abbrev In : (TypedTree → Type 0) → Checked → Type 0
In Q (Err e) = Unit {0}
In Q (Ok t) = Q t

-- a typed tree is no literal text if the expression is none, and looks for no pattern if the expression has none
record Fits (s : Seen) (t : TypedTree) : Type 0 where
  literal : s.literal ≡ None → literal_text (out-TypedTree t).form ≡ None
  plain : s.patterns ≡ [] → has_matches t ≡ false

both_empty : (xs ys : List (List ℕ)) → xs ++ ys ≡ [] → (xs ≡ []) × (ys ≡ [])
both_empty [] ys e = (refl, e)
both_empty (x ∷ xs) ys e = absurd cc

not_some : (x : List ℕ) → Some x ≡ None → ⊥
not_some x e = cc

out_roll : (o : TypedTree-F TypedTree) → out-TypedTree (roll-TypedTree o) ≡ o
out_roll o = search (rules, the_lemmas)

node_fits : (s : Seen) (t : CelType) (f : Form TypedTree) → (s.literal ≡ None → literal_text f ≡ None)
    → (s.patterns ≡ [] → matches_at (form_part has_matches t f) ≡ false) → Fits s (node t f)
node_fits s t f h k = record {
  literal = λ none. ap (λ (o : TypedTree-F TypedTree). literal_text o.form) (out_roll (record { cel_type = t; form = f })) ∙ h none;
  plain = λ none. matches_of_node t f ∙ k none;
}

cond_in : (Q : TypedTree → Type 0) (b : Bool) (c d : Checked) → In Q c → In Q d → In Q (cond b c d)
cond_in Q true c d h k = h
cond_in Q false c d h k = k

after_in : (R Q : TypedTree → Type 0) (c : Checked) (f : TypedTree → Checked) → In R c → ((t : TypedTree) → R t → In Q (f t))
    → In Q (after c f)
after_in R Q (Err e) f h k = tt
after_in R Q (Ok t) f h k = k t h

typed_in : (Q : TypedTree → Type 0) (place : ℕ) (f : Form TypedTree) (r : Result CelType TypeRule)
    → ((t : CelType) → Q (node t f)) → In Q (typed_by place f r)
typed_in Q place f (Err e) h = tt
typed_in Q place f (Ok t) h = h t

chosen_in : (Q : TypedTree → Type 0) (place : ℕ) (g : Operator → Form TypedTree) (r : Result Overload TypeRule)
    → ((o : Overload) → Q (node o.cel_type (g o.operator))) → In Q (chosen place g r)
chosen_in Q place g (Err e) h = tt
chosen_in Q place g (Ok o) h = h o

joined_in : (Q : TypedTree → Type 0) (place : ℕ) (f : Form TypedTree) (o : Option CelType) → ((t : CelType) → Q (node t f))
    → In Q (joined_branches place f o)
joined_in Q place f None h = tt
joined_in Q place f (Some t) h = h t

at_name_in : (Q : TypedTree → Type 0) (place : ℕ) (op : TextOperator) (s : TypedTree) (o : Option (List ℕ))
    → ((t : CelType) (name : List ℕ) → Q (node t (form.WithText op s name))) → In Q (at_name place op s o)
at_name_in Q place op s None h = tt
at_name_in Q place op s (Some name) h = typed_in Q place (form.WithText op s name) _ (λ t. h t name)

or_else_in : (Q : TypedTree → Type 0) (s : Option (ℕ × CelType)) (c : Checked) → ((t : CelType) (n : ℕ) → Q (node t (form.Slot n)))
    → In Q c → In Q (or_else s c)
or_else_in Q None c h k = k
or_else_in Q (Some s) c h k = h s.1 s.0

named_in : (Q : TypedTree → Type 0) (place : ℕ) (l s : Option (ℕ × CelType)) → ((t : CelType) (n : ℕ) → Q (node t (form.Slot n)))
    → ((t : CelType) (n : ℕ) → Q (node t (form.Local n))) → In Q (named place l s)
named_in Q place (Some l) s h k = k l.1 l.0
named_in Q place None (Some s) h k = h s.1 s.0
named_in Q place None None h k = tt

inside_in : (Q : TypedTree → Type 0) (r : Result Inside TypeFault) (f : Inside → Checked) → ((i : Inside) → In Q (f i))
    → In Q (once_inside r f)
inside_in Q (Err e) f h = tt
inside_in Q (Ok i) f h = h i

read_in : (Q : TypedTree → Type 0) (b : Bool) (place : ℕ) (c : Checked) → In Q c → In Q (read b place c)
read_in Q true place c h = h
read_in Q false place (Err e) h = tt
read_in Q false place (Ok t) h = cond_in Q (is_opaque (type_of t)) (refused place OpaqueUse) (Ok t) tt h

-- operators over parts
one_fits : (s a : Seen) (place : ℕ) (t : TypedTree) (r : Result Overload TypeRule) → Fits a t → (s.patterns ≡ [] → a.patterns ≡ [])
    → In (Fits s) (chosen place (λ o. form.Unary o t) r)
one_fits s a place t r h part =
    chosen_in (Fits s) place _ r (λ o. node_fits s o.cel_type (form.Unary o.operator t) (λ none. refl) (λ none. h.plain (part none)))

-- two parts in which nothing is looked for
neither : (s a b : Seen) (t u : TypedTree) → Fits a t → Fits b u → (s.patterns ≡ [] → a.patterns ++ b.patterns ≡ [])
    → s.patterns ≡ [] → (has_matches t || has_matches u) ≡ false
neither s a b t u h k parts none =
    let p = both_empty a.patterns b.patterns (parts none) in
    or_from (has_matches t) (has_matches u) (h.plain p.0) (k.plain p.1)

-- and three
three : (s a b c : Seen) (t u v : TypedTree) → Fits a t → Fits b u → Fits c v
    → (s.patterns ≡ [] → a.patterns ++ (b.patterns ++ c.patterns) ≡ []) → s.patterns ≡ []
    → (has_matches t || (has_matches u || has_matches v)) ≡ false
three s a b c t u v h k m parts none =
    let p = both_empty a.patterns (b.patterns ++ c.patterns) (parts none) in
    let q = both_empty b.patterns c.patterns p.1 in
    or_from (has_matches t) (has_matches u || has_matches v) (h.plain p.0)
    (or_from (has_matches u) (has_matches v) (k.plain q.0) (m.plain q.1))

two_fits : (s a b : Seen) (place : ℕ) (t u : TypedTree) (r : Result Overload TypeRule) → Fits a t → Fits b u
    → (s.patterns ≡ [] → a.patterns ++ b.patterns ≡ []) → In (Fits s) (chosen place (λ o. form.Binary o t u) r)
two_fits s a b place t u r h k parts =
    chosen_in (Fits s) place _ r
    (λ o. node_fits s o.cel_type (form.Binary o.operator t u) (λ none. refl) (neither s a b t u h k parts))

pattern_fits : (s : Seen) (place : ℕ) (choice : List (List ℕ)) (t : TypedTree) (o : Option (List ℕ)) → (s.patterns ≡ [] → o ≡ None)
    → In (Fits s) (with_pattern place choice t o)
pattern_fits s place choice t None h = tt
pattern_fits s place choice t (Some pattern) h =
    let f = form.WithText text_operator.Matches t pattern in
    cond_in (Fits s) (refuses choice pattern) (refused place BadPattern) (Ok (node type.Bool f)) tt
    (node_fits s type.Bool f (λ none. refl) (λ none. absurd (not_some pattern (h none))))

none_given : (o : Option (List ℕ)) → one_or_none o ≡ [] → o ≡ None
none_given None e = refl
none_given (Some x) e = absurd cc

-- a method with one argument, whether it is `matches` or not
by_name_fits : (s a x : Seen) (b : Bool) (place : ℕ) (choice : List (List ℕ)) (t u : TypedTree) (r : Result Overload TypeRule)
    → Fits a t → Fits x u
    → (s.patterns ≡ [] → a.patterns ++ (of_each (x ∷ []) ++ cond b (one_or_none x.literal) []) ≡ [])
    → In (Fits s) (cond b (matched place choice t u) (chosen place (λ o. form.Binary o t u) r))
by_name_fits s a x true place choice t u r h k parts =
    cond_in (Fits s) (is_text (type_of t) && is_text (type_of u)) (with_pattern place choice t (literal_text (out-TypedTree u).form))
    (refused place NoOverload)
    (pattern_fits s place choice t (literal_text (out-TypedTree u).form)
    (λ none.
    k.literal
    (none_given x.literal
    (both_empty (of_each (x ∷ [])) (one_or_none x.literal)
    (both_empty a.patterns (of_each (x ∷ []) ++ one_or_none x.literal) (parts none)).1).1))) tt
by_name_fits s a x false place choice t u r h k parts =
    chosen_in (Fits s) place _ r
    (λ o.
    node_fits s o.cel_type (form.Binary o.operator t u) (λ none. refl)
    (λ none.
    let p = both_empty a.patterns (of_each (x ∷ []) ++ []) (parts none) in
    let q = both_empty (of_each (x ∷ [])) [] p.1 in
    or_from (has_matches t) (has_matches u) (h.plain p.0) (k.plain (both_empty x.patterns [] q.0).0)))

-- if there are typed trees, these look for no pattern if the expressions have none
abbrev EachIn : List Seen → Trees → Type 0
EachIn xs (Err e) = Unit {0}
EachIn xs (Ok ts) = of_each xs ≡ [] → some_of (map has_matches ts) ≡ false

in_front_fits : (x : Seen) (xs : List Seen) (c : Checked) (r : Trees) → In (Fits x) c → EachIn xs r
    → EachIn (x ∷ xs) (tree_in_front c r)
in_front_fits x xs (Err e) r h k = tt
in_front_fits x xs (Ok t) (Err e) h k = tt
in_front_fits x xs (Ok t) (Ok ts) h k = λ none.
    let p = both_empty x.patterns (of_each xs) none in
    or_from (has_matches t) (some_of (map has_matches ts)) (h.plain p.0) (k p.1)

items_fit : (s : Seen) (xs : List Seen) (place : ℕ) (r : Trees) → EachIn xs r → (s.patterns ≡ [] → of_each xs ≡ [])
    → In (Fits s) (after_items r (list_literal place))
items_fit s xs place (Err e) h parts = tt
items_fit s xs place (Ok ts) h parts =
    typed_in (Fits s) place (form.ListOf ts) _ (λ t. node_fits s t (form.ListOf ts) (λ none. refl) (λ none. h (parts none)))

-- likewise for keys and values
abbrev EntriesIn : List (Entry Seen) → Pairs → Type 0
EntriesIn xs (Err e) = Unit {0}
EntriesIn xs (Ok es) = of_entries xs ≡ [] → some_of (map has_matches (by_turns es)) ≡ false

entry_in_front_fits : (x : Entry Seen) (xs : List (Entry Seen)) (k v : Checked) (r : Pairs) → In (Fits x.key) k → In (Fits x.value) v
    → EntriesIn xs r → EntriesIn (x ∷ xs) (entry_in_front k v r)
entry_in_front_fits x xs (Err e) v r h i j = tt
entry_in_front_fits x xs (Ok k) (Err e) r h i j = tt
entry_in_front_fits x xs (Ok k) (Ok v) (Err e) h i j = tt
entry_in_front_fits x xs (Ok k) (Ok v) (Ok es) h i j = λ none.
    let p = both_empty x.key.patterns (x.value.patterns ++ of_entries xs) none in
    let q = both_empty x.value.patterns (of_entries xs) p.1 in
    or_from (has_matches k) (has_matches v || some_of (map has_matches (by_turns es))) (h.plain p.0)
    (or_from (has_matches v) (some_of (map has_matches (by_turns es))) (i.plain q.0) (j q.1))

entries_fit : (s : Seen) (xs : List (Entry Seen)) (place : ℕ) (r : Pairs) → EntriesIn xs r → (s.patterns ≡ [] → of_entries xs ≡ [])
    → In (Fits s) (after_entries r (map_literal place))
entries_fit s xs place (Err e) h parts = tt
entries_fit s xs place (Ok es) h none_in =
    typed_in (Fits s) place (form.MapOf es) _
    (λ t.
    node_fits s t (form.MapOf es) (λ none. refl)
    (λ none. ap some_of (turns_parts TypedTree Bool has_matches es) ∙ h (none_in none)))

-- the induction
abbrev AllFit : Expr → Type 0
AllFit e = (names : Names) → In (Fits (seen e)) (found e names)

abbrev Such : Type 0
Such = (e : Expr) × AllFit e

abbrev part : {A : Type 0} → (Such → A) → ℕ → Syntax Such → Expr-F A
part f p y = map-Expr _ _ f (record { place = p; form = y })

abbrev own : Such → Part
own e = part_of e.0

abbrev own_entry : Entry Such → Entry Part
own_entry e = record { key = own e.key; value = own e.value }

abbrev sight : Such → Seen
sight e = seen e.0

abbrev sight_entry : Entry Such → Entry Seen
sight_entry e = record { key = sight e.key; value = sight e.value }

-- a part that is read
used_in : (e : Such) (names : Names) → In (Fits (sight e)) (checked e.0 names)
used_in e names = read_in (Fits (sight e)) false (own e).place (found e.0 names) (e.1 names)

each_in : (Q : TypedTree → Type 0) (p : ℕ) (xs : List Such) (names : Names)
    → In Q (after_each (map own xs) names (refused p NoOverload))
each_in Q p [] names = tt
each_in Q p (x ∷ xs) names = after_in (Fits (sight x)) Q (checked x.0 names) _ (used_in x names) (λ t h. each_in Q p xs names)

trees_fit : (xs : List Such) (names : Names) → EachIn (map sight xs) (each_tree (map own xs) names)
trees_fit [] names = λ none. refl
trees_fit (x ∷ xs) names =
    in_front_fits (sight x) (map sight xs) (checked x.0 names) (each_tree (map own xs) names) (used_in x names) (trees_fit xs names)

pairs_fit : (xs : List (Entry Such)) (names : Names) → EntriesIn (map sight_entry xs) (each_entry (map own_entry xs) names)
pairs_fit [] names = λ none. refl
pairs_fit (x ∷ xs) names =
    entry_in_front_fits (sight_entry x) (map sight_entry xs) (checked x.key.0 names) (checked x.value.0 names)
    (each_entry (map own_entry xs) names) (used_in x.key names) (used_in x.value names) (pairs_fit xs names)

called_fits : (s : Seen) (p : ℕ) (f : List ℕ) (xs : List Such) (names : Names) → (s.patterns ≡ [] → of_each (map sight xs) ≡ [])
    → In (Fits s) (called p f (map own xs) names)
called_fits s p f [] names parts = tt
called_fits s p f (x ∷ []) names parts =
    after_in (Fits (sight x)) (Fits s) (checked x.0 names) _ (used_in x names)
    (λ t h.
    one_fits s (sight x) p t (first_of_one (function_overloads f) (type_of t)) h
    (λ none. (both_empty (sight x).patterns [] (parts none)).0))
called_fits s p f (x ∷ y ∷ xs) names parts = each_in (Fits s) p (x ∷ y ∷ xs) names

called_on_fits : (s a : Seen) (p : ℕ) (f : List ℕ) (t : TypedTree) (xs : List Such) (names : Names) → Fits a t
    → (s.patterns ≡ [] → a.patterns ++ (of_each (map sight xs) ++ of_method f (map sight xs)) ≡ [])
    → In (Fits s) (called_on p f t (map own xs) names)
called_on_fits s a p f t [] names h parts =
    one_fits s a p t (first_of_one (method_overloads f) (type_of t)) h (λ none. (both_empty a.patterns [] (parts none)).0)
called_on_fits s a p f t (x ∷ []) names h parts =
    after_in (Fits (sight x)) (Fits s) (checked x.0 names) _ (used_in x names)
    (λ u k.
    by_name_fits s a (sight x) (bytes_eq f (codes "matches")) p names.choice t u
    (first_of_two (method_overloads_with f) (type_of t) (type_of u)) h k parts)
called_on_fits s a p f t (x ∷ y ∷ xs) names h parts = each_in (Fits s) p (x ∷ y ∷ xs) names

-- a literal that is no text
abbrev other : (s : Seen) (t : CelType) (v : Value) → text_at (out-Value v) ≡ None → In (Fits s) (Ok (node t (form.Literal v)))
other s t v h = node_fits s t (form.Literal v) (λ none. h) (λ none. refl)

level : (p : ℕ) (y : Syntax Such) (names : Names)
    → In (Fits (seen_step (part sight p y))) (found_at p (part own p y).form names)
level p (syntax.Bool b) names = other _ type.Bool (value.Bool b) (ap text_at (out-Bool b))
level p (syntax.Int n) names = other _ type.Int (value.Int n) (ap text_at (out-Int n))
level p (syntax.Name n) names =
    let s = seen_step (part sight p (syntax.Name n)) in
    named_in (Fits s) p (slot_from 0 n names.locals) (slot_from 0 n names.slots)
    (λ t k. node_fits s t (form.Slot k) (λ none. refl) (λ none. refl)) (λ t k. node_fits s t (form.Local k) (λ none. refl) (λ none. refl))
level p syntax.Null names = other _ type.Null value.Null (ap text_at out-Null)
level p (syntax.Uint n) names = other _ type.Uint (value.Uint n) (ap text_at (out-Uint n))
level p (syntax.Text bytes) names =
    let s = seen_step (part sight p (syntax.Text bytes)) in
    cond_in (Fits s) (nat_lt (code_points bytes) (2 ^ 32)) (Ok (node (type.Text (code_points bytes)) (form.Literal (value.Text bytes))))
    (refused p TooLarge)
    (node_fits s (type.Text (code_points bytes)) (form.Literal (value.Text bytes)) (λ none. absurd (not_some bytes none)) (λ none. refl)) tt
level p (syntax.Select a f) names =
    let s = seen_step (part sight p (syntax.Select a f)) in
    or_else_in (Fits s) (variable_in (own a) f names) _ (λ t k. node_fits s t (form.Slot k) (λ none. refl) (λ none. refl))
    (after_in (Fits (sight a)) (Fits s) (checked a.0 names) _ (used_in a names)
    (λ t h.
    at_name_in (Fits s) p text_operator.Select t (name_in f (limit_of Members (type_of t)))
    (λ u name. node_fits s u (form.WithText text_operator.Select t name) (λ none. refl) (λ none. h.plain none))))
level p (syntax.Has a f) names =
    let s = seen_step (part sight p (syntax.Has a f)) in
    after_in (Fits (sight a)) (Fits s) (checked a.0 names) _ (used_in a names)
    (λ t h.
    at_name_in (Fits s) p text_operator.Has t (name_in f (limit_of Members (type_of t)))
    (λ u name. node_fits s u (form.WithText text_operator.Has t name) (λ none. refl) (λ none. h.plain none)))
level p (syntax.Call f xs) names = called_fits (seen_step (part sight p (syntax.Call f xs))) p f xs names (λ none. none)
level p (syntax.Method a f xs) names =
    let s = seen_step (part sight p (syntax.Method a f xs)) in
    after_in (Fits (sight a)) (Fits s) (checked a.0 names) _ (used_in a names)
    (λ t h. called_on_fits s (sight a) p f t xs names h (λ none. none))
level p (syntax.Index a b) names =
    let s = seen_step (part sight p (syntax.Index a b)) in
    after_in (Fits (sight a)) (Fits s) (checked a.0 names) _ (used_in a names)
    (λ t h.
    after_in (Fits (sight b)) (Fits s) (checked b.0 names) _ (used_in b names)
    (λ u k. two_fits s (sight a) (sight b) p t u (first_of_two index_overloads (type_of t) (type_of u)) h k (λ none. none)))
level p (syntax.List xs) names =
    items_fit (seen_step (part sight p (syntax.List xs))) (map sight xs) p (each_tree (map own xs) names) (trees_fit xs names)
    (λ none. none)
level p (syntax.Map es) names =
    entries_fit (seen_step (part sight p (syntax.Map es))) (map sight_entry es) p (each_entry (map own_entry es) names) (pairs_fit es names)
    (λ none. none)
level p (syntax.Loop l a x b) names =
    let s = seen_step (part sight p (syntax.Loop l a x b)) in
    after_in (Fits (sight a)) (Fits s) (checked a.0 names) _ (used_in a names)
    (λ t h.
    inside_in (Fits s) (entered p x names (limit_of Ranged (type_of t))) _
    (λ i.
    after_in (Fits (sight b)) (Fits s) (checked b.0 i.names) _ (used_in b i.names)
    (λ u k.
    typed_in (Fits s) p (form.Loop l t u) (loop_type l i.span (type_of u))
    (λ v. node_fits s v (form.Loop l t u) (λ none. refl) (neither s (sight a) (sight b) t u h k (λ none. none))))))
level p (syntax.MapWhere a x q b) names =
    let s = seen_step (part sight p (syntax.MapWhere a x q b)) in
    after_in (Fits (sight a)) (Fits s) (checked a.0 names) _ (used_in a names)
    (λ t h.
    inside_in (Fits s) (entered p x names (limit_of Ranged (type_of t))) _
    (λ i.
    after_in (Fits (sight q)) (Fits s) (checked q.0 i.names) _ (used_in q i.names)
    (λ r j.
    after_in (Fits (sight b)) (Fits s) (checked b.0 i.names) _ (used_in b i.names)
    (λ u k.
    cond_in (Fits s) (is_truth (type_of r)) (typed_by p (form.MapWhere t r u) (loop_type loop.Map i.span (type_of u)))
    (refused p NoOverload)
    (typed_in (Fits s) p (form.MapWhere t r u) (loop_type loop.Map i.span (type_of u))
    (λ v. node_fits s v (form.MapWhere t r u) (λ none. refl) (three s (sight a) (sight q) (sight b) t r u h j k (λ none. none)))) tt))))
level p (syntax.Unary op a) names =
    let s = seen_step (part sight p (syntax.Unary op a)) in
    after_in (Fits (sight a)) (Fits s) (checked a.0 names) _ (used_in a names)
    (λ t h. one_fits s (sight a) p t (first_of_one (unary_overloads op) (type_of t)) h (λ none. none))
level p (syntax.Binary op a b) names =
    let s = seen_step (part sight p (syntax.Binary op a b)) in
    let two : (t u : TypedTree) → Fits (sight a) t → Fits (sight b) u → In (Fits s) (over_two p (binary_overloads op) t u) =
    λ t u h k. two_fits s (sight a) (sight b) p t u (first_of_two (binary_overloads op) (type_of t) (type_of u)) h k (λ none. none) in
    let either : Bool = beside_null (found a.0 names) (found b.0 names) in
    cond_in (Fits s) (is_equality op)
    (equated p op (own a).place (found a.0 names) (own b).place (found b.0 names))
    (after (checked a.0 names) (λ t. after (checked b.0 names) (λ u. over_two p (binary_overloads op) t u)))
    (after_in (Fits (sight a)) (Fits s) (read either (own a).place (found a.0 names)) _
    (read_in (Fits (sight a)) either (own a).place (found a.0 names) (a.1 names))
    (λ t h.
    after_in (Fits (sight b)) (Fits s) (read either (own b).place (found b.0 names)) _
    (read_in (Fits (sight b)) either (own b).place (found b.0 names) (b.1 names)) (λ u k. two t u h k)))
    (after_in (Fits (sight a)) (Fits s) (checked a.0 names) _ (used_in a names)
    (λ t h. after_in (Fits (sight b)) (Fits s) (checked b.0 names) _ (used_in b names) (λ u k. two t u h k)))
level p (syntax.And a b) names =
    let s = seen_step (part sight p (syntax.And a b)) in
    after_in (Fits (sight a)) (Fits s) (checked a.0 names) _ (used_in a names)
    (λ t h.
    after_in (Fits (sight b)) (Fits s) (checked b.0 names) _ (used_in b names)
    (λ u k.
    cond_in (Fits s) (is_truth (type_of t) && is_truth (type_of u)) (Ok (node type.Bool (form.And t u))) (refused p NoOverload)
    (node_fits s type.Bool (form.And t u) (λ none. refl) (neither s (sight a) (sight b) t u h k (λ none. none))) tt))
level p (syntax.Or a b) names =
    let s = seen_step (part sight p (syntax.Or a b)) in
    after_in (Fits (sight a)) (Fits s) (checked a.0 names) _ (used_in a names)
    (λ t h.
    after_in (Fits (sight b)) (Fits s) (checked b.0 names) _ (used_in b names)
    (λ u k.
    cond_in (Fits s) (is_truth (type_of t) && is_truth (type_of u)) (Ok (node type.Bool (form.Or t u))) (refused p NoOverload)
    (node_fits s type.Bool (form.Or t u) (λ none. refl) (neither s (sight a) (sight b) t u h k (λ none. none))) tt))
level p (syntax.Conditional c a b) names =
    let s = seen_step (part sight p (syntax.Conditional c a b)) in
    after_in (Fits (sight c)) (Fits s) (checked c.0 names) _ (used_in c names)
    (λ r j.
    after_in (Fits (sight a)) (Fits s) (checked a.0 names) _ (used_in a names)
    (λ t h.
    after_in (Fits (sight b)) (Fits s) (checked b.0 names) _ (used_in b names)
    (λ u k.
    cond_in (Fits s) (is_truth (type_of r)) (joined_branches p (form.Conditional r t u) (join (type_of t) (type_of u)))
    (refused p NoOverload)
    (joined_in (Fits s) p (form.Conditional r t u) (join (type_of t) (type_of u))
    (λ v. node_fits s v (form.Conditional r t u) (λ none. refl) (three s (sight c) (sight a) (sight b) r t u j h k (λ none. none)))) tt)))

-- two maps in turn are one
twice : {A : Type 0} (f : Expr → A) (xs : List Such) → map f (map (λ (e : Such). e.0) xs) ≡ map (λ (e : Such). f e.0) xs
twice f [] = refl
twice f (x ∷ xs) = ap (λ ys. f x.0 ∷ ys) (twice f xs)

twice_entries : {A : Type 0} (f : Expr → A) (xs : List (Entry Such))
    → parts f (parts (λ (e : Such). e.0) xs) ≡ parts (λ (e : Such). f e.0) xs
twice_entries f [] = refl
twice_entries f (x ∷ xs) = ap (λ ys. record { key = f x.key.0; value = f x.value.0 } ∷ ys) (twice_entries f xs)

fused : (A : Type 0) (f : Expr → A) (p : ℕ) (y : Syntax Such)
    → map-Expr _ _ f (map-Expr _ _ (λ (e : Such). e.0) (record { place = p; form = y })) ≡ part (λ (e : Such). f e.0) p y
fused A f p (syntax.Bool b) = refl
fused A f p (syntax.Int n) = refl
fused A f p (syntax.Name n) = refl
fused A f p syntax.Null = refl
fused A f p (syntax.Uint n) = refl
fused A f p (syntax.Text s) = refl
fused A f p (syntax.Select a n) = refl
fused A f p (syntax.Has a n) = refl
fused A f p (syntax.Call n xs) = ap (λ (ys : List A). record { place = p; form = syntax.Call n ys }) (twice f xs)
fused A f p (syntax.Method a n xs) = ap (λ (ys : List A). record { place = p; form = syntax.Method (f a.0) n ys }) (twice f xs)
fused A f p (syntax.Index a b) = refl
fused A f p (syntax.List xs) = ap (λ (ys : List A). record { place = p; form = syntax.List ys }) (twice f xs)
fused A f p (syntax.Map es) = ap (λ (ys : List (Entry A)). record { place = p; form = syntax.Map ys }) (twice_entries f es)
fused A f p (syntax.Loop l a x b) = refl
fused A f p (syntax.MapWhere a x q t) = refl
fused A f p (syntax.Unary op a) = refl
fused A f p (syntax.Binary op a b) = refl
fused A f p (syntax.And a b) = refl
fused A f p (syntax.Or a b) = refl
fused A f p (syntax.Conditional c a b) = refl

step : (y : Expr-F Such) → AllFit (roll-Expr (map-Expr _ _ (λ (e : Such). e.0) y))
step y = λ names.
    let z = map-Expr _ _ (λ (e : Such). e.0) y in
    let c : part_of (roll-Expr z) ≡ part_step (part own y.place y.form) =
    fold-roll-Expr Part part_step z ∙ ap part_step (fused Part part_of y.place y.form) in
    let s : seen (roll-Expr z) ≡ seen_step (part sight y.place y.form) =
    fold-roll-Expr Seen seen_step z ∙ ap seen_step (fused Seen seen y.place y.form) in
    subst (λ (q : Part). In (Fits (seen (roll-Expr z))) (q.found names)) (sym c)
    (subst (λ w. In (Fits w) (found_at y.place (part own y.place y.form).form names)) (sym s) (level y.place y.form names))

fit_all : (e : Expr) → AllFit e
fit_all = ind-Expr AllFit (λ x y is. subst (λ z. AllFit (roll-Expr z)) is (step y))

-- a typed tree looks for no pattern if `matches` is given no literal text
pub unmatched : (e : Expr) (names : Names) (t : TypedTree) → checked_within e names ≡ Ok t → patterns_in e ≡ [] → has_matches t ≡ false
unmatched e names t is none =
    let fits : In (Fits (seen e)) (checked_within e names) =
    cond_in (Fits (seen e)) (is_too_large e) (refused 0 TooLarge) (checked e names) tt (used_in (e, fit_all e) names) in
    let there : Fits (seen e) t = subst (In (Fits (seen e))) is fits in
    there.plain none
