-- How deep each node is.
use Rattle.std.proofs.Common.{◌≡◌, ℕ, ◌+◌, ◌<◌, Bool, true, false, List}
use Rattle.std.proofs.Common.{[], ◌∷◌, refl, sym, ap, subst, ◌∙◌, arith}
use Rattle.std.specs.Prelude.{max, map, ◌&&◌}
use Rattle.cel_value.specs.declared.expr.UnaryOperator.{UnaryOperator}
use Rattle.cel_value.specs.declared.expr.Entry.{Entry}
use Rattle.cel_parse.specs.declared.tree.Joint.{Joint}
use Rattle.cel_parse.specs.declared.tree.Tree.{Tree, roll-Tree, Null as null, Truth as truth, Number as number}
use Rattle.cel_parse.specs.declared.tree.Tree.{Unsigned as unsigned, Text as text, Name as name, Call as call, Select as select}
use Rattle.cel_parse.specs.declared.tree.Tree.{Method as method, Index as index, List as list, Map as map_tree, Unary as unary}
use Rattle.cel_parse.specs.declared.tree.Tree.{Binary as binary, Conditional as conditional}
use Rattle.cel_parse.specs.declared.tree.Tree.TheOpen.{Tree-F}
use Rattle.cel_parse.specs.declared.tree.Tree.TheVariants.{rolls-Null, rolls-Truth, rolls-Number, rolls-Unsigned, rolls-Text}
use Rattle.cel_parse.specs.declared.tree.Tree.TheVariants.{rolls-Name, rolls-Call, rolls-Select, rolls-Method, rolls-Index}
use Rattle.cel_parse.specs.declared.tree.Tree.TheVariants.{rolls-List, rolls-Map, rolls-Unary, rolls-Binary, rolls-Conditional}
use Rattle.cel_parse.specs.declared.tree.Tree.TheFolds.{map-Tree, fold-roll-Tree}
use Rattle.cel_parse.specs.Words.{is_has}
use Rattle.cel_parse.specs.Limits.{Depth, deepest, deepest_entry, one_select, call_depth, depth, depth_at}
use Rattle.cel_parse.specs.Limits.{measure, measure_at, is_test, depth_of_items, depth_of_entry, depth_of_entries}
use Rattle.cel_parse.proofs.Levels.{Such, fold_level, every_tree}

module _ (source : List ℕ) where
  rolled : (t : Tree-F Tree) → depth source (roll-Tree t) ≡ depth_at source (map-Tree Tree Depth (measure source) t)
  rolled t = ap (λ (m : Depth). m.deep) (fold-roll-Tree Depth (measure_at source) t)

  pub depth-null : (place : ℕ) → depth source (null place) ≡ 1
  depth-null place = ap (depth source) (sym (rolls-Null place)) ∙ rolled (Tree-F.Null place)

  pub depth-truth : (place : ℕ) (value : Bool) → depth source (truth place value) ≡ 1
  depth-truth place value = ap (depth source) (sym (rolls-Truth place value)) ∙ rolled (Tree-F.Truth place value)

  pub depth-number : (place : ℕ) (negative : Bool) (n : ℕ) → depth source (number place negative n) ≡ 1
  depth-number place negative n = ap (depth source) (sym (rolls-Number place negative n)) ∙ rolled (Tree-F.Number place negative n)

  pub depth-unsigned : (place : ℕ) (n : ℕ) → depth source (unsigned place n) ≡ 1
  depth-unsigned place n = ap (depth source) (sym (rolls-Unsigned place n)) ∙ rolled (Tree-F.Unsigned place n)

  pub depth-text : (place : ℕ) (s : List ℕ) → depth source (text place s) ≡ 1
  depth-text place s = ap (depth source) (sym (rolls-Text place s)) ∙ rolled (Tree-F.Text place s)

  pub depth-name : (place : ℕ) → depth source (name place) ≡ 1
  depth-name place = ap (depth source) (sym (rolls-Name place)) ∙ rolled (Tree-F.Name place)

  pub depth-call : (place : ℕ) (es : List Tree)
      → depth source (call place es) ≡ call_depth (is_test source place es) (depth_of_items source es)
  depth-call place es = ap (depth source) (sym (rolls-Call place es)) ∙ rolled (Tree-F.Call place es)

  pub depth-select : (place : ℕ) (a : Tree) → depth source (select place a) ≡ depth source a + 1
  depth-select place a = ap (depth source) (sym (rolls-Select place a)) ∙ rolled (Tree-F.Select place a)

  pub depth-method : (place : ℕ) (a : Tree) (es : List Tree)
      → depth source (method place a es) ≡ max (depth source a) (depth_of_items source es) + 1
  depth-method place a es = ap (depth source) (sym (rolls-Method place a es)) ∙ rolled (Tree-F.Method place a es)

  pub depth-index : (place : ℕ) (a b : Tree) → depth source (index place a b) ≡ max (depth source a) (depth source b) + 1
  depth-index place a b = ap (depth source) (sym (rolls-Index place a b)) ∙ rolled (Tree-F.Index place a b)

  pub depth-list : (place : ℕ) (es : List Tree) → depth source (list place es) ≡ depth_of_items source es + 1
  depth-list place es = ap (depth source) (sym (rolls-List place es)) ∙ rolled (Tree-F.List place es)

  pub depth-unary : (place : ℕ) (o : UnaryOperator) (a : Tree) → depth source (unary place o a) ≡ depth source a + 1
  depth-unary place o a = ap (depth source) (sym (rolls-Unary place o a)) ∙ rolled (Tree-F.Unary place o a)

  pub depth-binary : (place : ℕ) (o : Joint) (a b : Tree)
      → depth source (binary place o a b) ≡ max (depth source a) (depth source b) + 1
  depth-binary place o a b = ap (depth source) (sym (rolls-Binary place o a b)) ∙ rolled (Tree-F.Binary place o a b)

  pub depth-conditional : (place : ℕ) (c a b : Tree)
      → depth source (conditional place c a b) ≡ max (depth source c) (max (depth source a) (depth source b)) + 1
  depth-conditional place c a b = ap (depth source) (sym (rolls-Conditional place c a b)) ∙ rolled (Tree-F.Conditional place c a b)

  entries_deep : (es : List (Entry Tree))
      → deepest_entry (map (λ (e : Entry Tree). record { key = measure source e.key; value = measure source e.value }) es)
      ≡ depth_of_entries source es
  entries_deep [] = refl
  entries_deep (e ∷ es) = ap (max (depth_of_entry source e)) (entries_deep es)

  pub depth-map : (place : ℕ) (es : List (Entry Tree)) → depth source (map_tree place es) ≡ depth_of_entries source es + 1
  depth-map place es =
      ap (depth source) (sym (rolls-Map place es)) ∙ rolled (Tree-F.Map place es) ∙ ap (λ (n : ℕ). n + 1) (entries_deep es)

  abbrev IsSome : Tree → Type 0
  IsSome t = 0 < depth source t

  abbrev below : Tree-F (Such IsSome) → Tree-F Depth
  below y = map-Tree (Such IsSome) Depth (λ e. measure source e.0) y

  some_call : (b : Bool) (xs : List (Such IsSome)) → b && one_select (map (λ e. measure source e.0) xs) ≡ true
      → 0 < deepest (map (λ e. measure source e.0) xs)
  some_call true [] h = absurd cc
  some_call false [] h = absurd cc
  some_call b (x ∷ xs) h = let pos = x.1 in omega arith

  call_level : (t : Bool) (n : ℕ) → (t ≡ true → 0 < n) → 0 < call_depth t n
  call_level true n h = h refl
  call_level false n h = omega arith

  some_level : (y : Tree-F (Such IsSome)) → 0 < depth_at source (below y)
  some_level (Tree-F.Null place) = omega arith
  some_level (Tree-F.Truth place value) = omega arith
  some_level (Tree-F.Number place negative n) = omega arith
  some_level (Tree-F.Unsigned place n) = omega arith
  some_level (Tree-F.Text place s) = omega arith
  some_level (Tree-F.Name place) = omega arith
  some_level (Tree-F.Call place xs) = call_level _ _ (some_call (is_has source place) xs)
  some_level (Tree-F.Select place a) = omega arith
  some_level (Tree-F.Method place a xs) = omega arith
  some_level (Tree-F.Index place a b) = omega arith
  some_level (Tree-F.List place xs) = omega arith
  some_level (Tree-F.Map place es) = omega arith
  some_level (Tree-F.Unary place o a) = omega arith
  some_level (Tree-F.Binary place o a b) = omega arith
  some_level (Tree-F.Conditional place c a b) = omega arith

  step : (y : Tree-F (Such IsSome)) → IsSome (roll-Tree (map-Tree (Such IsSome) Tree (λ e. e.0) y))
  step y = subst (λ n. 0 < n) (sym (ap (λ (m : Depth). m.deep) (fold_level IsSome Depth (measure_at source) y))) (some_level y)

  pub depth_pos : (e : Tree) → 0 < depth source e
  depth_pos = every_tree IsSome step
