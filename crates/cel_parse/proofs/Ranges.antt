-- The only fault of the expression of a tree is a number out of range.
use Rattle.std.proofs.Common.{◌≡◌, ℕ, Bool, true, false, cond, List, [], ◌∷◌}
use Rattle.std.proofs.Common.{Option, Some, None, Result, Ok, Err, refl, sym, subst}
use Rattle.std.specs.Prelude.{map}
use Rattle.cel_lex.specs.declared.fault.LexFault.{LexFault}
use Rattle.cel_value.specs.declared.expr.Expr.{Expr}
use Rattle.cel_value.specs.declared.expr.Entry.{Entry}
use Rattle.cel_value.specs.declared.expr.Loop.{Loop}
use Rattle.cel_value.specs.declared.expr.Loop.TheVariants as loop
use Rattle.cel_parse.specs.declared.fault.ParseFault.{ParseFault}
use Rattle.cel_parse.specs.declared.fault.ParseFault.TheVariants.{Lex}
use Rattle.cel_parse.specs.declared.tree.Tree.{Tree, roll-Tree}
use Rattle.cel_parse.specs.declared.tree.Tree.TheOpen.{Tree-F}
use Rattle.cel_parse.specs.declared.tree.Tree.TheFolds.{map-Tree}
use Rattle.cel_parse.specs.Words.{is_has, word_at}
use Rattle.cel_parse.specs.Macros.{loop_of}
use Rattle.cel_parse.specs.Descent.{◌>>=◌}
use Rattle.cel_parse.proofs.Levels.{Such, fold_level, every_tree}
use Rattle.cel_parse.specs.Expansion.{Expanded, Role, names, selects, other, Expansion, each}
use Rattle.cel_parse.specs.Expansion.{each_entry, plain_call, has_by, has_of, plain_method, loop_by, where_by}
use Rattle.cel_parse.specs.Expansion.{loop_of_kind, method_by, is_in_range, expanded_at, role_at, expansion, expanded}

-- a fault, if there is one, is the lexer's
abbrev Lexical : {A : Type 0} → Result A ParseFault → Type 0
Lexical r = (f : ParseFault) → r ≡ Err f → (g : LexFault) × (f ≡ Lex g)

lexical_then : {A B : Type 0} (r : Result A ParseFault) (go : A → Result B ParseFault) → Lexical r → ((x : A) → Lexical (go x))
    → Lexical (r >>= go)
lexical_then (Ok x) go first next f h = next x f h
lexical_then (Err e) go first next f h = let p = first e refl in (p.0, let q = p.1 in cc)

lexical_ok : {A : Type 0} (x : A) → Lexical (Ok x)
lexical_ok x f h = absurd cc

lexical_by : (b : Bool) (x : Expr) (g : LexFault) → Lexical (cond b (Ok x) (Err (Lex g)))
lexical_by true x g f h = absurd cc
lexical_by false x g f h = (g, cc)

abbrev Kept : Role → Type 0
Kept (names n) = Unit {0}
Kept (selects field a) = Lexical a
Kept other = Unit {0}

abbrev Good : Expansion → Type 0
Good x = Lexical x.own × Kept x.role

data AllGood : List Expansion → Type 0 where
  none : AllGood []
  some : {x : Expansion} {xs : List Expansion} → Good x → AllGood xs → AllGood (x ∷ xs)

data AllEntries : List (Entry Expansion) → Type 0 where
  no_entry : AllEntries []
  one_entry : {x : Entry Expansion} {xs : List (Entry Expansion)} → Good x.key → Good x.value → AllEntries xs
      → AllEntries (x ∷ xs)

each_lexical : {xs : List Expansion} → AllGood xs → Lexical (each xs)
each_lexical none = lexical_ok []
each_lexical (some {x} {xs} g r) = lexical_then x.own _ g.0 (λ e. lexical_then (each xs) _ (each_lexical r) (λ es. lexical_ok _))

entries_lexical : {xs : List (Entry Expansion)} → AllEntries xs → Lexical (each_entry xs)
entries_lexical no_entry = lexical_ok []
entries_lexical (one_entry {x} {xs} k v r) =
    lexical_then x.key.own _ k.0
    (λ a. lexical_then x.value.own _ v.0 (λ b. lexical_then (each_entry xs) _ (entries_lexical r) (λ es. lexical_ok _)))

module _ (source : List ℕ) (place : ℕ) where
  plain_lexical : {xs : List Expansion} → AllGood xs → Lexical (plain_call source place xs)
  plain_lexical {xs} g = lexical_then (each xs) _ (each_lexical g) (λ es. lexical_ok _)

  role_lexical : {xs : List Expansion} (r : Role) → AllGood xs → Kept r → Lexical (has_by source place xs r)
  role_lexical (names n) g k = plain_lexical g
  role_lexical (selects field a) g k = lexical_then a _ k (λ e. lexical_ok _)
  role_lexical other g k = plain_lexical g

  has_lexical : {xs : List Expansion} → AllGood xs → Lexical (has_of source place xs)
  has_lexical none = plain_lexical none
  has_lexical (some {x} g none) = role_lexical x.role (some g none) g.1
  has_lexical (some g (some h r)) = plain_lexical (some g (some h r))

  call_by : (b : Bool) {xs : List Expansion} → AllGood xs → Lexical (cond b (has_of source place xs) (plain_call source place xs))
  call_by true g = has_lexical g
  call_by false g = plain_lexical g

  module _ (a : Expanded) (la : Lexical a) where
    method_lexical : {xs : List Expansion} → AllGood xs → Lexical (plain_method source place a xs)
    method_lexical {xs} g = lexical_then a _ la (λ e. lexical_then (each xs) _ (each_lexical g) (λ es. lexical_ok _))

    loop_lexical : (x b : Expansion) (l : Loop) (r : Role) → Good x → Good b → Lexical (loop_by source place l a x b r)
    loop_lexical x b l (names n) g h = lexical_then a _ la (λ e. lexical_then b.own _ h.0 (λ p. lexical_ok _))
    loop_lexical x b l (selects field c) g h = method_lexical (some g (some h none))
    loop_lexical x b l other g h = method_lexical (some g (some h none))

    where_lexical : (x p t : Expansion) (r : Role) → Good x → Good p → Good t → Lexical (where_by source place a x p t r)
    where_lexical x p t (names n) g h i =
        lexical_then a _ la (λ e. lexical_then p.own _ h.0 (λ q. lexical_then t.own _ i.0 (λ u. lexical_ok _)))
    where_lexical x p t (selects field c) g h i = method_lexical (some g (some h (some i none)))
    where_lexical x p t other g h i = method_lexical (some g (some h (some i none)))

    three_lexical : (x p t : Expansion) (l : Loop) → Good x → Good p → Good t
        → Lexical (loop_of_kind source place l a (x ∷ p ∷ t ∷ []))
    three_lexical x p t loop.All g h i = method_lexical (some g (some h (some i none)))
    three_lexical x p t loop.Exists g h i = method_lexical (some g (some h (some i none)))
    three_lexical x p t loop.ExistsOne g h i = method_lexical (some g (some h (some i none)))
    three_lexical x p t loop.Filter g h i = method_lexical (some g (some h (some i none)))
    three_lexical x p t loop.Map g h i = where_lexical x p t x.role g h i

    more_lexical : {x p t u : Expansion} {xs : List Expansion} (l : Loop) → AllGood (x ∷ p ∷ t ∷ u ∷ xs)
        → Lexical (loop_of_kind source place l a (x ∷ p ∷ t ∷ u ∷ xs))
    more_lexical loop.All g = method_lexical g
    more_lexical loop.Exists g = method_lexical g
    more_lexical loop.ExistsOne g = method_lexical g
    more_lexical loop.Filter g = method_lexical g
    more_lexical loop.Map g = method_lexical g

    few_lexical : {xs : List Expansion} (l : Loop) → AllGood xs → Lexical (loop_of_kind source place l a xs)
    few_lexical loop.All none = method_lexical none
    few_lexical loop.Exists none = method_lexical none
    few_lexical loop.ExistsOne none = method_lexical none
    few_lexical loop.Filter none = method_lexical none
    few_lexical loop.Map none = method_lexical none
    few_lexical loop.All (some g none) = method_lexical (some g none)
    few_lexical loop.Exists (some g none) = method_lexical (some g none)
    few_lexical loop.ExistsOne (some g none) = method_lexical (some g none)
    few_lexical loop.Filter (some g none) = method_lexical (some g none)
    few_lexical loop.Map (some g none) = method_lexical (some g none)
    few_lexical l (some {x} g (some {x = b} h none)) = loop_lexical x b l x.role g h
    few_lexical l (some {x} g (some {x = p} h (some {x = t} i none))) = three_lexical x p t l g h i
    few_lexical l (some g (some h (some i (some j r)))) = more_lexical l (some g (some h (some i (some j r))))

    kind_lexical : {xs : List Expansion} (o : Option Loop) → AllGood xs → Lexical (method_by o source place a xs)
    kind_lexical None g = method_lexical g
    kind_lexical (Some l) g = few_lexical l g

module _ (source : List ℕ) where
  abbrev IsGood : Tree → Type 0
  IsGood t = Good (expansion source t)

  abbrev of_such : Such IsGood → Expansion
  of_such e = expansion source e.0

  abbrev entry_of : Entry (Such IsGood) → Entry Expansion
  entry_of e = record { key = of_such e.key; value = of_such e.value }

  abbrev below : Tree-F (Such IsGood) → Tree-F Expansion
  below y = map-Tree (Such IsGood) Expansion of_such y

  all_good : (xs : List (Such IsGood)) → AllGood (map of_such xs)
  all_good [] = none
  all_good (x ∷ xs) = some x.1 (all_good xs)

  all_entries : (xs : List (Entry (Such IsGood))) → AllEntries (map entry_of xs)
  all_entries [] = no_entry
  all_entries (x ∷ xs) = one_entry x.key.1 x.value.1 (all_entries xs)

  lexical_at : (y : Tree-F (Such IsGood)) → Lexical (expanded_at source (below y))
  lexical_at (Tree-F.Null place) = lexical_ok _
  lexical_at (Tree-F.Truth place value) = lexical_ok _
  lexical_at (Tree-F.Number place negative n) = lexical_by (is_in_range negative n) _ _
  lexical_at (Tree-F.Unsigned place n) = lexical_ok _
  lexical_at (Tree-F.Text place s) = lexical_ok _
  lexical_at (Tree-F.Name place) = lexical_ok _
  lexical_at (Tree-F.Call place xs) = call_by source place (is_has source place) (all_good xs)
  lexical_at (Tree-F.Select place a) = lexical_then (of_such a).own _ a.1.0 (λ x. lexical_ok _)
  lexical_at (Tree-F.Method place a xs) = kind_lexical source place (of_such a).own a.1.0 (loop_of (word_at source place)) (all_good xs)
  lexical_at (Tree-F.Index place a b) =
      lexical_then (of_such a).own _ a.1.0 (λ x. lexical_then (of_such b).own _ b.1.0 (λ y. lexical_ok _))
  lexical_at (Tree-F.List place xs) = lexical_then (each (map of_such xs)) _ (each_lexical (all_good xs)) (λ es. lexical_ok _)
  lexical_at (Tree-F.Map place es) = lexical_then (each_entry (map entry_of es)) _ (entries_lexical (all_entries es)) (λ es. lexical_ok _)
  lexical_at (Tree-F.Unary place o a) = lexical_then (of_such a).own _ a.1.0 (λ x. lexical_ok _)
  lexical_at (Tree-F.Binary place o a b) =
      lexical_then (of_such a).own _ a.1.0 (λ x. lexical_then (of_such b).own _ b.1.0 (λ y. lexical_ok _))
  lexical_at (Tree-F.Conditional place c a b) =
      lexical_then (of_such c).own _ c.1.0
      (λ x. lexical_then (of_such a).own _ a.1.0 (λ y. lexical_then (of_such b).own _ b.1.0 (λ z. lexical_ok _)))

  kept_at : (y : Tree-F (Such IsGood)) → Kept (role_at (below y))
  kept_at (Tree-F.Null place) = tt
  kept_at (Tree-F.Truth place value) = tt
  kept_at (Tree-F.Number place negative n) = tt
  kept_at (Tree-F.Unsigned place n) = tt
  kept_at (Tree-F.Text place s) = tt
  kept_at (Tree-F.Name place) = tt
  kept_at (Tree-F.Call place xs) = tt
  kept_at (Tree-F.Select place a) = a.1.0
  kept_at (Tree-F.Method place a xs) = tt
  kept_at (Tree-F.Index place a b) = tt
  kept_at (Tree-F.List place xs) = tt
  kept_at (Tree-F.Map place es) = tt
  kept_at (Tree-F.Unary place o a) = tt
  kept_at (Tree-F.Binary place o a b) = tt
  kept_at (Tree-F.Conditional place c a b) = tt

  abbrev whole_at : Tree-F Expansion → Expansion
  whole_at t = record { role = role_at t; own = expanded_at source t }

  step : (y : Tree-F (Such IsGood)) → IsGood (roll-Tree (map-Tree (Such IsGood) Tree (λ e. e.0) y))
  step y = subst Good (sym (fold_level IsGood Expansion whole_at y)) (lexical_at y, kept_at y)

  pub expanded_lexical : (t : Tree) → Lexical (expanded source t)
  expanded_lexical t = (every_tree IsGood step t).0
