-- The expression of a tree has no more nodes than the tree.
use Rattle.std.proofs.Common.{◌≡◌, ℕ, ◌+◌, ◌≤◌, Bool, true, false, cond, List, []}
use Rattle.std.proofs.Common.{◌∷◌, map, Option, Some, None, Ok, Err, sym, subst, arith}
use Rattle.cel_lex.specs.declared.token.Infix.TheVariants as op
use Rattle.cel_parse.specs.declared.fault.ParseFault.{ParseFault}
use Rattle.cel_value.specs.declared.expr.Entry.{Entry}
use Rattle.cel_parse.specs.declared.tree.Joint.{Joint}
use Rattle.cel_parse.specs.declared.tree.Joint.TheVariants as joint
use Rattle.cel_parse.specs.declared.tree.Tree.{Tree, roll-Tree}
use Rattle.cel_parse.specs.declared.tree.Tree.TheOpen.{Tree-F}
use Rattle.cel_parse.specs.declared.tree.Tree.TheFolds.{map-Tree}
use Rattle.cel_parse.specs.Words.{is_has, word_at}
use Rattle.cel_parse.proofs.Levels.{Such, fold_level, every_tree}
use Rattle.cel_parse.proofs.Sizes.{size_at, size}
use Rattle.cel_value.specs.declared.expr.BinaryOperator.TheVariants as binary
use Rattle.cel_value.specs.declared.expr.Expr.{Expr}
use Rattle.cel_value.specs.declared.expr.Expr.TheFolds.{map-Expr, fold-roll-Expr}
use Rattle.cel_value.specs.declared.expr.Loop.{Loop}
use Rattle.cel_value.specs.declared.expr.Loop.TheVariants as loop
use Rattle.cel_value.specs.declared.expr.Syntax.{Syntax}
use Rattle.cel_value.specs.declared.expr.Syntax.TheVariants as syntax
use Rattle.cel_parse.specs.Macros.{loop_of}
use Rattle.cel_value.specs.Sizes.{total, total_entries, nodes_at, nodes_of, entry_sizes}
use Rattle.cel_parse.specs.Expansion.{expr, signed, form_of, is_in_range, number_of, Expanded, Role, names, selects}
use Rattle.cel_parse.specs.Expansion.{other, Expansion, each, each_entry, plain_call, has_by, has_of, plain_method, loop_by}
use Rattle.cel_parse.specs.Expansion.{where_by, loop_of_kind, method_by, expanded_at, role_at, expansion, expanded}
use Rattle.cel_parse.proofs.ExpandedDepths.{Holds, holds_then, holds_ok}

-- how many nodes one level has
level : (place : ℕ) (form : Syntax Expr)
    → nodes_of (expr place form) ≡ nodes_at (map-Expr Expr ℕ nodes_of (record { place = place; form = form })).form
level place form = fold-roll-Expr ℕ (λ l. nodes_at l.form) (record { place = place; form = form })

-- an expression of at most so many nodes
abbrev IsSmall : ℕ → Expr → Type 0
IsSmall n e = nodes_of e ≤ n

-- expressions of at most so many
abbrev AreSmall : ℕ → List Expr → Type 0
AreSmall n es = total (map nodes_of es) ≤ n

-- keys and values of at most so many
abbrev AreEntriesSmall : ℕ → List (Entry Expr) → Type 0
AreEntriesSmall n es = total_entries (entry_sizes es) ≤ n

-- what a select selects from has one node less
abbrev IsBelow : ℕ → Role → Type 0
IsBelow n (names p) = Unit {0}
IsBelow n (selects field a) = Holds (λ e. 1 + nodes_of e ≤ n) a
IsBelow n other = Unit {0}

-- what is expanded has no more nodes than are counted
record IsKept (n : ℕ) (x : Expansion) : Type 0 where
  own : Holds (IsSmall n) x.own
  role : IsBelow n x.role

data AllKept : List ℕ → List Expansion → Type 0 where
  none : AllKept [] []
  one : {n : ℕ} {ns : List ℕ} {x : Expansion} {xs : List Expansion} → IsKept n x → AllKept ns xs → AllKept (n ∷ ns) (x ∷ xs)

data AllEntries : List (Entry ℕ) → List (Entry Expansion) → Type 0 where
  no_entry : AllEntries [] []
  one_entry : {n : Entry ℕ} {ns : List (Entry ℕ)} {x : Entry Expansion} {xs : List (Entry Expansion)} → IsKept n.key x.key
      → IsKept n.value x.value → AllEntries ns xs → AllEntries (n ∷ ns) (x ∷ xs)

each_small : {ns : List ℕ} {xs : List Expansion} → AllKept ns xs → Holds (AreSmall (total ns)) (each xs)
each_small none = holds_ok _ [] (omega arith)
each_small (one {n} {ns} {x} {xs} k r) =
    holds_then _ x.own _ (λ e h. holds_then _ (each xs) _ (λ es g. holds_ok _ (e ∷ es) (let p =
    k.own e h in let q = each_small r es g in omega arith)))

entries_small : {ns : List (Entry ℕ)} {xs : List (Entry Expansion)} → AllEntries ns xs
    → Holds (AreEntriesSmall (total_entries ns)) (each_entry xs)
entries_small no_entry = holds_ok _ [] (omega arith)
entries_small (one_entry {n} {ns} {x} {xs} k v r) =
    holds_then _ x.key.own _ (λ a h. holds_then _ x.value.own _ (λ b g. holds_then _ (each_entry xs) _
    (λ es i. holds_ok _ (record { key = a; value = b } ∷ es) (let p = k.own a h in let q = v.own b g
    in let s = entries_small r es i in omega arith))))

module _ (source : List ℕ) (place : ℕ) where
  call_small : {ns : List ℕ} {xs : List Expansion} → AllKept ns xs → Holds (IsSmall (1 + total ns)) (plain_call source place xs)
  call_small {ns} {xs} k =
      holds_then _ (each xs) _ (λ es h. holds_ok _ _ (let l = level place (syntax.Call (word_at source place) es)
      in let p = each_small k es h in omega arith))

  role_small : {n : ℕ} {x : Expansion} (r : Role) → IsKept n x → IsBelow n r
      → Holds (IsSmall (1 + total (n ∷ []))) (has_by source place (x ∷ []) r)
  role_small (names p) k b = call_small (one k none)
  role_small (selects field a) k b =
      holds_then _ a _ (λ e h. holds_ok _ _ (let l = level place (syntax.Has e (word_at source field)) in let p = b e h in omega arith))
  role_small other k b = call_small (one k none)

  has_small : {ns : List ℕ} {xs : List Expansion} → AllKept ns xs → Holds (IsSmall (1 + total ns)) (has_of source place xs)
  has_small none = call_small none
  has_small (one {x} k none) = role_small x.role k k.role
  has_small (one k (one l r)) = call_small (one k (one l r))

  call_by : (b : Bool) {ns : List ℕ} {xs : List Expansion} → AllKept ns xs
      → Holds (IsSmall (1 + total ns)) (cond b (has_of source place xs) (plain_call source place xs))
  call_by true k = has_small k
  call_by false k = call_small k

  module _ (d : ℕ) (a : Expanded) (on : Holds (IsSmall d) a) where
    method_small : {ns : List ℕ} {xs : List Expansion} → AllKept ns xs
        → Holds (IsSmall (1 + (d + total ns))) (plain_method source place a xs)
    method_small {ns} {xs} k =
        holds_then _ a _ (λ e h. holds_then _ (each xs) _ (λ es g. holds_ok _ _ (let l =
        level place (syntax.Method e (word_at source place) es) in let p = on e h in let q = each_small k es g in omega arith)))

    loop_small : {n m : ℕ} {x b : Expansion} (l : Loop) (r : Role) → IsKept n x → IsKept m b
        → Holds (IsSmall (1 + (d + (n + (m + 0))))) (loop_by source place l a x b r)
    loop_small {b = b} l (names p) k j =
        holds_then _ a _ (λ v h. holds_then _ b.own _ (λ q g. holds_ok _ _ (let y =
        level place (syntax.Loop l v (word_at source p) q) in let s = on v h in let t = j.own q g in omega arith)))
    loop_small l (selects field c) k j = method_small (one k (one j none))
    loop_small l other k j = method_small (one k (one j none))

    where_small : {n m o : ℕ} {x p t : Expansion} (r : Role) → IsKept n x → IsKept m p → IsKept o t
        → Holds (IsSmall (1 + (d + (n + (m + (o + 0)))))) (where_by source place a x p t r)
    where_small {p = p} {t = t} (names w) k j i =
        holds_then _ a _ (λ v h. holds_then _ p.own _ (λ q g. holds_then _ t.own _ (λ u f. holds_ok _ _ (let y =
        level place (syntax.MapWhere v (word_at source w) q u) in let s = on v h in let z = j.own q g
        in let w = i.own u f in omega arith))))
    where_small (selects field c) k j i = method_small (one k (one j (one i none)))
    where_small other k j i = method_small (one k (one j (one i none)))

    three_small : {n m o : ℕ} {x p t : Expansion} (l : Loop) → IsKept n x → IsKept m p → IsKept o t
        → Holds (IsSmall (1 + (d + (n + (m + (o + 0)))))) (loop_of_kind source place l a (x ∷ p ∷ t ∷ []))
    three_small loop.All k j i = method_small (one k (one j (one i none)))
    three_small loop.Exists k j i = method_small (one k (one j (one i none)))
    three_small loop.ExistsOne k j i = method_small (one k (one j (one i none)))
    three_small loop.Filter k j i = method_small (one k (one j (one i none)))
    three_small {x = x} loop.Map k j i = where_small x.role k j i

    kind_small : {ns : List ℕ} {xs : List Expansion} (l : Loop) → AllKept ns xs
        → Holds (IsSmall (1 + (d + total ns))) (loop_of_kind source place l a xs)
    kind_small loop.All none = method_small none
    kind_small loop.Exists none = method_small none
    kind_small loop.ExistsOne none = method_small none
    kind_small loop.Filter none = method_small none
    kind_small loop.Map none = method_small none
    kind_small loop.All (one k none) = method_small (one k none)
    kind_small loop.Exists (one k none) = method_small (one k none)
    kind_small loop.ExistsOne (one k none) = method_small (one k none)
    kind_small loop.Filter (one k none) = method_small (one k none)
    kind_small loop.Map (one k none) = method_small (one k none)
    kind_small l (one {x} k (one j none)) = loop_small l x.role k j
    kind_small l (one k (one j (one i none))) = three_small l k j i
    kind_small loop.All (one k (one j (one i (one m r)))) = method_small (one k (one j (one i (one m r))))
    kind_small loop.Exists (one k (one j (one i (one m r)))) = method_small (one k (one j (one i (one m r))))
    kind_small loop.ExistsOne (one k (one j (one i (one m r)))) = method_small (one k (one j (one i (one m r))))
    kind_small loop.Filter (one k (one j (one i (one m r)))) = method_small (one k (one j (one i (one m r))))
    kind_small loop.Map (one k (one j (one i (one m r)))) = method_small (one k (one j (one i (one m r))))

    any_small : {ns : List ℕ} {xs : List Expansion} (o : Option Loop) → AllKept ns xs
        → Holds (IsSmall (1 + (d + total ns))) (method_by o source place a xs)
    any_small None k = method_small k
    any_small (Some l) k = kind_small l k

leaf_small : (place : ℕ) (v : Syntax Expr) → nodes_of (expr place v) ≡ 1 → Holds (IsSmall 1) (Ok (expr place v))
leaf_small place v h = holds_ok _ _ (omega arith)

number_by : (place : ℕ) (b : Bool) (v : Syntax Expr) (e : ParseFault) → nodes_of (expr place v) ≡ 1
    → Holds (IsSmall 1) (cond b (Ok (expr place v)) (Err e))
number_by place true v e h = leaf_small place v h
number_by place false v e h = λ x q. absurd cc

number_small : (place n : ℕ) (negative : Bool) → Holds (IsSmall 1) (number_of place negative n)
number_small place n negative =
    number_by place (is_in_range negative n) (syntax.Int (signed negative n)) _ (level place (syntax.Int (signed negative n)))

-- an operator between two operands is one node over them
form_size : (place : ℕ) (o : Joint) (a b : Expr) → nodes_of (expr place (form_of o a b)) ≡ 1 + (nodes_of a + nodes_of b)
form_size place (joint.Infix op.Or) a b = level place (syntax.Or a b)
form_size place (joint.Infix op.And) a b = level place (syntax.And a b)
form_size place (joint.Infix op.Less) a b = level place (syntax.Binary binary.Less a b)
form_size place (joint.Infix op.AtMost) a b = level place (syntax.Binary binary.AtMost a b)
form_size place (joint.Infix op.Greater) a b = level place (syntax.Binary binary.Greater a b)
form_size place (joint.Infix op.AtLeast) a b = level place (syntax.Binary binary.AtLeast a b)
form_size place (joint.Infix op.Equal) a b = level place (syntax.Binary binary.Equal a b)
form_size place (joint.Infix op.NotEqual) a b = level place (syntax.Binary binary.NotEqual a b)
form_size place (joint.Infix op.Add) a b = level place (syntax.Binary binary.Add a b)
form_size place (joint.Infix op.Subtract) a b = level place (syntax.Binary binary.Subtract a b)
form_size place (joint.Infix op.Multiply) a b = level place (syntax.Binary binary.Multiply a b)
form_size place (joint.Infix op.Divide) a b = level place (syntax.Binary binary.Divide a b)
form_size place (joint.Infix op.Remainder) a b = level place (syntax.Binary binary.Remainder a b)
form_size place joint.In a b = level place (syntax.Binary binary.In a b)

module _ (source : List ℕ) where
  abbrev IsGood : Tree → Type 0
  IsGood t = IsKept (size t) (expansion source t)

  abbrev size_in : Such IsGood → ℕ
  size_in e = size e.0

  abbrev expansion_in : Such IsGood → Expansion
  expansion_in e = expansion source e.0

  abbrev sizes : Tree-F (Such IsGood) → Tree-F ℕ
  sizes y = map-Tree (Such IsGood) ℕ size_in y

  abbrev inside : Tree-F (Such IsGood) → Tree-F Expansion
  inside y = map-Tree (Such IsGood) Expansion expansion_in y

  abbrev entry_size : Entry (Such IsGood) → Entry ℕ
  entry_size e = record { key = size_in e.key; value = size_in e.value }

  abbrev entry_expansion : Entry (Such IsGood) → Entry Expansion
  entry_expansion e = record { key = expansion_in e.key; value = expansion_in e.value }

  all_kept : (xs : List (Such IsGood)) → AllKept (map size_in xs) (map expansion_in xs)
  all_kept [] = none
  all_kept (x ∷ xs) = one x.1 (all_kept xs)

  all_entries : (xs : List (Entry (Such IsGood))) → AllEntries (map entry_size xs) (map entry_expansion xs)
  all_entries [] = no_entry
  all_entries (x ∷ xs) = one_entry x.key.1 x.value.1 (all_entries xs)

  small_at : (y : Tree-F (Such IsGood)) → Holds (IsSmall (size_at (sizes y))) (expanded_at source (inside y))
  small_at (Tree-F.Null place) = leaf_small place _ (level place syntax.Null)
  small_at (Tree-F.Truth place value) = leaf_small place _ (level place (syntax.Bool value))
  small_at (Tree-F.Number place negative n) = number_small place n negative
  small_at (Tree-F.Unsigned place n) = leaf_small place _ (level place (syntax.Uint n))
  small_at (Tree-F.Text place s) = leaf_small place _ (level place (syntax.Text s))
  small_at (Tree-F.Name place) = leaf_small place _ (level place (syntax.Name (word_at source place)))
  small_at (Tree-F.Call place xs) = call_by source place (is_has source place) (all_kept xs)
  small_at (Tree-F.Select place a) =
      holds_then _ (expansion_in a).own _ (λ x h. holds_ok _ _ (let l = level place (syntax.Select x (word_at source place))
      in let p = a.1.own x h in omega arith))
  small_at (Tree-F.Method place a xs) =
      any_small source place (size_in a) (expansion_in a).own a.1.own (loop_of (word_at source place)) (all_kept xs)
  small_at (Tree-F.Index place a b) =
      holds_then _ (expansion_in a).own _ (λ x h. holds_then _ (expansion_in b).own _ (λ y g. holds_ok _ _ (let l =
      level place (syntax.Index x y) in let p = a.1.own x h in let q = b.1.own y g in omega arith)))
  small_at (Tree-F.List place xs) =
      holds_then _ (each (map expansion_in xs)) _ (λ es h. holds_ok _ _ (let l = level place (syntax.List es)
      in let p = each_small (all_kept xs) es h in omega arith))
  small_at (Tree-F.Map place xs) =
      holds_then _ (each_entry (map entry_expansion xs)) _ (λ es h. holds_ok _ _ (let l = level place (syntax.Map es)
      in let p = entries_small (all_entries xs) es h in omega arith))
  small_at (Tree-F.Unary place o a) =
      holds_then _ (expansion_in a).own _ (λ x h. holds_ok _ _ (let l = level place (syntax.Unary o x)
      in let p = a.1.own x h in omega arith))
  small_at (Tree-F.Binary place o a b) =
      holds_then _ (expansion_in a).own _ (λ x h. holds_then _ (expansion_in b).own _ (λ y g. holds_ok _ _ (let l =
      form_size place o x y in let p = a.1.own x h in let q = b.1.own y g in omega arith)))
  small_at (Tree-F.Conditional place c a b) =
      holds_then _ (expansion_in c).own _ (λ x h. holds_then _ (expansion_in a).own _ (λ y g. holds_then _ (expansion_in b).own _
      (λ z i. holds_ok _ _ (let l = level place (syntax.Conditional x y z) in let p = c.1.own x h in let q = a.1.own y g
      in let r = b.1.own z i in omega arith))))

  below_at : (y : Tree-F (Such IsGood)) → IsBelow (size_at (sizes y)) (role_at (inside y))
  below_at (Tree-F.Null place) = tt
  below_at (Tree-F.Truth place value) = tt
  below_at (Tree-F.Number place negative n) = tt
  below_at (Tree-F.Unsigned place n) = tt
  below_at (Tree-F.Text place s) = tt
  below_at (Tree-F.Name place) = tt
  below_at (Tree-F.Call place xs) = tt
  below_at (Tree-F.Select place a) = λ e h. let p = a.1.own e h in omega arith
  below_at (Tree-F.Method place a xs) = tt
  below_at (Tree-F.Index place a b) = tt
  below_at (Tree-F.List place xs) = tt
  below_at (Tree-F.Map place es) = tt
  below_at (Tree-F.Unary place o a) = tt
  below_at (Tree-F.Binary place o a b) = tt
  below_at (Tree-F.Conditional place c a b) = tt

  abbrev whole_at : Tree-F Expansion → Expansion
  whole_at t = record { role = role_at t; own = expanded_at source t }

  kept_as : (n m : ℕ) (x y : Expansion) → n ≡ m → x ≡ y → IsKept m y → IsKept n x
  kept_as n m x y e f k = subst (λ z. IsKept z x) (sym e) (subst (λ z. IsKept m z) (sym f) k)

  step : (y : Tree-F (Such IsGood)) → IsGood (roll-Tree (map-Tree (Such IsGood) Tree (λ e. e.0) y))
  step y =
      kept_as _ (size_at (sizes y)) _ (whole_at (inside y)) (fold_level IsGood ℕ size_at y) (fold_level IsGood Expansion whole_at y)
      (record { own = small_at y; role = below_at y })

  pub expanded_size : (t : Tree) (e : Expr) → expanded source t ≡ Ok e → nodes_of e ≤ size t
  expanded_size t e h = (every_tree IsGood step t).own e h
