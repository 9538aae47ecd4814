-- The expression of a tree is as deep as the tree is counted.
use Rattle.std.proofs.Common.{◌≡◌, ℕ, ◌+◌, ◌<◌, Bool, true, false, cond, List, [], ◌∷◌, map}
use Rattle.std.proofs.Common.{Option, Some, None, Result, Ok, Err, refl, sym, ap, subst, ◌∙◌, arith}
use Rattle.std.specs.Prelude.{max, ◌&&◌}
use Rattle.cel_lex.specs.declared.token.Infix.TheVariants as op
use Rattle.cel_parse.specs.declared.fault.ParseFault.{ParseFault}
use Rattle.cel_value.specs.declared.expr.Entry.{Entry}
use Rattle.cel_parse.specs.declared.tree.Joint.{Joint}
use Rattle.cel_parse.specs.declared.tree.Joint.TheVariants as joint
use Rattle.cel_parse.specs.declared.tree.Tree.{Tree, roll-Tree}
use Rattle.cel_parse.specs.declared.tree.Tree.TheOpen.{Tree-F}
use Rattle.cel_parse.specs.declared.tree.Tree.TheFolds.{map-Tree}
use Rattle.cel_parse.specs.Words.{is_has, word_at}
use Rattle.cel_parse.specs.Limits.{Depth, deepest as deepest_tree, deepest_entry as deepest_tree_entry, one_select, call_depth}
use Rattle.cel_parse.specs.Limits.{depth, depth_at as tree_depth_at, measure, measure_at}
use Rattle.cel_parse.specs.Descent.{◌>>=◌}
use Rattle.cel_parse.proofs.Depths.{depth_pos}
use Rattle.cel_parse.proofs.Levels.{Such, fold_level, every_tree}
use Rattle.cel_value.specs.declared.expr.BinaryOperator.TheVariants as binary
use Rattle.cel_value.specs.declared.expr.Expr.{Expr}
use Rattle.cel_value.specs.declared.expr.Expr.TheFolds.{map-Expr, fold-roll-Expr}
use Rattle.cel_value.specs.declared.expr.Loop.{Loop}
use Rattle.cel_value.specs.declared.expr.Loop.TheVariants as loop
use Rattle.cel_value.specs.declared.expr.Syntax.{Syntax}
use Rattle.cel_value.specs.declared.expr.Syntax.TheVariants as syntax
use Rattle.cel_parse.specs.Macros.{loop_of}
use Rattle.cel_value.specs.Sizes.{deepest, deepest_entry, depth_at, depth_of, entry_depths}
use Rattle.cel_parse.specs.Expansion.{expr, signed, form_of, is_in_range, number_of, Expanded, Role, names, selects}
use Rattle.cel_parse.specs.Expansion.{other, Expansion, each, each_entry, plain_call, has_by, has_of, plain_method, loop_by}
use Rattle.cel_parse.specs.Expansion.{where_by, loop_of_kind, method_by, expanded_at, role_at, expansion, expanded}

-- the depth of one level
level : (place : ℕ) (form : Syntax Expr)
    → depth_of (expr place form) ≡ depth_at (map-Expr Expr ℕ depth_of (record { place = place; form = form })).form
level place form = fold-roll-Expr ℕ (λ l. depth_at l.form) (record { place = place; form = form })

-- what is answered, if anything is, is of this kind
abbrev pub Holds : {A : Type 0} → (A → Type 0) → Result A ParseFault → Type 0
Holds {A} P r = (x : A) → r ≡ Ok x → P x

pub holds_then : {A B : Type 0} (P : B → Type 0) (r : Result A ParseFault) (go : A → Result B ParseFault) → ((x : A) → r ≡ Ok x
    → Holds P (go x)) → Holds P (r >>= go)
holds_then P (Ok x) go next y h = next x refl y h
holds_then P (Err e) go next y h = absurd cc

pub holds_ok : {A : Type 0} (P : A → Type 0) (x : A) → P x → Holds P (Ok x)
holds_ok P x p y h = subst P (cc) p

-- an expression of this depth
abbrev IsDeep : ℕ → Expr → Type 0
IsDeep n e = depth_of e ≡ n

-- expressions whose deepest has this depth
abbrev AreDeep : ℕ → List Expr → Type 0
AreDeep n es = deepest (map depth_of es) ≡ n

-- keys and values whose deepest has this depth
abbrev AreEntriesDeep : ℕ → List (Entry Expr) → Type 0
AreEntriesDeep n es = deepest_entry (entry_depths es) ≡ n

deep_as : (n m : ℕ) (r : Expanded) → n ≡ m → Holds (IsDeep n) r → Holds (IsDeep m) r
deep_as n m r e h x q = h x q ∙ e

-- a macro sees what a tree's depth is counted by
data IsSeen : Depth → Role → Type 0 where
  a_name : {d : Depth} {n : ℕ} → d.deep ≡ 1 → d.selects ≡ false → IsSeen d (names n)
  a_select : {d : Depth} {field : ℕ} {a : Expanded} → d.selects ≡ true → Holds (λ e. 1 + depth_of e ≡ d.deep) a
      → IsSeen d (selects field a)
  another : {d : Depth} → d.selects ≡ false → IsSeen d other

-- what is expanded is as deep as it is counted
record IsKept (d : Depth) (x : Expansion) : Type 0 where
  some : 0 < d.deep
  own : Holds (IsDeep d.deep) x.own
  role : IsSeen d x.role

data AllKept : List Depth → List Expansion → Type 0 where
  none : AllKept [] []
  one : {d : Depth} {ds : List Depth} {x : Expansion} {xs : List Expansion} → IsKept d x → AllKept ds xs
      → AllKept (d ∷ ds) (x ∷ xs)

data AllEntries : List (Entry Depth) → List (Entry Expansion) → Type 0 where
  no_entry : AllEntries [] []
  one_entry : {d : Entry Depth} {ds : List (Entry Depth)} {x : Entry Expansion} {xs : List (Entry Expansion)} → IsKept d.key x.key
      → IsKept d.value x.value → AllEntries ds xs → AllEntries (d ∷ ds) (x ∷ xs)

each_deep : {ds : List Depth} {xs : List Expansion} → AllKept ds xs → Holds (AreDeep (deepest_tree ds)) (each xs)
each_deep none = holds_ok _ [] refl
each_deep (one {d} {ds} {x} {xs} k r) =
    holds_then _ x.own _ (λ e h. holds_then _ (each xs) _ (λ es g. holds_ok _ (e ∷ es) (let p =
    k.own e h in let q = each_deep r es g in omega arith)))

entries_deep : {ds : List (Entry Depth)} {xs : List (Entry Expansion)} → AllEntries ds xs
    → Holds (AreEntriesDeep (deepest_tree_entry ds)) (each_entry xs)
entries_deep no_entry = holds_ok _ [] refl
entries_deep (one_entry {d} {ds} {x} {xs} k v r) =
    holds_then _ x.key.own _ (λ a h. holds_then _ x.value.own _ (λ b g. holds_then _ (each_entry xs) _
    (λ es i. holds_ok _ (record { key = a; value = b } ∷ es) (let p = k.own a h in let q = v.own b g
    in let s = entries_deep r es i in omega arith))))

module _ (source : List ℕ) (place : ℕ) where
  call_deep : {ds : List Depth} {xs : List Expansion} → AllKept ds xs
      → Holds (IsDeep (deepest_tree ds + 1)) (plain_call source place xs)
  call_deep {ds} {xs} k =
      holds_then _ (each xs) _ (λ es h. holds_ok _ _ (let l = level place (syntax.Call (word_at source place) es)
      in let p = each_deep k es h in omega arith))

  role_deep : {d : Depth} {x : Expansion} (r : Role) → IsKept d x → IsSeen d r
      → Holds (IsDeep (call_depth d.selects (max d.deep 0))) (has_by source place (x ∷ []) r)
  role_deep {d} {x} (names n) k (a_name e f) = deep_as _ _ _ (ap (λ b. call_depth b (max d.deep 0)) (sym f)) (call_deep (one k none))
  role_deep {d} {x} (selects field a) k (a_select f g) =
      deep_as d.deep _ _ (kept ∙ ap (λ b. call_depth b (max d.deep 0)) (sym f))
      (holds_then _ a _ (λ e h. holds_ok _ _ (let l = level place (syntax.Has e (word_at source field)) in let p = g e h in omega arith)))
    where
      kept : d.deep ≡ max d.deep 0
      kept = omega arith
  role_deep {d} {x} other k (another f) = deep_as _ _ _ (ap (λ b. call_depth b (max d.deep 0)) (sym f)) (call_deep (one k none))

  has_deep : {ds : List Depth} {xs : List Expansion} → AllKept ds xs
      → Holds (IsDeep (call_depth (one_select ds) (deepest_tree ds))) (has_of source place xs)
  has_deep none = call_deep none
  has_deep (one {x} k none) = role_deep x.role k k.role
  has_deep (one k (one l r)) = call_deep (one k (one l r))

  call_by : (b : Bool) {ds : List Depth} {xs : List Expansion} → AllKept ds xs
      → Holds (IsDeep (call_depth (b && one_select ds) (deepest_tree ds))) (cond b (has_of source place xs) (plain_call source place xs))
  call_by true k = has_deep k
  call_by false k = call_deep k

  module _ (d : ℕ) (a : Expanded) (on : Holds (IsDeep d) a) where
    method_deep : {ds : List Depth} {xs : List Expansion} → AllKept ds xs
        → Holds (IsDeep (max d (deepest_tree ds) + 1)) (plain_method source place a xs)
    method_deep {ds} {xs} k =
        holds_then _ a _ (λ e h. holds_then _ (each xs) _ (λ es g. holds_ok _ _ (let l =
        level place (syntax.Method e (word_at source place) es) in let p = on e h in let q = each_deep k es g in omega arith)))

    loop_deep : {dx db : Depth} {x b : Expansion} (l : Loop) (r : Role) → IsKept dx x → IsKept db b → IsSeen dx r
        → Holds (IsDeep (max d (max dx.deep (max db.deep 0)) + 1)) (loop_by source place l a x b r)
    loop_deep {b = b} l (names n) k j (a_name e f) =
        holds_then _ a _ (λ v h. holds_then _ b.own _ (λ p g. holds_ok _ _ (let y =
        level place (syntax.Loop l v (word_at source n) p) in let s = on v h in let t = j.own p g in let u = j.some in omega arith)))
    loop_deep l (selects field c) k j s = method_deep (one k (one j none))
    loop_deep l other k j s = method_deep (one k (one j none))

    where_deep : {dx dp dt : Depth} {x p t : Expansion} (r : Role) → IsKept dx x → IsKept dp p → IsKept dt t → IsSeen dx r
        → Holds (IsDeep (max d (max dx.deep (max dp.deep (max dt.deep 0))) + 1)) (where_by source place a x p t r)
    where_deep {p = p} {t = t} (names n) k j i (a_name e f) =
        holds_then _ a _ (λ v h. holds_then _ p.own _ (λ q g. holds_then _ t.own _ (λ u m. holds_ok _ _ (let y =
        level place (syntax.MapWhere v (word_at source n) q u) in let s = on v h in let z = j.own q g in let w = i.own u m
        in let o = j.some in omega arith))))
    where_deep (selects field c) k j i s = method_deep (one k (one j (one i none)))
    where_deep other k j i s = method_deep (one k (one j (one i none)))

    three_deep : {dx dp dt : Depth} {x p t : Expansion} (l : Loop) → IsKept dx x → IsKept dp p → IsKept dt t
        → Holds (IsDeep (max d (max dx.deep (max dp.deep (max dt.deep 0))) + 1)) (loop_of_kind source place l a (x ∷ p ∷ t ∷ []))
    three_deep loop.All k j i = method_deep (one k (one j (one i none)))
    three_deep loop.Exists k j i = method_deep (one k (one j (one i none)))
    three_deep loop.ExistsOne k j i = method_deep (one k (one j (one i none)))
    three_deep loop.Filter k j i = method_deep (one k (one j (one i none)))
    three_deep {x = x} loop.Map k j i = where_deep x.role k j i k.role

    kind_deep : {ds : List Depth} {xs : List Expansion} (l : Loop) → AllKept ds xs
        → Holds (IsDeep (max d (deepest_tree ds) + 1)) (loop_of_kind source place l a xs)
    kind_deep loop.All none = method_deep none
    kind_deep loop.Exists none = method_deep none
    kind_deep loop.ExistsOne none = method_deep none
    kind_deep loop.Filter none = method_deep none
    kind_deep loop.Map none = method_deep none
    kind_deep loop.All (one k none) = method_deep (one k none)
    kind_deep loop.Exists (one k none) = method_deep (one k none)
    kind_deep loop.ExistsOne (one k none) = method_deep (one k none)
    kind_deep loop.Filter (one k none) = method_deep (one k none)
    kind_deep loop.Map (one k none) = method_deep (one k none)
    kind_deep l (one {x} k (one j none)) = loop_deep l x.role k j k.role
    kind_deep l (one k (one j (one i none))) = three_deep l k j i
    kind_deep loop.All (one k (one j (one i (one m r)))) = method_deep (one k (one j (one i (one m r))))
    kind_deep loop.Exists (one k (one j (one i (one m r)))) = method_deep (one k (one j (one i (one m r))))
    kind_deep loop.ExistsOne (one k (one j (one i (one m r)))) = method_deep (one k (one j (one i (one m r))))
    kind_deep loop.Filter (one k (one j (one i (one m r)))) = method_deep (one k (one j (one i (one m r))))
    kind_deep loop.Map (one k (one j (one i (one m r)))) = method_deep (one k (one j (one i (one m r))))

    any_deep : {ds : List Depth} {xs : List Expansion} (o : Option Loop) → AllKept ds xs
        → Holds (IsDeep (max d (deepest_tree ds) + 1)) (method_by o source place a xs)
    any_deep None k = method_deep k
    any_deep (Some l) k = kind_deep l k

number_by : (place : ℕ) (b : Bool) (v : Syntax Expr) (e : ParseFault) → depth_of (expr place v) ≡ 1
    → Holds (IsDeep 1) (cond b (Ok (expr place v)) (Err e))
number_by place true v e h = holds_ok _ _ h
number_by place false v e h = λ x q. absurd cc

number_deep : (place n : ℕ) (negative : Bool) → Holds (IsDeep 1) (number_of place negative n)
number_deep place n negative =
    number_by place (is_in_range negative n) (syntax.Int (signed negative n)) _ (level place (syntax.Int (signed negative n)))

-- an operator between two operands is one node over them
form_deep : (place : ℕ) (o : Joint) (a b : Expr) → depth_of (expr place (form_of o a b)) ≡ 1 + max (depth_of a) (depth_of b)
form_deep place (joint.Infix op.Or) a b = level place (syntax.Or a b)
form_deep place (joint.Infix op.And) a b = level place (syntax.And a b)
form_deep place (joint.Infix op.Less) a b = level place (syntax.Binary binary.Less a b)
form_deep place (joint.Infix op.AtMost) a b = level place (syntax.Binary binary.AtMost a b)
form_deep place (joint.Infix op.Greater) a b = level place (syntax.Binary binary.Greater a b)
form_deep place (joint.Infix op.AtLeast) a b = level place (syntax.Binary binary.AtLeast a b)
form_deep place (joint.Infix op.Equal) a b = level place (syntax.Binary binary.Equal a b)
form_deep place (joint.Infix op.NotEqual) a b = level place (syntax.Binary binary.NotEqual a b)
form_deep place (joint.Infix op.Add) a b = level place (syntax.Binary binary.Add a b)
form_deep place (joint.Infix op.Subtract) a b = level place (syntax.Binary binary.Subtract a b)
form_deep place (joint.Infix op.Multiply) a b = level place (syntax.Binary binary.Multiply a b)
form_deep place (joint.Infix op.Divide) a b = level place (syntax.Binary binary.Divide a b)
form_deep place (joint.Infix op.Remainder) a b = level place (syntax.Binary binary.Remainder a b)
form_deep place joint.In a b = level place (syntax.Binary binary.In a b)

module _ (source : List ℕ) where
  abbrev IsGood : Tree → Type 0
  IsGood t = IsKept (measure source t) (expansion source t)

  abbrev depth_in : Such IsGood → Depth
  depth_in e = measure source e.0

  abbrev expansion_in : Such IsGood → Expansion
  expansion_in e = expansion source e.0

  abbrev depths : Tree-F (Such IsGood) → Tree-F Depth
  depths y = map-Tree (Such IsGood) Depth depth_in y

  abbrev inside : Tree-F (Such IsGood) → Tree-F Expansion
  inside y = map-Tree (Such IsGood) Expansion expansion_in y

  abbrev entry_depth : Entry (Such IsGood) → Entry Depth
  entry_depth e = record { key = depth_in e.key; value = depth_in e.value }

  abbrev entry_expansion : Entry (Such IsGood) → Entry Expansion
  entry_expansion e = record { key = expansion_in e.key; value = expansion_in e.value }

  all_kept : (xs : List (Such IsGood)) → AllKept (map depth_in xs) (map expansion_in xs)
  all_kept [] = none
  all_kept (x ∷ xs) = one x.1 (all_kept xs)

  all_entries : (xs : List (Entry (Such IsGood))) → AllEntries (map entry_depth xs) (map entry_expansion xs)
  all_entries [] = no_entry
  all_entries (x ∷ xs) = one_entry x.key.1 x.value.1 (all_entries xs)

  deep_at : (y : Tree-F (Such IsGood)) → Holds (IsDeep (tree_depth_at source (depths y))) (expanded_at source (inside y))
  deep_at (Tree-F.Null place) = holds_ok _ _ (level place syntax.Null)
  deep_at (Tree-F.Truth place value) = holds_ok _ _ (level place (syntax.Bool value))
  deep_at (Tree-F.Number place negative n) = number_deep place n negative
  deep_at (Tree-F.Unsigned place n) = holds_ok _ _ (level place (syntax.Uint n))
  deep_at (Tree-F.Text place s) = holds_ok _ _ (level place (syntax.Text s))
  deep_at (Tree-F.Name place) = holds_ok _ _ (level place (syntax.Name (word_at source place)))
  deep_at (Tree-F.Call place xs) = call_by source place (is_has source place) (all_kept xs)
  deep_at (Tree-F.Select place a) =
      holds_then _ (expansion_in a).own _ (λ x h. holds_ok _ _ (let l = level place (syntax.Select x (word_at source place))
      in let p = a.1.own x h in omega arith))
  deep_at (Tree-F.Method place a xs) =
      any_deep source place (depth_in a).deep (expansion_in a).own a.1.own (loop_of (word_at source place)) (all_kept xs)
  deep_at (Tree-F.Index place a b) =
      holds_then _ (expansion_in a).own _ (λ x h. holds_then _ (expansion_in b).own _ (λ y g. holds_ok _ _ (let l =
      level place (syntax.Index x y) in let p = a.1.own x h in let q = b.1.own y g in omega arith)))
  deep_at (Tree-F.List place xs) =
      holds_then _ (each (map expansion_in xs)) _ (λ es h. holds_ok _ _ (let l = level place (syntax.List es)
      in let p = each_deep (all_kept xs) es h in omega arith))
  deep_at (Tree-F.Map place xs) =
      holds_then _ (each_entry (map entry_expansion xs)) _ (λ es h. holds_ok _ _ (let l = level place (syntax.Map es)
      in let p = entries_deep (all_entries xs) es h in omega arith))
  deep_at (Tree-F.Unary place o a) =
      holds_then _ (expansion_in a).own _ (λ x h. holds_ok _ _ (let l = level place (syntax.Unary o x)
      in let p = a.1.own x h in omega arith))
  deep_at (Tree-F.Binary place o a b) =
      holds_then _ (expansion_in a).own _ (λ x h. holds_then _ (expansion_in b).own _ (λ y g. holds_ok _ _ (let l =
      form_deep place o x y in let p = a.1.own x h in let q = b.1.own y g in omega arith)))
  deep_at (Tree-F.Conditional place c a b) =
      holds_then _ (expansion_in c).own _ (λ x h. holds_then _ (expansion_in a).own _ (λ y g. holds_then _ (expansion_in b).own _
      (λ z i. holds_ok _ _ (let l = level place (syntax.Conditional x y z) in let p = c.1.own x h in let q = a.1.own y g
      in let r = b.1.own z i in omega arith))))

  seen_at : (y : Tree-F (Such IsGood)) → IsSeen (measure_at source (depths y)) (role_at (inside y))
  seen_at (Tree-F.Null place) = another refl
  seen_at (Tree-F.Truth place value) = another refl
  seen_at (Tree-F.Number place negative n) = another refl
  seen_at (Tree-F.Unsigned place n) = another refl
  seen_at (Tree-F.Text place s) = another refl
  seen_at (Tree-F.Name place) = a_name refl refl
  seen_at (Tree-F.Call place xs) = another refl
  seen_at (Tree-F.Select place a) = a_select refl (λ e h. let p = a.1.own e h in omega arith)
  seen_at (Tree-F.Method place a xs) = another refl
  seen_at (Tree-F.Index place a b) = another refl
  seen_at (Tree-F.List place xs) = another refl
  seen_at (Tree-F.Map place es) = another refl
  seen_at (Tree-F.Unary place o a) = another refl
  seen_at (Tree-F.Binary place o a b) = another refl
  seen_at (Tree-F.Conditional place c a b) = another refl

  abbrev whole_at : Tree-F Expansion → Expansion
  whole_at t = record { role = role_at t; own = expanded_at source t }

  kept_as : (d c : Depth) (x y : Expansion) → d ≡ c → x ≡ y → 0 < d.deep → Holds (IsDeep c.deep) y.own → IsSeen c y.role
      → IsKept d x
  kept_as d c x y e f some own role =
      subst (λ z. IsKept z x) (sym e) (subst (λ z. IsKept c z) (sym f) (record {
        some =
            subst (λ (z : Depth). 0 < z.deep) e some;
        own = own;
        role = role;
      }))

  step : (y : Tree-F (Such IsGood)) → IsGood (roll-Tree (map-Tree (Such IsGood) Tree (λ e. e.0) y))
  step y =
      kept_as _ (measure_at source (depths y)) _ (whole_at (inside y)) (fold_level IsGood Depth (measure_at source) y)
      (fold_level IsGood Expansion whole_at y) (depth_pos source _) (deep_at y) (seen_at y)

  pub expanded_depth : (t : Tree) (e : Expr) → expanded source t ≡ Ok e → depth_of e ≡ depth source t
  expanded_depth t e h = (every_tree IsGood step t).own e h
