-- A tree has no more nodes than its text has tokens.
use Rattle.std.proofs.Common.{◌≡◌, ℕ, ◌+◌, ◌<◌, ◌≤◌, Bool, true, false, List}
use Rattle.std.proofs.Common.{◌∷◌, length, map, sym, ap, ◌∙◌, arith}
use Rattle.cel_lex.specs.declared.token.Token.{Token}
use Rattle.cel_parse.specs.declared.heads.Closer.{Closer}
use Rattle.cel_value.specs.declared.expr.Entry.{Entry}
use Rattle.cel_value.specs.declared.expr.UnaryOperator.{UnaryOperator}
use Rattle.cel_value.specs.declared.expr.UnaryOperator.TheVariants.{Not, Negate}
use Rattle.cel_value.specs.Sizes.{total, total_entries}
use Rattle.cel_parse.specs.declared.tree.Joint.{Joint}
use Rattle.cel_parse.specs.declared.tree.Tree.{Tree, roll-Tree, fold-Tree, Null as null, Truth as truth}
use Rattle.cel_parse.specs.declared.tree.Tree.{Number as number, Unsigned as unsigned, Text as text, Name as name, Call as call}
use Rattle.cel_parse.specs.declared.tree.Tree.{Select as select, Method as method, Index as index, List as list, Map as map_tree}
use Rattle.cel_parse.specs.declared.tree.Tree.{Unary as unary, Binary as binary, Conditional as conditional}
use Rattle.cel_parse.specs.declared.tree.Tree.TheOpen.{Tree-F}
use Rattle.cel_parse.specs.declared.tree.Tree.TheVariants.{rolls-Null, rolls-Truth, rolls-Number, rolls-Unsigned, rolls-Text}
use Rattle.cel_parse.specs.declared.tree.Tree.TheVariants.{rolls-Name, rolls-Call, rolls-Select, rolls-Method, rolls-Index}
use Rattle.cel_parse.specs.declared.tree.Tree.TheVariants.{rolls-List, rolls-Map, rolls-Unary, rolls-Binary, rolls-Conditional}
use Rattle.cel_parse.specs.declared.tree.Tree.TheFolds.{map-Tree, fold-roll-Tree}
use Rattle.cel_parse.specs.Grammar.{Part, Ends, end, comma_end, Derives, whole, chosen, or_one, or_more}
use Rattle.cel_parse.specs.Grammar.{and_one, and_more, relation_one, relation_more, sum_one, sum_more, product_one, product_more, bare}
use Rattle.cel_parse.specs.Grammar.{nots, minuses, not_one, not_more, negative, minus_one, minus_more, alone, selected}
use Rattle.cel_parse.specs.Grammar.{method_called, indexed, none, yes, no, int, uint, string, named}
use Rattle.cel_parse.specs.Grammar.{called, within, listed, mapped, Lists, no_items, items, Items, last_item}
use Rattle.cel_parse.specs.Grammar.{next_item, Maps, no_entries, entries, Entries, last_entry, next_entry}

-- how many nodes one level has
abbrev pub size_at : Tree-F ℕ → ℕ
size_at (Tree-F.Null place) = 1
size_at (Tree-F.Truth place value) = 1
size_at (Tree-F.Number place is_negative n) = 1
size_at (Tree-F.Unsigned place n) = 1
size_at (Tree-F.Text place s) = 1
size_at (Tree-F.Name place) = 1
size_at (Tree-F.Call place ns) = 1 + total ns
size_at (Tree-F.Select place a) = 1 + a
size_at (Tree-F.Method place a ns) = 1 + (a + total ns)
size_at (Tree-F.Index place a b) = 1 + (a + b)
size_at (Tree-F.List place ns) = 1 + total ns
size_at (Tree-F.Map place es) = 1 + total_entries es
size_at (Tree-F.Unary place o a) = 1 + a
size_at (Tree-F.Binary place o a b) = 1 + (a + b)
size_at (Tree-F.Conditional place c a b) = 1 + (c + (a + b))

-- how many nodes a tree has
abbrev pub size : Tree → ℕ
size = fold-Tree ℕ size_at

-- how many nodes some trees have
abbrev sizes : List Tree → ℕ
sizes es = total (map size es)

abbrev entry_size : Entry Tree → Entry ℕ
entry_size e = record { key = size e.key; value = size e.value }

-- how many nodes keys and values have
abbrev entry_sizes : List (Entry Tree) → ℕ
entry_sizes es = total_entries (map entry_size es)

rolled : (t : Tree-F Tree) → size (roll-Tree t) ≡ size_at (map-Tree Tree ℕ size t)
rolled t = fold-roll-Tree ℕ size_at t

size-null : (place : ℕ) → size (null place) ≡ 1
size-null place = ap size (sym (rolls-Null place)) ∙ rolled (Tree-F.Null place)

size-truth : (place : ℕ) (value : Bool) → size (truth place value) ≡ 1
size-truth place value = ap size (sym (rolls-Truth place value)) ∙ rolled (Tree-F.Truth place value)

size-number : (place : ℕ) (b : Bool) (n : ℕ) → size (number place b n) ≡ 1
size-number place b n = ap size (sym (rolls-Number place b n)) ∙ rolled (Tree-F.Number place b n)

size-unsigned : (place n : ℕ) → size (unsigned place n) ≡ 1
size-unsigned place n = ap size (sym (rolls-Unsigned place n)) ∙ rolled (Tree-F.Unsigned place n)

size-text : (place : ℕ) (s : List ℕ) → size (text place s) ≡ 1
size-text place s = ap size (sym (rolls-Text place s)) ∙ rolled (Tree-F.Text place s)

size-name : (place : ℕ) → size (name place) ≡ 1
size-name place = ap size (sym (rolls-Name place)) ∙ rolled (Tree-F.Name place)

size-call : (place : ℕ) (es : List Tree) → size (call place es) ≡ 1 + sizes es
size-call place es = ap size (sym (rolls-Call place es)) ∙ rolled (Tree-F.Call place es)

size-select : (place : ℕ) (a : Tree) → size (select place a) ≡ 1 + size a
size-select place a = ap size (sym (rolls-Select place a)) ∙ rolled (Tree-F.Select place a)

size-method : (place : ℕ) (a : Tree) (es : List Tree) → size (method place a es) ≡ 1 + (size a + sizes es)
size-method place a es = ap size (sym (rolls-Method place a es)) ∙ rolled (Tree-F.Method place a es)

size-index : (place : ℕ) (a b : Tree) → size (index place a b) ≡ 1 + (size a + size b)
size-index place a b = ap size (sym (rolls-Index place a b)) ∙ rolled (Tree-F.Index place a b)

size-list : (place : ℕ) (es : List Tree) → size (list place es) ≡ 1 + sizes es
size-list place es = ap size (sym (rolls-List place es)) ∙ rolled (Tree-F.List place es)

size-map : (place : ℕ) (es : List (Entry Tree)) → size (map_tree place es) ≡ 1 + entry_sizes es
size-map place es = ap size (sym (rolls-Map place es)) ∙ rolled (Tree-F.Map place es)

size-unary : (place : ℕ) (o : UnaryOperator) (a : Tree) → size (unary place o a) ≡ 1 + size a
size-unary place o a = ap size (sym (rolls-Unary place o a)) ∙ rolled (Tree-F.Unary place o a)

size-binary : (place : ℕ) (o : Joint) (a b : Tree) → size (binary place o a b) ≡ 1 + (size a + size b)
size-binary place o a b = ap size (sym (rolls-Binary place o a b)) ∙ rolled (Tree-F.Binary place o a b)

size-conditional : (place : ℕ) (c a b : Tree) → size (conditional place c a b) ≡ 1 + (size c + (size a + size b))
size-conditional place c a b = ap size (sym (rolls-Conditional place c a b)) ∙ rolled (Tree-F.Conditional place c a b)

-- if a tree is between two places, there are at least as many tokens between them as it has nodes
abbrev IsSized : ℕ → List Token → List Token → Type 0
IsSized n ts rest = n + length rest ≤ length ts

one_token : (n : ℕ) (t : Token) (rest : List Token) → n ≡ 1 → IsSized n (t ∷ rest) rest
one_token n t rest e = omega arith

behind_sign : (place : ℕ) (o : UnaryOperator) (e : Tree) (t : Token) (ts rest : List Token) → IsSized (size e) ts rest
    → IsSized (size (unary place o e)) (t ∷ ts) rest
behind_sign place o e t ts rest s = let h = size-unary place o e in omega arith

of_two : (o : Joint) (a b : Tree) (t : Token) (ts mid rest : List Token) → IsSized (size a) ts (t ∷ mid) → IsSized (size b) mid rest
    → IsSized (size (binary t.start o a b)) ts rest
of_two o a b t ts mid rest p q = let h = size-binary t.start o a b in omega arith

some_end : {c : Closer} {ts rest : List Token} → Ends c ts rest → length rest < length ts
some_end (end q) = omega arith
some_end (comma_end m q h) = omega arith

mutual
  pub sized : {p : Part} {ts rest : List Token} {e : Tree} → Derives p ts rest e → IsSized (size e) ts rest
  sized (whole d) = sized d
  sized (chosen {q = q} {k = k} {c = c} {a = a} {b = b} dc hq da hk db) =
      let h = size-conditional q.start c a b in let x = sized dc in let y = sized da in let z = sized db in omega arith
  sized (or_one d) = sized d
  sized (or_more {t = t} {o = o} {a = a} {b = b} d j r) = of_two o a b t _ _ _ (sized d) (sized r)
  sized (and_one d) = sized d
  sized (and_more {t = t} {o = o} {a = a} {b = b} d j r) = of_two o a b t _ _ _ (sized d) (sized r)
  sized (relation_one d) = sized d
  sized (relation_more {t = t} {o = o} {a = a} {b = b} d j r) = of_two o a b t _ _ _ (sized d) (sized r)
  sized (sum_one d) = sized d
  sized (sum_more {t = t} {o = o} {a = a} {b = b} d j r) = of_two o a b t _ _ _ (sized d) (sized r)
  sized (product_one d) = sized d
  sized (product_more {t = t} {o = o} {a = a} {b = b} d j r) = of_two o a b t _ _ _ (sized d) (sized r)
  sized (bare d) = sized d
  sized (nots d) = sized d
  sized (minuses d) = sized d
  sized (not_one {t = t} {ts = ts} {rest = rest} {e = e} q d) = behind_sign t.start Not e t ts rest (sized d)
  sized (not_more {t = t} {ts = ts} {rest = rest} {e = e} q d) = behind_sign t.start Not e t ts rest (sized d)
  sized (negative {t = t} {n = n} {magnitude = magnitude} q h) = let e = size-number t.start true magnitude in omega arith
  sized (minus_one {t = t} {ts = ts} {rest = rest} {e = e} q l d) = behind_sign t.start Negate e t ts rest (sized d)
  sized (minus_more {t = t} {ts = ts} {rest = rest} {e = e} q d) = behind_sign t.start Negate e t ts rest (sized d)
  sized (alone d) = sized d
  sized (selected {f = f} {e = e} d q h) = let g = size-select f.start e in let x = sized d in omega arith
  sized (method_called {f =
      f} {e = e} {es = es} d q h o r) = let g = size-method f.start e es in let x = sized d in let y = sized_list r in omega arith
  sized (indexed {o = o} {a = a} {b = b} d q r h) = let g = size-index o.start a b in let x = sized d in let y = sized r in omega arith
  sized (none {t} {rest} q) = one_token _ t rest (size-null t.start)
  sized (yes {t} {rest} q) = one_token _ t rest (size-truth t.start true)
  sized (no {t} {rest} q) = one_token _ t rest (size-truth t.start false)
  sized (int {t} {magnitude} {rest} q) = one_token _ t rest (size-number t.start false magnitude)
  sized (uint {t} {value} {rest} q) = one_token _ t rest (size-unsigned t.start value)
  sized (string {t} {value} {rest} q) = one_token _ t rest (size-text t.start value)
  sized (named {t} {rest} q) = one_token _ t rest (size-name t.start)
  sized (called {t = t} {es = es} q h r) = let g = size-call t.start es in let y = sized_list r in omega arith
  sized (within q d h) = let x = sized d in omega arith
  sized (listed {o = o} {es = es} q r) = let g = size-list o.start es in let y = sized_list r in omega arith
  sized (mapped {o = o} {es = es} q r) = let g = size-map o.start es in let y = sized_map r in omega arith

  sized_list : {c : Closer} {ts rest : List Token} {es : List Tree} → Lists c ts rest es → IsSized (sizes es) ts rest
  sized_list (no_items e) = let x = some_end e in omega arith
  sized_list (items r) = sized_items r

  sized_items : {c : Closer} {ts rest : List Token} {es : List Tree} → Items c ts rest es → IsSized (sizes es) ts rest
  sized_items (last_item d e) = let x = sized d in let y = some_end e in omega arith
  sized_items (next_item d q r) = let x = sized d in let y = sized_items r in omega arith

  sized_map : {ts rest : List Token} {es : List (Entry Tree)} → Maps ts rest es → IsSized (entry_sizes es) ts rest
  sized_map (no_entries e) = let x = some_end e in omega arith
  sized_map (entries r) = sized_entries r

  sized_entries : {ts rest : List Token} {es : List (Entry Tree)} → Entries ts rest es → IsSized (entry_sizes es) ts rest
  sized_entries (last_entry d q b e) = let x = sized d in let y = sized b in let z = some_end e in omega arith
  sized_entries (next_entry d q b m r) = let x = sized d in let y = sized b in let z = sized_entries r in omega arith
