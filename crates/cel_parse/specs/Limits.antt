-- How deep a tree and its text may be.
use Rattle.std.specs.Prelude.{◌≡◌, ℕ, suc, ◌+◌, ◌-◌, ◌<◌, ◌≤◌, max}
use Rattle.std.specs.Prelude.{Bool, true, false, ◌&&◌, List, [], ◌∷◌, map}
use Rattle.cel_lex.specs.declared.token.Infix.TheVariants.{Subtract}
use Rattle.cel_lex.specs.declared.token.TokenKind.{TokenKind}
use Rattle.cel_lex.specs.declared.token.TokenKind.TheVariants as kind
use Rattle.cel_lex.specs.declared.token.Token.{Token}
use Rattle.cel_value.specs.declared.expr.UnaryOperator.{UnaryOperator}
use Rattle.cel_value.specs.declared.expr.UnaryOperator.TheVariants.{Not, Negate}
use Rattle.cel_value.specs.declared.expr.Entry.{Entry}
use Rattle.cel_parse.specs.declared.tree.Tree.{Tree, fold-Tree}
use Rattle.cel_parse.specs.declared.tree.Tree.TheOpen.{Tree-F}
use Rattle.cel_parse.specs.Words.{is_has}
use Rattle.cel_parse.specs.Grammar.{Part, Expression, ConditionalOr, Derives}

-- how deep a tree is, and whether it is the select of a field
pub record Depth : Type 0 where
  pub deep : ℕ
  pub selects : Bool

-- the depth of the deepest
abbrev pub deepest : List Depth → ℕ
deepest [] = 0
deepest (d ∷ ds) = max d.deep (deepest ds)

-- the depth of the deepest key or value
abbrev pub deepest_entry : List (Entry Depth) → ℕ
deepest_entry [] = 0
deepest_entry (e ∷ es) = max (max e.key.deep e.value.deep) (deepest_entry es)

-- one alone, which is the select of a field
abbrev pub one_select : List Depth → Bool
one_select [] = false
one_select (d ∷ []) = d.selects
one_select (d ∷ e ∷ ds) = false

-- `has` of a field is one node with what is selected from, as the select alone is
abbrev pub call_depth : Bool → ℕ → ℕ
call_depth true below = below
call_depth false below = below + 1

-- the depth of one level, over the depths of what is inside
abbrev pub depth_at : List ℕ → Tree-F Depth → ℕ
depth_at source (Tree-F.Null place) = 1
depth_at source (Tree-F.Truth place value) = 1
depth_at source (Tree-F.Number place negative magnitude) = 1
depth_at source (Tree-F.Unsigned place value) = 1
depth_at source (Tree-F.Text place value) = 1
depth_at source (Tree-F.Name place) = 1
depth_at source (Tree-F.Call place ds) = call_depth (is_has source place && one_select ds) (deepest ds)
depth_at source (Tree-F.Select place a) = a.deep + 1
depth_at source (Tree-F.Method place a ds) = max a.deep (deepest ds) + 1
depth_at source (Tree-F.Index place a b) = max a.deep b.deep + 1
depth_at source (Tree-F.List place ds) = deepest ds + 1
depth_at source (Tree-F.Map place es) = deepest_entry es + 1
depth_at source (Tree-F.Unary place o a) = a.deep + 1
depth_at source (Tree-F.Binary place o a b) = max a.deep b.deep + 1
depth_at source (Tree-F.Conditional place c a b) = max c.deep (max a.deep b.deep) + 1

-- the select of a field
abbrev pub selects_at : Tree-F Depth → Bool
selects_at (Tree-F.Select place a) = true
selects_at _ = false

-- one level, over how deep what is inside is
abbrev pub measure_at : List ℕ → Tree-F Depth → Depth
measure_at source t = record { deep = depth_at source t; selects = selects_at t }

-- how deep a tree of a text is, whose macros are still calls
abbrev pub measure : List ℕ → Tree → Depth
measure source = fold-Tree Depth (measure_at source)

-- a leaf has depth 1, a node one more than its deepest child
abbrev pub depth : List ℕ → Tree → ℕ
depth source e = (measure source e).deep

-- a call that is the test for a field
abbrev pub is_test : List ℕ → ℕ → List Tree → Bool
is_test source place es = is_has source place && one_select (map (measure source) es)

-- how deep the deepest of some trees is
abbrev pub depth_of_items : List ℕ → List Tree → ℕ
depth_of_items source es = deepest (map (measure source) es)

-- how deep the deeper of a key and its value is
abbrev pub depth_of_entry : List ℕ → Entry Tree → ℕ
depth_of_entry source e = max (depth source e.key) (depth source e.value)

-- how deep the deepest of keys and values is
abbrev pub depth_of_entries : List ℕ → List (Entry Tree) → ℕ
depth_of_entries source [] = 0
depth_of_entries source (e ∷ es) = max (depth_of_entry source e) (depth_of_entries source es)

-- how many brackets are open after a token
abbrev pub open_after : ℕ → TokenKind → ℕ
open_after n kind.Open = n + 1
open_after n kind.OpenBracket = n + 1
open_after n kind.OpenBrace = n + 1
open_after n kind.Close = n - 1
open_after n kind.CloseBracket = n - 1
open_after n kind.CloseBrace = n - 1
open_after n _ = n

-- the most brackets that are open at once, if n are open in front
abbrev pub nests : ℕ → List Token → ℕ
nests n [] = n
nests n (t ∷ ts) = max n (nests (open_after n t.kind) ts)

-- a tree has a depth of at most 100, and its text at most 100 brackets that are open at once
pub record IsWithin (source : List ℕ) (ts : List Token) (e : Tree) : Type 0 where
  pub shallow : depth source e ≤ 100
  pub closed : nests 0 ts ≤ 100

-- what is left of a text after some of its tokens
pub data IsEnd : List Token → List Token → Type 0 where
  whole_text : {ts : List Token} → IsEnd ts ts
  behind : {t : Token} {us ts : List Token} → IsEnd us ts → IsEnd us (t ∷ ts)

-- the token of a sign
abbrev pub sign_kind : UnaryOperator → TokenKind
sign_kind Not = kind.Bang
sign_kind Negate = kind.Operator Subtract

-- so many of one sign are in front
pub data Signs (o : UnaryOperator) : ℕ → List Token → Type 0 where
  no_sign : {ts : List Token} → Signs o 0 ts
  sign : {n : ℕ} {t : Token} {ts : List Token} → t.kind ≡ sign_kind o → Signs o n ts → Signs o (suc n) (t ∷ ts)

-- so many conditionals are in front, each after the ":" of the one before it
pub data Conditionals : ℕ → List Token → Type 0 where
  no_conditional : {ts : List Token} → Conditionals 0 ts
  conditional_more : {n : ℕ} {ts mid last : List Token} {q k : Token} {c a : Tree} → Derives ConditionalOr ts (q ∷ mid) c
      → q.kind ≡ kind.Question → Derives ConditionalOr mid (k ∷ last) a → k.kind ≡ kind.Colon → Conditionals n last
      → Conditionals (suc n) ts

-- what makes a text too deep if n brackets are open in front, whether a tree is derived from it or not
pub data Exceeds (source : List ℕ) (n : ℕ) (ts : List Token) : Type 0 where
  brackets : 100 < nests n ts → Exceeds source n ts
  deep_part : {p : Part} {us rest : List Token} {e : Tree} → IsEnd us ts → Derives p us rest e → 100 < depth source e → Exceeds source n ts
  signs : {us : List Token} (o : UnaryOperator) → IsEnd us ts → Signs o 101 us → Exceeds source n ts
  conditionals : {us : List Token} → IsEnd us ts → Conditionals 100 us → Exceeds source n ts

-- a text that is too deep, from which no tree within the limits is derived
pub record IsTooDeep (source : List ℕ) (ts : List Token) : Type 0 where
  pub cause : Exceeds source 0 ts
  pub none_within : (e : Tree) → Derives Expression ts [] e → IsWithin source ts e → ⊥
