-- The grammar (cel-spec, "Syntax"). A part derives a tree from the tokens between two places: those from
-- the first list on, up to where the second begins.
use Rattle.std.specs.Prelude.{◌≡◌, ℕ, Bool, true, false, List, [], ◌∷◌}
use Rattle.cel_lex.specs.declared.token.Infix.{Infix}
use Rattle.cel_lex.specs.declared.token.Infix.TheVariants as op
use Rattle.cel_lex.specs.declared.token.TokenKind.{TokenKind}
use Rattle.cel_lex.specs.declared.token.TokenKind.TheVariants as kind
use Rattle.cel_lex.specs.declared.token.Token.{Token}
use Rattle.cel_value.specs.declared.expr.UnaryOperator.TheVariants.{Not, Negate}
use Rattle.cel_value.specs.declared.expr.Entry.{Entry}
use Rattle.cel_parse.specs.declared.heads.Closer.{Closer}
use Rattle.cel_parse.specs.declared.heads.Closer.TheVariants as closer
use Rattle.cel_parse.specs.declared.tree.Joint.{Joint}
use Rattle.cel_parse.specs.declared.tree.Joint.TheVariants as joint
use Rattle.cel_parse.specs.declared.tree.Tree.{Tree, Null as null, Truth as truth, Number as number}
use Rattle.cel_parse.specs.declared.tree.Tree.{Unsigned as unsigned, Text as text, Name as name, Call as call}
use Rattle.cel_parse.specs.declared.tree.Tree.{Select as select, Method as method, Index as index, List as list}
use Rattle.cel_parse.specs.declared.tree.Tree.{Map as map, Unary as unary, Binary as binary, Conditional as conditional}

-- the parts of the grammar, where Nots and Minuses are one sign or more and their operand
pub data Part : Type 0 where
  Expression : Part
  ConditionalOr : Part
  ConditionalAnd : Part
  Relation : Part
  Addition : Part
  Multiplication : Part
  Unary : Part
  Nots : Part
  Minuses : Part
  Member : Part
  Primary : Part

-- how loosely an operator binds
abbrev pub looseness_of : Infix → ℕ
looseness_of op.Or = 5
looseness_of op.And = 4
looseness_of op.Less = 3
looseness_of op.AtMost = 3
looseness_of op.Greater = 3
looseness_of op.AtLeast = 3
looseness_of op.Equal = 3
looseness_of op.NotEqual = 3
looseness_of op.Add = 2
looseness_of op.Subtract = 2
looseness_of op.Multiply = 1
looseness_of op.Divide = 1
looseness_of op.Remainder = 1

-- `in` is one of the relations
abbrev pub looseness : Joint → ℕ
looseness (joint.Infix o) = looseness_of o
looseness joint.In = 3

-- the token of what is between two operands
abbrev pub joint_kind : Joint → TokenKind
joint_kind (joint.Infix o) = kind.Operator o
joint_kind joint.In = kind.In

-- the token joins two operands, so loosely
pub record Joins (t : Token) (o : Joint) (n : ℕ) : Type 0 where
  pub kind : t.kind ≡ joint_kind o
  pub loose : looseness o ≡ n

-- the token of a field or a method: a name, or a word that is reserved
abbrev pub is_selector : TokenKind → Bool
is_selector kind.Name = true
is_selector kind.Reserved = true
is_selector _ = false

-- the token that closes
abbrev pub closes : Closer → TokenKind → Bool
closes closer.Parenthesis kind.Close = true
closes closer.Bracket kind.CloseBracket = true
closes closer.Brace kind.CloseBrace = true
closes _ _ = false

-- whether a comma may be after the last item
abbrev pub takes_comma : Closer → Bool
takes_comma closer.Parenthesis = false
takes_comma _ = true

-- one number alone is between the places
pub record IsLone (ts rest : List Token) : Type 0 where
  pub token : Token
  pub magnitude : ℕ
  pub kind : token.kind ≡ kind.Int magnitude
  pub alone : ts ≡ token ∷ rest

-- what closes a list of items, and a comma in front of it if one may be there
pub data Ends (c : Closer) : List Token → List Token → Type 0 where
  end : {k : Token} {rest : List Token} → closes c k.kind ≡ true → Ends c (k ∷ rest) rest
  comma_end : {m k : Token} {rest : List Token} → takes_comma c ≡ true → m.kind ≡ kind.Comma → closes c k.kind ≡ true
      → Ends c (m ∷ k ∷ rest) rest

mutual
  -- a part derives a tree from the tokens between two places
  pub data Derives : Part → List Token → List Token → Tree → Type 0 where
    -- Expr = ConditionalOr ["?" ConditionalOr ":" Expr]
    whole : {ts rest : List Token} {e : Tree} → Derives ConditionalOr ts rest e → Derives Expression ts rest e
    chosen : {ts mid last rest : List Token} {q k : Token} {c a b : Tree} → Derives ConditionalOr ts (q ∷ mid) c → q.kind ≡ kind.Question
        → Derives ConditionalOr mid (k ∷ last) a → k.kind ≡ kind.Colon → Derives Expression last rest b
        → Derives Expression ts rest (conditional q.start c a b)
    -- ConditionalOr = [ConditionalOr "||"] ConditionalAnd
    or_one : {ts rest : List Token} {e : Tree} → Derives ConditionalAnd ts rest e → Derives ConditionalOr ts rest e
    or_more : {ts mid rest : List Token} {t : Token} {o : Joint} {a b : Tree} → Derives ConditionalOr ts (t ∷ mid) a → Joins t o 5
        → Derives ConditionalAnd mid rest b → Derives ConditionalOr ts rest (binary t.start o a b)
    -- ConditionalAnd = [ConditionalAnd "&&"] Relation
    and_one : {ts rest : List Token} {e : Tree} → Derives Relation ts rest e → Derives ConditionalAnd ts rest e
    and_more : {ts mid rest : List Token} {t : Token} {o : Joint} {a b : Tree} → Derives ConditionalAnd ts (t ∷ mid) a → Joins t o 4
        → Derives Relation mid rest b → Derives ConditionalAnd ts rest (binary t.start o a b)
    -- Relation = [Relation ("<"|"<="|">"|">="|"=="|"!="|"in")] Addition
    relation_one : {ts rest : List Token} {e : Tree} → Derives Addition ts rest e → Derives Relation ts rest e
    relation_more : {ts mid rest : List Token} {t : Token} {o : Joint} {a b : Tree} → Derives Relation ts (t ∷ mid) a → Joins t o 3
        → Derives Addition mid rest b → Derives Relation ts rest (binary t.start o a b)
    -- Addition = [Addition ("+"|"-")] Multiplication
    sum_one : {ts rest : List Token} {e : Tree} → Derives Multiplication ts rest e → Derives Addition ts rest e
    sum_more : {ts mid rest : List Token} {t : Token} {o : Joint} {a b : Tree} → Derives Addition ts (t ∷ mid) a → Joins t o 2
        → Derives Multiplication mid rest b → Derives Addition ts rest (binary t.start o a b)
    -- Multiplication = [Multiplication ("*"|"/"|"%")] Unary
    product_one : {ts rest : List Token} {e : Tree} → Derives Unary ts rest e → Derives Multiplication ts rest e
    product_more : {ts mid rest : List Token} {t : Token} {o : Joint} {a b : Tree} → Derives Multiplication ts (t ∷ mid) a → Joins t o 1
        → Derives Unary mid rest b → Derives Multiplication ts rest (binary t.start o a b)
    -- Unary = Member | "!" {"!"} Member | "-" {"-"} Member
    bare : {ts rest : List Token} {e : Tree} → Derives Member ts rest e → Derives Unary ts rest e
    nots : {ts rest : List Token} {e : Tree} → Derives Nots ts rest e → Derives Unary ts rest e
    minuses : {ts rest : List Token} {e : Tree} → Derives Minuses ts rest e → Derives Unary ts rest e
    not_one : {t : Token} {ts rest : List Token} {e : Tree} → t.kind ≡ kind.Bang → Derives Member ts rest e
        → Derives Nots (t ∷ ts) rest (unary t.start Not e)
    not_more : {t : Token} {ts rest : List Token} {e : Tree} → t.kind ≡ kind.Bang → Derives Nots ts rest e
        → Derives Nots (t ∷ ts) rest (unary t.start Not e)
    -- the last minus before a number alone makes a negative number
    negative : {t n : Token} {magnitude : ℕ} {rest : List Token} → t.kind ≡ kind.Operator op.Subtract → n.kind ≡ kind.Int magnitude
        → Derives Minuses (t ∷ n ∷ rest) rest (number t.start true magnitude)
    minus_one : {t : Token} {ts rest : List Token} {e : Tree} → t.kind ≡ kind.Operator op.Subtract → ¬ (IsLone ts rest)
        → Derives Member ts rest e → Derives Minuses (t ∷ ts) rest (unary t.start Negate e)
    minus_more : {t : Token} {ts rest : List Token} {e : Tree} → t.kind ≡ kind.Operator op.Subtract → Derives Minuses ts rest e
        → Derives Minuses (t ∷ ts) rest (unary t.start Negate e)
    -- Member = Primary | Member "." SELECTOR ["(" [List] ")"] | Member "[" Expr "]"
    alone : {ts rest : List Token} {e : Tree} → Derives Primary ts rest e → Derives Member ts rest e
    selected : {ts rest : List Token} {d f : Token} {e : Tree} → Derives Member ts (d ∷ f ∷ rest) e → d.kind ≡ kind.Dot
        → is_selector f.kind ≡ true → Derives Member ts rest (select f.start e)
    method_called : {ts mid rest : List Token} {d f o : Token} {e : Tree} {es : List Tree} → Derives Member ts (d ∷ f ∷ o ∷ mid) e
        → d.kind ≡ kind.Dot → is_selector f.kind ≡ true → o.kind ≡ kind.Open → Lists closer.Parenthesis mid rest es
        → Derives Member ts rest (method f.start e es)
    indexed : {ts mid rest : List Token} {o k : Token} {a b : Tree} → Derives Member ts (o ∷ mid) a → o.kind ≡ kind.OpenBracket
        → Derives Expression mid (k ∷ rest) b → k.kind ≡ kind.CloseBracket → Derives Member ts rest (index o.start a b)
    -- Primary = NAME ["(" [List] ")"] | "(" Expr ")" | literal | "[" [List] [","] "]" | "{" [Pairs] [","] "}"
    none : {t : Token} {rest : List Token} → t.kind ≡ kind.Null → Derives Primary (t ∷ rest) rest (null t.start)
    yes : {t : Token} {rest : List Token} → t.kind ≡ kind.True → Derives Primary (t ∷ rest) rest (truth t.start true)
    no : {t : Token} {rest : List Token} → t.kind ≡ kind.False → Derives Primary (t ∷ rest) rest (truth t.start false)
    int : {t : Token} {magnitude : ℕ} {rest : List Token} → t.kind ≡ kind.Int magnitude
        → Derives Primary (t ∷ rest) rest (number t.start false magnitude)
    uint : {t : Token} {value : ℕ} {rest : List Token} → t.kind ≡ kind.Uint value → Derives Primary (t ∷ rest) rest (unsigned t.start value)
    string : {t : Token} {value : List ℕ} {rest : List Token} → t.kind ≡ kind.Text value
        → Derives Primary (t ∷ rest) rest (text t.start value)
    named : {t : Token} {rest : List Token} → t.kind ≡ kind.Name → Derives Primary (t ∷ rest) rest (name t.start)
    called : {t o : Token} {ts rest : List Token} {es : List Tree} → t.kind ≡ kind.Name → o.kind ≡ kind.Open
        → Lists closer.Parenthesis ts rest es → Derives Primary (t ∷ o ∷ ts) rest (call t.start es)
    within : {o k : Token} {ts rest : List Token} {e : Tree} → o.kind ≡ kind.Open → Derives Expression ts (k ∷ rest) e
        → k.kind ≡ kind.Close → Derives Primary (o ∷ ts) rest e
    listed : {o : Token} {ts rest : List Token} {es : List Tree} → o.kind ≡ kind.OpenBracket → Lists closer.Bracket ts rest es
        → Derives Primary (o ∷ ts) rest (list o.start es)
    mapped : {o : Token} {ts rest : List Token} {es : List (Entry Tree)} → o.kind ≡ kind.OpenBrace → Maps ts rest es
        → Derives Primary (o ∷ ts) rest (map o.start es)

  -- [List] and what closes it
  pub data Lists : Closer → List Token → List Token → List Tree → Type 0 where
    no_items : {c : Closer} {ts rest : List Token} → Ends c ts rest → Lists c ts rest []
    items : {c : Closer} {ts rest : List Token} {es : List Tree} → Items c ts rest es → Lists c ts rest es

  -- List = Expr {"," Expr}, and what closes it
  pub data Items : Closer → List Token → List Token → List Tree → Type 0 where
    last_item : {c : Closer} {ts mid rest : List Token} {e : Tree} → Derives Expression ts mid e → Ends c mid rest
        → Items c ts rest (e ∷ [])
    next_item : {c : Closer} {ts mid rest : List Token} {m : Token} {e : Tree} {es : List Tree} → Derives Expression ts (m ∷ mid) e
        → m.kind ≡ kind.Comma → Items c mid rest es → Items c ts rest (e ∷ es)

  -- [Pairs] and what closes it
  pub data Maps : List Token → List Token → List (Entry Tree) → Type 0 where
    no_entries : {ts rest : List Token} → Ends closer.Brace ts rest → Maps ts rest []
    entries : {ts rest : List Token} {es : List (Entry Tree)} → Entries ts rest es → Maps ts rest es

  -- Pairs = Expr ":" Expr {"," Expr ":" Expr}, and what closes it
  pub data Entries : List Token → List Token → List (Entry Tree) → Type 0 where
    last_entry : {ts last mid rest : List Token} {k : Token} {a b : Tree} → Derives Expression ts (k ∷ last) a → k.kind ≡ kind.Colon
        → Derives Expression last mid b → Ends closer.Brace mid rest → Entries ts rest (record { key = a; value = b } ∷ [])
    next_entry : {ts last mid rest : List Token} {k m : Token} {a b : Tree} {es : List (Entry Tree)} → Derives Expression ts (k ∷ last) a
        → k.kind ≡ kind.Colon → Derives Expression last (m ∷ mid) b → m.kind ≡ kind.Comma → Entries mid rest es
        → Entries ts rest (record { key = a; value = b } ∷ es)

-- the place of what comes first, if the text ends at finish
abbrev pub place_at : ℕ → List Token → ℕ
place_at finish [] = finish
place_at finish (t ∷ ts) = t.start
