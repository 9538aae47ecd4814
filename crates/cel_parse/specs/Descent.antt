-- Reading tokens from left to right, without left recursion, with the first fault that is met.
use Rattle.std.specs.Prelude.{ℕ, zero, suc, ◌+◌, max, Bool, true, false, List, [], ◌∷◌}
use Rattle.std.specs.Prelude.{length, Option, Some, None, Result, Ok, Err, nat_lt, nat_eq, if◌then◌else◌}
use Rattle.cel_lex.specs.declared.token.Infix.{Infix}
use Rattle.cel_lex.specs.declared.token.Infix.TheVariants as op
use Rattle.cel_lex.specs.declared.token.TokenKind.{TokenKind}
use Rattle.cel_lex.specs.declared.token.TokenKind.TheVariants as kind
use Rattle.cel_lex.specs.declared.token.Token.{Token}
use Rattle.cel_value.specs.declared.expr.UnaryOperator.{UnaryOperator}
use Rattle.cel_value.specs.declared.expr.UnaryOperator.TheVariants.{Not, Negate}
use Rattle.cel_value.specs.declared.expr.Entry.{Entry}
use Rattle.cel_parse.specs.declared.fault.ParseFault.{ParseFault}
use Rattle.cel_parse.specs.declared.fault.ParseFault.TheVariants.{Unexpected, TooDeep}
use Rattle.cel_parse.specs.declared.heads.Closer.{Closer}
use Rattle.cel_parse.specs.declared.heads.Closer.TheVariants as closer
use Rattle.cel_parse.specs.declared.heads.Suffix.{Suffix}
use Rattle.cel_parse.specs.declared.heads.Suffix.TheVariants as suffix
use Rattle.cel_parse.specs.declared.tree.Joint.{Joint}
use Rattle.cel_parse.specs.declared.tree.Joint.TheVariants as joint
use Rattle.cel_parse.specs.declared.tree.Tree.{Tree, Null as null, Truth as truth, Number as number}
use Rattle.cel_parse.specs.declared.tree.Tree.{Unsigned as unsigned, Text as text, Name as name, Call as call}
use Rattle.cel_parse.specs.declared.tree.Tree.{Select as select, Method as method_call, Index as index, List as list}
use Rattle.cel_parse.specs.declared.tree.Tree.{Map as map, Unary as unary, Binary as binary, Conditional as conditional}
use Rattle.cel_parse.specs.Grammar.{looseness, closes, takes_comma, is_selector, place_at}
use Rattle.cel_parse.specs.Limits.{is_test}

infixl 10 ◌>>=◌
-- what comes after a step, unless it failed
abbrev pub ◌>>=◌ : {A B : Type 0} → Result A ParseFault → (A → Result B ParseFault) → Result B ParseFault
(Ok x) >>= f = f x
(Err e) >>= f = Err e

-- what was read, its depth, and the tokens after it
pub record Found (A : Type 0) : Type 0 where
  pub what : A
  pub deep : ℕ
  pub rest : List Token

-- what is read, or the first fault
abbrev pub ReadOf : Type 0 → Type 0
ReadOf A = Result (Found A) ParseFault

-- a tree that is read, or the first fault
abbrev pub Read : Type 0
Read = ReadOf Tree

-- what is read from tokens
abbrev pub Reader : Type 0
Reader = List Token → Read

-- what comes first is not expected
abbrev pub unexpected : {A : Type 0} → List ℕ → List Token → Result A ParseFault
unexpected source ts = Err (Unexpected (place_at (length source) ts))

-- a tree of one node
abbrev pub leaf : Tree → List Token → Read
leaf tree rest = Ok (record { what = tree; deep = 1; rest = rest })

-- a node whose deepest child has this depth
unfoldable pub node : Tree → ℕ → List Token → Read
node tree below rest = if nat_lt below 100 then Ok (record { what = tree; deep = below + 1; rest = rest }) else Err TooDeep

-- the first token, if it is of this kind, and what follows it
abbrev pub kept : Bool → Token → List Token → Option (ℕ × List Token)
kept true t ts = Some (t.start, ts)
kept false t ts = None

-- what comes first, if it is of a kind
abbrev pub head_if : (TokenKind → Bool) → List Token → Option (ℕ × List Token)
head_if p [] = None
head_if p (t ∷ ts) = kept (p t.kind) t ts

-- "!"
abbrev pub is_bang : TokenKind → Bool
is_bang kind.Bang = true
is_bang _ = false

-- "("
abbrev pub is_open : TokenKind → Bool
is_open kind.Open = true
is_open _ = false

-- ","
abbrev pub is_comma : TokenKind → Bool
is_comma kind.Comma = true
is_comma _ = false

-- "?"
abbrev pub is_question : TokenKind → Bool
is_question kind.Question = true
is_question _ = false

-- ":"
abbrev pub is_colon : TokenKind → Bool
is_colon kind.Colon = true
is_colon _ = false

-- "-" between two operands
abbrev pub is_subtract : Infix → Bool
is_subtract op.Subtract = true
is_subtract _ = false

-- "-", which is also a sign
abbrev pub is_minus : TokenKind → Bool
is_minus (kind.Operator o) = is_subtract o
is_minus _ = false

-- one way or the other
abbrev pub if_at : {A B : Type 0} → Option A → B → (A → B) → B
if_at None otherwise go = otherwise
if_at (Some x) otherwise go = go x

-- the number of a token, and what follows it
abbrev pub number_of : TokenKind → List Token → Option (ℕ × List Token)
number_of (kind.Int n) ts = Some (n, ts)
number_of _ ts = None

-- the number that comes first
abbrev pub number_at : List Token → Option (ℕ × List Token)
number_at [] = None
number_at (t ∷ ts) = number_of t.kind ts

-- what goes on a member, by the token that begins it
abbrev pub suffix_of : TokenKind → ℕ → List Token → Option (Suffix × ℕ × List Token)
suffix_of kind.Dot place ts = Some (suffix.Selector, place, ts)
suffix_of kind.OpenBracket place ts = Some (suffix.Index, place, ts)
suffix_of _ place ts = None

-- what comes first and goes on a member
abbrev pub suffix_at : List Token → Option (Suffix × ℕ × List Token)
suffix_at [] = None
suffix_at (t ∷ ts) = suffix_of t.kind t.start ts

-- a number that comes first, if nothing goes on it
abbrev pub lone_at : List Token → Option (ℕ × List Token)
lone_at ts = if_at (number_at ts) None (λ n. if_at (suffix_at n.1) (Some n) (λ s. None))

-- an operator with its place, if it is to be taken
abbrev pub chosen_operator : Bool → Joint → ℕ → List Token → Option (Joint × ℕ × List Token)
chosen_operator true o place ts = Some (o, place, ts)
chosen_operator false o place ts = None

-- what joins two operands, by its token
abbrev pub joint_of : TokenKind → ℕ → List Token → Option (Joint × ℕ × List Token)
joint_of (kind.Operator o) place ts = Some (joint.Infix o, place, ts)
joint_of kind.In place ts = Some (joint.In, place, ts)
joint_of _ place ts = None

-- what comes first and joins two operands
abbrev pub joint_at : List Token → Option (Joint × ℕ × List Token)
joint_at [] = None
joint_at (t ∷ ts) = joint_of t.kind t.start ts

-- the operator of this looseness that comes first
abbrev pub operator_at : ℕ → List Token → Option (Joint × ℕ × List Token)
operator_at n ts = if_at (joint_at ts) None (λ x. chosen_operator (nat_eq (looseness x.0) n) x.0 x.1 x.2)

-- the closing bracket
unfoldable pub closed : List ℕ → Closer → Found Tree → Read
closed source c f = if_at (head_if (closes c) f.rest) (unexpected source f.rest) (λ x. Ok (record f { rest = x.1 }))

-- a comma in front of what closes, if there may be one
abbrev pub comma_if : Bool → List Token → Option (ℕ × List Token)
comma_if true ts = head_if is_comma ts
comma_if false ts = None

-- what follows a comma, if there may be one in front of what closes
abbrev pub spare_comma_at : Closer → List Token → Option (ℕ × List Token)
spare_comma_at c ts = comma_if (takes_comma c) ts

-- what closes, and the comma in front of it, if there is one and may be one
abbrev pub end_at : Closer → List Token → Option (ℕ × List Token)
end_at c ts = if_at (head_if (closes c) ts) (if_at (spare_comma_at c ts) None (λ x. head_if (closes c) x.1)) Some

-- after an opening bracket: what follows the closing one, if no item is between
unfoldable pub opened : List ℕ → ℕ → Closer → List Token → Result (Option (ℕ × List Token)) ParseFault
opened source zero c ts = Err TooDeep
opened source (suc brackets) c ts = if_at (end_at c ts) (if_at (spare_comma_at c ts) (Ok None) (λ x. unexpected source x.1))
    (λ x. Ok (Some x))

-- after an item: the list stops, or goes on with one more
pub data Move : Type 0 where
  stop : List Token → Move
  go_on : List Token → Move

-- what follows an item
abbrev pub step_at : List ℕ → Closer → List Token → Result Move ParseFault
step_at source c ts = if_at (end_at c ts) (if_at (head_if is_comma ts) (unexpected source ts) (λ x. Ok (go_on x.1))) (λ x. Ok (stop x.1))

-- an item in front of others
abbrev pub with_first : {A : Type 0} → Found A → Found (List A) → ReadOf (List A)
with_first e f = Ok (record { what = e.what ∷ f.what; deep = max e.deep f.deep; rest = f.rest })

-- the last item, or the others after it
abbrev pub moved : {A : Type 0} → (List Token → ReadOf (List A)) → Found A → Move → ReadOf (List A)
moved others e (stop ts) = Ok (record { what = e.what ∷ []; deep = e.deep; rest = ts })
moved others e (go_on ts) = others ts >>= with_first e

-- items between commas and what closes them, at most so many
unfoldable pub items_from : {A : Type 0} → List ℕ → Closer → (List Token → ReadOf A) → ℕ → List Token → ReadOf (List A)
items_from source c item zero ts = Err TooDeep
items_from source c item (suc turns) ts = item ts >>= λ e. step_at source c e.rest >>= moved (items_from source c item turns) e

-- no items, or some
abbrev pub any_items : {A : Type 0} → List ℕ → Closer → (List Token → ReadOf A) → List Token → Option (ℕ × List Token) → ReadOf (List A)
any_items source c item ts (Some x) = Ok (record { what = []; deep = 0; rest = x.1 })
any_items source c item ts None = items_from source c item 16384 ts

-- after an opening bracket, expressions
unfoldable pub items : Reader → List ℕ → ℕ → Closer → List Token → ReadOf (List Tree)
items inner source brackets c ts = opened source brackets c ts >>= any_items source c inner ts

-- a key and a value
abbrev pub entered : Found Tree → Found Tree → Found (Entry Tree)
entered a b = record { what = record { key = a.what; value = b.what }; deep = max a.deep b.deep; rest = b.rest }

-- the value of a key
abbrev pub entered_behind : Found Tree → Found Tree → ReadOf (Entry Tree)
entered_behind a b = Ok (entered a b)

-- a key, ":" and a value
unfoldable pub entry : Reader → List ℕ → List Token → ReadOf (Entry Tree)
entry inner source ts = do
  a ← inner ts
  if_at (head_if is_colon a.rest) (unexpected source a.rest) (λ k. inner k.1 >>= entered_behind a)

-- after an opening bracket, entries
unfoldable pub entries : Reader → List ℕ → ℕ → List Token → ReadOf (List (Entry Tree))
entries inner source brackets ts = opened source brackets closer.Brace ts >>= any_items source closer.Brace (entry inner source) ts

-- a list literal
abbrev pub listed : ℕ → Found (List Tree) → Read
listed place f = node (list place f.what) f.deep f.rest

-- a map literal
abbrev pub mapped : ℕ → Found (List (Entry Tree)) → Read
mapped place f = node (map place f.what) f.deep f.rest

-- the test for a field, which is no node of its own, or another call
abbrev pub called_by : Bool → Tree → ℕ → List Token → Read
called_by true tree deep rest = Ok (record { what = tree; deep = deep; rest = rest })
called_by false tree deep rest = node tree deep rest

-- a call
unfoldable pub called : List ℕ → ℕ → Found (List Tree) → Read
called source place f = called_by (is_test source place f.what) (call place f.what) f.deep f.rest

-- the literal that a token is
abbrev pub literal_by : TokenKind → ℕ → Option Tree
literal_by kind.Null place = Some (null place)
literal_by kind.True place = Some (truth place true)
literal_by kind.False place = Some (truth place false)
literal_by (kind.Int n) place = Some (number place false n)
literal_by (kind.Uint n) place = Some (unsigned place n)
literal_by (kind.Text s) place = Some (text place s)
literal_by _ place = None

-- the literal that a token is, at its place
abbrev pub literal_of : Token → Option Tree
literal_of t = literal_by t.kind t.start

-- what is no literal, by its first token
abbrev pub primary_by : Reader → List ℕ → ℕ → TokenKind → Token → List Token → Read
primary_by inner source brackets kind.Name t ts =
    if_at (head_if is_open ts) (leaf (name t.start) ts) (λ x. items inner source brackets closer.Parenthesis x.1 >>= called source t.start)
primary_by inner source brackets kind.Open t ts = inner ts >>= closed source closer.Parenthesis
primary_by inner source brackets kind.OpenBracket t ts = items inner source brackets closer.Bracket ts >>= listed t.start
primary_by inner source brackets kind.OpenBrace t ts = entries inner source brackets ts >>= mapped t.start
primary_by inner source brackets _ t ts = unexpected source (t ∷ ts)

-- a name, a call, a literal, or what is in brackets
unfoldable pub primary : Reader → List ℕ → ℕ → Reader
primary inner source brackets [] = unexpected source []
primary inner source brackets (t ∷ ts) = if_at (literal_of t) (primary_by inner source brackets t.kind t ts) (λ e. leaf e ts)

-- a field of a member
abbrev pub selected : ℕ → Found Tree → List Token → Read
selected place a rest = node (select place a.what) a.deep rest

-- a method on a member
unfoldable pub method : ℕ → Found Tree → Found (List Tree) → Read
method place a f = node (method_call place a.what f.what) (max a.deep f.deep) f.rest

-- an item of a member
unfoldable pub indexed : ℕ → Found Tree → Found Tree → Read
indexed place a b = node (index place a.what b.what) (max a.deep b.deep) b.rest

-- an item of a member, and the bracket that closes it
abbrev pub indexed_behind : List ℕ → ℕ → Found Tree → Found Tree → Read
indexed_behind source place left i = closed source closer.Bracket i >>= indexed place left

-- a member with what goes on it, after the first token of that
unfoldable pub suffixed : Reader → List ℕ → ℕ → Suffix → ℕ → Found Tree → Reader
suffixed inner source brackets suffix.Index place left ts = inner ts >>= indexed_behind source place left
suffixed inner source brackets suffix.Selector place left ts =
    if_at (head_if is_selector ts) (unexpected source ts) (λ s.
    if_at (head_if is_open s.1) (selected s.0 left s.1) (λ o.
    items inner source brackets closer.Parenthesis o.1 >>= method s.0 left))

-- what is read further and further while something that is asked for comes first
unfoldable pub more : {A : Type 0} → (List Token → Option A) → (A → Found Tree → Read) → ℕ → Found Tree → Read
more ask act zero left = Err TooDeep
more ask act (suc turns) left = if_at (ask left.rest) (Ok left) (λ x. act x left >>= more ask act turns)

-- what goes on a member
abbrev pub go_on_member : Reader → List ℕ → ℕ → (Suffix × ℕ × List Token) → Found Tree → Read
go_on_member inner source brackets x left = suffixed inner source brackets x.0 x.1 left x.2

-- a primary and all that goes on it
unfoldable pub member : Reader → List ℕ → ℕ → Reader
member inner source brackets ts = primary inner source brackets ts >>= more suffix_at (go_on_member inner source brackets) 100

-- a sign and its operand
abbrev pub wrapped : ℕ → UnaryOperator → Found Tree → Read
wrapped place o f = node (unary place o f.what) f.deep f.rest

-- after a "!"
unfoldable pub nots_at : Reader → List ℕ → ℕ → ℕ → Reader
nots_at inner source brackets zero ts = Err TooDeep
nots_at inner source brackets (suc turns) ts =
    if_at (head_if is_bang ts) (member inner source brackets ts) (λ x. nots_at inner source brackets turns x.1 >>= wrapped x.0 Not)

-- after a "-" at a place
unfoldable pub minuses_at : Reader → List ℕ → ℕ → ℕ → ℕ → Reader
minuses_at inner source brackets zero place ts = Err TooDeep
minuses_at inner source brackets (suc turns) place ts =
    if_at (head_if is_minus ts)
    (if_at (lone_at ts) (member inner source brackets ts >>= wrapped place Negate) (λ n. leaf (number place true n.0) n.1))
    (λ x. minuses_at inner source brackets turns x.0 x.1 >>= wrapped place Negate)

-- an operand with its signs
unfoldable pub unary_at : Reader → List ℕ → ℕ → Reader
unary_at inner source brackets ts =
    if_at (head_if is_bang ts)
    (if_at (head_if is_minus ts) (member inner source brackets ts) (λ x. minuses_at inner source brackets 100 x.0 x.1))
    (λ x. nots_at inner source brackets 100 x.1 >>= wrapped x.0 Not)

-- a left operand and a right one
unfoldable pub joined : Joint → ℕ → Found Tree → Found Tree → Read
joined o place a b = node (binary place o a.what b.what) (max a.deep b.deep) b.rest

-- an operator and its right operand
abbrev pub join : Reader → (Joint × ℕ × List Token) → Found Tree → Read
join operand x left = operand x.2 >>= joined x.0 x.1 left

-- operands joined by the operators of a looseness and those that bind tighter
unfoldable pub operators : Reader → List ℕ → ℕ → ℕ → Reader
operators inner source brackets zero ts = unary_at inner source brackets ts
operators inner source brackets (suc n) ts =
    operators inner source brackets n ts >>= more (operator_at (suc n)) (join (operators inner source brackets n)) 100

-- a test and two branches
abbrev pub picked : ℕ → Found Tree → Found Tree → Found Tree → Read
picked place c a b = node (conditional place c.what a.what b.what) (max c.deep (max a.deep b.deep)) b.rest

-- a test that "?" and ":" may follow, with a conditional in the last branch at most so many times
unfoldable pub conditional_at : Reader → List ℕ → ℕ → ℕ → Reader
conditional_at inner source brackets zero ts = Err TooDeep
conditional_at inner source brackets (suc turns) ts = do
  c ← operators inner source brackets 5 ts
  if_at (head_if is_question c.rest) (Ok c) (λ q. do
    a ← operators inner source brackets 5 q.1
    if_at (head_if is_colon a.rest) (unexpected source a.rest) (λ k. do
      b ← conditional_at inner source brackets turns k.1
      picked q.0 c a b))

-- an expression in which so many brackets may still be opened, counting its own level
unfoldable pub expression : List ℕ → ℕ → Reader
expression source zero ts = Err TooDeep
expression source (suc brackets) ts = conditional_at (expression source brackets) source brackets 100 ts

-- a tree after which no token is left
abbrev pub ended : Found Tree → Result Tree ParseFault
ended f = elim f.rest [ [] ↦ Ok f.what | t ∷ ts ↦ Err (Unexpected t.start) ]

-- the tree of all of the tokens
unfoldable pub all_of : List ℕ → List Token → Result Tree ParseFault
all_of source ts = expression source 101 ts >>= ended
