-- The answer for a text as a function: its expression, or the fault that is reported.
use Rattle.std.specs.Prelude.{ℕ, List, Option, Some, None, Result, Ok, Err}
use Rattle.cel_lex.specs.declared.token.Token.{Token}
use Rattle.cel_lex.specs.Answer.{Answer, answer_of}
use Rattle.cel_parse.specs.declared.fault.ParseFault.{ParseFault}
use Rattle.cel_parse.specs.declared.fault.ParseFault.TheVariants.{Lex, BadMacro}
use Rattle.cel_parse.specs.declared.tree.Tree.{Tree}
use Rattle.cel_parse.specs.Descent.{◌>>=◌, all_of}
use Rattle.cel_parse.specs.Macros.{first_wrong}
use Rattle.cel_parse.specs.Expansion.{Expanded, expanded}

-- the lexer's answer, its fault among those of the parser
abbrev pub lexed : Answer → Result (List Token) ParseFault
lexed (Ok ts) = Ok ts
lexed (Err f) = Err (Lex f)

-- an expression, unless a macro is wrong
abbrev pub unless_wrong : Option ℕ → Expanded → Expanded
unless_wrong None e = e
unless_wrong (Some place) e = Err (BadMacro place)

-- the expression of a tree, or its first macro that is wrong, or its first number out of range
abbrev pub parsed_tree : List ℕ → Tree → Expanded
parsed_tree text tree = unless_wrong (first_wrong text tree) (expanded text tree)

-- the expression of a text, or the fault that is reported: that of its cut, else the first that is met as its tokens are
-- read from left to right, else one of its tree
unfoldable pub parsed : List ℕ → Expanded
parsed text = lexed (answer_of text) >>= λ ts. all_of text ts >>= parsed_tree text
