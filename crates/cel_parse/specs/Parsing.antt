-- The expression of a text, or why it has none.
use Rattle.std.specs.Prelude.{◌≡◌, ℕ, List, Some, None, Ok, Err}
use Rattle.cel_lex.specs.declared.token.Token.{Token}
use Rattle.cel_lex.specs.declared.fault.LexFault.{LexFault}
use Rattle.cel_value.specs.declared.expr.Expr.{Expr}
use Rattle.cel_parse.specs.declared.fault.ParseFault.{ParseFault}
use Rattle.cel_parse.specs.declared.fault.ParseFault.TheVariants.{Lex, BadMacro}
use Rattle.cel_parse.specs.declared.tree.Tree.{Tree}
use Rattle.cel_lex.specs.Lexis.{IsCut, Refuses}
use Rattle.cel_parse.specs.Limits.{depth}
use Rattle.cel_parse.specs.Trees.{IsTree, HasNoTree}
use Rattle.cel_parse.specs.Macros.{first_wrong}
use Rattle.cel_value.specs.Sizes.{depth_of}
use Rattle.cel_parse.specs.Expansion.{expanded}

-- the expression that a text spells
pub record IsParsed (text : List ℕ) (e : Expr) : Type 0 where
  pub tokens : List Token
  pub cut : IsCut text tokens
  pub tree : Tree
  pub is_tree : IsTree text tokens tree
  pub macros : first_wrong text tree ≡ None
  pub expanded : expanded text tree ≡ Ok e

-- an expression is as deep as the tree of the text is counted
abbrev pub IsAsDeep : List ℕ → Expr → Type 0
IsAsDeep text e = (ts : List Token) (tree : Tree) → IsCut text ts → IsTree text ts tree → depth_of e ≡ depth text tree

-- why a text spells none: a fault of its cut, then of its tokens, then the first macro that is wrong, and last a number
pub data IsRefused (text : List ℕ) : ParseFault → Type 0 where
  no_cut : {f : LexFault} → Refuses text f → IsRefused text (Lex f)
  no_tree : {ts : List Token} {f : ParseFault} → IsCut text ts → HasNoTree text ts f → IsRefused text f
  bad_macro : {ts : List Token} {e : Tree} {place : ℕ} → IsCut text ts → IsTree text ts e → first_wrong text e ≡ Some place
      → IsRefused text (BadMacro place)
  no_expression : {ts : List Token} {e : Tree} {f : ParseFault} → IsCut text ts → IsTree text ts e → first_wrong text e ≡ None
      → expanded text e ≡ Err f → IsRefused text f
