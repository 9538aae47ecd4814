-- The tree of the tokens of a text, or why they have none.
use Rattle.std.specs.Prelude.{◌≡◌, ℕ, List, [], ◌∷◌, ◌++◌, length}
use Rattle.cel_lex.specs.declared.token.Token.{Token}
use Rattle.cel_parse.specs.declared.fault.ParseFault.{ParseFault}
use Rattle.cel_parse.specs.declared.fault.ParseFault.TheVariants.{Unexpected, TooDeep}
use Rattle.cel_parse.specs.declared.tree.Tree.{Tree}
use Rattle.cel_parse.specs.Grammar.{Derives, Expression, place_at}
use Rattle.cel_parse.specs.Limits.{IsWithin, IsTooDeep}

-- the tree that is derived from all of the tokens of a text, within the limits
pub record IsTree (text : List ℕ) (ts : List Token) (e : Tree) : Type 0 where
  pub derived : Derives Expression ts [] e
  pub within : IsWithin text ts e

-- the first tokens are the same one, or neither text has one
pub data Agrees : List Token → List Token → Type 0 where
  both_end : Agrees [] []
  same_first : {t : Token} {us vs : List Token} → Agrees (t ∷ us) (t ∷ vs)

-- a token, or the end of a text at finish, with which no text of the grammar goes on, though one goes on up to there
pub record IsUnexpected (finish : ℕ) (ts : List Token) (place : ℕ) : Type 0 where
  pub before : List Token
  pub rest : List Token
  pub tokens : ts ≡ before ++ rest
  pub here : place ≡ place_at finish rest
  pub more : List Token
  pub tree : Tree
  pub goes_on : Derives Expression (before ++ more) [] tree
  pub stops : (other : List Token) → Agrees rest other → (e : Tree) → Derives Expression (before ++ other) [] e → ⊥

-- why the tokens of a text have no tree
pub data HasNoTree (text : List ℕ) (ts : List Token) : ParseFault → Type 0 where
  unexpected : {place : ℕ} → IsUnexpected (length text) ts place → HasNoTree text ts (Unexpected place)
  too_deep : IsTooDeep text ts → HasNoTree text ts TooDeep
