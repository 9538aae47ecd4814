-- Tokens that end what is not finished, and what holds of each text with the same first token.
use Rattle.std.proofs.Common.{◌≡◌, true, List, [], ◌∷◌, refl}
use Rattle.cel_lex.specs.declared.token.TokenKind.{TokenKind}
use Rattle.cel_lex.specs.declared.token.TokenKind.TheVariants as kind
use Rattle.cel_lex.specs.declared.token.Token.{Token}
use Rattle.cel_parse.specs.declared.heads.Closer.{Closer}
use Rattle.cel_parse.specs.declared.heads.Closer.TheVariants as closer
use Rattle.cel_parse.specs.declared.tree.Tree.{Truth as truth}
use Rattle.cel_parse.specs.Grammar.{ConditionalOr, closes, Derives, or_one, and_one, relation_one, sum_one, product_one, bare}
use Rattle.cel_parse.specs.Grammar.{alone, yes}
use Rattle.cel_parse.specs.Trees.{Agrees, both_end, same_first}

-- tokens that end what is not finished
abbrev pub token_of : TokenKind → Token
token_of k = record { kind = k; start = 0; end = 0 }

abbrev pub a_colon : Token
a_colon = token_of kind.Colon

abbrev pub a_name : Token
a_name = token_of kind.Name

abbrev pub a_truth : Token
a_truth = token_of kind.True

abbrev pub closer_kind : Closer → TokenKind
closer_kind closer.Parenthesis = kind.Close
closer_kind closer.Bracket = kind.CloseBracket
closer_kind closer.Brace = kind.CloseBrace

abbrev pub a_closer : Closer → Token
a_closer c = token_of (closer_kind c)

pub closes_it : (c : Closer) → closes c (closer_kind c) ≡ true
closes_it closer.Parenthesis = refl
closes_it closer.Bracket = refl
closes_it closer.Brace = refl

pub operand_of : (rest : List Token) → Derives ConditionalOr (a_truth ∷ rest) rest (truth 0 true)
operand_of rest = or_one (and_one (relation_one (sum_one (product_one (bare (alone (yes refl)))))))

-- what holds of each text with the same first token
pub from_first : {t : Token} {us : List Token} (P : List Token → Type 0) → ((ws : List Token) → P (t ∷ ws)) → (vs : List Token)
    → Agrees (t ∷ us) vs → P vs
from_first P h vs (same_first {vs = ws}) = h ws

pub from_end : (P : List Token → Type 0) → P [] → (vs : List Token) → Agrees [] vs → P vs
from_end P h vs both_end = h
