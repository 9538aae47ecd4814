-- A text put together from the pieces of its tokens and what lies between them.
use Rattle.std.specs.Prelude.{◌≡◌, ℕ, ◌+◌, List, [], ◌∷◌, ◌++◌, length, Some}
use Rattle.cel_lex.specs.declared.token.Token.{Token}
use Rattle.cel_lex.specs.declared.piece.Piece.TheVariants as piece
use Rattle.cel_lex.specs.Lexis.{piece_of}

-- white space and comments, none or more
pub data IsBetween : List ℕ → Type 0 where
  nothing : IsBetween []
  one_more : (blank rest : List ℕ) → piece_of blank ≡ Some piece.Blank → IsBetween rest → IsBetween (blank ++ rest)

-- these bytes, which begin at a place, are a token
pub record IsTokenAt (place : ℕ) (own : List ℕ) (t : Token) : Type 0 where
  pub start : t.start ≡ place
  pub end : t.end ≡ place + length own
  pub piece : piece_of own ≡ Some (piece.Token t.kind)

-- the text from a place on is each token's own bytes in turn, and what lies between them
pub data IsTogether : ℕ → List ℕ → List Token → Type 0 where
  last : {place : ℕ} {between : List ℕ} → IsBetween between → IsTogether place between []
  next : {place : ℕ} (between own rest : List ℕ) {t : Token} {ts : List Token} → IsBetween between
      → IsTokenAt (place + length between) own t → IsTogether t.end rest ts → IsTogether place (between ++ (own ++ rest)) (t ∷ ts)
