-- Names and the words that are none.
use Rattle.std.specs.Prelude.{ℕ, Bool, ◌||◌, List, Option, Some, None, if◌then◌else◌, codes}
use Rattle.std.specs.Str.{bytes_eq}
use Rattle.cel_lex.specs.declared.token.TokenKind.{TokenKind}
use Rattle.cel_lex.specs.declared.token.TokenKind.TheVariants as kind

-- the words that are tokens of their own
abbrev pub keyword : List ℕ → Option TokenKind
keyword word =
    if bytes_eq word (codes "true") then Some kind.True
    else (if bytes_eq word (codes "false") then Some kind.False
    else (if bytes_eq word (codes "null") then Some kind.Null
    else (if bytes_eq word (codes "in") then Some kind.In
    else None)))

-- the words that are no names
abbrev pub is_reserved : List ℕ → Bool
is_reserved word =
    bytes_eq word (codes "as") || bytes_eq word (codes "break") || bytes_eq word (codes "const")
    || bytes_eq word (codes "continue") || bytes_eq word (codes "else") || bytes_eq word (codes "for")
    || bytes_eq word (codes "function") || bytes_eq word (codes "if") || bytes_eq word (codes "import")
    || bytes_eq word (codes "let") || bytes_eq word (codes "loop") || bytes_eq word (codes "package")
    || bytes_eq word (codes "namespace") || bytes_eq word (codes "return") || bytes_eq word (codes "var")
    || bytes_eq word (codes "void") || bytes_eq word (codes "while")

-- a word that is no keyword
abbrev pub other_word : List ℕ → TokenKind
other_word word = if is_reserved word then kind.Reserved else kind.Name

-- a keyword, or else what it is otherwise
abbrev pub keyword_or : Option TokenKind → TokenKind → TokenKind
keyword_or None otherwise = otherwise
keyword_or (Some k) otherwise = k

-- the token that a word is
unfoldable pub word_of : List ℕ → TokenKind
word_of word = keyword_or (keyword word) (other_word word)
