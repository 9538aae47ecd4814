-- Where the content of a literal text ends, part by part.
use Rattle.std.specs.Prelude.{◌≡◌, ℕ, true, false, List, [], ◌∷◌, ◌++◌, length, if◌then◌else◌}
use Rattle.cel_lex.specs.declared.literal.Style.{Style}
use Rattle.cel_lex.specs.Texts.{breaks, escapes}

-- the quotes that close a text: three or one
abbrev pub closing_quotes : Style → List ℕ
closing_quotes s = if s.is_triple then s.quote ∷ s.quote ∷ s.quote ∷ [] else s.quote ∷ []

-- some bytes begin with these
abbrev pub BeginWith : List ℕ → List ℕ → Type 0
BeginWith first bytes = (rest : List ℕ) × (bytes ≡ first ++ rest)

-- what a text holds before the bytes after it, part by part: a byte at which the closing quotes do not begin, or a
-- backslash that escapes the byte after it. A text of one quote holds no end of a line
pub data IsContent (s : Style) (behind : List ℕ) : List ℕ → Type 0 where
  nothing : IsContent s behind []
  byte : {c : ℕ} {body : List ℕ} → escapes s c ≡ false → breaks s c ≡ false → (BeginWith (closing_quotes s) (c ∷ (body ++ behind)) → ⊥)
      → IsContent s behind body → IsContent s behind (c ∷ body)
  escape : {c d : ℕ} {body : List ℕ} → escapes s c ≡ true → breaks s d ≡ false → IsContent s behind body → IsContent s behind (c ∷ d ∷ body)

-- what follows the opening of a text is its content, of so many bytes, the closing quotes and the rest
pub record ClosesAt (s : Style) (inside : List ℕ) (n : ℕ) : Type 0 where
  pub body : List ℕ
  pub rest : List ℕ
  pub whole : inside ≡ body ++ (closing_quotes s ++ rest)
  pub long : length body ≡ n
  pub content : IsContent s (closing_quotes s ++ rest) body
