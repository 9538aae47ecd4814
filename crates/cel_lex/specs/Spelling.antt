-- What the bytes between the quotes of a text stand for, part by part.
use Rattle.std.specs.Prelude.{◌≡◌, ℕ, ◌+◌, true, false, List, [], ◌∷◌, ◌++◌, drop, Some, None}
use Rattle.std.specs.Char.{encode_utf8}
use Rattle.cel_lex.specs.Bytes.{is_backslash}
use Rattle.cel_lex.specs.Escapes.{escape_of}

-- bytes stand for a value: an escape for its character, and any other byte for itself
pub data Spells : List ℕ → List ℕ → Type 0 where
  nothing : Spells [] []
  byte : {c : ℕ} {rest value : List ℕ} → is_backslash c ≡ false → Spells rest value → Spells (c ∷ rest) (c ∷ value)
  escape : {c : ℕ} {rest : List ℕ} (v n : ℕ) (value : List ℕ) → is_backslash c ≡ true → escape_of rest ≡ Some (v, n)
      → Spells (drop n rest) value → Spells (c ∷ rest) (encode_utf8 v ++ value)

-- the first backslash that begins no escape is so far in
pub data FirstBad : List ℕ → ℕ → Type 0 where
  bad_here : {c : ℕ} {rest : List ℕ} → is_backslash c ≡ true → escape_of rest ≡ None → FirstBad (c ∷ rest) 0
  behind_byte : {c : ℕ} {rest : List ℕ} (k : ℕ) → is_backslash c ≡ false → FirstBad rest k → FirstBad (c ∷ rest) (1 + k)
  behind_escape : {c : ℕ} {rest : List ℕ} (v n k : ℕ) → is_backslash c ≡ true → escape_of rest ≡ Some (v, n) → FirstBad (drop n rest) k
      → FirstBad (c ∷ rest) (1 + (n + k))
