-- Words of a text, and `has` among them.
use Rattle.std.specs.Prelude.{ℕ, Bool, List, take, drop, codes}
use Rattle.std.specs.List.{prefix_len}
use Rattle.std.specs.Str.{bytes_eq}
use Rattle.cel_lex.specs.Bytes.{is_name}

-- the word that begins at a place: the letters, digits and underscores from there on
unfoldable pub word_at : List ℕ → ℕ → List ℕ
word_at text place = take (prefix_len is_name (drop place text)) (drop place text)

-- the macro that tests for a field (cel-spec, "Macros")
unfoldable pub is_has : List ℕ → ℕ → Bool
is_has text place = bytes_eq (word_at text place) (codes "has")
