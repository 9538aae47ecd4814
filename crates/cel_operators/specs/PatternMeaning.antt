-- What the text of a pattern means: what `regex` says, with no pattern in it that was built.
use Rattle.std.specs.Prelude.{ℕ, Bool, List, Option, Some, None, option_and_then, is_some, nat_le, if◌then◌else◌, chars}
use Rattle.regex_syntax.specs.Brackets.{Nested}
use Rattle.regex_syntax.specs.Grammar.{Names, read}
use Rattle.regex.specs.Patterns.{Re, default_config, find_str}

-- the tree of what was read, if it is nested no deeper than this
abbrev pub within : ℕ → Nested Re × Names → Option Re
within most found = if nat_le found.0.depth most then Some found.0.value else None

-- the pattern that a text is, if it is one, nested at most 250 deep
unfoldable pub tree_of : List ℕ → Option Re
tree_of text = option_and_then (within 250) (read default_config (chars text))

-- whether the pattern of the first text is found anywhere in the second
unfoldable pub is_found : List ℕ → List ℕ → Bool
is_found pattern text = is_some (option_and_then (λ tree. find_str tree text 0) (tree_of pattern))
