-- The patterns that are kept.
use Rattle.std.specs.Prelude.{ℕ, List, map}
use Rattle.cel_operators.specs.BuiltText.{built_text}
use Rattle.cel_operators.specs.declared.matchers.Matchers.{Matchers}

-- their texts, by place
abbrev pub texts_of : Matchers → List (List ℕ)
texts_of m = map built_text m.kept.items
