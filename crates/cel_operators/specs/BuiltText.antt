-- The text of what was built.
use Rattle.std.specs.Prelude.{ℕ, List}
use Rattle.regex.specs.Strings.{regex_source}
use Rattle.cel_operators.specs.declared.built.Built.{Built}

-- the text that was built
abbrev pub built_text : Built → List ℕ
built_text b = regex_source b.regex
