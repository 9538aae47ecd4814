-- What is built of a text, and why it is not.
use Rattle.std.specs.Prelude.{◌≡◌, ℕ, ◌<◌, List, All, None, IsSome, is_some}
use Rattle.regex_syntax.specs.Grammar.{Names}
use Rattle.regex.specs.Patterns.{Re, Reads, default_config, find_str}
use Rattle.regex.specs.Strings.{regex_source, regex_config, IsReadFromSource}
use Rattle.regex.specs.declared.string.regex.Regex.{Regex}
use Rattle.regex_meta.specs.Programs.{leftmost}
use Rattle.regex_meta.specs.declared.program.Program.{Program}
use Rattle.cel_operators.specs.PatternMeaning.{tree_of, is_found}
use Rattle.cel_operators.specs.declared.unbuilt.PatternFault.{PatternFault}
use Rattle.cel_operators.specs.declared.unbuilt.PatternFault.TheVariants.{NoPattern, TooLarge}

-- the text is no pattern, or it is one that was given up
abbrev pub IsReason : List ℕ → PatternFault → Type 0
IsReason text NoPattern = tree_of text ≡ None
IsReason text TooLarge = IsSome (tree_of text)

-- the pattern is read from the text, with no options
abbrev pub IsRegexOf : List ℕ → Regex → Type 0
IsRegexOf text regex = (regex_source regex ≡ text) × (regex_config regex ≡ default_config) × IsReadFromSource regex

-- the program is of what is read in the text, with no options
abbrev pub IsProgramOf : List ℕ → Program → Type 0
IsProgramOf text program = (names : Names) × Reads default_config text program.hir names

-- the tree is found in texts exactly if the pattern of this text is
abbrev pub AnswersText : Re → List ℕ → Type 0
AnswersText tree pattern = (text : List ℕ) → All (λ b. b < 256) text → is_some (find_str tree text 0) ≡ is_found pattern text

-- if no match is empty, the program finds one exactly if the tree does
abbrev pub FindsAlike : Program → Re → Type 0
FindsAlike program tree =
    0 < program.min_len → (text : List ℕ) → All (λ b. b < 256) text → is_some (leftmost program text 0) ≡ is_some (find_str tree text 0)
