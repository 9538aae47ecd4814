-- What was asked, and what was answered.
use Rattle.std.specs.Prelude.{◌≡◌, ◌⊎◌, ℕ, Bool, true, not, List, map, Option, Some, IfSome, IsSome, String, string_bytes}
use Rattle.std.specs.BTreeMap.{BTreeMap}
use Rattle.std.specs.List.{Contains}
use Rattle.std.specs.Map.{lookup}
use Rattle.std.specs.Str.{bytes_eq}
use Rattle.cel_operators.specs.PatternChoice.{refuses, says_no}
use Rattle.cel_operators.specs.PatternMeaning.{tree_of}

-- whether `regex` builds a text, by the bytes of the texts that were asked for, and the refused ones, as each was first asked for
pub record Asked : Type 0 where
  pub answers : List (List ℕ × Bool)
  pub refused : List (List ℕ)

-- whether `regex` builds a text, if that was asked
abbrev pub answer_in : Asked → List ℕ → Option Bool
answer_in asked text = lookup (bytes_eq text) asked.answers

-- the refused texts, in the order in which they were asked for first
abbrev pub choice_in : Asked → List (List ℕ)
choice_in asked = asked.refused

-- what was answered stays answered
abbrev pub Grows : Asked → Asked → Type 0
Grows old new = (text : List ℕ) → IfSome (answer_in old text) (λ built. answer_in new text ≡ Some built)

-- no text is asked for except these: one that has an answer had one before, or is among them
pub record AsksOnly (old new : Asked) (texts : List (List ℕ)) : Type 0 where
  pub among : (text : List ℕ) → IsSome (answer_in new text) → IsSome (answer_in old text) ⊎ Contains texts text

-- the choice refuses each text that was answered with no, and none that was answered with yes
abbrev pub Honours : Asked → List (List ℕ) → Type 0
Honours asked choice = (text : List ℕ) → IfSome (answer_in asked text) (λ built. refuses choice text ≡ not built)

-- what a map of answers and a list of refused texts say
abbrev pub told_by : {Y : Type 0} → BTreeMap (String Y) Bool → List (String Y) → Asked
told_by answers refused = record {
  answers = map (λ entry. (string_bytes entry.0, entry.1)) answers.entries;
  refused = map string_bytes refused;
}

-- the refused texts are those that were answered with no, and each text that was answered with yes is a pattern
pub record IsHonest (asked : Asked) : Type 0 where
  pub chosen : (text : List ℕ) → refuses (choice_in asked) text ≡ says_no (answer_in asked text)
  pub are_patterns : (text : List ℕ) → answer_in asked text ≡ Some true → IsSome (tree_of text)
