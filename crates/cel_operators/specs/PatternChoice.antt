-- A choice: the texts that are taken as no patterns, whatever they are.
use Rattle.std.specs.Prelude.{ℕ, Bool, false, not, ◌||◌, List, [], ◌∷◌, ◌++◌, Option, Some, None, if◌then◌else◌}
use Rattle.std.specs.List.{list_any}
use Rattle.std.specs.Str.{bytes_eq}

-- whether a choice refuses a text
abbrev pub refuses : List (List ℕ) → List ℕ → Bool
refuses choice text = list_any (λ other. bytes_eq other text) choice

-- whether the answer is no
abbrev pub says_no : Option Bool → Bool
says_no None = false
says_no (Some built) = not built

-- the choice when a text was answered: one that is refused, and was not before, comes last
abbrev pub then_answered : List (List ℕ) → List ℕ → Bool → List (List ℕ)
then_answered choice text built = if built || refuses choice text then choice else choice ++ text ∷ []
