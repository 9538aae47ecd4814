-- What goes from pending bytes to a line.
use Rattle.std.specs.Prelude.{◌≡◌, ◌≢◌, ◌<◌, ◌+◌, ℕ, List, [], ◌∷◌, ◌++◌, length, Option, Some, None}
use Rattle.std.specs.List.{All}
use Rattle.base_containers.specs.Lines.{longest_line}
use Rattle.base_containers.specs.declared.lines.Ending.{Ending}
use Rattle.base_containers.specs.declared.lines.Ending.TheVariants.{Feed, End, TooLong}

-- these bytes went to the line, and no line feed is among them
pub record Takes (before line part : List ℕ) : Type 0 where
  pub grown : line ≡ before ++ part
  pub plain : All (λ x. x ≢ 10) part

-- the first of the bytes are no line feeds, and the line with them is past the limit
pub record Overflows (bytes line : List ℕ) : Type 0 where
  pub more : List ℕ
  pub rest : List ℕ
  pub split : bytes ≡ more ++ rest
  pub plain : All (λ x. x ≢ 10) more
  pub long : longest_line < length line + length more

-- which of the bytes went to the line: those before a line feed, which is taken too; all, if there is none; or none
abbrev pub Hands : Option Ending → List ℕ → List ℕ → List ℕ → List ℕ → Type 0
Hands None old new before line = Takes before line old × (new ≡ [])
Hands (Some Feed) old new before line = (part : List ℕ) × Takes before line part × (old ≡ part ++ 10 ∷ new)
Hands (Some End) old new before line = ⊥
Hands (Some TooLong) old new before line = (line ≡ before) × (new ≡ old) × Overflows old line
