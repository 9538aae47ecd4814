-- Lines, worked out.
use Rattle.std.proofs.Common.{◌≡◌, [], ◌∷◌, refl}
use Rattle.base_containers.specs.Lines.{lines_of}

no_line : lines_of [] ≡ []
no_line = refl

-- the end of a text ends its last line too, and a line feed at the end begins none
unended_line : lines_of (97 ∷ 10 ∷ 98 ∷ []) ≡ (97 ∷ []) ∷ (98 ∷ []) ∷ []
unended_line = refl

ended_line : lines_of (97 ∷ 10 ∷ []) ≡ (97 ∷ []) ∷ []
ended_line = refl

-- an empty line is a line, and a carriage return stays in its line
empty_line : lines_of (10 ∷ 13 ∷ 10 ∷ []) ≡ [] ∷ (13 ∷ []) ∷ []
empty_line = refl
