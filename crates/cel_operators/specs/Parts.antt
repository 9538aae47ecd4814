-- Where a text occurs in another, by their code points. A text is given by its bytes.
use Rattle.std.specs.Prelude.{◌≡◌, ℕ, nat_eq, Bool, ◌||◌, List, [], ◌∷◌, ◌++◌}
use Rattle.std.specs.List.{starts_with as begins_with, ends_with as closes_with}
use Rattle.std.specs.Str.{chars}

-- the code points of a text begin with those of another
abbrev pub starts_with : List ℕ → List ℕ → Bool
starts_with text prefix = begins_with nat_eq (chars text) (chars prefix)

-- they end with those of another
abbrev pub ends_with : List ℕ → List ℕ → Bool
ends_with text suffix = closes_with nat_eq (chars text) (chars suffix)

-- some items are in a row in a list: at its head, or further on
abbrev pub stand_in : List ℕ → List ℕ → Bool
stand_in part [] = begins_with nat_eq [] part
stand_in part (c ∷ cs) = begins_with nat_eq (c ∷ cs) part || stand_in part cs

-- the code points of another are in a row in those of a text
abbrev pub contains : List ℕ → List ℕ → Bool
contains text part = stand_in (chars part) (chars text)

-- the code points of a text are those of another, and the rest
abbrev pub StartsWith : List ℕ → List ℕ → Type 0
StartsWith text prefix = (rest : List ℕ) × (chars text ≡ chars prefix ++ rest)

-- they are some in front, and those of another
abbrev pub EndsWith : List ℕ → List ℕ → Type 0
EndsWith text suffix = (front : List ℕ) × (chars text ≡ front ++ chars suffix)

-- they are some in front, those of another, and the rest
abbrev pub Contains : List ℕ → List ℕ → Type 0
Contains text part = (front : List ℕ) × (rest : List ℕ) × (chars text ≡ front ++ (chars part ++ rest))
