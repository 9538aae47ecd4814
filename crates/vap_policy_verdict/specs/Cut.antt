-- Texts that are cut if they are too long.
use Rattle.std.specs.Prelude.{◌≡◌, ◌<◌, ◌≤◌, ℕ, List, take, length, nat_lt, if◌then◌else◌, IsCharBoundary}
use Rattle.std.specs.Fmt.Cut.{floor_char_boundary}

-- a text, or, if it is longer, its beginning up to the last character that ends within so many bytes
unfoldable pub cut_text : ℕ → List ℕ → List ℕ
cut_text most text = if nat_lt most (length text) then take (floor_char_boundary text most) text else text

-- a beginning of a text, of whole characters and within so many bytes, and none that is longer is both
pub record IsLongestCut (most : ℕ) (text cut : List ℕ) : Type 0 where
  pub beginning : cut ≡ take (length cut) text
  pub within : length cut ≤ most
  pub whole : IsCharBoundary text (length cut)
  pub longest : (place : ℕ) → length cut < place → place ≤ most → IsCharBoundary text place → ⊥
