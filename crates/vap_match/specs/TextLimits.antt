-- How long texts may be.
use Rattle.std.specs.Prelude.{ℕ, Bool, nat_le, length, List}
use Rattle.std.specs.Str.{chars}
use Rattle.serde_json.specs.Data.{Data}
use Rattle.serde_json.specs.Find.{get}
use Rattle.vap_match.specs.Parts.{text_in}

-- at most so many code points
abbrev pub is_short : ℕ → List ℕ → Bool
is_short limit text = nat_le (length (chars text)) limit

-- a member of at most so many code points
abbrev pub short_at : ℕ → List ℕ → Data → Bool
short_at limit name d = is_short limit (text_in (get name d))
