-- The data of a text.
use Rattle.std.specs.Prelude.{◌≡◌, ℕ, List, Option, Some, None, unwrap_or, IsSome}
use Rattle.json.specs.Token.{Token}
use Rattle.serde_json.specs.Data.{Data, null}
use Rattle.serde_json.specs.Read.{read}
use Rattle.base_containers.specs.Parts.{IsPart, data_of}

-- the data that a text is, which is there
abbrev pub data_in : List ℕ → Data
data_in text = unwrap_or (read text) null

-- a text is one that serde_json reads
abbrev pub HasData : List ℕ → Type 0
HasData text = IsSome (read text)

-- tokens of a tape are of the data that is read, and there are none if none is
abbrev pub Opens : Option Data → Option (List Token) → Type 0
Opens d None = d ≡ None
Opens d (Some ts) = IsPart ts × (d ≡ Some (data_of ts))
