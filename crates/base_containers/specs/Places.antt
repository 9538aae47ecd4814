-- The data at a place of a document.
use Rattle.serde_json.specs.Data.{Data}
use Rattle.serde_json.specs.View.{view}
use Rattle.base_containers.specs.Parts.{IsPart, data_of}
use Rattle.base_containers.specs.declared.part.Place.{Place}
use Rattle.base_containers.specs.declared.part.Place.TheVariants as place

-- the data of what begins there
abbrev pub data_at_place : Place → Data
data_at_place (place.Tape ts) = data_of ts
data_at_place (place.Tree json) = view json.now

-- tokens of a tape begin with a value that has data; each tree has
abbrev pub IsPlace : Place → Type 0
IsPlace (place.Tape ts) = IsPart ts
IsPlace (place.Tree json) = Unit {0}
