-- A field whose type is whole.
use Rattle.std.specs.Prelude.{ℕ, List, ◌++◌}
use Rattle.base_containers.specs.declared.text.Keyed.{Keyed}
use Rattle.cel_value.specs.declared.cel_type.Field.{Field}
use Rattle.cel_value.specs.declared.cel_type.CelType.{CelType}
use Rattle.cel_code.specs.Spelling.{text, truth, type_spelling}

-- name, byte, and the type as it is spelt
abbrev pub spelt_field : Keyed (Field CelType) → List ℕ
spelt_field f = text f.key ++ (truth f.value.required ++ type_spelling f.value.cel_type)
