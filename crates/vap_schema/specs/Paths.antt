-- Where a value is in a document, as it is written: `object.spec.items[2].name`.
use Rattle.std.specs.Prelude.{ℕ, List, [], ◌∷◌, ◌++◌, decimal}
use Rattle.vap_schema.specs.declared.path.Path.{Path}
use Rattle.vap_schema.specs.declared.path.Path.TheFolds.{fold-Path}
use Rattle.vap_schema.specs.declared.path.Path.TheOpen.{Path-F}

-- a field of an object, or an entry of a map: a dot and the name after the object's path
abbrev pub at_field : List ℕ → List ℕ → List ℕ
at_field path name = path ++ 46 ∷ name

-- an item of a list: its place from 0, in brackets, after the list's path
abbrev pub at_item : List ℕ → ℕ → List ℕ
at_item path place = path ++ 91 ∷ (decimal place ++ 93 ∷ [])

-- one level, with the text of the path above in its place
abbrev pub path_step : Path-F (List ℕ) → List ℕ
path_step (Path-F.Root name) = name.now
path_step (Path-F.Field above name) = at_field above.now name.now
path_step (Path-F.Item above place) = at_item above.now place

-- how a path is written
abbrev pub path_text : Path → List ℕ
path_text = fold-Path (List ℕ) path_step
