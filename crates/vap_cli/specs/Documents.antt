-- The document of a file.
use Rattle.std.specs.Prelude.{◌≡◌, ◌≤◌, ◌<◌, ℕ, List, length, None, Some, Result, Ok, Err, IsUtf8}
use Rattle.serde_json.specs.Data.{Data}
use Rattle.serde_json.specs.Read.{read}
use Rattle.serde_json.specs.View.{view}
use Rattle.serde_json.specs.declared.value.Value.{Value as Json}
use Rattle.base_containers.specs.declared.lines.LineError.{LineError}
use Rattle.base_containers.specs.declared.lines.LineError.TheVariants as reading
use Rattle.vap_cli.specs.declared.failure.CheckFailure.{CheckFailure}
use Rattle.vap_cli.specs.declared.failure.CheckFailure.TheVariants as failure
use Rattle.vap_cli.specs.declared.refusal.FileRefusal.{FileRefusal}
use Rattle.vap_cli.specs.declared.refusal.FileRefusal.TheVariants as refusal

-- the most bytes of a file
abbrev pub longest : ℕ
longest = 1048576

-- the bytes are UTF-8 and spell this value
abbrev pub Spells : List ℕ → Data → Type 0
Spells bytes d = IsUtf8 bytes × (read bytes ≡ Some d)

-- the bytes spell no value
abbrev pub SpellsNone : List ℕ → Type 0
SpellsNone bytes = IsUtf8 bytes → read bytes ≡ None

-- why the bytes are no document: they are too many, or else spell no value
abbrev pub IsUnread : List ℕ → FileRefusal → Type 0
IsUnread bytes refusal.TooLong = longest < length bytes
IsUnread bytes refusal.BadJson = (length bytes ≤ longest) × SpellsNone bytes
IsUnread bytes (refusal.Schema fault) = ⊥
IsUnread bytes (refusal.Text why) = ⊥
IsUnread bytes (refusal.Unverified at) = ⊥

-- the document that the bytes are, or why they are none
abbrev pub IsDocumentOf : List ℕ → Result Json FileRefusal → Type 0
IsDocumentOf bytes (Ok json) = (length bytes ≤ longest) × Spells bytes (view json)
IsDocumentOf bytes (Err why) = IsUnread bytes why

-- why a file is not read, if a line of it is not
abbrev pub failure_of_line : LineError → CheckFailure
failure_of_line reading.Read = failure.Read
failure_of_line reading.OutOfMemory = failure.OutOfMemory
