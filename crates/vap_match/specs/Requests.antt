-- The documents that came with a request.
use Rattle.std.specs.Prelude.{ℕ, if◌then◌else◌, codes, List, Option, Some, None, option_and_then}
use Rattle.std.specs.Str.{bytes_eq}
use Rattle.serde_json.specs.Data as json
use Rattle.serde_json.specs.Data.{Data}
use Rattle.serde_json.specs.Find.{get}
use Rattle.vap_match.specs.declared.request.Admission.{Admission}

-- a document, if it is not null
abbrev pub unless_null : Data → Option Data
unless_null json.null = None
unless_null d = Some d

-- a document that came with a request, under this name
abbrev pub document_in : List ℕ → Data → Option Data
document_in name review = option_and_then unless_null (option_and_then (get name) (get (codes "request") review))

-- the object as it is to be; there is none on DELETE
abbrev pub object_of : Admission → Option Data
object_of r = if bytes_eq r.operation (codes "DELETE") then None else document_in (codes "object") r.review

-- the object as it was; there is none on CREATE
abbrev pub old_object_of : Admission → Option Data
old_object_of r = if bytes_eq r.operation (codes "CREATE") then None else document_in (codes "oldObject") r.review
