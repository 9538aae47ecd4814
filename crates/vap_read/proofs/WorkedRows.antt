-- Rows of events, worked by computing.
use Rattle.std.proofs.Common.{◌≡◌, ℕ, List, Ok, Err, refl}
use Rattle.std.specs.Prelude.{codes}
use Rattle.serde_json.specs.Data as json
use Rattle.vap_read.specs.Lines.{line_kind}
use Rattle.vap_read.specs.Reading.{read_event}
use Rattle.vap_read.specs.declared.line.LineKind.TheVariants.{Unknown}
use Rattle.vap_read.specs.declared.event.Event.TheVariants.{Passed}
use Rattle.vap_read.specs.declared.event_fault.EventFault.TheVariants.{BadType, BadObject}

-- a document with one member
abbrev one : List ℕ → json.Data → json.Data
one name d = json.object (json.member name d json.no_members)

-- a bookmark needs no object
bookmark : read_event (one (codes "type") (json.string (codes "BOOKMARK"))) ≡ Ok Passed
bookmark = refl

-- an addition needs one
addition : read_event (one (codes "type") (json.string (codes "ADDED"))) ≡ Err BadObject
addition = refl

-- a type that is no text is none of the words
number : read_event (one (codes "type") (json.number (json.unsigned 5))) ≡ Err BadType
number = refl

-- a line without a type is neither
nothing : line_kind json.null ≡ Unknown
nothing = refl
