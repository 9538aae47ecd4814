-- Which fault of a line is reported.
use Rattle.std.specs.Prelude.{◌≡◌, ◌⊎◌, ℕ, true, codes, is_ok}
use Rattle.serde_json.specs.Data as json
use Rattle.serde_json.specs.Data.{Data, Items}
use Rattle.vap_read.specs.EventFaults.{IsLeast, has_fault, watch_fault}
use Rattle.vap_read.specs.Lines.{line_kind, action_in}
use Rattle.vap_read.specs.Objects.{member_in}
use Rattle.vap_read.specs.Reading.{read_object}
use Rattle.vap_read.specs.declared.line.LineKind.{LineKind}
use Rattle.vap_read.specs.declared.line.LineKind.TheVariants.{WatchEvent, ObjectList, Review, Unknown}
use Rattle.vap_read.specs.declared.event_fault.EventFault.{EventFault}
use Rattle.vap_read.specs.declared.event_fault.EventFault.TheVariants.{BadType, BadObject}

-- this is the least fault of an item, and all items before it are objects without a fault
abbrev pub IsFirst : Items → EventFault → Type 0
IsFirst json.no_items f = ⊥
IsFirst (json.item d ds) f = IsLeast (has_fault d) f ⊎ ((is_ok (read_object d) ≡ true) × IsFirst ds f)

-- the fault of a List: it has no items, or the first one with a fault has this
abbrev pub IsOfList : Data → EventFault → Type 0
IsOfList (json.array ds) f = IsFirst ds f
IsOfList _ f = f ≡ BadObject

-- the fault of a line of this kind
abbrev pub IsOfLine : LineKind → Data → EventFault → Type 0
IsOfLine WatchEvent d f = IsLeast (watch_fault (action_in d) (member_in (codes "object") d)) f
IsOfLine ObjectList d f = IsOfList (member_in (codes "items") d) f
IsOfLine Review d f = f ≡ BadType
IsOfLine Unknown d f = f ≡ BadType

-- this is the line's fault
abbrev pub IsFaultOf : Data → EventFault → Type 0
IsFaultOf d f = IsOfLine (line_kind d) d f
