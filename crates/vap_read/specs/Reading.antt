-- Which event a line is.
use Rattle.std.specs.Prelude.{ℕ, if◌then◌else◌, codes, List, [], ◌∷◌, Option, Some, None, Result, Ok, Err}
use Rattle.serde_json.specs.Data as json
use Rattle.serde_json.specs.Data.{Data, Items}
use Rattle.base_containers.specs.Failures.{made}
use Rattle.vap_read.specs.PolicyReading.{read_policy}
use Rattle.vap_read.specs.declared.policy.Policy.{Policy}
use Rattle.vap_read.specs.declared.policy_fault.PolicyFault.{PolicyFault}
use Rattle.vap_read.specs.BindingReading.{read_binding}
use Rattle.vap_read.specs.declared.binding.Binding.{Binding}
use Rattle.vap_read.specs.Keys.{with_object}
use Rattle.vap_read.specs.Lines.{line_kind, action_in}
use Rattle.vap_read.specs.Objects.{is_object, is_policy, is_binding, key_of, member_in}
use Rattle.vap_read.specs.declared.key.Key.{Key}
use Rattle.vap_read.specs.declared.line.LineKind.{LineKind}
use Rattle.vap_read.specs.declared.line.LineKind.TheVariants as line
use Rattle.vap_read.specs.declared.line.Action.{Action}
use Rattle.vap_read.specs.declared.line.Action.TheVariants as action
use Rattle.vap_read.specs.declared.object.Content.{Content}
use Rattle.vap_read.specs.declared.object.Content.TheVariants as content
use Rattle.vap_read.specs.declared.object.Object.{Object}
use Rattle.vap_read.specs.declared.event.Event.{Event}
use Rattle.vap_read.specs.declared.event.Event.TheVariants.{Put, Removed, Passed, Replaced}
use Rattle.vap_read.specs.declared.event_fault.EventFault.{EventFault}
use Rattle.vap_read.specs.declared.event_fault.EventFault.TheVariants.{BadType, BadObject, OfPolicy}

-- what an object is read as
abbrev pub read_content : Data → Result Content PolicyFault
read_content d =
    if is_policy d then made content.Policy (read_policy d)
    else (if is_binding d then made content.Binding (read_binding d)
    else Ok content.Other)

-- the object that a document is, of this content
abbrev pub with_content : Data → Result Content PolicyFault → Result Object EventFault
with_content d (Ok c) = Ok (record { key = key_of d; content = c; document = d })
with_content d (Err f) = Err (OfPolicy f)

-- the object that a document is, or its least fault
abbrev pub read_object : Data → Result Object EventFault
read_object d = if is_object d then with_content d (read_content d) else Err BadObject

-- the key of the object that a document is
abbrev pub read_key : Data → Result Key EventFault
read_key d = if is_object d then Ok (key_of d) else Err BadObject

-- an object before others, or the first fault
abbrev pub before : Result Object EventFault → Result (List Object) EventFault → Result (List Object) EventFault
before (Ok o) (Ok os) = Ok (o ∷ os)
before (Ok o) (Err f) = Err f
before (Err f) os = Err f

-- the objects of items, or the fault of the first item that has one
abbrev pub read_items : Items → Result (List Object) EventFault
read_items json.no_items = Ok []
read_items (json.item d ds) = before (read_object d) (read_items ds)

-- objects put one by one: if two are under one key, the later stays
abbrev pub put_all : List (Key × Object) → List Object → List (Key × Object)
put_all entries [] = entries
put_all entries (o ∷ os) = put_all (with_object o entries) os

-- the objects of items by their keys
abbrev pub read_all : Items → Result (List (Key × Object)) EventFault
read_all ds = made (put_all []) (read_items ds)

-- what a watch event does with its object
abbrev pub read_watched : Option Action → Data → Result Event EventFault
read_watched (Some action.Put) d = made Put (read_object d)
read_watched (Some action.Remove) d = made Removed (read_key d)
read_watched (Some action.Pass) d = Ok Passed
read_watched None d = Err BadType

-- what the items of a List do, which are in an array
abbrev pub read_list : Data → Result Event EventFault
read_list (json.array ds) = made Replaced (read_all ds)
read_list _ = Err BadObject

-- the event that a line of this kind is
abbrev pub read_line : LineKind → Data → Result Event EventFault
read_line line.WatchEvent d = read_watched (action_in d) (member_in (codes "object") d)
read_line line.ObjectList d = read_list (member_in (codes "items") d)
read_line line.Review d = Err BadType
read_line line.Unknown d = Err BadType

-- the event that a line is, or the fault that is reported for it
abbrev pub read_event : Data → Result Event EventFault
read_event d = read_line (line_kind d) d
