-- The faults of events, and which of them is reported.
use Rattle.std.specs.Prelude.{◌≡◌, ◌<◌, ◌+◌, ℕ, Bool, true, false, not, if◌then◌else◌}
use Rattle.std.specs.Prelude.{Option, Some, None}
use Rattle.serde_json.specs.Data.{Data}
use Rattle.vap_read.specs.PolicyFaults as policies
use Rattle.vap_read.specs.PolicyForm as policy
use Rattle.vap_read.specs.BindingForm as binding
use Rattle.vap_read.specs.Objects.{is_object, is_policy, is_binding}
use Rattle.vap_read.specs.declared.line.Action.{Action}
use Rattle.vap_read.specs.declared.line.Action.TheVariants.{Put, Remove, Pass}
use Rattle.vap_read.specs.declared.event_fault.EventFault.{EventFault}
use Rattle.vap_read.specs.declared.event_fault.EventFault.TheVariants.{BadType, BadObject, OfPolicy}

-- the number of a fault; those of policies and bindings come after the others, by their own numbers
abbrev pub number_of : EventFault → ℕ
number_of BadType = 1
number_of BadObject = 2
number_of (OfPolicy f) = 2 + policies.number_of f

-- which faults an object that is put has
abbrev pub has_fault : Data → EventFault → Bool
has_fault d BadType = false
has_fault d BadObject = not (is_object d)
has_fault d (OfPolicy f) =
    if is_policy d then policy.has_fault d f
    else (if is_binding d then binding.has_fault d f
    else false)

-- which faults a watch event has: without a word it is none; a removal needs no more than a key, and what passes needs nothing
abbrev pub watch_fault : Option Action → Data → EventFault → Bool
watch_fault None d BadType = true
watch_fault None d _ = false
watch_fault (Some Put) d f = has_fault d f
watch_fault (Some Remove) d BadObject = not (is_object d)
watch_fault (Some Remove) d _ = false
watch_fault (Some Pass) d f = false

-- this fault is there, and none of a lesser number
abbrev pub IsLeast : (EventFault → Bool) → EventFault → Type 0
IsLeast has f = (has f ≡ true) × ((g : EventFault) → number_of g < number_of f → has g ≡ false)
