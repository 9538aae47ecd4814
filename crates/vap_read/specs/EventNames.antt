-- The names that are printed.
use Rattle.std.specs.Prelude.{ℕ, List, codes}
use Rattle.vap_read.specs.PolicyNames.{policy_fault_name}
use Rattle.vap_read.specs.declared.event_fault.EventFault.{EventFault}
use Rattle.vap_read.specs.declared.event_fault.EventFault.TheVariants as event

-- the name of a fault of events
abbrev pub event_fault_name : EventFault → List ℕ
event_fault_name event.BadType = codes "BadType"
event_fault_name event.BadObject = codes "BadObject"
event_fault_name (event.OfPolicy f) = policy_fault_name f
