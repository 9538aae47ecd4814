-- The names of faults of lines, as they are printed.
use Rattle.std.specs.Prelude.{ℕ, List, codes}
use Rattle.vap_read.specs.EventNames.{event_fault_name}
use Rattle.vap_match.specs.ReviewNames.{review_fault_name}
use Rattle.vap_plane_gathering.specs.Faults.{plane_fault_name}
use Rattle.vap_cli_lines.specs.declared.fault.LineFault.{LineFault}
use Rattle.vap_cli_lines.specs.declared.fault.LineFault.TheVariants as fault

-- the name of a fault of a line; for a fault of an event, a review or workers it is that of the innermost fault
abbrev pub line_fault_name : LineFault → List ℕ
line_fault_name fault.TooLong = codes "TooLong"
line_fault_name fault.BadJson = codes "BadJson"
line_fault_name fault.UnknownLine = codes "UnknownLine"
line_fault_name (fault.OfEvent f) = event_fault_name f
line_fault_name (fault.OfReview f) = review_fault_name f
line_fault_name fault.LogFull = codes "LogFull"
line_fault_name fault.TooManyObjects = codes "TooManyObjects"
line_fault_name fault.AuditFull = codes "AuditFull"
line_fault_name fault.Unverified = codes "Unverified"
line_fault_name fault.Pattern = codes "Pattern"
line_fault_name fault.Stray = codes "Stray"
line_fault_name fault.NoPlace = codes "NoPlace"
line_fault_name (fault.OfWorkers f) = plane_fault_name f
