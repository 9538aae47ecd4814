use Rattle.std.proofs.Common.{rules}
use Rattle.vap_schema.proofs.fit_fault.FitFaultKind.name.Goals as goal

pub returns-in-WrongKind : goal.returns-in-WrongKind
returns-in-WrongKind c = search rules
