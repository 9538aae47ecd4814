use Rattle.std.proofs.Common.{subst, rules}
use Rattle.cel_value.specs.Instants.{IsInstant}
use Rattle.cel_value.proofs.Fields.{fields}
use Rattle.cel_value.proofs.instant.Timestamp.civil.Goals as goal

pub returns : goal.returns
returns c =
    fields c.from_nanosecond_in_range.result c.args.self (subst IsInstant c.self.view_is c.self.invariant)
    (search (rules, c.from_nanosecond_in_range.ensures, c.self.view_is))
