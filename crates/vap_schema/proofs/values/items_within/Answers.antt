use Rattle.std.proofs.Common.{rules}
use Rattle.vap_schema.proofs.values.items_within.Goals as goal

pub returns-clause-same : goal.returns-clause-same
returns-clause-same c = search rules

pub returns-clause-limit : goal.returns-clause-limit
returns-clause-limit c = search rules
