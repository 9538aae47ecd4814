use Rattle.cel_operators.proofs.Spelled.{first, first_is}
use Rattle.cel_operators.proofs.parts.starts_with.Goals as goal

pub returns-clause-exact : goal.returns-clause-exact
returns-clause-exact c =
    first_is c.args.text.now c.args.prefix.now c.starts_with.result
    (first c.args.text.now c.args.prefix.now c.utf8.text c.utf8.prefix c.starts_with.result c.starts_with.ensures.cases)

pub returns-clause-first : goal.returns-clause-first
returns-clause-first c =
    first c.args.text.now c.args.prefix.now c.utf8.text c.utf8.prefix c.starts_with.result c.starts_with.ensures.cases
