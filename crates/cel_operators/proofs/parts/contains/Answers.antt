use Rattle.cel_operators.proofs.Spelled.{inner, inner_is}
use Rattle.cel_operators.proofs.parts.contains.Goals as goal

pub returns-clause-exact : goal.returns-clause-exact
returns-clause-exact c =
    inner_is c.args.text.now c.args.part.now c.contains.result
    (inner c.args.text.now c.args.part.now c.utf8.text c.utf8.part c.contains.result c.contains.ensures.cases)

pub returns-clause-somewhere : goal.returns-clause-somewhere
returns-clause-somewhere c =
    inner c.args.text.now c.args.part.now c.utf8.text c.utf8.part c.contains.result c.contains.ensures.cases
