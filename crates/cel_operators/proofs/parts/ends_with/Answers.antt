use Rattle.cel_operators.proofs.Spelled.{last, last_is}
use Rattle.cel_operators.proofs.parts.ends_with.Goals as goal

pub returns-clause-exact : goal.returns-clause-exact
returns-clause-exact c =
    last_is c.args.text.now c.args.suffix.now c.ends_with.result
    (last c.args.text.now c.args.suffix.now c.utf8.text c.utf8.suffix c.ends_with.result c.ends_with.ensures.cases)

pub returns-clause-last : goal.returns-clause-last
returns-clause-last c =
    last c.args.text.now c.args.suffix.now c.utf8.text c.utf8.suffix c.ends_with.result c.ends_with.ensures.cases
