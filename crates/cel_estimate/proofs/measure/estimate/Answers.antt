use Rattle.cel_estimate.proofs.Bounded.{bounded_outside}
use Rattle.cel_estimate.proofs.measure.estimate.Goals as goal

pub returns-clause-bounds : goal.returns-clause-bounds
returns-clause-bounds c = λ slots h. bounded_outside c.args.typed.now slots h

pub returns-then-estimate-gt-BUDGET-clause-bounds : goal.returns-then-estimate-gt-BUDGET-clause-bounds
returns-then-estimate-gt-BUDGET-clause-bounds c = λ slots h. bounded_outside c.args.typed.now slots h
