use Rattle.std.proofs.Common.{subst}
use Rattle.cel_code.specs.declared.image.Image.{Image}
use Rattle.cel_verify.specs.Accepted.{IsDeclared}
use Rattle.cel_verify.specs.Paths.{IsRouteCharge}
use Rattle.cel_verify.proofs.program.Program.cost_bound.Goals as goal

pub returns-clause-within : goal.returns-clause-within
returns-clause-within c = c.self.invariant.0.cheap c.self.inside.bounds.cost c.self.invariant.1.cost.attained

pub returns-clause-declared : goal.returns-clause-declared
returns-clause-declared c = λ most is.
    let cost = c.self.inside.bounds.cost in
    let declared = subst (λ (i : Image). IsDeclared i i.declared) c.self.view_is c.self.invariant.0.declared in
    let within = subst (IsDeclared c.args.self.now) is declared in
    (within.0 cost (subst (λ (i : Image). IsRouteCharge i cost) c.self.view_is c.self.invariant.1.cost.attained), within.1)
